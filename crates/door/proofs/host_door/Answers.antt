use mathlib.Core.Path.{◌≡◌, ap, ◌∙◌}
use mathlib.Core.List.{List}
use Prim.Native.Nat.{ℕ, ◌/◌}
use native.Mathlib.Omega.{arith}
use lib.IntN.{pos}
use lib.ListN.{length, take, replicate}
use lib.Seq.{length-take-le, take_at, take_all}
use Rattle.rules.specs.Words.{bytes_words}
use Rattle.door.proofs.Bytes.{words_long}
use Rattle.door.proofs.Outcomes.{call_odd, call_refused, call_words}
use Rattle.door.proofs.host_door.Goals as goal

pub returns-then-problem-ne0 : goal.returns-then-problem-ne0
returns-then-problem-ne0 c = call_odd c.args.problem.now c.args.number c.args.allowance c.args.out.now c.if-problem-ne0.true

pub returns-then-count-gt-PROBLEM_WORDS : goal.returns-then-count-gt-PROBLEM_WORDS
returns-then-count-gt-PROBLEM_WORDS c =
    call_refused c.args.problem.now c.args.number c.args.allowance c.args.out.now c.if-problem-ne0.false c.long_refusal.ensures

pub returns : goal.returns
returns c =
    let b : List ℕ = c.args.problem.now in
    let n : ℕ = length b / 4 in
    let l : length (take n (replicate 579 (pos 0))) ≡ n = length-take-le _ _ (omega arith) in
    let w : c.read_words.new.words ≡ bytes_words b = c.read_words.ensures ∙ ap (λ (i : ℕ). take i (bytes_words b)) l ∙ take_all n (bytes_words b) (omega (arith, (words_long b).0)) in
    call_words b c.args.number c.args.allowance c.args.out.now c.if-problem-ne0.false (take_at _ _ _ (c.read_words.auto.words ∙ l) ∙ w) c.answer.ensures

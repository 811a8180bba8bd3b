use mathlib.Core.Path.{◌≡◌, sym, ap, ◌∙◌}
use mathlib.Core.List.{List}
use native.Mathlib.Omega.{arith}
use lib.Dec.{leb}
use lib.Signed.{non_neg}
use Prim.Native.Nat.{ℕ, ◌/◌}
use lib.IntN.{ℤ, pos}
use lib.ListN.{length}
use Rattle.rules.specs.Words.{word, bytes_words}
use Rattle.door.proofs.Bytes.{words_long, word_at}
use Rattle.door.proofs.Cutting.{cut_start, cut_past, cut_negative, cut_short, cut_turn, cut_stop}
use Rattle.door.proofs.is_whole.Goals.{After-take_word, After-link_at-k}
use Rattle.door.proofs.is_whole.Goals as goal

-- the word read is the option's count
word_is : (q : After-take_word) → word q.take_word.new.t 0 ≡ word (bytes_words q.args.bytes.now) q.loop.at
word_is q = ap (λ (l : List ℤ). word l 0) q.take_word.ensures ∙ sym (word_at q.args.bytes.now q.loop.at (omega arith))

count_is : (q : After-link_at-k)
    → word (bytes_words q.args.bytes.now) q.loop.at ≡ pos q.link_at-k.result
count_is q =
    sym (ap (λ (l : List ℤ). word l 0) q.take_word.ensures ∙ sym (word_at q.args.bytes.now q.loop.at (omega arith)))
    ∙ q.link_at-k.ensures.word_is

pub loop-init : goal.loop-init
loop-init c = cut_start (bytes_words c.args.bytes.now) c.args.m
    (omega (arith, (words_long c.args.bytes.now).1, c.requires))

pub returns-then-words-at : goal.returns-then-words-at
returns-then-words-at c = cut_past c.loop.invariant (omega arith)
    (omega (arith, (words_long c.args.bytes.now).0, (words_long c.args.bytes.now).1))

pub returns-then-not-is_natural : goal.returns-then-not-is_natural
returns-then-not-is_natural c =
    cut_negative c.loop.invariant (omega arith) (omega (arith, (words_long c.args.bytes.now).1))
    (ap non_neg (sym (word_is (goal.at.returns-then-not-is_natural c).After-take_word)) ∙ sym c.is_natural.ensures
    ∙ c.if-not-is_natural.true)

pub returns-then-words-at-2 : goal.returns-then-words-at-2
returns-then-words-at-2 c =
    cut_short c.loop.invariant (omega arith) (omega (arith, (words_long c.args.bytes.now).1)) c.link_at-k.result
    (count_is (goal.at.returns-then-words-at-2 c).After-link_at-k)
    (omega (arith, (words_long c.args.bytes.now).0, (words_long c.args.bytes.now).1))

pub loop-preserved : goal.loop-preserved
loop-preserved c =
    cut_turn c.loop.invariant (omega arith) (omega (arith, (words_long c.args.bytes.now).1)) c.link_at-k.result
    (count_is (goal.at.loop-preserved c).After-link_at-k) (omega
    (arith, (words_long c.args.bytes.now).0, (words_long c.args.bytes.now).1))

pub returns : goal.returns
returns c = ap (λ (i : ℕ). leb i c.loop.at) (let e : length c.args.bytes.now / 4 ≡ length
    (bytes_words c.args.bytes.now) = omega (
      arith,
      (words_long c.args.bytes.now).0,
      (words_long c.args.bytes.now).1,
    ) in e) ∙ cut_stop c.loop.invariant (omega arith)

-- The refusals 1 to 9 in their order, one by one. Assumes nothing.
use native.Mathlib.Nat.{min-le_right}
use native.Mathlib.Omega.{arith}
use mathlib.Core.Path.{◌≡◌, sym, ap, ◌∙◌}
use mathlib.Core.Bool.{Bool, true, false}
use mathlib.Core.List.{List}
use Prim.Native.Nat.{ℕ, zero, suc, ◌+◌, ◌≤◌}
use Rattle.std.specs.Prelude.{Result, Ok, Err, ⊤}
use lib.IntN.{ℤ}
use Rattle.rules.specs.declared.Limits.{Limits}
use Rattle.rules.specs.declared.Sizes.{Sizes}
use Rattle.rules.specs.Problem.{cut, sizes, fault, need, first_of, judged, cut_refusal, verdict, problem_refusal}
use Rattle.problem.specs.Marks.{refused}
use Rattle.problem.specs.Room.{served}
use Rattle.problem.specs.Measured.{measured, within, sized_refusal, judged_sized, judged_refused}
use Rattle.laws.specs.Lists.{cannot}

judged_first : (k later : ℕ) (s : Sizes) {j : ℕ} → Err j ≡ judged k s → Err j ≡ judged (first_of k later) s
judged_first zero later s e = cannot (cc)
judged_first (suc k) later s e = e

refused_judged : (k : ℕ) (s : Sizes) {j : ℕ} → Err j ≡ refused k → Err j ≡ judged k s
refused_judged zero s e = cannot (cc)
refused_judged (suc k) s e = ap Err (sym (judged_refused (suc k) _ e).0)

module _ (L : Limits) (least : ℕ) (fits : Sizes → Bool) (ws : List ℤ) where
  abbrev pub answer : Result Sizes ℕ
  answer = judged (problem_refusal L least fits ws) (sizes (cut ws))

  -- refused before 9
  pub at_words : {k : ℕ} → Err k ≡ verdict L least ws → Err k ≡ answer
  unfolding verdict problem_refusal
  at_words e = judged_first (cut_refusal L least ws) _ (sizes (cut ws)) e

  module _ (s : Sizes) (e : Ok s ≡ verdict L least ws) where
    rest : answer ≡ judged (need (fits s) 9 (fault (cut ws))) (sizes (cut ws))
    rest = ap (λ (i : ℕ). judged i (sizes (cut ws))) (sized_refusal L least ws s e fits)

    pub at_room : fits s ≡ false → Err 9 ≡ answer
    at_room r = sym (rest ∙ ap (λ (b : Bool). judged (need b 9 (fault (cut ws))) (sizes (cut ws))) r)

    module _ (r : fits s ≡ true) where
      entries : answer ≡ judged (fault (cut ws)) (sizes (cut ws))
      entries = rest ∙ ap (λ (b : Bool). judged (need b 9 (fault (cut ws))) (sizes (cut ws))) r

      pub at_fault : {k : ℕ} → Err k ≡ refused (fault (cut ws)) → Err k ≡ answer
      at_fault u = refused_judged (fault (cut ws)) (sizes (cut ws)) u ∙ sym entries

      pub at_end : {x : ⊤} → Ok x ≡ refused (fault (cut ws)) → Ok s ≡ answer
      at_end u = ap Ok (measured L least ws s e).are ∙ sym (entries
          ∙ ap (λ (i : ℕ). judged i (sizes (cut ws))) (judged_sized _ u).0)

-- each item has a mark
pub marks_reach : (L : Limits) (least marks : ℕ) (ws : List ℤ) (s : Sizes)
    → Ok s ≡ verdict (served L marks) least ws → s.np + s.ns ≤ marks
marks_reach L least marks ws s e =
    omega (arith, (within (served L marks) least ws s e).few_items, min-le_right L.items marks)

pub ruleset room_laws = (at_words, at_room, at_fault, at_end, measured, marks_reach)

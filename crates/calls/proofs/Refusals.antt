-- The refusals of a call on a search, in their order. Assumes nothing.
use mathlib.Core.Path.{◌≡◌, refl, sym, ap}
use mathlib.Core.Logic.{◌≢◌}
use mathlib.Core.Bool.{Bool, true, false, not, ◌&&◌, ◌||◌, cond}
use Rattle.std.specs.Prelude.{Option, None, Some}
use mathlib.Core.List.{List, [], ◌∷◌}
use Prim.Native.Nat.{ℕ, zero, suc, ◌+◌, ◌≤◌, ◌<◌}
use native.Mathlib.Omega.{arith}
use borrow.Author.Tests.{ne_eqb}
use lib.Dec.{T, leb}
use lib.IntN.{ℤ, pos}
use lib.Signed.{le_z, non_neg}
use lib.ListN.{length}
use Rattle.rules.specs.declared.Limits.{Limits}
use Rattle.rules.specs.declared.Sizes.{Sizes}
use Rattle.rules.specs.Lists.{has, got, or_none, over}
use Rattle.rules.specs.Words.{word, nat, below, same}
use Rattle.rules.specs.Problem.{Problem, Pair, Cut, need, first_of, parts, count_pairs, cut, sizes, cut_refusal, entry_fault, option_fault, options_fault, fault, problem_refusal}
use Rattle.rules.specs.Links.{fresh}
use Rattle.rules.specs.Walk.{Level}
use Rattle.rules.specs.Calls.{search_refusal}
use Rattle.laws.specs.Faults.{need_holds, first_none}
use Rattle.problem.specs.Measured.{first_some}
use Rattle.calls.specs.Tested.{spare_by}

-- ---- a refusal of the problem is 9 at most

need_most : (b : Bool) (k m later : ℕ) → k ≤ m → later ≤ m → need b k later ≤ m
need_most true k m later h g = g
need_most false k m later h g = h

first_most : (k m later : ℕ) → k ≤ m → later ≤ m → first_of k later ≤ m
first_most zero m later h g = g
first_most (suc k) m later h g = h

cut_most : (L : Limits) (least : ℕ) (ws : List ℤ) → cut_refusal L least ws ≤ 9
unfolding cut_refusal
cut_most L least ws =
    need_most (leb 3 (length ws)) 4 9 _ (omega arith)
    (need_most (le_z (pos 1) (word ws 0)) 1 9 _ (omega arith)
    (need_most (le_z (pos least) (word ws 2)) 2 9 _ (omega arith)
    (need_most (non_neg (word ws 1)) 4 9 _ (omega arith)
    (need_most (leb (nat (word ws 0) + nat (word ws 1)) L.items && leb (nat (word ws 2)) L.options) 3 9 _ (omega arith)
    (need_most (got (parts ws)) 4 9 _ (omega arith)
    (need_most (leb (count_pairs (or_none (parts ws))) L.entries) 3 9 0 (omega arith) (omega arith)))))))

module _ (np n : ℕ) where
  entry_most : (seen : List ℤ) (e : Pair) → entry_fault np n seen e ≤ 9
  unfolding entry_fault
  entry_most seen e =
      need_most (below n e.item) 5 9 _ (omega arith)
      (need_most (not (has (same e.item) seen)) 6 9 _ (omega arith)
      (need_most (not (below np e.item) || same e.colour (pos 0)) 7 9 _ (omega arith)
      (need_most (non_neg e.colour) 8 9 0 (omega arith) (omega arith))))

  option_most : (seen : List ℤ) (es : List Pair) → option_fault np n seen es ≤ 9
  unfolding option_fault
  option_most seen [] = omega arith
  option_most seen (e ∷ es) = first_most (entry_fault np n seen e) 9 (option_fault np n (e.item ∷ seen) es) (entry_most seen e) (option_most (e.item ∷ seen) es)

  options_most : (os : List (List Pair)) → options_fault np n os ≤ 9
  unfolding options_fault
  options_most [] = omega arith
  options_most (o ∷ os) = first_most (option_fault np n [] o) 9 (options_fault np n os) (option_most [] o) (options_most os)

problem_most : (L : Limits) (least : ℕ) (room : Sizes → Bool) (ws : List ℤ) → problem_refusal L least room ws ≤ 9
unfolding problem_refusal fault
problem_most L least room ws =
    let C : Cut = cut ws in
    first_most (cut_refusal L least ws) 9 _ (cut_most L least ws)
    (need_most (room (sizes C)) 9 9 _ (omega arith) (options_most C.np (C.np + C.ns) C.options))

-- ---- the chain

module _ (L : Limits) (room : Sizes → Bool) (ws : List ℤ) (fit : Bool) (at : Option (List Level)) where
  pub at_problem : (k : ℕ) → problem_refusal L 1 room ws ≡ k → 0 < k → (search_refusal L room ws fit at ≡ k) × (k ≤ 9)
  unfolding search_refusal
  at_problem k e h = (rw e (first_some k _ h), omega (arith, problem_most L 1 room ws))

  module _ (e : problem_refusal L 1 room ws ≡ 0) where
    module _ (f : fit ≡ true) where
      pub at_point : got at ≡ false → search_refusal L room ws fit at ≡ 10
      unfolding search_refusal
      at_point g = rw (e, f, g)

got_some : (o : Option (List Level)) → T (got o) → (s : List Level) × (o ≡ Some s)
got_some None t = absurd t
got_some (Some s) t = (s, refl)

-- what is known where there is no refusal
pub no_refusal : (L : Limits) (room : Sizes → Bool) (ws : List ℤ) (fit : Bool) (at : Option (List Level)) → search_refusal L room ws fit at ≡ 0
    → (problem_refusal L 1 room ws ≡ 0) × T fit × (s : List Level) × (at ≡ Some s)
unfolding search_refusal
no_refusal L room ws fit at e =
    let (a, e₁) = first_none (problem_refusal L 1 room ws) _ e in
    let (b, e₂) = need_holds fit 10 _ e₁ in
    let (c, e₃) = need_holds (got at) 9 0 e₂ in
    let (s, u) = got_some at c in
    (a, b, s, u)

-- ---- the spare

pub spare_kept : (k : ℕ) (P : Problem) (spare : List ℤ) → 0 < k → k ≢ 10 → spare ≡ spare_by k P spare
spare_kept zero P spare h g = absurd (omega arith)
spare_kept (suc k) P spare h g = sym (ap (λ (b : Bool). cond b (over (fresh P) spare) spare) (ne_eqb (suc k) 10 g))

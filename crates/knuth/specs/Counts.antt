-- Capped counts: they stay within the cap, and grow alike in one step or in two.
use Rattle.std.specs.Prelude.{◌≡◌, Bool, T, eqb, leb, length}
use Rattle.std.proofs.Math.Path.{refl, ap}
use mathlib.Core.List.{List, [], ◌∷◌, ◌++◌}
use Prim.Native.Nat.{ℕ, suc, ◌+◌}
use Rattle.std.proofs.Common.{arith, leb→le, le→leb}
use Rattle.rules.specs.Lists.{each, tally}
use Rattle.rules.specs.Calls.{cap, capped, profile_from}
use Rattle.laws.specs.Lists.{and_left, and_right, and_both}
use Rattle.knuth.specs.Lists.{tally_append}

abbrev pub within : ℕ → Bool
within c = leb c cap

pub capped_within : (a b : ℕ) → T (within (capped a b))
capped_within a b = le→leb (capped a b) cap (omega arith)

pub capped_twice : (u a b : ℕ) → capped (capped u a) b ≡ capped u (a + b)
capped_twice u a b = omega arith

pub capped_none : (u : ℕ) → T (within u) → capped u 0 ≡ u
capped_none u t = omega (arith, leb→le u cap t)

module _ (v : List ℕ) where
  pub profile_length : (k : ℕ) (cs : List ℕ) → length (profile_from k v cs) ≡ length cs
  unfolding profile_from
  profile_length k [] = refl
  profile_length k (c ∷ cs) = ap suc (profile_length (suc k) cs)

  pub profile_within : (k : ℕ) (cs : List ℕ) → T (each within (profile_from k v cs))
  unfolding profile_from each
  profile_within k [] = tt
  profile_within k (c ∷ cs) =
      let n : ℕ = capped c (tally (eqb k) v) in
      and_both (within n) (each within (profile_from (suc k) v cs)) (capped_within c (tally (eqb k) v)) (profile_within (suc k) cs)

  pub profile_twice : (w : List ℕ) (k : ℕ) (cs : List ℕ) → profile_from k w (profile_from k v cs) ≡ profile_from k (v ++ w) cs
  unfolding profile_from
  profile_twice w k [] = refl
  profile_twice w k (c ∷ cs) = rw (profile_twice w (suc k) cs, tally_append (eqb k) v w, capped_twice c (tally (eqb k) v) (tally (eqb k) w))

pub profile_none : (k : ℕ) (cs : List ℕ) → T (each within cs) → profile_from k [] cs ≡ cs
unfolding profile_from each tally
profile_none k [] t = refl
profile_none k (c ∷ cs) t =
    rw (capped_none c (and_left (within c) (each within cs) t), profile_none (suc k) cs (and_right (within c) (each within cs) t))

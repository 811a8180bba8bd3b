-- The rings of items: a row from 0 to n + 1, cut after the last primary item.
use mathlib.Core.Path.{◌≡◌, refl, sym, ap, ◌∙◌}
use mathlib.Core.Logic.{◌≢◌}
use mathlib.Core.List.{List}
use Prim.Native.Nat.{ℕ, zero, suc, ◌+◌, ◌*◌, ◌-◌, ◌/◌, ◌%◌, ◌≤◌, ◌<◌}
use native.Mathlib.Omega.{arith}
use native.Mathlib.Decide.{ℕ_discrete}
use borrow.Author.Tests.{eq-eqb, ne_eqb}
use lib.IntN.{ℤ, pos}
use lib.ListN.{length, set, length-set}
use lib.Seq.{get_or-set_same, get_or-set_other}
use Rattle.rules.specs.Words.{word}
use Rattle.rules.specs.Problem.{Problem}
use Rattle.rules.specs.Order.{place, placed}
use Rattle.rules.specs.Links.{left, right, top, left_of, right_of, fresh}
use Rattle.tables.specs.Fresh.{fresh_length, fresh_pair}
use Rattle.tables.specs.Nodes.{span, nodes}
use Rattle.init.specs.SetUp.{Alike, bare}

pub length_bare : (np ns : ℕ) → length (fresh (bare np ns)) ≡ top (np + ns) (np + ns + 2)
unfolding nodes placed place span
length_bare np ns = fresh_length (bare np ns) ∙ omega arith

-- ---- the row

-- the words from 0 to i are linked in a row
abbrev pub Row : List ℤ → ℕ → Type 0
Row t i = (j : ℕ) → j < i → (word t (right j) ≡ pos (j + 1)) × (word t (left (j + 1)) ≡ pos j)

-- ---- the rings

module _ (np ns : ℕ) (t : List ℤ) (l : 2 * (np + ns + 2) ≤ length t) (R : Row t (np + ns + 1)) where
  abbrev n : ℕ
  n = np + ns

  abbrev P : Problem
  P = bare np ns

  t1 : List ℤ
  t1 = set t (left (np + 1)) (pos (n + 1))

  t2 : List ℤ
  t2 = set t1 (right (n + 1)) (pos (np + 1))

  t3 : List ℤ
  t3 = set t2 (left 0) (pos np)

  t4 : List ℤ
  t4 = set t3 (right np) (pos 0)

  sizes : (length t1 ≡ length t) × (length t2 ≡ length t) × (length t3 ≡ length t) × (length t4 ≡ length t)
  unfolding t1 t2 t3 t4
  sizes = (simp length-set, simp length-set, simp length-set, simp length-set)

  left_is : (i : ℕ) → i < n + 2 → word t4 (left i) ≡ pos (left_of P i)
  unfolding t1 t2 t3 t4 left_of
  left_is i h = get_or-set_other t3 (right np) (left i) (pos 0) (pos 0) (omega arith) ∙ go (ℕ_discrete i 0) (ℕ_discrete i (np + 1))
    where
      row : (i : ℕ) → i < n + 2 → i ≢ 0 → word t (left i) ≡ pos (i - 1)
      row zero h z = absurd (z refl)
      row (suc j) h z = ap (λ (k : ℕ). word t (left k)) (omega arith) ∙ (R j (omega arith)).1 ∙ ap pos (omega arith)

      go : Dec (i ≡ 0) → Dec (i ≡ np + 1) → word t3 (left i) ≡ pos (left_of P i)
      go (yes z) b = rw (z, left_of) (get_or-set_same t2 (left 0) (pos np) (pos 0) (omega (arith, sizes.1)))
      go (no z) b = get_or-set_other t2 (left 0) (left i) (pos np) (pos 0) (λ w. z (omega arith)) ∙ get_or-set_other t1 (right (n + 1)) (left i) (pos (np + 1)) (pos 0) (omega arith) ∙ later b
        where
          later : Dec (i ≡ np + 1) → word t1 (left i) ≡ pos (left_of P i)
          later (yes w) = rw (ne_eqb i 0 z, eq-eqb i (np + 1) w, left_of, w) (get_or-set_same t (left (np + 1)) (pos (n + 1)) (pos 0) (omega arith))
          later (no w) = rw (ne_eqb i 0 z, ne_eqb i (np + 1) w, left_of) (get_or-set_other t (left (np + 1)) (left i) (pos (n + 1)) (pos 0) (λ v. w (omega arith)) ∙ row i h z)

  right_is : (i : ℕ) → i < n + 2 → word t4 (right i) ≡ pos (right_of P i)
  unfolding t1 t2 t3 t4 right_of
  right_is i h = go (ℕ_discrete i np) (ℕ_discrete i (n + 1))
    where
      go : Dec (i ≡ np) → Dec (i ≡ n + 1) → word t4 (right i) ≡ pos (right_of P i)
      go (yes z) b = rw (eq-eqb i np z, right_of, z) (get_or-set_same t3 (right np) (pos 0) (pos 0) (omega (arith, sizes.2)))
      go (no z) b = get_or-set_other t3 (right np) (right i) (pos 0) (pos 0) (λ w. z (omega arith)) ∙ get_or-set_other t2 (left 0) (right i) (pos np) (pos 0) (omega arith) ∙ later b
        where
          later : Dec (i ≡ n + 1) → word t2 (right i) ≡ pos (right_of P i)
          later (yes w) = rw (ne_eqb i np z, eq-eqb i (n + 1) w, right_of, w) (get_or-set_same t1 (right (n + 1)) (pos (np + 1)) (pos 0) (omega (arith, sizes.0)))
          later (no w) =
              rw (ne_eqb i np z, ne_eqb i (n + 1) w, right_of)
              (get_or-set_other t1 (right (n + 1)) (right i) (pos (np + 1)) (pos 0) (λ v. w (omega arith))
              ∙ get_or-set_other t (left (np + 1)) (right i) (pos (n + 1)) (pos 0) (omega arith) ∙ (R i (omega arith)).0)

  -- the row's parts are closed to rings
  closed : Alike (2 * (n + 2)) t4 (fresh P)
  closed = record {
    long = omega (arith, sizes.3);
    long' = omega (arith, length_bare np ns);
    same = λ k h. go k h (k / 2) (k % 2) (omega arith) (omega arith);
  }
    where
      go : (k : ℕ) → k < 2 * (n + 2) → (i r : ℕ) → k ≡ 2 * i + r → r < 2 → word t4 k ≡ word (fresh P) k
      go k h i zero u b = rw u (ap (λ (j : ℕ). word t4 j) (omega arith) ∙ left_is i (omega arith) ∙ sym (fresh_pair P i 0 (omega arith) (omega arith)))
      go k h i (suc zero) u b = rw u (right_is i (omega arith) ∙ sym (fresh_pair P i 1 (omega arith) (omega arith)))
      go k h i (suc (suc r)) u b = absurd (omega arith)

  pub rings_made : {u1 u2 u3 u4 : List ℤ} → u1 ≡ set t (left (np + 1)) (pos (n + 1)) → u2 ≡ set u1 (right (n + 1)) (pos (np + 1)) → u3 ≡ set u2 (left 0) (pos np) → u4 ≡ set u3 (right np) (pos 0)
      → Alike (2 * (n + 2)) u4 (fresh P)
  unfolding t1 t2 t3 t4
  rings_made {u4 = u4} e1 e2 e3 e4 = let e : u4 ≡ t4 = cc in rw e closed

-- The fault of one entry, test by test, and the marks that tell a repeat.
use mathlib.Core.Bool.{Bool, true, false, not, ◌||◌}
use mathlib.Core.List.{List, [], ◌∷◌}
use mathlib.Core.Logic.{◌≢◌}
use mathlib.Core.Path.{◌≡◌, refl, sym, ap, ◌∙◌}
use Prim.Native.Nat.{ℕ, suc, ◌+◌, ◌≤◌, ◌<◌}
use native.Mathlib.Omega.{arith}
use borrow.Author.Tests.{eq-eqb, ne_eqb, eqb-true, eqb-false}
use lib.Dec.{eqb, ltb}
use lib.IntN.{ℤ, pos}
use lib.ListN.{length, get_or, set}
use lib.Seq.{get_or-set_same, get_or-set_other}
use Rattle.std.specs.Prelude.{Result, Err, ⊤}
use Rattle.std.specs.Result.{result_and}
use Rattle.rules.specs.Lists.{has}
use Rattle.rules.specs.Problem.{need, entry_fault}
use Rattle.rules.specs.Words.{word, below, same}
use Rattle.problem.specs.CutLaws.{pair_at}
use Rattle.problem.specs.Marks.{Marked, Older, colour_fault, refused}

has_none : (z : ℤ) → has (same z) [] ≡ false
unfolding has
has_none z = refl

has_cons : (z i : ℤ) (seen : List ℤ) → has (same z) (i ∷ seen) ≡ (same z i || has (same z) seen)
unfolding has
has_cons z i seen = refl

pub marked_none : {marks : List ℕ} {n stamp : ℕ} → Older marks n stamp → Marked marks n stamp []
marked_none {marks} {n} {stamp} O =
    record { are = λ x h. ne_eqb (get_or marks x 0) stamp (λ e. let l = O.are x h in omega arith) ∙ sym (has_none (pos x)) }

pub older_later : {marks : List ℕ} {n stamp : ℕ} (s : ℕ) → stamp ≤ s → Older marks n stamp → Older marks n s
older_later s h O = record { are = λ x l. let u = O.are x l in omega arith }

module _ (marks : List ℕ) (i v : ℕ) (h : i < length marks) where
  -- a mark of v at i
  pub older_set : (n stamp : ℕ) → v < stamp → ((x : ℕ) → x < n → x ≢ i → get_or marks x 0 < stamp) → Older (set marks i v) n stamp
  older_set n stamp u O = record { are = λ x l. by x l (eqb x i) refl }
    where
      by : (x : ℕ) → x < n → (b : Bool) → eqb x i ≡ b → get_or (set marks i v) x 0 < stamp
      by x l true e =
          let w = ap (λ (k : ℕ). get_or (set marks i v) k 0) (eqb-true x i e) ∙ get_or-set_same marks i v 0 h in
          omega arith
      by x l false e =
          let w = get_or-set_other marks i x v 0 (eqb-false x i e) in
          let o = O x l (eqb-false x i e) in
          omega arith

  pub marked_set : {n : ℕ} {seen : List ℤ} → Marked marks n v seen → Marked (set marks i v) n v (pos i ∷ seen)
  marked_set {n} {seen} M = record { are = λ x l. by x l (eqb x i) refl ∙ sym (has_cons (pos x) (pos i) seen) }
    where
      by : (x : ℕ) → x < n → (b : Bool) → eqb x i ≡ b → eqb (get_or (set marks i v) x 0) v ≡ (eqb x i || has (same (pos x)) seen)
      by x l true e =
          ap (λ (k : ℕ). eqb (get_or (set marks i v) k 0) v) (eqb-true x i e) ∙ ap (λ (k : ℕ). eqb k v) (get_or-set_same marks i v 0 h)
          ∙ eq-eqb v v refl ∙ sym (ap (λ (b : Bool). b || has (same (pos x)) seen) e)
      by x l false e =
          ap (λ (k : ℕ). eqb k v) (get_or-set_other marks i x v 0 (eqb-false x i e)) ∙ M.are x l
          ∙ sym (ap (λ (b : Bool). b || has (same (pos x)) seen) e)

-- ---- the fault of one entry

row : (b : Bool) (k later : ℕ) → result_and (refused (need b (suc k) 0)) (refused later) ≡ refused
    (need b (suc k) later)
row true k later = refl
row false k later = refl

module _ (ws : List ℤ) (p np n : ℕ) (seen : List ℤ) where
  pub out_of_range : below n (word ws p) ≡ false → Err 5 ≡ refused (entry_fault np n seen (pair_at ws p))
  unfolding entry_fault
  out_of_range e = rw e

  -- f is 6 where the mark tells that the item was seen, and g is the fault of the colour
  pub in_range : (x : ℕ) {b : Bool} {f g r : Result ⊤ ℕ} → word ws p ≡ pos x → ltb x n ≡ true
      → b ≡ has (same (pos x)) seen → f ≡ refused (need (not b) 6 0)
      → g ≡ refused (colour_fault (ltb x np) (word ws (p + 1))) → r ≡ result_and f g
      → r ≡ refused (entry_fault np n seen (pair_at ws p))
  unfolding entry_fault
  in_range x i l m u v w =
      rw (w, u, v, m, i, l) (row (not (has (same (pos x)) seen)) 5 (colour_fault (ltb x np) (word ws (p + 1))))

pub ruleset entry_laws = (out_of_range, in_range)

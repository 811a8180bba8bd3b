-- Words read and written: from what an accessor ensures to what a table says.
use mathlib.Core.Path.{◌≡◌, sym, ap, ◌∙◌, subst}
use mathlib.Core.Bool.{Bool, true, false}
use mathlib.Core.List.{List}
use Prim.Native.Nat.{ℕ, suc, ◌<◌}
use native.Mathlib.Omega.{arith}
use lib.IntN.{ℤ, pos}
use lib.ListN.{length, set}
use Rattle.rules.specs.Words.{word, nat}
use Rattle.rules.specs.Problem.{Entry, Problem, items}
use Rattle.rules.specs.Links.{link, top, up, down, colour_at, left, right, Event, unlink, remove, join, fall, apply}
use Rattle.words.specs.Read.{Link, CanRise}
use Rattle.tables.specs.Nodes.{nodes}
use Rattle.tables.specs.Undo.{undo, rise, relink, join_length, join_else}
use Rattle.links.specs.Moves.{Done}
use Rattle.links.specs.Steps.{HasLink, Stands, Between, Ringed, Says}

-- ---- reading the word at a, which is the place b

module _ (t : List ℤ) {a b k : ℕ} (e : a ≡ b) (w : word t b ≡ pos k) where
  word_at : word t a ≡ pos k
  word_at = ap (λ (j : ℕ). word t j) e ∙ w

  pub has_link : b < length t → HasLink t a
  has_link h = (omega arith, rw word_at tt)

  pub read : {r : ℕ} → Link t a r → r ≡ k
  read L = L.is ∙ ap nat word_at

pub clash : {b : Bool} → b ≡ true → b ≡ false → ⊥
clash e f = let z : ◌≡◌ {A = ℕ} 0 1 = cc in omega arith

-- ---- a node's neighbours are joined, to each other or to the node, and then the length of its list changes

module _ {P : Problem} {n : ℕ} {t : List ℤ} {i q u d : ℕ} (B : Between P n t i q u d) where
  module _ {x' u' d' : ℕ} (S : Stands n t q x' u' d') where
    x_is : x' ≡ suc i
    x_is = read t (omega (arith, B.n_is)) B.top_is S.top_is

    u_is : u' ≡ u
    u_is = read t (omega (arith, B.n_is)) B.up_is S.up_is

    d_is : d' ≡ d
    d_is = read t (omega (arith, B.n_is)) B.down_is S.down_is

    module _ (y z : ℕ) {t₁ t₂ : List ℤ} (f : t₁ ≡ set t (down n u') (pos y)) (g : t₂ ≡ set t₁ (up n d') (pos z)) where
      joined : t₂ ≡ join t (down (items P) u) (pos y) (up (items P) d) (pos z)
      joined = rw (g, f, u_is, d_is, B.n_is)

      count_inside : top n x' < length t₂
      unfolding nodes
      count_inside = omega (arith, x_is, ap length joined, join_length t (down (items P) u) (up (items P) d) (pos y) (pos z), B.n_is, B.size, B.item)

      count_kept : {k : ℕ} → word t (top (items P) (suc i)) ≡ pos k → word t₂ (top n x') ≡ pos k
      count_kept w =
          word_at t₂ (omega (arith, x_is, B.n_is))
          (ap (λ (l : List ℤ). word l (top (items P) (suc i))) joined
          ∙ join_else t (down (items P) u) (up (items P) d) (pos y) (pos z) (top (items P) (suc i)) (omega arith) (omega arith) ∙ w)

      pub can_raise : {k : ℕ} → word t (top (items P) (suc i)) ≡ pos k → k < 2147483647 → (top n x' < length t₂) × CanRise t₂ (top n x')
      can_raise {k} w h =
          let e = count_kept w in
          let l : link t₂ (top n x') ≡ k = ap nat e in
          (count_inside, (rw e tt, omega arith))

    module _ {t₁ t₂ t₃ : List ℤ} where
      pub unlink_done : t₁ ≡ set t (down n u') (pos d') → t₂ ≡ set t₁ (up n d') (pos u') → t₃ ≡ fall t₂ (top n x') → t₃ ≡ apply n t (unlink q)
      unfolding apply
      unlink_done f g e = rw (e, g, f, S.top_is.is, S.up_is.is, S.down_is.is)

      pub relink_done : t₁ ≡ set t (down n u') (pos q) → t₂ ≡ set t₁ (up n d') (pos q) → t₃ ≡ rise t₂ (top n x') → t₃ ≡ undo n t (unlink q)
      unfolding undo relink
      relink_done f g e = rw (e, g, f, S.top_is.is, S.up_is.is, S.down_is.is)

-- ---- an item's neighbours are joined, to each other or to the item

module _ {P : Problem} {t : List ℤ} {j i l r : ℕ} (R : Ringed P t j i l r) where
  pub item_small : i < 2147483648
  unfolding nodes
  item_small = omega (arith, R.is, R.item, R.small)

  module _ {l' r' : ℕ} (L : Link t (left i) l') (Q : Link t (right i) r') where
    -- whatever the caller calls the item
    module _ (n k : ℕ) (e : i ≡ suc k) {t₁ t₂ : List ℤ} where
      pub remove_done : t₁ ≡ set t (right l') (pos r') → t₂ ≡ set t₁ (left r') (pos l') → t₂ ≡ apply n t (remove k)
      unfolding apply
      remove_done f g = rw (g, f, L.is, Q.is, e)

      pub restore_done : t₁ ≡ set t (right l') (pos i) → t₂ ≡ set t₁ (left r') (pos i) → t₂ ≡ undo n t (remove k)
      unfolding undo
      restore_done f g = rw (g, f, L.is, Q.is, e)

-- ---- a node's entry is read

module _ {P : Problem} {n : ℕ} {t : List ℤ} {e : Entry} {p : ℕ} (n_is : n ≡ items P) (Y : Says P t e p) where
  pub read_colour : {c : ℕ} → Link t (colour_at n p) c → c ≡ e.colour
  read_colour = read t (omega arith) Y.colour_is

  pub read_header : {i : ℕ} → Link t (top n p) i → i ≡ suc e.item
  read_header = read t (omega arith) Y.top_is

-- ---- the caller's number of items

pub done_at : {n m : ℕ} {t : List ℤ} {es : List Event} {t' : List ℤ} {r : ℕ} → n ≡ m → Done m t es t' r → Done n t es t' r
done_at {t = t} {es} {t'} {r} e D = subst (λ (k : ℕ). Done k t es t' r) (sym e) D

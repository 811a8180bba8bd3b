-- A walk through a ring: what stands before and after the place reached. Said of any list of things with a number each, and so once for the nodes
-- of an option, for an item's list and for a ring of items.
use mathlib.Core.Path.{◌≡◌, refl, sym, ap, ◌∙◌}
use mathlib.Core.Logic.{◌≢◌}
use mathlib.Core.List.Memᴰ.{head as here}
use mathlib.Core.List.Memᴰ.{tail as there}
use mathlib.Core.List.{List, [], ◌∷◌, ◌++◌, map, append_assoc, append-nil, Memᴰ as Mem}
use Prim.Native.Nat.{ℕ, ◌+◌}
use lib.IntN.{ℤ}
use Rattle.rules.specs.Lists.{flat}
use Rattle.rules.specs.Links.{Event, cost, apply, run_events, first_or, last_or}
use Rattle.laws.specs.Lists.{flat_append}
use Rattle.tables.specs.Ring.{Linked}
use Rattle.tables.specs.Views.{foldl_append}
use Rattle.tables.specs.Met.{cursor, cost_append}

module _ {A : Type 0} (f : A → ℕ) where
  -- q is the number of the first, or of the last
  abbrev pub Front : List A → ℕ → Type 0
  Front zs q = (x : A) × (ys : List A) × (zs ≡ x ∷ ys) × (q ≡ f x)

  abbrev pub Rear : List A → ℕ → Type 0
  Rear xs q = (ys : List A) × (x : A) × (xs ≡ ys ++ (x ∷ [])) × (q ≡ f x)

  pub last_snoc : (h : ℕ) (xs : List A) (x : A) → last_or h (map f (xs ++ (x ∷ []))) ≡ f x
  unfolding last_or
  last_snoc h [] x = refl
  last_snoc h (y ∷ xs) x = last_snoc (f y) xs x

  -- where the walk is not at the header h there is one
  pub front : (h : ℕ) (zs : List A) {q : ℕ} → q ≡ first_or h (map f zs) → q ≢ h → Front zs q
  front h [] e ne = absurd (ne e)
  front h (x ∷ ys) e ne = (x, ys, refl, e)

  pub rear : (h : ℕ) (xs : List A) {q : ℕ} → q ≡ last_or h (map f xs) → q ≢ h → Rear xs q
  unfolding last_or
  rear h [] e ne = absurd (ne e)
  rear h (x ∷ xs) {q} e ne = walk x xs e
    where
      walk : (a : A) (ys : List A) → q ≡ last_or (f a) (map f ys) → Rear (a ∷ ys) q
      walk a [] e = ([], a, refl, e)
      walk a (y ∷ ys) e = let (zs, z, u, w) = walk y ys e in (a ∷ zs, z, ap (λ (l : List A). a ∷ l) u, w)

  -- and where it is, there is none
  pub no_front : (h : ℕ) (zs : List A) → ((z : A) → Mem z zs → f z ≢ h) → first_or h (map f zs) ≡ h → zs ≡ []
  no_front h [] o e = refl
  no_front h (z ∷ zs) o e = absurd (o z (here refl) e)

  pub first_all : (R : ℕ → Type 0) (h : ℕ) (zs : List A) → R h → ((z : A) → Mem z zs → R (f z)) → R (first_or h (map f zs))
  first_all R h [] b o = b
  first_all R h (z ∷ zs) b o = o z (here refl)

  pub last_all : (R : ℕ → Type 0) (h : ℕ) (xs : List A) → R h → ((z : A) → Mem z xs → R (f z)) → R (last_or h (map f xs))
  unfolding last_or
  last_all R h [] b o = b
  last_all R h (x ∷ xs) b o = last_all R (f x) xs (o x (here refl)) (λ z m. o z (there m))

  pub no_rear : (h : ℕ) (xs : List A) → ((z : A) → Mem z xs → f z ≢ h) → last_or h (map f xs) ≡ h → xs ≡ []
  unfolding last_or
  no_rear h [] o e = refl
  no_rear h (x ∷ xs) o e = absurd (last_all (λ k. k ≢ h) (f x) xs (o x (here refl)) (λ z m. o z (there m)) e)

-- one step of a walk
pub split_on : {A : Type 0} {l zs : List A} {x : A} {ys : List A} (xs : List A) → l ≡ xs ++ zs → zs ≡ x ∷ ys → l ≡ (xs ++ (x ∷ [])) ++ ys
split_on {x = x} {ys = ys} xs s e = s ∙ ap (λ (l : List _). xs ++ l) e ∙ sym (append_assoc xs (x ∷ []) ys)

pub split_back : {A : Type 0} {l xs : List A} (ys : List A) (x : A) (zs : List A) → l ≡ xs ++ zs → xs ≡ ys ++ (x ∷ []) → l ≡ ys ++ (x ∷ zs)
split_back ys x zs s e = s ∙ ap (λ (l : List _). l ++ zs) e ∙ append_assoc ys (x ∷ []) zs

module _ {A : Type 0} (f : A → List Event) (xs : List A) (x : A) where
  pub flat_snoc : flat f (xs ++ (x ∷ [])) ≡ flat f xs ++ f x
  unfolding flat
  flat_snoc = flat_append f xs (x ∷ []) ∙ ap (λ (l : List Event). flat f xs ++ l) (append-nil (f x))

  pub run_snoc : (n : ℕ) (t : List ℤ) → run_events n t (flat f (xs ++ (x ∷ []))) ≡ run_events n (run_events n t (flat f xs)) (f x)
  run_snoc n t = ap (run_events n t) flat_snoc ∙ foldl_append (apply n) t (flat f xs) (f x)

  pub cost_snoc : cost (flat f (xs ++ (x ∷ []))) ≡ cost (flat f xs) + cost (f x)
  cost_snoc = ap cost flat_snoc ∙ cost_append (flat f xs) (f x)

-- what follows a member of a ring, the header being the first
pub following_is : (nx pv : ℕ → ℕ) (h : ℕ) (l xs : List ℕ) (q : ℕ) (ys : List ℕ) → h ∷ l ≡ xs ++ q ∷ ys → Linked nx pv h l h → nx q ≡ first_or h ys
unfolding last_or
following_is nx pv h l [] q ys e L =
    let u : h ≡ q = cc in
    let w : l ≡ ys = cc in
    ap nx (sym u) ∙ (cursor nx pv h [] l h L).0 ∙ ap (first_or h) w
following_is nx pv h l (x ∷ xs) q ys e L =
    let w : l ≡ xs ++ q ∷ ys = cc in
    let s : l ≡ (xs ++ (q ∷ [])) ++ ys = split_on xs w refl in
    ap nx (sym (last_is xs h)) ∙ (cursor nx pv h (xs ++ (q ∷ [])) ys h (rw s at L)).0
  where
    last_is : (zs : List ℕ) (k : ℕ) → last_or k (zs ++ (q ∷ [])) ≡ q
    last_is [] k = refl
    last_is (z ∷ zs) k = last_is zs z

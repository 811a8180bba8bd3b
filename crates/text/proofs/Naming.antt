-- The numbers of names. Assumes nothing.
use Rattle.std.proofs.Common.{◌≡◌, ℕ, suc, ◌+◌, ◌≤◌, Bool, true, false, not, ◌&&◌, cond, List, [], ◌∷◌, ◌++◌, eqb, length, filter, Option, None, Some, option_map, refl, sym, ap, ◌∙◌, arith, length-append, eqb-true}
use mathlib.Core.Bool.{beq}
use lib.Pointwise.{pointwise}
use Rattle.std.specs.List.{position_from}
use Rattle.std.proofs.lemmas.Iterator.Adapters.{position_from-zero}
use Rattle.std.proofs.lemmas.List.Elements.{filter_agree}
use Rattle.rules.specs.Text.{sharp, moved_names, place, same_name}
use Rattle.laws.specs.Lists.{cannot}
use Rattle.text.specs.Names.{place_in}
use Rattle.text.proofs.Mirror.{keep_filter, place_position}

-- ---- places

shifted : (q : List ℕ → Bool) (k j : ℕ) (ns : List (List ℕ))
    → position_from q (k + j) ns ≡ option_map (λ i. k + i) (position_from q j ns)
shifted q k j [] = refl
shifted q k j (n ∷ ns) =
    let e : k + j + 1 ≡ k + (j + 1) = omega arith in
    by (q n) (ap (λ (m : ℕ). position_from q m ns) e ∙ shifted q k (j + 1) ns)
  where
    by : (b : Bool) → position_from q (k + j + 1) ns ≡ option_map (λ i. k + i) (position_from q (j + 1) ns)
        → cond b (Some (k + j)) (position_from q (k + j + 1) ns) ≡ option_map (λ i. k + i)
        (cond b (Some j) (position_from q (j + 1) ns))
    by true f = refl
    by false f = f

pub place_at : (k : ℕ) (t : List ℕ) (ns : List (List ℕ)) → place k t ns ≡ option_map (λ i. k + i) (place_in t ns)
place_at k t ns =
    let e : k ≡ k + 0 = omega arith in
    place_position t k ns ∙ ap (λ (m : ℕ). position_from (pointwise eqb t) m ns) e ∙ shifted (pointwise eqb t) k 0 ns
    ∙ ap (option_map (λ (i : ℕ). k + i)) (sym (position_from-zero (pointwise eqb t) ns))

abbrev or_else : Option ℕ → Option ℕ → Option ℕ
or_else (Some k) o = Some k
or_else None o = o

place_append : (k : ℕ) (t : List ℕ) (xs ys : List (List ℕ)) → place k t (xs ++ ys) ≡ or_else (place k t xs)
    (place (k + length xs) t ys)
unfolding place
place_append k t [] ys = let e : k ≡ k + 0 = omega arith in ap (λ (m : ℕ). place m t ys) e
place_append k t (x ∷ xs) ys =
    let e : k + 1 + length xs ≡ k + suc (length xs) = omega arith in
    by (same_name t x) (place_append (k + 1) t xs ys ∙ ap (λ (m : ℕ). or_else (place (k + 1) t xs) (place m t ys)) e)
  where
    by : (b : Bool) → place (k + 1) t (xs ++ ys) ≡ or_else (place (k + 1) t xs) (place (k + suc (length xs)) t ys)
        → cond b (Some k) (place (k + 1) t (xs ++ ys)) ≡ or_else (cond b (Some k) (place (k + 1) t xs))
        (place (k + suc (length xs)) t ys)
    by true f = refl
    by false f = f

-- ---- names with `#` and without

same_is : (a b : List ℕ) → same_name a b ≡ true → a ≡ b
unfolding same_name
same_is [] [] e = refl
same_is [] (y ∷ b) e = cannot (cc)
same_is (x ∷ a) [] e = cannot (cc)
same_is (x ∷ a) (y ∷ b) e = by (eqb x y) refl e (λ f. same_is a b f)
  where
    by : (r : Bool) → eqb x y ≡ r → (r && same_name a b) ≡ true → (same_name a b ≡ true → a ≡ b) → x ∷ a ≡ y ∷ b
    by true u v f = let p : x ≡ y = eqb-true x y u in let q : a ≡ b = f v in cc
    by false u v f = cannot (cc)

pub beq_is : (a b : Bool) → beq a b ≡ true → a ≡ b
beq_is true true e = refl
beq_is false false e = refl
beq_is true false e = cannot (cc)
beq_is false true e = cannot (cc)

pub beq_not : (a b : Bool) → beq a b ≡ false → a ≡ b → ⊥
beq_not true true e u = cannot (cc)
beq_not false false e u = cannot (cc)
beq_not true false e u = cannot (cc)
beq_not false true e u = cannot (cc)

abbrev pub with_sharp : Bool → List (List ℕ) → List (List ℕ)
with_sharp b ns = filter (λ t. beq (sharp t) b) ns

-- a name is none of those that differ in this
absent : (k : ℕ) (t : List ℕ) (b : Bool) (ns : List (List ℕ)) → beq (sharp t) b ≡ false
    → place k t (with_sharp b ns) ≡ None
unfolding place
absent k t b [] e = refl
absent k t b (n ∷ ns) e = by (beq (sharp n) b) refl (absent k t b ns e) (absent (k + 1) t b ns e)
  where
    other : beq (sharp n) b ≡ true → (r : Bool) → same_name t n ≡ r → place (k + 1) t (with_sharp b ns) ≡ None
        → cond r (Some k) (place (k + 1) t (with_sharp b ns)) ≡ None
    other u true v g = let p : t ≡ n = same_is t n v in let w : beq (sharp t) b ≡ true =
        ap (λ (x : List ℕ). beq (sharp x) b) p ∙ u in cannot (cc)
    other u false v g = g

    by : (r : Bool) → beq (sharp n) b ≡ r → place k t (with_sharp b ns) ≡ None
        → place (k + 1) t (with_sharp b ns) ≡ None → place k t (cond r (n ∷ with_sharp b ns) (with_sharp b ns)) ≡ None
    by true u f g = other u (same_name t n) refl g
    by false u f g = f

is_true : (b : Bool) → b ≡ beq b true
is_true true = refl
is_true false = refl

is_false : (b : Bool) → not b ≡ beq b false
is_false true = refl
is_false false = refl

moved_as : (front : Bool) (ns : List (List ℕ)) → moved_names front ns ≡ with_sharp front ns ++ with_sharp (not front) ns
moved_as true ns =
    rw (
      keep_filter sharp ns,
      keep_filter (λ t. not (sharp t)) ns,
      filter_agree sharp (λ t. beq (sharp t) true)
          (λ t. is_true (sharp t)) ns,
      filter_agree (λ t. not (sharp t)) (λ t. beq (sharp t) false) (λ t. is_false (sharp t))
          ns,
    ) refl
moved_as false ns =
    rw (
      keep_filter sharp ns,
      keep_filter (λ t. not (sharp t)) ns,
      filter_agree sharp (λ t. beq (sharp t) true)
          (λ t. is_true (sharp t)) ns,
      filter_agree (λ t. not (sharp t)) (λ t. beq (sharp t) false) (λ t. is_false (sharp t))
          ns,
    ) refl

module _ (front : Bool) (t : List ℕ) (ns : List (List ℕ)) where
  both : place 0 t (moved_names front ns) ≡ or_else (place 0 t (with_sharp front ns))
      (place (0 + length (with_sharp front ns)) t (with_sharp (not front) ns))
  both = ap (place 0 t) (moved_as front ns) ∙ place_append 0 t (with_sharp front ns) (with_sharp (not front) ns)

  -- the name stands among those that are numbered first, if at all
  primary_first : sharp t ≡ front → place 0 t (moved_names front ns) ≡ place_in t (with_sharp (sharp t) ns)
  primary_first e =
      both ∙ ap (or_else (place 0 t (with_sharp front ns))) (absent (0 + length (with_sharp front ns)) t (not front) ns
      (apart (sharp t) front e)) ∙ left (place 0 t (with_sharp front ns))
      ∙ place_at 0 t (with_sharp front ns) ∙ plain (place_in t (with_sharp front ns))
      ∙ ap (λ (b : Bool). place_in t (with_sharp b ns)) (sym e)
    where
      apart : (a b : Bool) → a ≡ b → beq a (not b) ≡ false
      apart true true e = refl
      apart false false e = refl
      apart true false e = cannot (cc)
      apart false true e = cannot (cc)

      left : (o : Option ℕ) → or_else o None ≡ o
      left None = refl
      left (Some k) = refl

      plain : (o : Option ℕ) → option_map (λ i. 0 + i) o ≡ o
      plain None = refl
      plain (Some k) = let e : 0 + k ≡ k = omega arith in ap Some e

  -- or among those numbered after them
  primary_second : (sharp t ≡ front → ⊥) → place 0 t (moved_names front ns) ≡ option_map
      (λ i. length (with_sharp front ns) + i) (place_in t (with_sharp (sharp t) ns))
  primary_second n =
      both ∙ ap (λ (o : Option ℕ). or_else o (place (0 + length (with_sharp front ns)) t (with_sharp (not front) ns)))
      (absent 0 t front ns (apart (sharp t) front n))
      ∙ place_at (0 + length (with_sharp front ns)) t (with_sharp (not front) ns)
      ∙ ap (λ (k : ℕ). option_map (λ (i : ℕ). k + i) (place_in t (with_sharp (not front) ns))) z
      ∙ turn (sharp t) front n
    where
      z : 0 + length (with_sharp front ns) ≡ length (with_sharp front ns)
      z = omega arith

      apart : (a b : Bool) → (a ≡ b → ⊥) → beq a b ≡ false
      apart true true n = absurd (n refl)
      apart false false n = absurd (n refl)
      apart true false n = refl
      apart false true n = refl

      turn : (a b : Bool) → (a ≡ b → ⊥) → option_map (λ i. length (with_sharp b ns) + i)
          (place_in t (with_sharp (not b) ns)) ≡ option_map (λ i. length (with_sharp b ns) + i)
          (place_in t (with_sharp a ns))
      turn true true n = absurd (n refl)
      turn false false n = absurd (n refl)
      turn true false n = refl
      turn false true n = refl

  module _ {w : Bool} (u : w ≡ sharp t) where
    here : place_in t (with_sharp (sharp t) ns) ≡ place_in t (with_sharp w ns)
    here = ap (λ (b : Bool). place_in t (with_sharp b ns)) (sym u)

    pub first_number : w ≡ front → place 0 t (moved_names front ns) ≡ place_in t (with_sharp w ns)
    first_number e = primary_first (sym u ∙ e) ∙ here

    pub second_number : {n : ℕ} → (w ≡ front → ⊥) → n ≡ length (with_sharp front ns)
        → place 0 t (moved_names front ns) ≡ option_map (λ i. n + i) (place_in t (with_sharp w ns))
    second_number n l =
        primary_second (λ e. n (u ∙ e))
        ∙ ap (λ (b : Bool). option_map (λ (i : ℕ). length (with_sharp front ns) + i)
        (place_in t (with_sharp b ns))) (sym u)
        ∙ ap (λ (k : ℕ). option_map (λ (i : ℕ). k + i) (place_in t (with_sharp w ns))) (sym l)

    pub no_number : place_in t (with_sharp w ns) ≡ None → place 0 t (moved_names front ns) ≡ None
    no_number z = by (beq w front) refl
      where
        by : (b : Bool) → beq w front ≡ b → place 0 t (moved_names front ns) ≡ None
        by true e = first_number (beq_is w front e) ∙ z
        by false e = second_number (beq_not w front e) refl ∙ ap
            (option_map (λ (i : ℕ). length (with_sharp front ns) + i)) z

  split_long : (b : Bool) → length (with_sharp b ns) + length (with_sharp (not b) ns) ≡ length ns
  split_long b = by ns
    where
      one : (s c : Bool) (n : List ℕ) (xs ys zs : List (List ℕ)) → length xs + length ys ≡ length zs
          → length (cond (beq s c) (n ∷ xs) xs) + length (cond (beq s (not c)) (n ∷ ys) ys) ≡ suc (length zs)
      one true true n xs ys zs e = omega arith
      one true false n xs ys zs e = omega arith
      one false true n xs ys zs e = omega arith
      one false false n xs ys zs e = omega arith

      by : (zs : List (List ℕ)) → length (with_sharp b zs) + length (with_sharp (not b) zs) ≡ length zs
      by [] = omega arith
      by (z ∷ zs) = one (sharp z) b z (with_sharp b zs) (with_sharp (not b) zs) zs (by zs)

  pub with_few : (b : Bool) → length (with_sharp b ns) ≤ length ns
  with_few b = omega (arith, split_long b)

  pub moved_long : length (moved_names front ns) ≡ length ns
  moved_long = ap length (moved_as front ns) ∙ length-append (with_sharp front ns) (with_sharp (not front) ns)
      ∙ split_long front

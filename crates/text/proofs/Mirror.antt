-- The words of the definitions are std's. Assumes nothing.
use Rattle.std.proofs.Common.{◌≡◌, ℕ, suc, not, length, ltb, lt-ltb, arith, Bool, true, false, ◌&&◌, ◌||◌, cond, List, map, [], ◌∷◌, eqb, ◌+◌, Some, filter, refl, sym, ap, ◌∙◌}
use borrow.Author.Tests.{ltb-true, ltb-false, le-ltb}
use Rattle.std.specs.List.{list_any, list_all, prefix_len, slice_split, onto_first, position_from}
use lib.Pointwise.{pointwise}
use Rattle.rules.specs.Lists.{also, keep, each, has}
use Rattle.rules.specs.Text.{parted, split, name_of, place, same_name}

more_lt : (a b : ℕ) → ltb (1 + a) (suc b) ≡ ltb a b
more_lt a b = by (ltb a b) refl
  where
    by : (r : Bool) → ltb a b ≡ r → ltb (1 + a) (suc b) ≡ r
    by true e = lt-ltb (1 + a) (suc b) (omega (arith, ltb-true a b e))
    by false e = le-ltb (1 + a) (suc b) (omega (arith, ltb-false a b e))

module _ {A : Type 0} (p : A → Bool) where
  pub each_all : (xs : List A) → each p xs ≡ list_all p xs
  unfolding each
  each_all [] = refl
  each_all (x ∷ xs) = ap (λ (b : Bool). p x && b) (each_all xs)

  -- the test holds somewhere, if it fails on less than the whole list
  pub has_after : (xs : List A) → has p xs ≡ ltb (prefix_len (λ x. not (p x)) xs) (length xs)
  unfolding has
  has_after [] = refl
  has_after (x ∷ xs) = by (p x) (has_after xs)
    where
      by : (b : Bool) → has p xs ≡ ltb (prefix_len (λ x. not (p x)) xs) (length xs)
          → (b || has p xs) ≡ ltb (cond (not b) (1 + prefix_len (λ x. not (p x)) xs) 0) (suc (length xs))
      by true e = sym (lt-ltb 0 (suc (length xs)) (omega arith))
      by false e = e ∙ sym (more_lt (prefix_len (λ x. not (p x)) xs) (length xs))

  pub keep_filter : (xs : List A) → keep p xs ≡ filter p xs
  unfolding keep
  keep_filter [] = refl
  keep_filter (x ∷ xs) = ap (also (p x) x) (keep_filter xs) ∙ by (p x)
    where
      by : (b : Bool) → also b x (filter p xs) ≡ cond b (x ∷ filter p xs) (filter p xs)
      by true = refl
      by false = refl

  pub split_slice : (xs : List A) → split p xs ≡ slice_split p xs
  unfolding split
  split_slice [] = refl
  split_slice (x ∷ xs) = ap (parted (p x) x) (split_slice xs) ∙ by (p x) (slice_split p xs)
    where
      by : (b : Bool) (ps : List (List A)) → parted b x ps ≡ cond b ([] ∷ ps) (onto_first x ps)
      by true ps = refl
      by false [] = refl
      by false (q ∷ ps) = refl

pub same_pointwise : (a b : List ℕ) → same_name a b ≡ pointwise eqb a b
unfolding same_name
same_pointwise [] [] = refl
same_pointwise [] (y ∷ b) = refl
same_pointwise (x ∷ a) [] = refl
same_pointwise (x ∷ a) (y ∷ b) = ap (λ (r : Bool). eqb x y && r) (same_pointwise a b)

module _ (t : List ℕ) where
  pub place_position : (k : ℕ) (ns : List (List ℕ)) → place k t ns ≡ position_from (pointwise eqb t) k ns
  unfolding place
  place_position k [] = refl
  place_position k (n ∷ ns) =
      rw (same_pointwise t n) (ap (cond (pointwise eqb t n) (Some k)) (place_position (k + 1) ns))

  pub stands_any : (ns : List (List ℕ)) → has (same_name t) ns ≡ list_any (pointwise eqb t) ns
  unfolding has
  stands_any [] = refl
  stands_any (n ∷ ns) = rw (same_pointwise t n) (ap (λ (b : Bool). pointwise eqb t n || b) (stands_any ns))

  pub named_any : (ns : List (List ℕ)) → has (same_name t) (map name_of ns) ≡ list_any
      (λ n. pointwise eqb t (name_of n)) ns
  unfolding has
  named_any [] = refl
  named_any (n ∷ ns) =
      rw (same_pointwise t (name_of n)) (ap (λ (b : Bool). pointwise eqb t (name_of n) || b) (named_any ns))

-- Lists with tests that compute, and what is made of a test.
use Rattle.std.specs.Prelude.{Bool, true, false, ◌&&◌, ◌||◌, List, [], ◌∷◌, ◌++◌, ℕ, zero, suc, ◌+◌, length, drop, Option, None, Some}

module _ {A : Type 0} where
  -- x in front of r where the test holds
  abbrev pub also : Bool → A → List A → List A
  also true x r = x ∷ r
  also false x r = r

  -- those that pass the test
  unfoldable pub keep : (A → Bool) → List A → List A
  keep p [] = []
  keep p (x ∷ xs) = also (p x) x (keep p xs)

  unfoldable pub each : (A → Bool) → List A → Bool
  each p [] = true
  each p (x ∷ xs) = p x && each p xs

  unfoldable pub has : (A → Bool) → List A → Bool
  has p [] = false
  has p (x ∷ xs) = p x || has p xs

  -- new words over the front of a lent list: the rest keeps what it held
  abbrev pub over : List A → List A → List A
  over new old = new ++ drop (length new) old

  -- r where the test holds
  abbrev pub when : Bool → Option A → Option A
  when true r = r
  when false r = None

  abbrev pub got : Option A → Bool
  got None = false
  got (Some a) = true

  abbrev pub or_none : Option (List A) → List A
  or_none None = []
  or_none (Some l) = l

-- 1 where the test holds
abbrev pub one_if : Bool → ℕ
one_if true = 1
one_if false = 0

module _ {A : Type 0} where
  -- how many pass the test
  unfoldable pub tally : (A → Bool) → List A → ℕ
  tally p [] = 0
  tally p (x ∷ xs) = one_if (p x) + tally p xs

module _ {A B : Type 0} where
  unfoldable pub flat : (A → List B) → List A → List B
  flat f [] = []
  flat f (x ∷ xs) = f x ++ flat f xs

-- from, from + 1, .. : n numbers
unfoldable pub run : ℕ → ℕ → List ℕ
run from zero = []
run from (suc n) = from ∷ run (suc from) n

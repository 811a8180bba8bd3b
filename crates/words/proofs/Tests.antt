-- The library's tests of words are those of the definitions.
use mathlib.Core.Path.{◌≡◌, refl, ap}
use mathlib.Core.List.{List, [], ◌∷◌}
use lib.Dec.{eqb→eq}
use borrow.Author.Tests.{eq-eqb}
use lib.IntN.{ℤ, pos, negsuc}
use Rattle.std.specs.Cmp.Lexicographic.{pointwise}
use Rattle.std.specs.Ordering.{int_eq}
use Rattle.std.specs.Bool.{Decides}
use Rattle.std.specs.List.{list_all}
use Rattle.std.proofs.lemmas.Bool.Decides.{Decides-int_eq, same_from_decides}
use Rattle.rules.specs.Lists.{each}
use Rattle.rules.specs.Words.{same, same_words}

same_decides : (x y : ℤ) → Decides (same x y) (x ≡ y)
same_decides (pos a) (pos b) = (λ e. ap pos (eqb→eq a b (rw e tt)), λ e. eq-eqb a b (cc))
same_decides (pos a) (negsuc b) = (λ e. cc, λ e. cc)
same_decides (negsuc a) (pos b) = (λ e. cc, λ e. cc)
same_decides (negsuc a) (negsuc b) = (λ e. ap negsuc (eqb→eq a b (rw e tt)), λ e. eq-eqb a b (cc))

same_is : (x y : ℤ) → int_eq x y ≡ same x y
same_is x y = same_from_decides (int_eq x y) (same x y) (Decides-int_eq x y) (same_decides x y)

-- `==` of slices
pub words_same : (s t : List ℤ) → pointwise int_eq s t ≡ same_words s t
unfolding same_words
words_same [] [] = refl
words_same [] (y ∷ ys) = refl
words_same (x ∷ xs) [] = refl
words_same (x ∷ xs) (y ∷ ys) = rw (same_is x y, words_same xs ys) refl

-- `all` over them
pub each_same : (xs : List ℤ) → list_all (λ w. int_eq w (pos 0)) xs ≡ each (λ w. same w (pos 0)) xs
unfolding each
each_same [] = refl
each_same (x ∷ xs) = rw (same_is x (pos 0), each_same xs) refl

-- A test of each word of a list. Assumes nothing.
use Rattle.std.specs.Prelude.{◌≡◌, Bool, List, [], ◌∷◌, ◌&&◌}
use Rattle.std.specs.List.{list_all}
use Rattle.std.proofs.Common.{refl, ap}
use Rattle.rules.specs.Lists.{each}

pub each_all : {A : Type 0} (p : A → Bool) (xs : List A) → list_all p xs ≡ each p xs
unfolding each
each_all p [] = refl
each_all p (x ∷ xs) = ap (λ (b : Bool). p x && b) (each_all p xs)

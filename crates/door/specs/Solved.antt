-- What the door's functions ask and promise.
use Rattle.std.specs.Prelude.{◌≡◌, cond, List, ℕ, ◌-◌, ◌/◌, ◌<◌, ltb, ℤ, pos, length, replicate}
use Rattle.rules.specs.declared.Sizes.{Sizes}
use Rattle.rules.specs.Problem.{table_length}

-- bytes of more words than 3, 64 counts and 256 entries
abbrev pub Long : List ℕ → Type 0
Long bytes = 2319 < length bytes

-- how many option numbers an output of n bytes has room for
abbrev pub lists_of : ℕ → ℕ
lists_of n = cond (ltb n 4) 0 ((n - 4) / 4)

-- parts of the lengths that the sizes ask, path and profile not yet used
pub record Parts (s : Sizes) (t path : List ℤ) (profile : List ℕ) : Type 0 where
  pub table_long : length t ≡ table_length s
  pub path_is : path ≡ replicate s.np (pos 0)
  pub profile_is : profile ≡ replicate s.np 0

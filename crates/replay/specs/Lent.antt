-- What a line `l` lends.
use Rattle.std.specs.Prelude.{List, ℕ, ℤ, pos, ◌≡◌, length, replicate}

-- the lists are full of sevens
pub record Sevens (table spare path : List ℤ) (profile : List ℕ) (found : List ℤ) : Type 0 where
  pub table_is : table ≡ replicate (length table) (pos 7)
  pub spare_is : spare ≡ replicate (length spare) (pos 7)
  pub path_is : path ≡ replicate (length path) (pos 7)
  pub profile_is : profile ≡ replicate (length profile) 7
  pub found_is : found ≡ replicate (length found) (pos 7)

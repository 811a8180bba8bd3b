-- Lists of any length that is enough, whose fronts are the top of a search.
use Rattle.std.specs.Prelude.{◌≡◌, List, ◌≤◌, ◌<◌, ℤ, pos, length, take, replicate}
use Rattle.rules.specs.declared.Sizes.{Sizes}
use Rattle.rules.specs.Problem.{cut, meant, table_length, fault}
use Rattle.rules.specs.Links.{fresh}
use Rattle.rules.specs.Calls.{SetUpLent}
use Rattle.problem.specs.Measured.{Measured}

pub record Top (ws : List ℤ) (s : Sizes) (l : SetUpLent) : Type 0 where
  pub measures : Measured ws s
  pub faultless : fault (cut ws) ≡ 0
  pub small : table_length s < 2147483648
  pub table_room : table_length s ≤ length l.table
  pub path_room : s.np ≤ length l.path
  pub profile_room : s.np ≤ length l.profile
  pub table_is : take (table_length s) l.table ≡ fresh (meant (cut ws))
  pub path_is : take s.np l.path ≡ replicate s.np (pos 0)
  pub profile_is : take s.np l.profile ≡ replicate s.np 0

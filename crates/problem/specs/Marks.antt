-- The items seen in an option, as marks: each item has the stamp of the option that it was last seen in. And the rows 7 and 8.
use Rattle.std.specs.Prelude.{Bool, not, ◌||◌, List, ◌≡◌, ℕ, ◌<◌, eqb, ℤ, pos, get_or, Result, ⊤}
use Rattle.std.specs.Int.Signed.{non_neg}
use Rattle.rules.specs.Lists.{has}
use Rattle.rules.specs.Problem.{need, judged}
use Rattle.rules.specs.Words.{same}

-- of n items, those marked with the stamp are those seen
pub record Marked (marks : List ℕ) (n stamp : ℕ) (seen : List ℤ) : Type 0 where
  pub are : (x : ℕ) → x < n → eqb (get_or marks x 0) stamp ≡ has (same (pos x)) seen

-- the marks of n items are below the stamp
pub record Older (marks : List ℕ) (n stamp : ℕ) : Type 0 where
  pub are : (x : ℕ) → x < n → get_or marks x 0 < stamp

-- the rows 7 and 8 for a colour on an item that is primary or secondary
abbrev pub colour_fault : Bool → ℤ → ℕ
colour_fault primary z = need (not primary || same z (pos 0)) 7 (need (non_neg z) 8 0)

-- what the code answers for the number of a fault, 0 for none
abbrev pub refused : ℕ → Result ⊤ ℕ
refused k = judged k tt

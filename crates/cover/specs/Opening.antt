-- What the program makes of a text before it searches.
use Rattle.std.specs.Prelude.{true, List, ◌≡◌, ℕ, ◌≤◌, ℤ, length, take, Result, Ok, Err}
use Rattle.rules.specs.declared.Sizes.{Sizes}
use Rattle.rules.specs.declared.Unread.{Unread}
use Rattle.rules.specs.Problem.{door_limits}
use Rattle.rules.specs.Text.{read_said}
use Rattle.rules.specs.Cover.{refused, accepted, opened}
use Rattle.problem.specs.Room.{Accepted}

-- the first words of the list are those of the text, and the limits allow them
pub record OpensTo (text : List ℕ) (words : List ℤ) (count : ℕ) (s : Sizes) : Type 0 where
  pub within : count ≤ length words
  pub is : opened text ≡ accepted (take count words)
  pub allowed : Accepted door_limits 1 (λ s. true) (take count words) s

abbrev pub Opens : List ℕ → List ℤ → Result (ℕ × Sizes) Unread → Type 0
Opens text words (Ok (count, s)) = OpensTo text words count s
Opens text words (Err u) = opened text ≡ refused (read_said (Err u))

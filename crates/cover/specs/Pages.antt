-- A buffer of lines, and the solutions that are to come after it.
use Rattle.std.specs.Prelude.{List, ◌++◌, ◌≡◌, ℕ, ◌+◌, ◌≤◌, ◌<◌, ℤ, length, Option, None, Some}
use Rattle.rules.specs.declared.State.{State}
use Rattle.rules.specs.Lists.{flat}
use Rattle.rules.specs.Problem.{Problem}
use Rattle.rules.specs.Order.{pick}
use Rattle.rules.specs.Walk.{Level}
use Rattle.rules.specs.Calls.{cap}
use Rattle.rules.specs.Cover.{line}
use Rattle.knuth.specs.Trace.{to_come}
use Rattle.search.specs.Points.{Begun, Profile}

-- table, path and state are those of a point at which these solutions are to come; 2^64-1 visits are enough for them
pub record Coming (P : Problem) (n : ℕ) (left : List (List ℕ)) (t path : List ℤ) (profile : List ℕ) (st : State)
    : Type 0 where
  pub s : List Level
  pub begun : Begun P n s t path st
  pub counts : Profile (length path) profile
  pub small : st.updates ≤ cap
  pub low : length path ≤ 64
  pub few : length (to_come P (pick P) st.phase s).visits < 18446744073709551615
  pub is : left ≡ (to_come P (pick P) st.phase s).found

abbrev pub SomeComing : ℕ → List ℤ → List ℤ → List ℕ → State → Type 0
SomeComing n t path profile st = (P : Problem) × (left : List (List ℕ)) × Coming P n left t path profile st

-- the bytes of the buffer are the lines of these solutions
pub record Lined (done : List (List ℕ)) (out : List ℕ) : Type 0 where
  pub within : length out ≤ 65536
  pub is : out ≡ flat line done

-- of the solutions to come, some are in the buffer and the others are still to come
pub record Filling (P : Problem) (n : ℕ) (all : List (List ℕ)) (t path : List ℤ) (profile out : List ℕ) (st : State)
    : Type 0 where
  pub done : List (List ℕ)
  pub left : List (List ℕ)
  pub parts : all ≡ done ++ left
  pub lined : Lined done out
  pub coming : Coming P n left t path profile st

-- and it has no room for another line of the longest
pub record FilledMore (P : Problem) (n : ℕ) (all : List (List ℕ)) (t path : List ℤ) (profile out : List ℕ) (st : State)
    : Type 0 where
  pub filling : Filling P n all t path profile out st
  pub full : 65536 < length out + 1345

abbrev pub FilledAs : Problem → ℕ → List (List ℕ) → List ℤ → List ℤ → List ℕ → List ℕ → Option State → Type 0
FilledAs P n all t path profile out None = Lined all out
FilledAs P n all t path profile out (Some st) = FilledMore P n all t path profile out st

-- the page has all the solutions to come, or as many as it has room for
pub record Filled (P : Problem) (n : ℕ) (all : List (List ℕ)) (t path : List ℤ) (profile out : List ℕ)
    (r : Option State) : Type 0 where
  pub page : FilledAs P n all t path profile out r

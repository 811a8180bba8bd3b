-- A path's choices made on a table, and taken back.
use Rattle.std.specs.Prelude.{◌≡◌, Bool, true, false, ◌&&◌, cond, List, [], ◌∷◌, ℕ, ◌<◌, ℤ, pos, negsuc, length, take, drop, Option, None, Some}
use Rattle.rules.specs.declared.State.{State}
use Rattle.rules.specs.Lists.{each, got}
use Rattle.rules.specs.Words.{word, same}
use Rattle.rules.specs.Problem.{Problem}
use Rattle.rules.specs.Order.{node, pick}
use Rattle.rules.specs.Walk.{Level, chosen}
use Rattle.rules.specs.Calls.{depth_fits, taken, path_point}
use Rattle.search.specs.Points.{At}
use Rattle.search.specs.declared.point.Reach.{Reach}

-- the path's words are the nodes tried, level by level
abbrev pub Trail : List ℤ → List Level → Type 0
Trail path [] = Unit {0}
Trail path (v ∷ above) = (length above < length path) × (word path (length above) ≡ pos (node v.tried)) × Trail path above

pub record Trailed (P : Problem) (n : ℕ) (s : List Level) (t path : List ℤ) (l : ℕ) : Type 0 where
  pub at : At P n s t
  pub trail : Trail path s
  pub level : l ≡ length s

abbrev pub SomeTrailed : ℕ → List ℤ → List ℤ → ℕ → Type 0
SomeTrailed n t path l = (P : Problem) × (s : List Level) × Trailed P n s t path l

-- ---- one word

-- the level that a path word means below the point s
abbrev pub meant_by : Problem → List Level → ℤ → Option Level
meant_by P s (pos q) = taken P (pick P) (pick P (chosen s)) s q
meant_by P s (negsuc q) = None

-- the path has a word at level l, which comes after the point s
pub record Following (P : Problem) (n : ℕ) (s : List Level) (t path : List ℤ) (l : ℕ) : Type 0 where
  pub at : At P n s t
  pub inside : l < length path

abbrev pub SomeFollowing : ℕ → List ℤ → List ℤ → ℕ → Type 0
SomeFollowing n t path l = (P : Problem) × (s : List Level) × Following P n s t path l

-- the word's choice is made
pub record Stepped (P : Problem) (n : ℕ) (s : List Level) (path : List ℤ) (l : ℕ) (t : List ℤ) : Type 0 where
  pub v : Level
  pub meant : meant_by P s (word path l) ≡ Some v
  pub node_is : word path l ≡ pos (node v.tried)
  pub at : At P n (v ∷ s) t

-- the word is no choice, and nothing is done
pub record Halted (P : Problem) (n : ℕ) (s : List Level) (path : List ℤ) (l : ℕ) (t : List ℤ) : Type 0 where
  pub meant : meant_by P s (word path l) ≡ None
  pub at : At P n s t

abbrev pub Followed : Problem → ℕ → List Level → List ℤ → ℕ → List ℤ → Bool → Type 0
Followed P n s path l t true = Stepped P n s path l t
Followed P n s path l t false = Halted P n s path l t

-- ---- a path

abbrev pub SomeFresh : ℕ → List ℤ → Type 0
SomeFresh n t = (P : Problem) × At P n [] t

-- where there is a level more, what follows it; else the levels so far
abbrev pub go_on : Option Level → List Level → (List Level → List Level) → List Level
go_on None s k = s
go_on (Some v) s k = k (v ∷ s)

-- the levels that the words make below the point s, as far as they are choices
unfoldable pub follows : Problem → List ℤ → List Level → List Level
follows P [] s = s
follows P (z ∷ zs) s = go_on (meant_by P s z) s (λ t. follows P zs t)

-- the levels that the path makes: none where the depth does not fit the phase or a word past it is not 0
unfoldable pub reach : Problem → State → List ℤ → List Level
reach P st path =
    cond (depth_fits st.phase P.np st.depth && each (λ w. same w (pos 0)) (drop st.depth path))
    (follows P (take st.depth path) [])
    []

-- whether path and state are a point, and the levels made in t
pub record PathPoint (P : Problem) (n : ℕ) (st : State) (t path : List ℤ) (r : Reach) : Type 0 where
  pub fits : r.fits ≡ got (path_point P (pick P) st path)
  pub on : Trailed P n (reach P st path) t path r.level

-- the spare is fresh, and the lengths are those of the problem
pub record Testing (P : Problem) (n : ℕ) (t spare path : List ℤ) : Type 0 where
  pub fresh : At P n [] spare
  pub long : length path ≡ P.np
  pub even : length t ≡ length spare

abbrev pub SomeTesting : ℕ → List ℤ → List ℤ → List ℤ → Type 0
SomeTesting n t spare path = (P : Problem) × Testing P n t spare path

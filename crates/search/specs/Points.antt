-- What the search knows of table and path: the point that they are of, and where a move or a walk leads.
use Rattle.std.specs.Prelude.{◌≡◌, List, [], ◌∷◌, ℕ, suc, ◌≤◌, ◌<◌, ℤ, length, get_or, Option, None, Some, option_map}
use Rattle.rules.specs.declared.NextAnswer.{NextAnswer}
use Rattle.rules.specs.declared.Phase.TheVariants as Phases
use Rattle.rules.specs.declared.State.{State}
use Rattle.rules.specs.Problem.{Problem, items}
use Rattle.rules.specs.Order.{Choice, node, pick}
use Rattle.rules.specs.Links.{cost, own, try, choose, held, table}
use Rattle.rules.specs.Walk.{Level, made, chosen, Move, Walk}
use Rattle.rules.specs.Calls.{cap, capped, profile_from, moved, path_words, next_answer}
use Rattle.laws.specs.Faults.{Good}
use Rattle.laws.specs.Reached.{Reached}
use Rattle.tables.specs.Nodes.{nodes}

-- the table t is that of the point s, which the search reaches; a word can number the problem's nodes
pub record At (P : Problem) (n : ℕ) (s : List Level) (t : List ℤ) : Type 0 where
  pub good : Good P
  pub small : nodes P < 2147483648
  pub n_is : n ≡ items P
  pub reached : Reached P (pick P) s
  pub is : t ≡ table P (made s)

abbrev pub SomeAt : ℕ → List ℤ → Type 0
SomeAt n t = (P : Problem) × (s : List Level) × At P n s t

-- table, path and level are those of the point s
pub record On (P : Problem) (n : ℕ) (s : List Level) (t path : List ℤ) (l : ℕ) : Type 0 where
  pub at : At P n s t
  pub path_is : path ≡ path_words P.np s
  pub level : l ≡ length s

abbrev pub SomeOn : ℕ → List ℤ → List ℤ → ℕ → Type 0
SomeOn n t path l = (P : Problem) × (s : List Level) × On P n s t path l

-- the header of the item taken
abbrev pub header : Option ℕ → Option ℕ
header o = option_map suc o

-- ---- a choice

-- v can follow the point s: x is the node of its choice, i the header of its item
pub record Trying (P : Problem) (n : ℕ) (s : List Level) (v : Level) (t : List ℤ) (i x : ℕ) : Type 0 where
  pub at : At P n s t
  pub reached : Reached P (pick P) (v ∷ s)
  pub header_is : i ≡ suc (own v.tried).item
  pub node_is : x ≡ node v.tried

abbrev pub SomeTrying : ℕ → List ℤ → ℕ → ℕ → Type 0
SomeTrying n t i x = (P : Problem) × (s : List Level) × (v : Level) × Trying P n s v t i x

-- its choice is made, with r updates: the true sum or the cap
pub record Tried (P : Problem) (n : ℕ) (s : List Level) (v : Level) (t : List ℤ) (r : ℕ) : Type 0 where
  pub at : At P n (v ∷ s) t
  pub counts : r ≡ capped 0 (cost (choose P (held (made s)) v.tried))

-- l is the deepest level
abbrev pub SomeLevel : ℕ → List ℤ → List ℤ → ℕ → Type 0
SomeLevel n t path l = (P : Problem) × (v : Level) × (above : List Level) × On P n (v ∷ above) t path (suc l)

-- the level's next choice is tried
pub record NextTried (P : Problem) (n l : ℕ) (c : Choice) (cs : List Choice) (above : List Level) (t path : List ℤ)
    (r : Option ℕ) : Type 0 where
  pub updates : ℕ
  pub is : r ≡ Some updates
  pub on : On P n (record { tried = c; left = cs } ∷ above) t path (suc l)
  pub counts : updates ≡ cost (try P (held (made above)) c)

-- the level is taken back
pub record Back (P : Problem) (n l : ℕ) (above : List Level) (t path : List ℤ) (r : Option ℕ) : Type 0 where
  pub is : r ≡ None
  pub on : On P n above t path l

-- what becomes of a level that has the choices `left` untried
abbrev pub Retried : Problem → ℕ → ℕ → List Choice → List Level → List ℤ → List ℤ → Option ℕ → Type 0
Retried P n l [] above t path r = Back P n l above t path r
Retried P n l (c ∷ cs) above t path r = NextTried P n l c cs above t path r

-- x is the node of the choice at the deepest level, v
pub record Last (P : Problem) (n : ℕ) (v : Level) (above : List Level) (t : List ℤ) (x : ℕ) : Type 0 where
  pub at : At P n (v ∷ above) t
  pub node_is : x ≡ node v.tried

abbrev pub SomeLast : ℕ → List ℤ → ℕ → Type 0
SomeLast n t x = (P : Problem) × (v : Level) × (above : List Level) × Last P n v above t x

-- ---- a move

-- it leads to the point of the move m
pub record Moved (P : Problem) (n : ℕ) (m : Move) (t path : List ℤ) (r : Option (ℕ × ℕ)) : Type 0 where
  pub updates : ℕ
  pub is : r ≡ Some (length m.to, updates)
  pub on : On P n m.to t path (length m.to)
  pub counts : (u : ℕ) → capped u updates ≡ capped u m.updates

-- it leads nowhere: every choice is taken back
pub record Ended (P : Problem) (n : ℕ) (t path : List ℤ) (r : Option (ℕ × ℕ)) : Type 0 where
  pub is : r ≡ None
  pub on : On P n [] t path 0

abbrev pub Gone : Problem → ℕ → Option Move → List ℤ → List ℤ → Option (ℕ × ℕ) → Type 0
Gone P n None t path r = Ended P n t path r
Gone P n (Some m) t path r = Moved P n m t path r

-- i is the header of the item j that the order rule takes at s
pub record Picked (P : Problem) (n : ℕ) (s : List Level) (j : ℕ) (t : List ℤ) (i : ℕ) : Type 0 where
  pub at : At P n s t
  pub picks : pick P (chosen s) ≡ Some j
  pub header_is : i ≡ suc j

abbrev pub SomePicked : ℕ → List ℤ → ℕ → Type 0
SomePicked n t i = (P : Problem) × (s : List Level) × (j : ℕ) × Picked P n s j t i

pub record Taking (P : Problem) (n : ℕ) (s : List Level) (j : ℕ) (t path : List ℤ) (l i : ℕ) : Type 0 where
  pub on : On P n s t path l
  pub picked : Picked P n s j t i

abbrev pub SomeTaking : ℕ → List ℤ → List ℤ → ℕ → ℕ → Type 0
SomeTaking n t path l i = (P : Problem) × (s : List Level) × (j : ℕ) × Taking P n s j t path l i

-- ---- a walk

-- np counts, each within the cap
pub record Profile (np : ℕ) (profile : List ℕ) : Type 0 where
  pub long : length profile ≡ np
  pub small : (k : ℕ) → get_or profile k 0 ≤ cap

-- what the walk w leaves, from the state st and the profile lent
pub record Ran (P : Problem) (n : ℕ) (w : Walk) (st : State) (profile : List ℕ) (t path : List ℤ) (profile' : List ℕ) (r : NextAnswer) : Type 0 where
  pub answer : r ≡ next_answer w.end (moved st w) (length w.visited)
  pub on : On P n w.at t path (length w.at)
  pub profile_is : profile' ≡ profile_from 0 w.visited profile

-- table, path and state are those of the point s; "done asks depth 0"
pub record Begun (P : Problem) (n : ℕ) (s : List Level) (t path : List ℤ) (st : State) : Type 0 where
  pub on : On P n s t path st.depth
  pub done_top : st.phase ≡ Phases.Done → st.depth ≡ 0

abbrev pub SomeBegun : ℕ → List ℤ → List ℤ → State → Type 0
SomeBegun n t path st = (P : Problem) × (s : List Level) × Begun P n s t path st

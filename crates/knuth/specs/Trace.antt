-- What a search makes, and what is still to come at a point of it.
use Rattle.std.specs.Prelude.{List, [], ◌∷◌, ◌++◌, ℕ, zero, suc, ◌+◌, length, Option, None, Some}
use Rattle.rules.specs.declared.Phase.{Phase}
use Rattle.rules.specs.declared.Phase.TheVariants.{Ready, Solution, Done}
use Rattle.rules.specs.Problem.{Problem}
use Rattle.rules.specs.Order.{Choice, Rule, choices, open_options}
use Rattle.rules.specs.Links.{cost, own, touch, try, held}
use Rattle.rules.specs.Walk.{Level, made, chosen, numbers, End, solution, exhausted, paused, Walk}
use Rattle.laws.specs.Reached.{joined}

infixr 60 ◌then◌
-- the levels visited and the solutions found, each in order, and the updates
pub record Trace : Type 0 where
  pub visits : List ℕ
  pub found : List (List ℕ)
  pub updates : ℕ

abbrev pub nothing : Trace
nothing = record { visits = []; found = []; updates = 0 }

-- one after the other
abbrev pub ◌then◌ : Trace → Trace → Trace
t then u = record { visits = t.visits ++ u.visits; found = t.found ++ u.found; updates = t.updates + u.updates }

-- a visit, a solution, updates, before the rest
abbrev pub visit : ℕ → Trace → Trace
visit l t = record { visits = l ∷ t.visits; found = t.found; updates = t.updates }

abbrev pub report : List Level → Trace → Trace
report s t = record { visits = t.visits; found = numbers s ∷ t.found; updates = t.updates }

abbrev pub pay : ℕ → Trace → Trace
pay u t = record { visits = t.visits; found = t.found; updates = u + t.updates }

-- ---- the tree

-- the level at which c is tried and cs are left, below the others
abbrev pub deeper_by : Choice → List Choice → List Level → List Level
deeper_by c cs above = record { tried = c; left = cs } ∷ above

module _ (P : Problem) where
  -- the choices left at a level: each is committed, and then comes what lies below it
  unfoldable pub tries : List Level → List Choice → (List Level → Trace) → Trace
  tries above [] below = nothing
  tries above (c ∷ cs) below = pay (cost (try P (held (made above)) c)) (below (deeper_by c cs above) then tries above cs below)

  -- what covering the item of these choices costs, if there is one
  abbrev pub cover_cost : List Level → List Choice → ℕ
  cover_cost s [] = 0
  cover_cost s (c ∷ cs) = cost (touch P (held (made s)) (own c))

  -- the item of these choices is covered, and then they are tried
  abbrev pub covers : List Level → List Choice → (List Level → Trace) → Trace
  covers s cs below = pay (cover_cost s cs) (tries s cs below)

  -- "A visit is a point where an item is chosen"; a point where none is taken is a solution
  abbrev pub spread : List Level → Option ℕ → (List Level → Trace) → Trace
  spread s None below = report s nothing
  spread s (Some i) below = visit (length s) (covers s (choices i (open_options P (chosen s))) below)

  module _ (rule : Rule) where
    -- the tree below a point, down to d levels further
    unfoldable pub tree : ℕ → List Level → Trace
    tree zero s = spread s (rule (chosen s)) (λ t. nothing)
    tree (suc d) s = spread s (rule (chosen s)) (λ t. tree d t)

    -- all of it: each level covers a primary item, so np levels are enough
    unfoldable pub whole : List Level → Trace
    whole s = tree P.np s

    -- ---- what is to come

    -- once the tree below a point is left
    unfoldable pub rest : List Level → Trace
    rest [] = nothing
    rest (v ∷ above) = tries above v.left whole then rest above

    -- at a point in a phase: from done the search starts over
    abbrev pub to_come : Phase → List Level → Trace
    to_come Ready s = whole s then rest s
    to_come Solution s = rest s
    to_come Done s = whole []

    -- where a walk has ended: from exhaustion nothing comes by itself
    abbrev pub remains : End → List Level → Trace
    remains solution s = rest s
    remains exhausted s = nothing
    remains paused s = whole s then rest s

-- what a walk made
abbrev pub found_by : End → List Level → List (List ℕ)
found_by solution s = numbers s ∷ []
found_by exhausted s = []
found_by paused s = []

abbrev pub made_by : Walk → Trace
made_by w = record { visits = w.visited; found = found_by w.end w.at; updates = w.updates }

-- ---- one walk after another

abbrev pub go_on_from : End → Walk → (List Level → Walk) → Walk
go_on_from solution w k = w
go_on_from exhausted w k = w
go_on_from paused w k = joined w (k w.at)

-- on from where the walk paused, if it did
abbrev pub go_on : Walk → (List Level → Walk) → Walk
go_on w k = go_on_from w.end w k

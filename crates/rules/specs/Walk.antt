-- The walk: depth first, with an allowance of visits; and the list of all solutions, with none.
use Rattle.std.specs.Prelude.{List, [], ◌∷◌, ◌++◌, map, ℕ, zero, suc, ◌+◌, length, Option, None, Some}
use Rattle.rules.specs.declared.Phase.{Phase}
use Rattle.rules.specs.declared.Phase.TheVariants.{Ready, Solution, Done}
use Rattle.rules.specs.Lists.{flat}
use Rattle.rules.specs.Problem.{Problem}
use Rattle.rules.specs.Order.{Placed, Choice, Rule, choices, open_options}
use Rattle.rules.specs.Links.{cost, choose, try, held}

-- a level: the choice tried there, and those still untried
pub record Level : Type 0 where
  pub tried : Choice
  pub left : List Choice

-- A point of the search is its levels, the deepest first. What is chosen there:
abbrev pub made : List Level → List Choice
made s = map (λ v. v.tried) s

abbrev pub chosen : List Level → List Placed
chosen s = map (λ v. v.tried.option) s

-- what the choices say, from the first level on
unfoldable pub in_order : {A : Type 0} → (Choice → A) → List Level → List A
in_order f [] = []
in_order f (v ∷ above) = in_order f above ++ (f v.tried ∷ [])

-- "zero-based option numbers in the order chosen"
abbrev pub numbers : List Level → List ℕ
numbers s = in_order (λ c. c.option.number) s

-- ---- moves

-- the next point, and the updates that lead to it
pub record Move : Type 0 where
  pub to : List Level
  pub updates : ℕ

module _ (P : Problem) where
  abbrev pub back_to : List Choice → List Level → Option Move → Option Move
  back_to [] above r = r
  back_to (c ∷ cs) above r = Some (record { to = record { tried = c; left = cs } ∷ above; updates = cost (try P (held (made above)) c) })

  -- the next choice at the deepest level that has one left
  unfoldable pub retreat : List Level → Option Move
  retreat [] = None
  retreat (v ∷ above) = back_to v.left above (retreat above)

  abbrev pub go_into : List Choice → List Level → Option Move
  go_into [] s = retreat s
  go_into (c ∷ cs) s = Some (record { to = record { tried = c; left = cs } ∷ s; updates = cost (choose P (held (made s)) c) })

  -- "tries its options in input order": a visit that takes item i goes to its first option, or back where it has none
  unfoldable pub enter : List Level → ℕ → Option Move
  enter s i = go_into (choices i (open_options P (chosen s))) s

-- ---- the walk

-- "The call answers solution, exhausted or paused"
pub data End : Type 0 where
  solution : End
  exhausted : End
  paused : End

-- the end, the point there, the levels visited in order, the updates made
pub record Walk : Type 0 where
  pub end : End
  pub at : List Level
  pub visited : List ℕ
  pub updates : ℕ

abbrev pub stop : End → List Level → Walk
stop e s = record { end = e; at = s; visited = []; updates = 0 }

abbrev pub visiting : ℕ → Walk → Walk
visiting l w = record { end = w.end; at = w.at; visited = l ∷ w.visited; updates = w.updates }

abbrev pub paying : ℕ → Walk → Walk
paying u w = record { end = w.end; at = w.at; visited = w.visited; updates = u + w.updates }

abbrev pub follow : Option Move → (List Level → Walk) → Walk
follow None k = stop exhausted []
follow (Some m) k = paying m.updates (k m.to)

-- a point with no open item is a solution; at any other an item is taken
abbrev pub at_point : List Level → Option ℕ → (ℕ → Walk) → Walk
at_point s None k = stop solution s
at_point s (Some i) k = k i

module _ (P : Problem) (rule : Rule) where
  -- From a point that is reached and not yet left, with an allowance of visits: "A visit is a point where an item is chosen, counted even if
  -- the item has no option"; it "pauses exactly when a visit is due and the allowance is spent".
  unfoldable pub walk : ℕ → List Level → Walk
  walk zero s = at_point s (rule (chosen s)) (λ i. stop paused s)
  walk (suc a) s = at_point s (rule (chosen s)) (λ i. visiting (length s) (follow (enter P s i) (λ t. walk a t)))

  -- from a point in a phase: a solution is left by going back, and "From done it .. starts over"
  unfoldable pub resume : ℕ → Phase → List Level → Walk
  resume a Ready s = walk a s
  resume a Solution s = follow (retreat P s) (λ t. walk a t)
  resume a Done s = walk a []

  -- ---- all solutions

  -- what lies below a point, by what lies below each of the choices there
  abbrev pub branch : List Placed → Option ℕ → (Placed → List (List Placed)) → List (List Placed)
  branch chosen None rest = chosen ∷ []
  branch chosen (Some i) rest = flat (λ c. rest c.option) (choices i (open_options P chosen))

  -- the solutions that extend the chosen options, each with the deepest choice first, down to d levels further
  unfoldable pub solutions : ℕ → List Placed → List (List Placed)
  solutions zero chosen = branch chosen (rule chosen) (λ o. [])
  solutions (suc d) chosen = branch chosen (rule chosen) (λ o. solutions d (o ∷ chosen))

-- the numbers of chosen options, "in the order chosen"; the deepest choice stands first in the list given
unfoldable pub in_turn : List Placed → List ℕ
in_turn [] = []
in_turn (o ∷ above) = in_turn above ++ (o.number ∷ [])

-- all that the search lists below the empty choice: each level covers a primary item, so np levels are enough
abbrev pub listed : Problem → Rule → List (List ℕ)
listed P rule = map in_turn (solutions P rule P.np [])

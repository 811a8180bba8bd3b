-- The order of the search: the kept options and their nodes, those still open, an item's count, the item taken.
use Rattle.std.specs.Prelude.{Bool, true, false, not, ◌&&◌, ◌||◌, cond, List, [], ◌∷◌, map, ℕ, suc, ◌+◌, eqb, ltb, length, Option, None, Some}
use Rattle.rules.specs.Lists.{also, keep, each, has, run}
use Rattle.rules.specs.Problem.{Entry, Problem, items}

-- ---- tests on options

-- item i occurs in the option
unfoldable pub has_item : ℕ → List Entry → Bool
has_item i o = has (λ e. eqb e.item i) o

-- the two entries have one colour, and it is not 0
abbrev pub one_colour : Entry → Entry → Bool
one_colour e d = eqb e.colour d.colour && not (eqb e.colour 0)

-- Knuth's relation as a test. A primary item has colour 0, so options that share one do not agree.
unfoldable pub agree : List Entry → List Entry → Bool
agree o p = each (λ e. each (λ d. not (eqb e.item d.item) || one_colour e d) p) o

-- ---- the kept options, where set-up puts them

-- "Options without a primary item are skipped; they keep their place in the numbering. The others are kept"
unfoldable pub kept : ℕ → List Entry → Bool
kept np o = has (λ e. ltb e.item np) o

-- a kept option: its number, its first node, its entries
pub record Placed : Type 0 where
  pub number : ℕ
  pub first : ℕ
  pub entries : List Entry

-- the last spacer once the option after spacer p is placed, if it is kept
abbrev pub spacer_after : Bool → ℕ → List Entry → ℕ
spacer_after true p o = p + length o + 1
spacer_after false p o = p

-- the options os, numbered from m, after the spacer p
unfoldable pub place : ℕ → ℕ → ℕ → List (List Entry) → List Placed
place np m p [] = []
place np m p (o ∷ os) =
    also (kept np o) (record { number = m; first = p + 1; entries = o }) (place np (m + 1) (spacer_after (kept np o) p o) os)

-- "1 to n are headers, n+1 the first spacer"
unfoldable pub placed : Problem → List Placed
placed P = place P.np 0 (items P + 1) P.options

-- ---- the order rule

-- the kept options that "agree with all chosen"
unfoldable pub open_options : Problem → List Placed → List Placed
open_options P chosen = keep (λ o. each (λ c. agree c.entries o.entries) chosen) (placed P)

-- the uncovered primary items, in order
unfoldable pub open_items : Problem → List Placed → List ℕ
open_items P chosen = keep (λ i. not (has (λ c. has_item i c.entries) chosen)) (run 0 P.np)

-- an option, and which of its entries it is tried for
pub record Choice : Type 0 where
  pub at : ℕ
  pub option : Placed

abbrev pub node : Choice → ℕ
node c = c.option.first + c.at

-- where item i first stands in the option
unfoldable pub place_of : ℕ → List Entry → ℕ
place_of i [] = 0
place_of i (e ∷ es) = cond (eqb e.item i) 0 (suc (place_of i es))

-- the options of the list that contain item i, in order
unfoldable pub choices : ℕ → List Placed → List Choice
choices i os = map (λ o. record { at = place_of i o.entries; option = o }) (keep (λ o. has_item i o.entries) os)

-- an item and its count
pub record Weighed : Type 0 where
  pub item : ℕ
  pub weight : ℕ

-- the lighter of the two, the first where they weigh the same
abbrev pub lighter : Weighed → Weighed → Weighed
lighter a b = cond (ltb b.weight a.weight) b a

unfoldable pub least_from : Weighed → List Weighed → Weighed
least_from a [] = a
least_from a (b ∷ rest) = least_from (lighter a b) rest

abbrev pub least : List Weighed → Option ℕ
least [] = None
least (a ∷ rest) = Some (least_from a rest).item

-- An order rule: the item taken where these options are chosen, or none where every primary item is covered.
abbrev pub Rule : Type 0
Rule = List Placed → Option ℕ

-- "an uncovered primary item's count is the number of kept options that contain it and agree with all chosen. The search takes the item of
-- least count, the lowest number among equals"
unfoldable pub pick : Problem → Rule
pick P chosen =
    let left : List Placed = open_options P chosen in
    least (map (λ i. record { item = i; weight = length (choices i left) }) (open_items P chosen))

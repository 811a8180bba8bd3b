-- How many updates there can be: the options of a list have no more nodes than the table.
use mathlib.Core.Path.{◌≡◌, refl, ap}
use mathlib.Core.Bool.{Bool, true, false}
use mathlib.Core.List.{List, [], ◌∷◌, ◌++◌, map}
use Prim.Native.Nat.{ℕ, zero, suc, ◌+◌, ◌*◌, ◌<◌, ◌≤◌}
use native.Mathlib.Omega.{arith}
use lib.ListN.{length}
use Rattle.rules.specs.Lists.{also, keep, flat}
use Rattle.rules.specs.Problem.{Entry, Problem}
use Rattle.rules.specs.Order.{has_item, one_colour, agree, Placed, placed, Choice, choices}
use Rattle.rules.specs.Links.{Node, others, own, linked, met, ring_part, touch, commit_node, commit, cost}
use Rattle.tables.specs.Nodes.{nodes, span, choice_of}
use Rattle.tables.specs.Met.{met_all, cost_append}
use Rattle.links.proofs.Hiding.{hide_is, hides_few, others_few}

-- the nodes of the choices' options, with a spacer each
abbrev pub spans : List Choice → ℕ
spans cs = span (map (λ c. c.option) cs)

pub spans_length : (cs : List Choice) → length cs ≤ spans cs
unfolding span
spans_length [] = omega arith
spans_length (c ∷ cs) = omega (arith, spans_length cs)

pub spans_part : (xs ys : List Choice) → spans xs ≤ spans (xs ++ ys)
unfolding span
spans_part [] ys = omega arith
spans_part (x ∷ xs) ys = omega (arith, spans_part xs ys)

span_keep : (p : Placed → Bool) (os : List Placed) → span (keep p os) ≤ span os
unfolding keep span
span_keep p [] = omega arith
span_keep p (o ∷ os) = go (p o) (span_keep p os)
  where
    go : (b : Bool) → span (keep p os) ≤ span os → span (also b o (keep p os)) ≤ length o.entries + 1 + span os
    go true h = omega arith
    go false h = omega arith

pub linked_few : (P : Problem) (held : List Entry) (i : ℕ) → spans (linked P held i) < nodes P
unfolding linked choices nodes
linked_few P held i =
    let os = keep (λ o. agree held o.entries) (placed P) in
    omega (arith, ap span (options (keep (λ o. has_item i o.entries) os)), span_keep (λ o. has_item i o.entries) os, span_keep (λ o. agree held o.entries) (placed P))
  where
    options : (os : List Placed) → map (λ (c : Choice). c.option) (map (choice_of i) os) ≡ os
    options [] = refl
    options (o ∷ os) = ap (λ (l : List Placed). o ∷ l) (options os)

met_few : (P : Problem) (held : List Entry) (c : Choice) (b : Bool) → cost (met P b held c) ≤ length c.option.entries
unfolding cost
met_few P held c true = omega arith
met_few P held c false = omega (arith, ap cost (hide_is P held c), hides_few held (others c), others_few c)

pub met_all_few : (P : Problem) (held : List Entry) (e : Entry) (xs : List Choice) → cost (met_all P held e xs) ≤ spans xs
unfolding flat cost span
met_all_few P held e [] = omega arith
met_all_few P held e (x ∷ xs) =
    omega (arith, cost_append (met P (one_colour e (own x)) held x) (met_all P held e xs), met_few P held x (one_colour e (own x)), met_all_few P held e xs)

touch_few : (P : Problem) (held : List Entry) (e : Entry) → cost (touch P held e) ≤ nodes P
unfolding touch cost
touch_few P held e =
    let l = linked P held e.item in
    omega (arith, cost_append (met_all P held e l) (ring_part e.colour e.item), met_all_few P held e l, linked_few P held e.item, ring_few e.colour)
  where
    ring_few : (k : ℕ) → cost (ring_part k e.item) ≤ 1
    ring_few zero = omega arith
    ring_few (suc k) = omega arith

-- committing an option is covering or purifying an item for each of its nodes
pub commit_few : (P : Problem) → nodes P < 2147483648 → (held : List Entry) (ns : List Node) → cost (commit P held ns) ≤ 2147483648 * length ns
unfolding commit cost
commit_few P h held [] = omega arith
commit_few P h held (x ∷ ns) =
    omega (arith, cost_append (commit_node P (has_item x.entry.item held) held x.entry) (commit P (x.entry ∷ held) ns), one (has_item x.entry.item held), commit_few P h (x.entry ∷ held) ns)
  where
    one : (b : Bool) → cost (commit_node P b held x.entry) ≤ 2147483648
    one true = omega arith
    one false = omega (arith, touch_few P held x.entry)

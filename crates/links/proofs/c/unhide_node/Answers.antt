-- `links::c::unhide_node` meets its contract: the node's colour still tells whether it is marked. Assumes nothing.
use Rattle.links.proofs.Hiding.{unmarked, marked, hidden_colour, hidden_tells, can_relink, unhide_unmarked, unhide_marked}
use Rattle.links.proofs.c.unhide_node.Goals as goal

pub is_unmarked-requires : goal.is_unmarked-requires
is_unmarked-requires c = hidden_colour c.requires.4

pub relink_node-requires : goal.relink_node-requires
relink_node-requires c =
    can_relink c.requires.4 (unmarked _ (hidden_tells c.requires.4) c.is_unmarked.ensures c.if-is_unmarked.true)

pub returns-then-is_unmarked : goal.returns-then-is_unmarked
returns-then-is_unmarked c =
    λ P W t₁ x H. unhide_unmarked H (unmarked _ (hidden_tells H) c.is_unmarked.ensures c.if-is_unmarked.true)
    c.relink_node.ensures

pub returns-else-is_unmarked : goal.returns-else-is_unmarked
returns-else-is_unmarked c = λ P W t₁ x H. unhide_marked H (marked _ (hidden_tells H) c.is_unmarked.ensures c.if-is_unmarked.false)

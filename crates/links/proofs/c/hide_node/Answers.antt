-- `links::c::hide_node` meets its contract: the node's colour tells whether it is marked. Assumes nothing.
use Rattle.links.proofs.Hiding.{unmarked, marked, node_tells, can_unlink, hide_unmarked, hide_marked}
use Rattle.links.proofs.c.hide_node.Goals as goal

pub returns-then-not-is_unmarked-clause-done : goal.returns-then-not-is_unmarked-clause-done
returns-then-not-is_unmarked-clause-done c =
    λ P W x A. hide_marked A (marked _ (node_tells A) c.is_unmarked.ensures c.if-not-is_unmarked.true)

pub unlink_node-requires : goal.unlink_node-requires
unlink_node-requires c =
    can_unlink c.requires.3 (unmarked _ (node_tells c.requires.3) c.is_unmarked.ensures c.if-not-is_unmarked.false)

pub returns-clause-done : goal.returns-clause-done
returns-clause-done c =
    λ P W x A.
    hide_unmarked A (unmarked _ (node_tells A) c.is_unmarked.ensures c.if-not-is_unmarked.false) c.unlink_node.ensures

-- `links::c::unpurify_node` meets its contract: the node's colour tells whether it was marked. Assumes nothing.
use Rattle.links.proofs.Hiding.{marked}
use Rattle.links.proofs.Purifying.{parting_colour, parting_test, unmarks}
use Rattle.links.proofs.c.unpurify_node.Goals as goal

pub is_unmarked-requires : goal.is_unmarked-requires
is_unmarked-requires c = parting_colour c.requires.some_parting.6

pub returns-else-is_unmarked : goal.returns-else-is_unmarked
returns-else-is_unmarked c =
    λ P W t₁ held e x M. unmarks M (marked _ (parting_test M) c.is_unmarked.ensures c.if-is_unmarked.false)
    c.put_colour.ensures

-- `links::c::purify_node` meets its contract: the test of the colour is the definition's. Assumes nothing.
use mathlib.Core.Path.{sym, ◌∙◌}
use Rattle.links.proofs.Purifying.{test_is, marks}
use Rattle.links.proofs.c.purify_node.Goals as goal

pub returns-then-has_colour : goal.returns-then-has_colour
returns-then-has_colour c =
    λ P W held e x M. marks M (sym (test_is M) ∙ sym c.has_colour.ensures ∙ c.if-has_colour.true)
    c.mark_node.ensures

use Rattle.std.proofs.Common.{sym, ◌∙◌}
use Rattle.text.proofs.Faults.{item_found}
use Rattle.text.proofs.items.items_fault.Goals as goal

pub returns-then-item_fault : goal.returns-then-item_fault
returns-then-item_fault c =
    item_found c.in-Some.ensures.steps c.loop-token.second c.item_fault.ensures c.if-item_fault.true
    ∙ sym c.loop-token.invariant

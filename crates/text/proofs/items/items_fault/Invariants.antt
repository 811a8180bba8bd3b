use Rattle.std.proofs.Common.{◌≡◌, false, length}
use Rattle.rules.specs.Text.{items_bad, tokens}
use Rattle.text.proofs.items.items_fault.Given as goal

abbrev pub invariant-loop-token : goal.invariant-loop-token
invariant-loop-token l = items_bad false (tokens l.items) ≡ items_bad l.second (tokens l.tokens.rest.now)

abbrev pub decreases-loop-token : goal.decreases-loop-token
decreases-loop-token l = length (tokens l.tokens.rest.now)

use Rattle.std.proofs.Common.{length}
use Rattle.rules.specs.Text.{tokens}
use Rattle.text.proofs.Barring.{Seeking}
use Rattle.text.proofs.names.Names.of.Given as goal

abbrev pub invariant-loop-token : goal.invariant-loop-token
invariant-loop-token l = Seeking l.items l.tokens.rest.now l.primaries

abbrev pub decreases-loop-token : goal.decreases-loop-token
decreases-loop-token l = length (tokens l.tokens.rest.now)

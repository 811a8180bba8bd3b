use Rattle.std.proofs.Common.{◌≡◌, length}
use Rattle.rules.specs.Text.{option_bad, tokens}
use Rattle.text.specs.Names.{known}
use Rattle.text.proofs.options.option_fault.Given as goal

abbrev pub invariant-loop-token : goal.invariant-loop-token
invariant-loop-token l = option_bad (known l.names) (tokens l.line) ≡ option_bad (known l.names)
    (tokens l.tokens.rest.now)

abbrev pub decreases-loop-token : goal.decreases-loop-token
decreases-loop-token l = length (tokens l.tokens.rest.now)

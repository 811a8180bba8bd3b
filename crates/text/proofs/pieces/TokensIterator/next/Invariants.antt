use Rattle.std.proofs.Common.{◌≡◌, length}
use Rattle.rules.specs.Text.{tokens}
use Rattle.text.proofs.pieces.TokensIterator.next.Given as goal

abbrev pub invariant-loop-line : goal.invariant-loop-line
invariant-loop-line l = tokens l.initial.self.rest.now ≡ tokens l.self.rest.now

abbrev pub decreases-loop-line : goal.decreases-loop-line
decreases-loop-line l = length l.self.rest.now

use Rattle.std.specs.Prelude.{length}
use Rattle.replay.proofs.lent.Lent.set_problem.Given as goal

abbrev pub decreases-loop-operands : goal.decreases-loop-operands
decreases-loop-operands l = length l.operands.rest.now

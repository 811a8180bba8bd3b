use native.Mathlib.Omega.{arith}
use Rattle.cover.proofs.Opening.{judged_here}
use Rattle.cover.proofs.open.judge.Goals as goal

pub returns : goal.returns
returns c = judged_here c.args.problem.now c.door.ensures _ c.accept.ensures (omega arith)

use Rattle.problem.proofs.FaultWalk.{Passing}
use Rattle.problem.proofs.fault.option_fault.Given as goal

abbrev pub invariant-loop-i : goal.invariant-loop-i
invariant-loop-i l = Passing l.ws l.p l.k l.np l.n l.stamp l.marks l.i

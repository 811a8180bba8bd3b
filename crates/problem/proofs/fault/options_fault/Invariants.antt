use Rattle.problem.proofs.FaultWalk.{Searching}
use Rattle.problem.proofs.fault.options_fault.Given as goal

abbrev pub invariant-loop : goal.invariant-loop
invariant-loop l = Searching l.ws l.m l.np l.n l.marks l.at l.counter

use Rattle.problem.proofs.SumLaws.{Counting}
use Rattle.problem.proofs.count_options.Given as goal

abbrev pub invariant-loop : goal.invariant-loop
invariant-loop l = Counting l.ws l.np l.m l.at l.counter l.s

use Rattle.init.proofs.OptionLaws.{Entering}
use Rattle.init.proofs.opts.enter_options.Given as goal

abbrev pub invariant-loop-number : goal.invariant-loop-number
invariant-loop-number l = Entering l.problem l.s l.m l.initial.t l.t l.at l.last l.number

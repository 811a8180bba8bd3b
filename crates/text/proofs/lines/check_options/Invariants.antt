use Rattle.text.specs.Names.{known}
use Rattle.text.proofs.Lining.{Checking}
use Rattle.text.proofs.lines.check_options.Given as goal

abbrev pub invariant-loop-number : goal.invariant-loop-number
invariant-loop-number l = Checking (known l.names) l.fn.lines l.number-iterator l.options l.words

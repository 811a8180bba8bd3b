use Rattle.text.specs.Names.{known}
use Rattle.text.specs.Pieces.{lines_left}
use Rattle.text.specs.Read.{options_words}
use Rattle.text.proofs.Putting.{Putting}
use Rattle.text.proofs.lines.write_options.Given as goal

abbrev pub invariant-loop-line : goal.invariant-loop-line
invariant-loop-line l =
    Putting (options_words (known l.names) (lines_left l.fn.lines.rest))
    (options_words (known l.names) (lines_left l.line-iterator.rest)) l.initial.words l.words l.next

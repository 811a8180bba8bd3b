use Rattle.text.specs.Pieces.{bytes_left}
use Rattle.text.proofs.Lining.{Seeking}
use Rattle.text.proofs.lines.find_items.Given as goal

abbrev pub invariant-loop-number : goal.invariant-loop-number
invariant-loop-number l = Seeking l.fn.lines l.lines

abbrev pub decreases-loop-number : goal.decreases-loop-number
decreases-loop-number l = bytes_left l.lines.rest

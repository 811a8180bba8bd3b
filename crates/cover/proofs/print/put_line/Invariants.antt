use Rattle.cover.proofs.Printing.{Lining}
use Rattle.cover.proofs.print.put_line.Given as goal

abbrev pub invariant-loop-k : goal.invariant-loop-k
invariant-loop-k l = Lining l.initial.out.items l.list l.count l.out.items l.k

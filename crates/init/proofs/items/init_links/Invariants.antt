use Rattle.init.proofs.ItemLaws.{Row}
use Rattle.init.proofs.items.init_links.Given as goal

abbrev pub invariant-loop-i : goal.invariant-loop-i
invariant-loop-i l = Row l.t l.i

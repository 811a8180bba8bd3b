use Rattle.cover.proofs.Printing.{space_between, lf_last}
use Rattle.cover.proofs.print.separator.Goals as goal

pub returns-then-next-count : goal.returns-then-next-count
returns-then-next-count c = space_between _ _ c.if-next-count.true

pub returns-else-next-count : goal.returns-else-next-count
returns-else-next-count c = lf_last _ _ c.if-next-count.false

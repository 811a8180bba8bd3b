use mathlib.Core.Path.{ap, ◌∙◌}
use mathlib.Core.List.{◌++◌}
use native.Mathlib.Omega.{arith}
use Rattle.cover.proofs.Printing.{line_start, line_turn, line_end, line_none}
use Rattle.cover.proofs.print.put_line.Goals as goal

pub returns-then-count-eq0 : goal.returns-then-count-eq0
returns-then-count-eq0 c =
    c.push.ensures.items ∙ ap (λ l. c.args.out.now.items ++ l) (line_none c.args.list.now c.if-count-eq0.true)

pub loop-k-init : goal.loop-k-init
loop-k-init c = line_start c.args.out.now.items c.args.list.now c.args.count

pub link_at-requires : goal.link_at-requires
link_at-requires c = record { a_in_bounds = omega arith; natural = c.requires.by_index c.loop-k.k c.loop-k-test.true }

pub put_number-requires : goal.put_number-requires
put_number-requires c = omega (arith, c.requires.room, c.loop-k.invariant.low)

pub loop-k-preserved : goal.loop-k-preserved
loop-k-preserved c =
    line_turn c.loop-k.invariant c.requires.count_in_bounds c.loop-k-test.true c.link_at.ensures.word_is
    c.separator.ensures c.put_number.ensures

pub returns : goal.returns
returns c = line_end c.loop-k.invariant c.requires.count_in_bounds c.if-count-eq0.false c.loop-k-test.false

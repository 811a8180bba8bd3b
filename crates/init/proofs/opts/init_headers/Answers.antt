use native.Mathlib.Omega.{arith}
use Rattle.init.proofs.AlikeLaws.{alike_less}
use Rattle.init.proofs.HeaderLaws.{next_header, first_spacer}
use Rattle.init.proofs.opts.init_headers.Goals as goal

pub loop-i-preserved : goal.loop-i-preserved
loop-i-preserved c =
    rw c.put_node.ensures (next_header c.args.np c.args.ns c.loop-i.t c.loop-i.i c.loop-i.invariant
    c.loop-i-test.true (omega arith))

pub returns : goal.returns
returns c =
    rw c.put_node-2.ensures
    (first_spacer c.args.np c.args.ns c.loop-i.t (alike_less c.loop-i.invariant (omega arith)) (omega arith))

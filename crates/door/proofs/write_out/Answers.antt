use native.Mathlib.Omega.{arith}
use Rattle.door.proofs.Written.{put_depth, put_next}
use Rattle.door.proofs.write_out.Goals as goal

pub loop-k-init : goal.loop-k-init
loop-k-init c = put_depth c.args.depth c.args.found.now (omega arith) c.put_bytes.ensures

pub loop-k-preserved : goal.loop-k-preserved
loop-k-preserved c =
    put_next c.args.depth c.loop-k.k c.args.found.now c.loop-k.invariant (omega arith) (omega arith)
    c.link_at.result c.link_at.ensures.word_is
    c.put_bytes-in-loop-k.ensures

use native.Mathlib.Omega.{arith}
use Rattle.init.proofs.ItemLaws.{rings_made}
use Rattle.init.proofs.items.init_links.Goals as goal

pub returns : goal.returns
returns c =
    rings_made c.args.np c.args.ns c.loop-i.t (omega arith) (λ j h. c.loop-i.invariant j (omega arith))
    c.put_link-2.ensures c.put_link-3.ensures c.put_link-4.ensures c.put_link-5.ensures

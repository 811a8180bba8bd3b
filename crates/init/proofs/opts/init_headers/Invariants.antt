use Prim.Native.Nat.{◌+◌}
use Rattle.rules.specs.Links.{top, fresh}
use Rattle.init.specs.SetUp.{Alike, bare}
use Rattle.init.proofs.opts.init_headers.Given as goal

abbrev pub invariant-loop-i : goal.invariant-loop-i
invariant-loop-i l = Alike (top (l.np + l.ns) l.i) l.t (fresh (bare l.np l.ns))

use mathlib.Core.Path.{◌≡◌}
use Prim.Native.Nat.{◌+◌, ◌*◌, ◌-◌}
use Rattle.rules.specs.Problem.{pairs_kept}
use Rattle.problem.specs.CutLaws.{entries_at}
use Rattle.problem.proofs.keeps.Given as goal

abbrev pub invariant-loop-i : goal.invariant-loop-i
invariant-loop-i l = pairs_kept l.np (entries_at l.ws l.p l.k) ≡ pairs_kept l.np
    (entries_at l.ws (l.p + 2 * l.i) (l.k - l.i))

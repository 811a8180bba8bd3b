use mathlib.Core.List.{List}
use Prim.Native.Nat.{ℕ}
use Rattle.rules.specs.Problem.{Problem}
use Rattle.rules.specs.Walk.{Level}
use Rattle.search.proofs.Replaying.{Looking}
use Rattle.search.specs.Points.{Picked}
use Rattle.links.specs.Rising.{way_down}
use lib.ListN.{length}
use Rattle.search.proofs.point.is_listed.Given as goal

abbrev pub invariant-loop-p : goal.invariant-loop-p
invariant-loop-p l = (P : Problem) (s : List Level) (j : ℕ) → Picked P l.n s j l.t l.i → Looking P s j l.q l.p

abbrev pub decreases-loop-p : goal.decreases-loop-p
decreases-loop-p l = way_down (length l.t) l.i l.p

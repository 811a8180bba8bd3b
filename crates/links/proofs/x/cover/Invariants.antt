use mathlib.Core.List.{List}
use lib.ListN.{length}
use Prim.Native.Nat.{ℕ}
use Rattle.rules.specs.Problem.{Entry, Problem}
use Rattle.links.specs.Moves.{bare, CanCover}
use Rattle.links.specs.Rising.{way_down}
use Rattle.links.proofs.Touching.{Touching}
use Rattle.links.proofs.x.cover.Given as goal

abbrev pub invariant-loop-p : goal.invariant-loop-p
invariant-loop-p l = (P : Problem) (held : List Entry) (j : ℕ) → CanCover P held l.n l.initial.t j l.i
    → Touching P held (bare j) l.initial.t l.t l.p l.updates

abbrev pub decreases-loop-p : goal.decreases-loop-p
decreases-loop-p l = way_down (length l.initial.t) l.i l.p

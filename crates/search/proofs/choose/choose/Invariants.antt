use mathlib.Core.List.{List}
use Rattle.rules.specs.Problem.{Problem}
use Rattle.rules.specs.Walk.{Level}
use Rattle.search.specs.Points.{At}
use Rattle.search.proofs.Choosing.{Choosing, rank}
use Rattle.search.proofs.choose.choose.Given as goal

abbrev pub invariant-loop-p : goal.invariant-loop-p
invariant-loop-p l = (P : Problem) (s : List Level) → At P l.n s l.t → Choosing P s l.p l.i l.min

abbrev pub decreases-loop-p : goal.decreases-loop-p
decreases-loop-p l = rank l.n l.p

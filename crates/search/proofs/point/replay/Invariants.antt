use mathlib.Core.List.{[]}
use Rattle.rules.specs.Problem.{Problem}
use Rattle.search.proofs.Replaying.{Replaying}
use Rattle.search.specs.Points.{At}
use Rattle.search.proofs.point.replay.Given as goal

abbrev pub invariant-loop-l : goal.invariant-loop-l
invariant-loop-l l = (P : Problem) → At P l.n [] l.initial.spare → Replaying P l.n l.depth l.spare l.path l.l

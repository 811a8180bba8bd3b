use mathlib.Core.List.{List}
use Rattle.rules.specs.Problem.{Problem}
use Rattle.rules.specs.Walk.{Level}
use Rattle.search.proofs.Replaying.{Undoing}
use Rattle.search.specs.Replays.{Trailed}
use Rattle.search.proofs.point.undo.Given as goal

abbrev pub invariant-loop-l : goal.invariant-loop-l
invariant-loop-l l = (P : Problem) (s : List Level) → Trailed P l.n s l.initial.spare l.path l.depth → Undoing P l.n l.spare l.path l.l

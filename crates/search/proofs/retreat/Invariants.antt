use mathlib.Core.List.{List}
use Rattle.rules.specs.Problem.{Problem}
use Rattle.rules.specs.Walk.{Level}
use Rattle.search.proofs.Moving.{Retreating}
use Rattle.search.specs.Points.{On}
use Rattle.search.proofs.retreat.Given as goal

abbrev pub invariant-loop-l : goal.invariant-loop-l
invariant-loop-l l = (P : Problem) (s : List Level) → On P l.n s l.initial.t l.initial.path l.depth → Retreating P l.n s l.t l.path l.l

use mathlib.Core.List.{List}
use Prim.Native.Nat.{◌-◌}
use Rattle.rules.specs.Walk.{Level}
use Rattle.rules.specs.Problem.{Problem}
use Rattle.search.specs.Points.{On}
use Rattle.search.proofs.Running.{Running}
use Rattle.search.proofs.run.Given as goal

abbrev pub invariant-loop-i : goal.invariant-loop-i
invariant-loop-i l = (P : Problem) (s : List Level) → On P l.n s l.initial.t l.initial.path l.initial.l
    → Running P l.n s l.initial.profile l.initial.u l.allowance l.t l.path l.profile l.l l.u l.visits

abbrev pub decreases-loop-i : goal.decreases-loop-i
decreases-loop-i l = l.allowance - l.visits

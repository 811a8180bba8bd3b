use mathlib.Core.Path.{◌≡◌}
use mathlib.Core.List.{[]}
use Prim.Native.Nat.{◌-◌}
use lib.ListN.{length}
use Rattle.rules.specs.Problem.{Problem}
use Rattle.search.specs.Points.{On}
use Rattle.search.proofs.Walking.{Walking}
use Rattle.search.proofs.walk_to.Given as goal

abbrev pub invariant-loop-i : goal.invariant-loop-i
invariant-loop-i l =
    (length l.path ≡ length l.initial.path)
    × ((P : Problem) → On P l.n [] l.initial.t l.initial.path 0
    → Walking P l.n l.number l.allowance l.initial.profile l.t l.path l.profile l.state l.left (l.number - l._i))

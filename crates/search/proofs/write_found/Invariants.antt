use mathlib.Core.List.{List}
use mathlib.Core.Path.{◌≡◌}
use Prim.Native.Nat.{◌≤◌}
use lib.ListN.{length}
use Rattle.rules.specs.Problem.{Problem}
use Rattle.rules.specs.Walk.{Level}
use Rattle.search.proofs.Found.{Writing}
use Rattle.search.specs.Points.{On}
use Rattle.search.proofs.write_found.Given as goal

abbrev pub invariant-loop-l : goal.invariant-loop-l
invariant-loop-l l = ((P : Problem) (s : List Level) → On P l.n s l.t l.path l.depth → Writing P s l.path l.l l.initial.found l.found) × (length l.found ≡ length l.initial.found) × (l.l ≤ l.depth)

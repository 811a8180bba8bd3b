use mathlib.Core.Path.{◌≡◌}
use mathlib.Core.List.{List}
use Prim.Native.Nat.{ℕ}
use lib.IntN.{ℤ}
use Rattle.rules.specs.Problem.{Entry, Problem, items}
use Rattle.rules.specs.Links.{linked, run_events}
use Rattle.tables.specs.Met.{met_all}
use Rattle.links.specs.Moves.{bare, CanCover}
use Rattle.links.proofs.Untouching.{Untouching}
use Rattle.links.proofs.x.uncover.Given as goal

abbrev pub invariant-loop-p : goal.invariant-loop-p
invariant-loop-p l = (P : Problem) (held : List Entry) (t₁ : List ℤ) (j : ℕ) → CanCover P held l.n t₁ j l.i
    → l.initial.t ≡ run_events (items P) t₁ (met_all P held (bare j) (linked P held j))
    → Untouching P held (bare j) t₁ l.t l.p

abbrev pub decreases-loop-p : goal.decreases-loop-p
decreases-loop-p l = l.p

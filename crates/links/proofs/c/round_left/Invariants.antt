use mathlib.Core.List.{List}
use lib.IntN.{ℤ}
use lib.ListN.{length}
use Rattle.rules.specs.Problem.{Problem}
use Rattle.rules.specs.Order.{Choice}
use Rattle.links.specs.Laps.{Lap, LapDone, Undoes}
use Rattle.links.proofs.Round.{way_left}
use Rattle.links.proofs.Lap.{Left}
use Rattle.links.proofs.c.round_left.Given as goal

abbrev pub invariant-loop-q : goal.invariant-loop-q
invariant-loop-q g l =
    (P : Problem) (t₁ : List ℤ) (c : Choice) (L : Lap P c l.n l.p t₁) → LapDone L l.initial.t
    → Undoes (goal.F-pre g) (goal.F-post g) l.at L → Left L l.t l.q

abbrev pub decreases-loop-q : goal.decreases-loop-q
decreases-loop-q g l = way_left (length l.initial.t) l.p l.q

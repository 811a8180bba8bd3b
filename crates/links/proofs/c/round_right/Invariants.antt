use lib.ListN.{length}
use Rattle.rules.specs.Problem.{Problem}
use Rattle.rules.specs.Order.{Choice}
use Rattle.links.specs.Laps.{Lap, Does}
use Rattle.links.proofs.Round.{way_right}
use Rattle.links.proofs.Lap.{Right}
use Rattle.links.proofs.c.round_right.Given as goal

abbrev pub invariant-loop-q : goal.invariant-loop-q
invariant-loop-q g l = (P : Problem) (c : Choice) (L : Lap P c l.n l.p l.initial.t)
    → Does (goal.F-pre g) (goal.F-post g) l.at L → Right L l.t l.q l.updates

abbrev pub decreases-loop-q : goal.decreases-loop-q
decreases-loop-q g l = way_right (length l.initial.t) l.p l.q

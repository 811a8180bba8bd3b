use mathlib.Core.List.{List}
use lib.ListN.{length}
use Rattle.rules.specs.Problem.{Entry, Problem}
use Rattle.links.specs.Steps.{CanPurify}
use Rattle.links.specs.Rising.{way_down}
use Rattle.links.proofs.Touching.{Touching}
use Rattle.links.proofs.c.purify.Given as goal

abbrev pub invariant-loop-q : goal.invariant-loop-q
invariant-loop-q l = (P : Problem) (held : List Entry) (e : Entry) → CanPurify P held l.n l.initial.t e l.p
    → Touching P held e l.initial.t l.t l.q l.updates

abbrev pub decreases-loop-q : goal.decreases-loop-q
decreases-loop-q l = way_down (length l.initial.t) l.i l.q

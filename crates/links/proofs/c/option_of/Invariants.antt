-- `links::c::option_of` meets its contract: the walk goes along the nodes of the option up to the spacer after it.
-- Assumes nothing.
use mathlib.Core.List.{List}
use Prim.Native.Nat.{◌-◌}
use lib.ListN.{length}
use Rattle.rules.specs.Problem.{Entry, Problem}
use Rattle.rules.specs.Order.{Choice}
use Rattle.links.specs.Moves.{IsNode}
use Rattle.links.proofs.Found.{Along}
use Rattle.links.proofs.c.option_of.Given as goal

abbrev pub invariant-loop-q : goal.invariant-loop-q
invariant-loop-q l = (P : Problem) (held : List Entry) (c : Choice) (N : IsNode P held l.n l.t c l.x) → Along N l.q

abbrev pub decreases-loop-q : goal.decreases-loop-q
decreases-loop-q l = length l.t - l.q

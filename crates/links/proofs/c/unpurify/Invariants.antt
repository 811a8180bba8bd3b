use mathlib.Core.List.{List}
use lib.IntN.{ℤ}
use Rattle.rules.specs.Problem.{Entry, Problem}
use Rattle.links.specs.Steps.{Purified}
use Rattle.links.proofs.Untouching.{Untouching}
use Rattle.links.proofs.c.unpurify.Given as goal

abbrev pub invariant-loop-q : goal.invariant-loop-q
invariant-loop-q l = (P : Problem) (held : List Entry) (t₁ : List ℤ) (e : Entry)
    → Purified P held l.n t₁ l.initial.t e l.p → Untouching P held e t₁ l.t l.q

abbrev pub decreases-loop-q : goal.decreases-loop-q
decreases-loop-q l = l.q

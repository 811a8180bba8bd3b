use mathlib.Core.Path.{◌∙◌}
use native.Mathlib.Omega.{arith}
use Rattle.search.proofs.Walking.{walk_ends, walk_stops, visits_few, walk_turns}
use Rattle.search.proofs.walk_to.Goals as goal

pub returns-in_default : goal.returns-in_default
returns-in_default c =
    λ P O.
    let W = c.loop-i.invariant.1 P O in
    walk_stops W (c.go-answer.ensures P W.s W.begun) c.in_default.not-Solution

pub overflow_sub-left : goal.overflow_sub-left
overflow_sub-left c =
    let P = c.requires.on.0 in
    let W = c.loop-i.invariant.1 P c.requires.on.1 in
    visits_few W (c.go-answer.ensures P W.s W.begun) c.in-Solution.is

pub loop-i-preserved : goal.loop-i-preserved
loop-i-preserved c = (
  c.go-answer.auto.path ∙ c.loop-i.invariant.0,
  λ P O.
      let W = c.loop-i.invariant.1 P O in
      walk_turns W (c.go-answer.ensures P W.s W.begun) c.in-Solution.is (omega (
        arith,
        c.loop-i-test.true,
      )) c.go-answer.auto.path,
)

pub returns : goal.returns
returns c =
    λ P O.
    let W = c.loop-i.invariant.1 P O in
    walk_ends W (c.go.ensures P W.s W.begun) (omega (arith, c.loop-i-test.false))

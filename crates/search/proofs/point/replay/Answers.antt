use native.Mathlib.Omega.{arith}
use Rattle.search.proofs.Replaying.{replay_on, replay_stop, replay_end}
use Rattle.search.proofs.point.replay.Goals as goal

pub returns-then-not-follow : goal.returns-then-not-follow
returns-then-not-follow c =
    λ P A.
    replay_stop (c.loop-l.invariant P A) c.requires.depth_in_bounds c.loop-l-test.true c.follow.result _ (c.follow.ensures P _ (record { at = (c.loop-l.invariant P A).on.at; inside = omega (arith, c.loop-l-test.true, c.requires.depth_in_bounds) })) (c.if-not-follow.true)

pub loop-l-preserved : goal.loop-l-preserved
loop-l-preserved c =
    λ P A.
    replay_on (c.loop-l.invariant P A) c.requires.depth_in_bounds c.loop-l-test.true c.follow.result _ (c.follow.ensures P _ (record { at = (c.loop-l.invariant P A).on.at; inside = omega (arith, c.loop-l-test.true, c.requires.depth_in_bounds) })) (c.if-not-follow.false)

pub returns : goal.returns
returns c = λ P A. replay_end (c.loop-l.invariant P A) c.loop-l-test.false

use Rattle.search.proofs.Moving.{deepest, gone_on, gone_back, gone_out}
use Rattle.search.proofs.retreat.Goals as goal

pub returns-in-Some : goal.returns-in-Some
returns-in-Some c = λ P s O.
    let D = deepest (c.loop-l.invariant P s O) c.loop-l-test.true in
    gone_on D _ _ _ (c.try_again.ensures P _ _ D.on) c.in-Some.is

pub loop-l-preserved : goal.loop-l-preserved
loop-l-preserved c = λ P s O.
    let D = deepest (c.loop-l.invariant P s O) c.loop-l-test.true in
    gone_back D _ _ _ (c.try_again.ensures P _ _ D.on) c.in_default.is

pub returns : goal.returns
returns c = λ P s O. gone_out (c.loop-l.invariant P s O) c.loop-l-test.false

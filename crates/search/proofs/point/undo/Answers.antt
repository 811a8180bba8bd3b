use Rattle.search.proofs.Replaying.{deepest}
use Rattle.search.proofs.point.undo.Goals as goal

pub loop-l-preserved : goal.loop-l-preserved
loop-l-preserved c = λ P s O.
    let D = deepest (c.loop-l.invariant P s O) c.loop-l-test.true in
    D.next (c.restore_item.ensures P _ _ (D.last c.link_at.ensures))

use Rattle.search.proofs.Replaying.{look_start, look, look_none}
use Rattle.search.proofs.Moving.{header_list}
use Rattle.search.proofs.point.is_listed.Goals as goal

pub dlink-p-requires : goal.dlink-p-requires
dlink-p-requires c = (_, _, _, _, _, header_list c.requires.3)

pub loop-p-init : goal.loop-p-init
loop-p-init c = λ P s j K. look_start K _ (c.dlink-p.ensures.value P _ _ _ _ (header_list K))

pub returns-then-p-q : goal.returns-then-p-q
returns-then-p-q c = λ P s j K. (look K (c.loop-p.invariant P s j K) c.loop-p-test.true).found c.if-p-q.true

pub dlink-p-requires-in-loop-p : goal.dlink-p-requires-in-loop-p
dlink-p-requires-in-loop-p c = (_, _, _, _, _, (look c.requires.3 (c.loop-p.invariant _ _ _ c.requires.3) c.loop-p-test.true).in_list)

pub loop-p-smaller : goal.loop-p-smaller
loop-p-smaller c =
    let L = look c.requires.3 (c.loop-p.invariant _ _ _ c.requires.3) c.loop-p-test.true in
    L.near (c.dlink-p-in-loop-p.ensures.value _ _ _ _ _ L.in_list)

pub loop-p-preserved : goal.loop-p-preserved
loop-p-preserved c = λ P s j K.
    let L = look K (c.loop-p.invariant P s j K) c.loop-p-test.true in
    L.next c.if-p-q.false (c.dlink-p-in-loop-p.ensures.value P _ _ _ _ L.in_list)

pub returns : goal.returns
returns c = λ P s j K. look_none K (c.loop-p.invariant P s j K) c.loop-p-test.false

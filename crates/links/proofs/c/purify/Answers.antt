use mathlib.Core.List.{List}
use native.Mathlib.Omega.{arith}
use Rattle.rules.specs.Problem.{Entry, Problem, items}
use Rattle.links.specs.Moves.{Done}
use Rattle.links.specs.Steps.{CanPurify}
use Rattle.links.proofs.Touching.{meet, has_first, touching_start, met_now, touching_near, has_next, touching_next, sum_few, purified}
use Rattle.links.proofs.Purifying.{its_header, purify_meets}
use Rattle.links.proofs.c.purify.Goals as goal

-- what was done at the node
did : (d : goal.After-t-1) {P : Problem} {held : List Entry} {e : Entry}
    (C : CanPurify P held d.args.n d.args.t.now e d.args.p)
    → Done (items P) d.loop-q.t
    (meet P held e
    (met_now C.touch (d.loop-q.invariant P held e C) (its_header C d.top_of-i.ensures) d.loop-q-test.true).0)
    d.purify_node-updates.new.t d.purify_node-updates.result
did d {P} {held} {e} C =
    d.purify_node-updates.ensures P _ held e _
    (purify_meets C d.top_of-i.ensures d.colour_of-c.ensures (d.loop-q.invariant P held e C) d.loop-q-test.true)

pub down_of-q-requires : goal.down_of-q-requires
down_of-q-requires c = has_first c.requires.3.touch (its_header c.requires.3 c.top_of-i.ensures)

pub loop-q-init : goal.loop-q-init
loop-q-init c = λ P held e C. touching_start C.touch (its_header C c.top_of-i.ensures) c.down_of-q.ensures

pub purify_node-updates-requires-clause-some_meeting : goal.purify_node-updates-requires-clause-some_meeting
purify_node-updates-requires-clause-some_meeting c =
    let C = c.requires.3 in (
      _,
      _,
      _,
      c.requires.2,
      _,
      purify_meets C c.top_of-i.ensures c.colour_of-c.ensures
          (c.loop-q.invariant _ _ _ C) c.loop-q-test.true,
    )

pub overflow_add-updates : goal.overflow_add-updates
overflow_add-updates c =
    let C = c.requires.3 in
    omega (
      arith,
      sum_few C.touch (c.loop-q.invariant _ _ _ C) (its_header C c.top_of-i.ensures) c.loop-q-test.true (did c C),
      C.touch.shown.small,
    )

pub down_of-q-requires-in-loop-q : goal.down_of-q-requires-in-loop-q
down_of-q-requires-in-loop-q c =
    let C = c.requires.3 in
    has_next C.touch (c.loop-q.invariant _ _ _ C) (its_header C c.top_of-i.ensures) c.loop-q-test.true (did c C)

pub loop-q-smaller : goal.loop-q-smaller
loop-q-smaller c =
    let C = c.requires.3 in
    touching_near C.touch (c.loop-q.invariant _ _ _ C) (its_header C c.top_of-i.ensures) c.loop-q-test.true
    (did c.before C) c.down_of-q-in-loop-q.ensures

pub loop-q-preserved : goal.loop-q-preserved
loop-q-preserved c =
    λ P held e C.
    touching_next C.touch (c.loop-q.invariant P held e C) (its_header C c.top_of-i.ensures) c.loop-q-test.true
    (did c.before C) c.down_of-q-in-loop-q.ensures

pub returns : goal.returns
returns c =
    λ P held e C.
    purified C.touch (c.loop-q.invariant P held e C) (its_header C c.top_of-i.ensures) c.loop-q-test.false C.coloured

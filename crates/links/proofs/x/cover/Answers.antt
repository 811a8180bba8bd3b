use mathlib.Core.Path.{refl}
use mathlib.Core.List.{List}
use Prim.Native.Nat.{ℕ}
use native.Mathlib.Omega.{arith}
use Rattle.rules.specs.Problem.{Entry, Problem, items}
use Rattle.links.specs.Moves.{bare, Done, CanCover}
use Rattle.links.proofs.Words.{done_at}
use Rattle.links.proofs.Touching.{meet, touching_few, has_first, touching_start, met_now, touching_near, touching_node, has_next, touching_next, sum_few, met_list, paid}
use Rattle.links.proofs.Covering.{can_touch, hide_meets, can_leave, covered}
use Rattle.links.proofs.x.cover.Goals as goal

-- what `hide` did
hid : (d : goal.After-t-1) {P : Problem} {held : List Entry} {j : ℕ}
    (C : CanCover P held d.args.n d.args.t.now j d.args.i)
    → Done (items P) d.loop-p.t (meet P held (bare j)
    (met_now (can_touch C) (d.loop-p.invariant P held j C) C.header.is d.loop-p-test.true).0) d.hide-updates.new.t
    d.hide-updates.result
hid d {P} {held} {j} C =
    let M = touching_node (can_touch C) (d.loop-p.invariant P held j C) C.header.is d.loop-p-test.true in
    hide_meets M j (d.hide-updates.ensures P _ held _ M.can)

pub down_of-p-requires : goal.down_of-p-requires
down_of-p-requires c = has_first (can_touch c.requires.3) c.requires.3.header.is

pub loop-p-init : goal.loop-p-init
loop-p-init c = λ P held j C. touching_start (can_touch C) C.header.is c.down_of-p.ensures

pub hide-updates-requires : goal.hide-updates-requires
hide-updates-requires c =
    (_, _, _, _, (touching_node (can_touch c.requires.3) (c.loop-p.invariant _ _ _ c.requires.3) c.requires.3.header.is c.loop-p-test.true).can)

pub overflow_add-updates : goal.overflow_add-updates
overflow_add-updates c =
    omega (arith, sum_few (can_touch c.requires.3) (c.loop-p.invariant _ _ _ c.requires.3) c.requires.3.header.is c.loop-p-test.true (hid c c.requires.3), c.requires.3.header.shown.small)

pub down_of-p-requires-in-loop-p : goal.down_of-p-requires-in-loop-p
down_of-p-requires-in-loop-p c =
    has_next (can_touch c.requires.3) (c.loop-p.invariant _ _ _ c.requires.3) c.requires.3.header.is c.loop-p-test.true (hid c c.requires.3)

pub loop-p-smaller : goal.loop-p-smaller
loop-p-smaller c =
    let C = c.requires.3 in
    touching_near (can_touch C) (c.loop-p.invariant _ _ _ C) C.header.is c.loop-p-test.true
    (hid c.before C) c.down_of-p-in-loop-p.ensures

pub loop-p-preserved : goal.loop-p-preserved
loop-p-preserved c =
    λ P held j C.
    touching_next (can_touch C) (c.loop-p.invariant P held j C) C.header.is c.loop-p-test.true (hid c.before C) c.down_of-p-in-loop-p.ensures

pub unlink_item-requires : goal.unlink_item-requires
unlink_item-requires c = (
  _,
  _,
  _,
  _,
  can_leave (can_touch c.requires.3) refl (met_list (can_touch c.requires.3) (c.loop-p.invariant _ _ _ c.requires.3) c.requires.3.header.is c.loop-p-test.false)
      c.requires.3.header.is,
)

pub overflow_add-result : goal.overflow_add-result
overflow_add-result c =
    omega (arith, touching_few (c.loop-p.invariant _ _ _ c.requires.3), c.requires.3.header.shown.small)

pub returns : goal.returns
returns c =
    λ P held j C.
    let K = c.loop-p.invariant P held j C in
    let is = C.header.is in
    let w = met_list (can_touch C) K is c.loop-p-test.false in
    done_at C.header.n_is (covered (can_touch C) refl w (c.unlink_item.ensures (items P) j is) (paid (can_touch C) K is c.loop-p-test.false))

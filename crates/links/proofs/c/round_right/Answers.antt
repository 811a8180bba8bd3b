use mathlib.Core.Path.{◌≡◌, refl, sym, ◌∙◌}
use mathlib.Core.List.{List}
use lib.IntN.{ℤ}
use denote.MutBor.{MutBor}
use Rattle.std.proofs.Common.{rules}
use native.Mathlib.Omega.{arith}
use Rattle.links.proofs.Lap.{right_start, right_test, right_below, right_does, right_next, right_few, right_turns, right_turn, right_turn_near, right_end}
use Rattle.links.proofs.c.round_right.Goals as goal

pub overflow_add-q : goal.overflow_add-q
overflow_add-q g c = omega (arith, right_below (right_start c.requires.2))

pub loop-q-init : goal.loop-q-init
loop-q-init g c = λ P c' L D. right_start L

pub is_node-requires : goal.is_node-requires
is_node-requires g c = right_test (c.loop-q.invariant _ _ c.requires.2 c.requires.3)

pub at-updates-requires : goal.at-updates-requires
at-updates-requires g c =
    let K = c.loop-q.invariant _ _ c.requires.2 c.requires.3 in
    let h : (m : MutBor (List ℤ)) → m.now ≡ c.loop-q.t → goal.F-pre g c.args.at m c.args.n c.loop-q.q =
    λ m e. (right_does K c.loop-q-test.true (sym c.is_node.ensures
    ∙ c.if-is_node.true) (goal.F-pre g) (goal.F-post g) c.args.at c.requires.3 m e).0 in
    search rules

pub overflow_add-updates : goal.overflow_add-updates
overflow_add-updates g c =
    let K = c.loop-q.invariant _ _ c.requires.2 c.requires.3 in
    let b = sym c.is_node.ensures ∙ c.if-is_node.true in
    let h = (right_does K c.loop-q-test.true b (goal.F-pre g)
    (goal.F-post g) c.args.at c.requires.3 _ refl).1 _ _ c.at-updates.ensures in
    omega (arith, right_few (right_next K c.loop-q-test.true b h))

pub loop-q-preserved-then-is_node : goal.loop-q-preserved-then-is_node
loop-q-preserved-then-is_node g c =
    λ P c' L D.
    let K = c.loop-q.invariant P c' L D in
    let b = sym c.is_node.ensures ∙ c.if-is_node.true in
    right_next K c.loop-q-test.true b
    ((right_does K c.loop-q-test.true b (goal.F-pre g) (goal.F-post g) c.args.at D _ refl).1 _ _ c.at-updates.ensures)

pub up_of-q-requires : goal.up_of-q-requires
up_of-q-requires g c =
    right_turns (c.loop-q.invariant _ _ c.requires.2 c.requires.3) c.loop-q-test.true (sym c.is_node.ensures
    ∙ c.if-is_node.false)

pub loop-q-smaller : goal.loop-q-smaller
loop-q-smaller g c =
    right_turn_near (c.loop-q.invariant _ _ c.requires.2 c.requires.3) c.loop-q-test.true (sym c.is_node.ensures
    ∙ c.if-is_node.false)
    c.up_of-q.ensures

pub loop-q-preserved : goal.loop-q-preserved
loop-q-preserved g c =
    λ P c' L D. right_turn (c.loop-q.invariant P c' L D) c.loop-q-test.true
    (sym c.is_node.ensures ∙ c.if-is_node.false) c.up_of-q.ensures

pub returns : goal.returns
returns g c = λ P c' L D. right_end (c.loop-q.invariant P c' L D) c.loop-q-test.false

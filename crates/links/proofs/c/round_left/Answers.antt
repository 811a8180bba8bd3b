use mathlib.Core.Path.{◌≡◌, refl, sym, ◌∙◌}
use mathlib.Core.List.{List}
use native.Mathlib.Omega.{arith}
use lib.IntN.{ℤ}
use lib.ListN.{length}
use denote.MutBor.{MutBor}
use Rattle.std.proofs.Common.{rules}
use Rattle.links.proofs.Lap.{left_some, left_start, left_long, left_test, left_does, left_more, left_near, left_next, left_turns, left_turn, left_turn_near, left_end}
use Rattle.links.proofs.c.round_left.Goals as goal

pub overflow_sub-q : goal.overflow_sub-q
overflow_sub-q g c = omega (arith, left_some c.requires.3)

pub loop-q-init : goal.loop-q-init
loop-q-init g c = λ P t₁ c' L w D. left_start L w

pub is_node-requires : goal.is_node-requires
is_node-requires g c = left_test (c.loop-q.invariant _ _ _ c.requires.3 c.requires.4 c.requires.5)

pub at-requires : goal.at-requires
at-requires g c =
    let K = c.loop-q.invariant _ _ _ c.requires.3 c.requires.4 c.requires.5 in
    let b = sym c.is_node.ensures ∙ c.if-is_node.true in
    let h : (m : MutBor (List ℤ)) → m.now ≡ c.loop-q.t → goal.F-pre g c.args.at m c.args.n c.loop-q.q =
    λ m e. (left_does K c.loop-q-test.true b (goal.F-pre g) (goal.F-post g) c.args.at c.requires.5 m e).0 in
    search rules

pub overflow_sub-q-then-is_node : goal.overflow_sub-q-then-is_node
overflow_sub-q-then-is_node g c =
    let K = c.loop-q.invariant _ _ _ c.requires.3 c.requires.4 c.requires.5 in
    omega (arith, left_more K c.loop-q-test.true (sym c.is_node.ensures ∙ c.if-is_node.true))

pub loop-q-smaller-then-is_node : goal.loop-q-smaller-then-is_node
loop-q-smaller-then-is_node g c =
    let K = c.loop-q.invariant _ _ _ c.requires.3 c.requires.4 c.requires.5 in
    left_near K c.loop-q-test.true (sym c.is_node.ensures ∙ c.if-is_node.true) (length c.args.t.now)

pub loop-q-preserved-then-is_node : goal.loop-q-preserved-then-is_node
loop-q-preserved-then-is_node g c =
    λ P t₁ c' L w D.
    let K = c.loop-q.invariant P t₁ c' L w D in
    let b = sym c.is_node.ensures ∙ c.if-is_node.true in
    left_next K c.loop-q-test.true b
    ((left_does K c.loop-q-test.true b (goal.F-pre g) (goal.F-post g) c.args.at D _ refl).1 _ c.at.ensures)

pub down_of-q-requires : goal.down_of-q-requires
down_of-q-requires g c =
    let K = c.loop-q.invariant _ _ _ c.requires.3 c.requires.4 c.requires.5 in
    left_turns K c.loop-q-test.true (sym c.is_node.ensures ∙ c.if-is_node.false)

pub loop-q-smaller : goal.loop-q-smaller
loop-q-smaller g c =
    let K = c.loop-q.invariant _ _ _ c.requires.3 c.requires.4 c.requires.5 in
    left_turn_near K c.loop-q-test.true (sym c.is_node.ensures ∙ c.if-is_node.false) c.down_of-q.ensures
    (left_long K c.requires.4)

pub loop-q-preserved : goal.loop-q-preserved
loop-q-preserved g c =
    λ P t₁ c' L w D.
    left_turn (c.loop-q.invariant P t₁ c' L w D) c.loop-q-test.true (sym c.is_node.ensures ∙ c.if-is_node.false)
    c.down_of-q.ensures

pub returns : goal.returns
returns g c = λ P t₁ c' L w D. left_end (c.loop-q.invariant P t₁ c' L w D) c.loop-q-test.false

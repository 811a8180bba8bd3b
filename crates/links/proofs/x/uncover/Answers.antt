use mathlib.Core.Path.{◌≡◌, refl, ap, ◌∙◌}
use mathlib.Core.List.{List}
use Prim.Native.Nat.{ℕ}
use lib.IntN.{ℤ}
use Rattle.rules.specs.Problem.{Entry, Problem, items}
use Rattle.rules.specs.Links.{linked, touch, remove, run_events}
use Rattle.tables.specs.Undo.{undo}
use Rattle.tables.specs.Met.{met_all}
use Rattle.links.specs.Moves.{bare, CanCover, Covered}
use Rattle.links.proofs.Untouching.{has_last, untouching_start, untouching_end, fore, untouching_near, untouching_node, has_previous, untouching_next}
use Rattle.links.proofs.Covering.{can_touch, bare_hidden, can_return, returned}
use Rattle.links.proofs.x.uncover.Goals as goal

-- what the caller knows of the table, for the problem's number of items
now_is : {P : Problem} {held : List Entry} {n : ℕ} {t₁ t : List ℤ} {j i : ℕ} → Covered P held n t₁ t j i
    → t ≡ run_events (items P) t₁ (touch P held (bare j))
now_is {P} {held} {n} {t₁} {t} {j} {i} Q = Q.is ∙ ap (λ (k : ℕ). run_events k t₁ (touch P held (bare j))) Q.can.header.n_is

-- the item is back in its ring
back : {P : Problem} {held : List Entry} {n : ℕ} {t₁ t t' : List ℤ} {j i : ℕ} → Covered P held n t₁ t j i
    → t' ≡ undo (items P) t (remove j) → t' ≡ run_events (items P) t₁ (met_all P held (bare j) (linked P held j))
back Q f = returned (can_touch Q.can) refl refl (now_is Q) f

-- what `unhide` did
unhid : (d : goal.After-t-in-loop-p-1) {P : Problem} {held : List Entry} {t₁ : List ℤ} {j : ℕ}
    (C : CanCover P held d.args.n t₁ j d.args.i)
    (w : d.relink_item.new.t ≡ run_events (items P) t₁ (met_all P held (bare j) (linked P held j)))
    → d.unhide.new.t ≡ fore (can_touch C) (d.loop-p.invariant P held t₁ j C w) C.header.is d.loop-p-test.true
unhid d {P} {held} {t₁} {j} C w =
    d.unhide.ensures P _ _ held _ (bare_hidden (untouching_node (can_touch C) (d.loop-p.invariant P held t₁ j C w) C.header.is d.loop-p-test.true))

pub relink_item-requires : goal.relink_item-requires
relink_item-requires c =
    let Q = c.requires.4 in
    (_, _, _, _, can_return (can_touch Q.can) refl refl (now_is Q) Q.can.header.is)

pub up_of-p-requires : goal.up_of-p-requires
up_of-p-requires c =
    let Q = c.requires.4 in
    has_last (can_touch Q.can) (back Q (c.relink_item.ensures _ _ Q.can.header.is)) Q.can.header.is

pub loop-p-init : goal.loop-p-init
loop-p-init c = λ P held t₁ j C w. untouching_start (can_touch C) w C.header.is c.up_of-p.ensures

pub unhide-requires : goal.unhide-requires
unhide-requires c =
    let Q = c.requires.4 in
    let K = c.loop-p.invariant _ _ _ _ Q.can (back Q (c.relink_item.ensures _ _ Q.can.header.is)) in
    (_, _, _, _, _, bare_hidden (untouching_node (can_touch Q.can) K Q.can.header.is c.loop-p-test.true))

pub up_of-p-requires-in-loop-p : goal.up_of-p-requires-in-loop-p
up_of-p-requires-in-loop-p c =
    let C = c.requires.4.can in
    let w = back c.requires.4 (c.relink_item.ensures _ _ C.header.is) in
    has_previous (can_touch C) (c.loop-p.invariant _ _ _ _ C w) C.header.is c.loop-p-test.true (unhid c C w)

pub loop-p-smaller : goal.loop-p-smaller
loop-p-smaller c =
    let C = c.requires.4.can in
    let w = back c.requires.4 (c.relink_item.ensures _ _ C.header.is) in
    untouching_near (can_touch C) (c.loop-p.invariant _ _ _ _ C w) C.header.is c.loop-p-test.true (unhid c.before C w)
    c.up_of-p-in-loop-p.ensures

pub loop-p-preserved : goal.loop-p-preserved
loop-p-preserved c =
    λ P held t₁ j C w.
    untouching_next (can_touch C) (c.loop-p.invariant P held t₁ j C w) C.header.is c.loop-p-test.true (unhid c.before C w)
    c.up_of-p-in-loop-p.ensures

pub returns : goal.returns
returns c =
    λ P held t₁ j Q.
    let w = back Q (c.relink_item.ensures _ _ Q.can.header.is) in
    untouching_end (can_touch Q.can) (c.loop-p.invariant P held t₁ j Q.can w) Q.can.header.is c.loop-p-test.false

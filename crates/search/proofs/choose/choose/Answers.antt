use mathlib.Core.Path.{◌≡◌, refl, ◌∙◌}
use mathlib.Core.Logic.{◌≢◌}
use mathlib.Core.List.{List, [], map}
use Prim.Native.Nat.{ℕ, suc}
use lib.IntN.{ℤ}
use Rattle.rules.specs.Problem.{Problem}
use Rattle.rules.specs.Order.{open_items}
use Rattle.rules.specs.Walk.{Level, chosen}
use Rattle.rules.specs.Links.{first_or}
use Rattle.search.specs.Points.{At}
use Rattle.search.proofs.Choosing.{Choosing, Turn, ring_start, none_open, begin, turn, lighter_one, no_lighter, chosen_is}
use Rattle.search.proofs.choose.choose.Goals as goal
use Rattle.search.proofs.choose.choose.Goals.{then-curr-min, else-curr-min}

-- the first open item
first : {P : Problem} {n : ℕ} {s : List Level} {t : List ℤ} {i : ℕ} → At P n s t → i ≡ first_or 0 (map suc (open_items P (chosen s))) → i ≢ 0
    → Turn P n s t [] (open_items P (chosen s)) i
first A e ne = turn _ _ _ _ A [] _ _ refl e ne

-- the item of a turn
at_turn : {P : Problem} {n : ℕ} {s : List Level} {t : List ℤ} {p i min : ℕ} → At P n s t → (C : Choosing P s p i min) → p ≢ 0 → Turn P n s t C.done C.rest p
at_turn A C ne = turn _ _ _ _ A C.done C.rest _ C.split C.at ne

pub rlink-i-requires : goal.rlink-i-requires
rlink-i-requires c = (_, _, _, _, ring_start c.requires.0 _ c.requires.1 _ c.requires.2)

pub returns-then-i-eq0 : goal.returns-then-i-eq0
returns-then-i-eq0 c = λ P s A. none_open P _ s _ A _ (c.rlink-i.ensures P _ _ _ (ring_start P _ s _ A)) c.if-i-eq0.true

pub len-min-requires : goal.len-min-requires
len-min-requires c =
    let A = c.requires.2 in
    let T = first A (c.rlink-i.ensures _ _ _ _ (ring_start _ _ _ _ A)) c.if-i-eq0.false in
    (_, _, _, T.headed)

pub rlink-p-requires : goal.rlink-p-requires
rlink-p-requires c =
    let A = c.requires.2 in
    let T = first A (c.rlink-i.ensures _ _ _ _ (ring_start _ _ _ _ A)) c.if-i-eq0.false in
    (_, _, _, _, T.ringed)

pub loop-p-init : goal.loop-p-init
loop-p-init c = λ P s A.
    let T = first A (c.rlink-i.ensures P _ _ _ (ring_start P _ s _ A)) c.if-i-eq0.false in
    begin P _ s _ A T _ _ (c.rlink-p.ensures P _ _ _ T.ringed) (c.len-min.ensures P _ _ T.headed ∙ T.counts)

pub len-curr-requires : goal.len-curr-requires
len-curr-requires c =
    let A = c.requires.2 in
    let T = at_turn A (c.loop-p.invariant _ _ A) c.loop-p-test.true in
    (_, _, _, T.headed)

pub rlink-p-requires-in-loop-p : goal.rlink-p-requires-in-loop-p
rlink-p-requires-in-loop-p c =
    let A = c.requires.2 in
    let T = at_turn A (c.loop-p.invariant _ _ A) c.loop-p-test.true in
    (_, _, _, _, T.ringed)

pub loop-p-smaller : goal.loop-p-smaller
loop-p-smaller c =
    let A = c.requires.2 in
    let T = at_turn A (c.loop-p.invariant _ _ A) c.loop-p-test.true in
    T.less _ (c.rlink-p-in-loop-p.ensures _ _ _ _ T.ringed)

pub loop-p-preserved : goal.loop-p-preserved
loop-p-preserved c = λ P s A.
    let C = c.loop-p.invariant P s A in
    let T = at_turn A C c.loop-p-test.true in
    let u = c.rlink-p-in-loop-p.ensures P _ _ _ T.ringed in
    let v = c.len-curr.ensures P _ _ T.headed ∙ T.counts in
    elim c.if-curr-min.branch [
      | then-curr-min w ↦ rw (w.i-is, w.min-is) (lighter_one P _ s _ A C T _ _ u v w.if-curr-min.true)
      | else-curr-min w ↦ rw (w.i-is, w.min-is) (no_lighter P _ s _ A C T _ _ u v w.if-curr-min.false)
    ]

pub returns : goal.returns
returns c = λ P s A. chosen_is P _ s _ A (c.loop-p.invariant P s A) c.loop-p-test.false

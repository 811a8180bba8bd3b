use mathlib.Core.Path.{◌≡◌, ap, ◌∙◌}
use mathlib.Core.List.{List}
use Prim.Native.Nat.{ℕ}
use lib.IntN.{ℤ}
use Rattle.rules.specs.Problem.{Entry, Problem, items}
use Rattle.rules.specs.Links.{linked, run_events}
use Rattle.tables.specs.Met.{met_all}
use Rattle.links.specs.Steps.{Purified}
use Rattle.links.proofs.Touching.{touch_coloured}
use Rattle.links.proofs.Untouching.{has_last, untouching_start, untouching_end, fore, untouching_near, has_previous, untouching_next}
use Rattle.links.proofs.Purifying.{header_still, unpurify_parts}
use Rattle.links.proofs.c.unpurify.Goals as goal

-- all nodes of the list have been met
words : {P : Problem} {held : List Entry} {n : ℕ} {t₁ t : List ℤ} {e : Entry} {p : ℕ} → Purified P held n t₁ t e p
    → t ≡ run_events (items P) t₁ (met_all P held e (linked P held e.item))
words {P} {held} {n} {t₁} {t} {e} {p} Q = Q.is ∙ ap (run_events (items P) t₁) (touch_coloured P held e Q.coloured)

-- what was undone at the node
undid : (d : goal.After-t-1) {P : Problem} {held : List Entry} {t₁ : List ℤ} {e : Entry}
    (Q : Purified P held d.args.n t₁ d.args.t.now e d.args.p)
    → d.unpurify_node.new.t ≡ fore Q.can (d.loop-q.invariant P held t₁ e Q)
    (header_still Q d.top_of-i.ensures) d.loop-q-test.true
undid d {P} {held} {t₁} {e} Q =
    d.unpurify_node.ensures P _ _ held e _
    (unpurify_parts Q d.top_of-i.ensures d.colour_of-c.ensures (d.loop-q.invariant P held t₁ e Q) d.loop-q-test.true)

pub up_of-q-requires : goal.up_of-q-requires
up_of-q-requires c = has_last c.requires.4.can (words c.requires.4) (header_still c.requires.4 c.top_of-i.ensures)

pub loop-q-init : goal.loop-q-init
loop-q-init c = λ P held t₁ e Q. untouching_start Q.can (words Q) (header_still Q c.top_of-i.ensures) c.up_of-q.ensures

pub unpurify_node-requires-clause-some_parting : goal.unpurify_node-requires-clause-some_parting
unpurify_node-requires-clause-some_parting c =
    let Q = c.requires.4 in (
      _,
      _,
      _,
      _,
      _,
      _,
      unpurify_parts Q c.top_of-i.ensures c.colour_of-c.ensures
          (c.loop-q.invariant _ _ _ _ Q) c.loop-q-test.true,
    )

pub up_of-q-requires-in-loop-q : goal.up_of-q-requires-in-loop-q
up_of-q-requires-in-loop-q c =
    let Q = c.requires.4 in
    has_previous Q.can (c.loop-q.invariant _ _ _ _ Q) (header_still Q c.top_of-i.ensures) c.loop-q-test.true (undid c Q)

pub loop-q-smaller : goal.loop-q-smaller
loop-q-smaller c =
    let Q = c.requires.4 in
    untouching_near Q.can (c.loop-q.invariant _ _ _ _ Q) (header_still Q c.top_of-i.ensures) c.loop-q-test.true
    (undid c.before Q) c.up_of-q-in-loop-q.ensures

pub loop-q-preserved : goal.loop-q-preserved
loop-q-preserved c =
    λ P held t₁ e Q.
    untouching_next Q.can (c.loop-q.invariant P held t₁ e Q) (header_still Q c.top_of-i.ensures) c.loop-q-test.true
    (undid c.before Q) c.up_of-q-in-loop-q.ensures

pub returns : goal.returns
returns c =
    λ P held t₁ e Q.
    untouching_end Q.can (c.loop-q.invariant P held t₁ e Q) (header_still Q c.top_of-i.ensures) c.loop-q-test.false

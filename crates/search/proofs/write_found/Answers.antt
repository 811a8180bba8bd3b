use mathlib.Core.Path.{refl, ap, ◌∙◌}
use Prim.Native.Nat.{ℕ, ◌-◌}
use native.Mathlib.Omega.{arith}
use lib.IntN.{pos}
use lib.ListN.{set}
use Rattle.search.proofs.Found.{writing, line, written}
use Rattle.search.proofs.write_found.Goals as goal

pub loop-l-init : goal.loop-l-init
loop-l-init c = (λ P s O. writing _ O, refl, omega arith)

pub link_at-requires : goal.link_at-requires
link_at-requires c =
    let O = c.requires.some_on.2 in
    let L = line O.at (c.loop-l.invariant.0 _ _ O) c.loop-l-test.true in
    record { a_in_bounds = L.inside; natural = L.natural }

pub option_of-m-requires : goal.option_of-m-requires
option_of-m-requires c =
    let O = c.requires.some_on.2 in
    let L = line O.at (c.loop-l.invariant.0 _ _ O) c.loop-l-test.true in
    (_, _, _, L.is_node c.link_at.ensures)

pub loop-l-preserved : goal.loop-l-preserved
loop-l-preserved c = (
  λ P s O.
      let L = line O.at (c.loop-l.invariant.0 P s O) c.loop-l-test.true in
      L.next (c.put_link.ensures ∙ ap (λ (m : ℕ). set c.loop-l.found (c.loop-l.l - 1) (pos m)) (c.option_of-m.ensures.value _ _ _ (L.is_node c.link_at.ensures)))
      (omega (arith, c.loop-l-test.true, c.loop-l.invariant.1, c.loop-l.invariant.2, c.requires.depth_in_bounds)),
  c.put_link.auto.t ∙ c.loop-l.invariant.1,
  omega (arith, c.loop-l.invariant.2),
)

pub returns : goal.returns
returns c = λ P s O. written (c.loop-l.invariant.0 P s O) c.loop-l-test.false

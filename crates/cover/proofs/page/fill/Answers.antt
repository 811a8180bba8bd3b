use mathlib.Core.Path.{refl, ◌∙◌}
use Prim.Native.Nat.{◌+◌, ◌≤◌}
use native.Mathlib.Omega.{arith}
use lib.ListN.{length}
use Rattle.cover.proofs.Filling.{fill_start, fill_turn, fill_grows, fill_ends, on_there, level_low}
use Rattle.cover.proofs.page.fill.Goals as goal

pub loop-t-init : goal.loop-t-init
loop-t-init c = (refl, refl, refl, λ P all C. fill_start c.clear.ensures C)

pub go-requires : goal.go-requires
go-requires c =
    let C = (c.loop-t.invariant.3 _ _ c.requires.2).coming in
    record { updates_le_cap = C.small; profile = C.counts; some_begun = (_, _, C.begun) }

pub returns-in_default : goal.returns-in_default
returns-in_default c =
    λ P all C.
    let F = c.loop-t.invariant.3 P all C in
    record { page = fill_ends F (c.go.ensures P _ F.coming.begun) c.go.auto.path c.in_default.not-Solution }

pub put_solution-requires : goal.put_solution-requires
put_solution-requires c =
    let F = c.loop-t.invariant.3 _ _ c.requires.2 in
    let R = c.go.ensures _ _ F.coming.begun in
    let k = c.go.auto.path in
    let q = c.in-Solution.is in
    record {
      some_on = (_, _, on_there F R k q refl);
      level_bound = level_low F R k q refl;
      room = omega (arith, c.loop-t-test.true, c.remaining_capacity.ensures);
    }

pub loop-t-smaller : goal.loop-t-smaller
loop-t-smaller c =
    let F = c.loop-t.invariant.3 _ _ c.requires.2 in
    let R = c.go.ensures _ _ F.coming.begun in
    let k = c.go.auto.path in
    let q = c.in-Solution.is in
    let p = c.put_solution.ensures _ _ (on_there F R k q refl) in
    omega (arith, fill_grows F R k q p, c.loop-t-test.true, c.remaining_capacity.ensures)

pub loop-t-preserved : goal.loop-t-preserved
loop-t-preserved c =
    let inv = c.loop-t.invariant in
    let k = c.go.auto.path in
    let q = c.in-Solution.is in
    let room : length c.loop-t.out.items + 1345 ≤ 65536 =
    omega (arith, c.loop-t-test.true, c.remaining_capacity.ensures) in (
      c.go.auto.t ∙ inv.0,
      k ∙ inv.1,
      c.go.auto.profile ∙ inv.2,
      λ P all C.
          let G = inv.3 P all C in
          let S = c.go.ensures P _ G.coming.begun in
          fill_turn G S k q (c.put_solution.ensures P _ (on_there G S k q refl)) room,
    )

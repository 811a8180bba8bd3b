use mathlib.Core.Path.{◌≡◌}
use mathlib.Core.List.{List}
use Rattle.std.specs.Prelude.{Some}
use Prim.Native.Nat.{ℕ}
use lib.IntN.{ℤ}
use native.Mathlib.Omega.{arith}
use Rattle.rules.specs.Problem.{Problem}
use Rattle.rules.specs.Order.{pick}
use Rattle.rules.specs.Walk.{Level, chosen, solution, paused, walk}
use Rattle.search.specs.Points.{On, header, Taking}
use Rattle.search.proofs.Running.{starts, picked, no_item, solved, waits, stopped, ends_ran, profile_room, visited_on, visited_out}
use Rattle.search.proofs.Moving.{level_small}
use Rattle.search.proofs.run.Goals as goal

-- what is known at a turn
taking : {P : Problem} {n : ℕ} {s : List Level} {t path : List ℤ} {l i : ℕ} → On P n s t path l
    → Some i ≡ header (pick P (chosen s))
    → (j : ℕ) × Taking P n s j t path l i
taking {P} {s = s} O e =
    let k = picked O.at e in
    (k.0, record { on = O; picked = k.1 })

pub loop-i-init : goal.loop-i-init
loop-i-init c = λ P s O. starts _ O c.requires.updates_le_cap c.requires.profile

pub state_at-requires : goal.state_at-requires
state_at-requires c = omega (arith, level_small (c.loop-i.invariant _ _ c.requires.some_on.2).rest.on)

pub returns-in_default : goal.returns-in_default
returns-in_default c =
    λ P s O.
    let R = c.loop-i.invariant P s O in
    ends_ran (walk P (pick P) c.args.allowance s) c.args.st
    (rw (solved R (no_item (pick P (chosen R.rest.s)) (c.in_default.ensures P R.rest.s R.rest.on.at)))
    (stopped solution c.loop-i.u c.loop-i.visits R.small R.counts R.rest.on c.state_at.ensures))

pub state_at-requires-then-visits-allowance : goal.state_at-requires-then-visits-allowance
state_at-requires-then-visits-allowance c = omega (
  arith,
  level_small (c.loop-i.invariant _ _ c.requires.some_on.2).rest.on,
)

pub returns-then-visits-allowance : goal.returns-then-visits-allowance
returns-then-visits-allowance c =
    λ P s O.
    let R = c.loop-i.invariant P s O in
    let k = picked R.rest.on.at (c.in-Some.ensures P R.rest.s R.rest.on.at) in
    ends_ran (walk P (pick P) c.args.allowance s) c.args.st
    (rw (waits R k.1.picks c.if-visits-allowance.true)
    (stopped paused c.loop-i.u c.loop-i.visits R.small R.counts R.rest.on c.state_at-then-visits-allowance.ensures))

pub bump-requires : goal.bump-requires
bump-requires c =
    let P = c.requires.some_on.0 in
    let R = c.loop-i.invariant P _ c.requires.some_on.2 in
    let K = (taking R.rest.on (c.in-Some.ensures P R.rest.s R.rest.on.at)).1 in
    omega (arith, profile_room R K)

pub returns-in_default-enter : goal.returns-in_default-enter
returns-in_default-enter c =
    λ P s O.
    let R = c.loop-i.invariant P s O in
    let K = (taking R.rest.on (c.in-Some.ensures P R.rest.s R.rest.on.at)).1 in
    ends_ran (walk P (pick P) c.args.allowance s) c.args.st
    (visited_out R K c.if-visits-allowance.false _ _ _
    (c.enter.ensures P _ _ K) c.bump.ensures c.in_default-enter.is c.state_at-in_default-enter.ensures)

pub loop-i-preserved : goal.loop-i-preserved
loop-i-preserved c =
    λ P s O.
    let R = c.loop-i.invariant P s O in
    let K = (taking R.rest.on (c.in-Some.ensures P R.rest.s R.rest.on.at)).1 in
    visited_on R K c.if-visits-allowance.false _ _ _
    (c.enter.ensures P _ _ K) c.bump.ensures c.in-Some-enter.is c.capped-u.ensures

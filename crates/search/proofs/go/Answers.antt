use native.Mathlib.Omega.{arith}
use Rattle.search.proofs.Moving.{level_small}
use Rattle.search.proofs.Running.{retreat_on, from_ready, from_done, from_solution, from_last, done_on, top_is, made_on, made_updates}
use Rattle.search.proofs.go.Goals as goal

pub returns-in_default : goal.returns-in_default
returns-in_default c =
    λ P s B.
    from_last _ _ _ s _ _ _ c.in-Solution.is c.requires.updates_le_cap c.requires.profile
    (c.retreat.ensures P s B.on) c.in_default.is c.state_at-in_default.ensures

pub state_at-at-requires : goal.state_at-at-requires
state_at-at-requires c =
    let P = c.requires.some_begun.0 in
    let s = c.requires.some_begun.1 in
    let B = c.requires.some_begun.2 in
    let N = retreat_on c.args.allowance s _ c.args.profile.now (c.retreat.ensures P s B.on) c.in-Some.is
    c.capped.ensures in
    omega (arith, level_small N.on)

pub returns-in-Ready : goal.returns-in-Ready
returns-in-Ready c = λ P s B. from_ready _ _ _ s c.in-Ready.is (c.run.ensures P s B.on)

pub returns-in-Done : goal.returns-in-Done
returns-in-Done c =
    λ P s B.
    let O = done_on B c.in-Done.is in
    from_done _ _ _ s c.in-Done.is (top_is O) c.state_at.ensures (c.run-in-Done.ensures P s (made_on _ c.state_at.ensures O))

pub returns-in-Some : goal.returns-in-Some
returns-in-Some c =
    λ P s B.
    let N = retreat_on c.args.allowance s _ c.args.profile.now (c.retreat.ensures P s B.on) c.in-Some.is
    c.capped.ensures in
    from_solution _ _ _ s c.in-Solution.is N (made_updates _ c.state_at-at.ensures) (c.run-in-Solution.ensures P _
    (made_on _ c.state_at-at.ensures N.on))

use native.Mathlib.Omega.{arith}
use Rattle.timed.proofs.Walked.{walk_done, not_refused, at_top}
use Rattle.timed.proofs.timed_walk.Goals as goal

pub walk_fronts-requires : goal.walk_fronts-requires
walk_fronts-requires c =
    (_, at_top _ _ c.timed_set_up-refusal.ensures (omega arith) c.library.ensures c.check.ensures.value c.in-Ok.is)

pub returns-in-Err : goal.returns-in-Err
returns-in-Err c =
    absurd (not_refused _ _ c.timed_set_up-refusal.ensures
    (omega arith) c.library.ensures c.check.ensures.value c.in-Err.is)

pub returns-in-Ok : goal.returns-in-Ok
returns-in-Ok c =
    let T = at_top _ _ c.timed_set_up-refusal.ensures
    (omega arith) c.library.ensures c.check.ensures.value c.in-Ok.is in
    walk_done _ _ c.timed_set_up-refusal.ensures (omega arith) c.args.number (rw c.number.ensures
    (c.walk_fronts.ensures _ T))

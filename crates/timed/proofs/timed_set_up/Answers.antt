use mathlib.Core.Path.{sym, ap}
use Rattle.std.specs.Prelude.{Result}
use Rattle.rules.specs.declared.Refused.{Refused}
use Rattle.rules.specs.declared.State.{State}
use Rattle.rules.specs.Calls.{state_said}
use Rattle.timed.proofs.Walked.{set_up_is}
use Rattle.timed.proofs.timed_set_up.Goals as goal

pub returns-in-Ok : goal.returns-in-Ok
returns-in-Ok c = set_up_is _ _ c.set_up.ensures (sym (ap (λ (a : Result State Refused).
    (state_said a).number) c.in-Ok.is))

pub returns-in-Err : goal.returns-in-Err
returns-in-Err c = set_up_is _ _ c.set_up.ensures (sym (ap (λ (a : Result State Refused).
    (state_said a).number) c.in-Err.is))

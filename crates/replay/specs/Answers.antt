-- What the program holds of an answer is what the definitions say of it.
use Rattle.std.specs.Prelude.{◌≡◌}
use Rattle.rules.specs.Calls as Calls
use Rattle.replay.specs.declared.answers.Said.{Said}

pub record Says (r : Said) (s : Calls.Said) : Type 0 where
  pub number : r.number ≡ s.number
  pub visits : r.visits ≡ s.visits
  pub state : r.state ≡ s.state

-- What the answers of Next say of the walk.
use Rattle.std.specs.Prelude.{◌≡◌, refl, ℕ, Result, Ok}
use Rattle.rules.specs.declared.State.{State}
use Rattle.rules.specs.declared.Refused.{Refused}
use Rattle.rules.specs.declared.NextAnswer.{NextAnswer}
use Rattle.rules.specs.declared.NextAnswer.TheVariants as NextSays
use Rattle.rules.specs.Walk.{End, solution, exhausted, paused}
use Rattle.rules.specs.Calls.{next_answer, walk_said}
use Rattle.laws.specs.Lists.{cannot}

-- each carries the state
pub answer_state : (e : End) (st : State) (v : ℕ) → (walk_said (next_answer e st v)).state ≡ st
answer_state solution st v = refl
answer_state exhausted st v = refl
answer_state paused st v = refl

pub solution_said : (e : End) (st : State) (v : ℕ) {st' : State} {v' : ℕ}
    → ◌≡◌ {A = Result NextAnswer Refused} (Ok (next_answer e st v)) (Ok (NextSays.Solution st' v')) → (e ≡ solution)
    × (st ≡ st')
solution_said solution st v u = (refl, cc)
solution_said exhausted st v u = cannot (cc)
solution_said paused st v u = cannot (cc)

pub exhausted_said : (e : End) (st : State) (v : ℕ) {st' : State} {v' : ℕ}
    → ◌≡◌ {A = Result NextAnswer Refused} (Ok (next_answer e st v)) (Ok (NextSays.Exhausted st' v')) → (e ≡ exhausted)
    × (st ≡ st')
exhausted_said solution st v u = cannot (cc)
exhausted_said exhausted st v u = (refl, cc)
exhausted_said paused st v u = cannot (cc)

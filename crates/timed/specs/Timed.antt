-- What the timed functions answer and leave: a number, and every lent word.
use Rattle.std.specs.Prelude.{List, [], ℕ, zero, suc, ◌+◌, ℤ, take, Result, Ok, Err}
use Rattle.rules.specs.declared.NextAnswer.{NextAnswer}
use Rattle.rules.specs.declared.NextAnswer.TheVariants as NextSays
use Rattle.rules.specs.declared.Refused.{Refused}
use Rattle.rules.specs.declared.Phase.TheVariants.{Ready}
use Rattle.rules.specs.declared.State.{State}
use Rattle.rules.specs.Lists.{over}
use Rattle.rules.specs.Problem.{Problem, library_limits, cut, meant}
use Rattle.rules.specs.Order.{pick}
use Rattle.rules.specs.Links.{table as table_at}
use Rattle.rules.specs.Walk.{Walk, made}
use Rattle.rules.specs.Calls.{profile_from, path_words, end_number, SetUpLent, SetUpOutcome, state_said, set_up_call}
use Rattle.rules.specs.Calls.{NextLent, NextOutcome, next_call}
use Rattle.rules.specs.Door.{walk_to}
use Rattle.search.specs.Arrived.{whole_to}

-- an allowance of 2^64-1
abbrev pub largest : ℕ
largest = 18446744073709551615

-- ---- set-up, and the search after it

pub record Timed : Type 0 where
  pub result : ℕ
  pub lent : SetUpLent

-- 0 or the refusal's number
abbrev pub set_up_timed : List ℤ → SetUpLent → Timed
set_up_timed ws l =
    let o : SetUpOutcome = set_up_call library_limits ws l in
    record { result = (state_said o.answer).number; lent = o.lent }

-- the walk to solution `number` from the top, on lists that are set up
abbrev pub walked : Problem → ℕ → SetUpLent → Timed
walked P number l =
    let w : Walk = walk_to P (pick P) number largest Ready [] in
    let visited : List ℕ = (whole_to P (pick P) number largest Ready []).visited in
    record {
      result = end_number w.end;
      lent = record {
        table = over (table_at P (made w.at)) l.table;
        path = over (path_words P.np w.at) l.path;
        profile = over (profile_from 0 visited (take P.np l.profile)) l.profile;
      };
    }

abbrev pub walk_as : ℕ → Problem → ℕ → SetUpLent → Timed
walk_as (suc k) P number l = record { result = suc k; lent = l }
walk_as zero P number l = walked P number l

unfoldable pub walk_timed : List ℤ → SetUpLent → ℕ → Timed
walk_timed ws l number =
    let o : Timed = set_up_timed ws l in
    walk_as o.result (meant (cut ws)) number o.lent

-- ---- single calls of Next

pub record NextTimed : Type 0 where
  pub result : ℕ
  pub lent : NextLent

-- n solutions before
abbrev pub counting : ℕ → NextTimed → NextTimed
counting n o = record { result = n + o.result; lent = o.lent }

-- where a call answered a solution, what follows; else that is the end
abbrev pub past : Result NextAnswer Refused → NextLent → (State → NextTimed) → NextTimed
past (Ok (NextSays.Solution st v)) l later = counting 1 (later st)
past (Ok (NextSays.Exhausted st v)) l later = record { result = 0; lent = l }
past (Ok (NextSays.Paused st v)) l later = record { result = 0; lent = l }
past (Err r) l later = record { result = 0; lent = l }

-- k calls, or as many as answer a solution and one more
unfoldable pub next_timed : List ℤ → ℕ → NextLent → State → NextTimed
next_timed ws zero l st = record { result = 0; lent = l }
next_timed ws (suc k) l st =
    let o : NextOutcome = next_call library_limits ws l st largest in
    past o.answer o.lent (λ at. next_timed ws k o.lent at)

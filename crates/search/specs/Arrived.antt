-- Where the walk to a solution arrives, with the visits and updates of all the walks on the way, and what an answer
-- tells of a walk's end.
use Rattle.std.specs.Prelude.{◌≡◌, refl, List, ℕ, zero, suc, ◌-◌, ℤ, length}
use Rattle.std.proofs.Common.{ap, ◌∙◌}
use Rattle.rules.specs.declared.NextAnswer.{NextAnswer}
use Rattle.rules.specs.declared.NextAnswer.TheVariants as NextSays
use Rattle.rules.specs.declared.Phase.{Phase}
use Rattle.rules.specs.declared.Phase.TheVariants.{Solution}
use Rattle.rules.specs.declared.State.{State}
use Rattle.rules.specs.Problem.{Problem}
use Rattle.rules.specs.Order.{Rule}
use Rattle.rules.specs.Walk.{Level, Walk, End, solution, exhausted, paused, resume}
use Rattle.rules.specs.Calls.{capped, profile_from, phase_after, blank, moved, next_answer}
use Rattle.rules.specs.Door.{past}
use Rattle.laws.specs.Reached.{joined}
use Rattle.laws.specs.Lists.{cannot}
use Rattle.search.specs.Points.{On}

-- the walks of `walk_to` as one, those on the way to earlier solutions first
unfoldable pub whole_to : Problem → Rule → ℕ → ℕ → Phase → List Level → Walk
whole_to P rule zero a ph s = resume P rule a ph s
whole_to P rule (suc k) a ph s =
    let w : Walk = resume P rule a ph s in
    past w.end w (λ t. joined w (whole_to P rule k (a - length w.visited) Solution t))

-- From a blank state: table and path are those where the last walk, w, ended; the answer tells its end and visits, and
-- the updates of the whole; the profile has the visits of the whole.
pub record Arrived (P : Problem) (n : ℕ) (w whole : Walk) (profile : List ℕ) (t path : List ℤ) (profile' : List ℕ)
    (r : NextAnswer) : Type 0 where
  pub answer :
      r ≡ next_answer w.end
      (record { phase = phase_after w.end; depth = length w.at; updates = capped 0 whole.updates })
      (length w.visited)
  pub on : On P n w.at t path (length w.at)
  pub profile_is : profile' ≡ profile_from 0 whole.visited profile

-- a walk that answers a solution ended at one
pub solved : (w : Walk) (st : State) {r : NextAnswer} {at : State} {v : ℕ} → r ≡ next_answer w.end (moved st w) (length w.visited) → r ≡ NextSays.Solution at v
    → (w.end ≡ solution) × (at ≡ record { phase = Solution; depth = length w.at; updates = capped st.updates w.updates }) × (v ≡ length w.visited)
solved w st {r} {at} {v} p q = by w.end p
  where
    by : (e : End) → r ≡ next_answer e (record { phase = phase_after e; depth = length w.at; updates = capped st.updates w.updates }) (length w.visited)
        → (e ≡ solution) × (at ≡ record { phase = Solution; depth = length w.at; updates = capped st.updates w.updates }) × (v ≡ length w.visited)
    by solution p = (refl, cc, cc)
    by exhausted p = cannot (cc)
    by paused p = cannot (cc)

-- an arrival likewise
pub arrived_at : {P : Problem} {n : ℕ} {w whole : Walk} {profile : List ℕ} {t path : List ℤ} {profile' : List ℕ}
    {r : NextAnswer} → Arrived P n w whole profile t path profile' r → {at : State} {v : ℕ} → r ≡ NextSays.Solution at v
    → (w.end ≡ solution) × (at.depth ≡ length w.at)
arrived_at {w = w} {whole = whole} A {at} q =
    let last : Walk = record { end = w.end; at = w.at; visited = w.visited; updates = whole.updates } in
    let s = solved last blank A.answer q in
    (s.0, ap (λ (x : State). x.depth) s.1)

-- a walk that answers anything else ended elsewhere
pub unsolved : (w : Walk) (st : State) {r : NextAnswer} → r ≡ next_answer w.end (moved st w) (length w.visited)
    → ((at : State) (v : ℕ) → r ≡ NextSays.Solution at v → ⊥) → w.end ≡ solution → ⊥
unsolved w st p n e =
    n (moved st w) (length w.visited) (p ∙ ap (λ (x : End). next_answer x (moved st w) (length w.visited)) e)

pub on_level : {P : Problem} {n : ℕ} {s : List Level} {t path : List ℤ} {l k : ℕ} → On P n s t path l → k ≡ length s → On P n s t path k
on_level O e = record { at = O.at; path_is = O.path_is; level = e }

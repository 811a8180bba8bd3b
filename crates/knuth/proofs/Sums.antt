-- Allowances add up, call by call.
use Rattle.std.specs.Prelude.{◌≡◌, List, ℕ, zero, suc, ◌+◌, ℤ, length, Ok}
use Rattle.std.proofs.Math.Path.{refl, ap}
use Rattle.std.proofs.Common.{◌∙◌, arith}
use Rattle.std.proofs.Math.ListN.{length-append}
use Rattle.rules.specs.declared.Phase.TheVariants.{Ready}
use Rattle.rules.specs.declared.State.{State}
use Rattle.rules.specs.declared.Limits.{Limits}
use Rattle.rules.specs.declared.NextAnswer.TheVariants as NextSays
use Rattle.rules.specs.Problem.{Problem, cut, meant, sizes}
use Rattle.rules.specs.Order.{pick}
use Rattle.rules.specs.Links.{fresh, table}
use Rattle.rules.specs.Walk.{Level, made, End, solution, exhausted, paused, Walk, resume}
use Rattle.rules.specs.Calls.{moved, started, NextLent, NextOutcome, next_answer, next_call, walked, next_refusal}
use Rattle.laws.specs.Order.{pick_sound}
use Rattle.knuth.specs.Lists.{over_over}
use Rattle.knuth.specs.Counts.{capped_twice}
use Rattle.knuth.specs.Twice.{table_twice, path_twice, counted_twice}
use Rattle.knuth.specs.Trace.{go_on_from}
use Rattle.knuth.specs.Adds.{resume_adds}
use Rattle.knuth.proofs.Ends.{reached_deep, Ends, resume_ends}
use Rattle.laws.specs.Reached.{joined}
use Rattle.knuth.specs.Series.{problem, with_visits, then_call_from, then_call}
use Rattle.knuth.proofs.Stands.{Stands, accepted→, next_walked, next_stands, walk_of, walk_ended}

answer_visits : (e : End) (st : State) (n k : ℕ)
    → with_visits n (Ok (next_answer e st k)) ≡ Ok (next_answer e st (n + k))
answer_visits solution st n k = ap (λ (i : ℕ). Ok (NextSays.Solution st i)) (omega arith)
answer_visits exhausted st n k = refl
answer_visits paused st n k = refl

module _ {L : Limits} {ws : List ℤ} {l : NextLent} {st : State} {s : List Level} (S : Stands L ws l st s) where
  -- what a walk that went on leaves, as one call and as two
  joined_walked : (w v : Walk) → Ends (problem ws) (pick (problem ws)) w → Ends (problem ws) (pick (problem ws)) v → w.end ≡ paused
      → let o : NextOutcome = walked (problem ws) l st w in
      let o' : NextOutcome = walked (problem ws) o.lent (moved (started st) w) v in
      walked (problem ws) l st (joined w v) ≡ record { answer = with_visits (length w.visited) o'.answer; lent = o'.lent }
  unfolding meant sizes
  joined_walked w v e f p =
      let P : Problem = problem ws in
      rw (
        p,
        table_twice P (made w.at) (made v.at) l.table,
        over_over (fresh P) (fresh P) l.spare refl,
        path_twice (cut ws).np w.at v.at l.path (reached_deep P (pick P) (pick_sound P) e.reached) (reached_deep P (pick P) (pick_sound P) f.reached),
        counted_twice (cut ws).np w.visited v.visited l.profile S.room.profile,
        capped_twice (started st).updates w.updates v.updates,
        answer_visits v.end,
        length-append w.visited v.visited,
      )

  -- an accepted call
  accepted_adds : (a b : ℕ) → next_call L ws l st (a + b) ≡ then_call (next_call L ws l st a) (λ l' st'. next_call L ws l' st' b)
  unfolding resume
  accepted_adds a b =
      next_walked S (a + b)
      ∙ ap (λ (w : Walk). walked P l st w) (resume_adds P (pick P) a b st.phase s)
      ∙ rw (next_walked S a) (step (walk_of S a).end refl)
    where
      P : Problem
      P = problem ws

      w : Walk
      w = walk_of S a

      step : (e : End) → (walk_of S a).end ≡ e → walked P l st (go_on_from e w (λ t. resume P (pick P) b Ready t))
          ≡ then_call_from (Ok (next_answer e (moved (started st) w) (length w.visited))) (walked P l st w)
          (λ l' st'. next_call L ws l' st' b)
      step solution e = refl
      step exhausted e = refl
      step paused e =
          joined_walked w (resume P (pick P) b Ready w.at) (walk_ended S a) (resume_ends P (pick P) b Ready (walk_ended S a).reached) e
          ∙ rw (next_walked (next_stands S a) b, e)

-- whatever is lent, accepted or refused
pub next_adds : (L : Limits) (ws : List ℤ) (l : NextLent) (st : State) (a b : ℕ)
    → next_call L ws l st (a + b) ≡ then_call (next_call L ws l st a) (λ l' st'. next_call L ws l' st' b)
unfolding next_call
next_adds L ws l st a b = step (next_refusal L ws l st) refl
  where
    step : (k : ℕ) → next_refusal L ws l st ≡ k → next_call L ws l st (a + b) ≡ then_call (next_call L ws l st a) (λ l' st'. next_call L ws l' st' b)
    step zero e = accepted_adds (accepted→ e) a b
    step (suc k) e = rw e

-- Single calls of Next, one by one. Assumes nothing.
use Rattle.std.specs.Prelude.{Result, Ok, Err}
use mathlib.Core.Path.{◌≡◌, refl, sym, ap, ◌∙◌}
use mathlib.Core.List.{List}
use Prim.Native.Nat.{ℕ, suc, ◌+◌, ◌-◌, ◌≤◌, ◌<◌}
use native.Mathlib.Omega.{arith}
use lib.IntN.{ℤ}
use Rattle.rules.specs.declared.NextAnswer.{NextAnswer}
use Rattle.rules.specs.declared.NextAnswer.TheVariants as NextSays
use Rattle.rules.specs.declared.Refused.{Refused}
use Rattle.rules.specs.declared.State.{State}
use Rattle.rules.specs.Problem.{library_limits}
use Rattle.rules.specs.Calls.{blank, NextLent, NextOutcome, next_call}
use Rattle.timed.specs.Timed.{largest, NextTimed, counting, past, next_timed}

-- the calls from the blank state are the calls from here, after these solutions
pub record Called (ws : List ℤ) (most : ℕ) (l₀ l : NextLent) (st : State) (solutions : ℕ) : Type 0 where
  pub within : solutions ≤ most
  pub same : next_timed ws most l₀ blank ≡ counting solutions (next_timed ws (most - solutions) l st)

ended : (a : NextAnswer) → ((at : State) (n : ℕ) → a ≡ NextSays.Solution at n → ⊥) → (l : NextLent) (later : State
    → NextTimed)
    → past (Ok a) l later ≡ record { result = 0; lent = l }
ended (NextSays.Solution st v) k l later = absurd (k st v refl)
ended (NextSays.Exhausted st v) k l later = refl
ended (NextSays.Paused st v) k l later = refl

module _ {ws : List ℤ} {most : ℕ} {l₀ l : NextLent} {st : State} {solutions : ℕ} (C : Called ws most l₀ l st solutions) where
  -- all calls are made
  pub call_all : most ≤ solutions → record { result = solutions; lent = l } ≡ next_timed ws most l₀ blank
  unfolding next_timed
  call_all h =
      let e : most - solutions ≡ 0 = omega (arith, C.within) in
      let u : solutions ≡ solutions + 0 = omega arith in
      ap (λ (k : ℕ). record { result = k; lent = l }) u ∙ sym (C.same ∙ ap (λ (k : ℕ). counting solutions (next_timed ws k l st)) e)

  module _ {r : Result NextAnswer Refused} {l' : NextLent} (h : solutions < most)
      (o : record { answer = r; lent = l' } ≡ next_call library_limits ws l st largest) where
    -- one call more
    called : next_timed ws most l₀ blank ≡ counting solutions (past r l' (λ at. next_timed ws (most - (solutions + 1)) l' at))
    unfolding next_timed
    called =
        let e : most - solutions ≡ suc (most - (solutions + 1)) = omega arith in
        C.same ∙ ap (λ (k : ℕ). counting solutions (next_timed ws k l st)) e
        ∙ ap (λ (x : NextOutcome). counting solutions (past x.answer x.lent (λ at. next_timed ws (most - (solutions + 1)) x.lent at))) (sym o)

    stops : past r l' (λ at. next_timed ws (most - (solutions + 1)) l' at) ≡ record { result = 0; lent = l' }
        → record { result = solutions; lent = l' } ≡ next_timed ws most l₀ blank
    stops e =
        let u : solutions ≡ solutions + 0 = omega arith in
        ap (λ (k : ℕ). record { result = k; lent = l' }) u ∙ sym (called ∙ ap (counting solutions) e)

    pub call_ends : {a : NextAnswer} → r ≡ Ok a → ((at : State) (n : ℕ) → a ≡ NextSays.Solution at n → ⊥)
        → record { result = solutions; lent = l' } ≡ next_timed ws most l₀ blank
    call_ends {a} q k = stops (rw q (ended a k l' (λ at. next_timed ws (most - (solutions + 1)) l' at)))

    pub call_refused : {x : Refused} → r ≡ Err x
        → record { result = solutions; lent = l' } ≡ next_timed ws most l₀ blank
    call_refused q = stops (rw q refl)

    pub call_turns : {a : NextAnswer} {at : State} {v : ℕ} → r ≡ Ok a → a ≡ NextSays.Solution at v
        → Called ws most l₀ l' at (solutions + 1)
    call_turns {at = at} p s =
        let q = p ∙ ap Ok s in
        let x : NextTimed = next_timed ws (most - (solutions + 1)) l' at in
        let u : solutions + (1 + x.result) ≡ (solutions + 1) + x.result = omega arith in
        record {
          within = omega arith;
          same =
              called ∙ ap (λ (a : Result NextAnswer Refused). counting solutions (past a l' (λ at. next_timed ws
              (most - (solutions + 1)) l' at))) q
              ∙ ap (λ (k : ℕ). record { result = k; lent = x.lent }) u;
        }

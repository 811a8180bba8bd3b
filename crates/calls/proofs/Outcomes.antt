-- Each call's outcome, from its tests and what it wrote. Assumes nothing.
use mathlib.Core.Path.{◌≡◌, refl, sym, ap, ◌∙◌}
use Rattle.std.specs.Prelude.{Option, Some, Ok, Err}
use mathlib.Core.List.{List, [], ◌++◌}
use Prim.Native.Nat.{ℕ, zero, suc, ◌<◌, ◌≤◌, min}
use native.Mathlib.Omega.{arith}
use lib.IntN.{ℤ}
use lib.ListN.{length, take, drop, replicate, length-replicate}
use lib.Seq.{length-take-le}
use Rattle.rules.specs.declared.NextAnswer.{NextAnswer}
use Rattle.rules.specs.declared.State.{State}
use Rattle.rules.specs.Lists.{over}
use Rattle.rules.specs.Problem.{Problem, library_limits, cut, meant, sizes, problem_refusal}
use Rattle.rules.specs.Order.{pick}
use Rattle.rules.specs.Links.{fresh, table}
use Rattle.rules.specs.Walk.{Level, Walk, made, resume}
use Rattle.rules.specs.Calls.{counts_fit, profile_from, blank, moved, given_up, started, path_words, lent_point, search_refusal, next_answer, found_words, SetUpLent, set_up_room, set_up_as, set_up_call, NextLent, next_room, next_as, next_call, GiveUpLent, give_up_room, give_up_as, give_up_call}
use Rattle.problem.specs.Room.{room}
use Rattle.calls.specs.Tested.{refusal, spare_by}
use Rattle.calls.proofs.Rooms.{set_up_rooms, next_rooms, give_up_rooms, same_room}

-- a part written over the front
pub over_part : {A : Type 0} (new old part : List A) (n : ℕ) → part ≡ new → length part ≡ n → part ++ drop n old ≡ over new old
over_part new old part n e h = rw (sym h) (rw e refl)

-- a front filled with x
pub over_filled : {A : Type 0} (x : A) (old part : List A) {n : ℕ} → part ≡ replicate (length (take n old)) x
    → n ≤ length old
    → part ++ drop n old ≡ over (replicate n x) old
over_filled x old part {n} e h =
    let f : part ≡ replicate n x = e ∙ ap (λ (k : ℕ). replicate k x) (length-take-le n old h) in
    over_part (replicate n x) old part n f (ap length f ∙ length-replicate n x)

-- ---- the refusals, by the rooms of each call

module _ (ws : List ℤ) where
  pub set_up_refusal : (l : SetUpLent) → problem_refusal library_limits 1 (room (length l.table) (min (length l.path) (length l.profile))) ws ≡ problem_refusal library_limits 1 (set_up_room l) ws
  set_up_refusal l = same_room library_limits 1 (room (length l.table) (min (length l.path) (length l.profile))) (set_up_room l) ws (sym (set_up_rooms (sizes (cut ws)) l))

  next_refusal : (l : NextLent) (st : State) → refusal ws l.table l.spare l.path l.profile (min (length l.profile) (length l.found)) st
      ≡ search_refusal library_limits (next_room l) ws (counts_fit st (take (cut ws).np l.profile)) (lent_point (cut ws) st l.table l.path)
  unfolding refusal search_refusal
  next_refusal l st = rw (same_room library_limits 1 (next_room l) (room (min (length l.table) (length l.spare)) (min (length l.path) (min (length l.profile) (length l.found)))) ws (next_rooms (sizes (cut ws)) l))

  give_up_refusal : (l : GiveUpLent) (st : State) → refusal ws l.table l.spare l.path [] (length l.path) st
      ≡ search_refusal library_limits (give_up_room l) ws (counts_fit st []) (lent_point (cut ws) st l.table l.path)
  unfolding refusal search_refusal
  give_up_refusal l st = rw (same_room library_limits 1 (give_up_room l) (room (min (length l.table) (length l.spare)) (min (length l.path) (length l.path))) ws (give_up_rooms (sizes (cut ws)) l), take_none (cut ws).np)
    where
      take_none : (k : ℕ) → take {A = ℕ} k [] ≡ []
      take_none zero = refl
      take_none (suc k) = refl

-- ---- set-up

module _ (ws : List ℤ) (l : SetUpLent) where
  pub set_up_refused : (k : ℕ) → problem_refusal library_limits 1 (set_up_room l) ws ≡ k → 0 < k
      → record { answer = Err (record { state = blank; number = k }); lent = l } ≡ set_up_call library_limits ws l
  unfolding set_up_call
  set_up_refused zero e h = absurd (omega arith)
  set_up_refused (suc k) e h = sym (ap (λ (i : ℕ). set_up_as i (meant (cut ws)) l) e)

  pub set_up_done : (table path : List ℤ) (profile : List ℕ) → problem_refusal library_limits 1 (set_up_room l) ws ≡ 0
      → table ≡ over (fresh (meant (cut ws))) l.table → path ≡ over (path_words (meant (cut ws)).np []) l.path → profile ≡ over (replicate (meant (cut ws)).np 0) l.profile
      → record { answer = Ok blank; lent = record { table = table; path = path; profile = profile } }
      ≡ set_up_call library_limits ws l
  unfolding set_up_call
  set_up_done table path profile e a b c =
      (λ i. record { answer = Ok blank; lent = record { table = a i; path = b i; profile = c i } })
      ∙ sym (ap (λ (i : ℕ). set_up_as i (meant (cut ws)) l) e)

-- ---- Next

module _ (ws : List ℤ) (l : NextLent) (st : State) (a : ℕ) where
  abbrev next_chain : ℕ
  next_chain = refusal ws l.table l.spare l.path l.profile (min (length l.profile) (length l.found)) st

  pub next_refused : (k : ℕ) (spare : List ℤ) → next_chain ≡ k → 0 < k → spare ≡ spare_by next_chain (meant (cut ws)) l.spare
      → record {
        answer = Err (record { state = st; number = k });
        lent = record { table = l.table; spare = spare; path = l.path; profile = l.profile; found = l.found };
      }
      ≡ next_call library_limits ws l st a
  unfolding next_call
  next_refused zero spare e h u = absurd (omega arith)
  next_refused (suc k) spare e h u =
      let w : spare ≡ spare_by (suc k) (meant (cut ws)) l.spare = u ∙ ap (λ (i : ℕ). spare_by i (meant (cut ws)) l.spare) e in
      rw w (sym (ap (λ (i : ℕ). next_as i (meant (cut ws)) l st (lent_point (cut ws) st l.table l.path) a) (sym (next_refusal ws l st) ∙ e)))

  pub next_ran : (s : List Level) (r : NextAnswer) (table' spare' path' : List ℤ) (profile' : List ℕ) (found' : List ℤ) → next_chain ≡ 0 → lent_point (cut ws) st l.table l.path ≡ Some s
      → (w : Walk) → w ≡ resume (meant (cut ws)) (pick (meant (cut ws))) a st.phase s
      → r ≡ next_answer w.end (moved (started st) w) (length w.visited)
      → table' ≡ over (table (meant (cut ws)) (made w.at)) l.table
      → spare' ≡ spare_by next_chain (meant (cut ws)) l.spare
      → path' ≡ over (path_words (meant (cut ws)).np w.at) l.path
      → profile' ≡ over (profile_from 0 w.visited (take (meant (cut ws)).np l.profile)) l.profile
      → found' ≡ found_words w.end w.at l.found
      → record {
        answer = Ok r;
        lent = record { table = table'; spare = spare'; path = path'; profile = profile'; found = found' };
      }
      ≡ next_call library_limits ws l st a
  unfolding next_call
  next_ran s r table' spare' path' profile' found' e at w is c₁ c₂ c₃ c₄ c₅ c₆ =
      let P : Problem = meant (cut ws) in
      let u : spare' ≡ over (fresh P) l.spare = c₃ ∙ ap (λ (i : ℕ). spare_by i P l.spare) e in
      (λ i. record {
        answer = Ok (c₁ i);
        lent = record { table = c₂ i; spare = u i; path = c₄ i; profile = c₅ i; found = c₆ i };
      })
      ∙ ap (λ (v : Walk). record {
        answer = Ok (next_answer v.end (moved (started st) v) (length v.visited));
        lent = record {
          table = over (table P (made v.at)) l.table;
          spare = over (fresh P) l.spare;
          path = over (path_words P.np v.at) l.path;
          profile = over (profile_from 0 v.visited (take P.np l.profile)) l.profile;
          found = found_words v.end v.at l.found;
        };
      }) is
      ∙ sym (ap (λ (k : ℕ). next_as k P l st (lent_point (cut ws) st l.table l.path) a) (sym (next_refusal ws l st) ∙ e) ∙ ap (λ (o : Option (List Level)). next_as 0 P l st o a) at)

-- ---- Give-up

module _ (ws : List ℤ) (l : GiveUpLent) (st : State) where
  abbrev give_up_chain : ℕ
  give_up_chain = refusal ws l.table l.spare l.path [] (length l.path) st

  pub give_up_refused : (k : ℕ) (spare : List ℤ) → give_up_chain ≡ k → 0 < k → spare ≡ spare_by give_up_chain (meant (cut ws)) l.spare
      → record {
        answer = Err (record { state = st; number = k });
        lent = record { table = l.table; spare = spare; path = l.path };
      }
      ≡ give_up_call library_limits ws l st
  unfolding give_up_call
  give_up_refused zero spare e h u = absurd (omega arith)
  give_up_refused (suc k) spare e h u =
      let w : spare ≡ spare_by (suc k) (meant (cut ws)) l.spare = u ∙ ap (λ (i : ℕ). spare_by i (meant (cut ws)) l.spare) e in
      rw w (sym (ap (λ (i : ℕ). give_up_as i (meant (cut ws)) l st) (sym (give_up_refusal ws l st) ∙ e)))

  pub give_up_done : (table spare path : List ℤ) → give_up_chain ≡ 0
      → table ≡ over (fresh (meant (cut ws))) l.table → spare ≡ spare_by give_up_chain (meant (cut ws)) l.spare → path ≡ over (path_words (meant (cut ws)).np []) l.path
      → record { answer = Ok (given_up st); lent = record { table = table; spare = spare; path = path } }
      ≡ give_up_call library_limits ws l st
  unfolding give_up_call
  give_up_done table spare path e a b c =
      let P : Problem = meant (cut ws) in
      let u : spare ≡ over (fresh P) l.spare = b ∙ ap (λ (i : ℕ). spare_by i P l.spare) e in
      (λ i. record { answer = Ok (given_up st); lent = record { table = a i; spare = u i; path = c i } })
      ∙ sym (ap (λ (i : ℕ). give_up_as i P l st) (sym (give_up_refusal ws l st) ∙ e))

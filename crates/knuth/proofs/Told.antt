-- What a series of calls tells: a first part of what was to come, and all of it once a call answers exhausted.
use Rattle.std.specs.Prelude.{◌≡◌, ◌≢◌, Bool, leb, Ok}
use Rattle.std.proofs.Math.Path.{refl, sym, ap}
use Rattle.std.proofs.Common.{◌∙◌, add-zero, arith, le→leb}
use Rattle.std.proofs.Math.Bool.{true, false}
use mathlib.Core.List.Memᴰ.{head as here}
use mathlib.Core.List.Memᴰ.{tail as there}
use mathlib.Core.List.{List, [], ◌∷◌, map, map-append, Memᴰ as Mem}
use Prim.Native.Nat.{ℕ, suc, ◌+◌, ◌≤◌, ◌<◌}
use Rattle.std.proofs.Math.Dec.{T}
use Rattle.std.proofs.Math.IntN.{ℤ, pos}
use Rattle.std.proofs.Math.ListN.{length, take, length-append, length-map}
use Rattle.rules.specs.declared.Phase.{Phase}
use Rattle.rules.specs.declared.Phase.TheVariants.{Ready, Solution, Done}
use Rattle.rules.specs.declared.State.{State}
use Rattle.rules.specs.declared.Limits.{Limits}
use Rattle.rules.specs.Lists.{each, over}
use Rattle.rules.specs.Problem.{Problem, cut, meant, sizes}
use Rattle.rules.specs.Order.{pick}
use Rattle.rules.specs.Links.{events, table}
use Rattle.rules.specs.Walk.{Level, made, numbers, End, solution, exhausted, paused, Walk}
use Rattle.rules.specs.Calls.{counts_fit, phase_after, moved, started, started_in, NextLent, next_answer, report_call, walked}
use Rattle.laws.specs.Lists.{and_left, and_right, cannot}
use Rattle.laws.specs.Order.{pick_sound}
use Rattle.laws.specs.Reached.{in_order_length}
use Rattle.knuth.specs.Lists.{is_true, over_length, take_over, over_same}
use Rattle.knuth.specs.Counts.{within, capped_twice, capped_none, profile_none}
use Rattle.knuth.specs.Twice.{table_twice, path_twice, counted_twice}
use Rattle.knuth.specs.Trace.{Trace, nothing, ◌then◌, to_come, remains, found_by, made_by}
use Rattle.knuth.proofs.Walks.{nothing_then, then_assoc, resume_tells}
use Rattle.knuth.specs.Adds.{resume_spends}
use Rattle.knuth.proofs.Ends.{reached_deep}
use Rattle.knuth.specs.Series.{problem, coming, Seen, before, after_answer, series, Over, Tells}
use Rattle.knuth.proofs.Stands.{Stands, stands_there, next_walked, next_stands, walk_of, walk_ended}

-- a search that is not done begins where it stands
pub begun : (st : State) → st.phase ≢ Done → started st ≡ st
begun st = step st.phase
  where
    step : (ph : Phase) → ph ≢ Done → started_in ph st ≡ st
    step Ready h = refl
    step Solution h = refl
    step Done h = absurd (h refl)

module _ {L : Limits} {ws : List ℤ} where
  -- no more calls
  none_tells : {l : NextLent} {st : State} {s : List Level} → Stands L ws l st s → (t : Trace) (x : Bool)
      → let r : Seen = record { found = []; visits = 0; exhausted = x; state = st; lent = l } in
      (x ≡ false → t ≡ coming ws l st) → (x ≡ true → (t ≡ nothing) × Over (problem ws) l r) → Tells ws t l st r
  unfolding counts_fit meant sizes
  none_tells {l} {st} S t x going ended =
      let p : List ℕ = take (cut ws).np l.profile in
      record {
        made = nothing;
        left = t;
        parts = sym (nothing_then t);
        found = refl;
        visits = refl;
        profile = rw (profile_none 0 p (and_right (within st.updates) (each within p) S.counts)) (sym (over_same (cut ws).np l.profile S.room.profile));
        updates = sym (capped_none st.updates (and_left (within st.updates) (each within p) S.counts));
        going = going;
        ended = ended;
      }

  module _ {l : NextLent} {st : State} {s : List Level} (S : Stands L ws l st s) (a : ℕ) where
    abbrev P : Problem
    P = problem ws

    abbrev w : Walk
    w = walk_of S a

    deep : length w.at ≤ (cut ws).np
    unfolding meant
    deep = reached_deep P (pick P) (pick_sound P) (walk_ended S a).reached

    -- what Report hands back after a solution
    pub report_found : w.end ≡ solution → report_call (walked P l st w).lent.found (moved (started st) w) ≡ map pos (numbers w.at)
    unfolding sizes
    report_found e =
        let told : List ℤ = map pos (numbers w.at) in
        let long : length told ≡ length w.at = length-map (numbers w.at) pos ∙ in_order_length (λ c. c.option.number) w.at in
        let room : length w.at ≤ length l.found = omega (arith, deep, S.room.found) in
        let fit : T (leb (length w.at) (length (over told l.found))) = rw (over_length told l.found (omega arith)) (le→leb (length w.at) (length l.found) room) in
        rw (e, is_true (leb (length w.at) (length (over told l.found))) fit) (take_over (length w.at) told l.found long)

    -- a call, and then the others
    first_tells : started st ≡ st → (r : Seen) → Tells ws (remains P (pick P) w.end w.at) (walked P l st w).lent (moved (started st) w) r
        → (found : List (List ℤ)) → found ≡ map (map pos) (made_by w).found
        → Tells ws (to_come P (pick P) st.phase s) l st (before found (length w.visited) r)
    unfolding meant sizes table events
    first_tells b r h found f = record {
      made = made_by w then h.made;
      left = h.left;
      parts = resume_tells P (pick P) (pick_sound P) a st.phase s ∙ ap (λ (t : Trace). made_by w then t) h.parts ∙ sym (then_assoc (made_by w) h.made h.left);
      found = rw (f, h.found) (sym (map-append (map pos) (made_by w).found h.made.found));
      visits = omega (arith, h.visits, length-append w.visited h.made.visits);
      profile = h.profile ∙ counted_twice (cut ws).np w.visited h.made.visits l.profile S.room.profile;
      updates = h.updates ∙ rw (b, capped_twice st.updates w.updates h.made.updates);
      going = h.going;
      ended = λ x.
          let y = h.ended x in (
            y.0,
            record {
              phase = y.1.phase;
              depth = y.1.depth;
              table = y.1.table ∙ table_twice P (made w.at) [] l.table;
              path = y.1.path ∙ path_twice (cut ws).np w.at [] l.path deep (omega arith);
            },
          );
    }

    -- a call that answers exhausted
    last_tells : started st ≡ st → w.end ≡ exhausted
        → Tells ws (to_come P (pick P) st.phase s) l st
        (record { found = []; visits = length w.visited; exhausted = true; state = moved (started st) w; lent = (walked P l st w).lent })
    unfolding meant table events
    last_tells b e =
        let top : w.at ≡ [] = rw e at (walk_ended S a).fits in
        let r : Seen = record { found = []; visits = 0; exhausted = true; state = moved (started st) w; lent = (walked P l st w).lent } in
        let at_top : Over P (walked P l st w).lent r = record {
          phase = ap phase_after e;
          depth = ap length top;
          table = rw top (sym (table_twice P [] [] l.table));
          path = rw top (sym (path_twice (cut ws).np [] [] l.path (omega arith) (omega arith)));
        } in
        rw (add-zero (length w.visited)) at
        (first_tells b r (none_tells (next_stands S a) (remains P (pick P) w.end w.at) true (λ x. cannot (cc)) (λ x. (rw e refl, at_top))) [] (rw e refl))

    -- a call, whatever it answers, and the calls after it
    call_tells : started st ≡ st → (later : State → Seen)
        → (started (moved (started st) w) ≡ moved (started st) w
        → Tells ws (to_come P (pick P) (phase_after w.end) w.at) (walked P l st w).lent (moved (started st) w) (later (moved (started st) w)))
        → Tells ws (to_come P (pick P) st.phase s) l st (after_answer (walked P l st w).answer (walked P l st w).lent later)
    call_tells b later rec = step w.end refl
      where
        st₁ : State
        st₁ = moved (started st) w

        step : (e : End) → w.end ≡ e
            → Tells ws (to_come P (pick P) st.phase s) l st
            (after_answer (Ok (next_answer e st₁ (length w.visited))) (walked P l st w).lent later)
        step solution e =
            let q : to_come P (pick P) (phase_after w.end) w.at ≡ remains P (pick P) w.end w.at = rw e refl in
            first_tells b (later st₁) (rw q at (rec (rw e refl))) (report_call (walked P l st w).lent.found st₁ ∷ []) (rw (report_found e) (rw e refl))
        step paused e =
            let q : to_come P (pick P) (phase_after w.end) w.at ≡ remains P (pick P) w.end w.at = rw e refl in
            first_tells b (later st₁) (rw q at (rec (rw e refl))) [] (rw e refl)
        step exhausted e = last_tells b e

module _ (L : Limits) (ws : List ℤ) where
  -- what is to be shown of a series from any point
  abbrev Telling : List ℕ → NextLent → State → List Level → Type 0
  Telling allowances l st s =
      Stands L ws l st s → started st ≡ st → Tells ws (to_come (problem ws) (pick (problem ws)) st.phase s) l st (series L ws l st allowances)

  no_call_tells : (l : NextLent) (st : State) (s : List Level) → Telling [] l st s
  unfolding series
  no_call_tells l st s S b =
      none_tells S (to_come (problem ws) (pick (problem ws)) st.phase s) false
      (λ e. ap (to_come (problem ws) (pick (problem ws)) st.phase) (sym (stands_there S))) (λ e. cannot (cc))

  more_tells : (a : ℕ) (more : List ℕ) → ((l : NextLent) (st : State) (s : List Level) → Telling more l st s) → (l : NextLent) (st : State) (s : List Level) → Telling (a ∷ more) l st s
  unfolding series
  more_tells a more rec l st s S b =
      let l₁ : NextLent = (walked (problem ws) l st (walk_of S a)).lent in
      rw (next_walked S a)
      (call_tells S a b (λ st'. series L ws l₁ st' more) (λ b'. rec l₁ (moved (started st) (walk_of S a)) (walk_of S a).at (next_stands S a) b'))

  pub series_tells : (allowances : List ℕ) (l : NextLent) (st : State) (s : List Level) → Telling allowances l st s
  series_tells [] l st s = no_call_tells l st s
  series_tells (a ∷ more) l st s = more_tells a more (series_tells more) l st s

  -- ---- the end comes

  -- the calls that can still be made with allowances that are not 0: each makes a visit, or finds a solution, or is the last
  abbrev length_of : Trace → ℕ
  length_of t = length t.visits + length t.found

  abbrev Ending : List ℕ → NextLent → State → List Level → Type 0
  Ending allowances l st s =
      Stands L ws l st s → ((a : ℕ) → Mem a allowances → 0 < a) → length_of (to_come (problem ws) (pick (problem ws)) st.phase s) < length allowances
      → (series L ws l st allowances).exhausted ≡ true

  call_ends : (a : ℕ) {l : NextLent} {st : State} {s : List Level} (S : Stands L ws l st s) (n : ℕ) → 0 < a
      → length_of (to_come (problem ws) (pick (problem ws)) st.phase s) < suc n → (later : State → Seen)
      → (length_of (to_come (problem ws) (pick (problem ws)) (phase_after (walk_of S a).end) (walk_of S a).at) < n → (later (moved (started st) (walk_of S a))).exhausted ≡ true)
      → (after_answer (walked (problem ws) l st (walk_of S a)).answer (walked (problem ws) l st (walk_of S a)).lent later).exhausted ≡ true
  call_ends a {l} {st} {s} S n h small later rec = step w.end refl
    where
      P : Problem
      P = problem ws

      w : Walk
      w = walk_of S a

      told : to_come P (pick P) st.phase s ≡ made_by w then remains P (pick P) w.end w.at
      told = resume_tells P (pick P) (pick_sound P) a st.phase s

      sum : (e : End) → w.end ≡ e → length_of (to_come P (pick P) st.phase s) ≡ length w.visited + length (remains P (pick P) e w.at).visits + (length (found_by e w.at) + length (remains P (pick P) e w.at).found)
      sum e u =
          let t : Trace = remains P (pick P) e w.at in
          let q : to_come P (pick P) st.phase s ≡ record { visits = w.visited; found = found_by e w.at; updates = w.updates } then t = rw u at told in
          ap length_of q ∙ omega (arith, length-append w.visited t.visits, length-append (found_by e w.at) t.found)

      step : (e : End) → w.end ≡ e
          → (after_answer (Ok (next_answer e (moved (started st) w) (length w.visited))) (walked P l st w).lent
          later).exhausted ≡ true
      step solution e = rec (rw e (omega (arith, sum solution e)))
      step paused e = rec (rw e (omega (arith, sum paused e, resume_spends P (pick P) a st.phase s e)))
      step exhausted e = refl

  more_ends : (a : ℕ) (more : List ℕ) → ((l : NextLent) (st : State) (s : List Level) → Ending more l st s) → (l : NextLent) (st : State) (s : List Level) → Ending (a ∷ more) l st s
  unfolding series
  more_ends a more rec l st s S h small =
      let l₁ : NextLent = (walked (problem ws) l st (walk_of S a)).lent in
      rw (next_walked S a)
      (call_ends a S (length more) (h a (here refl)) small (λ st'. series L ws l₁ st' more) (λ k. rec l₁ (moved (started st) (walk_of S a)) (walk_of S a).at (next_stands S a) (λ b m. h b (there m)) k))

  pub series_ends : (allowances : List ℕ) (l : NextLent) (st : State) (s : List Level) → Ending allowances l st s
  series_ends [] l st s S h small = absurd (omega arith)
  series_ends (a ∷ more) l st s S h small = more_ends a more (series_ends more) l st s S h small

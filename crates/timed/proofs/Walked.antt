-- Set-up, and the walk after it. Assumes nothing.
use Rattle.std.specs.Prelude.{Result, Ok, Err}
use mathlib.Core.Path.{◌≡◌, refl, sym, ap, ◌∙◌}
use mathlib.Core.List.{List, [], ◌++◌}
use Prim.Native.Nat.{ℕ, zero, suc, ◌+◌, ◌≤◌}
use native.Mathlib.Omega.{arith}
use lib.IntN.{ℤ, pos}
use lib.ListN.{length, take, drop, replicate, length-append, length-replicate}
use lib.Seq.{take_at}
use Rattle.rules.specs.declared.Limits.{Limits}
use Rattle.rules.specs.declared.NextAnswer.{NextAnswer}
use Rattle.rules.specs.declared.Refused.{Refused}
use Rattle.rules.specs.declared.Phase.TheVariants.{Ready}
use Rattle.rules.specs.declared.Sizes.{Sizes}
use Rattle.rules.specs.declared.State.{State}
use Rattle.rules.specs.Lists.{over}
use Rattle.rules.specs.Problem.{Problem, library_limits, cut, meant, table_length, verdict, problem_refusal}
use Rattle.rules.specs.Order.{pick}
use Rattle.rules.specs.Links.{fresh, table as table_at}
use Rattle.rules.specs.Walk.{Walk, End, solution, exhausted, paused, made}
use Rattle.rules.specs.Calls.{profile_from, path_words, end_number, next_answer, walk_said, SetUpLent, SetUpOutcome}
use Rattle.rules.specs.Calls.{set_up_room, state_said, set_up_as, set_up_call}
use Rattle.rules.specs.Door.{walk_to}
use Rattle.tables.specs.Sizes.{fresh_size}
use Rattle.problem.specs.Measured.{measured, refused_refusal, refused_some, table_bounds}
use Rattle.problem.specs.Room.{Accepted, accepted}
use Rattle.search.specs.Points.{On, Profile}
use Rattle.search.specs.Meant.{np_meant, top_words, top_on, top_profile}
use Rattle.search.specs.Arrived.{whole_to, Arrived}
use Rattle.calls.proofs.Outcomes.{over_part}
use Rattle.timed.specs.Timed.{largest, Timed, set_up_timed, walked, walk_as, walk_timed}
use Rattle.timed.specs.Fronts.{Top}

-- new words over the front of a list are its front
front : {A : Type 0} (new old : List A) {k : ℕ} → length new ≡ k → (k ≤ length (over new old)) × (take k (over new old) ≡ new)
front new old {k} e = (omega (arith, length-append new (drop (length new) old)), take_at new (drop (length new) old) k e)

-- ---- set-up

module _ (ws : List ℤ) (l : SetUpLent) where
  pub set_up_is : {r : Result State Refused} {l' : SetUpLent} {k : ℕ}
      → record { answer = r; lent = l' } ≡ set_up_call library_limits ws l → k ≡ (state_said r).number
      → record { result = k; lent = l' } ≡ set_up_timed ws l
  set_up_is {l' = l'} e u =
      ap (λ (i : ℕ). record { result = i; lent = l' }) u
      ∙ ap (λ (o : SetUpOutcome). record { result = (state_said o.answer).number; lent = o.lent }) e

  module _ {r : ℕ} {l' : SetUpLent} (e : record { result = r; lent = l' } ≡ set_up_timed ws l) where
    pub walk_refused : (number : ℕ) → (r ≡ 0 → ⊥) → record { result = r; lent = l' } ≡ walk_timed ws l number
    unfolding walk_timed
    walk_refused number n = by r n ∙ ap (λ (o : Timed). walk_as o.result (meant (cut ws)) number o.lent) e
      where
        by : (k : ℕ) → (k ≡ 0 → ⊥) → record { result = k; lent = l' } ≡ walk_as k (meant (cut ws)) number l'
        by zero n = absurd (n refl)
        by (suc k) n = refl

    module _ (z : r ≡ 0) where
      pub walk_done : (number : ℕ) {o : Timed} → o ≡ walked (meant (cut ws)) number l' → o ≡ walk_timed ws l number
      unfolding walk_timed
      walk_done number u =
          u ∙ ap (λ (k : ℕ). walk_as k (meant (cut ws)) number l') (sym z)
          ∙ ap (λ (o : Timed). walk_as o.result (meant (cut ws)) number o.lent) e

      -- nothing was refused, and the lists are set up
      laid : (problem_refusal library_limits 1 (set_up_room l) ws ≡ 0) × (l' ≡ (set_up_as 0 (meant (cut ws)) l).lent)
      unfolding set_up_call
      laid = by (problem_refusal library_limits 1 (set_up_room l) ws) refl e
        where
          by : (k : ℕ) → problem_refusal library_limits 1 (set_up_room l) ws ≡ k
              → ◌≡◌ {A = Timed} (record { result = r; lent = l' }) (record {
                result = (state_said (set_up_as k (meant
                    (cut ws)) l).answer).number;
                lent = (set_up_as k (meant (cut ws)) l).lent;
              })
              → (problem_refusal library_limits 1 (set_up_room l) ws ≡ 0) × (l' ≡ (set_up_as 0 (meant (cut ws)) l).lent)
          by zero u e = (u, ap (λ (o : Timed). o.lent) e)
          by (suc k) u e = absurd (let n : r ≡ suc k = ap (λ (o : Timed). o.result) e in omega arith)

      module _ {L : Limits} {v : Result Sizes ℕ} (p : L ≡ library_limits) (q : v ≡ verdict L 1 ws) where
        -- so the words are not refused again
        pub not_refused : {k : ℕ} → v ≡ Err k → ⊥
        not_refused {k} u =
            let d : Err k ≡ verdict library_limits 1 ws = sym u ∙ q ∙ ap (λ (x : Limits). verdict x 1 ws) p in
            omega (arith, refused_some library_limits 1 ws k d, refused_refusal library_limits 1 ws k d (set_up_room l), laid.0)

        pub at_top : {s : Sizes} → v ≡ Ok s → Top ws s l'
        at_top {s} u =
            let M = measured library_limits 1 ws s (sym u ∙ q ∙ ap (λ (x : Limits). verdict x 1 ws) p) in
            let A : Accepted library_limits 1 (set_up_room l) ws s = accepted library_limits 1 (set_up_room l) ws laid.0 M.are in
            let P : Problem = meant (cut ws) in
            let np = np_meant ws s M in
            let t = front (fresh P) l.table (fresh_size (cut ws) A.faultless ∙ ap (λ (x : Sizes). table_length x) (sym M.are)) in
            let w = front (path_words P.np []) l.path (ap length (top_words P.np) ∙ length-replicate P.np (pos 0) ∙ np) in
            let c = front (replicate P.np 0) l.profile (length-replicate P.np 0 ∙ np) in
            rw laid.1 (record {
              measures = M;
              faultless = A.faultless;
              small = omega (arith, (table_bounds A.bounds).0);
              table_room = t.0;
              path_room = w.0;
              profile_room = c.0;
              table_is = t.1;
              path_is = w.1 ∙ top_words P.np ∙ ap (λ (k : ℕ). replicate k (pos 0)) np;
              profile_is = c.1 ∙ ap (λ (k : ℕ). replicate k 0) np;
            })

-- ---- the walk

end_said : (e : End) (st : State) (v : ℕ) → (walk_said (next_answer e st v)).number ≡ end_number e
end_said solution st v = refl
end_said exhausted st v = refl
end_said paused st v = refl

module _ {ws : List ℤ} {s : Sizes} {l : SetUpLent} (T : Top ws s l) where
  abbrev P : Problem
  P = meant (cut ws)

  pub fronts_on : On P (s.np + s.ns) [] (take (table_length s) l.table) (take s.np l.path) 0
  fronts_on = top_on ws s T.measures T.faultless T.small T.table_is T.path_is

  pub fronts_profile : Profile (length (take s.np l.path)) (take s.np l.profile)
  fronts_profile = top_profile s.np T.path_is T.profile_is

  pub fronts_walked : (number : ℕ) {t path : List ℤ} {profile : List ℕ} {r : NextAnswer}
      → Arrived P (s.np + s.ns) (walk_to P (pick P) number largest Ready [])
      (whole_to P (pick P) number largest Ready []) (take s.np l.profile) t path profile r
      → length t ≡ table_length s → length path ≡ s.np → length profile ≡ s.np
      → record {
        result = (walk_said r).number;
        lent = record {
          table = t ++ drop (table_length s) l.table;
          path = path ++ drop s.np l.path;
          profile = profile ++ drop s.np l.profile;
        };
      } ≡ walked P number l
  fronts_walked number {t} {path} {profile} {r} A a b c =
      let w : Walk = walk_to P (pick P) number largest Ready [] in
      let visited : List ℕ = (whole_to P (pick P) number largest Ready []).visited in
      let k : (walk_said r).number ≡ end_number w.end =
      ap (λ (x : NextAnswer). (walk_said x).number) A.answer ∙ end_said w.end _ _ in
      let x = over_part (table_at P (made w.at)) l.table t (table_length s) A.on.at.is a in
      let y = over_part (path_words P.np w.at) l.path path s.np A.on.path_is b in
      let v : profile ≡ profile_from 0 visited (take P.np l.profile) =
      A.profile_is
      ∙ ap (λ (k : ℕ). profile_from 0 visited (take k l.profile)) (sym (np_meant ws s T.measures)) in
      let z = over_part (profile_from 0 visited (take P.np l.profile)) l.profile profile s.np v c in
      λ i. record { result = k i; lent = record { table = x i; path = y i; profile = z i } }

-- a refusal of set-up is the walk's, as an equation for the tactics
pub refused_walk : (ws : List ℤ) (l : SetUpLent) (number : ℕ) → ((set_up_timed ws l).result ≡ 0 → ⊥) → walk_timed ws l number ≡ set_up_timed ws l
refused_walk ws l number n = sym (walk_refused ws l {r = (set_up_timed ws l).result} {l' = (set_up_timed ws l).lent} refl number n)

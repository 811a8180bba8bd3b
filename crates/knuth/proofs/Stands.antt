-- A search that stands at a point: Next is accepted there, and stands at the point that its walk ended at.
use Rattle.std.specs.Prelude.{◌≡◌, leb, ℤ, negsuc, take, Option, None, Some}
use Rattle.std.proofs.Math.Path.{refl}
use Rattle.std.proofs.Common.{ap, ◌∙◌, arith, leb→le, le→leb}
use Rattle.std.proofs.Math.Bool.{Bool}
use mathlib.Core.List.Memᴰ.{not-nil}
use mathlib.Core.List.{List, [], map}
use Prim.Native.Nat.{ℕ, ◌≤◌, ◌<◌}
use Rattle.std.proofs.Math.Dec.{T}
use Rattle.std.proofs.Math.IntN.{pos}
use Rattle.std.specs.Int.Signed.{le_z}
use Rattle.std.proofs.Math.ListN.{length, length-map}
use Rattle.std.proofs.Math.Seq.{length-take-le}
use Rattle.rules.specs.declared.Phase.TheVariants.{Ready}
use Rattle.rules.specs.declared.State.{State}
use Rattle.rules.specs.declared.Limits.{Limits}
use Rattle.rules.specs.declared.Sizes.{Sizes}
use Rattle.rules.specs.Lists.{each, got}
use Rattle.rules.specs.Words.{word, nat}
use Rattle.rules.specs.Problem.{Problem, Cut, cut, meant, cut_refusal, fault, sizes, table_length, need, problem_refusal}
use Rattle.rules.specs.Order.{pick}
use Rattle.rules.specs.Links.{fresh, events, table}
use Rattle.rules.specs.Walk.{Level, made, numbers, End, solution, exhausted, paused, Walk, resume}
use Rattle.rules.specs.Calls.{capped, counts_fit, profile_from, moved, started, levels_or_top, path_words, lent_point, search_refusal, NextLent, next_room, found_words, walked, next_call}
use Rattle.laws.specs.Lists.{and_left, and_right, and_both}
use Rattle.laws.specs.Order.{pick_sound}
use Rattle.laws.specs.Reached.{Reached, root, point_reached, in_order_length, path_length}
use Rattle.laws.specs.Faults.{need_holds, first_none}
use Rattle.tables.specs.Sizes.{fresh_size, table_size}
use Rattle.knuth.specs.Lists.{is_true, over_length, over_room, take_over}
use Rattle.knuth.proofs.Ends.{Ends, Fits, resume_ends, reached_deep}
use Rattle.knuth.proofs.Points.{point_back}
use Rattle.knuth.specs.Series.{Accepted, stands_at, problem}
use Rattle.knuth.specs.Counts.{within, capped_within, profile_length, profile_within}

-- ---- room

-- the lent lists are long enough
pub record Roomy (l : NextLent) (s : Sizes) : Type 0 where
  pub table : table_length s ≤ length l.table
  pub spare : table_length s ≤ length l.spare
  pub path : s.np ≤ length l.path
  pub profile : s.np ≤ length l.profile
  pub found : s.np ≤ length l.found

room→ : (l : NextLent) (s : Sizes) → T (next_room l s) → Roomy l s
unfolding next_room
room→ l s t = record {
  table = leb→le (table_length s) (length l.table) (search (and_left, and_right));
  spare = leb→le (table_length s) (length l.spare) (search (and_left, and_right));
  path = leb→le s.np (length l.path) (search (and_left, and_right));
  profile = leb→le s.np (length l.profile) (search (and_left, and_right));
  found = leb→le s.np (length l.found) (search (and_left, and_right));
}

room← : (l : NextLent) (s : Sizes) → Roomy l s → T (next_room l s)
unfolding next_room
room← l s r = search (and_both, le→leb)

-- ---- the words of the problem

-- the limits and the cut let the words pass, and no entry is at fault
pub record Meant (L : Limits) (ws : List ℤ) : Type 0 where
  pub cut_right : cut_refusal L 1 ws ≡ 0
  pub faultless : fault (cut ws) ≡ 0

module _ (L : Limits) (ws : List ℤ) where
  pub problem→ : (room : Sizes → Bool) → problem_refusal L 1 room ws ≡ 0 → Meant L ws × T (room (sizes (cut ws)))
  unfolding problem_refusal
  problem→ room e =
      let a = first_none (cut_refusal L 1 ws) (need (room (sizes (cut ws))) 9 (fault (cut ws))) e in
      let b = need_holds (room (sizes (cut ws))) 8 (fault (cut ws)) a.1 in
      (record { cut_right = a.0; faultless = b.1 }, b.0)

  pub problem← : (room : Sizes → Bool) → Meant L ws → T (room (sizes (cut ws))) → problem_refusal L 1 room ws ≡ 0
  unfolding problem_refusal
  problem← room m t = rw (m.cut_right, is_true (room (sizes (cut ws))) t, m.faultless)

-- there is a primary item
some_item : (L : Limits) (ws : List ℤ) → Meant L ws → 0 < (cut ws).np
unfolding cut_refusal cut
some_item L ws m =
    let a = need_holds (leb 3 (length ws)) 3 _ m.cut_right in
    positive (word ws 0) (need_holds (le_z (pos 1) (word ws 0)) 0 _ a.1).0
  where
    positive : (z : ℤ) → T (le_z (pos 1) z) → 0 < nat z
    positive (pos k) t = leb→le 1 k t
    positive (negsuc k) t = absurd t

-- ---- standing at a point

pub record Stands (L : Limits) (ws : List ℤ) (l : NextLent) (st : State) (s : List Level) : Type 0 where
  pub meaning : Meant L ws
  pub room : Roomy l (sizes (cut ws))
  pub counts : T (counts_fit st (take (cut ws).np l.profile))
  pub at : lent_point (cut ws) st l.table l.path ≡ Some s

module _ {L : Limits} {ws : List ℤ} {l : NextLent} {st : State} where
  pub accepted→ : Accepted L ws l st → Stands L ws l st (stands_at ws l st)
  unfolding search_refusal
  accepted→ e =
      let fit : Bool = counts_fit st (take (cut ws).np l.profile) in
      let o : Option (List Level) = lent_point (cut ws) st l.table l.path in
      let a = first_none (problem_refusal L 1 (next_room l) ws) (need fit 11 (need (got o) 10 0)) e in
      let b = need_holds fit 10 (need (got o) 10 0) a.1 in
      let m = problem→ L ws (next_room l) a.0 in
      record { meaning = m.0; room = room→ l (sizes (cut ws)) m.1; counts = b.0; at = there_is o (need_holds (got o) 9 0 b.1).0 }
    where
      there_is : (o : Option (List Level)) → T (got o) → o ≡ Some (levels_or_top o)
      there_is None t = absurd t
      there_is (Some s) t = refl

  pub accepted← : {s : List Level} → Stands L ws l st s → Accepted L ws l st
  unfolding search_refusal
  accepted← S =
      rw (problem← L ws (next_room l) S.meaning (room← l (sizes (cut ws)) S.room), is_true (counts_fit st (take (cut ws).np l.profile)) S.counts, S.at)

  pub stands_there : {s : List Level} → Stands L ws l st s → stands_at ws l st ≡ s
  stands_there S = ap levels_or_top S.at

  pub next_walked : {s : List Level} → Stands L ws l st s → (a : ℕ) → next_call L ws l st a ≡ walked (problem ws) l st (resume (problem ws) (pick (problem ws)) a st.phase s)
  unfolding next_call
  next_walked S a = rw (accepted← S, S.at)

  stands_reached : {s : List Level} → Stands L ws l st s → Reached (problem ws) (pick (problem ws)) s
  unfolding lent_point
  stands_reached S = (point_reached (problem ws) (pick (problem ws)) st (take (table_length (sizes (cut ws))) l.table) (take (cut ws).np l.path) S.at).0

-- the lent words that a walk leaves are as long as before
module _ (C : Cut) (l : NextLent) (st : State) (w : Walk) (f : fault C ≡ 0) (r : Roomy l (sizes C)) (deep : length w.at ≤ C.np) where
  found_length : (e : End) (s : List Level) → length s ≤ C.np → length (found_words e s l.found) ≡ length l.found
  unfolding sizes
  found_length solution s h = over_length (map pos (numbers s)) l.found (omega (arith, length-map (numbers s) pos, in_order_length (λ c. c.option.number) s, r.found))
  found_length exhausted s h = refl
  found_length paused s h = refl

  new_profile : length (profile_from 0 w.visited (take C.np l.profile)) ≡ C.np
  unfolding sizes
  new_profile = profile_length w.visited 0 (take C.np l.profile) ∙ length-take-le C.np l.profile r.profile

  walked_room : Roomy (walked (meant C) l st w).lent (sizes C)
  unfolding sizes meant
  walked_room = record {
    table = over_room (table_length (sizes C)) (table (meant C) (made w.at)) l.table (table_size C f (made w.at)) r.table;
    spare = over_room (table_length (sizes C)) (fresh (meant C)) l.spare (fresh_size C f) r.spare;
    path = over_room C.np (path_words C.np w.at) l.path (path_length C.np w.at deep) r.path;
    profile = over_room C.np (profile_from 0 w.visited (take C.np l.profile)) l.profile new_profile r.profile;
    found = rw (found_length w.end w.at deep) r.found;
  }

-- the search stands where a walk ended
module _ {L : Limits} {ws : List ℤ} {l : NextLent} {st : State} {s : List Level} (S : Stands L ws l st s) where
  walked_stands : (w : Walk) → Ends (problem ws) (pick (problem ws)) w → Stands L ws (walked (problem ws) l st w).lent (moved (started st) w) w.at
  unfolding lent_point counts_fit meant
  walked_stands w e =
      let P : Problem = problem ws in
      let C : Cut = cut ws in
      let f : fault C ≡ 0 = S.meaning.faultless in
      let deep : length w.at ≤ C.np = reached_deep P (pick P) (pick_sound P) e.reached in
      let profile : List ℕ = profile_from 0 w.visited (take C.np l.profile) in
      let t = take_over (table_length (sizes C)) (table P (made w.at)) l.table (table_size C f (made w.at)) in
      let p = take_over C.np (path_words C.np w.at) l.path (path_length C.np w.at deep) in
      let q = take_over C.np profile l.profile (new_profile C l st w f S.room deep) in
      record {
        meaning = S.meaning;
        room = walked_room C l st w f S.room deep;
        counts = rw q (and_both (within (capped (started st).updates w.updates)) (each within profile) (capped_within (started st).updates w.updates) (profile_within w.visited 0 (take C.np l.profile)));
        at = rw (t, p) (point_back P (pick P) w.end w.at (capped (started st).updates w.updates) e.reached deep e.fits);
      }

  -- the walk of a call
  abbrev pub walk_of : ℕ → Walk
  walk_of a = resume (problem ws) (pick (problem ws)) a st.phase s

  pub walk_ended : (a : ℕ) → Ends (problem ws) (pick (problem ws)) (walk_of a)
  walk_ended a = resume_ends (problem ws) (pick (problem ws)) a st.phase (stands_reached S)

  pub next_stands : (a : ℕ) → Stands L ws (walked (problem ws) l st (walk_of a)).lent (moved (started st) (walk_of a)) (walk_of a).at
  next_stands a = walked_stands (walk_of a) (walk_ended a)

-- ---- the top

-- an item is taken where nothing is chosen
pub top_fits : {L : Limits} {ws : List ℤ} → Meant L ws → Fits (problem ws) (pick (problem ws)) paused []
unfolding meant
top_fits {L} {ws} m = step (pick (problem ws) []) refl
  where
    step : (r : Option ℕ) → pick (problem ws) [] ≡ r → (i : ℕ) × (pick (problem ws) [] ≡ Some i)
    step None e = let c = (pick_sound (problem ws)).ends [] e 0 (some_item L ws m) in absurd (not-nil c.1)
    step (Some i) e = (i, e)

-- lent words that hold the fresh table and a clear path in front are the top
pub top_stands : {L : Limits} {ws : List ℤ} → Meant L ws → (l : NextLent) (u : ℕ) → Roomy l (sizes (cut ws))
    → take (table_length (sizes (cut ws))) l.table ≡ fresh (problem ws) → take (cut ws).np l.path ≡ path_words (cut ws).np []
    → T (within u) → T (each within (take (cut ws).np l.profile)) → Stands L ws l (record { phase = Ready; depth = 0; updates = u }) []
unfolding lent_point counts_fit meant table events
top_stands {L} {ws} m l u r t p hu hp =
    let P : Problem = problem ws in
    record {
      meaning = m;
      room = r;
      counts = and_both (within u) (each within (take (cut ws).np l.profile)) hu hp;
      at = rw (t, p) (point_back P (pick P) paused [] u root (omega arith) (top_fits m));
    }

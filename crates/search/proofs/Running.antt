-- The walk as a loop: what is told at its end, by what is left of it.
use mathlib.Core.Path.{◌≡◌, refl, sym, ap, ◌∙◌}
use mathlib.Core.Logic.{◌≢◌}
use Rattle.std.specs.Prelude.{Option, None, Some}
use mathlib.Core.List.{List, [], ◌∷◌, ◌++◌}
use Prim.Native.Nat.{ℕ, zero, suc, ◌+◌, ◌-◌, ◌≤◌, ◌<◌}
use native.Mathlib.Omega.{arith}
use borrow.Author.Tests.{eq-eqb, ne_eqb}
use lib.IntN.{ℤ}
use lib.ListN.{length, get_or, set, length-set}
use Rattle.rules.specs.Lists.{tally}
use Rattle.laws.specs.Lists.{cannot}
use Rattle.rules.specs.declared.NextAnswer.{NextAnswer}
use Rattle.rules.specs.declared.Phase.{Phase}
use Rattle.rules.specs.declared.Phase.TheVariants as Phases
use Rattle.rules.specs.declared.State.{State}
use Rattle.rules.specs.Problem.{Problem}
use Rattle.rules.specs.Order.{pick}
use Rattle.rules.specs.Walk.{Level, chosen, Move, retreat, enter, End, solution, exhausted, paused, Walk, stop, visiting, paying, follow, walk, resume}
use Rattle.rules.specs.Calls.{cap, capped, profile_from, phase_after, blank, moved, started_in, next_answer}
use Rattle.search.specs.Depth.{path_long}
use Rattle.search.specs.Points.{At, On, header, Gone, Picked, Taking, Profile, Ran, Begun}
use Rattle.search.proofs.Moving.{entry_room}

-- ---- the profile

abbrev pub bumped : List ℕ → ℕ → List ℕ
bumped profile l = set profile l (capped (get_or profile l 0) 1)

-- a visit above the words counts for nothing
profile_past : (k m : ℕ) (vis profile : List ℕ) → m < k → profile_from k (m ∷ vis) profile ≡ profile_from k vis profile
unfolding profile_from tally
profile_past k m vis [] h = refl
profile_past k m vis (c ∷ cs) h =
    rw (ne_eqb k m (λ e. omega arith), profile_past (suc k) m vis cs (omega arith)) (ap (λ (x : ℕ). capped c x ∷ profile_from (suc k) vis cs) (omega arith))

profile_step : (k l m : ℕ) (vis profile : List ℕ) → m ≡ k + l → profile_from k (m ∷ vis) profile ≡ profile_from k vis (bumped profile l)
unfolding profile_from tally
profile_step k l m vis [] e = refl
profile_step k zero m vis (c ∷ cs) e =
    rw (eq-eqb k m (omega arith), profile_past (suc k) m vis cs (omega arith)) (ap (λ (x : ℕ). x ∷ profile_from (suc k) vis cs) (omega arith))
profile_step k (suc l) m vis (c ∷ cs) e =
    rw (ne_eqb k m (λ f. omega arith), profile_step (suc k) l m vis cs (omega arith))
    (ap (λ (x : ℕ). capped c x ∷ profile_from (suc k) vis (bumped cs l)) (omega arith))

profile_none : (k : ℕ) (profile : List ℕ) → ((i : ℕ) → get_or profile i 0 ≤ cap) → profile_from k [] profile ≡ profile
unfolding profile_from tally
profile_none k [] h = refl
profile_none k (c ∷ cs) h = rw (profile_none (suc k) cs (λ i. h (suc i))) (ap (λ (x : ℕ). x ∷ cs) (omega (arith, h 0)))

set_small : (profile : List ℕ) (l x : ℕ) → x ≤ cap → ((k : ℕ) → get_or profile k 0 ≤ cap) → (k : ℕ) → get_or (set profile l x) k 0 ≤ cap
set_small [] l x h f k = f k
set_small (c ∷ cs) zero x h f zero = h
set_small (c ∷ cs) zero x h f (suc k) = f (suc k)
set_small (c ∷ cs) (suc l) x h f zero = f 0
set_small (c ∷ cs) (suc l) x h f (suc k) = set_small cs l x h (λ i. f (suc i)) k

bumped_fits : {np : ℕ} {profile : List ℕ} (l : ℕ) → Profile np profile → Profile np (bumped profile l)
bumped_fits {np} {profile} l p = record {
  long = length-set profile l (capped (get_or profile l 0) 1) ∙ p.long;
  small = set_small profile l (capped (get_or profile l 0) 1) (omega arith) p.small;
}

-- counts within the cap stay so
pub profile_fits : (visited : List ℕ) {np : ℕ} {profile : List ℕ} → Profile np profile → Profile np (profile_from 0 visited profile)
profile_fits [] {np} {profile} p = rw (profile_none 0 profile p.small) p
profile_fits (l ∷ visited) {np} {profile} p = rw (profile_step 0 l l visited profile (omega arith)) (profile_fits visited (bumped_fits l p))

-- visits and then more of them
pub profile_then : (visited more : List ℕ) {np : ℕ} {profile : List ℕ} → Profile np profile → profile_from 0 (visited ++ more) profile ≡ profile_from 0 more (profile_from 0 visited profile)
profile_then [] more {np} {profile} p = ap (profile_from 0 more) (sym (profile_none 0 profile p.small))
profile_then (l ∷ visited) more {np} {profile} p =
    profile_step 0 l l (visited ++ more) profile (omega arith) ∙ profile_then visited more (bumped_fits l p)
    ∙ ap (profile_from 0 more) (sym (profile_step 0 l l visited profile (omega arith)))

-- ---- what is told at the end of a walk that comes after u updates and v visits

pub record Told : Type 0 where
  pub end : End
  pub at : List Level
  pub updates : ℕ
  pub visits : ℕ
  pub profile : List ℕ

abbrev pub told : Walk → ℕ → ℕ → List ℕ → Told
told w u v profile = record {
  end = w.end;
  at = w.at;
  updates = capped u w.updates;
  visits = v + length w.visited;
  profile = profile_from 0 w.visited profile;
}

told_visit : (l u v : ℕ) (profile : List ℕ) (w : Walk) → told (visiting l w) u v profile ≡ told w u (v + 1) (bumped profile l)
told_visit l u v profile w =
    let a : v + suc (length w.visited) ≡ (v + 1) + length w.visited = omega arith in
    let b : profile_from 0 (l ∷ w.visited) profile ≡ profile_from 0 w.visited (bumped profile l) = profile_step 0 l l w.visited profile (omega arith) in
    λ i. record { end = w.end; at = w.at; updates = capped u w.updates; visits = a i; profile = b i }

told_pay : (m u u' v : ℕ) (profile : List ℕ) (w : Walk) → u' ≡ capped u m → told (paying m w) u v profile ≡ told w u' v profile
told_pay m u u' v profile w e =
    let a : capped u (m + w.updates) ≡ capped u' w.updates = omega arith in
    λ i. record { end = w.end; at = w.at; updates = a i; visits = v + length w.visited; profile = profile_from 0 w.visited profile }

-- what is left where T is told
pub record Ends (P : Problem) (n : ℕ) (T : Told) (t path : List ℤ) (profile : List ℕ) (r : NextAnswer) : Type 0 where
  pub answer : r ≡ next_answer T.end (record { phase = phase_after T.end; depth = length T.at; updates = T.updates }) T.visits
  pub on : On P n T.at t path (length T.at)
  pub profile_is : profile ≡ T.profile

-- that is what the walk leaves
visits_are : (w : Walk) → 0 + length w.visited ≡ length w.visited
visits_are w = omega arith

module _ {P : Problem} {n : ℕ} (w : Walk) (st : State) {profile : List ℕ} {t path : List ℤ} {profile' : List ℕ} {r : NextAnswer} where
  pub ends_ran : Ends P n (told w st.updates 0 profile) t path profile' r → Ran P n w st profile t path profile' r
  ends_ran E = record { answer = E.answer ∙ ap (next_answer w.end (moved st w)) (visits_are w); on = E.on; profile_is = E.profile_is }

  pub ran_ends : Ran P n w st profile t path profile' r → Ends P n (told w st.updates 0 profile) t path profile' r
  ran_ends R = record { answer = R.answer ∙ ap (next_answer w.end (moved st w)) (sym (visits_are w)); on = R.on; profile_is = R.profile_is }

-- the walk stops
pub stopped : {P : Problem} {n : ℕ} (e : End) {s : List Level} {t path : List ℤ} {l np : ℕ} (u v : ℕ) {profile : List ℕ} {r : State} → u ≤ cap → Profile np profile → On P n s t path l
    → r ≡ record { phase = phase_after e; depth = l; updates = u } → Ends P n (told (stop e s) u v profile) t path profile (next_answer e r v)
stopped e {s} {l = l} u v {profile = profile} {r = r} h p O f = record {
  answer = ap (λ (x : State). next_answer e x v) (f ∙ state_is) ∙ ap (next_answer e (state_of (length s) (capped u 0))) all_visits;
  on = record { at = O.at; path_is = O.path_is; level = refl };
  profile_is = sym (profile_none 0 profile p.small);
}
  where
    state_of : ℕ → ℕ → State
    state_of d x = record { phase = phase_after e; depth = d; updates = x }

    state_is : state_of l u ≡ state_of (length s) (capped u 0)
    state_is =
        let a : u ≡ capped u 0 = omega arith in
        let b : l ≡ length s = O.level in
        λ i. state_of (b i) (a i)

    all_visits : v ≡ v + 0
    all_visits = omega arith

-- ---- where a move leads

-- the walk goes on, with T to be told
pub record Onward (P : Problem) (n : ℕ) (T : Told) (a : ℕ) (t path : List ℤ) (k u v : ℕ) (profile : List ℕ) : Type 0 where
  pub s : List Level
  pub on : On P n s t path k
  pub same : T ≡ told (walk P (pick P) a s) u v profile

module _ {P : Problem} {n : ℕ} (m : Option Move) {T : Told} (a u v : ℕ) (profile : List ℕ) (e : T ≡ told (follow m (λ s. walk P (pick P) a s)) u v profile)
    (t path : List ℤ) (r : Option (ℕ × ℕ)) (G : Gone P n m t path r) where
  pub goes_on : {k b u' : ℕ} → r ≡ Some (k, b) → u' ≡ capped u b → Onward P n T a t path k u' v profile
  goes_on {k} {b} {u'} f h = step m e G
    where
      step : (m : Option Move) → T ≡ told (follow m (λ s. walk P (pick P) a s)) u v profile → Gone P n m t path r → Onward P n T a t path k u' v profile
      step None e G = cannot (let q = G.is in cc)
      step (Some m) e G =
          let both : (k, b) ≡ (length m.to, G.updates) = let q = G.is in cc in
          let x : k ≡ length m.to = ap (λ (p : ℕ × ℕ). p.0) both in
          let y : b ≡ G.updates = ap (λ (p : ℕ × ℕ). p.1) both in
          let c : u' ≡ capped u m.updates = h ∙ ap (λ (i : ℕ). capped u i) y ∙ G.counts u in
          record {
            s = m.to;
            on = record { at = G.on.at; path_is = G.on.path_is; level = x };
            same = e ∙ told_pay m.updates u u' v profile (walk P (pick P) a m.to) c;
          }

  pub goes_out : r ≡ None → (T ≡ told (stop exhausted []) u v profile) × On P n [] t path 0
  goes_out f = step m e G
    where
      step : (m : Option Move) → T ≡ told (follow m (λ s. walk P (pick P) a s)) u v profile → Gone P n m t path r → (T ≡ told (stop exhausted []) u v profile) × On P n [] t path 0
      step None e G = (e, G.on)
      step (Some m) e G = cannot (let q = G.is in cc)

-- ---- `run`

-- The loop stands at a point: what is told of the whole walk is told of what is left of it.
pub record Running (P : Problem) (n : ℕ) (s₀ : List Level) (profile₀ : List ℕ) (u₀ allowance : ℕ) (t path : List ℤ) (profile : List ℕ) (l u visits : ℕ) : Type 0 where
  pub small : u ≤ cap
  pub counts : Profile P.np profile
  pub within : visits ≤ allowance
  pub rest : Onward P n (told (walk P (pick P) allowance s₀) u₀ 0 profile₀) (allowance - visits) t path l u visits profile

pub starts : {P : Problem} {n : ℕ} {s : List Level} {profile : List ℕ} {u : ℕ} (allowance : ℕ) {t path : List ℤ} {l : ℕ} → On P n s t path l → u ≤ cap → Profile (length path) profile
    → Running P n s profile u allowance t path profile l u 0
starts {P} {n} {s} {profile} {u} allowance O h p = record {
  small = h;
  counts = rw (sym (path_long O)) p;
  within = omega arith;
  rest = record { s = s; on = O; same = ap (λ (a : ℕ). told (walk P (pick P) a s) u 0 profile) (let e : allowance ≡ allowance - 0 = omega arith in e) };
}

-- an item is taken, or none is open
pub taken : (o : Option ℕ) {i : ℕ} → Some i ≡ header o → (j : ℕ) × (o ≡ Some j) × (i ≡ suc j)
taken None e = cannot (cc)
taken (Some j) e = (j, refl, cc)

pub picked : {P : Problem} {n : ℕ} {s : List Level} {t : List ℤ} {i : ℕ} → At P n s t
    → Some i ≡ header (pick P (chosen s)) → (j : ℕ) × Picked P n s j t i
picked {P} {s = s} A e =
    let k = taken (pick P (chosen s)) e in
    (k.0, record { at = A; picks = k.1; header_is = k.2 })

pub no_item : (o : Option ℕ) → None ≡ header o → o ≡ None
no_item None e = refl
no_item (Some j) e = cannot (cc)

module _ (P : Problem) (s : List Level) where
  walk_solved : (a : ℕ) → pick P (chosen s) ≡ None → walk P (pick P) a s ≡ stop solution s
  unfolding walk
  walk_solved zero e = rw e refl
  walk_solved (suc a) e = rw e refl

  walk_waits : (a j : ℕ) → a ≡ 0 → pick P (chosen s) ≡ Some j → walk P (pick P) a s ≡ stop paused s
  unfolding walk
  walk_waits a j z e = rw (z, e) refl

  walk_visits : (a b j : ℕ) → a ≡ suc b → pick P (chosen s) ≡ Some j → walk P (pick P) a s ≡ visiting (length s) (follow (enter P s j) (λ t. walk P (pick P) b t))
  unfolding walk
  walk_visits a b j z e = rw (z, e) refl

module _ {P : Problem} {n : ℕ} {s₀ : List Level} {profile₀ : List ℕ} {u₀ allowance : ℕ} {t path : List ℤ} {profile : List ℕ} {l u visits : ℕ}
    (R : Running P n s₀ profile₀ u₀ allowance t path profile l u visits) where
  abbrev T : Told
  T = told (walk P (pick P) allowance s₀) u₀ 0 profile₀

  -- no item is open
  pub solved : pick P (chosen R.rest.s) ≡ None → T ≡ told (stop solution R.rest.s) u visits profile
  solved e = R.rest.same ∙ ap (λ (w : Walk). told w u visits profile) (walk_solved P R.rest.s (allowance - visits) e)

  -- the allowance is spent
  pub waits : {j : ℕ} → pick P (chosen R.rest.s) ≡ Some j → visits ≡ allowance → T ≡ told (stop paused R.rest.s) u visits profile
  waits {j} e z = R.rest.same ∙ ap (λ (w : Walk). told w u visits profile) (walk_waits P R.rest.s (allowance - visits) j (omega arith) e)

  -- a visit
  pub visits_one : {j : ℕ} → pick P (chosen R.rest.s) ≡ Some j → visits ≢ allowance
      → T ≡ told (follow (enter P R.rest.s j) (λ t. walk P (pick P) (allowance - (visits + 1)) t)) u (visits + 1) (bumped profile l)
  visits_one {j} e ne =
      let b : ℕ = allowance - (visits + 1) in
      let w : Walk = follow (enter P R.rest.s j) (λ t. walk P (pick P) b t) in
      R.rest.same
      ∙ ap (λ (x : Walk). told x u visits profile) (walk_visits P R.rest.s (allowance - visits) b j (omega (arith, R.within)) e)
      ∙ ap (λ (k : ℕ). told (visiting k w) u visits profile) (sym R.rest.on.level)
      ∙ told_visit l u visits profile w

  pub profile_room : {j i : ℕ} → Taking P n R.rest.s j t path l i → l < length profile
  profile_room K = omega (arith, entry_room K, path_long K.on, R.counts.long)

  module _ {j i : ℕ} (K : Taking P n R.rest.s j t path l i) (ne : visits ≢ allowance)
      (t' path' : List ℤ) {profile' : List ℕ} (r : Option (ℕ × ℕ))
      (G : Gone P n (enter P R.rest.s j) t' path' r) (h : profile' ≡ bumped profile l) where
    pub visited_on : {k a u' : ℕ} → r ≡ Some (k, a) → u' ≡ capped u a
        → Running P n s₀ profile₀ u₀ allowance t' path' profile' k u' (visits + 1)
    visited_on f g = rw h (record {
      small = omega arith;
      counts = bumped_fits l R.counts;
      within = omega (arith, R.within);
      rest = goes_on (enter P R.rest.s j) (allowance - (visits + 1)) u (visits + 1) (bumped profile l) (visits_one K.picked.picks ne) t' path' r G f g;
    })

    pub visited_out : {st : State} → r ≡ None → st ≡ record { phase = Phases.Done; depth = 0; updates = u }
        → Ends P n T t' path' profile' (next_answer exhausted st (visits + 1))
    visited_out f g =
        let q = goes_out (enter P R.rest.s j) (allowance - (visits + 1)) u (visits + 1) (bumped profile l) (visits_one K.picked.picks ne) t' path' r G f in
        rw (q.0, h) (stopped exhausted u (visits + 1) R.small (bumped_fits l R.counts) q.1 g)

-- ---- `go`

module _ {P : Problem} {n : ℕ} (a : ℕ) (ph : Phase) (st : State) (s : List Level) {profile : List ℕ} {t path : List ℤ} {profile' : List ℕ} {r : NextAnswer} where
  pub from_ready : ph ≡ Phases.Ready → Ran P n (walk P (pick P) a s) st profile t path profile' r
      → Ran P n (resume P (pick P) a ph s) (started_in ph st) profile t path profile' r
  unfolding resume
  from_ready e R = rw e R

  pub from_done : {st' : State} → ph ≡ Phases.Done → s ≡ [] → st' ≡ blank → Ran P n (walk P (pick P) a s) st' profile t path profile' r
      → Ran P n (resume P (pick P) a ph s) (started_in ph st) profile t path profile' r
  unfolding resume
  from_done e z b R = rw e (rw (z, b) at R)

  -- from a solution, where a retreat leads on
  pub from_solution : ph ≡ Phases.Solution → {t₁ path₁ : List ℤ} {k u : ℕ}
      (N : Onward P n (told (follow (retreat P s) (λ x. walk P (pick P) a x)) st.updates 0 profile) a t₁ path₁ k u 0 profile) {st' : State} → u ≡ st'.updates
      → Ran P n (walk P (pick P) a N.s) st' profile t path profile' r → Ran P n (resume P (pick P) a ph s) (started_in ph st) profile t path profile' r
  unfolding resume
  from_solution e N {st'} u R =
      rw e (ends_ran (follow (retreat P s) (λ x. walk P (pick P) a x)) st (rw (N.same, u) (ran_ends (walk P (pick P) a N.s) st' R)))

-- the point where it leads on
pub retreat_on : {P : Problem} {n : ℕ} (a : ℕ) (s : List Level) (u : ℕ) (profile : List ℕ) {t path : List ℤ}
    {r : Option (ℕ × ℕ)} → Gone P n (retreat P s) t path r → {k b u' : ℕ} → r ≡ Some (k, b) → u' ≡ capped u b
    → Onward P n (told (follow (retreat P s) (λ x. walk P (pick P) a x)) u 0 profile) a t path k u' 0 profile
retreat_on {P} a s u profile {t} {path} {r} G e f = goes_on (retreat P s) a u 0 profile refl t path r G e f

-- and where it leads nowhere
pub from_last : {P : Problem} {n : ℕ} (a : ℕ) (ph : Phase) (st : State) (s : List Level) {np : ℕ} {profile : List ℕ}
    (t path : List ℤ) (w : Option (ℕ × ℕ)) {r : State} → ph ≡ Phases.Solution → st.updates ≤ cap → Profile np profile
    → Gone P n (retreat P s) t path w → w ≡ None → r ≡ record { phase = Phases.Done; depth = 0; updates = st.updates }
    → Ran P n (resume P (pick P) a ph s) (started_in ph st) profile t path profile (next_answer exhausted r 0)
unfolding resume
from_last {P} a ph st s {profile = profile} t path w e h p G f g =
    let q = goes_out (retreat P s) a st.updates 0 profile refl t path w G f in
    rw e (ends_ran (follow (retreat P s) (λ x. walk P (pick P) a x)) st (rw q.0 (stopped exhausted st.updates 0 h p q.1 g)))

-- done stands at the top
pub done_on : {P : Problem} {n : ℕ} {s : List Level} {t path : List ℤ} {st : State} → Begun P n s t path st → st.phase ≡ Phases.Done → On P n s t path 0
done_on B e = let z = B.done_top e in record { at = B.on.at; path_is = B.on.path_is; level = sym z ∙ B.on.level }

pub top_is : {P : Problem} {n : ℕ} {s : List Level} {t path : List ℤ} → On P n s t path 0 → s ≡ []
top_is {s = []} O = refl
top_is {s = v ∷ s} O = absurd (omega (arith, O.level))

-- a state made for a level
pub made_on : {P : Problem} {n : ℕ} {s : List Level} {t path : List ℤ} {k u : ℕ} {ph : Phase} (st : State) → st ≡ record { phase = ph; depth = k; updates = u } → On P n s t path k
    → On P n s t path st.depth
made_on st e O = rw e O

pub made_updates : {ph : Phase} {k u : ℕ} (st : State) → st ≡ record { phase = ph; depth = k; updates = u } → u ≡ st.updates
made_updates st e = rw e refl

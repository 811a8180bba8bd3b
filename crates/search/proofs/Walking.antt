-- The walk to a solution, solution by solution. Assumes nothing.
use mathlib.Core.Path.{◌≡◌, refl, sym, ap, ◌∙◌}
use Rattle.std.specs.Prelude.{Option, None, Some}
use mathlib.Core.List.{List, []}
use Prim.Native.Nat.{ℕ, zero, suc, ◌+◌, ◌-◌, ◌≤◌}
use native.Mathlib.Omega.{arith}
use lib.IntN.{ℤ}
use lib.ListN.{length}
use Rattle.rules.specs.declared.NextAnswer.{NextAnswer}
use Rattle.rules.specs.declared.NextAnswer.TheVariants as NextSays
use Rattle.rules.specs.declared.Phase.{Phase}
use Rattle.rules.specs.declared.Phase.TheVariants.{Ready, Solution, Done}
use Rattle.rules.specs.declared.State.{State}
use Rattle.rules.specs.Problem.{Problem}
use Rattle.rules.specs.Order.{Rule, pick}
use Rattle.rules.specs.Walk.{Level, Move, Walk, End, solution, exhausted, paused, chosen, retreat, enter, stop, visiting, follow, at_point, walk, resume}
use Rattle.rules.specs.Calls.{cap, capped, profile_from, started}
use Rattle.rules.specs.Door.{past, walk_to}
use Rattle.laws.specs.Reached.{joined}
use Rattle.laws.specs.Lists.{cannot}
use Rattle.search.specs.Points.{Profile, Ran, Begun}
use Rattle.search.specs.Arrived.{whole_to, Arrived, solved, unsolved, on_level}
use Rattle.search.proofs.Running.{profile_fits, profile_then}

-- ---- the allowance

follow_few : (o : Option Move) (k : List Level → Walk) (a : ℕ) → ((t : List Level) → length (k t).visited ≤ a) → length (follow o k).visited ≤ a
follow_few None k a h = omega arith
follow_few (Some m) k a h = h m.to

walk_few : (P : Problem) (rule : Rule) (a : ℕ) (s : List Level) → length (walk P rule a s).visited ≤ a
unfolding walk
walk_few P rule zero s = by (rule (chosen s))
  where
    by : (o : Option ℕ) → length (at_point s o (λ i. stop paused s)).visited ≤ 0
    by None = omega arith
    by (Some i) = omega arith
walk_few P rule (suc a) s = by (rule (chosen s)) (λ t. walk_few P rule a t)
  where
    by : (o : Option ℕ) → ((t : List Level) → length (walk P rule a t).visited ≤ a)
        → length (at_point s o (λ i. visiting (length s) (follow (enter P s i) (λ t. walk P rule a t)))).visited ≤ suc a
    by None rec = omega arith
    by (Some i) rec = let f = follow_few (enter P s i) (λ t. walk P rule a t) a rec in omega arith

-- a walk makes no more visits than it is allowed
resume_few : (P : Problem) (rule : Rule) (a : ℕ) (ph : Phase) (s : List Level) → length (resume P rule a ph s).visited ≤ a
unfolding resume
resume_few P rule a Ready s = walk_few P rule a s
resume_few P rule a Solution s = follow_few (retreat P s) (λ t. walk P rule a t) a (λ t. walk_few P rule a t)
resume_few P rule a Done s = walk_few P rule a []

-- ---- the solutions on the way

module _ (P : Problem) (rule : Rule) (k a : ℕ) (ph : Phase) (s : List Level) where
  abbrev first : Walk
  first = resume P rule a ph s

  -- the first walk is the last one, and the whole
  abbrev Whole : Type 0
  Whole = (walk_to P rule k a ph s ≡ first) × (whole_to P rule k a ph s ≡ first)

  walk_last : k ≡ 0 → Whole
  unfolding walk_to whole_to
  walk_last z = (rw z refl, rw z refl)

-- where it ended at a solution, the next one begins there
walk_on : (P : Problem) (rule : Rule) (k k' a : ℕ) (ph : Phase) (s : List Level) → k ≡ suc k'
    → (first P rule k a ph s).end ≡ solution
    → let w : Walk = first P rule k a ph s in
    let b : ℕ = a - length w.visited in
    (walk_to P rule k a ph s ≡ walk_to P rule k' b Solution w.at)
    × (whole_to P rule k a ph s ≡ joined w (whole_to P rule k' b Solution w.at))
unfolding walk_to whole_to
walk_on P rule k k' a ph s z e =
    let w : Walk = resume P rule a ph s in
    let b : ℕ = a - length w.visited in
    rw z (
      ap (λ (x : End). past x w (λ t. walk_to P rule k' b Solution t)) e,
      ap (λ (x : End). past x w (λ t. joined w (whole_to P rule k' b Solution t))) e,
    )

walk_stop : (P : Problem) (rule : Rule) (k a : ℕ) (ph : Phase) (s : List Level)
    → ((first P rule k a ph s).end ≡ solution → ⊥) → Whole P rule k a ph s
unfolding walk_to whole_to
walk_stop P rule zero a ph s n = (refl, refl)
walk_stop P rule (suc k) a ph s n =
    (by w.end n (λ t. walk_to P rule k b Solution t), by w.end n (λ t. joined w (whole_to P rule k b Solution t)))
  where
    w : Walk
    w = resume P rule a ph s

    b : ℕ
    b = a - length w.visited

    by : (e : End) → (e ≡ solution → ⊥) → (later : List Level → Walk) → past e w later ≡ w
    by solution n later = absurd (n refl)
    by exhausted n later = refl
    by paused n later = refl

-- ---- the loop

-- The walk to the solution asked for is the walk from here to one `ahead` solutions on. Updates and profile come to the
-- same from here.
pub record Walking (P : Problem) (n number allowance : ℕ) (profile₀ : List ℕ) (t path : List ℤ) (profile : List ℕ)
    (state : State) (left ahead : ℕ) : Type 0 where
  pub s : List Level
  pub begun : Begun P n s t path state
  pub counts : Profile (length path) profile
  pub small : state.updates ≤ cap
  pub same : walk_to P (pick P) number allowance Ready [] ≡ walk_to P (pick P) ahead left state.phase s
  pub sum :
      capped 0 (whole_to P (pick P) number allowance Ready []).updates
      ≡ capped (started state).updates (whole_to P (pick P) ahead left state.phase s).updates
  pub told :
      profile_from 0 (whole_to P (pick P) number allowance Ready []).visited profile₀
      ≡ profile_from 0 (whole_to P (pick P) ahead left state.phase s).visited profile

module _ {P : Problem} {n number allowance : ℕ} {profile₀ : List ℕ} {t path : List ℤ} {profile : List ℕ} {state : State}
    {left ahead : ℕ} (W : Walking P n number allowance profile₀ t path profile state left ahead) where
  abbrev pub piece : Walk
  piece = resume P (pick P) left state.phase W.s

  -- where the walk to the solution asked for arrives
  abbrev pub Arrives : List ℤ → List ℤ → List ℕ → NextAnswer → Type 0
  Arrives t' path' profile' r =
      Arrived P n (walk_to P (pick P) number allowance Ready []) (whole_to P (pick P) number allowance Ready [])
      profile₀ t' path' profile' r

  module _ {t' path' : List ℤ} {profile' : List ℕ} {r : NextAnswer} (R : Ran P n piece (started state) profile t' path' profile' r) where
    arrives : Whole P (pick P) ahead left state.phase W.s → Arrives t' path' profile' r
    arrives (e, u) =
        let p = W.sum ∙ ap (λ (w : Walk). capped (started state).updates w.updates) u in
        let v = W.told ∙ ap (λ (w : Walk). profile_from 0 w.visited profile) u in
        rw (W.same ∙ e) (record { answer = rw p R.answer; on = R.on; profile_is = R.profile_is ∙ sym v })

    pub walk_ends : ahead ≡ 0 → Arrives t' path' profile' r
    walk_ends z = arrives (walk_last P (pick P) ahead left state.phase W.s z)

    pub walk_stops : ((at : State) (v : ℕ) → r ≡ NextSays.Solution at v → ⊥) → Arrives t' path' profile' r
    walk_stops k = arrives (walk_stop P (pick P) ahead left state.phase W.s (unsolved piece (started state) R.answer k))

    module _ {at : State} {v : ℕ} (q : r ≡ NextSays.Solution at v) where
      pub visits_few : v ≤ left
      visits_few = omega (arith, (solved piece (started state) R.answer q).2, resume_few P (pick P) left state.phase W.s)

      pub walk_turns : {ahead' : ℕ} → ahead ≡ suc ahead' → length path' ≡ length path
          → Walking P n number allowance profile₀ t' path' profile'
          (record { phase = Solution; depth = at.depth; updates = at.updates }) (left - v) ahead'
      walk_turns {ahead'} z l =
          let (e, a, u) = solved piece (started state) R.answer q in
          let d : at.depth ≡ length piece.at = ap (λ (x : State). x.depth) a in
          let b : at.updates ≡ capped (started state).updates piece.updates = ap (λ (x : State). x.updates) a in
          let c : Profile (length path) profile' = rw R.profile_is (profile_fits piece.visited W.counts) in
          let (o, p) = walk_on P (pick P) ahead ahead' left state.phase W.s z e in
          let next : ℕ → Walk = λ i. whole_to P (pick P) ahead' (left - i) Solution piece.at in
          let more : Walk = next (length piece.visited) in
          let f : capped (started state).updates (piece.updates + more.updates)
          ≡ capped at.updates more.updates = omega arith in
          record {
            s = piece.at;
            begun = record { on = on_level R.on d; done_top = λ e'. cannot (cc) };
            counts = record { long = c.long ∙ sym l; small = c.small };
            small = omega arith;
            same =
                W.same ∙ o
                ∙ ap (λ (i : ℕ). walk_to P (pick P) ahead' (left - i) Solution piece.at) (sym u);
            sum =
                W.sum ∙ ap (λ (w : Walk). capped (started state).updates w.updates) p ∙ f
                ∙ ap (λ (i : ℕ). capped at.updates (next i).updates) (sym u);
            told =
                W.told ∙ ap (λ (w : Walk). profile_from 0 w.visited profile) p
                ∙ profile_then piece.visited more.visited W.counts
                ∙ ap (profile_from 0 more.visited) (sym R.profile_is)
                ∙ ap (λ (i : ℕ). profile_from 0 (next i).visited profile') (sym u);
          }

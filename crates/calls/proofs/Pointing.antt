-- Refusals 11 and 10 of a call whose words are accepted, and the whole chain of refusals. Assumes nothing.
use Rattle.std.specs.Prelude.{Result, Ok, Err}
use mathlib.Core.Path.{◌≡◌, refl, sym, ap, ◌∙◌}
use mathlib.Core.Bool.{Bool, true, false}
use mathlib.Core.List.{List, [], ◌∷◌, ◌++◌}
use Prim.Native.Nat.{ℕ, zero, suc, ◌≤◌, min}
use native.Mathlib.Omega.{arith}
use lib.IntN.{ℤ}
use lib.ListN.{length, take, drop}
use Rattle.rules.specs.declared.Limits.{Limits}
use Rattle.rules.specs.declared.Sizes.{Sizes}
use Rattle.rules.specs.declared.State.{State}
use Rattle.rules.specs.Lists.{got, over}
use Rattle.rules.specs.Problem.{library_limits, cut, meant, sizes, table_length, fault, judged, problem_refusal}
use Rattle.rules.specs.Order.{pick}
use Rattle.rules.specs.Links.{fresh}
use Rattle.rules.specs.Calls.{counts_fit, point, lent_point, search_refusal}
use Rattle.tables.specs.Sizes.{fresh_size}
use Rattle.problem.specs.Measured.{Measured, judged_sized, judged_refused, table_bounds}
use Rattle.problem.specs.Room.{room, served, served_all, Accepted, accepted}
use Rattle.calls.specs.Tested.{Laid, last_refusal, Pointed, refusal, Tested}
use Rattle.calls.proofs.Rooms.{room_parts}
use Rattle.calls.proofs.Outcomes.{over_part}
use Rattle.calls.proofs.Refusals.{at_problem, spare_kept}

take_min : {A : Type 0} (n : ℕ) (xs : List A) → take (min n (length xs)) xs ≡ take n xs
take_min zero xs = let e : min 0 (length xs) ≡ 0 = omega arith in rw e
take_min (suc n) [] = let e : min (suc n) 0 ≡ 0 = omega arith in rw e
take_min (suc n) (x ∷ xs) = let e : min (suc n) (suc (length xs)) ≡ suc (min n (length xs)) = omega arith in rw e (ap (λ (l : List _). x ∷ l) (take_min n xs))

module _ (ws : List ℤ) (s : Sizes) (M : Measured ws s) where
  np_cut : s.np ≡ (cut ws).np
  unfolding sizes
  np_cut = ap (λ (x : Sizes). x.np) M.are

  -- the counts tested are those of the first np words
  pub counts_are : (st : State) (profile : List ℕ) (front : ℕ) {r : Bool} → front ≡ min s.np (length profile) → r ≡ counts_fit st (take front profile) → r ≡ counts_fit st (take (cut ws).np profile)
  counts_are st profile front e u = u ∙ ap (counts_fit st) (ap (λ (k : ℕ). take k profile) e ∙ take_min s.np profile ∙ ap (λ (k : ℕ). take k profile) np_cut)

  -- the parts tested are those of the point lent
  pub point_is : (st : State) (table path : List ℤ) (words : ℕ) {r : Bool} → words ≡ table_length s → r ≡ got (point (meant (cut ws)) (pick (meant (cut ws))) st (take words table) (take s.np path))
      → r ≡ got (lent_point (cut ws) st table path)
  unfolding lent_point
  point_is st table path words e u = u ∙ rw (e ∙ ap (λ (x : Sizes). table_length x) M.are, np_cut)

-- a part that holds the fresh table, written over the front
pub fresh_over : (ws : List ℤ) (s : Sizes) → Measured ws s → fault (cut ws) ≡ 0 → (old part : List ℤ) (words : ℕ) → words ≡ table_length s → part ≡ fresh (meant (cut ws))
    → part ++ drop words old ≡ over (fresh (meant (cut ws))) old
fresh_over ws s M f old part words e u =
    over_part (fresh (meant (cut ws))) old part words u (ap length u ∙ fresh_size (cut ws) f ∙ ap (λ (x : Sizes). table_length x) (sym M.are) ∙ sym e)

module _ (ws table spare path : List ℤ) (profile : List ℕ) (s : Sizes) (st : State) where
  pub at_11 : counts_fit st (take (cut ws).np profile) ≡ false → Pointed ws table spare path profile s st (Err 11) spare
  at_11 f = record { answer = rw f refl; spare_is = rw f refl }

  module _ (f : counts_fit st (take (cut ws).np profile) ≡ true) {spare' : List ℤ} (e : spare' ≡ over (fresh (meant (cut ws))) spare) where
    pub at_10 : got (lent_point (cut ws) st table path) ≡ false
        → Pointed ws table spare path profile s st (Err 10) spare'
    at_10 g = record { answer = rw (f, g) refl; spare_is = rw (f, g) e }

    pub at_0 : got (lent_point (cut ws) st table path) ≡ true → Pointed ws table spare path profile s st (Ok s) spare'
    at_0 g = record { answer = rw (f, g) refl; spare_is = rw (f, g) e }

-- ---- the whole chain

abbrev pub room_of : List ℤ → List ℤ → List ℤ → ℕ → Sizes → Bool
room_of table spare path more = room (min (length table) (length spare)) (min (length path) more)

-- room for table, spare and path
pub laid : (ws table spare path : List ℤ) (more : ℕ) (s : Sizes)
    → Accepted library_limits 1 (room_of table spare path more) ws s
    → Laid ws s table path × (table_length s ≤ length spare) × (s.np ≤ more)
laid ws table spare path more s A =
    let (a, b) = room_parts (min (length table) (length spare)) (min (length path) more) s A.has_room in (
      record {
        measured = A.measures;
        faultless = A.faultless;
        small = (omega (arith, (table_bounds A.bounds).0), omega (arith, (table_bounds A.bounds).1));
        table_room = omega arith;
        path_room = omega arith;
      },
      omega arith,
      omega arith,
    )

module _ (ws table spare path : List ℤ) (more : ℕ) where
  abbrev problem_part : ℕ
  problem_part = problem_refusal library_limits 1 (room_of table spare path more) ws

  -- what the test of the problem answered
  pub accept_is : {L : Limits} {a b : ℕ} {v : Result Sizes ℕ} → L ≡ library_limits
      → a ≡ min (length table) (length spare) → b ≡ min (length path) more
      → (marks : ℕ) → v ≡ judged (problem_refusal (served L marks) 1 (room a b) ws) (sizes (cut ws)) → library_limits.items ≤ marks → v ≡ judged problem_part (sizes (cut ws))
  accept_is {L} p q r marks e h = e ∙ rw (served_all L marks p h, q, r)

  pub refused_first : {k : ℕ} → Err k ≡ judged problem_part (sizes (cut ws)) → {profile : List ℕ} {st : State}
      → Tested ws table spare path profile more st (Err k) spare
  unfolding refusal
  refused_first {k} e {profile} {st} =
      let (a, b) = judged_refused problem_part (sizes (cut ws)) e in
      let (c, d) = at_problem library_limits (room_of table spare path more) ws (counts_fit st (take (cut ws).np profile)) (lent_point (cut ws) st table path) k a b in
      record {
        answer = e ∙ ap (λ (i : ℕ). judged i (sizes (cut ws))) (a ∙ sym c);
        spare_is = rw c (spare_kept k (meant (cut ws)) spare b (λ z. omega arith));
      }

  module _ {s : Sizes} (e : Ok s ≡ judged problem_part (sizes (cut ws))) where
    none_yet : (problem_part ≡ 0) × (s ≡ sizes (cut ws))
    none_yet = judged_sized problem_part e

    -- so there is room for table, spare and path
    pub words_laid : Laid ws s table path × (table_length s ≤ length spare)
    words_laid =
        let L = laid ws table spare path more s (accepted library_limits 1
        (room_of table spare path more) ws none_yet.0 none_yet.1) in
        (L.0, L.1)

    pub then_pointed : {profile : List ℕ} {st : State} {r : Result Sizes ℕ} {spare' : List ℤ}
        → Pointed ws table spare path profile s st r spare'
        → Tested ws table spare path profile more st r spare'
    unfolding refusal search_refusal
    then_pointed {profile} {st} Q = record {
      answer = rw none_yet.0 (Q.answer ∙ ap (λ (x : Sizes). judged (last_refusal ws table path profile st) x) none_yet.1);
      spare_is = rw none_yet.0 Q.spare_is;
    }

-- What a call knows once its tests have answered. Assumes nothing.
use mathlib.Core.Path.{◌≡◌, refl, sym, ap, ◌∙◌}
use mathlib.Core.Bool.{Bool}
use Rattle.std.specs.Prelude.{Some, Result, Ok, Err, MatchResult, IsErrAnd}
use mathlib.Core.List.{List}
use Prim.Native.Nat.{ℕ, ◌≤◌, ◌<◌, min}
use native.Mathlib.Omega.{arith}
use lib.Dec.{T}
use lib.IntN.{ℤ}
use lib.ListN.{length, take}
use Rattle.std.proofs.lemmas.Result.{err_from_is_err_and}
use Rattle.rules.specs.declared.Limits.{Limits}
use Rattle.rules.specs.declared.Refused.{Refused}
use Rattle.rules.specs.declared.Sizes.{Sizes}
use Rattle.rules.specs.declared.State.{State}
use Rattle.rules.specs.Problem.{library_limits, cut, sizes, judged, problem_refusal}
use Rattle.rules.specs.Walk.{Level}
use Rattle.rules.specs.Calls.{counts_fit, lent_point, SetUpLent, set_up_room}
use Rattle.laws.specs.Lists.{cannot}
use Rattle.problem.specs.Measured.{judged_sized, judged_refused, table_bounds}
use Rattle.problem.specs.Room.{room, served, served_all, Accepted, accepted}
use Rattle.calls.specs.Tested.{Laid, refusal, Tested}
use Rattle.calls.proofs.Outcomes.{set_up_refusal}
use Rattle.calls.proofs.Pointing.{room_of, laid}
use Rattle.calls.proofs.Refusals.{no_refusal}
use Rattle.calls.proofs.Rooms.{room_parts}

-- ---- a refusal's number, with the state

abbrev pub with_state : {A : Type 0} → State → Result A ℕ → Result A Refused
with_state st (Ok x) = Ok x
with_state st (Err k) = Err (record { state = st; number = k })

pub mapped : {A : Type 0} (st : State) {Q : ℕ → Refused → Type 0} (v : Result A ℕ) {m : Result A Refused}
    → MatchResult v (λ x. m ≡ Ok x) (λ k. IsErrAnd m (Q k))
    → ((k : ℕ) (r : Refused) → Q k r → r ≡ record { state = st; number = k })
    → m ≡ with_state st v
mapped st (Ok x) h q = h
mapped st (Err k) {m} h q = let p = err_from_is_err_and m h in p.1 ∙ ap Err (q k p.0 p.2)

pub with_ok : {A : Type 0} (st : State) (v : Result A ℕ) {x : A} → Ok x ≡ with_state st v → v ≡ Ok x
with_ok st (Ok y) e = cc
with_ok st (Err k) e = cannot (cc)

pub with_err : {A : Type 0} (st : State) (v : Result A ℕ) {r : Refused} → Err r ≡ with_state st v
    → (k : ℕ) × (v ≡ Err k) × (r ≡ record { state = st; number = k })
with_err st (Ok x) e = cannot (cc)
with_err st (Err k) e = (k, refl, cc)

-- ---- set-up

module _ (ws : List ℤ) (l : SetUpLent) {L : Limits} {a : ℕ} {v : Result Sizes ℕ} (p : L ≡ library_limits)
    (q : a ≡ min (length l.path) (length l.profile))
    (marks : ℕ) (e : v ≡ judged (problem_refusal (served L marks) 1 (room (length l.table) a) ws) (sizes (cut ws))) (h : library_limits.items ≤ marks) where
  abbrev rooms : Sizes → Bool
  rooms = room (length l.table) (min (length l.path) (length l.profile))

  judged_by : v ≡ judged (problem_refusal library_limits 1 rooms ws) (sizes (cut ws))
  judged_by = e ∙ rw (served_all L marks p h, q)

  pub set_up_stops : {k : ℕ} → v ≡ Err k → (problem_refusal library_limits 1 (set_up_room l) ws ≡ k) × (0 < k)
  set_up_stops u =
      let (x, y) = judged_refused (problem_refusal library_limits 1 rooms ws) (sizes (cut ws)) (sym u ∙ judged_by) in
      (sym (set_up_refusal ws l) ∙ x, y)

  pub set_up_goes : {s : Sizes} → v ≡ Ok s → (problem_refusal library_limits 1 (set_up_room l) ws ≡ 0)
      × Laid ws s l.table l.path × (s.np ≤ length l.profile)
  set_up_goes {s} u =
      let (x, y) = judged_sized (problem_refusal library_limits 1 rooms ws) (sym u ∙ judged_by) in
      let A : Accepted library_limits 1 rooms ws s = accepted library_limits 1 rooms ws x y in
      let (r, t) = room_parts (length l.table) (min (length l.path) (length l.profile)) s A.has_room in (
        sym (set_up_refusal ws l) ∙ x,
        record {
          measured = A.measures;
          faultless = A.faultless;
          small = (omega (arith, (table_bounds A.bounds).0), omega (arith, (table_bounds A.bounds).1));
          table_room = r;
          path_room = omega arith;
        },
        omega arith,
      )

-- ---- Next and Give-up

-- the call is accepted, and v is the point lent
pub record Goes (ws table spare path : List ℤ) (profile : List ℕ) (more : ℕ) (st : State) (s : Sizes) : Type 0 where
  pub none : refusal ws table spare path profile more st ≡ 0
  pub is_laid : Laid ws s table path
  pub lists : s.np ≤ more
  pub fit : T (counts_fit st (take (cut ws).np profile))
  pub v : List Level
  pub at : lent_point (cut ws) st table path ≡ Some v

module _ {ws table spare path : List ℤ} {profile : List ℕ} {more : ℕ} {st : State} {r : Result Sizes ℕ}
    {spare' : List ℤ} (X : Tested ws table spare path profile more st r spare') where
  pub stops : {k : ℕ} → r ≡ Err k → (refusal ws table spare path profile more st ≡ k) × (0 < k)
  stops u = judged_refused (refusal ws table spare path profile more st) (sizes (cut ws)) (sym u ∙ X.answer)

  pub goes : {s : Sizes} → r ≡ Ok s → Goes ws table spare path profile more st s
  unfolding refusal
  goes {s} u =
      let (x, y) = judged_sized (refusal ws table spare path profile more st) (sym u ∙ X.answer) in
      let (a, t, w, o) = no_refusal library_limits (room_of table spare path more) ws (counts_fit st (take (cut ws).np profile)) (lent_point (cut ws) st table path) x in
      let L = laid ws table spare path more s (accepted library_limits 1 (room_of table spare path more) ws a y) in
      record { none = x; is_laid = L.0; lists = L.2; fit = t; v = w; at = o }

-- The door's outcome, from its tests and what it wrote. Assumes nothing.
use Rattle.std.specs.Prelude.{Result, Ok, Err}
use mathlib.Core.Path.{◌≡◌, refl, sym, ap, ◌∙◌}
use mathlib.Core.Bool.{Bool, true, false, ◌&&◌, cond}
use mathlib.Core.List.{List, [], ◌∷◌, map}
use Prim.Native.Nat.{ℕ, zero, suc, ◌+◌, ◌-◌, ◌*◌, ◌/◌, ◌%◌, ◌≤◌, ◌<◌}
use native.Mathlib.Omega.{arith}
use native.Mathlib.Decide.{dec_le}
use borrow.Author.Tests.{le-leb, lt-leb, ltb-true, ltb-false, eq-eqb, ne_eqb}
use lib.Dec.{leb, ltb}
use lib.IntN.{ℤ, pos}
use lib.ListN.{length, get_or, take, drop, replicate, length-map, get_or-append, get_or-map}
use Rattle.rules.specs.declared.Limits.{Limits}
use Rattle.rules.specs.declared.NextAnswer.{NextAnswer}
use Rattle.rules.specs.declared.NextAnswer.TheVariants as NextSays
use Rattle.rules.specs.declared.Phase.TheVariants.{Ready}
use Rattle.rules.specs.declared.Sizes.{Sizes}
use Rattle.rules.specs.declared.State.{State}
use Rattle.rules.specs.Lists.{flat, over}
use Rattle.rules.specs.Words.{bytes_words, word_bytes}
use Rattle.rules.specs.Problem.{Problem, door_limits, cut, meant, sizes, table_length, fault, need, first_of, judged, verdict, cut_refusal, problem_refusal}
use Rattle.rules.specs.Order.{pick}
use Rattle.rules.specs.Walk.{Walk, End, solution, exhausted, paused, numbers}
use Rattle.rules.specs.Calls.{next_answer, walk_said, end_number}
use Rattle.rules.specs.Door.{DoorOutcome, walk_to, door_room, door_refusal, door_out, door_walked, door_as, door_call}
use Rattle.words.specs.Read.{Natural}
use Rattle.problem.specs.Measured.{Within, within, table_bounds, judged_sized, judged_refused, first_some}
use Rattle.problem.specs.Room.{room, served, served_all, Accepted, accepted}
use Rattle.laws.specs.Reached.{in_order_length}
use Rattle.search.specs.Points.{On}
use Rattle.search.specs.Depth.{level_within}
use Rattle.search.specs.Arrived.{Arrived, arrived_at, on_level}
use Rattle.door.specs.Solved.{lists_of}
use Rattle.door.proofs.Written.{firsts, firsts_are}

-- ---- 9's test

lists_same : (np n : ℕ) → 1 ≤ np → leb np (lists_of n) ≡ leb (4 + 4 * np) n
lists_same np n h = by (ltb n 4) refl
  where
    enough : 4 ≤ n → Dec (np ≤ (n - 4) / 4) → leb np ((n - 4) / 4) ≡ leb (4 + 4 * np) n
    enough k (yes l) = le-leb np ((n - 4) / 4) l ∙ sym (le-leb (4 + 4 * np) n (omega arith))
    enough k (no l) = lt-leb np ((n - 4) / 4) (omega arith) ∙ sym (lt-leb (4 + 4 * np) n (omega arith))

    by : (b : Bool) → ltb n 4 ≡ b → leb np (cond b 0 ((n - 4) / 4)) ≡ leb (4 + 4 * np) n
    by true e = let k = ltb-true n 4 e in lt-leb np 0 (omega arith) ∙ sym (lt-leb (4 + 4 * np) n (omega arith))
    by false e = let k = ltb-false n 4 e in enough (omega arith) (dec_le np ((n - 4) / 4))

module _ (ws : List ℤ) (out : List ℕ) where
  abbrev refusal : ℕ
  refusal = problem_refusal door_limits 1 (door_room out) ws

  bounded : cut_refusal door_limits 1 ws ≡ 0 → Within door_limits 1 (sizes (cut ws))
  unfolding verdict
  bounded e = within door_limits 1 ws (sizes (cut ws)) (sym (ap (λ (k : ℕ). judged k (sizes (cut ws))) e))

  -- a table of the limits is long enough for what passes the rows before
  rooms : cut_refusal door_limits 1 ws ≡ 0 → room 1676 (lists_of (length out)) (sizes (cut ws)) ≡ door_room out (sizes (cut ws))
  rooms e =
      let W = bounded e in
      ap (λ (b : Bool). b && leb (sizes (cut ws)).np (lists_of (length out))) (le-leb (table_length (sizes (cut ws))) 1676 (omega (arith, (table_bounds W).0)))
      ∙ lists_same (sizes (cut ws)).np (length out) W.some_np

  same_refusal : problem_refusal door_limits 1 (room 1676 (lists_of (length out))) ws ≡ refusal
  unfolding problem_refusal
  same_refusal = by (cut_refusal door_limits 1 ws) refl
    where
      by : (k : ℕ) → cut_refusal door_limits 1 ws ≡ k
          → first_of k (need (room 1676 (lists_of (length out)) (sizes (cut ws))) 9 (fault (cut ws))) ≡ first_of k (need (door_room out (sizes (cut ws))) 9 (fault (cut ws)))
      by zero e = ap (λ (b : Bool). need b 9 (fault (cut ws))) (rooms e)
      by (suc k) e = refl

  module _ {L : Limits} {a : ℕ} {v : Result Sizes ℕ} (p : L ≡ door_limits) (q : a ≡ lists_of (length out))
      (marks : ℕ) (e : v ≡ judged (problem_refusal (served L marks) 1 (room 1676 a) ws) (sizes (cut ws))) (h : door_limits.items ≤ marks) where
    judged_by : v ≡ judged refusal (sizes (cut ws))
    judged_by = e ∙ rw (served_all L marks p h, q) (ap (λ (k : ℕ). judged k (sizes (cut ws))) same_refusal)

    pub stops : {k : ℕ} → v ≡ Err k → (refusal ≡ k) × (0 < k)
    stops u = judged_refused refusal (sizes (cut ws)) (sym u ∙ judged_by)

    pub goes : {s : Sizes} → v ≡ Ok s → (refusal ≡ 0) × Accepted door_limits 1 (door_room out) ws s
    goes u =
        let (x, y) = judged_sized refusal (sym u ∙ judged_by) in
        (x, accepted door_limits 1 (door_room out) ws x y)

-- ---- the door over words

refused_as : (k : ℕ) (P : Problem) (number allowance : ℕ) (out : List ℕ) → 0 < k → record { result = k; out = out } ≡ door_as k P number allowance out
refused_as zero P number allowance out h = absurd (omega arith)
refused_as (suc k) P number allowance out h = refl

module _ (P : Problem) (number allowance : ℕ) (out : List ℕ) {r : ℕ} where
  pub answer_refused : {k : ℕ} → r ≡ k → 0 < k → record { result = k; out = out } ≡ door_as r P number allowance out
  answer_refused {k} e h = refused_as k P number allowance out h ∙ ap (λ (i : ℕ). door_as i P number allowance out) (sym e)

  pub answer_walked : {o : DoorOutcome} → r ≡ 0 → o ≡ door_walked (walk_to P (pick P) number allowance Ready []) out → o ≡ door_as r P number allowance out
  answer_walked e u = u ∙ ap (λ (i : ℕ). door_as i P number allowance out) (sym e)

-- ---- the door over bytes

module _ (problem : List ℕ) (number allowance : ℕ) (out : List ℕ) where
  pub call_odd : (length problem % 4 ≡ 0 → ⊥) → record { result = 4; out = out } ≡ door_call problem number allowance out
  unfolding door_call door_refusal
  call_odd n = rw (ne_eqb (length problem % 4) 0 n) refl

  module _ (even : length problem % 4 ≡ 0) where
    even_refusal : door_refusal problem out ≡ problem_refusal door_limits 1 (door_room out) (bytes_words problem)
    unfolding door_refusal
    even_refusal = rw (eq-eqb (length problem % 4) 0 even) refl

    pub call_refused : {r : ℕ} → (r ≡ cut_refusal door_limits 1 (bytes_words problem)) × (0 < r) → record { result = r; out = out } ≡ door_call problem number allowance out
    unfolding door_call problem_refusal
    call_refused {r} (e, h) =
        let C = cut (bytes_words problem) in
        let u : door_refusal problem out ≡ r =
        even_refusal ∙ ap (λ (k : ℕ). first_of k (need (door_room out (sizes C)) 9 (fault C))) (sym e) ∙ first_some r (need (door_room out (sizes C)) 9 (fault C)) h in
        answer_refused (meant C) number allowance out u h

    pub call_words : {ws : List ℤ} {o : DoorOutcome} → ws ≡ bytes_words problem
        → o ≡ door_as (problem_refusal door_limits 1 (door_room out) ws) (meant (cut ws)) number allowance out → o ≡ door_call problem number allowance out
    unfolding door_call
    call_words e u =
        u ∙ ap (λ (x : List ℤ). door_as (problem_refusal door_limits 1 (door_room out) x) (meant (cut x)) number allowance out) e
        ∙ ap (λ (k : ℕ). door_as k (meant (cut (bytes_words problem))) number allowance out) (sym even_refusal)

-- ---- what a walk comes to

module _ {P : Problem} {n : ℕ} {w whole : Walk} {profile : List ℕ} {t path : List ℤ} {profile' : List ℕ}
    {r : NextAnswer} (A : Arrived P n w whole profile t path profile' r) where
  module _ {at : State} {v depth : ℕ} (q : r ≡ NextSays.Solution at v) (d : depth ≡ at.depth) where
    is_depth : depth ≡ length w.at
    is_depth = d ∙ (arrived_at A q).1

    pub on_depth : On P n w.at t path depth
    on_depth = on_level A.on is_depth

    pub shallow : depth ≤ length path
    shallow = omega (arith, is_depth, level_within A.on)

    module _ (old : List ℤ) {found : List ℤ} (f : found ≡ over (map pos (numbers w.at)) old) where
      as_many : length (numbers w.at) ≡ depth
      as_many = in_order_length (λ c. c.option.number) w.at ∙ sym is_depth

      pub found_natural : (k : ℕ) → k < depth → Natural found k
      found_natural k h =
          let ns : List ℕ = numbers w.at in
          let e : get_or found k (pos 0) ≡ pos (get_or ns k 0) =
          ap (λ (l : List ℤ). get_or l k (pos 0)) f
          ∙ get_or-append (map pos ns) (drop (length (map pos ns)) old) (pos 0) k (omega (arith, as_many, length-map ns pos)) ∙ get_or-map pos ns k 0 in
          rw e tt

      pub ends_solved : (out : List ℕ) {out' : List ℕ} → out' ≡ over (flat word_bytes (depth ∷ firsts found depth)) out → record { result = 0; out = out' } ≡ door_walked w out
      ends_solved out {out'} u =
          let e = (arrived_at A q).0 in
          let i : firsts found depth ≡ numbers w.at = ap (λ (k : ℕ). firsts found k) (sym as_many) ∙ firsts_are (numbers w.at) old f in
          let o : out' ≡ over (flat word_bytes (length w.at ∷ numbers w.at)) out =
          u ∙ ap (λ (l : List ℕ). over (flat word_bytes (depth ∷ l)) out) i ∙ ap (λ (k : ℕ). over (flat word_bytes (k ∷ numbers w.at)) out) is_depth in
          (λ j. record { result = 0; out = o j }) ∙ sym (ap (λ (x : End). record { result = end_number x; out = door_out x w.at out }) e)

  -- any other answer's number, and nothing written
  pub ends_other : {k : ℕ} (out : List ℕ) → k ≡ (walk_said r).number → ((at : State) (v : ℕ) → r ≡ NextSays.Solution at v → ⊥) → record { result = k; out = out } ≡ door_walked w out
  ends_other {k} out e other = by w.end _ (length w.visited) A.answer
    where
      by : (x : End) (st : State) (v : ℕ) → r ≡ next_answer x st v → ◌≡◌ {A = DoorOutcome} (record { result = k; out = out }) (record { result = end_number x; out = door_out x w.at out })
      by solution st v p = absurd (other st v p)
      by exhausted st v p = ap (λ (i : ℕ). record { result = i; out = out }) (e ∙ ap (λ (a : NextAnswer). (walk_said a).number) p)
      by paused st v p = ap (λ (i : ℕ). record { result = i; out = out }) (e ∙ ap (λ (a : NextAnswer). (walk_said a).number) p)

pub take_zeros : {A : Type 0} (x : A) (n k : ℕ) → k ≤ n → take k (replicate n x) ≡ replicate k x
take_zeros x n zero h = refl
take_zeros x zero (suc k) h = absurd (omega arith)
take_zeros x (suc n) (suc k) h = ap (λ (l : List _). x ∷ l) (take_zeros x n k (omega arith))

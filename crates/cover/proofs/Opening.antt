-- From what the reader answers to what the program makes of the text. Assumes nothing.
use mathlib.Core.Bool.{Bool, true, false, cond}
use mathlib.Core.List.{List, [], ◌∷◌}
use Rattle.std.specs.Prelude.{Option, None, Some, Result, Ok, Err}
use mathlib.Core.Path.{◌≡◌, refl, sym, ap, ◌∙◌}
use Prim.Native.Nat.{ℕ, zero, suc, ◌≤◌, ◌<◌}
use native.Mathlib.Omega.{arith}
use borrow.Author.Tests.{le-leb, leb-false}
use lib.Dec.{leb}
use lib.IntN.{ℤ}
use lib.ListN.{length, take, drop, length-append}
use lib.Seq.{take_at}
use Rattle.rules.specs.declared.Limits.{Limits}
use Rattle.rules.specs.declared.Sizes.{Sizes}
use Rattle.rules.specs.declared.Unread.{Unread}
use Rattle.rules.specs.declared.Unread.TheVariants.{Faulty, Refused}
use Rattle.rules.specs.Lists.{over}
use Rattle.rules.specs.Problem.{door_limits, cut, sizes, table_length, fault, need, first_of, judged, verdict, cut_refusal, problem_refusal}
use Rattle.rules.specs.Text.{lines, stated, first_bad, words_of, ReadOutcome, unread, read_into, read_lines, read_sized, read_call}
use Rattle.rules.specs.Cover.{Opened, refused, open_as, open_lines, opened}
use Rattle.laws.specs.Lists.{cannot}
use Rattle.problem.specs.Measured.{Within, within, table_bounds, judged_sized, judged_refused}
use Rattle.problem.specs.Room as Room
use Rattle.problem.specs.Room.{room, served, served_all}
use Rattle.cover.specs.Opening.{OpensTo}

-- what a test of an error's case tells
pub errs : {r : Result ℕ Unread} {x y : Unread} → r ≡ Err x → x ≡ y → r ≡ Err y
errs u e = rw e at u

-- ---- the door's limits

abbrev pub refusal : List ℤ → ℕ
refusal ws = problem_refusal door_limits 1 (λ s. true) ws

module _ (ws : List ℤ) where
  bounded : cut_refusal door_limits 1 ws ≡ 0 → Within door_limits 1 (sizes (cut ws))
  unfolding verdict
  bounded e = within door_limits 1 ws (sizes (cut ws)) (sym (ap (λ (k : ℕ). judged k (sizes (cut ws))) e))

  -- a table and a list of the limits are long enough for what passes the rows before
  roomy : cut_refusal door_limits 1 ws ≡ 0 → room 1676 64 (sizes (cut ws)) ≡ true
  roomy e =
      let W = bounded e in
      rw (le-leb (table_length (sizes (cut ws))) 1676 (omega (arith, (table_bounds W).0)), le-leb (sizes (cut ws)).np 64 (omega (arith, W.few_items))) refl

  same_refusal : problem_refusal door_limits 1 (room 1676 64) ws ≡ refusal ws
  unfolding problem_refusal
  same_refusal = by (cut_refusal door_limits 1 ws) refl
    where
      by : (k : ℕ) → cut_refusal door_limits 1 ws ≡ k → first_of k (need (room 1676 64 (sizes (cut ws))) 9 (fault (cut ws))) ≡ first_of k (fault (cut ws))
      by zero e = ap (λ (b : Bool). need b 9 (fault (cut ws))) (roomy e)
      by (suc k) e = refl

  pub judged_here : {L : Limits} {v : Result Sizes ℕ} → L ≡ door_limits → (marks : ℕ) → v ≡ judged (problem_refusal (served L marks) 1 (room 1676 64) ws) (sizes (cut ws))
      → door_limits.items ≤ marks → v ≡ judged (refusal ws) (sizes (cut ws))
  judged_here {L} p marks e h = e ∙ rw (served_all L marks p h) (ap (λ (k : ℕ). judged k (sizes (cut ws))) same_refusal)

open_some : (k j : ℕ) (ws : List ℤ) → k ≡ j → 0 < j → open_as k ws ≡ refused (j ∷ [])
open_some k zero ws e h = absurd (omega arith)
open_some k (suc j) ws e h = rw e refl

-- ---- what the reader answers

abbrev answer_of : ReadOutcome → Result ℕ Unread
answer_of o = o.answer

module _ (ws ws' : List ℤ) (r : Result ℕ Unread) where
  abbrev open_of : Bool → ℕ → Option (List ℤ) → Opened
  open_of b k o = cond b (open_lines k o) (refused (3 ∷ []))

  -- words were read
  words_as : {count : ℕ} (b : Bool) (k : ℕ) (o : Option (List ℤ)) → unread r ws' ≡ read_sized b (read_lines k o ws) ws → r ≡ Ok count
      → (open_of b k o ≡ open_as (refusal (take count ws')) (take count ws')) × (count ≤ length ws')
  words_as false k o e u = let a : r ≡ Err (Refused 3) = ap answer_of e in cannot (cc)
  words_as true (suc k) o e u = let a : r ≡ Err (Faulty (suc k)) = ap answer_of e in cannot (cc)
  words_as true zero None e u = let a : r ≡ Err (Faulty 0) = ap answer_of e in cannot (cc)
  words_as {count} true zero (Some new) e u = by (leb (length new) (length ws)) e
    where
      by : (c : Bool) → unread r ws' ≡ read_into c new ws → (open_as (refusal new) new ≡ open_as (refusal (take count ws')) (take count ws')) × (count ≤ length ws')
      by false e = let a : r ≡ Err (Refused 9) = ap answer_of e in cannot (cc)
      by true e =
          let a : r ≡ Ok (length new) = ap answer_of e in
          let n : count ≡ length new = cc in
          let w : ws' ≡ over new ws = ap (λ (x : ReadOutcome). x.words) e in
          let t : take count ws' ≡ new = ap (take count) w ∙ take_at new (drop (length new) ws) count (sym n) in
          (sym (ap (λ (l : List ℤ). open_as (refusal l) l) t), omega (arith, ap length w ∙ length-append new (drop (length new) ws)))

  faulty_as : {j : ℕ} (b : Bool) (k : ℕ) (o : Option (List ℤ)) → unread r ws' ≡ read_sized b (read_lines k o ws) ws → r ≡ Err (Faulty j) → open_of b k o ≡ refused (13 ∷ j ∷ [])
  faulty_as false k o e u = let a : r ≡ Err (Refused 3) = ap answer_of e in cannot (cc)
  faulty_as {j} true (suc k) o e u = let a : r ≡ Err (Faulty (suc k)) = ap answer_of e in let n : suc k ≡ j = cc in ap (λ (x : ℕ). refused (13 ∷ x ∷ [])) n
  faulty_as {j} true zero None e u = let a : r ≡ Err (Faulty 0) = ap answer_of e in let n : 0 ≡ j = cc in ap (λ (x : ℕ). refused (13 ∷ x ∷ [])) n
  faulty_as {j} true zero (Some new) e u = by (leb (length new) (length ws)) e
    where
      by : (c : Bool) → unread r ws' ≡ read_into c new ws → open_as (refusal new) new ≡ refused (13 ∷ j ∷ [])
      by false e = let a : r ≡ Err (Refused 9) = ap answer_of e in cannot (cc)
      by true e = let a : r ≡ Ok (length new) = ap answer_of e in cannot (cc)

  refused_as : {j : ℕ} (b : Bool) (k : ℕ) (o : Option (List ℤ)) → (k ≡ 0 → (new : List ℤ) → o ≡ Some new → length ws < length new → refusal new ≡ 3)
      → unread r ws' ≡ read_sized b (read_lines k o ws) ws → r ≡ Err (Refused j) → open_of b k o ≡ refused (3 ∷ [])
  refused_as false k o f e u = refl
  refused_as true (suc k) o f e u = let a : r ≡ Err (Faulty (suc k)) = ap answer_of e in cannot (cc)
  refused_as true zero None f e u = let a : r ≡ Err (Faulty 0) = ap answer_of e in cannot (cc)
  refused_as true zero (Some new) f e u = by (leb (length new) (length ws)) refl e
    where
      by : (c : Bool) → leb (length new) (length ws) ≡ c → unread r ws' ≡ read_into c new ws → open_as (refusal new) new ≡ refused (3 ∷ [])
      by true z e = let a : r ≡ Ok (length new) = ap answer_of e in cannot (cc)
      by false z e = open_some (refusal new) 3 new (f refl new refl (leb-false (length new) (length ws) z)) (omega arith)

-- ---- the text

module _ (text : List ℕ) (ws : List ℤ) {ws' : List ℤ} {r : Result ℕ Unread} (e : unread r ws' ≡ read_call text true ws) where
  staged : unread r ws' ≡ read_sized (leb (length text) 65536) (read_lines (first_bad true 1 None (lines text)) (words_of true (stated (lines text))) ws) ws
  unfolding read_call
  staged = e

  module _ {count : ℕ} (u : r ≡ Ok count) where
    both : (opened text ≡ open_as (refusal (take count ws')) (take count ws')) × (count ≤ length ws')
    unfolding opened
    both = words_as ws ws' r (leb (length text) 65536) (first_bad true 1 None (lines text)) (words_of true (stated (lines text))) staged u

    pub count_within : count ≤ length ws'
    count_within = both.1

    module _ {v : Result Sizes ℕ} (w : v ≡ judged (refusal (take count ws')) (sizes (cut (take count ws')))) where
      pub opens_refused : {k : ℕ} → v ≡ Err k → opened text ≡ refused (k ∷ [])
      opens_refused {k} x =
          let (a, b) = judged_refused (refusal (take count ws')) (sizes (cut (take count ws'))) (sym x ∙ w) in
          both.0 ∙ open_some (refusal (take count ws')) k (take count ws') a b

      pub opens_to : {s : Sizes} → v ≡ Ok s → OpensTo text ws' count s
      opens_to x =
          let (a, b) = judged_sized (refusal (take count ws')) (sym x ∙ w) in
          record {
            within = both.1;
            is = both.0 ∙ ap (λ (k : ℕ). open_as k (take count ws')) a;
            allowed = Room.accepted door_limits 1 (λ s. true) (take count ws') a b;
          }

  pub opens_faulty : {j : ℕ} → r ≡ Err (Faulty j) → opened text ≡ refused (13 ∷ j ∷ [])
  unfolding opened
  opens_faulty u = faulty_as ws ws' r (leb (length text) 65536) (first_bad true 1 None (lines text)) (words_of true (stated (lines text))) staged u

  pub opens_long : {j : ℕ} → (first_bad true 1 None (lines text) ≡ 0 → (new : List ℤ) → words_of true (stated (lines text)) ≡ Some new → length ws < length new → refusal new ≡ 3)
      → r ≡ Err (Refused j) → opened text ≡ refused (3 ∷ [])
  unfolding opened
  opens_long f u = refused_as ws ws' r (leb (length text) 65536) (first_bad true 1 None (lines text)) (words_of true (stated (lines text))) f staged u

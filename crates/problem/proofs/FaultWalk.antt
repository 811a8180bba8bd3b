-- The loop over an option's entries, and the one over the options, that look for the first fault.
use mathlib.Core.List.{List, [], ◌∷◌}
use mathlib.Core.Path.{◌≡◌, refl, ap, ◌∙◌}
use Prim.Native.Nat.{ℕ, zero, suc, ◌+◌, ◌*◌, ◌-◌, ◌≤◌, ◌<◌}
use native.Mathlib.Omega.{arith}
use lib.Dec.{T}
use Rattle.std.specs.Prelude.{Ok, Err, ⊤}
use lib.IntN.{ℤ, pos}
use lib.ListN.{length, set, drop}
use lib.Signed.{non_neg}
use Rattle.rules.specs.Problem.{Pair, first_of, entry_fault, option_fault, options_fault}
use Rattle.rules.specs.Words.{word, below}
use Rattle.problem.proofs.MarkLaws.{marked_none, marked_set, older_set, older_later}
use Rattle.problem.specs.CutLaws.{pair_at, entries_at, entries_turn, pairs_none, options_at, options_none, Whole}
use Rattle.problem.specs.CutLaws.{Turn, in_range, natural, turn}
use Rattle.problem.specs.Marks.{Marked, Older, refused}
use Rattle.problem.specs.Measured.{judged_sized}
use Rattle.laws.specs.Faults.{need_holds}
use Rattle.laws.specs.Lists.{cannot}

-- a fault is the first, and after none comes the next
pub judged_stop : (f later : ℕ) {k : ℕ} → Err k ≡ refused f → Err k ≡ refused (first_of f later)
judged_stop zero later e = cannot (cc)
judged_stop (suc f) later e = e

pub judged_go : (f later : ℕ) {u : ⊤} → Ok u ≡ refused f → first_of f later ≡ later
judged_go zero later e = refl
judged_go (suc f) later e = cannot (cc)

-- ---- the entries

entries_clean : (np n : ℕ) (seen : List ℤ) → option_fault np n seen [] ≡ 0
unfolding option_fault
entries_clean np n seen = refl

entries_fault : (np n : ℕ) (seen : List ℤ) (e : Pair) (es : List Pair) → option_fault np n seen (e ∷ es) ≡ first_of (entry_fault np n seen e) (option_fault np n (e.item ∷ seen) es)
unfolding option_fault
entries_fault np n seen e es = refl

-- an entry with no fault has an item in range
pub item_below : (np n : ℕ) (seen : List ℤ) (e : Pair) {u : ⊤} → Ok u ≡ refused (entry_fault np n seen e)
    → T (below n e.item)
unfolding entry_fault
item_below np n seen e h = (need_holds (below n e.item) 4 _ (judged_sized _ h).0).0

-- of the k entries at p, the items of the first i are marked
pub record Passing (ws : List ℤ) (p k np n stamp : ℕ) (marks : List ℕ) (i : ℕ) : Type 0 where
  pub older : Older marks n (stamp + 1)
  pub seen : List ℤ
  pub marked : Marked marks n stamp seen
  pub same_fault : option_fault np n [] (entries_at ws p k) ≡ option_fault np n seen (entries_at ws (p + 2 * i) (k - i))

module _ (ws : List ℤ) (p k np n stamp : ℕ) where
  pub passing_start : {marks : List ℕ} → Older marks n stamp → Passing ws p k np n stamp marks 0
  passing_start O =
      record {
        older = older_later (stamp + 1) (omega arith) O;
        seen = [];
        marked = marked_none O;
        same_fault =
            let z : p + 2 * 0 ≡ p = omega arith in let y : k - 0 ≡ k = omega arith in rw (z, y) refl;
      }

  module _ {marks : List ℕ} {i : ℕ} (I : Passing ws p k np n stamp marks i) where
    module _ (z : i < k) (h : p + 2 * k ≤ length ws) where
      abbrev here : ℕ
      here = entry_fault np n I.seen (pair_at ws (p + 2 * i))

      abbrev later : ℕ
      later = option_fault np n (word ws (p + 2 * i) ∷ I.seen) (entries_at ws (p + 2 * (i + 1)) (k - (i + 1)))

      here_first : option_fault np n [] (entries_at ws p k) ≡ first_of here later
      here_first =
          I.same_fault ∙ ap (option_fault np n I.seen) (entries_turn ws p k i z h)
          ∙ entries_fault np n I.seen (pair_at ws (p + 2 * i)) (entries_at ws (p + 2 * (i + 1)) (k - (i + 1)))

      pub passing_stop : {r : ℕ} → Err r ≡ refused here → Err r ≡ refused (option_fault np n [] (entries_at ws p k))
      passing_stop e = rw here_first (judged_stop here later e)

      pub passing_turn : {u : ⊤} → Ok u ≡ refused here → (x : ℕ) → word ws (p + 2 * i) ≡ pos x → x < length marks
          → Passing ws p k np n stamp (set marks x stamp) (i + 1)
      passing_turn o x w l =
          record {
            older = older_set marks x stamp l n (stamp + 1) (omega arith) (λ y m d. I.older.are y m);
            seen = pos x ∷ I.seen;
            marked = marked_set marks x stamp l I.marked;
            same_fault =
                here_first ∙ judged_go here later o
                ∙ ap (λ (z : ℤ). option_fault np n (z ∷ I.seen) (entries_at ws (p + 2 * (i + 1)) (k - (i + 1)))) w;
          }

    pub passing_end : k ≤ i → option_fault np n [] (entries_at ws p k) ≡ 0
    passing_end h =
        let z : k - i ≡ 0 = omega arith in
        I.same_fault ∙ ap (λ (m : ℕ). option_fault np n I.seen (entries_at ws (p + 2 * i) m)) z
        ∙ ap (option_fault np n I.seen) (pairs_none (drop (p + 2 * i) ws))
        ∙ entries_clean np n I.seen

-- ---- the options

options_clean : (np n : ℕ) → options_fault np n [] ≡ 0
unfolding options_fault
options_clean np n = refl

options_first : (np n : ℕ) (o : List Pair) (os : List (List Pair)) → options_fault np n (o ∷ os) ≡ first_of (option_fault np n [] o) (options_fault np n os)
unfolding options_fault
options_first np n o os = refl

-- of the m options from the fourth word on, i are behind `at`, and every mark is below `at`
pub record Searching (ws : List ℤ) (m np n : ℕ) (marks : List ℕ) (at i : ℕ) : Type 0 where
  pub older : Older marks n at
  pub whole : Whole ws at (m - i)
  pub same_fault : options_fault np n (options_at ws 3 m) ≡ options_fault np n (options_at ws at (m - i))

module _ (ws : List ℤ) (m np n : ℕ) where
  pub searching_start : {marks : List ℕ} → Whole ws 3 m → Older marks n 3 → Searching ws m np n marks 3 0
  searching_start g O = let y : m - 0 ≡ m = omega arith in record { older = O; whole = rw y g; same_fault = rw y refl }

  module _ {marks : List ℕ} {at i : ℕ} (I : Searching ws m np n marks at i) where
    module _ (z : i < m) where
      ahead : 0 < m - i
      ahead = omega arith

      pub count_in_range : at < length ws
      count_in_range = in_range ws at (m - i) ahead I.whole

      pub count_natural : T (non_neg (word ws at))
      count_natural = natural ws at (m - i) ahead I.whole

    module _ (z : i < m) {k : ℕ} (w : word ws at ≡ pos k) where
      -- the option of the turn
      option_here : Turn ws at (m - i) k
      option_here = turn ws at (m - i) (omega arith) I.whole k w

      pub option_room : at + 1 + 2 * k ≤ length ws
      option_room = option_here.room

      abbrev this : ℕ
      this = option_fault np n [] (entries_at ws (at + 1) k)

      abbrev after : ℕ
      after = options_fault np n (options_at ws (at + (1 + 2 * k)) (m - i - 1))

      this_first : options_fault np n (options_at ws 3 m) ≡ first_of this after
      this_first =
          I.same_fault ∙ ap (options_fault np n) option_here.options_are
          ∙ options_first np n (entries_at ws (at + 1) k) (options_at ws (at + (1 + 2 * k)) (m - i - 1))

      pub searching_stop : {r : ℕ} → Err r ≡ refused this → Err r ≡ refused (options_fault np n (options_at ws 3 m))
      searching_stop e = rw this_first (judged_stop this after e)

      pub searching_turn : {u : ⊤} → Ok u ≡ refused this → {marks' : List ℕ} → Older marks' n (at + 1)
          → Searching ws m np n marks' (at + (1 + 2 * k)) (i + 1)
      searching_turn o O =
          let e : m - i - 1 ≡ m - (i + 1) = omega arith in
          let r = option_here.room in
          record {
            older = older_later (at + (1 + 2 * k)) (omega arith) O;
            whole = rw e at option_here.whole;
            same_fault = rw e at (this_first ∙ judged_go this after o);
          }

    pub searching_end : m ≤ i → options_fault np n (options_at ws 3 m) ≡ 0
    searching_end h =
        let z : m - i ≡ 0 = omega arith in
        I.same_fault ∙ ap (λ (j : ℕ). options_fault np n (options_at ws at j)) z
        ∙ ap (options_fault np n) (options_none ws at) ∙ options_clean np n

pub ruleset passing_laws = (item_below, passing_start, passing_stop, passing_turn, passing_end)

pub ruleset searching_laws = (
  searching_start,
  count_in_range,
  count_natural,
  option_room,
  searching_stop,
  searching_turn,
  searching_end,
)

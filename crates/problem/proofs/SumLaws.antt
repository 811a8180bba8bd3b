-- The loop that counts the options: what it comes to is what the options ahead add to the sums behind.
use mathlib.Core.Bool.{Bool, true, false}
use mathlib.Core.List.{List, [], ◌∷◌}
use Rattle.std.specs.Prelude.{Option, None, Some}
use mathlib.Core.Path.{◌≡◌, refl, sym, ap, ◌∙◌}
use Prim.Native.Nat.{ℕ, ◌+◌, ◌*◌, ◌-◌, ◌≤◌, ◌<◌}
use native.Mathlib.Omega.{arith}
use lib.IntN.{ℤ}
use lib.ListN.{length, drop}
use Rattle.rules.specs.Lists.{also, keep, tally, one_if}
use Rattle.rules.specs.Problem.{Pair, entry_count, pairs_kept, with_option, cut_options, count_pairs}
use Rattle.problem.specs.CutLaws.{entries_at, length_entries, count_room, cut_step, cut_lost, cut_over, cut_end}
use Rattle.problem.specs.Sums.{met, met_of, met_missing, no_sums, add_option, add_options, total}
use Rattle.problem.specs.declared.Sums.{Sums}

-- of m options from the fourth word on, i are behind `at`, and s is their sum
pub record Counting (ws : List ℤ) (np m at i : ℕ) (s : Sums) : Type 0 where
  pub same_total : total np (cut_options m (drop 3 ws)) no_sums ≡ total np (cut_options (m - i) (drop at ws)) s
  pub room : 2 * s.all + s.kept ≤ at
  pub fewer : s.entries ≤ s.all

total_none : (np : ℕ) (s : Sums) → total np (Some []) s ≡ Some s
unfolding add_options
total_none np s = refl

total_step : (np : ℕ) (o : List Pair) (X : Option (List (List Pair))) (s : Sums) → total np (with_option o X) s ≡ total np X (add_option (length o) (pairs_kept np o) s)
unfolding add_options
total_step np o None s = refl
total_step np o (Some os) s = refl

room_step : (k : ℕ) (b : Bool) (s : Sums) (at : ℕ) → 2 * s.all + s.kept ≤ at → 2 * (add_option k b s).all + (add_option k b s).kept ≤ at + (1 + 2 * k)
room_step k true s at h = omega arith
room_step k false s at h = omega arith

fewer_step : (k : ℕ) (b : Bool) (s : Sums) → s.entries ≤ s.all → (add_option k b s).entries ≤ (add_option k b s).all
fewer_step k true s h = omega arith
fewer_step k false s h = omega arith

module _ (ws : List ℤ) (np m : ℕ) where
  pub counting_start : Counting ws np m 3 0 no_sums
  counting_start = let z : m - 0 ≡ m = omega arith in record
      { same_total = rw z refl; room = omega arith; fewer = omega arith }

  module _ {at i : ℕ} {s : Sums} (I : Counting ws np m at i s) where
    told : {X : Option (List (List Pair))} → cut_options (m - i) (drop at ws) ≡ X
        → total np (cut_options m (drop 3 ws)) no_sums ≡ total np X s
    told e = I.same_total ∙ ap (λ (Y : Option (List (List Pair))). total np Y s) e

    pub counting_turn : (k : ℕ) (b : Bool) (s' : Sums) → i < m → Some k ≡ entry_count (drop at ws)
        → b ≡ pairs_kept np (entries_at ws (at + 1) k) → s' ≡ add_option k b s
        → Counting ws np m (at + (1 + 2 * k)) (i + 1) s'
    counting_turn k b s' z e t u =
        let h : m - i - 1 ≡ m - (i + 1) = omega arith in
        rw u
        (record {
          same_total =
              told (rw h at (cut_step ws at k (sym e) (m - i) (omega arith)))
              ∙ total_step np (entries_at ws (at + 1) k) rest s
              ∙ ap (λ (n : ℕ). total np rest (add_option n (pairs_kept np (entries_at ws (at + 1) k)) s)) (length_entries ws (at + 1) k (count_room ws at k (sym e)))
              ∙ ap (λ (c : Bool). total np rest (add_option k c s)) (sym t);
          room = room_step k b s at I.room;
          fewer = fewer_step k b s I.fewer;
        })
      where
        rest : Option (List (List Pair))
        rest = cut_options (m - (i + 1)) (drop (at + (1 + 2 * k)) ws)

    pub counting_lost : i < m → None ≡ entry_count (drop at ws) → None ≡ total np (cut_options m (drop 3 ws)) no_sums
    counting_lost z e = sym (told (cut_lost ws at (m - i) e (omega arith)))

    module _ (h : m ≤ i) where
      z : m - i ≡ 0
      z = omega arith

      at_end : {X : Option (List (List Pair))} → cut_options 0 (drop at ws) ≡ X → total np (cut_options m (drop 3 ws)) no_sums ≡ total np X s
      at_end e = told (ap (λ (n : ℕ). cut_options n (drop at ws)) z ∙ e)

      pub counting_over : at < length ws → None ≡ total np (cut_options m (drop 3 ws)) no_sums
      counting_over h = sym (at_end (cut_over ws at h))

      pub counting_end : length ws ≤ at → Some s ≡ total np (cut_options m (drop 3 ws)) no_sums
      counting_end h = sym (at_end (cut_end ws at h) ∙ total_none np s)

-- ---- what the sums are

abbrev pub sums_of : ℕ → List (List Pair) → Sums → Sums
sums_of np os s =
    record { all = s.all + count_pairs os; kept = s.kept + tally (pairs_kept np) os; entries = s.entries + count_pairs (keep (pairs_kept np) os) }

fields : {a a' b b' c c' : ℕ} → a ≡ a' → b ≡ b' → c ≡ c' → ◌≡◌ {A = Sums} (record { all = a; kept = b; entries = c }) (record { all = a'; kept = b'; entries = c' })
fields p q r = cc

pub sums_are : (np : ℕ) (os : List (List Pair)) (s : Sums) → add_options np os s ≡ sums_of np os s
unfolding add_options count_pairs tally keep
sums_are np [] s =
    let a : s.all ≡ s.all + 0 = omega arith in
    let b : s.kept ≡ s.kept + 0 = omega arith in
    let c : s.entries ≡ s.entries + 0 = omega arith in
    fields a b c
sums_are np (o ∷ os) s = sums_are np os (add_option (length o) (pairs_kept np o) s) ∙ step (pairs_kept np o)
  where
    step : (b : Bool)
        → sums_of np os (add_option (length o) b s) ≡ record { all = s.all + (length o + count_pairs os); kept = s.kept + (one_if b + tally (pairs_kept np) os); entries = s.entries + count_pairs (also b o (keep (pairs_kept np) os)) }
    step true = fields (omega arith) (omega arith) (omega arith)
    step false = fields (omega arith) (omega arith) refl

pub ruleset counting_laws = (
  counting_start,
  counting_turn,
  counting_lost,
  counting_over,
  counting_end,
  met_of,
  met_missing,
  count_room,
)

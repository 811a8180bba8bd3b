-- More words than the limits allow: what they are refused for. Assumes nothing.
use mathlib.Core.Path.{◌≡◌, refl, sym, ap, ◌∙◌}
use mathlib.Core.Bool.{Bool, true, false, ◌&&◌}
use Rattle.std.specs.Prelude.{Option, None, Some, Result, Err, IsErr}
use mathlib.Core.List.{List, ◌∷◌}
use Prim.Native.Nat.{ℕ, zero, suc, ◌+◌, ◌*◌, ◌-◌, ◌≤◌, ◌<◌}
use native.Mathlib.Omega.{arith}
use borrow.Author.Tests.{le-leb, lt-leb, leb-true, leb-false}
use lib.Dec.{T, leb, leb→le}
use lib.IntN.{ℤ, pos, negsuc}
use lib.ListN.{length, take, drop, length-take}
use lib.Seq.{get_or-take}
use lib.Signed.{le_z, non_neg}
use Rattle.rules.specs.declared.Limits.{Limits}
use Rattle.rules.specs.declared.Sizes.{Sizes}
use Rattle.rules.specs.Lists.{got}
use Rattle.rules.specs.Words.{word, nat}
use Rattle.rules.specs.Problem.{Pair, door_limits, need, entry_count, with_option, cut_options, judged, parts, cut, sizes, count_pairs, cut_refusal, verdict}
use Rattle.laws.specs.Lists.{and_right, cannot}
use Rattle.problem.specs.CutLaws.{Whole, options_at, entries_at, no_count_past, no_count_negative, count_with_room, no_count_short, cut_step, cut_lost, cut_over, cut_end, length_entries, natural, turn}
use Rattle.problem.specs.Heads.{options_refusal}
use Rattle.problem.specs.Measured.{judged_refused}

-- ---- a walk over the options' counts

-- whether the words are cut right is seen from word `at`, with i of m options passed
pub record Cutting (ws : List ℤ) (m at i : ℕ) : Type 0 where
  pub same : got (cut_options m (drop 3 ws)) ≡ got (cut_options (m - i) (drop at ws))
  pub inside : at ≤ length ws

got_with : (o : List Pair) (X : Option (List (List Pair))) → got (with_option o X) ≡ got X
got_with o None = refl
got_with o (Some os) = refl

pub cut_start : (ws : List ℤ) (m : ℕ) → 3 ≤ length ws → Cutting ws m 3 0
cut_start ws m h = let z : m - 0 ≡ m = omega arith in record { same = rw z refl; inside = h }

module _ {ws : List ℤ} {m at i : ℕ} (C : Cutting ws m at i) where
  module _ (z : i < m) where
    lost : None ≡ entry_count (drop at ws) → false ≡ got (cut_options m (drop 3 ws))
    lost e = sym (C.same ∙ ap got (cut_lost ws at (m - i) e (omega arith)))

    pub cut_past : length ws ≤ at → false ≡ got (cut_options m (drop 3 ws))
    cut_past h = lost (no_count_past ws at h)

    module _ (h : at < length ws) where
      pub cut_negative : non_neg (word ws at) ≡ false → false ≡ got (cut_options m (drop 3 ws))
      cut_negative e = lost (no_count_negative ws at h e)

      module _ (k : ℕ) (e : word ws at ≡ pos k) where
        pub cut_short : length ws - at - 1 < 2 * k → false ≡ got (cut_options m (drop 3 ws))
        cut_short r = lost (no_count_short ws at h k e r)

        pub cut_turn : 2 * k ≤ length ws - at - 1 → Cutting ws m (at + (1 + 2 * k)) (i + 1)
        cut_turn r =
            let u : m - i - 1 ≡ m - (i + 1) = omega arith in
            let c = cut_step ws at k (sym (count_with_room ws at h k e r)) (m - i) (omega arith) in
            record {
              same = rw (← u) (C.same ∙ ap got c ∙ got_with (entries_at ws (at + 1) k)
                  (cut_options (m - i - 1) (drop (at + (1 + 2 * k)) ws)));
              inside = omega arith;
            }

  pub cut_stop : m ≤ i → leb (length ws) at ≡ got (cut_options m (drop 3 ws))
  cut_stop h =
      let z : m - i ≡ 0 = omega arith in
      by (leb (length ws) at) refl ∙ sym (C.same ∙ ap (λ (j : ℕ). got (cut_options j (drop at ws))) z)
    where
      by : (b : Bool) → leb (length ws) at ≡ b → b ≡ got (cut_options 0 (drop at ws))
      by true e = sym (ap got (cut_end ws at (leb-true (length ws) at e)))
      by false e = sym (ap got (cut_over ws at (leb-false (length ws) at e)))

-- ---- words that are cut right

-- are no more than a count for each option and two words for each entry
entries_many : (ws : List ℤ) (at m : ℕ) → Whole ws at m → length ws ≤ at + m + 2 * count_pairs (options_at ws at m)
unfolding count_pairs
entries_many ws at zero g = by (leb (length ws) at) refl
  where
    by : (b : Bool) → leb (length ws) at ≡ b → length ws ≤ at + 0 + 2 * count_pairs (options_at ws at 0)
    by true e = omega (arith, leb-true (length ws) at e)
    by false e = absurd (rw (cut_over ws at (leb-false (length ws) at e)) at g)
entries_many ws at (suc m) g =
    let k : ℕ = nat (word ws at) in
    let e : word ws at ≡ pos k = is_pos (word ws at) (natural ws at (suc m) (omega arith) g) in
    let t = turn ws at (suc m) (omega arith) g k e in
    let u : suc m - 1 ≡ m = omega arith in
    let w : Whole ws (at + (1 + 2 * k)) m = rw u at t.whole in
    let i = entries_many ws (at + (1 + 2 * k)) m w in
    let o : options_at ws at (suc m) ≡ entries_at ws (at + 1) k ∷ options_at ws (at + (1 + 2 * k)) m = rw u at t.options_are in
    let r = t.room in
    let l = length_entries ws (at + 1) k (omega arith) in
    let c : count_pairs (options_at ws at (suc m)) ≡ length (entries_at ws (at + 1) k) + count_pairs (options_at ws (at + (1 + 2 * k)) m) = ap count_pairs o in
    omega arith
  where
    is_pos : (z : ℤ) → T (non_neg z) → z ≡ pos (nat z)
    is_pos (pos k) t = refl
    is_pos (negsuc k) t = absurd t

module _ (ws : List ℤ) (long : 579 < length ws) (few : nat (word ws 2) ≤ 64) where
  pub too_many : true ≡ got (parts ws) → options_refusal door_limits ws ≡ 3
  unfolding options_refusal parts
  too_many g =
      let n = entries_many ws 3 (nat (word ws 2)) (rw (sym g) tt) in
      rw (sym g, lt-leb (count_pairs (options_at ws 3 (nat (word ws 2)))) 256 (omega arith)) refl

pub cut_wrong : (ws : List ℤ) → false ≡ got (parts ws) → options_refusal door_limits ws ≡ 4
unfolding options_refusal
cut_wrong ws g = rw (sym g) refl

-- ---- the first three words

-- the rows of the table that they decide, and those after them
abbrev rows : Bool → Bool → Bool → Bool → ℕ → ℕ
rows np options ns few later = need np 1 (need options 2 (need ns 4 (need few 3 later)))

abbrev few_items : ℤ → ℤ → ℤ → Bool
few_items x y z = leb (nat x + nat y) 64 && leb (nat z) 64

abbrev heads : ℤ → ℤ → ℤ → ℕ → ℕ
heads x y z later = rows (le_z (pos 1) x) (le_z (pos 1) z) (non_neg y) (few_items x y z) later

heads_of : (ws : List ℤ) → 3 ≤ length ws → cut_refusal door_limits 1 ws ≡ heads (word ws 0) (word ws 1) (word ws 2) (options_refusal door_limits ws)
unfolding cut_refusal options_refusal
heads_of ws h = rw (le-leb 3 (length ws) h) refl

-- where no option follows them
options_missing : (ws : List ℤ) → length ws ≤ 3 → 0 < nat (word ws 2) → options_refusal door_limits ws ≡ 4
unfolding options_refusal parts
options_missing ws h z = rw (cut_lost ws 3 (nat (word ws 2)) (no_count_past ws 3 h) z) refl

heads_later : (x y z : ℤ) (later : ℕ) → (0 < nat z → later ≡ 4) → heads x y z later ≡ heads x y z 4
heads_later x y (pos zero) later h = refl
heads_later x y (pos (suc k)) later h = rw (h (omega arith)) refl
heads_later x y (negsuc k) later h = refl

module _ (ws : List ℤ) (h : 3 ≤ length ws) where
  pub heads_alone : cut_refusal door_limits 1 (take 3 ws) ≡ heads (word ws 0) (word ws 1) (word ws 2) 4
  heads_alone =
      let l : length (take 3 ws) ≡ 3 = length-take 3 ws ∙ omega arith in
      let e₀ : word (take 3 ws) 0 ≡ word ws 0 = get_or-take 3 ws 0 (pos 0) (omega arith) in
      let e₁ : word (take 3 ws) 1 ≡ word ws 1 = get_or-take 3 ws 1 (pos 0) (omega arith) in
      let e₂ : word (take 3 ws) 2 ≡ word ws 2 = get_or-take 3 ws 2 (pos 0) (omega arith) in
      heads_of (take 3 ws) (omega arith)
      ∙ heads_later (word (take 3 ws) 0) (word (take 3 ws) 1) (word (take 3 ws) 2) (options_refusal door_limits (take 3 ws)) (λ z. options_missing (take 3 ws) (omega arith) z)
      ∙ (λ i. heads (e₀ i) (e₁ i) (e₂ i) 4)

-- they alone are refused
module _ (ws : List ℤ) (h : 3 ≤ length ws) {L : Limits} {hs : List ℤ} {v : Result Sizes ℕ} (p : L ≡ door_limits)
    (q : hs ≡ take 3 ws) (e : v ≡ verdict L 1 hs) where
  heads_judged : v ≡ judged (cut_refusal door_limits 1 (take 3 ws)) (sizes (cut (take 3 ws)))
  unfolding verdict
  heads_judged = e ∙ rw (p, q) refl

  pub heads_refused : IsErr v
  heads_refused = rw (heads_judged, heads_alone ws h) (some (le_z (pos 1) (word ws 0)) (le_z (pos 1) (word ws 2))
      (non_neg (word ws 1)) (few_items (word ws 0) (word ws 1) (word ws 2)))
    where
      some : (np options ns few : Bool) → IsErr (judged (rows np options ns few 4) (sizes (cut (take 3 ws))))
      some false options ns few = refl
      some true false ns few = refl
      some true true false few = refl
      some true true true false = refl
      some true true true true = refl

  pub alone_is : {k : ℕ} → v ≡ Err k → k ≡ cut_refusal door_limits 1 (take 3 ws)
  alone_is u = sym (judged_refused (cut_refusal door_limits 1 (take 3 ws)) (sizes (cut (take 3 ws)))
      (sym u ∙ heads_judged)).0

pub head_is : (ws : List ℤ) {hs : List ℤ} (k : ℕ) → k < 3 → hs ≡ take 3 ws → word hs k ≡ word ws k
head_is ws k h e = ap (λ (l : List ℤ). word l k) e ∙ get_or-take 3 ws k (pos 0) h

pub whole_is : (ws : List ℤ) {m : ℕ} {r : Bool} → word ws 2 ≡ pos m → r ≡ got (cut_options m (drop 3 ws)) → r ≡ got (parts ws)
unfolding parts
whole_is ws e u = u ∙ sym (ap (λ (z : ℤ). got (cut_options (nat z) (drop 3 ws))) e)

-- where they decide, the rest does not matter
decided : (np options ns few : Bool) (later : ℕ) → (rows np options ns few 4 ≡ 4 → ⊥) → (rows np options ns few 4 ≡ rows np options ns few later) × (0 < rows np options ns few 4)
decided false options ns few later n = (refl, omega arith)
decided true false ns few later n = (refl, omega arith)
decided true true false few later n = (refl, omega arith)
decided true true true false later n = (refl, omega arith)
decided true true true true later n = absurd (n refl)

-- where they do not, or ns is negative
pub record Undecided (options ns few : Bool) (all later : ℕ) : Type 0 where
  pub some_options : options ≡ true
  pub within : ns ≡ true → few ≡ true
  pub rest : all ≡ need ns 4 later

undecided : (np options ns few : Bool) (later : ℕ) → rows np options ns few 4 ≡ 4 → Undecided options ns few (rows np options ns few later) later
undecided false options ns few later e = absurd (omega arith)
undecided true false ns few later e = absurd (omega arith)
undecided true true false few later e = record { some_options = refl; within = λ u. cannot (cc); rest = refl }
undecided true true true false later e = absurd (omega arith)
undecided true true true true later e = record { some_options = refl; within = λ u. refl; rest = refl }

module _ (ws : List ℤ) (long : 579 < length ws) {r : ℕ} (a : r ≡ cut_refusal door_limits 1 (take 3 ws)) where
  is_heads : r ≡ heads (word ws 0) (word ws 1) (word ws 2) 4
  is_heads = a ∙ heads_alone ws (omega arith)

  pub by_heads : (r ≡ 4 → ⊥) → (r ≡ cut_refusal door_limits 1 ws) × (0 < r)
  by_heads n =
      let d = decided (le_z (pos 1) (word ws 0)) (le_z (pos 1) (word ws 2)) (non_neg (word ws 1)) (few_items (word ws 0) (word ws 1) (word ws 2)) (options_refusal door_limits ws) (λ e. n (is_heads ∙ e)) in
      (is_heads ∙ d.0 ∙ sym (heads_of ws (omega arith)), rw is_heads d.1)

  module _ (f : r ≡ 4) where
    rest_decides : Undecided (le_z (pos 1) (word ws 2)) (non_neg (word ws 1)) (few_items (word ws 0) (word ws 1) (word ws 2)) (heads (word ws 0) (word ws 1) (word ws 2) (options_refusal door_limits ws)) (options_refusal door_limits ws)
    rest_decides = undecided (le_z (pos 1) (word ws 0)) (le_z (pos 1) (word ws 2)) (non_neg (word ws 1)) (few_items (word ws 0) (word ws 1) (word ws 2)) (options_refusal door_limits ws) (sym is_heads ∙ f)

    all_is : cut_refusal door_limits 1 ws ≡ need (non_neg (word ws 1)) 4 (options_refusal door_limits ws)
    all_is = heads_of ws (omega arith) ∙ rest_decides.rest

    pub options_natural : T (non_neg (word ws 2))
    options_natural = by (word ws 2) rest_decides.some_options
      where
        by : (z : ℤ) → le_z (pos 1) z ≡ true → T (non_neg z)
        by (pos k) e = tt
        by (negsuc k) e = cannot (cc)

    pub by_ns : non_neg (word ws 1) ≡ false → 4 ≡ cut_refusal door_limits 1 ws
    by_ns e = sym (all_is ∙ ap (λ (b : Bool). need b 4 (options_refusal door_limits ws)) e)

    module _ (e : non_neg (word ws 1) ≡ true) where
      by_options : cut_refusal door_limits 1 ws ≡ options_refusal door_limits ws
      by_options = all_is ∙ ap (λ (b : Bool). need b 4 (options_refusal door_limits ws)) e

      few_options : nat (word ws 2) ≤ 64
      few_options = leb→le (nat (word ws 2)) 64 (and_right (leb (nat (word ws 0) + nat (word ws 1)) 64) (leb (nat (word ws 2)) 64) (rw (rest_decides.within e) tt))

      pub by_entries : true ≡ got (parts ws) → 3 ≡ cut_refusal door_limits 1 ws
      by_entries g = sym (by_options ∙ too_many ws long few_options g)

      pub by_cut : false ≡ got (parts ws) → 4 ≡ cut_refusal door_limits 1 ws
      by_cut g = sym (by_options ∙ cut_wrong ws g)

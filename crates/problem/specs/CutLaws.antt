-- The cut words by position: what a loop over the options, and one over an option's entries, meets at each turn.
use Rattle.std.specs.Prelude.{Bool, true, false, ◌≡◌, refl, T, leb, ℤ, pos, negsuc, length, get_or, drop, Option, None, Some}
use mathlib.Core.List.{List, [], ◌∷◌}
use Rattle.std.proofs.Common.{sym, ◌∙◌, le-leb, leb-true, length-drop, drop_of_length-le, drop-cons, drop-drop, get_or-drop}
use Rattle.std.proofs.Math.Path.{ap}
use Prim.Native.Nat.{ℕ, zero, suc, ◌+◌, ◌*◌, ◌-◌, ◌≤◌, ◌<◌}
use native.Mathlib.Omega.{arith}
use Rattle.std.proofs.lemmas.Bool.{lt-leb}
use Rattle.std.specs.Bool.{then_some}
use Rattle.std.specs.Int.Signed.{non_neg}
use Rattle.rules.specs.Lists.{when, got, or_none}
use Rattle.rules.specs.Problem.{Pair, entry_count, pairs, with_option, then_cut, cut_options, count_pairs}
use Rattle.rules.specs.Words.{word}
use Rattle.laws.specs.Lists.{cannot}

-- the entry at p
abbrev pub pair_at : List ℤ → ℕ → Pair
pair_at ws p = record { item = word ws p; colour = word ws (p + 1) }

-- the k entries at p
abbrev pub entries_at : List ℤ → ℕ → ℕ → List Pair
entries_at ws p k = pairs k (drop p ws)

-- m options stand at `at`, and no word is left after them
abbrev pub Whole : List ℤ → ℕ → ℕ → Type 0
Whole ws at m = T (got (cut_options m (drop at ws)))

-- those options
abbrev pub options_at : List ℤ → ℕ → ℕ → List (List Pair)
options_at ws at m = or_none (cut_options m (drop at ws))

-- ---- the entry count at a position

count_nothing : entry_count [] ≡ None
unfolding entry_count
count_nothing = refl

count_negative : (z : ℤ) (r : List ℤ) → non_neg z ≡ false → entry_count (z ∷ r) ≡ None
unfolding entry_count
count_negative (pos k) r e = cannot (cc)
count_negative (negsuc k) r e = refl

count_number : (k : ℕ) (r : List ℤ) → entry_count (pos k ∷ r) ≡ when (leb (2 * k) (length r)) (Some k)
unfolding entry_count
count_number k r = refl

some_when : (b : Bool) (k : ℕ) → when b (Some k) ≡ then_some b k
some_when true k = refl
some_when false k = refl

-- a count is the word that it was read from, and its entries have room
counted : (l : List ℤ) (k : ℕ) → entry_count l ≡ Some k → (get_or l 0 (pos 0) ≡ pos k) × (1 + 2 * k ≤ length l)
unfolding entry_count
counted [] k e = cannot (cc)
counted (negsuc j ∷ l) k e = cannot (cc)
counted (pos j ∷ l) k e = by (leb (2 * j) (length l)) refl e
  where
    by : (b : Bool) → leb (2 * j) (length l) ≡ b → when b (Some j) ≡ Some k → (pos j ≡ pos k) × (1 + 2 * k ≤ suc (length l))
    by true t u = let v : j ≡ k = cc in let w = leb-true (2 * j) (length l) t in (ap pos v, omega arith)
    by false t u = cannot (cc)

module _ (ws : List ℤ) (at : ℕ) where
  pub no_count_past : length ws ≤ at → None ≡ entry_count (drop at ws)
  no_count_past h = sym (ap entry_count (drop_of_length-le ws h) ∙ count_nothing)

  module _ (h : at < length ws) where
    pub no_count_negative : non_neg (word ws at) ≡ false → None ≡ entry_count (drop at ws)
    no_count_negative e = rw (drop-cons ws at (pos 0) h) (sym (count_negative (word ws at) (drop (suc at) ws) e))

    module _ (k : ℕ) (e : word ws at ≡ pos k) where
      count_is : entry_count (drop at ws) ≡ when (leb (2 * k) (length ws - suc at)) (Some k)
      count_is =
          ap entry_count (drop-cons ws at (pos 0) h) ∙ ap (λ (z : ℤ). entry_count (z ∷ drop (suc at) ws)) e
          ∙ count_number k (drop (suc at) ws) ∙ ap (λ (n : ℕ). when (leb (2 * k) n) (Some k)) (length-drop (suc at) ws)

      pub count_if_room : then_some (leb (2 * k) (length ws - at - 1)) k ≡ entry_count (drop at ws)
      count_if_room =
          let n : length ws - at - 1 ≡ length ws - suc at = omega arith in
          sym (count_is ∙ rw n (some_when (leb (2 * k) (length ws - suc at)) k))

      pub count_with_room : 2 * k ≤ length ws - at - 1 → Some k ≡ entry_count (drop at ws)
      count_with_room r = rw (le-leb (2 * k) (length ws - at - 1) r) at count_if_room

      pub no_count_short : length ws - at - 1 < 2 * k → None ≡ entry_count (drop at ws)
      no_count_short r = rw (lt-leb (2 * k) (length ws - at - 1) r) at count_if_room

-- ---- the entries at a position

pub pairs_none : (l : List ℤ) → pairs 0 l ≡ []
unfolding pairs
pairs_none l = refl

pairs_cons : (k : ℕ) (i c : ℤ) (l : List ℤ) → pairs (suc k) (i ∷ c ∷ l) ≡ record { item = i; colour = c } ∷ pairs k l
unfolding pairs
pairs_cons k i c l = refl

length_pairs : (k : ℕ) (l : List ℤ) → 2 * k ≤ length l → length (pairs k l) ≡ k
unfolding pairs
length_pairs zero l h = refl
length_pairs (suc k) [] h = absurd (omega arith)
length_pairs (suc k) (i ∷ []) h = absurd (omega arith)
length_pairs (suc k) (i ∷ c ∷ l) h = ap suc (length_pairs k l (omega arith))

module _ (ws : List ℤ) (p : ℕ) where
  drop_two : p + 2 ≤ length ws → drop p ws ≡ word ws p ∷ word ws (p + 1) ∷ drop (p + 2) ws
  drop_two h =
      let h₁ : p < length ws = omega arith in
      let h₂ : suc p < length ws = omega arith in
      let e₁ : p + 1 ≡ suc p = omega arith in
      let e₂ : p + 2 ≡ suc (suc p) = omega arith in
      rw (e₁, e₂) (drop-cons ws p (pos 0) h₁ ∙ ap (λ (l : List ℤ). word ws p ∷ l) (drop-cons ws (suc p) (pos 0) h₂))

  pub entries_step : (k : ℕ) → 0 < k → p + 2 ≤ length ws → entries_at ws p k ≡ pair_at ws p ∷ entries_at ws (p + 2) (k - 1)
  entries_step zero z h = absurd (omega arith)
  entries_step (suc k) z h =
      let e : k ≡ suc k - 1 = omega arith in
      ap (pairs (suc k)) (drop_two h) ∙ pairs_cons k (word ws p) (word ws (p + 1)) (drop (p + 2) ws)
      ∙ ap (λ (n : ℕ). pair_at ws p ∷ pairs n (drop (p + 2) ws)) e

  pub length_entries : (k : ℕ) → p + 2 * k ≤ length ws → length (entries_at ws p k) ≡ k
  length_entries k h = length_pairs k (drop p ws) (omega (arith, length-drop p ws))

-- of the k entries at p, the first that i others stand before
pub entries_turn : (ws : List ℤ) (p k i : ℕ) → i < k → p + 2 * k ≤ length ws
    → entries_at ws (p + 2 * i) (k - i) ≡ pair_at ws (p + 2 * i) ∷ entries_at ws (p + 2 * (i + 1)) (k - (i + 1))
entries_turn ws p k i z h =
    let e₁ : p + 2 * i + 2 ≡ p + 2 * (i + 1) = omega arith in
    let e₂ : k - i - 1 ≡ k - (i + 1) = omega arith in
    rw (← e₁, ← e₂) (entries_step ws (p + 2 * i) (k - i) (omega arith) (omega arith))

-- ---- the options at a position

module _ (ws : List ℤ) (at k : ℕ) (e : entry_count (drop at ws) ≡ Some k) where
  pub count_room : at + 1 + 2 * k ≤ length ws
  count_room = let h = (counted (drop at ws) k e).1 in omega (arith, length-drop at ws)

  pub count_word : word ws at ≡ pos k
  count_word =
      let u : at + 0 ≡ at = omega arith in
      sym (get_or-drop at ws 0 (pos 0) ∙ ap (λ (n : ℕ). word ws n) u) ∙ (counted (drop at ws) k e).0

  pub cut_step : (m : ℕ) → 0 < m → cut_options m (drop at ws) ≡ with_option (entries_at ws (at + 1) k) (cut_options (m - 1) (drop (at + (1 + 2 * k)) ws))
  unfolding cut_options
  cut_step zero z = absurd (omega arith)
  cut_step (suc m) z =
      let u : m ≡ suc m - 1 = omega arith in
      ap (λ (o : Option ℕ). then_cut o (drop at ws) (λ rest. cut_options m rest)) e
      ∙ ap (λ (l : List ℤ). with_option (pairs k l) (cut_options m (drop (1 + 2 * k) (drop at ws)))) (drop-drop 1 at ws)
      ∙ ap (λ (l : List ℤ). with_option (entries_at ws (at + 1) k) (cut_options m l)) (drop-drop (1 + 2 * k) at ws)
      ∙ ap (λ (n : ℕ). with_option (entries_at ws (at + 1) k) (cut_options n (drop (at + (1 + 2 * k)) ws))) u

pub cut_lost : (ws : List ℤ) (at m : ℕ) → None ≡ entry_count (drop at ws) → 0 < m → cut_options m (drop at ws) ≡ None
unfolding cut_options
cut_lost ws at zero e z = absurd (omega arith)
cut_lost ws at (suc m) e z = ap (λ (o : Option ℕ). then_cut o (drop at ws) (λ rest. cut_options m rest)) (sym e)

some_left : (l : List ℤ) → 0 < length l → cut_options 0 l ≡ None
unfolding cut_options
some_left [] h = absurd (omega arith)
some_left (w ∷ l) h = refl

none_left : cut_options 0 [] ≡ Some []
unfolding cut_options
none_left = refl

pub cut_over : (ws : List ℤ) (at : ℕ) → at < length ws → cut_options 0 (drop at ws) ≡ None
cut_over ws at h = some_left (drop at ws) (omega (arith, length-drop at ws))

pub cut_end : (ws : List ℤ) (at : ℕ) → length ws ≤ at → cut_options 0 (drop at ws) ≡ Some []
cut_end ws at h = ap (cut_options 0) (drop_of_length-le ws h) ∙ none_left

pub options_none : (ws : List ℤ) (at : ℕ) → options_at ws at 0 ≡ []
unfolding cut_options
options_none ws at = by (drop at ws)
  where
    by : (l : List ℤ) → or_none (cut_options 0 l) ≡ []
    by [] = refl
    by (w ∷ l) = refl

-- there are as many as were asked for
length_with : (o : List Pair) (X : Option (List (List Pair))) (m : ℕ) → (T (got X) → length (or_none X) ≡ m) → T (got (with_option o X)) → length (or_none (with_option o X)) ≡ suc m
length_with o None m h g = absurd g
length_with o (Some os) m h g = ap suc (h tt)

length_cut : (m : ℕ) (l : List ℤ) → T (got (cut_options m l)) → length (or_none (cut_options m l)) ≡ m
unfolding cut_options
length_cut zero [] g = refl
length_cut zero (w ∷ l) g = absurd g
length_cut (suc m) l g = by (entry_count l) (λ r. length_cut m r) g
  where
    by : (c : Option ℕ) → ((r : List ℤ) → T (got (cut_options m r)) → length (or_none (cut_options m r)) ≡ m) → T (got (then_cut c l (λ r. cut_options m r)))
        → length (or_none (then_cut c l (λ r. cut_options m r))) ≡ suc m
    by None later g = absurd g
    by (Some k) later g = length_with (pairs k (drop 1 l)) (cut_options m (drop (1 + 2 * k) l)) m (later (drop (1 + 2 * k) l)) g

pub length_options : (ws : List ℤ) (at m : ℕ) → Whole ws at m → length (options_at ws at m) ≡ m
length_options ws at m g = length_cut m (drop at ws) g

-- an entry takes two words
few_with : (o : List Pair) (X : Option (List (List Pair))) (n : ℕ) → 2 * (length o + count_pairs (or_none X)) ≤ n → 2 * count_pairs (or_none (with_option o X)) ≤ n
unfolding count_pairs
few_with o None n h = omega arith
few_with o (Some os) n h = h

pub few_pairs : (m : ℕ) (l : List ℤ) → 2 * count_pairs (or_none (cut_options m l)) ≤ length l
unfolding cut_options count_pairs
few_pairs zero [] = omega arith
few_pairs zero (w ∷ l) = omega arith
few_pairs (suc m) l = by (entry_count l) refl (λ r. few_pairs m r)
  where
    by : (c : Option ℕ) → entry_count l ≡ c → ((r : List ℤ) → 2 * count_pairs (or_none (cut_options m r)) ≤ length r)
        → 2 * count_pairs (or_none (then_cut c l (λ r. cut_options m r))) ≤ length l
    by None e later = omega arith
    by (Some k) e later =
        let h = (counted l k e).1 in
        few_with (pairs k (drop 1 l)) (cut_options m (drop (1 + 2 * k) l)) (length l)
        (omega (arith, length_pairs k (drop 1 l) (omega (arith, length-drop 1 l)), later (drop (1 + 2 * k) l), length-drop (1 + 2 * k) l))

-- ---- a turn of a loop over options that are known to be there

-- an option of k entries stands at `at`, and m - 1 options after it
pub record Turn (ws : List ℤ) (at m k : ℕ) : Type 0 where
  pub room : at + 1 + 2 * k ≤ length ws
  pub options_are : options_at ws at m ≡ entries_at ws (at + 1) k ∷ options_at ws (at + (1 + 2 * k)) (m - 1)
  pub whole : Whole ws (at + (1 + 2 * k)) (m - 1)

got_rest : (o : List Pair) (X : Option (List (List Pair))) → T (got (with_option o X)) → T (got X)
got_rest o None t = t
got_rest o (Some os) t = t

rest_is : (o : List Pair) (X : Option (List (List Pair))) → T (got (with_option o X)) → or_none (with_option o X) ≡ o ∷ or_none X
rest_is o None t = absurd t
rest_is o (Some os) t = refl

module _ (ws : List ℤ) (at m : ℕ) (z : 0 < m) (g : Whole ws at m) where
  count_there : (k : ℕ) × (entry_count (drop at ws) ≡ Some k)
  count_there = by (entry_count (drop at ws)) refl
    where
      by : (o : Option ℕ) → entry_count (drop at ws) ≡ o → (k : ℕ) × (entry_count (drop at ws) ≡ Some k)
      by None e = absurd (rw (cut_lost ws at m (sym e) z) at g)
      by (Some k) e = (k, e)

  pub never_missing : None ≡ entry_count (drop at ws) → ⊥
  never_missing e = rw (cut_lost ws at m e z) at g

  -- the word at `at` can be read, and is a number
  pub in_range : at < length ws
  in_range = let h = count_room ws at count_there.0 count_there.1 in omega arith

  pub natural : T (non_neg (word ws at))
  natural = rw (count_word ws at count_there.0 count_there.1) tt

  -- that number is the option's entry count
  pub turn : (k : ℕ) → word ws at ≡ pos k → Turn ws at m k
  turn k e =
      let u : count_there.0 ≡ k = cc (count_word ws at count_there.0 count_there.1) in
      let c : entry_count (drop at ws) ≡ Some k = count_there.1 ∙ ap Some u in
      let s = cut_step ws at k c m z in
      let o : List Pair = entries_at ws (at + 1) k in
      let X : Option (List (List Pair)) = cut_options (m - 1) (drop (at + (1 + 2 * k)) ws) in
      record {
        room = count_room ws at k c;
        options_are = ap or_none s ∙ rest_is o X (rw s at g);
        whole = got_rest o X (rw s at g);
      }

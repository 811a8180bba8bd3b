-- What is known of words once their verdict is.
use Rattle.std.proofs.Math.Bool.{Bool}
use Rattle.std.specs.Prelude.{true, false, ◌&&◌, List, [], ◌∷◌, ◌≡◌, refl, ℕ, zero, suc, ◌+◌, ◌*◌, ◌≤◌, ◌<◌, ◌^◌, T}
use Rattle.std.specs.Prelude.{ℤ, pos, negsuc, length, drop, Result, Ok, Err}
use Rattle.std.proofs.Math.Path.{ap}
use Rattle.std.proofs.Common.{◌∙◌, arith, length-drop}
use Rattle.std.proofs.Math.Dec.{leb, leb→le}
use Rattle.std.specs.Int.Signed.{le_z, non_neg}
use Rattle.std.proofs.Math.Facts.{and_yes}
use Rattle.rules.specs.Lists.{also, keep, tally, one_if, got, or_none}
use Rattle.rules.specs.Problem.{Pair, need, first_of, judged, cut_refusal, problem_refusal, verdict, parts, cut, sizes, fault, options_fault, count_pairs, pairs_kept, node_count, table_length}
use Rattle.rules.specs.Words.{word, nat}
use Rattle.rules.specs.declared.Limits.{Limits}
use Rattle.rules.specs.declared.Sizes.{Sizes}
use Rattle.laws.specs.Lists.{cannot}
use Rattle.problem.specs.CutLaws.{Whole, options_at, length_options, few_pairs}
use Rattle.laws.specs.Faults.{need_holds}

-- the words are cut right, and s are their sizes
pub record Measured (ws : List ℤ) (s : Sizes) : Type 0 where
  pub whole : T (got (parts ws))
  pub are : s ≡ sizes (cut ws)

-- the sizes are within the limits
pub record Within (L : Limits) (least : ℕ) (s : Sizes) : Type 0 where
  pub some_np : 1 ≤ s.np
  pub some_options : least ≤ s.options
  pub few_items : s.np + s.ns ≤ L.items
  pub few_options : s.options ≤ L.options
  pub few_kept : s.kept ≤ s.options
  pub few_entries : s.entries ≤ L.entries

-- ---- what the sizes say of the words

module _ (ws : List ℤ) (s : Sizes) (M : Measured ws s) where
  pub np_is : s.np ≡ nat (word ws 0)
  unfolding sizes cut
  np_is = ap (λ (x : Sizes). x.np) M.are

  pub ns_is : s.ns ≡ nat (word ws 1)
  unfolding sizes cut
  ns_is = ap (λ (x : Sizes). x.ns) M.are

  pub options_is : s.options ≡ nat (word ws 2)
  unfolding sizes cut parts
  options_is = ap (λ (x : Sizes). x.options) M.are ∙ length_options ws 3 (nat (word ws 2)) M.whole

  -- the options stand from the fourth word on
  pub whole_options : Whole ws 3 s.options
  unfolding parts
  whole_options = rw options_is M.whole

  pub cut_is : cut ws ≡ record { np = s.np; ns = s.ns; options = options_at ws 3 s.options }
  unfolding cut parts
  cut_is = rw (np_is, ns_is, options_is)

  pub entries_is : s.entries ≡ count_pairs (keep (pairs_kept s.np) (options_at ws 3 s.options))
  unfolding sizes
  entries_is = ap (λ (x : Sizes). x.entries) (M.are ∙ ap sizes cut_is)

  pub fault_is : fault (cut ws) ≡ options_fault s.np (s.np + s.ns) (options_at ws 3 s.options)
  unfolding fault
  fault_is = rw cut_is

-- ---- what is kept is no more than there is

kept_few : (np : ℕ) (os : List (List Pair)) → tally (pairs_kept np) os ≤ length os
unfolding tally
kept_few np [] = omega arith
kept_few np (o ∷ os) = by (pairs_kept np o) (kept_few np os)
  where
    by : (b : Bool) → tally (pairs_kept np) os ≤ length os → one_if b + tally (pairs_kept np) os ≤ suc (length os)
    by true h = omega arith
    by false h = omega arith

entries_few : (np : ℕ) (os : List (List Pair)) → count_pairs (keep (pairs_kept np) os) ≤ count_pairs os
unfolding keep count_pairs
entries_few np [] = omega arith
entries_few np (o ∷ os) = by (pairs_kept np o) (entries_few np os)
  where
    by : (b : Bool) → count_pairs (keep (pairs_kept np) os) ≤ count_pairs os → count_pairs (also b o (keep (pairs_kept np) os)) ≤ length o + count_pairs os
    by true h = omega arith
    by false h = omega arith

-- an entry takes two words
pub entries_in : (ws : List ℤ) (s : Sizes) → Measured ws s → 2 * s.entries ≤ length ws
entries_in ws s M =
    let os : List (List Pair) = options_at ws 3 s.options in
    omega (arith, entries_is ws s M, entries_few s.np os, few_pairs s.options (drop 3 ws), length-drop 3 ws)

-- ---- from the verdict

pub judged_sized : {A : Type 0} (k : ℕ) {s s' : A} → Ok s ≡ judged k s' → (k ≡ 0) × (s ≡ s')
judged_sized zero e = (refl, cc)
judged_sized (suc k) e = cannot (cc)

pub judged_refused : {A : Type 0} (k : ℕ) (s : A) {j : ℕ} → Err j ≡ judged k s → (k ≡ j) × (0 < j)
judged_refused zero s e = cannot (cc)
judged_refused (suc k) s {j} e = let u : suc k ≡ j = cc in (u, omega arith)

pub first_some : (k later : ℕ) → 0 < k → first_of k later ≡ k
first_some zero later h = absurd (omega arith)
first_some (suc k) later h = refl

-- a word of k or more, as a number
at_least : (k : ℕ) (z : ℤ) → T (le_z (pos k) z) → k ≤ nat z
at_least k (pos n) t = leb→le k n t
at_least k (negsuc n) t = absurd t

module _ (L : Limits) (least : ℕ) (ws : List ℤ) where
  passed : (s : Sizes) → Ok s ≡ verdict L least ws → (cut_refusal L least ws ≡ 0) × (s ≡ sizes (cut ws))
  unfolding verdict
  passed s e = judged_sized (cut_refusal L least ws) e

  cut_within : cut_refusal L least ws ≡ 0 → T (got (parts ws)) × Within L least (sizes (cut ws))
  unfolding cut_refusal sizes cut parts
  cut_within e =
      let few_items : Bool = leb (nat (word ws 0) + nat (word ws 1)) L.items in
      let few_options : Bool = leb (nat (word ws 2)) L.options in
      let a = need_holds (leb 3 (length ws)) 3 _ e in
      let b = need_holds (le_z (pos 1) (word ws 0)) 0 _ a.1 in
      let c = need_holds (le_z (pos least) (word ws 2)) 1 _ b.1 in
      let d = need_holds (non_neg (word ws 1)) 3 _ c.1 in
      let f = need_holds (few_items && few_options) 2 _ d.1 in
      let g = need_holds (got (parts ws)) 3 _ f.1 in
      let h = need_holds (leb (count_pairs (or_none (parts ws))) L.entries) 2 _ g.1 in
      let i = and_yes few_items few_options f.0 in
      let items : nat (word ws 0) + nat (word ws 1) ≤ L.items = leb→le _ _ i.0 in
      let options : nat (word ws 2) ≤ L.options = leb→le _ _ i.1 in
      let all : count_pairs (or_none (parts ws)) ≤ L.entries = leb→le _ _ h.0 in
      let l = length_options ws 3 (nat (word ws 2)) g.0 in
      let m = at_least least (word ws 2) c.0 in
      let n = entries_few (nat (word ws 0)) (or_none (parts ws)) in (
        g.0,
        record {
          some_np = at_least 1 (word ws 0) b.0;
          some_options = omega arith;
          few_items = items;
          few_options = omega arith;
          few_kept = kept_few (nat (word ws 0)) (or_none (parts ws));
          few_entries = omega arith;
        },
      )

  module _ (s : Sizes) (e : Ok s ≡ verdict L least ws) where
    pub measured : Measured ws s
    measured = record { whole = (cut_within (passed s e).0).0; are = (passed s e).1 }

    pub within : Within L least s
    within = rw (passed s e).1 (cut_within (passed s e).0).1

    -- sizes that were read from words can be added up
    pub countable : s.np < 2147483648 → s.ns < 2147483648 → s.options < 2147483648 → length ws < 2 ^ 64
        → (Ok s ≡ verdict L least ws) × ((z : Sizes) → ◌≡◌ {A = Result Sizes ℕ} (Ok s) (Ok z) → node_count z < 2 ^ 64)
    countable a b c l = (e, λ z u. let v = (judged_sized 0 u).1 in rw (← v) (omega (arith, within.few_kept, entries_in ws s measured)))

    pub sized_refusal : (room : Sizes → Bool) → problem_refusal L least room ws ≡ need (room s) 9 (fault (cut ws))
    unfolding problem_refusal
    sized_refusal room = rw ((passed s e).0, (passed s e).1)

  module _ (k : ℕ) (e : Err k ≡ verdict L least ws) where
    pub refused_refusal : (room : Sizes → Bool) → problem_refusal L least room ws ≡ k
    unfolding problem_refusal verdict
    refused_refusal room =
        let (u, h) = judged_refused (cut_refusal L least ws) (sizes (cut ws)) e in
        rw u (first_some k (need (room (sizes (cut ws))) 9 (fault (cut ws))) h)

    pub refused_some : 0 < k
    unfolding verdict
    refused_some = (judged_refused (cut_refusal L least ws) (sizes (cut ws)) e).1

-- ---- the numbers that the limits bound

-- the words of the longest table within the limits
abbrev pub most_words : Limits → ℕ
most_words L = 2 * (L.items + 2) + 4 * (L.items + 2 + L.entries + L.options)

-- The table is no longer than that; so where a word can number that many places, it can number a table's places, its nodes and the options.
pub table_bounds : {L : Limits} {least : ℕ} {s : Sizes} → Within L least s → (table_length s ≤ most_words L) × (s.options ≤ most_words L)
table_bounds W = (omega arith, omega arith)

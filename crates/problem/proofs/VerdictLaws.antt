-- From what the code finds to the verdict.
use mathlib.Core.List.{List}
use Rattle.std.specs.Prelude.{Option, None, Some, Ok, Err}
use mathlib.Core.Path.{◌≡◌, refl, ap, ◌∙◌}
use Prim.Native.Nat.{ℕ, ◌≤◌, ◌<◌}
use native.Mathlib.Omega.{arith}
use borrow.Author.Tests.{le-leb, lt-leb}
use lib.IntN.{ℤ}
use lib.ListN.{length}
use Rattle.rules.specs.Lists.{keep, tally}
use Rattle.rules.specs.Problem.{Pair, cut_refusal, verdict, parts, cut, sizes, count_pairs, pairs_kept}
use Rattle.rules.specs.Words.{word, nat}
use Rattle.rules.specs.declared.Limits.{Limits}
use Rattle.laws.specs.Lists.{cannot}
use Rattle.problem.proofs.HeadLaws.{refuses}
use Rattle.problem.proofs.SumLaws.{sums_of, sums_are}
use Rattle.problem.specs.CutLaws.{length_options}
use Rattle.problem.specs.Heads.{options_refusal}
use Rattle.problem.specs.Sums.{no_sums, add_options, total}
use Rattle.problem.specs.declared.Sums.{Sums}

as_many : (ws : List ℤ) (os : List (List Pair)) → parts ws ≡ Some os → length os ≡ nat (word ws 2)
unfolding parts
as_many ws os e = let l = length_options ws 3 (nat (word ws 2)) (rw e tt) in rw e at l

module _ (L : Limits) (least : ℕ) (ws : List ℤ) where
  -- the rows of the options decide
  module _ (H : cut_refusal L least ws ≡ options_refusal L ws) where
    pub cut_wrong : None ≡ total (nat (word ws 0)) (parts ws) no_sums → Err 4 ≡ verdict L least ws
    unfolding options_refusal
    cut_wrong w = by (parts ws) refl w
      where
        by : (X : Option (List (List Pair))) → parts ws ≡ X → None ≡ total (nat (word ws 0)) X no_sums
            → Err 4 ≡ verdict L least ws
        by None e u = refuses L least ws 3 (H ∙ rw e)
        by (Some os) e u = cannot (cc)

    module _ (s : Sums) (w : Some s ≡ total (nat (word ws 0)) (parts ws) no_sums) where
      -- the options, and their sums
      found : (os : List (List Pair)) × (parts ws ≡ Some os) × (s ≡ sums_of (nat (word ws 0)) os no_sums)
      found = by (parts ws) refl w
        where
          by : (X : Option (List (List Pair))) → parts ws ≡ X → Some s ≡ total (nat (word ws 0)) X no_sums
              → (os : List (List Pair)) × (parts ws ≡ Some os) × (s ≡ sums_of (nat (word ws 0)) os no_sums)
          by None e u = cannot (cc)
          by (Some os) e u = let v : s ≡ add_options (nat (word ws 0)) os no_sums = cc in (os, e, v ∙ sums_are (nat (word ws 0)) os no_sums)

      pub cut_many : L.entries < s.all → Err 3 ≡ verdict L least ws
      unfolding options_refusal
      cut_many l =
          let os : List (List Pair) = found.0 in
          let a = ap (λ (x : Sums). x.all) found.2 in
          refuses L least ws 2 (H ∙ (rw (found.1, lt-leb (count_pairs os) L.entries (omega arith))))

      pub cut_fits : s.all ≤ L.entries
          → Ok (record {
            np = nat (word ws 0);
            ns = nat (word ws 1);
            options = nat (word ws 2);
            kept =
                s.kept;
            entries = s.entries;
          }) ≡ verdict L least ws
      unfolding verdict sizes cut options_refusal
      cut_fits l = by found.0 found.1 found.2
        where
          by : (os : List (List Pair)) → parts ws ≡ Some os → s ≡ sums_of (nat (word ws 0)) os no_sums
              → Ok (record {
                np = nat (word ws 0);
                ns = nat (word ws 1);
                options = nat (word ws 2);
                kept =
                    s.kept;
                entries = s.entries;
              }) ≡ verdict L least ws
          by os e u =
              let a = ap (λ (x : Sums). x.all) u in
              let k : s.kept ≡ tally (pairs_kept (nat (word ws 0))) os = ap (λ (x : Sums). x.kept) u ∙ omega arith in
              let m : s.entries ≡ count_pairs (keep (pairs_kept (nat (word ws 0))) os) = ap (λ (x : Sums). x.entries) u ∙ omega arith in
              let d : cut_refusal L least ws ≡ 0 = H ∙ (rw (e, le-leb (count_pairs os) L.entries (omega arith))) in
              rw (d, e, k, m, as_many ws os e)

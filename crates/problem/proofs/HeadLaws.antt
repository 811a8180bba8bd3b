-- The refusal that the first three words decide, test by test.
use mathlib.Core.Bool.{true, false}
use mathlib.Core.List.{List}
use mathlib.Core.Path.{◌≡◌, refl}
use Prim.Native.Nat.{ℕ, suc, ◌+◌, ◌≤◌, ◌<◌}
use borrow.Author.Tests.{le-leb, lt-leb}
use Rattle.std.specs.Prelude.{Ok, Err}
use lib.IntN.{ℤ, pos}
use lib.ListN.{length}
use lib.Signed.{le_z, non_neg}
use Rattle.rules.specs.Problem.{cut_refusal, verdict}
use Rattle.rules.specs.Words.{word, nat}
use Rattle.rules.specs.declared.Limits.{Limits}
use Rattle.problem.proofs.Tests.{so, natural_if}
use Rattle.problem.specs.Heads.{options_refusal, Heads}

module _ (L : Limits) (least : ℕ) (ws : List ℤ) where
  pub refuses : (k : ℕ) → cut_refusal L least ws ≡ suc k → Err (suc k) ≡ verdict L least ws
  unfolding verdict
  refuses k e = rw e

  pub short : length ws < 3 → Err 4 ≡ verdict L least ws
  unfolding cut_refusal
  short h = refuses 3 (rw (lt-leb 3 (length ws) h))

  module _ (h : 3 ≤ length ws) where
    pub no_primary : le_z (pos 1) (word ws 0) ≡ false → Err 1 ≡ verdict L least ws
    unfolding cut_refusal
    no_primary e = refuses 0 (rw (le-leb 3 (length ws) h, e))

    module _ (p : le_z (pos 1) (word ws 0) ≡ true) where
      pub lacking_options : le_z (pos least) (word ws 2) ≡ false → Err 2 ≡ verdict L least ws
      unfolding cut_refusal
      lacking_options e = refuses 1 (rw (le-leb 3 (length ws) h, p, e))

      module _ (o : le_z (pos least) (word ws 2) ≡ true) where
        pub negative_ns : non_neg (word ws 1) ≡ false → Err 4 ≡ verdict L least ws
        unfolding cut_refusal
        negative_ns e = refuses 3 (rw (le-leb 3 (length ws) h, p, o, e))

        module _ (n : non_neg (word ws 1) ≡ true) where
          pub many_items : L.items < nat (word ws 0) + nat (word ws 1) → Err 3 ≡ verdict L least ws
          unfolding cut_refusal
          many_items l = refuses 2 (rw (le-leb 3 (length ws) h, p, o, n, lt-leb (nat (word ws 0) + nat (word ws 1)) L.items l))

          module _ (i : nat (word ws 0) + nat (word ws 1) ≤ L.items) where
            pub many_options : L.options < nat (word ws 2) → Err 3 ≡ verdict L least ws
            unfolding cut_refusal
            many_options l =
                refuses 2
                (rw (le-leb 3 (length ws) h, p, o, n, le-leb (nat (word ws 0) + nat (word ws 1)) L.items i, lt-leb (nat (word ws 2)) L.options l))

            pub none_refuses : nat (word ws 2) ≤ L.options → Heads L least ws (Ok tt)
            unfolding cut_refusal options_refusal
            none_refuses l = (
              record {
                long = h;
                np = natural_if (le_z (pos 1)) (word ws 0) (λ k. refl) (so p);
                ns = so n;
                options = natural_if (le_z (pos least)) (word ws 2) (λ k. refl) (so o);
              },
              rw (
                le-leb 3 (length ws) h,
                p,
                o,
                n,
                le-leb (nat (word ws 0) + nat (word ws 1)) L.items i,
                le-leb
                    (nat (word ws 2)) L.options l,
              ),
            )

pub ruleset heads_laws = (short, no_primary, lacking_options, negative_ns, many_items, many_options, none_refuses)

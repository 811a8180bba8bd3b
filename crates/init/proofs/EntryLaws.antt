-- The entries of an option, added one after the other.
use mathlib.Core.Path.{◌≡◌, refl, sym, ap, ◌∙◌}
use mathlib.Core.List.Memᴰ.{head as here}
use mathlib.Core.List.Memᴰ.{tail as there}
use mathlib.Core.List.{List, [], ◌∷◌}
use Prim.Native.Nat.{ℕ, suc, ◌+◌, ◌*◌, ◌-◌, ◌≤◌, ◌<◌}
use native.Mathlib.Omega.{arith}
use lib.Dec.{T, ltb, ltb→lt}
use lib.IntN.{ℤ, pos, negsuc}
use lib.ListN.{length, set, drop}
use lib.Signed.{non_neg}
use Rattle.rules.specs.Lists.{has}
use Rattle.rules.specs.Words.{word, nat, below}
use Rattle.rules.specs.Problem.{Entry, Pair, as_entry, pairs_kept}
use Rattle.rules.specs.Order.{kept}
use Rattle.rules.specs.Links.{top, up, down, link}
use Rattle.laws.specs.Faults.{below_lt}
use Rattle.problem.specs.CutLaws.{pair_at, entries_at, entries_turn, pairs_none}
use Rattle.tables.specs.Build.{four, add, add_all}
use Rattle.tables.specs.Undo.{rise}
use Rattle.init.specs.SetUp.{as_entries, option_at, Clean, AllClean, Live}
use Rattle.init.proofs.AlikeLaws.{header, all_none, all_cons}
use Rattle.init.proofs.LiveLaws.{add_live}

-- ---- entries without a fault

pub item_natural : (n : ℕ) (z : ℤ) → T (below n z) → T (non_neg z)
item_natural n (pos k) t = tt
item_natural n (negsuc k) t = absurd t

pub item_small : (n r : ℕ) {z : ℤ} → T (below n z) → z ≡ pos r → r < n
item_small n r t e = ltb→lt r n (rw e at t)

-- the option is kept as its words say
pub kept_as : (np n : ℕ) (o : List Pair) → AllClean n o → kept np (as_entries o) ≡ pairs_kept np o
unfolding kept pairs_kept has
kept_as np n [] h = refl
kept_as np n (e ∷ o) h = rw (kept_as np n o (λ d m. h d (there m)), test_same e.item (h e (here refl)).item)
  where
    test_same : (z : ℤ) → T (below n z) → ltb (nat z) np ≡ below np z
    test_same (pos k) t = refl
    test_same (negsuc k) t = absurd t

-- ---- one entry

-- the stores of node q, whose item's header is i and was linked up to u
module _ (n : ℕ) (t : List ℤ) (q : ℕ) (e : Entry) (i u : ℕ) (ei : i ≡ header e) (eu : u ≡ link t (up n i)) {t4 t5 t6 : List ℤ}
    (m4 : t4 ≡ four t (top n q) (pos i) (pos u) (pos i) (pos e.colour)) (m5 : t5 ≡ set t4 (down n u) (pos q)) (m6 : t6 ≡ set t5 (up n i) (pos q)) where
  pub add_made : {t7 : List ℤ} → t7 ≡ rise t6 (top n i) → t7 ≡ add n t q e
  unfolding add
  add_made m7 = cc

-- ---- all entries

-- k entries at p go to the nodes from q on, and i of them are there
pub record Adding (t₀ : List ℤ) (n q : ℕ) (ws : List ℤ) (p k : ℕ) (t : List ℤ) (i : ℕ) : Type 0 where
  pub clean : AllClean n (entries_at ws (p + 2 * i) (k - i))
  pub live : Live n (q + i) t
  pub same_words : add_all n t₀ q (option_at ws p k) ≡ add_all n t (q + i) (option_at ws (p + 2 * i) (k - i))

module _ {t₀ : List ℤ} {n q : ℕ} {ws : List ℤ} {p k : ℕ} where
  pub adding_start : AllClean n (entries_at ws p k) → Live n q t₀ → Adding t₀ n q ws p k t₀ 0
  adding_start c L =
      let e₁ : p + 2 * 0 ≡ p = omega arith in
      let e₂ : k - 0 ≡ k = omega arith in
      let e₃ : q + 0 ≡ q = omega arith in
      record { clean = rw (e₁, e₂) c; live = rw e₃ L; same_words = rw (e₁, e₂, e₃) refl }

  module _ {t : List ℤ} {i : ℕ} (I : Adding t₀ n q ws p k t i) where
    module _ (z : i < k) (h : p + 2 * k ≤ length ws) where
      abbrev this : Pair
      this = pair_at ws (p + 2 * i)

      abbrev rest : List Pair
      rest = entries_at ws (p + 2 * (i + 1)) (k - (i + 1))

      ahead : entries_at ws (p + 2 * i) (k - i) ≡ this ∷ rest
      ahead = entries_turn ws p k i z h

      pub adding_clean : Clean n this
      adding_clean = I.clean this (rw ahead (here refl))

      pub adding_turn : (t' : List ℤ) → top n (q + i + 1) ≤ length t → t' ≡ add n t (q + i) (as_entry this)
          → Adding t₀ n q ws p k t' (i + 1)
      adding_turn t' s e =
          let u : suc (q + i) ≡ q + (i + 1) = omega arith in
          record {
            clean = λ x m. I.clean x (rw ahead (there m));
            live = rw (e, ← u) (add_live n t (q + i) (as_entry this) I.live (omega arith)
                (below_lt n (word ws (p + 2 * i)) adding_clean.item));
            same_words =
                I.same_words ∙ ap (λ (o : List Pair). add_all n t (q + i) (as_entries o)) ahead
                ∙ all_cons n t (q + i) (as_entry this) (as_entries rest) ∙ rw (e, u) refl;
          }

    pub adding_end : k ≤ i → t ≡ add_all n t₀ q (option_at ws p k)
    adding_end h =
        let z : k - i ≡ 0 = omega arith in
        sym
        (I.same_words ∙ ap (λ (j : ℕ). add_all n t (q + i) (option_at ws (p + 2 * i) j)) z
        ∙ ap (λ (o : List Pair). add_all n t (q + i) (as_entries o)) (pairs_none (drop (p + 2 * i) ws))
        ∙ all_none n t (q + i))

pub ruleset adding_laws = (item_natural, item_small, adding_start, adding_clean, adding_turn, adding_end)

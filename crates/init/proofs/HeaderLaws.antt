-- The headers, with no node in their lists yet.
use mathlib.Core.Path.{◌≡◌, refl, ap, ◌∙◌}
use mathlib.Core.List.{List, []}
use Prim.Native.Nat.{ℕ, zero, suc, ◌+◌, ◌*◌, ◌≤◌, ◌<◌}
use native.Mathlib.Omega.{arith}
use native.Mathlib.Numerals.{add-one}
use lib.IntN.{ℤ, pos}
use lib.ListN.{length}
use Rattle.rules.specs.Lists.{keep}
use Rattle.rules.specs.Words.{word}
use Rattle.rules.specs.Order.{place, placed, choices}
use Rattle.rules.specs.Links.{top, up, down, colour_at, column, last_or, last_node, fresh}
use Rattle.tables.specs.Build.{four}
use Rattle.tables.specs.Fresh.{fresh_unused, fresh_header, fresh_spacer}
use Rattle.init.specs.SetUp.{Alike, bare}
use Rattle.init.proofs.AlikeLaws.{four_put}
use Rattle.init.proofs.ItemLaws.{length_bare}

module _ (np ns : ℕ) where
  abbrev n : ℕ
  n = np + ns

  abbrev table : List ℤ
  table = fresh (bare np ns)

  no_column : (i : ℕ) → column (bare np ns) i ≡ []
  unfolding column choices placed place keep
  no_column i = refl

  -- node 0 and the headers point at themselves
  header_words : (y : ℕ) → y < n + 1 → (word table (top n y) ≡ pos 0) × (word table (up n y) ≡ pos y) × (word table (down n y) ≡ pos y) × (word table (colour_at n y) ≡ pos 0)
  unfolding last_or
  header_words zero h = (unused 0 (omega arith) (omega arith), unused 1 (omega arith) (omega arith), unused 2 (omega arith) (omega arith), unused 3 (omega arith) (omega arith))
    where
      unused : (r : ℕ) {k : ℕ} → r < 4 → k ≡ 2 * (n + 2) + r → word table k ≡ pos 0
      unused r h e = rw e (fresh_unused (bare np ns) r h)
  header_words (suc i) h =
      let c = no_column i in
      let a = fresh_header (bare np ns) i in (
        ap (λ (k : ℕ). word table k) (omega arith) ∙ a 0 (omega arith) (omega arith) ∙ rw c,
        a 1 (omega arith) (omega arith) ∙ rw (c, add-one i),
        a 2 (omega arith) (omega arith) ∙ rw (c, add-one i),
        a 3 (omega arith) (omega arith),
      )

  spacer_words : (word table (top n (n + 1)) ≡ pos 0) × (word table (up n (n + 1)) ≡ pos 0) × (word table (down n (n + 1)) ≡ pos 0) × (word table (colour_at n (n + 1)) ≡ pos 0)
  unfolding placed place last_node
  spacer_words =
      let a = fresh_spacer (bare np ns) in
      (ap (λ (k : ℕ). word table k) (omega arith) ∙ a 0 (omega arith), a 1 (omega arith), a 2 (omega arith), a 3 (omega arith))

  -- the next header, and the first spacer
  pub next_header : (t : List ℤ) (i : ℕ) → Alike (top n i) t table → i < n + 1 → top n (n + 2) ≤ length t → Alike (top n (i + 1)) (four t (top n i) (pos 0) (pos i) (pos i) (pos 0)) table
  next_header t i A h l =
      let w = header_words i h in
      four_put (top n i) (pos 0) (pos i) (pos i) (pos 0) A (omega arith) (omega arith) (omega (arith, length_bare np ns)) w.0 w.1 w.2 w.3

  pub first_spacer : (t : List ℤ) → Alike (top n (n + 1)) t table → top n (n + 2) ≤ length t → Alike (top n (n + 2)) (four t (top n (n + 1)) (pos 0) (pos 0) (pos 0) (pos 0)) table
  first_spacer t A l =
      let w = spacer_words in
      four_put (top n (n + 1)) (pos 0) (pos 0) (pos 0) (pos 0) A (omega arith) (omega arith) (omega (arith, length_bare np ns)) w.0 w.1 w.2 w.3

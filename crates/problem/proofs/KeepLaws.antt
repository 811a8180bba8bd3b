-- The loop that looks for a primary item: what the entries ahead have.
use mathlib.Core.Bool.{false, ◌||◌}
use mathlib.Core.List.{List, [], ◌∷◌}
use mathlib.Core.Path.{◌≡◌, refl, ap, ◌∙◌}
use Prim.Native.Nat.{ℕ, ◌+◌, ◌*◌, ◌-◌, ◌≤◌, ◌<◌}
use native.Mathlib.Omega.{arith}
use lib.IntN.{ℤ}
use lib.ListN.{length, drop}
use Rattle.rules.specs.Lists.{has}
use Rattle.rules.specs.Problem.{Pair, pairs_kept}
use Rattle.rules.specs.Words.{word, below}
use Rattle.problem.specs.CutLaws.{pair_at, entries_at, entries_turn, pairs_none}

kept_none : (np : ℕ) → pairs_kept np [] ≡ false
unfolding pairs_kept has
kept_none np = refl

kept_cons : (np : ℕ) (e : Pair) (es : List Pair) → pairs_kept np (e ∷ es) ≡ (below np e.item || pairs_kept np es)
unfolding pairs_kept has
kept_cons np e es = refl

module _ (ws : List ℤ) (p k np i : ℕ) where
  pub kept_turn : i < k → p + 2 * k ≤ length ws
      → pairs_kept np (entries_at ws (p + 2 * i) (k - i)) ≡ (below np (word ws (p + 2 * i)) || pairs_kept np
      (entries_at ws (p + 2 * (i + 1)) (k - (i + 1))))
  kept_turn z h =
      ap (pairs_kept np) (entries_turn ws p k i z h) ∙ kept_cons np (pair_at ws (p + 2 * i))
      (entries_at ws (p + 2 * (i + 1)) (k - (i + 1)))

  pub kept_end : k ≤ i → pairs_kept np (entries_at ws (p + 2 * i) (k - i)) ≡ false
  kept_end h =
      let e : k - i ≡ 0 = omega arith in
      rw e (ap (pairs_kept np) (pairs_none (drop (p + 2 * i) ws)) ∙ kept_none np)

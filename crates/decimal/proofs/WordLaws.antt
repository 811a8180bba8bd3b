-- A text that says a number begins with no minus sign. Assumes nothing.
use mathlib.Core.Bool.{Bool, true, false}
use mathlib.Core.List.{List, [], ◌∷◌}
use Rattle.std.specs.Prelude.{None, Some}
use mathlib.Core.Path.{◌≡◌, refl}
use Prim.Native.Nat.{ℕ}
use native.Mathlib.Omega.{arith}
use borrow.Author.Tests.{eqb-true}
use lib.Dec.{eqb}
use Rattle.rules.specs.Lists.{each, when}
use Rattle.decimal.specs.Text.{told, leads, unsigned, minus}

minus_bad : (most b : ℕ) (s : List ℕ) → b ≡ 45 → told most 0 (b ∷ s) ≡ None
unfolding told each
minus_bad most b s e = rw e

led_bad : (l : Bool) → when {A = ℕ} l None ≡ None
led_bad true = refl
led_bad false = refl

pub unsigned_plain : (most : ℕ) (s : List ℕ) {n : ℕ} → unsigned most s ≡ Some n → minus s ≡ false
unsigned_plain most [] e = absurd (let z : ◌≡◌ {A = ℕ} 0 1 = cc in omega arith)
unsigned_plain most (b ∷ s) {n} e = by (eqb b 45) refl
  where
    by : (m : Bool) → eqb b 45 ≡ m → eqb b 45 ≡ false
    by false m = m
    by true m =
        let w : when {A = ℕ} (leads (b ∷ s)) None ≡ Some n = rw (minus_bad most b s (eqb-true b 45 m)) at e in
        absurd (let z : ◌≡◌ {A = ℕ} 0 1 = cc (led_bad (leads (b ∷ s))) in omega arith)

-- What a read of a lent word asks and gives, and what the writes leave.
use Rattle.std.specs.Prelude.{List, ◌≡◌, ℕ, suc, ◌+◌, ◌<◌, T, ℤ, pos, negsuc, ◌-ℤ◌, get_or}
use Rattle.std.proofs.Common.{ap, ◌∙◌}
use Rattle.std.proofs.Math.IntN.{neg_ℤ, -ℤ_one}
use Rattle.std.specs.Int.Signed.{non_neg}
use Rattle.rules.specs.Links.{link}
use Rattle.rules.specs.Words.{word, quad}

-- the word at a is not negative
abbrev pub Natural : List ℤ → ℕ → Type 0
Natural t a = T (non_neg (word t a))

-- it is the number r
pub record Link (t : List ℤ) (a r : ℕ) : Type 0 where
  pub is : r ≡ link t a
  pub word_is : word t a ≡ pos r
  pub small : r < 2147483648

-- it is a number above zero
abbrev pub Above : List ℤ → ℕ → Type 0
Above t a = (k : ℕ) × (word t a ≡ pos (suc k))

-- it is a number that can rise
abbrev pub CanRise : List ℤ → ℕ → Type 0
CanRise t a = Natural t a × (link t a < 2147483647)

-- "The spacer after option m (from zero) holds -(m+1) as its top": the word at a is that of option r
pub record Spacer (t : List ℤ) (a r : ℕ) : Type 0 where
  pub word_is : word t a ≡ negsuc r
  pub small : r < 2147483648

-- "an option's number is the spacer's top negated, less one"; its meaning at -1 and at -4,096
module _ {t : List ℤ} {a r : ℕ} (S : Spacer t a r) where
  pub less_one : neg_ℤ (word t a) -ℤ pos 1 ≡ pos r
  less_one = ap (λ (z : ℤ). neg_ℤ z -ℤ pos 1) S.word_is ∙ -ℤ_one (pos (suc r))

  pub at_minus_1 : word t a ≡ neg_ℤ (pos 1) → r ≡ 0
  at_minus_1 e = let w = S.word_is in cc

  pub at_minus_4096 : word t a ≡ neg_ℤ (pos 4096) → r ≡ 4095
  at_minus_4096 e = let w = S.word_is in cc

-- the number of the four bytes from k on
abbrev pub quad_at : List ℕ → ℕ → ℕ
quad_at b k = quad (get_or b k 0) (get_or b (k + 1) 0) (get_or b (k + 2) 0) (get_or b (k + 3) 0)

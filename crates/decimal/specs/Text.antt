-- What a text of bytes says as a decimal number. Only one text says a number: no leading zero, no plus sign, no `-0`.
use Rattle.std.specs.Prelude.{Bool, true, false, not, ◌&&◌, cond, List, [], ◌∷◌, ◌≡◌, ℕ, zero, suc, ◌+◌, ◌-◌, ◌*◌, ◌≤◌, eqb, leb, ℤ, pos, negsuc, length, take, drop, set, Option, None, Some}
use Rattle.rules.specs.Lists.{each, got, when}

-- ---- unsigned

abbrev pub digit : ℕ → Bool
digit b = leb 48 b && leb b 57

-- v with the digit b after it
abbrev pub longer : ℕ → ℕ → ℕ
longer v b = v * 10 + (b - 48)

-- the number of a text's digits, after v
unfoldable pub value : ℕ → List ℕ → ℕ
value v [] = v
value v (b ∷ bs) = value (longer v b) bs

-- digits alone, and a number of at most `most`
unfoldable pub told : ℕ → ℕ → List ℕ → Option ℕ
told most v s = when (each digit s && leb (value v s) most) (Some (value v s))

-- a text is not empty, and begins with 0 only where that is all
abbrev pub leads : List ℕ → Bool
leads [] = false
leads (b ∷ []) = true
leads (b ∷ c ∷ s) = not (eqb b 48)

-- the number, at most `most`, that a text says
abbrev pub unsigned : ℕ → List ℕ → Option ℕ
unsigned most s = when (leads s) (told most 0 s)

-- ---- signed 32-bit words

abbrev pub from_zero : Option ℕ → Option ℤ
from_zero (Some n) = Some (pos n)
from_zero None = None

abbrev pub under_zero : Option ℕ → Option ℤ
under_zero (Some zero) = None
under_zero (Some (suc n)) = Some (negsuc n)
under_zero None = None

-- a text begins with a minus sign, 45
abbrev pub minus : List ℕ → Bool
minus [] = false
minus (b ∷ s) = eqb b 45

-- the word that a text says
abbrev pub signed : List ℕ → Option ℤ
signed s = cond (minus s) (under_zero (unsigned 2147483648 (drop 1 s))) (from_zero (unsigned 2147483647 s))

abbrev pub stored : Option ℤ → List ℤ → ℕ → List ℤ
stored None t a = t
stored (Some z) t a = set t a z

-- the word that was read, if there was one, stands at place a, and the answer is whether there was one
pub record Stored (o : Option ℤ) (before : List ℤ) (a : ℕ) (answer : Bool) (after : List ℤ) : Type 0 where
  pub told_so : answer ≡ got o
  pub list_is : after ≡ stored o before a

-- ---- what is written

-- r bytes of the list `after` are new, and the others are those of `before`
pub record Fronted (before after : List ℕ) (most r : ℕ) : Type 0 where
  pub short : r ≤ most
  pub within : r ≤ length after
  pub rest : drop r after ≡ drop r before

-- the new bytes say n
pub record Wrote (n : ℕ) (before after : List ℕ) (r : ℕ) : Type 0 where
  pub front : Fronted before after 20 r
  pub says : (most : ℕ) → n ≤ most → unsigned most (take r after) ≡ Some n

-- the new bytes say the word z
pub record WroteWord (z : ℤ) (before after : List ℕ) (r : ℕ) : Type 0 where
  pub front : Fronted before after 21 r
  pub says : signed (take r after) ≡ Some z

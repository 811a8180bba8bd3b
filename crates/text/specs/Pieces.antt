-- The pieces of a text: what a byte is not that stands in one, closures that test it, and the lines that are left.
use Rattle.std.specs.Prelude.{Bool, not, List, [], ◌∷◌, ◌≡◌, ◌+◌, ℕ, eqb, length, Option, None, Some}
use Rattle.std.specs.Fn.{Mut, CalledAt}
use denote.Ref.{Bor}
use Rattle.rules.specs.Text.{white, lines}

abbrev pub no_white : ℕ → Bool
no_white b = not (white b)

abbrev pub no_lf : ℕ → Bool
no_lf b = not (eqb b 10)

abbrev pub no_colon : ℕ → Bool
no_colon b = not (eqb b 58)

abbrev pub no_sharp : ℕ → Bool
no_sharp b = not (eqb b 35)

-- each call of the closure f tells what p does of a byte, and leaves f as it was
abbrev pub Tests : {F : Type 0} → Mut F (Bor (Bor ℕ) × Unit {0}) Bool → F → (ℕ → Bool) → Type 0
Tests {F} g f p = (b : Bor ℕ) (r : Bool) (f' : F) → CalledAt g f b r f' → (f' ≡ f) × (r ≡ p b.now)

-- the lines of what is left of a text, nothing after the last of them
abbrev pub lines_left : Option (Bor (List ℕ)) → List (List ℕ)
lines_left None = []
lines_left (Some text) = lines text.now

-- how many bytes they have, with one for the end of each
abbrev pub bytes_left : Option (Bor (List ℕ)) → ℕ
bytes_left None = 0
bytes_left (Some text) = length text.now + 1

-- a line and its number are taken from what is left
abbrev pub Taken : Option (Bor (List ℕ)) → Option (Bor (List ℕ)) → ℕ → ℕ → ℕ × Bor (List ℕ) → Type 0
Taken rest rest' number number' p =
    (p.0 ≡ number) × (number' ≡ number + 1)
    × (lines_left rest ≡ p.1.now ∷ lines_left rest') × (bytes_left rest ≡ length p.1.now + 1 + bytes_left rest')

-- Lent words: signed 32-bit, as whole numbers; and the bytes that the host door passes them in.
use Rattle.std.specs.Prelude.{Bool, true, false, ◌&&◌, List, [], ◌∷◌, ℕ, ◌+◌, ◌-◌, ◌*◌, ◌/◌, ◌%◌, eqb, ltb, ℤ, pos, negsuc, get_or}

-- the word at place k
abbrev pub word : List ℤ → ℕ → ℤ
word ws k = get_or ws k (pos 0)

-- a word as a number, 0 for a negative one
abbrev pub nat : ℤ → ℕ
nat (pos k) = k
nat (negsuc k) = 0

-- z is a number below n
abbrev pub below : ℕ → ℤ → Bool
below n (pos k) = ltb k n
below n (negsuc k) = false

abbrev pub same : ℤ → ℤ → Bool
same (pos a) (pos b) = eqb a b
same (pos a) (negsuc b) = false
same (negsuc a) (pos b) = false
same (negsuc a) (negsuc b) = eqb a b

unfoldable pub same_words : List ℤ → List ℤ → Bool
same_words [] [] = true
same_words [] (y ∷ ys) = false
same_words (x ∷ xs) [] = false
same_words (x ∷ xs) (y ∷ ys) = same x y && same_words xs ys

-- ---- little-endian bytes

-- the number of four bytes, the lowest first
abbrev pub quad : ℕ → ℕ → ℕ → ℕ → ℕ
quad a b c d = a + 256 * b + 65536 * c + 16777216 * d

abbrev pub signed_as : Bool → ℕ → ℤ
signed_as true v = pos v
signed_as false v = negsuc (4294967295 - v)

-- the signed word that 32 bits stand for
abbrev pub signed : ℕ → ℤ
signed v = signed_as (ltb v 2147483648) v

-- the words of bytes, four a word
unfoldable pub bytes_words : List ℕ → List ℤ
bytes_words [] = []
bytes_words (a ∷ []) = []
bytes_words (a ∷ b ∷ []) = []
bytes_words (a ∷ b ∷ c ∷ []) = []
bytes_words (a ∷ b ∷ c ∷ d ∷ rest) = signed (quad a b c d) ∷ bytes_words rest

-- the four bytes of a number below 2^32
abbrev pub word_bytes : ℕ → List ℕ
word_bytes v = v % 256 ∷ v / 256 % 256 ∷ v / 65536 % 256 ∷ v / 16777216 % 256 ∷ []

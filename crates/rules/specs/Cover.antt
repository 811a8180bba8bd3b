-- What the program `cover` prints of the text that it reads.
use Rattle.std.specs.Prelude.{true, cond, List, [], ◌∷◌, ◌++◌, ℕ, zero, suc, ◌+◌, ◌/◌, ◌%◌, ltb, leb, ℤ, length, Option, None, Some}
use Rattle.rules.specs.Lists.{flat}
use Rattle.rules.specs.Problem.{Problem, door_limits, cut, meant, problem_refusal}
use Rattle.rules.specs.Order.{pick}
use Rattle.rules.specs.Walk.{listed}
use Rattle.rules.specs.Text.{lines, stated, first_bad, words_of}

-- ---- lines

-- the decimal digits of a number that has at most k
unfoldable pub decimal_within : ℕ → ℕ → List ℕ
decimal_within zero n = []
decimal_within (suc k) n = cond (ltb n 10) ((48 + n) ∷ []) (decimal_within k (n / 10) ++ ((48 + n % 10) ∷ []))

abbrev pub decimal : ℕ → List ℕ
decimal n = decimal_within 20 n

-- "option numbers with single spaces between, LF after each"
unfoldable pub line : List ℕ → List ℕ
line [] = 10 ∷ []
line (n ∷ []) = decimal n ++ (10 ∷ [])
line (n ∷ m ∷ ns) = decimal n ++ (32 ∷ line (m ∷ ns))

-- "a refusal prints `refused`, its number and, for 13, the line, spaced and ended alike"
unfoldable pub refusal_line : List ℕ → List ℕ
refusal_line ns = 114 ∷ 101 ∷ 102 ∷ 117 ∷ 115 ∷ 101 ∷ 100 ∷ 32 ∷ line ns

-- ---- the text

-- What the program makes of a text: a problem that the door's limits allow, or a refusal's number with a line.
pub data Opened : Type 0 where
  refused : List ℕ → Opened
  accepted : List ℤ → Opened

-- "for problems within the host door's limits .. tested after 13"
abbrev pub open_as : ℕ → List ℤ → Opened
open_as zero ws = accepted ws
open_as (suc k) ws = refused (suc k ∷ [])

abbrev pub open_words : Option (List ℤ) → Opened
open_words None = refused (13 ∷ 0 ∷ [])
open_words (Some ws) = open_as (problem_refusal door_limits 1 (λ s. true) ws) ws

abbrev pub open_lines : ℕ → Option (List ℤ) → Opened
open_lines (suc k) new = refused (13 ∷ suc k ∷ [])
open_lines zero new = open_words new

-- "reads at most 65,536 bytes .. Longer input is 3"; "front in the program"
unfoldable pub opened : List ℕ → Opened
opened text =
    cond (leb (length text) 65536)
    (open_lines (first_bad true 1 None (lines text)) (words_of true (stated (lines text))))
    (refused (3 ∷ []))

-- "prints every solution"
abbrev pub shown : Problem → List ℕ
shown P = flat line (listed P (pick P))

abbrev pub printed_of : Opened → List ℕ
printed_of (refused ns) = refusal_line ns
printed_of (accepted ws) = shown (meant (cut ws))

-- all that the program prints
unfoldable pub printed : List ℕ → List ℕ
printed text = printed_of (opened text)

-- What the first three words decide.
use Rattle.std.specs.Prelude.{List, ◌≡◌, ℕ, ◌≤◌, leb, ℤ, length, Result, Ok, Err, ⊤}
use Rattle.rules.specs.Lists.{got, or_none}
use Rattle.rules.specs.Problem.{need, parts, count_pairs, cut_refusal, verdict}
use Rattle.rules.specs.declared.Limits.{Limits}
use Rattle.words.specs.Read.{Natural}

-- the rows of the table after those of the first three words
unfoldable pub options_refusal : Limits → List ℤ → ℕ
options_refusal L ws =
    need (got (parts ws)) 4
    (need (leb (count_pairs (or_none (parts ws))) L.entries) 3
    0)

-- three words that can be read as np, ns and the number of options
pub record Headed (ws : List ℤ) : Type 0 where
  pub long : 3 ≤ length ws
  pub np : Natural ws 0
  pub ns : Natural ws 1
  pub options : Natural ws 2

-- what the rows of the first three words refuse is the verdict; where they refuse nothing, the rows after them decide
abbrev pub Heads : Limits → ℕ → List ℤ → Result ⊤ ℕ → Type 0
Heads L least ws (Ok _) = Headed ws × (cut_refusal L least ws ≡ options_refusal L ws)
Heads L least ws (Err k) = Err k ≡ verdict L least ws

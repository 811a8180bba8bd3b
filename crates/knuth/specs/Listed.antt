-- Solutions told as option numbers.
use Rattle.std.specs.Prelude.{◌↔◌, ℕ}
use mathlib.Core.List.{List, Memᴰ as Mem}

-- one set of numbers, in whatever order
abbrev pub SameSet : List ℕ → List ℕ → Type 0
SameSet xs ys = (x : ℕ) → Mem x xs ↔ Mem x ys

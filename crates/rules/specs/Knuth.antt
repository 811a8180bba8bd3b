-- What a solution is: Knuth's definition, over the problem alone, by membership.
use Rattle.std.specs.Prelude.{◌≡◌, ◌≢◌, ℕ, ◌≤◌, ◌<◌, length, get_or}
use mathlib.Core.List.{List, [], Memᴰ as Mem}
use Rattle.rules.specs.Problem.{Entry, Problem}

-- option x of the problem, from 0
abbrev pub option : Problem → ℕ → List Entry
option P x = get_or P.options x []

-- item i occurs in the option
abbrev pub Has : List Entry → ℕ → Type 0
Has o i = (e : Entry) × Mem e o × (e.item ≡ i)

-- what is asked of two entries of one item, of two options that agree: the item is secondary, "both have the same colour and it is not 0"
pub record Shared (np : ℕ) (e d : Entry) : Type 0 where
  pub secondary : np ≤ e.item
  pub one_colour : e.colour ≡ d.colour
  pub coloured : e.colour ≢ 0

-- "Two options agree if they share no primary item, and on each shared secondary item both have the same colour and it is not 0."
abbrev pub Agree : ℕ → List Entry → List Entry → Type 0
Agree np o p = (e d : Entry) → Mem e o → Mem d p → e.item ≡ d.item → Shared np e d

-- "A solution is a set of options, each with a primary item, agreeing pairwise, in which every primary item occurs." The set is given by a
-- list of option numbers.
pub record Solution (P : Problem) (xs : List ℕ) : Type 0 where
  pub listed : (x : ℕ) → Mem x xs → x < length P.options
  pub primary : (x : ℕ) → Mem x xs → (i : ℕ) × (i < P.np) × Has (option P x) i
  pub agreeing : (x y : ℕ) → Mem x xs → Mem y xs → x ≢ y → Agree P.np (option P x) (option P y)
  pub covering : (i : ℕ) → i < P.np → (x : ℕ) × Mem x xs × Has (option P x) i

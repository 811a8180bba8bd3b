-- What the functions of set-up ask and promise: tables that begin with the fresh table of some of the options.
use Rattle.std.specs.Prelude.{Bool, ◌≡◌, ℕ, ◌+◌, ◌*◌, ◌≤◌, ◌<◌, T, ℤ, pos, length, set, take}
use mathlib.Core.List.{List, [], ◌∷◌, ◌++◌, map, Memᴰ as Mem}
use Rattle.std.specs.Int.Signed.{non_neg}
use Rattle.rules.specs.declared.Sizes.{Sizes}
use Rattle.rules.specs.Words.{word, below}
use Rattle.rules.specs.Problem.{Entry, Problem, items, Pair, as_entry, pairs_kept, cut, fault}
use Rattle.rules.specs.Order.{placed}
use Rattle.rules.specs.Links.{top, up, down, colour_at, fresh}
use Rattle.laws.specs.Faults.{Good}
use Rattle.problem.specs.CutLaws.{entries_at, options_at}
use Rattle.problem.specs.Measured.{Measured}
use Rattle.tables.specs.Build.{close}
use Rattle.tables.specs.Nodes.{span, nodes}

-- both tables have b words, and the first b are the same
pub record Alike (b : ℕ) (t u : List ℤ) : Type 0 where
  pub long : b ≤ length t
  pub long' : b ≤ length u
  pub same : (k : ℕ) → k < b → word t k ≡ word u k

-- ---- problems with fewer options

-- a problem without options
abbrev pub bare : ℕ → ℕ → Problem
bare np ns = record { np = np; ns = ns; options = [] }

-- the problem with one option more
abbrev pub longer : Problem → List Entry → Problem
longer P x = record { np = P.np; ns = P.ns; options = P.options ++ x ∷ [] }

unfoldable pub last_spacer : Problem → ℕ
last_spacer P = items P + 1 + span (placed P)

abbrev pub as_entries : List Pair → List Entry
as_entries o = map as_entry o

-- what the k entries at p mean
abbrev pub option_at : List ℤ → ℕ → ℕ → List Entry
option_at ws p k = as_entries (entries_at ws p k)

-- the problem of the first j options of the words, whose sizes are s
abbrev pub first : List ℤ → Sizes → ℕ → Problem
first ws s j = record { np = s.np; ns = s.ns; options = map as_entries (take j (options_at ws 3 s.options)) }

-- ---- one option

-- an entry whose words are an item's number, of n items, and a colour
pub record Clean (n : ℕ) (e : Pair) : Type 0 where
  pub item : T (below n e.item)
  pub colour : T (non_neg e.colour)

abbrev pub AllClean : ℕ → List Pair → Type 0
AllClean n o = (e : Pair) → Mem e o → Clean n e

-- a word that is a number below q
pub record Small (z : ℤ) (q : ℕ) : Type 0 where
  pub number : ℕ
  pub is : z ≡ pos number
  pub less : number < q

-- the links up and the lengths of the headers, 1 to n, while the nodes below q are linked
pub record Live (n q : ℕ) (t : List ℤ) : Type 0 where
  pub beyond : n < q
  pub last : (h : ℕ) → 0 < h → h ≤ n → Small (word t (up n h)) q
  pub count : (h : ℕ) → 0 < h → h ≤ n → Small (word t (top n h)) q

-- The spacers around option m, whose k entries follow spacer p. `close` leaves two words of the new one to those who blanked it.
unfoldable pub end_option : ℕ → List ℤ → ℕ → ℕ → ℕ → List ℤ
end_option n t m p k = set (set (close n t m p k) (down n (p + k + 1)) (pos 0)) (colour_at n (p + k + 1)) (pos 0)

-- The table begins with P's fresh table. P has n items, np of them primary, and `number` options; its last spacer is `last`.
pub record Holds (P : Problem) (n np number last : ℕ) (t : List ℤ) : Type 0 where
  pub items_are : n ≡ items P
  pub primary : np ≡ P.np
  pub numbered : number ≡ length P.options
  pub spacer : last ≡ last_spacer P
  pub begins : Alike (top (items P) (nodes P)) t (fresh P)

-- the k entries at p can be appended; `keep` tells whether they are a kept option
pub record Appends (P : Problem) (n np number last : ℕ) (t ws : List ℤ) (p k : ℕ) (keep : Bool) : Type 0 where
  pub holds : Holds P n np number last t
  pub there : p + 2 * k ≤ length ws
  pub kept : keep ≡ pairs_kept np (entries_at ws p k)
  pub clean : AllClean n (entries_at ws p k)
  pub good : Good (longer P (option_at ws p k))
  pub room : top n (nodes (longer P (option_at ws p k))) ≤ length t
  pub small : nodes (longer P (option_at ws p k)) ≤ 2147483648
  pub few : number < 2147483648

abbrev pub CanAppend : ℕ → ℕ → ℕ → List ℤ → List ℤ → ℕ → ℕ → Bool → Type 0
CanAppend n number last t ws p k keep = (P : Problem) × (np : ℕ) × Appends P n np number last t ws p k keep

-- ---- the first options

-- m options of words without a fault, whose sizes are s, can be entered
pub record Enters (ws : List ℤ) (s : Sizes) (m : ℕ) : Type 0 where
  pub measured : Measured ws s
  pub sound : fault (cut ws) ≡ 0
  pub most : m ≤ s.options
  pub few : s.options < 2147483648
  pub small : nodes (first ws s m) ≤ 2147483648

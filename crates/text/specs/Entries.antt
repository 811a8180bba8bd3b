-- The tokens of an option.
use Rattle.std.specs.Prelude.{Bool, not, ◌||◌, List, map, ◌≡◌, ◌<◌, ℕ, ℤ, Option, None, Some}
use denote.Ref.{Bor}
use Rattle.rules.specs.Lists.{has, flat, got}
use Rattle.rules.specs.Problem as Problem
use Rattle.rules.specs.Text.{Items, name_of, same_name, written, as_entered, entered, entry_words}
use Rattle.text.specs.declared.options.Entry.{Entry}

-- an entry of the definitions, as the code has it
abbrev pub told : Option Problem.Entry → Option Entry
told None = None
told (Some e) = Some (record { item = e.item; colour = e.colour })

-- a token's name, and its colour, which is a byte
abbrev pub CutAs : List ℕ → Bor (List ℕ) × ℕ → Type 0
CutAs t p = (written t ≡ Some (record { name = p.0.now; colour = p.1 })) × (p.1 < 256)

-- the entry of a name and a colour
abbrev pub named_as : Items → List ℕ → ℕ → Option Problem.Entry
named_as I name c = as_entered I (Some (record { name = name; colour = c }))

-- the fault of one token of an option, before the others
abbrev pub token_bad : Items → List ℕ → List (List ℕ) → Bool
token_bad I t ts = not (got (entered I t)) || has (same_name (name_of t)) (map name_of ts)

unfoldable pub entries_words : Items → List (List ℕ) → List ℤ
entries_words I ts = flat (λ t. entry_words (entered I t)) ts

-- The names that are known of an items line, and its faults.
use Rattle.std.specs.Prelude.{Bool, not, ◌||◌, cond, List, ℕ, eqb, take, position, Option}
use lib.Pointwise.{pointwise}
use Rattle.rules.specs.Lists.{each, has}
use Rattle.rules.specs.Text.{Items, moved_names, name_byte, same_name, is_bar, no_names, tokens}
use Rattle.text.specs.declared.names.Names.{Names}

abbrev pub primary_names : Names → List (List ℕ)
primary_names n = take n.primaries (tokens n.items.now)

abbrev pub known : Names → Items
known n = record { primary = moved_names n.front (primary_names n); secondary = tokens n.secondary.now }

-- where a name stands among others
abbrev pub place_in : List ℕ → List (List ℕ) → Option ℕ
place_in name ns = position (pointwise eqb name) ns

-- the fault of one token of the items line, before the others
abbrev pub item_bad : Bool → List ℕ → List (List ℕ) → Bool
item_bad second t ts = cond (is_bar t) (second || no_names ts) (not (each name_byte t) || has (same_name t) ts)

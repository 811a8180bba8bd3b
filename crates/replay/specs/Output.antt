-- What waits to be printed.
use Rattle.std.specs.Prelude.{List, ℕ, ◌≡◌, ◌++◌}

-- it ends with a text
abbrev pub Ends : List ℕ → List ℕ → Type 0
Ends text waiting = (front : List ℕ) × (waiting ≡ front ++ text)

-- The lines of a text, and the reader.
use Rattle.std.specs.Prelude.{Bool, List, [], ◌∷◌, ◌≡◌, ℕ, ◌+◌, ◌≤◌, ℤ, length, Option, None, Some, Result, Ok, Err}
use denote.Ref.{Bor}
use Rattle.rules.specs.Lists.{flat, over}
use Rattle.rules.specs.Text.{Items, items_of, tokens, stated, first_bad, option_words, text_words, read_lines, ReadOutcome}
use Rattle.text.specs.declared.pieces.Lines.{Lines}
use Rattle.text.specs.declared.names.Names.{Names}
use Rattle.text.specs.Pieces.{lines_left}
use Rattle.text.specs.Names.{known}

-- ---- lines

-- the number of the first faulty one of the lines that are left, 0 if none is
abbrev pub bad_left : Bool → Option Items → Lines → ℕ
bad_left front known l = first_bad front l.number known (lines_left l.rest)

abbrev pub stated_left : Lines → List (List (List ℕ))
stated_left l = stated (lines_left l.rest)

unfoldable pub options_words : Items → List (List ℕ) → List ℤ
options_words I ls = flat (option_words I) (stated ls)

-- the items line is found among the lines s, and the lines t are left; no line up to it is faulty
pub record ItemsFound (s t : Lines) (items : List ℕ) : Type 0 where
  pub short : length items ≤ 65536
  pub same_bad : (front : Bool) → bad_left front None s ≡ bad_left front (Some (items_of front (tokens items))) t
  pub same_stated : stated_left s ≡ tokens items ∷ stated_left t

abbrev pub Finds : Lines → Lines → Result (Option (Bor (List ℕ))) ℕ → Type 0
Finds s t (Ok (Some items)) = ItemsFound s t items.now
Finds s t (Ok None) = ((front : Bool) → bad_left front None s ≡ 0) × (stated_left s ≡ [])
Finds s t (Err k) = (1 ≤ k) × ((front : Bool) → bad_left front None s ≡ k)

-- no line is faulty, and so many options have so many words
pub record OptionsCounted (I : Items) (l : Lines) (options words : ℕ) : Type 0 where
  pub faultless : (front : Bool) → bad_left front (Some I) l ≡ 0
  pub options_are : length (stated_left l) ≡ options
  pub words_are : length (options_words I (lines_left l.rest)) ≡ words
  pub few : options ≤ 65537
  pub small : words ≤ 196611

abbrev pub Checks : Items → Lines → Result (ℕ × ℕ) ℕ → Type 0
Checks I l (Ok n) = OptionsCounted I l n.0 n.1
Checks I l (Err k) = (1 ≤ k) × ((front : Bool) → bad_left front (Some I) l ≡ k)

-- ---- the reader

-- the words of options, none where there is none
abbrev pub words_under : Items → List (List (List ℕ)) → Option (List ℤ)
words_under I [] = None
words_under I (o ∷ os) = Some (text_words I (o ∷ os))

abbrev pub under : Names → Lines → List ℤ → ReadOutcome
under n l ws = read_lines (bad_left n.front (Some (known n)) l) (words_under (known n) (stated_left l)) ws

-- the list has room for the words of so many options
pub record Room (I : Items) (l : Lines) (options : ℕ) (ws : List ℤ) : Type 0 where
  pub options_are : length (stated_left l) ≡ options
  pub few : options ≤ 65537
  pub enough : 3 + length (options_words I (lines_left l.rest)) ≤ length ws

abbrev pub heads : Items → Lines → List ℤ → List ℤ
heads I l ws = over (text_words I (stated_left l)) ws

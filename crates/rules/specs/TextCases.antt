-- Texts and what the reader makes of them, as one list of data, and the theorem that the definitions give what it says.
use Rattle.std.specs.Prelude.{◌≡◌, refl, Bool, true, false, ◌&&◌, List, [], ◌∷◌, ◌++◌, map, ℕ, ◌+◌, ℤ, pos, length, replicate}
use Prim.Native.Char.{code}
use Prim.Native.String.{String, [] as ended, ◌∷◌ as ◌then◌}
use Rattle.rules.specs.Lists as Lists
use Rattle.rules.specs.Words as Words
use Rattle.rules.specs.Words.{same_words}
use Rattle.rules.specs.Problem as Problem
use Rattle.rules.specs.Order as Order
use Rattle.rules.specs.Walk as Walk
use Rattle.rules.specs.Text as Text
use Rattle.rules.specs.Text.{same_name, ReadOutcome, read_said, read_call}
use Rattle.rules.specs.Cover as Cover
use Rattle.rules.specs.Cover.{printed}

pub data Case : Type 0 where
  -- with this flag the text is read as these words
  reads : Bool → String → List ℕ → Case
  -- the text is refused as 13 with this line
  faulty : String → ℕ → Case
  -- lent a list of so many words, the text is refused as 9
  short : String → ℕ → Case
  -- the program reads the first text and prints the second
  prints : String → String → Case

bytes : String → List ℕ
bytes ended = []
bytes (c then s) = code c ∷ bytes s

pub t_cases : List Case
t_cases =
    -- P1
    reads true "a b c d e f g\nc e\na d g\nb c f\na d f\nb g\nd e g\n"
    (7 ∷ 0 ∷ 6 ∷ 2 ∷ 2 ∷ 0 ∷ 4 ∷ 0 ∷ 3 ∷ 0 ∷ 0 ∷ 3 ∷ 0 ∷ 6 ∷ 0 ∷ 3 ∷ 1 ∷ 0 ∷ 2 ∷ 0 ∷ 5 ∷ 0 ∷ 3 ∷ 0 ∷ 0 ∷ 3 ∷ 0 ∷ 5 ∷ 0 ∷ 2 ∷ 1 ∷ 0 ∷ 6 ∷ 0 ∷ 3 ∷ 3 ∷ 0 ∷ 4 ∷ 0 ∷ 6 ∷ 0 ∷ [])
    -- names with `#` at the front, and at the back; the last line need not end in LF
    ∷ reads true "a b# c #d | s# t\na t:x\nb# #d c s#:y"
    (4 ∷ 2 ∷ 2 ∷ 2 ∷ 2 ∷ 0 ∷ 5 ∷ 120 ∷ 4 ∷ 0 ∷ 0 ∷ 1 ∷ 0 ∷ 3 ∷ 0 ∷ 4 ∷ 121 ∷ [])
    ∷ reads false "a b# c #d | s# t\na t:x\nb# #d c s#:y"
    (4 ∷ 2 ∷ 2 ∷ 2 ∷ 0 ∷ 0 ∷ 5 ∷ 120 ∷ 4 ∷ 2 ∷ 0 ∷ 3 ∷ 0 ∷ 1 ∷ 0 ∷ 4 ∷ 121 ∷ [])
    -- CRLF, tabs, blank lines and lines that start with `|`
    ∷ reads true "\r\n | no | one:\r\n\ta  b\r\n\r\n|\r\n b\t\r\n"
    (2 ∷ 0 ∷ 1 ∷ 1 ∷ 1 ∷ 0 ∷ [])
    -- an option with no colour is uncoloured; any other byte is a colour
    ∷ reads true "a | s\na s:|\na s:#\ns\n"
    (1 ∷ 1 ∷ 3 ∷ 2 ∷ 0 ∷ 0 ∷ 1 ∷ 124 ∷ 2 ∷ 0 ∷ 0 ∷ 1 ∷ 35 ∷ 1 ∷ 1 ∷ 0 ∷ [])
    -- a refused byte, in a line that is passed over too
    ∷ faulty "a\na\n\u{7f}" 3
    ∷ faulty "a\n| \u{1}\nb" 2
    -- items: a second `|`, none after it, a name that is none, one that stands twice
    ∷ faulty "a | b | c\na" 1
    ∷ faulty "\na |\na" 2
    ∷ faulty "a b-c\na" 1
    ∷ faulty "a |b\na" 1
    ∷ faulty "a b | a\na" 1
    -- options: a second colon, a colour that is no byte or two, a name that is no item's
    ∷ faulty "a | s\na s:a:b" 2
    ∷ faulty "a | s\na s::" 2
    ∷ faulty "a | s\na s:" 2
    ∷ faulty "a | s\na s:xy" 2
    ∷ faulty "a | s\na\nb" 3
    ∷ faulty "a | s\na |" 2
    ∷ faulty "a | s\na :x" 2
    -- an item that stands again, whatever the colours
    ∷ faulty "a | s\na s:a s:b" 2
    ∷ faulty "a | s\n\na s a" 3
    ∷ faulty "a | s\ns s:a" 2
    -- a colour on a primary item
    ∷ faulty "a | s\na:x" 2
    -- the first faulty line is given
    ∷ faulty "a | s\nb\na |\n" 2
    -- items or options are missing
    ∷ faulty "" 0
    ∷ faulty "\n|\n" 0
    ∷ faulty "a b\n|\n" 0
    -- but a faulty line is given first
    ∷ faulty "a a" 1
    -- the list that is lent is too short
    ∷ short "a\na" 5
    -- the program: P1, two solutions in order, none, and refusals
    ∷ prints "a b c d e f g\nc e\na d g\nb c f\na d f\nb g\nd e g\n" "3 4 0\n"
    ∷ prints "a b# | s\na s:x\nb#\na s:y\n" "1 0\n1 2\n"
    ∷ prints "a b\na" ""
    ∷ prints "a\nb" "refused 13 2\n"
    ∷ prints "a" "refused 13 0\n"
    ∷ prints "" "refused 13 0\n"
    ∷ []

-- the answer has this number and these values, and the list holds these words
abbrev came_to : ReadOutcome → List ℕ → List ℤ → Bool
came_to o said ws = same_words (map pos (read_said o.answer)) (map pos said) && same_words o.words ws

abbrev sevens : ℕ → List ℤ
sevens n = replicate n (pos 7)

-- The lent list holds sevens. It has room for the words and one more, and a fault is found before a list of one word
-- is too short.
unfoldable pub holds : Case → Bool
unfolding bytes
holds (reads front text ns) =
    came_to (read_call (bytes text) front (sevens (length ns + 1))) (0 ∷ length ns ∷ []) (map pos ns ++ pos 7 ∷ [])
holds (faulty text k) = came_to (read_call (bytes text) true (sevens 1)) (13 ∷ k ∷ []) (sevens 1)
holds (prints text out) = same_name (printed (bytes text)) (bytes out)
holds (short text n) = came_to (read_call (bytes text) true (sevens n)) (9 ∷ []) (sevens n)

pub t_cases_hold : Lists.each holds t_cases ≡ true
unfolding t_cases holds bytes Lists.keep Lists.each Lists.has Lists.flat Words.same_words Text.allowed Text.white Text.name_byte Text.split Text.tokens Text.same_name Text.before_bar Text.after_bar Text.items_bad Text.written Text.name_of Text.place Text.entered Text.option_bad Text.first_bad Text.option_words Text.text_words Text.read_call Lists.tally Lists.run Problem.entry_count Problem.pairs Problem.cut_options Problem.parts Problem.cut Problem.count_pairs Problem.cut_refusal Problem.entry_fault Problem.option_fault Problem.options_fault Problem.fault Problem.pairs_kept Problem.sizes Problem.problem_refusal Problem.meant Order.has_item Order.agree Order.kept Order.place Order.placed Order.open_options Order.open_items Order.place_of Order.choices Order.least_from Order.pick Walk.solutions Walk.in_turn Cover.decimal_within Cover.line Cover.refusal_line Cover.opened Cover.printed
t_cases_hold = refl

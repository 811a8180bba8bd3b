-- The text form of document 02's request 1: from bytes to problem words.
use Rattle.std.specs.Prelude.{Bool, true, false, not, ◌&&◌, ◌||◌, cond, List, [], ◌∷◌, ◌++◌, map, ℕ, zero, suc, ◌+◌, eqb, leb, ℤ, pos, length, Option, None, Some, Result, Ok, Err}
use Rattle.rules.specs.declared.Unread.{Unread}
use Rattle.rules.specs.declared.Unread.TheVariants.{Faulty, Refused}
use Rattle.rules.specs.Lists.{keep, each, has, over, when, got, flat}
use Rattle.rules.specs.Problem.{Entry}

-- ---- bytes

-- "Bytes over 126 and control bytes other than tab, LF and CR are refused."
unfoldable pub allowed : ℕ → Bool
allowed b = (leb 32 b && leb b 126) || eqb b 9 || eqb b 10 || eqb b 13

-- white space in a line: space, tab, CR
unfoldable pub white : ℕ → Bool
white b = eqb b 32 || eqb b 9 || eqb b 13

-- a letter, a digit or `#`
unfoldable pub name_byte : ℕ → Bool
name_byte b = (leb 48 b && leb b 57) || (leb 65 b && leb b 90) || (leb 97 b && leb b 122) || eqb b 35

-- ---- parts

module _ {A : Type 0} where
  abbrev pub parted : Bool → A → List (List A) → List (List A)
  parted true x ps = [] ∷ ps
  parted false x [] = (x ∷ []) ∷ []
  parted false x (p ∷ ps) = (x ∷ p) ∷ ps

  -- what stands between the elements that pass the test: one part more than there are such elements
  unfoldable pub split : (A → Bool) → List A → List (List A)
  split p [] = [] ∷ []
  split p (x ∷ xs) = parted (p x) x (split p xs)

abbrev pub filled : List ℕ → Bool
filled [] = false
filled (b ∷ s) = true

-- The lines, cut at LF. An LF at the very end leaves an empty part behind it, which is passed over as a blank line is.
abbrev pub lines : List ℕ → List (List ℕ)
lines text = split (λ b. eqb b 10) text

-- what stands between white space
unfoldable pub tokens : List ℕ → List (List ℕ)
tokens line = keep filled (split white line)

-- a token begins with `|`
abbrev pub barred : List ℕ → Bool
barred [] = false
barred (b ∷ s) = eqb b 124

-- "blank lines and lines starting with `|` are passed over"
abbrev pub passed : List (List ℕ) → Bool
passed [] = true
passed (t ∷ ts) = barred t

-- the lines that say something, as tokens
abbrev pub stated : List (List ℕ) → List (List (List ℕ))
stated ls = keep (λ ts. not (passed ts)) (map tokens ls)

unfoldable pub same_name : List ℕ → List ℕ → Bool
same_name [] [] = true
same_name [] (y ∷ ys) = false
same_name (x ∷ xs) [] = false
same_name (x ∷ xs) (y ∷ ys) = eqb x y && same_name xs ys

-- ---- the items

-- the token `|`
abbrev pub is_bar : List ℕ → Bool
is_bar t = same_name t (124 ∷ [])

-- "primary names, a `|`, secondary names"
unfoldable pub before_bar : List (List ℕ) → List (List ℕ)
before_bar [] = []
before_bar (t ∷ ts) = cond (is_bar t) [] (t ∷ before_bar ts)

unfoldable pub after_bar : List (List ℕ) → List (List ℕ)
after_bar [] = []
after_bar (t ∷ ts) = cond (is_bar t) ts (after_bar ts)

abbrev pub no_names : List (List ℕ) → Bool
no_names [] = true
no_names (t ∷ ts) = false

-- A second `|`, a `|` with no name after it, a name with any other byte, or a name that stands again. The flag says
-- that a `|` is passed.
unfoldable pub items_bad : Bool → List (List ℕ) → Bool
items_bad second [] = false
items_bad second (t ∷ ts) =
    cond (is_bar t)
    (second || no_names ts || items_bad true ts)
    (not (each name_byte t) || has (same_name t) ts || items_bad second ts)

-- the names in the order of their numbers
pub record Items : Type 0 where
  pub primary : List (List ℕ)
  pub secondary : List (List ℕ)

abbrev pub sharp : List ℕ → Bool
sharp t = has (λ b. eqb b 35) t

-- "primary names with `#` move to the front or back by the flag .. order otherwise kept"
abbrev pub moved_names : Bool → List (List ℕ) → List (List ℕ)
moved_names true ts = keep sharp ts ++ keep (λ t. not (sharp t)) ts
moved_names false ts = keep (λ t. not (sharp t)) ts ++ keep sharp ts

abbrev pub items_of : Bool → List (List ℕ) → Items
items_of front ts = record { primary = moved_names front (before_bar ts); secondary = after_bar ts }

-- ---- the options

-- a token of an option
pub record Written : Type 0 where
  pub name : List ℕ
  pub colour : ℕ

-- "`name` or `name:c`", by the parts between its colons
abbrev pub as_written : List (List ℕ) → Option Written
as_written [] = None
as_written (n ∷ []) = Some (record { name = n; colour = 0 })
as_written (n ∷ [] ∷ ps) = None
as_written (n ∷ (c ∷ []) ∷ []) = Some (record { name = n; colour = c })
as_written (n ∷ (c ∷ []) ∷ p ∷ ps) = None
as_written (n ∷ (c ∷ d ∷ s) ∷ ps) = None

unfoldable pub written : List ℕ → Option Written
written t = as_written (split (λ b. eqb b 58) t)

abbrev pub first_part : List (List ℕ) → List ℕ
first_part [] = []
first_part (p ∷ ps) = p

-- what stands before the first colon
unfoldable pub name_of : List ℕ → List ℕ
name_of t = first_part (split (λ b. eqb b 58) t)

-- where a name stands among others, counted from k
unfoldable pub place : ℕ → List ℕ → List (List ℕ) → Option ℕ
place k t [] = None
place k t (n ∷ ns) = cond (same_name t n) (Some k) (place (k + 1) t ns)

abbrev pub entry : ℕ → ℕ → Entry
entry i c = record { item = i; colour = c }

-- a primary item has no colour
abbrev pub in_primary : ℕ → Option ℕ → Option Entry → Option Entry
in_primary c (Some i) later = when (eqb c 0) (Some (entry i c))
in_primary c None later = later

abbrev pub in_secondary : ℕ → Option ℕ → Option Entry
in_secondary c (Some i) = Some (entry i c)
in_secondary c None = None

-- the entry that a token stands for, if it has no fault of its own
abbrev pub as_entered : Items → Option Written → Option Entry
as_entered I None = None
as_entered I (Some w) =
    in_primary w.colour (place 0 w.name I.primary)
    (in_secondary w.colour (place (length I.primary) w.name I.secondary))

unfoldable pub entered : Items → List ℕ → Option Entry
entered I t = as_entered I (written t)

-- a token that stands for no entry, or an item that stands again: "The crate compares whole tokens, so `s:a s:b` in
-- one option passes there; here it is 13."
unfoldable pub option_bad : Items → List (List ℕ) → Bool
option_bad I [] = false
option_bad I (t ∷ ts) = not (got (entered I t)) || has (same_name (name_of t)) (map name_of ts) || option_bad I ts

-- ---- the lines

-- whether a line is at fault, by what is known of the items: nothing before their line. One that is passed over is not.
abbrev pub stated_bad : Bool → Option Items → List (List ℕ) → Bool
stated_bad true known ts = false
stated_bad false None ts = items_bad false ts
stated_bad false (Some I) ts = option_bad I ts

abbrev pub line_bad : Option Items → List ℕ → Bool
line_bad known line = not (each allowed line) || stated_bad (passed (tokens line)) known (tokens line)

-- "first line primary names .. then one option a line"
abbrev pub known_after : Bool → Option Items → List (List ℕ) → Option Items
known_after front (Some I) ts = Some I
known_after front None ts = when (not (passed ts)) (Some (items_of front ts))

-- "the number from 1 of the first faulty line", or 0: the first of the lines has the number k
unfoldable pub first_bad : Bool → ℕ → Option Items → List (List ℕ) → ℕ
first_bad front k known [] = 0
first_bad front k known (l ∷ ls) = cond (line_bad known l) k (first_bad front (k + 1) (known_after front known (tokens l)) ls)

-- ---- the words

abbrev pub entry_words : Option Entry → List ℤ
entry_words None = []
entry_words (Some e) = pos e.item ∷ pos e.colour ∷ []

unfoldable pub option_words : Items → List (List ℕ) → List ℤ
option_words I ts = pos (length ts) ∷ flat (λ t. entry_words (entered I t)) ts

unfoldable pub text_words : Items → List (List (List ℕ)) → List ℤ
text_words I os = pos (length I.primary) ∷ pos (length I.secondary) ∷ pos (length os) ∷ flat (option_words I) os

-- the words of the lines that say something, none where "items or options are missing"
abbrev pub words_of : Bool → List (List (List ℕ)) → Option (List ℤ)
words_of front [] = None
words_of front (i ∷ []) = None
words_of front (i ∷ o ∷ os) = Some (text_words (items_of front i) (o ∷ os))

-- ---- the reader

-- The number and values of each answer: 0 and how many words were written; 13 and the line; else the refusal's number,
-- 3 or 9, which has no value.
abbrev pub read_said : Result ℕ Unread → List ℕ
read_said (Ok n) = 0 ∷ n ∷ []
read_said (Err (Faulty line)) = 13 ∷ line ∷ []
read_said (Err (Refused k)) = k ∷ []

pub record ReadOutcome : Type 0 where
  pub answer : Result ℕ Unread
  pub words : List ℤ

abbrev pub unread : Result ℕ Unread → List ℤ → ReadOutcome
unread r ws = record { answer = r; words = ws }

-- "A word list too short is 9, last."
abbrev pub read_into : Bool → List ℤ → List ℤ → ReadOutcome
read_into true new ws = record { answer = Ok (length new); words = over new ws }
read_into false new ws = unread (Err (Refused 9)) ws

-- "or 0 if none is faulty but items or options are missing"
abbrev pub read_stated : Option (List ℤ) → List ℤ → ReadOutcome
read_stated None ws = unread (Err (Faulty 0)) ws
read_stated (Some new) ws = read_into (leb (length new) (length ws)) new ws

-- "Every text refusal is 13 with the number from 1 of the first faulty line"
abbrev pub read_lines : ℕ → Option (List ℤ) → List ℤ → ReadOutcome
read_lines (suc k) new ws = unread (Err (Faulty (suc k))) ws
read_lines zero new ws = read_stated new ws

-- "Longer input is 3, for the reader too, before all else"
abbrev pub read_sized : Bool → ReadOutcome → List ℤ → ReadOutcome
read_sized true read ws = read
read_sized false read ws = unread (Err (Refused 3)) ws

unfoldable pub read_call : List ℕ → Bool → List ℤ → ReadOutcome
read_call text front ws =
    read_sized (leb (length text) 65536)
    (read_lines (first_bad front 1 None (lines text)) (words_of front (stated (lines text))) ws)
    ws

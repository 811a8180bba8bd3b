-- The problem words, what they mean, and the refusals 1 to 9 in document 01's order of test.
use Rattle.std.specs.Prelude.{Bool, true, false, not, ◌&&◌, ◌||◌, List, [], ◌∷◌, map, ℕ, zero, suc, ◌+◌, ◌*◌, leb}
use Rattle.std.specs.Prelude.{ℤ, pos, negsuc, length, drop, Option, None, Some, Result, Ok, Err}
use Rattle.std.specs.Int.Signed.{le_z, non_neg}
use Rattle.rules.specs.declared.Limits.{Limits}
use Rattle.rules.specs.declared.Sizes.{Sizes}
use Rattle.rules.specs.Lists.{keep, has, tally, when, got, or_none}
use Rattle.rules.specs.Words.{word, nat, below, same}

-- ---- what is meant

-- "An option is a list of (item, colour). Colour 0 means uncoloured."
pub record Entry : Type 0 where
  pub item : ℕ
  pub colour : ℕ

-- "A problem has np primary items, numbered 0 to np-1, then ns secondary ones, up to n-1"
pub record Problem : Type 0 where
  pub np : ℕ
  pub ns : ℕ
  pub options : List (List Entry)

-- "n = np+ns"
abbrev pub items : Problem → ℕ
items P = P.np + P.ns

-- ---- the words

-- an entry's two words, as they stand
pub record Pair : Type 0 where
  pub item : ℤ
  pub colour : ℤ

-- the words cut into options, with nothing known of items and colours
pub record Cut : Type 0 where
  pub np : ℕ
  pub ns : ℕ
  pub options : List (List Pair)

abbrev pub library_limits : Limits
library_limits = record { items = 1024; options = 4096; entries = 16384 }

-- "Limits 64 items, 64 options, 256 entries"
abbrev pub door_limits : Limits
door_limits = record { items = 64; options = 64; entries = 256 }

-- the entry count that an option's words begin with: it is not negative, and two words for each entry follow it
unfoldable pub entry_count : List ℤ → Option ℕ
entry_count [] = None
entry_count (negsuc k ∷ ws) = None
entry_count (pos k ∷ ws) = when (leb (2 * k) (length ws)) (Some k)

-- the first k pairs of words
unfoldable pub pairs : ℕ → List ℤ → List Pair
pairs zero ws = []
pairs (suc k) [] = []
pairs (suc k) (i ∷ []) = []
pairs (suc k) (i ∷ c ∷ ws) = record { item = i; colour = c } ∷ pairs k ws

abbrev pub with_option : List Pair → Option (List (List Pair)) → Option (List (List Pair))
with_option o None = None
with_option o (Some os) = Some (o ∷ os)

-- an option of k entries, and then what `later` cuts from the words after it
abbrev pub then_cut : Option ℕ → List ℤ → (List ℤ → Option (List (List Pair))) → Option (List (List Pair))
then_cut None ws later = None
then_cut (Some k) ws later = with_option (pairs k (drop 1 ws)) (later (drop (1 + 2 * k) ws))

-- "per option its entry count and that many pairs item, colour": m options, and no word left over
unfoldable pub cut_options : ℕ → List ℤ → Option (List (List Pair))
cut_options zero [] = Some []
cut_options zero (w ∷ ws) = None
cut_options (suc m) ws = then_cut (entry_count ws) ws (λ rest. cut_options m rest)

-- "np, ns, number of options; then" the options, if the words are cut right
unfoldable pub parts : List ℤ → Option (List (List Pair))
parts ws = cut_options (nat (word ws 2)) (drop 3 ws)

-- the words cut, whatever they hold
unfoldable pub cut : List ℤ → Cut
cut ws = record { np = nat (word ws 0); ns = nat (word ws 1); options = or_none (parts ws) }

unfoldable pub count_pairs : List (List Pair) → ℕ
count_pairs [] = 0
count_pairs (o ∷ os) = length o + count_pairs os

-- ---- refusals, 0 for none

-- a row of the table: k where its test fails, and the rows after it where the test holds
abbrev pub need : Bool → ℕ → ℕ → ℕ
need true k later = later
need false k later = k

-- the first that is not 0
abbrev pub first_of : ℕ → ℕ → ℕ
first_of zero later = later
first_of (suc k) later = suc k

-- The rows down to 9. The limits and the least number of options are the caller's.
unfoldable pub cut_refusal : Limits → ℕ → List ℤ → ℕ
cut_refusal L least ws =
    -- "fewer than three problem words"
    need (leb 3 (length ws)) 4
    -- "np below 1"
    (need (le_z (pos 1) (word ws 0)) 1
    -- "number of options below 1"
    (need (le_z (pos least) (word ws 2)) 2
    -- "ns negative"
    (need (non_neg (word ws 1)) 4
    -- "n over 1,024, or options over 4,096"
    (need (leb (nat (word ws 0) + nat (word ws 1)) L.items && leb (nat (word ws 2)) L.options) 3
    -- "a negative entry count, words missing, or words left over"
    (need (got (parts ws)) 4
    -- "more than 16,384 entries"
    (need (leb (count_pairs (or_none (parts ws))) L.entries) 3
    0))))))

-- ---- the entries: refusals 5 to 8

-- the fault of one entry among n items, np of them primary; `seen` are the items before it in its option
unfoldable pub entry_fault : ℕ → ℕ → List ℤ → Pair → ℕ
entry_fault np n seen e =
    -- "item out of range"
    need (below n e.item) 5
    -- "item already in this option"
    (need (not (has (same e.item) seen)) 6
    -- "nonzero colour on a primary item"
    (need (not (below np e.item) || same e.colour (pos 0)) 7
    -- "negative colour on a secondary item"
    (need (non_neg e.colour) 8
    0)))

unfoldable pub option_fault : ℕ → ℕ → List ℤ → List Pair → ℕ
option_fault np n seen [] = 0
option_fault np n seen (e ∷ es) = first_of (entry_fault np n seen e) (option_fault np n (e.item ∷ seen) es)

-- "at the first faulty entry"; "Every option is checked, skipped ones too."
unfoldable pub options_fault : ℕ → ℕ → List (List Pair) → ℕ
options_fault np n [] = 0
options_fault np n (o ∷ os) = first_of (option_fault np n [] o) (options_fault np n os)

-- what the entries are refused for
unfoldable pub fault : Cut → ℕ
fault C = options_fault C.np (C.np + C.ns) C.options

-- ---- the sizes that refusal 9 asks for, known before the entries are checked

-- "one item word from 0 to np-1 keeps its option, even where another entry is faulty"
unfoldable pub pairs_kept : ℕ → List Pair → Bool
pairs_kept np o = has (λ (e : Pair). below np e.item) o

unfoldable pub sizes : Cut → Sizes
sizes C = record {
  np = C.np;
  ns = C.ns;
  options = length C.options;
  kept = tally (pairs_kept C.np) C.options;
  entries = count_pairs (keep (pairs_kept C.np) C.options);
}

-- "N = n + 2 + entries of kept options + number of kept options"
abbrev pub node_count : Sizes → ℕ
node_count s = s.np + s.ns + 2 + s.entries + s.kept

-- "Length 2(n+2) + 4N"
abbrev pub table_length : Sizes → ℕ
table_length s = 2 * (s.np + s.ns + 2) + 4 * node_count s

-- a refusal, or x where its number is 0
abbrev pub judged : {A : Type 0} → ℕ → A → Result A ℕ
judged zero x = Ok x
judged (suc k) x = Err (suc k)

unfoldable pub verdict : Limits → ℕ → List ℤ → Result Sizes ℕ
verdict L least ws = judged (cut_refusal L least ws) (sizes (cut ws))

-- The refusals of a problem, which every call shares: the limits, the least number of options, and whether what the call is lent has room
-- ("a lent table, spare, path, profile or found list too short") are the call's.
unfoldable pub problem_refusal : Limits → ℕ → (Sizes → Bool) → List ℤ → ℕ
problem_refusal L least room ws =
    first_of (cut_refusal L least ws)
    (need (room (sizes (cut ws))) 9
    (fault (cut ws)))

-- ---- the problem that accepted words mean

abbrev pub as_entry : Pair → Entry
as_entry e = record { item = nat e.item; colour = nat e.colour }

unfoldable pub meant : Cut → Problem
meant C = record { np = C.np; ns = C.ns; options = map (λ o. map as_entry o) C.options }

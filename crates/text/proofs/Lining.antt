-- The lines of a text: the first that is faulty, and those that say something. Assumes nothing.
use Rattle.std.proofs.Common.{◌≡◌, ℕ, ◌+◌, ◌*◌, ◌≤◌, Bool, true, false, not, ◌||◌, cond, List, [], ◌∷◌, ◌++◌, map, length, ℤ, Option, None, Some, refl, sym, ap, ◌∙◌, arith, length-append}
use mathlib.Core.List.{append-nil}
use Rattle.rules.specs.Lists.{also, keep, each, has, flat, got}
use Rattle.rules.specs.Problem.{Entry}
use Rattle.rules.specs.Text.{allowed, tokens, passed, stated, same_name, name_of, Items, items_bad, entered, option_bad, line_bad, known_after, first_bad, entry_words, option_words}
use Rattle.laws.specs.Lists.{flat_append}
use Rattle.text.specs.declared.pieces.Lines.{Lines}
use Rattle.text.specs.Pieces.{lines_left, bytes_left}
use Rattle.text.specs.Read.{bad_left, stated_left, options_words, ItemsFound, OptionsCounted}
use Rattle.text.proofs.Tests.{never, or_left, or_right}

first_stated : (u : List ℕ) (ls : List (List ℕ)) → stated (u ∷ ls) ≡ stated (u ∷ []) ++ stated ls
unfolding keep
first_stated u ls = by (not (passed (tokens u)))
  where
    by : (b : Bool) → also b (tokens u) (stated ls) ≡ also b (tokens u) [] ++ stated ls
    by true = refl
    by false = refl

no_line_bad : (front : Bool) (k : ℕ) (known : Option Items) → first_bad front k known [] ≡ 0
unfolding first_bad
no_line_bad front k known = refl

no_line_stated : stated [] ≡ []
unfolding keep
no_line_stated = refl

stated_passed : (l : List ℕ) → passed (tokens l) ≡ true → stated (l ∷ []) ≡ []
unfolding keep
stated_passed l p = rw p refl

stated_one : (l : List ℕ) → passed (tokens l) ≡ false → stated (l ∷ []) ≡ tokens l ∷ []
unfolding keep
stated_one l p = rw p refl

-- ---- one line more of those that are left

module _ (s t : Lines) {l : List ℕ} (e : lines_left s.rest ≡ l ∷ lines_left t.rest) where
  pub bad_more : t.number ≡ s.number + 1 → (front : Bool) (known : Option Items)
      → bad_left front known s ≡ cond (line_bad known l) s.number
      (bad_left front (known_after front known (tokens l)) t)
  unfolding first_bad
  bad_more n front known =
      ap (first_bad front s.number known) e
      ∙ ap (λ (k : ℕ). cond (line_bad known l) s.number (first_bad front k (known_after front known (tokens l))
      (lines_left t.rest))) (sym n)

  pub stated_more : stated_left s ≡ stated (l ∷ []) ++ stated_left t
  stated_more = ap stated e ∙ first_stated l (lines_left t.rest)

  pub words_more : (I : Items) → options_words I (lines_left s.rest) ≡ options_words I (l ∷ []) ++ options_words I
      (lines_left t.rest)
  unfolding options_words
  words_more I = ap (flat (option_words I)) stated_more ∙ flat_append (option_words I) (stated (l ∷ [])) (stated_left t)

module _ (s : Lines) (e : lines_left s.rest ≡ []) where
  pub bad_end : (front : Bool) (known : Option Items) → bad_left front known s ≡ 0
  bad_end front known = ap (first_bad front s.number known) e ∙ no_line_bad front s.number known

  pub stated_end : stated_left s ≡ []
  stated_end = ap stated e ∙ no_line_stated

  pub words_end : (I : Items) → options_words I (lines_left s.rest) ≡ []
  unfolding options_words flat
  words_end I = ap (flat (option_words I)) stated_end

-- ---- one line

line_none : (I : Items) (l : List ℕ) → passed (tokens l) ≡ true → options_words I (l ∷ []) ≡ []
unfolding options_words flat
line_none I l p = ap (flat (option_words I)) (stated_passed l p)

line_one : (I : Items) (l : List ℕ) → passed (tokens l) ≡ false → options_words I (l ∷ []) ≡ option_words I (tokens l)
unfolding options_words flat
line_one I l p = ap (flat (option_words I)) (stated_one l p) ∙ append-nil (option_words I (tokens l))

two_words : (o : Option Entry) → got o ≡ true → length (entry_words o) ≡ 2
two_words None e = never (sym e)
two_words (Some x) e = refl

not_not : (b : Bool) → not b ≡ false → b ≡ true
not_not true e = refl
not_not false e = never e

good_words : (I : Items) (ts : List (List ℕ)) → option_bad I ts ≡ false
    → length (flat (λ t. entry_words (entered I t)) ts) ≡ 2 * length ts
unfolding option_bad flat
good_words I [] e = refl
good_words I (t ∷ ts) e =
    let named : Bool = has (same_name (name_of t)) (map name_of ts) in
    let none_here : (not (got (entered I t)) || named) ≡ false =
    or_left (not (got (entered I t)) || named) (option_bad I ts) e in
    let none_later : option_bad I ts ≡ false = or_right (not (got (entered I t)) || named) (option_bad I ts) e in
    length-append (entry_words (entered I t)) (flat (λ t. entry_words (entered I t)) ts)
    ∙ omega (
      arith,
      two_words (entered I t) (not_not (got (entered I t))
          (or_left (not (got (entered I t))) named none_here)),
      good_words I ts none_later,
    )

option_long : (I : Items) (l : List ℕ) → passed (tokens l) ≡ false → line_bad (Some I) l ≡ false
    → length (options_words I (l ∷ [])) ≡ 1 + 2 * length (tokens l)
unfolding option_words
option_long I l p e =
    let o : option_bad I (tokens l) ≡ false = rw p at (or_right (not (each allowed l)) _ e) in
    ap length (line_one I l p) ∙ omega (arith, good_words I (tokens l) o)

module _ (s t : Lines) {l : List ℕ} (e : lines_left s.rest ≡ l ∷ lines_left t.rest) (I : Items) where
  pub words_passed : passed (tokens l) ≡ true → options_words I (lines_left s.rest) ≡ options_words I
      (lines_left t.rest)
  words_passed p = words_more s t e I ∙ ap (λ (ws : List ℤ). ws ++ options_words I (lines_left t.rest))
      (line_none I l p)

  pub words_option : passed (tokens l) ≡ false → options_words I (lines_left s.rest) ≡ option_words I
      (tokens l) ++ options_words I (lines_left t.rest)
  words_option p = words_more s t e I ∙ ap (λ (ws : List ℤ). ws ++ options_words I (lines_left t.rest)) (line_one I l p)

-- ---- the items line

pub record Seeking (s t : Lines) : Type 0 where
  pub same_bad : (front : Bool) → bad_left front None s ≡ bad_left front None t
  pub same_stated : stated_left s ≡ stated_left t

module _ {all s : Lines} (S : Seeking all s) (t : Lines) {k : ℕ} {l : List ℕ} (first : k ≡ s.number)
    (number : t.number ≡ s.number + 1) (e : lines_left s.rest ≡ l ∷ lines_left t.rest) where
  bad_now : (front : Bool) → bad_left front None all ≡ cond (line_bad None l) s.number
      (bad_left front (known_after front None (tokens l)) t)
  bad_now front = S.same_bad front ∙ bad_more s t e number front None

  pub seek_faulty : line_bad None l ≡ true → (1 ≤ k) × ((front : Bool) → bad_left front None all ≡ k)
  seek_faulty f = (omega (arith, s.few.0), λ front. bad_now front ∙ rw f (sym first))

  pub seek_turn : each allowed l ≡ true → passed (tokens l) ≡ true → Seeking all t
  seek_turn c p = record {
    same_bad = λ front. bad_now front ∙ rw (c, p) refl;
    same_stated = S.same_stated ∙ stated_more s t e ∙ ap (λ (x : List (List (List ℕ))). x ++ stated_left t)
        (stated_passed l p);
  }

  pub seek_found : length l ≤ 65536 → each allowed l ≡ true → passed (tokens l) ≡ false
      → items_bad false (tokens l) ≡ false → ItemsFound all t l
  seek_found n c p f = record {
    short = n;
    same_bad = λ front. bad_now front ∙ rw (c, p, f) refl;
    same_stated = S.same_stated ∙ stated_more s t e ∙ ap (λ (x : List (List (List ℕ))). x ++ stated_left t)
        (stated_one l p);
  }

pub bad_byte : (known : Option Items) (l : List ℕ) → each allowed l ≡ false → line_bad known l ≡ true
bad_byte known l c = rw c refl

pub bad_items : (l : List ℕ) → each allowed l ≡ true → passed (tokens l) ≡ false → items_bad false (tokens l) ≡ true
    → line_bad None l ≡ true
bad_items l c p f = rw (c, p, f) refl

pub seek_end : {all s : Lines} → Seeking all s → lines_left s.rest ≡ [] → ((front : Bool) → bad_left front None all ≡ 0)
    × (stated_left all ≡ [])
seek_end {all} {s} S e = (λ front. S.same_bad front ∙ bad_end s e front None, S.same_stated ∙ stated_end s e)

-- ---- the options

pub record Checking (I : Items) (all s : Lines) (options words : ℕ) : Type 0 where
  pub few : options + bytes_left s.rest ≤ 65537
  pub small : words + 3 * bytes_left s.rest ≤ 196611
  pub same_bad : (front : Bool) → bad_left front (Some I) all ≡ bad_left front (Some I) s
  pub same_options : length (stated_left all) ≡ options + length (stated_left s)
  pub same_words : length (options_words I (lines_left all.rest)) ≡ words + length (options_words I (lines_left s.rest))

module _ {I : Items} {all s : Lines} {options words : ℕ} (C : Checking I all s options words) (t : Lines) {k : ℕ}
    {l : List ℕ} (first : k ≡ s.number) (number : t.number ≡ s.number + 1)
    (e : lines_left s.rest ≡ l ∷ lines_left t.rest) where
  bad_here : (front : Bool) → bad_left front (Some I) all ≡ cond (line_bad (Some I) l) s.number
      (bad_left front (Some I) t)
  bad_here front = C.same_bad front ∙ bad_more s t e number front (Some I)

  pub check_faulty : line_bad (Some I) l ≡ true → (1 ≤ k) × ((front : Bool) → bad_left front (Some I) all ≡ k)
  check_faulty f = (omega (arith, s.few.0), λ front. bad_here front ∙ rw f (sym first))

  module _ (b : bytes_left s.rest ≡ length l + 1 + bytes_left t.rest) (f : line_bad (Some I) l ≡ false) where
    check_by : {o w : ℕ} → length (stated (l ∷ [])) ≡ o → length (options_words I (l ∷ [])) ≡ w → o ≤ 1
        → w ≤ 1 + 2 * length l → Checking I all t (options + o) (words + w)
    check_by p q x y = record {
      few = omega (arith, C.few);
      small = omega (arith, C.small);
      same_bad = λ front. bad_here front ∙ rw f refl;
      same_options = omega (
        arith,
        C.same_options,
        p,
        ap length (stated_more s t e)
            ∙ length-append (stated (l ∷ [])) (stated_left t),
      );
      same_words = omega (
        arith,
        C.same_words,
        q,
        ap length (words_more s t e I)
            ∙ length-append (options_words I (l ∷ [])) (options_words I (lines_left t.rest)),
      );
    }

    pub check_passed : passed (tokens l) ≡ true → Checking I all t options words
    check_passed p =
        let c = check_by {o = 0} {w = 0} (ap length (stated_passed l p)) (ap length (line_none I l p)) (omega arith)
        (omega arith) in
        record {
          few = omega (arith, c.few);
          small = omega (arith, c.small);
          same_bad = c.same_bad;
          same_options = omega (arith, c.same_options);
          same_words = omega (arith, c.same_words);
        }

    pub check_option : {n : ℕ} → passed (tokens l) ≡ false → n ≡ length (tokens l) → n ≤ length l
        → Checking I all t (options + 1) (words + (1 + 2 * n))
    check_option p u v = check_by (ap length (stated_one l p)) (option_long I l p f ∙ omega arith) (omega arith)
        (omega arith)

pub check_end : {I : Items} {all s : Lines} {options words : ℕ} → Checking I all s options words
    → lines_left s.rest ≡ [] → OptionsCounted I all options words
check_end {I} {all} {s} {options} {words} C e = record {
  faultless = λ front. C.same_bad front ∙ bad_end s e front (Some I);
  options_are = C.same_options ∙ omega (arith, ap length (stated_end s e));
  words_are = C.same_words ∙ omega (arith, ap length (words_end s e I));
  few = omega (arith, C.few);
  small = omega (arith, C.small);
}

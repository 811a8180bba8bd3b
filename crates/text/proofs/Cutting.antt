-- Where the pieces of a text end. Assumes nothing.
use Rattle.std.proofs.Common.{◌≡◌, ℕ, suc, ◌+◌, ◌-◌, ◌≤◌, ◌<◌, Bool, true, false, not, List, [], ◌∷◌, eqb, length, take, drop, Option, None, Some, refl, sym, ap, ◌∙◌, arith, length-drop}
use mathlib.Core.Logic.{◌⊎◌, inl, inr}
use borrow.Author.Tests.{ltb-true, ltb-false}
use lib.Dec.{ltb}
use lib.Seq.{take_all}
use Rattle.std.specs.List.{prefix_len, find}
use Rattle.std.proofs.lemmas.List.Sums.{prefix_len-le-length}
use Rattle.std.proofs.lemmas.List.Splits.{slice_split_first}
use Rattle.rules.specs.Lists.{keep}
use denote.Ref.{Bor}
use Rattle.std.proofs.lemmas.List.Folds.{length-prefix_len}
use Rattle.rules.specs.Text.{parted, split, filled, tokens, passed, lines, white, first_part, name_of}
use Rattle.text.specs.Pieces.{no_white, no_lf, no_colon, lines_left, bytes_left}
use Rattle.text.proofs.Mirror.{split_slice}

abbrev lf : ℕ → Bool
lf b = eqb b 10

-- ---- parts

module _ {A : Type 0} (p : A → Bool) where
  abbrev part_len : List A → ℕ
  part_len s = prefix_len (λ x. not (p x)) s

  pub split_more : (s : List A) → A → part_len s < length s → split p s ≡ take (part_len s) s ∷ split p
      (drop (part_len s + 1) s)
  split_more s d h = split_slice p s ∙ slice_split_first p s d h
      ∙ ap (λ (l : List (List A)). take (part_len s) s ∷ l) (sym (split_slice p (drop (part_len s + 1) s)))

  pub split_last : (s : List A) → length s ≤ part_len s → split p s ≡ s ∷ []
  unfolding split
  split_last [] h = refl
  split_last (x ∷ s) h = by (p x) refl (λ k. split_last s k)
    where
      by : (b : Bool) → p x ≡ b → (length s ≤ part_len s → split p s ≡ s ∷ [])
          → parted (p x) x (split p s) ≡ (x ∷ s) ∷ []
      by true e f = let k : suc (length s) ≤ 0 = rw e at h in absurd (omega arith)
      by false e f = let k : suc (length s) ≤ 1 + part_len s = rw e at h in rw e (ap (parted false x) (f (omega arith)))

pub cut_len : (p : ℕ → Bool) (s : List ℕ) {n : ℕ} → n ≡ prefix_len p s → n ≡ length (take n s)
cut_len p s e = e ∙ sym (ap (λ n. length (take n s)) e ∙ length-prefix_len p s)

lt_or_le : (a b : ℕ) → (a < b) ⊎ (b ≤ a)
lt_or_le a b = by (ltb a b) refl
  where
    by : (t : Bool) → ltb a b ≡ t → (a < b) ⊎ (b ≤ a)
    by true e = inl (ltb-true a b e)
    by false e = inr (ltb-false a b e)

pub rest_of : (s : List ℕ) (k : ℕ) → take (length s - k) (drop k s) ≡ drop k s
rest_of s k = take_all (length s - k) (drop k s) (omega (arith, length-drop k s))

-- ---- tokens

no_tokens : tokens [] ≡ []
unfolding tokens split keep
no_tokens = refl

white_first : (b : ℕ) (s : List ℕ) → white b ≡ true → tokens (b ∷ s) ≡ tokens s
unfolding tokens split keep
white_first b s e = rw e refl

keep_first : (t : List ℕ) (ts : List (List ℕ)) → 0 < length t → keep filled (t ∷ ts) ≡ t ∷ keep filled ts
unfolding keep
keep_first [] ts h = absurd (omega arith)
keep_first (b ∷ t) ts h = refl

keep_last : (t : List ℕ) → 0 < length t → keep filled (t ∷ []) ≡ t ∷ []
unfolding keep
keep_last [] h = absurd (omega arith)
keep_last (b ∷ t) h = refl

-- the first piece, as long as no white byte comes: a token, unless it is empty
module _ (s : List ℕ) {n : ℕ} (u : n ≡ prefix_len no_white s) where
  module _ (h : n ≡ length s → ⊥) where
    white_after : prefix_len no_white s < length s
    white_after = omega (arith, u, h, prefix_len-le-length no_white s)

    pub cut_low : n + 1 ≤ length s
    cut_low = omega (arith, u, white_after)

    piece_is : tokens s ≡ keep filled (take n s ∷ split white (drop (n + 1) s))
    unfolding tokens
    piece_is = rw u (ap (keep filled) (split_more white s 0 white_after))

    pub token_more : (n ≡ 0 → ⊥) → tokens s ≡ take n s ∷ tokens (drop (n + 1) s)
    unfolding tokens
    token_more k = piece_is ∙ keep_first (take n s) (split white (drop (n + 1) s))
        (omega (arith, cut_len no_white s u, k))

    pub token_none : n ≡ 0 → tokens s ≡ tokens (drop (n + 1) s)
    unfolding tokens keep
    token_none k = piece_is ∙ rw k refl

  pub token_last : n ≡ length s → (length s ≡ 0 → ⊥) → tokens s ≡ s ∷ tokens []
  unfolding tokens
  token_last e h =
      ap (keep filled) (split_last white s (omega (arith, u, e))) ∙ keep_last s (omega (arith, h))
      ∙ ap (λ (l : List (List ℕ)). s ∷ l) (sym no_tokens)

pub token_empty : (s : List ℕ) → length s ≡ 0 → tokens s ≡ []
token_empty [] h = no_tokens
token_empty (b ∷ s) h = absurd (omega arith)

parted_short : (b : ℕ) (s : List ℕ) (w : Bool) → length (keep filled (parted w b (split white s))) ≤ suc
    (length (keep filled (split white s)))
unfolding keep
parted_short b s w = by w (split white s)
  where
    by : (w : Bool) (ps : List (List ℕ)) → length (keep filled (parted w b ps)) ≤ suc (length (keep filled ps))
    by true ps = omega arith
    by false [] = omega arith
    by false ([] ∷ ps) = omega arith
    by false ((x ∷ p) ∷ ps) = omega arith

-- no more tokens than bytes
pub tokens_short : (s : List ℕ) → length (tokens s) ≤ length s
unfolding tokens split keep
tokens_short [] = omega arith
tokens_short (b ∷ s) = let h = parted_short b s (white b) in omega (arith, tokens_short s)

-- whether a line is passed over, by its first byte that is not white
abbrev pub starts_passed : Option ℕ → Bool
starts_passed None = true
starts_passed (Some b) = eqb b 124

token_here : (b : ℕ) (s : List ℕ) → white b ≡ false → passed (tokens (b ∷ s)) ≡ eqb b 124
unfolding tokens split keep
token_here b s e = rw e (by (split white s))
  where
    by : (ps : List (List ℕ)) → passed (keep filled (parted false b ps)) ≡ eqb b 124
    by [] = refl
    by (p ∷ ps) = refl

pub passed_first : (s : List ℕ) → passed (tokens s) ≡ starts_passed (find no_white s)
passed_first [] = ap passed no_tokens
passed_first (b ∷ s) = by (white b) refl (passed_first s)
  where
    by : (w : Bool) → white b ≡ w → passed (tokens s) ≡ starts_passed (find no_white s)
        → passed (tokens (b ∷ s)) ≡ starts_passed (find no_white (b ∷ s))
    by true e f = ap passed (white_first b s e) ∙ f ∙ rw e refl
    by false e f = token_here b s e ∙ rw e refl

-- ---- lines

module _ (left : Option (Bor (List ℕ))) (text : Bor (List ℕ)) (e : left ≡ Some text) {n : ℕ}
    (u : n ≡ prefix_len no_lf text.now) where
  abbrev line : List ℕ
  line = take n text.now

  line_long : length line ≡ n
  line_long = ap (λ (k : ℕ). length (take k text.now)) u ∙ length-prefix_len no_lf text.now ∙ sym u

  pub line_more : (rest : Option (Bor (List ℕ))) → n < length text.now → lines_left rest ≡ lines (drop (n + 1) text.now)
      → bytes_left rest ≡ length text.now - n
      → (lines_left left ≡ line ∷ lines_left rest) × (bytes_left left ≡ length line + 1 + bytes_left rest)
  line_more rest h l b = (
    ap lines_left e ∙ split_more lf text.now 0 (let k = u in omega arith)
        ∙ ap (λ (k : ℕ). take k text.now ∷ lines (drop (k + 1) text.now)) (sym u)
        ∙ ap (λ (x : List (List ℕ)). line ∷ x) (sym l),
    ap bytes_left e ∙ omega (arith, line_long),
  )

  pub line_last : {rest : Option (Bor (List ℕ))} → length text.now ≤ n → rest ≡ None
      → (lines_left left ≡ line ∷ lines_left rest) × (bytes_left left ≡ length line + 1 + bytes_left rest)
  line_last {rest} h r = (
    ap lines_left e ∙ split_last lf text.now (omega (arith, u))
        ∙ ap (λ (x : List ℕ). x ∷ []) (sym (take_all n text.now h))
        ∙ ap (λ (o : Option (Bor (List ℕ))). line ∷ lines_left o) (sym r),
    ap bytes_left e ∙ omega (arith, line_long, ap bytes_left r, prefix_len-le-length no_lf text.now, u),
  )

-- ---- a token's parts

abbrev pub colon : ℕ → Bool
colon b = eqb b 58

pub name_is : (t : List ℕ) → name_of t ≡ take (prefix_len no_colon t) t
unfolding name_of
name_is t = by (lt_or_le (prefix_len no_colon t) (length t))
  where
    by : (prefix_len no_colon t < length t) ⊎ (length t ≤ prefix_len no_colon t)
        → first_part (split colon t) ≡ take (prefix_len no_colon t) t
    by (inl h) = ap first_part (split_more colon t 0 h)
    by (inr h) = ap first_part (split_last colon t h) ∙ sym (take_all (prefix_len no_colon t) t h)

-- A token's name and colour. Assumes nothing.
use Rattle.std.proofs.Common.{◌≡◌, ℕ, ◌+◌, ◌-◌, ◌≤◌, ◌<◌, Bool, true, false, List, [], ◌∷◌, length, get_or, take, drop, None, Some, refl, sym, ap, ◌∙◌, arith, add-one, drop-cons}
use borrow.Author.Tests.{eq-eqb, ne_eqb, eqb-true, eqb-false}
use mathlib.Core.Logic.{◌⊎◌, inl, inr}
use lib.Dec.{eqb}
use lib.ListN.{length-drop}
use lib.Seq.{take_all}
use Rattle.std.specs.List.{prefix_len}
use Rattle.rules.specs.Text.{parted, split, as_written, written}
use Rattle.text.specs.Pieces.{no_colon}
use Rattle.text.proofs.Cutting.{colon, split_more, split_last}

split_filled : (s : List ℕ) (n : List ℕ) (b : ℕ) → as_written (n ∷ (b ∷ []) ∷ split colon s) ≡ None
unfolding split
split_filled [] n b = refl
split_filled (x ∷ s) n b = by (colon x) (split colon s)
  where
    by : (t : Bool) (ps : List (List ℕ)) → as_written (n ∷ (b ∷ []) ∷ parted t x ps) ≡ None
    by true ps = refl
    by false [] = refl
    by false (p ∷ ps) = refl

-- a colour part that is not one byte
not_one : (n l : List ℕ) → (length l ≡ 1 → ⊥) → as_written (n ∷ split colon l) ≡ None
unfolding split
not_one n [] h = refl
not_one n (b ∷ []) h = absurd (h refl)
not_one n (b ∷ c ∷ l) h = by (colon b) (colon c) (split colon l) (split_filled l n b)
  where
    by : (s t : Bool) (ps : List (List ℕ)) → as_written (n ∷ (b ∷ []) ∷ ps) ≡ None
        → as_written (n ∷ parted s b (parted t c ps)) ≡ None
    by true t ps e = refl
    by false true ps e = e
    by false false [] e = refl
    by false false (p ∷ ps) e = refl

colon_only : (n : List ℕ) (l : List ℕ) → length l ≡ 1 → get_or l 0 0 ≡ 58 → as_written (n ∷ split colon l) ≡ None
unfolding split
colon_only n [] h e = refl
colon_only n (b ∷ []) h e = rw (eq-eqb b 58 e) refl
colon_only n (b ∷ c ∷ l) h e = absurd (omega arith)

one_colour : (n : List ℕ) (l : List ℕ) → length l ≡ 1 → (get_or l 0 0 ≡ 58 → ⊥)
    → as_written (n ∷ split colon l) ≡ Some (record { name = n; colour = get_or l 0 0 })
unfolding split
one_colour n [] h e = absurd (omega arith)
one_colour n (b ∷ []) h e = rw (ne_eqb b 58 e) refl
one_colour n (b ∷ c ∷ l) h e = absurd (omega arith)

is_one : (k : ℕ) → (k ≡ 1) ⊎ (k ≡ 1 → ⊥)
is_one k = by (eqb k 1) refl
  where
    by : (r : Bool) → eqb k 1 ≡ r → (k ≡ 1) ⊎ (k ≡ 1 → ⊥)
    by true e = inl (eqb-true k 1 e)
    by false e = inr (eqb-false k 1 e)

module _ (t : List ℕ) {n : ℕ} {name rest : List ℕ} (e : n ≡ prefix_len no_colon t) (f : name ≡ take n t)
    (b : rest ≡ drop n t) where
  rest_long : length rest ≡ length t - n
  rest_long = ap length b ∙ length-drop n t

  pub cut_plain : length rest < 1 → written t ≡ Some (record { name = name; colour = 0 })
  unfolding written
  cut_plain h =
      let k : length t ≤ n = let l = rest_long in omega arith in
      ap as_written (split_last colon t (omega (arith, e))) ∙ ap
      (λ (x : List ℕ). Some (record { name = x; colour = 0 })) (sym (take_all n t k) ∙ sym f)

  module _ (h : 1 ≤ length rest) where
    abbrev after : List ℕ
    after = drop (n + 1) t

    inside : n < length t
    inside = let l = rest_long in omega arith

    rest_is : rest ≡ get_or t n 0 ∷ after
    rest_is = b ∙ rw (add-one n) (drop-cons t n 0 inside)

    parts : split colon t ≡ name ∷ split colon after
    parts =
        split_more colon t 0 (let k = inside in omega (arith, e))
        ∙ ap (λ (k : ℕ). take k t ∷ split colon (drop (k + 1) t)) (sym e)
        ∙ ap (λ (x : List ℕ). x ∷ split colon after) (sym f)

    second : get_or rest 1 0 ≡ get_or after 0 0
    second = ap (λ (l : List ℕ). get_or l 1 0) rest_is

    pub cut_colour : {c : ℕ} → length rest ≡ 2 → (get_or rest 1 0 ≡ 58 → ⊥) → c ≡ get_or rest 1 0
        → written t ≡ Some (record { name = name; colour = c })
    unfolding written
    cut_colour l u v =
        ap as_written parts ∙ one_colour name after (omega (arith, l, ap length rest_is)) (λ z. u (second ∙ z))
        ∙ ap (λ (k : ℕ). Some (record { name = name; colour = k })) (sym (v ∙ second))

    pub cut_other : (length rest ≡ 2 → get_or rest 1 0 ≡ 58) → written t ≡ None
    unfolding written
    cut_other u = ap as_written parts ∙ by (is_one (length after))
      where
        by : (length after ≡ 1) ⊎ (length after ≡ 1 → ⊥) → as_written (name ∷ split colon after) ≡ None
        by (inl l) = colon_only name after l (sym second ∙ u (omega (arith, l, ap length rest_is)))
        by (inr l) = not_one name after l

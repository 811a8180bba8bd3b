-- Reading a number: one digit more, and the loop over a text. Assumes nothing.
use mathlib.Core.Bool.{Bool, true, false, not, ◌&&◌}
use mathlib.Core.List.{List, [], ◌∷◌}
use Rattle.std.specs.Prelude.{Option, None, Some}
use mathlib.Core.Path.{◌≡◌, refl, sym, ap, ◌∙◌}
use Prim.Native.Nat.{ℕ, ◌+◌, ◌≤◌, ◌<◌}
use native.Mathlib.Numerals.{add-one}
use native.Mathlib.Omega.{arith}
use borrow.Author.Tests.{le-leb, lt-leb, leb-true, leb-false}
use lib.Dec.{eqb, leb}
use lib.ListN.{length, get_or, drop, drop_of_length-le}
use lib.Seq.{drop-cons}
use Rattle.rules.specs.Lists.{each, when}
use Rattle.decimal.specs.Text.{digit, longer, value, told, leads}

-- v with the byte b after it, if that is a digit and the number is at most `most`
abbrev pub extended : ℕ → ℕ → ℕ → Option ℕ
extended v b most = when (digit b && leb (longer v b) most) (Some (longer v b))

-- ---- the loop: what the text says is what the bytes ahead say after v

pub record Reading (text : List ℕ) (most v i : ℕ) : Type 0 where
  pub within : i ≤ length text
  pub small : v ≤ most
  pub same : told most 0 text ≡ told most v (drop i text)

-- the bytes ahead only add to the number
grows : (v : ℕ) (s : List ℕ) → v ≤ value v s
unfolding value
grows v [] = omega arith
grows v (b ∷ s) = let h = grows (longer v b) s in omega arith

and_false : (a : Bool) → (a && false) ≡ false
and_false true = refl
and_false false = refl

no_longer : {a n : ℕ} → Some a ≡ Some n → a ≡ n
no_longer e = cc

module _ (v b most : ℕ) (s : List ℕ) where
  on : {n : ℕ} (d l : Bool) → digit b ≡ d → leb (longer v b) most ≡ l → extended v b most ≡ Some n → (n ≤ most) × (told most v (b ∷ s) ≡ told most n s)
  unfolding told value each
  on true true d l e =
      let u : longer v b ≡ _ = no_longer (rw (d, l) at e) in
      (rw (sym u) (leb-true (longer v b) most l), rw (d, sym u))
  on true false d l e = absurd (let z : ◌≡◌ {A = ℕ} 0 1 = cc (rw (d, l) at e) in omega arith)
  on false l d k e = absurd (let z : ◌≡◌ {A = ℕ} 0 1 = cc (rw d at e) in omega arith)

  off : (d l : Bool) → digit b ≡ d → leb (longer v b) most ≡ l → extended v b most ≡ None → None ≡ told most v (b ∷ s)
  unfolding told value each
  off true true d l e = absurd (let z : ◌≡◌ {A = ℕ} 0 1 = cc (rw (d, l) at e) in omega arith)
  off true false d l e =
      let g = grows (longer v b) s in
      let h = leb-false (longer v b) most l in
      rw (d, lt-leb (value (longer v b) s) most (omega arith), and_false (each digit s))
  off false l d k e = rw d

module _ {text : List ℕ} {most v i : ℕ} (I : Reading text most v i) (h : i < length text) where
  ahead : drop i text ≡ get_or text i 0 ∷ drop (i + 1) text
  ahead = rw (add-one i) (drop-cons text i 0 h)

  pub turn : {n : ℕ} → extended v (get_or text i 0) most ≡ Some n → Reading text most n (i + 1)
  turn e =
      let o = on v (get_or text i 0) most (drop (i + 1) text) _ _ refl refl e in
      record { within = omega arith; small = o.0; same = I.same ∙ ap (told most v) ahead ∙ o.1 }

  pub stop : extended v (get_or text i 0) most ≡ None → None ≡ told most 0 text
  stop e = off v (get_or text i 0) most (drop (i + 1) text) _ _ refl refl e ∙ sym (I.same ∙ ap (told most v) ahead)

pub end : {text : List ℕ} {most v i : ℕ} → Reading text most v i → length text ≤ i → Some v ≡ told most 0 text
unfolding told value each
end {text} {most} {v} {i} I h = sym (I.same ∙ ap (told most v) (drop_of_length-le text h) ∙ ap (λ (b : Bool). when b (Some v)) (le-leb v most I.small))

-- ---- how a text leads

pub leads_one : (s : List ℕ) → length s ≡ 1 → true ≡ leads s
leads_one [] h = absurd (omega arith)
leads_one (b ∷ []) h = refl
leads_one (b ∷ c ∷ s) h = absurd (omega arith)

pub leads_more : (s : List ℕ) → (length s ≡ 0 → ⊥) → (length s ≡ 1 → ⊥) → not (eqb (get_or s 0 0) 48) ≡ leads s
leads_more [] h k = absurd (h refl)
leads_more (b ∷ []) h k = absurd (k refl)
leads_more (b ∷ c ∷ s) h k = refl

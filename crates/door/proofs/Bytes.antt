-- The words of bytes, one by one. Assumes nothing.
use mathlib.Core.Path.{◌≡◌, refl, sym, ap, ◌∙◌}
use mathlib.Core.List.{List, [], ◌∷◌, ◌++◌}
use Prim.Native.Nat.{ℕ, zero, suc, ◌+◌, ◌*◌, ◌≤◌, ◌<◌}
use native.Mathlib.Omega.{arith}
use native.Mathlib.Numerals.{add-one}
use lib.IntN.{ℤ, pos}
use lib.ListN.{length, get_or, set, take, length-set}
use lib.Seq.{take-suc, take-suc-set, take-length}
use Rattle.rules.specs.Words.{word, signed, quad, bytes_words}
use Rattle.words.specs.Read.{quad_at}

-- there is one for every four bytes
pub words_long : (b : List ℕ) → (4 * length (bytes_words b) ≤ length b) × (length b < 4 * length (bytes_words b) + 4)
unfolding bytes_words
words_long [] = (omega arith, omega arith)
words_long (a ∷ []) = (omega arith, omega arith)
words_long (a ∷ b ∷ []) = (omega arith, omega arith)
words_long (a ∷ b ∷ c ∷ []) = (omega arith, omega arith)
words_long (a ∷ b ∷ c ∷ d ∷ r) = let x = words_long r in (omega (arith, x.0), omega (arith, x.1))

fifth : (a b c d : ℕ) (r : List ℕ) (i j : ℕ) → j ≡ suc (suc (suc (suc i))) → get_or r i 0 ≡ get_or (a ∷ b ∷ c ∷ d ∷ r) j 0
fifth a b c d r i j e = rw e refl

pub word_at : (b : List ℕ) (k : ℕ) → 4 * k + 4 ≤ length b → word (bytes_words b) k ≡ signed (quad_at b (4 * k))
unfolding bytes_words
word_at [] k h = absurd (omega arith)
word_at (a ∷ []) k h = absurd (omega arith)
word_at (a ∷ b ∷ []) k h = absurd (omega arith)
word_at (a ∷ b ∷ c ∷ []) k h = absurd (omega arith)
word_at (a ∷ b ∷ c ∷ d ∷ r) zero h = refl
word_at (a ∷ b ∷ c ∷ d ∷ r) (suc k) h =
    let e₀ : get_or r (4 * k) 0 ≡ get_or (a ∷ b ∷ c ∷ d ∷ r) (4 * suc k) 0 = fifth a b c d r (4 * k) (4 * suc k) (omega arith) in
    let e₁ : get_or r (4 * k + 1) 0 ≡ get_or (a ∷ b ∷ c ∷ d ∷ r) (4 * suc k + 1) 0 = fifth a b c d r (4 * k + 1) (4 * suc k + 1) (omega arith) in
    let e₂ : get_or r (4 * k + 2) 0 ≡ get_or (a ∷ b ∷ c ∷ d ∷ r) (4 * suc k + 2) 0 = fifth a b c d r (4 * k + 2) (4 * suc k + 2) (omega arith) in
    let e₃ : get_or r (4 * k + 3) 0 ≡ get_or (a ∷ b ∷ c ∷ d ∷ r) (4 * suc k + 3) 0 = fifth a b c d r (4 * k + 3) (4 * suc k + 3) (omega arith) in
    word_at r k (omega arith) ∙ (λ i. signed (quad (e₀ i) (e₁ i) (e₂ i) (e₃ i)))

-- ---- words read from the front

-- the first k of ws are read
pub record Reading (b : List ℕ) (ws : List ℤ) (k : ℕ) : Type 0 where
  pub front : take k ws ≡ take k (bytes_words b)
  pub inside : k ≤ length ws
  pub enough : 4 * length ws ≤ length b

module _ (b : List ℕ) (ws : List ℤ) where
  pub read_none : 4 * length ws ≤ length b → Reading b ws 0
  read_none h = record { front = refl; inside = omega arith; enough = h }

  pub read_next : (k : ℕ) {ws' : List ℤ} → Reading b ws k → k < length ws → ws' ≡ set ws k (signed (quad_at b (4 * k))) → Reading b ws' (k + 1)
  read_next k {ws'} R h e =
      let x = words_long b in
      let n = R.enough in
      let l : length ws' ≡ length ws = ap length e ∙ length-set ws k (signed (quad_at b (4 * k))) in
      let w = word_at b k (omega arith) in
      record {
        front =
            ap (λ (v : List ℤ). take (k + 1) v) e ∙ ap (λ (i : ℕ). take i (set ws k (signed (quad_at b (4 * k))))) (add-one k)
            ∙ take-suc-set ws k (signed (quad_at b (4 * k))) h ∙ ap (λ (v : List ℤ). v ++ signed (quad_at b (4 * k)) ∷ []) R.front
            ∙ ap (λ (z : ℤ). take k (bytes_words b) ++ z ∷ []) (sym w) ∙ sym (take-suc (bytes_words b) k (pos 0) (omega (arith, x.1)))
            ∙ ap (λ (i : ℕ). take i (bytes_words b)) (sym (add-one k));
        inside = omega arith;
        enough = omega arith;
      }

  pub read_end : (k : ℕ) → Reading b ws k → length ws ≤ k → ws ≡ take (length ws) (bytes_words b)
  read_end k R h =
      let i = R.inside in
      let e : k ≡ length ws = omega arith in
      sym (take-length ws) ∙ rw e at R.front

pub ruleset reading_laws = (read_none, read_next, read_end)

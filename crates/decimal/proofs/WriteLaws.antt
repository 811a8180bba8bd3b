-- What is written reads back. Assumes nothing.
use mathlib.Core.Bool.{Bool, true, false, not, ◌&&◌}
use mathlib.Core.List.{List, [], ◌∷◌, ◌++◌, append-nil}
use Rattle.std.specs.Prelude.{Some}
use mathlib.Core.Path.{◌≡◌, refl, sym, ◌∙◌}
use Prim.Native.Nat.{ℕ, zero, suc, ◌+◌, ◌-◌, ◌/◌, ◌%◌, ◌^◌, ◌≤◌, ◌<◌}
use native.Mathlib.Nat.{pow-suc, pow-le-pow_right}
use native.Mathlib.Numerals.{add-one, one-add}
use native.Mathlib.Omega.{arith}
use borrow.Rule.Slice.PartMut.{same_len_mid}
use borrow.Author.Tests.{lt-ltb, le-leb, ne_eqb, leb-true, leb-false}
use lib.Dec.{T, leb, lit<}
use lib.IntN.{ℤ, pos, negsuc}
use lib.ListN.{length, get_or, take, drop, set, length-append, length-set, get_or-append}
use lib.Seq.{take_at, drop_at, take-length, drop-length}
use Rattle.rules.specs.Lists.{each}
use Rattle.io.specs.Digits.{hex_digit_ascii, last_digits, IsDigitCount}
use Rattle.decimal.specs.Text.{digit, longer, value, told, leads, unsigned, Wrote, WroteWord}
use Rattle.decimal.proofs.ReadLaws.{leads_one, leads_more}
use Rattle.decimal.proofs.WordLaws.{unsigned_plain}

-- ---- the digits of a number

glyph_is : (n : ℕ) → hex_digit_ascii (n % 10) ≡ 48 + n % 10
glyph_is n = rw (lt-ltb (n % 10) 10 (omega arith))

glyph_digit : (n : ℕ) → digit (hex_digit_ascii (n % 10)) ≡ true
glyph_digit n = rw (glyph_is n, le-leb 48 (48 + n % 10) (omega arith), le-leb (48 + n % 10) 57 (omega arith))

value_last : (v : ℕ) (s : List ℕ) (b : ℕ) → value v (s ++ (b ∷ [])) ≡ longer (value v s) b
unfolding value
value_last v [] b = refl
value_last v (a ∷ s) b = value_last (longer v a) s b

each_last : (s : List ℕ) (b : ℕ) → each digit s ≡ true → digit b ≡ true → each digit (s ++ (b ∷ [])) ≡ true
unfolding each
each_last [] b e h = rw h
each_last (a ∷ s) b e h = by (digit a) refl e (λ u. each_last s b u h)
  where
    by : (d : Bool) → digit a ≡ d → (d && each digit s) ≡ true → (each digit s ≡ true → each digit (s ++ (b ∷ [])) ≡ true)
        → (digit a && each digit (s ++ (b ∷ []))) ≡ true
    by true d e k = rw d (k e)
    by false d e k = absurd (let z : ◌≡◌ {A = ℕ} 0 1 = cc in omega arith)

digits_length : (k n : ℕ) → length (last_digits 10 k n) ≡ k
digits_length zero n = refl
digits_length (suc k) n = let h = digits_length k (n / 10) in rw (length-append (last_digits 10 k (n / 10)) (hex_digit_ascii (n % 10) ∷ [])) (omega arith)

digits_each : (k n : ℕ) → each digit (last_digits 10 k n) ≡ true
unfolding each
digits_each zero n = refl
digits_each (suc k) n = each_last (last_digits 10 k (n / 10)) (hex_digit_ascii (n % 10)) (digits_each k (n / 10)) (glyph_digit n)

digits_value : (k n : ℕ) → n < 10 ^ k → value 0 (last_digits 10 k n) ≡ n
unfolding value
digits_value zero n h = omega arith
digits_value (suc k) n h =
    let p = pow-suc 10 k in
    let e = digits_value k (n / 10) (omega arith) in
    let g = glyph_is n in
    rw (value_last 0 (last_digits 10 k (n / 10)) (hex_digit_ascii (n % 10)), e, g) (omega arith)

-- the first digit of k + 1 is no 0
digits_first : (k n : ℕ) → 10 ^ k ≤ n → n < 10 ^ suc k → get_or (last_digits 10 (suc k) n) 0 0 ≡ 48 → ⊥
digits_first zero n low high e = let g = glyph_is n in omega arith
digits_first (suc k) n low high e =
    let p = pow-suc 10 k in
    let q = pow-suc 10 (suc k) in
    let l = digits_length (suc k) (n / 10) in
    digits_first k (n / 10) (omega arith) (omega arith)
    (sym (get_or-append (last_digits 10 (suc k) (n / 10)) (hex_digit_ascii (n % 10) ∷ []) 0 0 (omega arith)) ∙ e)

digits_lead : (k n : ℕ) → IsDigitCount 10 1 n k → leads (last_digits 10 k n) ≡ true
digits_lead zero n F = absurd (let h = F.0 in omega arith)
digits_lead (suc zero) n F = sym (leads_one (last_digits 10 1 n) (digits_length 1 n))
digits_lead (suc (suc k)) n F =
    let l = digits_length (suc (suc k)) n in
    let one_less : suc (suc k) - 1 ≡ suc k = omega arith in
    let low : 10 ^ suc k ≤ n = rw one_less at (F.2 (omega arith)) in
    sym (leads_more (last_digits 10 (suc (suc k)) n) (λ e. omega arith) (λ e. omega arith))
    ∙ rw (ne_eqb (get_or (last_digits 10 (suc (suc k)) n) 0 0) 48 (digits_first (suc k) n low F.1))

pub reads_back : (k n most : ℕ) → IsDigitCount 10 1 n k → n ≤ most → unsigned most (last_digits 10 k n) ≡ Some n
unfolding told
reads_back k n most F h = rw (digits_lead k n F, digits_each k n, digits_value k n F.1, le-leb n most h)

pub at_most_20 : (k n : ℕ) → IsDigitCount 10 1 n k → n < 2 ^ 64 → k ≤ 20
at_most_20 k n F h = by (leb k 20) refl
  where
    by : (b : Bool) → leb k 20 ≡ b → k ≤ 20
    by true e = leb-true k 20 e
    by false e =
        let l = leb-false k 20 e in
        let p = pow-le-pow_right {n = 10} (lit< tt) {i = 20} {j = k - 1} (omega arith) in
        let q = F.2 (omega arith) in
        absurd (omega arith)

-- ---- a number written

-- the digits in front of a list
pub wrote_as : {n r : ℕ} {before after : List ℕ} → IsDigitCount 10 1 n r → n < 2 ^ 64 → after ≡ last_digits 10 r n ++ drop r before → Wrote n before after r
wrote_as {n} {r} {before} F h e =
    let l = digits_length r n in
    rw e
    (record {
      front = record {
        short = at_most_20 r n F h;
        within = rw length-append (omega arith);
        rest = drop_at (last_digits 10 r n) (drop r before) r l;
      };
      says = λ most k. rw (take_at (last_digits 10 r n) (drop r before) r l) (reads_back r n most F k);
    })

-- ---- a word written

pub wrote_natural : {z : ℤ} {n r : ℕ} {before after : List ℕ} → z ≡ pos n → n < 2147483648 → Wrote n before after r → WroteWord z before after r
wrote_natural {r = r} {after = after} e h W =
    let f = W.front in
    let u = W.says 2147483647 (omega arith) in
    record {
      front = record { short = omega (arith, f.short); within = f.within; rest = f.rest };
      says = rw (unsigned_plain 2147483647 (take r after) u, u, e);
    }

-- a minus sign, and n + 1 written after it
wrote_after_minus : {z : ℤ} {n r b : ℕ} {rest ys : List ℕ} → z ≡ negsuc n → n < 2147483648 → Wrote (n + 1) rest ys r → WroteWord z (b ∷ rest) (45 ∷ ys) (1 + r)
wrote_after_minus {n = n} {r = r} {ys = ys} e h W =
    let f = W.front in
    let u = W.says 2147483648 (omega arith) in
    rw (one-add r)
    (record {
      front = record { short = omega (arith, f.short); within = omega (arith, f.within); rest = f.rest };
      says = rw (u, add-one n, e);
    })

-- the part of a list after its first byte, lent and back
pub wrote_negative : {z : ℤ} {n r : ℕ} (before ys : List ℕ) → 21 ≤ length before → z ≡ negsuc n → n < 2147483648
    → Wrote (n + 1) (take (length (set before 0 45) - 1) (drop 1 (set before 0 45))) ys r
    → WroteWord z before (take 1 (set before 0 45) ++ (ys ++ drop (length (set before 0 45) - 1) (drop 1 (set before 0 45)))) (1 + r)
wrote_negative [] ys l e h W = absurd (omega arith)
wrote_negative (b ∷ rest) ys l e h W =
    let m : suc (length rest) - 1 ≡ length rest = omega arith in
    rw (m, drop-length rest, append-nil ys) (wrote_after_minus e h (rw (m, take-length rest) at W))

-- ---- what a test answered holds

pub holds : {b : Bool} → b ≡ true → T b
holds e = rw e tt

pub fails : {b : Bool} → b ≡ false → T (not b)
fails e = rw e tt

-- a list whose part after the first byte was lent keeps its length
pub length_lent : (before ys : List ℕ) → length ys ≡ length (take (length (set before 0 45) - 1) (drop 1 (set before 0 45)))
    → length (take 1 (set before 0 45) ++ (ys ++ drop (length (set before 0 45) - 1) (drop 1 (set before 0 45)))) ≡ length before
length_lent before ys e = same_len_mid 1 (length (set before 0 45) - 1) (set before 0 45) ys e ∙ length-set before 0 45

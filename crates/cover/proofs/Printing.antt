-- Lines of numbers, written into a buffer. Assumes nothing.
use mathlib.Core.Bool.{Bool, true, false, cond}
use mathlib.Core.List.{List, [], ◌∷◌, ◌++◌, append-nil, append_assoc, map}
use mathlib.Core.Path.{◌≡◌, refl, sym, ap, ◌∙◌}
use Prim.Native.Nat.{ℕ, zero, suc, ◌+◌, ◌-◌, ◌*◌, ◌/◌, ◌%◌, ◌^◌, ◌≤◌, ◌<◌}
use native.Mathlib.Nat.{pow-suc, pow-le-pow_right}
use native.Mathlib.Numerals.{add-one}
use native.Mathlib.Omega.{arith}
use borrow.Author.Tests.{lt-ltb, le-ltb, ltb-true, ltb-false}
use lib.Dec.{ltb, lit<}
use lib.IntN.{ℤ, pos}
use lib.ListN.{length, get_or, take, drop, length-append, length-map, length-drop, drop_of_length-le, get_or-map}
use lib.Seq.{drop-cons, get_or-take, length-take-le}
use Rattle.rules.specs.Words.{word, nat}
use Rattle.rules.specs.Cover.{decimal_within, decimal, line, refusal_line}
use Rattle.io.specs.Counts.{IsPrefixLen}
use Rattle.io.specs.Digits.{hex_digit_ascii, last_digits, IsDigitCount}

-- ---- one after another

pub put_then : (a xs ys : List ℕ) {b c : List ℕ} → b ≡ a ++ xs → c ≡ b ++ ys → c ≡ a ++ (xs ++ ys)
put_then a xs ys p q = q ∙ ap (λ (l : List ℕ). l ++ ys) p ∙ append_assoc a xs ys

-- ---- digits

glyph_is : (n : ℕ) → hex_digit_ascii (n % 10) ≡ 48 + n % 10
glyph_is n = rw (lt-ltb (n % 10) 10 (omega arith))

digits_decimal : (k r n : ℕ) → r ≤ k → IsDigitCount 10 1 n r → last_digits 10 r n ≡ decimal_within k n
unfolding decimal_within
digits_decimal k zero n h F = absurd (let a = F.0 in omega arith)
digits_decimal zero (suc r) n h F = absurd (omega arith)
digits_decimal (suc k) (suc zero) n h F =
    let b : n < 10 = F.1 in
    let m : n % 10 ≡ n = omega arith in
    rw (lt-ltb n 10 b) (ap (λ (x : ℕ). x ∷ []) (glyph_is n ∙ ap (λ (x : ℕ). 48 + x) m))
digits_decimal (suc k) (suc (suc r)) n h F =
    let p = pow-suc 10 r in
    let q = pow-suc 10 (suc r) in
    let one_less : suc (suc r) - 1 ≡ suc r = omega arith in
    let low : 10 ^ suc r ≤ n = rw one_less at (F.2 (omega arith)) in
    let high = F.1 in
    let one : 1 ≤ 10 ^ r = power_some r in
    let two_less : suc r - 1 ≡ r = omega arith in
    let G : IsDigitCount 10 1 (n / 10) (suc r) = (omega arith, (omega arith), λ z. rw two_less (omega arith)) in
    rw (le-ltb n 10 (omega arith), digits_decimal k (suc r) (n / 10) (omega arith) G) (ap (λ (x : ℕ). decimal_within k (n / 10) ++ (x ∷ [])) (glyph_is n))
  where
    power_some : (r : ℕ) → 1 ≤ 10 ^ r
    power_some zero = omega arith
    power_some (suc r) = let p = pow-suc 10 r in let h = power_some r in omega arith

at_most_20 : (k n : ℕ) → IsDigitCount 10 1 n k → n < 2 ^ 64 → k ≤ 20
at_most_20 k n F h = by (ltb 20 k) refl
  where
    by : (b : Bool) → ltb 20 k ≡ b → k ≤ 20
    by true e =
        let l = ltb-true 20 k e in
        let p = pow-le-pow_right {n = 10} (lit< tt) {i = 20} {j = k - 1} (omega arith) in
        let q = F.2 (omega arith) in
        absurd (omega arith)
    by false e = ltb-false 20 k e

module _ (text : List ℕ) (n k : ℕ) (C : IsPrefixLen k text) (F : IsDigitCount 10 1 n k) (D : take k text ≡ last_digits 10 k n) (h : n < 2 ^ 64) where
  pub digits_are : take k text ≡ decimal n
  digits_are = D ∙ digits_decimal 20 k n (at_most_20 k n F h) F

within_short : (k n : ℕ) → length (decimal_within k n) ≤ k
unfolding decimal_within
within_short zero n = omega arith
within_short (suc k) n = by (ltb n 10) (within_short k (n / 10))
  where
    by : (b : Bool) → length (decimal_within k (n / 10)) ≤ k → length (cond b ((48 + n) ∷ []) (decimal_within k (n / 10) ++ ((48 + n % 10) ∷ []))) ≤ suc k
    by true h = omega arith
    by false h = omega (arith, length-append (decimal_within k (n / 10)) ((48 + n % 10) ∷ []))

pub number_short : (n b : ℕ) → length (decimal n ++ (b ∷ [])) ≤ 21
number_short n b = omega (arith, length-append (decimal n) (b ∷ []), within_short 20 n)

-- ---- a line

-- a line has its end
pub line_some : (ns : List ℕ) → 1 ≤ length (line ns)
unfolding line
line_some [] = omega arith
line_some (n ∷ []) = omega (arith, length-append (decimal n) (10 ∷ []))
line_some (n ∷ m ∷ ns) = omega (arith, length-append (decimal n) (32 ∷ line (m ∷ ns)))

pub line_short : (ns : List ℕ) → length (line ns) ≤ 21 * length ns + 1
unfolding line
line_short [] = omega arith
line_short (n ∷ []) = omega (arith, length-append (decimal n) (10 ∷ []), within_short 20 n)
line_short (n ∷ m ∷ ns) =
    omega (arith, length-append (decimal n) (32 ∷ line (m ∷ ns)), within_short 20 n, line_short (m ∷ ns))

pub space_between : (next count : ℕ) → next < count → ◌≡◌ {A = ℕ} 32 (cond (ltb next count) 32 10)
space_between next count h = rw (lt-ltb next count h)

pub lf_last : (next count : ℕ) → count ≤ next → ◌≡◌ {A = ℕ} 10 (cond (ltb next count) 32 10)
lf_last next count h = rw (le-ltb next count h)

abbrev ahead : List ℕ → List ℕ
ahead [] = []
ahead (n ∷ ns) = line (n ∷ ns)

ahead_line : (ns : List ℕ) → (length ns ≡ 0 → ⊥) → ahead ns ≡ line ns
ahead_line [] n = absurd (n refl)
ahead_line (x ∷ ns) n = refl

step : (x : ℕ) (rest : List ℕ) (next count : ℕ) → next + length rest ≡ count → ahead (x ∷ rest) ≡ decimal x ++ (cond (ltb next count) 32 10 ∷ []) ++ ahead rest
unfolding line
step x [] next count e = rw (le-ltb next count (omega arith)) (sym (append-nil (decimal x ++ (10 ∷ []))))
step x (m ∷ rest) next count e = rw (lt-ltb next count (omega arith)) (sym (append_assoc (decimal x) (32 ∷ []) (line (m ∷ rest))))

abbrev pub firsts : List ℤ → ℕ → List ℕ
firsts list n = map nat (take n list)

-- what is in the buffer, with what is still to be put
pub record Lining (out₀ : List ℕ) (list : List ℤ) (count : ℕ) (out : List ℕ) (k : ℕ) : Type 0 where
  pub high : k ≤ count
  pub low : length out ≤ length out₀ + 21 * k
  pub same : out₀ ++ ahead (firsts list count) ≡ out ++ ahead (drop k (firsts list count))

pub line_start : (out : List ℕ) (list : List ℤ) (count : ℕ) → Lining out list count out 0
line_start out list count = record { high = omega arith; low = omega arith; same = refl }

firsts_long : (list : List ℤ) (count : ℕ) → count ≤ length list → length (firsts list count) ≡ count
firsts_long list count h = length-map (take count list) nat ∙ length-take-le count list h

module _ {out₀ : List ℕ} {list : List ℤ} {count : ℕ} {out : List ℕ} {k : ℕ} (L : Lining out₀ list count out k)
    (room : count ≤ length list) where
  abbrev ns : List ℕ
  ns = firsts list count

  next_is : {x : ℕ} → k < count → word list k ≡ pos x → drop k ns ≡ x ∷ drop (k + 1) ns
  next_is {x} h e =
      drop-cons ns k 0 (omega (arith, firsts_long list count room))
      ∙ ap (λ (n : ℕ). get_or ns k 0 ∷ drop n ns) (sym (add-one k))
      ∙ ap (λ (y : ℕ). y ∷ drop (k + 1) ns) (get_or-map nat (take count list) k (pos 0) ∙ ap nat (get_or-take count list k (pos 0) h ∙ e))

  pub line_turn : {x b : ℕ} {out' : List ℕ} → k < count → word list k ≡ pos x → b ≡ cond (ltb (k + 1) count) 32 10
      → out' ≡ out ++ (decimal x ++ (b ∷ [])) → Lining out₀ list count out' (k + 1)
  line_turn {x} {b} {out'} h e u p =
      let l : k + 1 + length (drop (k + 1) ns) ≡ count =
      omega (arith, length-drop (k + 1) ns, firsts_long list count room) in
      let s : ahead (drop k ns) ≡ decimal x ++ (b ∷ []) ++ ahead (drop (k + 1) ns) =
      ap ahead (next_is h e) ∙ step x (drop (k + 1) ns) (k + 1) count l
      ∙ ap (λ (y : ℕ). decimal x ++ (y ∷ []) ++ ahead (drop (k + 1) ns)) (sym u) in
      record {
        high = omega arith;
        low = omega (arith, L.low, number_short x b, ap length p ∙ length-append out (decimal x ++ (b ∷ [])));
        same =
            L.same ∙ ap (λ (y : List ℕ). out ++ y) s
            ∙ sym (append_assoc out (decimal x ++ (b ∷ [])) (ahead (drop (k + 1) ns)))
            ∙ ap (λ (o : List ℕ). o ++ ahead (drop (k + 1) ns)) (sym p);
      }

  pub line_end : (count ≡ 0 → ⊥) → count ≤ k → out ≡ out₀ ++ line ns
  line_end n h =
      let d : drop k ns ≡ [] = drop_of_length-le ns (omega (arith, firsts_long list count room)) in
      sym (append-nil out) ∙ sym (L.same ∙ ap (λ (l : List ℕ). out ++ ahead l) d)
      ∙ ap (λ (y : List ℕ). out₀ ++ y) (ahead_line ns (λ z. n (sym (firsts_long list count room) ∙ z)))

pub line_none : (list : List ℤ) {count : ℕ} → count ≡ 0 → ◌≡◌ {A = List ℕ} (10 ∷ []) (line (firsts list count))
unfolding line
line_none list e = sym (ap (λ (n : ℕ). line (firsts list n)) e)

-- ---- refusals

abbrev pub word_refused : List ℕ
word_refused = 114 ∷ 101 ∷ 102 ∷ 117 ∷ 115 ∷ 101 ∷ 100 ∷ 32 ∷ []

pub refused_put : (a : List ℕ) (n : ℕ) {b c : List ℕ} → b ≡ a ++ word_refused → c ≡ b ++ (decimal n ++ (10 ∷ []))
    → c ≡ a ++ refusal_line (n ∷ [])
unfolding refusal_line line
refused_put a n p q = put_then a _ _ p q

pub faulty_put : (a : List ℕ) (n j : ℕ) {b c d : List ℕ} → b ≡ a ++ word_refused → c ≡ b ++ (decimal n ++ (32 ∷ []))
    → d ≡ c ++ (decimal j ++ (10 ∷ [])) → d ≡ a ++ refusal_line (n ∷ j ∷ [])
unfolding refusal_line line
faulty_put a n j {b} p q s =
    put_then a _ _ p (put_then b _ _ q s)
    ∙ ap (λ (l : List ℕ). a ++ (word_refused ++ l)) (append_assoc (decimal n) (32 ∷ []) (decimal j ++ (10 ∷ [])))

-- Numbers written as bytes, one after another. Assumes nothing.
use mathlib.Core.Path.{◌≡◌, refl, sym, ap, ◌∙◌}
use mathlib.Core.List.{List, [], ◌∷◌, ◌++◌, append-nil, map}
use Prim.Native.Nat.{ℕ, ◌+◌, ◌*◌, ◌≤◌, ◌<◌}
use native.Mathlib.Omega.{arith}
use native.Mathlib.Numerals.{add-one}
use lib.IntN.{ℤ, pos}
use lib.ListN.{length, take, drop, length-append, length-map, length-drop}
use lib.Seq.{sets, sets-eq, take-suc, take_at, drop_at, drop-drop, length-take-le}
use Rattle.rules.specs.Lists.{flat, over}
use Rattle.rules.specs.Words.{word, nat, word_bytes}
use Rattle.laws.specs.Lists.{flat_append}

-- a number takes four bytes
flat_long : (xs : List ℕ) → length (flat word_bytes xs) ≡ 4 * length xs
unfolding flat
flat_long [] = refl
flat_long (x ∷ xs) = length-append (word_bytes x) (flat word_bytes xs) ∙ omega (arith, flat_long xs)

flat_one : (x : ℕ) → flat word_bytes (x ∷ []) ≡ word_bytes x
unfolding flat
flat_one x = append-nil (word_bytes x)

-- the numbers xs stand at the front of out, and the rest is that of out₀
pub record Put (xs : List ℕ) (out₀ out : List ℕ) : Type 0 where
  pub is : out ≡ over (flat word_bytes xs) out₀
  pub room : 4 * length xs ≤ length out₀

put_none : (out : List ℕ) → Put [] out out
unfolding flat
put_none out = record { is = refl; room = omega arith }

pub put_long : {xs out₀ out : List ℕ} → Put xs out₀ out → length out ≡ length out₀
put_long {xs} {out₀} p =
    let r = p.room in
    ap length p.is ∙ length-append (flat word_bytes xs) (drop (length (flat word_bytes xs)) out₀)
    ∙ omega (arith, length-drop (length (flat word_bytes xs)) out₀, flat_long xs)

put_more : {xs out₀ out : List ℕ} (x at : ℕ) {out' : List ℕ} → Put xs out₀ out → at ≡ 4 * length xs
    → at + 4 ≤ length out₀ → out' ≡ sets out at (word_bytes x) → Put (xs ++ x ∷ []) out₀ out'
put_more {xs} {out₀} {out} x at {out'} p e h u =
    let X : List ℕ = flat word_bytes xs in
    let l : length X ≡ at = flat_long xs ∙ sym e in
    let k : at + 4 ≤ length out = omega (arith, put_long p) in
    let f : flat word_bytes (xs ++ x ∷ []) ≡ X ++ word_bytes x = flat_append word_bytes xs (x ∷ []) ∙ ap (λ (v : List ℕ). X ++ v) (flat_one x) in
    let m : length (flat word_bytes (xs ++ x ∷ [])) ≡ at + 4 = ap length f ∙ length-append X (word_bytes x) ∙ omega arith in
    let o : out ≡ X ++ drop at out₀ = p.is ∙ ap (λ (i : ℕ). X ++ drop i out₀) l in
    let t : take at out ≡ X = ap (λ (v : List ℕ). take at v) o ∙ take_at X (drop at out₀) at l in
    let d : drop (at + 4) out ≡ drop (at + 4) out₀ =
    sym (drop-drop 4 at out) ∙ ap (λ (v : List ℕ). drop 4 v) (ap (λ (v : List ℕ). drop at v) o ∙ drop_at X (drop at out₀) at l) ∙ drop-drop 4 at out₀ in
    record {
      is =
          u ∙ sets-eq (word_bytes x) out at k ∙ ap (λ (v : List ℕ). v ++ word_bytes x ++ drop (at + 4) out) t ∙ ap (λ (v : List ℕ). X ++ word_bytes x ++ v) d
          ∙ ap (λ (v : List ℕ). v ++ drop (at + 4) out₀) (sym f)
          ∙ ap (λ (i : ℕ). flat word_bytes (xs ++ x ∷ []) ++ drop i out₀) (sym m);
      room = omega (arith, length-append xs (x ∷ []));
    }

-- ---- the words found, as numbers

abbrev pub firsts : List ℤ → ℕ → List ℕ
firsts found k = map nat (take k found)

firsts_long : (found : List ℤ) (k : ℕ) → k ≤ length found → length (firsts found k) ≡ k
firsts_long found k h = length-map (take k found) nat ∙ length-take-le k found h

map_last : (xs : List ℤ) (z : ℤ) → map nat (xs ++ z ∷ []) ≡ map nat xs ++ nat z ∷ []
map_last [] z = refl
map_last (x ∷ xs) z = ap (λ (l : List ℕ). nat x ∷ l) (map_last xs z)

firsts_next : (found : List ℤ) (k : ℕ) {x : ℕ} → k < length found → word found k ≡ pos x
    → firsts found k ++ x ∷ [] ≡ firsts found (k + 1)
firsts_next found k {x} h e =
    sym (ap (λ (i : ℕ). firsts found i) (add-one k) ∙ ap (λ (l : List ℤ). map nat l) (take-suc found k (pos 0) h) ∙ map_last (take k found) (word found k)
    ∙ ap (λ (z : ℤ). firsts found k ++ nat z ∷ []) e)

-- the depth, and then the numbers found
pub put_depth : (depth : ℕ) (found : List ℤ) {out out' : List ℕ} → 4 ≤ length out
    → out' ≡ sets out 0 (word_bytes depth) → Put (depth ∷ firsts found 0) out out'
put_depth depth found {out} h e = put_more depth 0 (put_none out) refl h e

pub put_next : (depth k : ℕ) (found : List ℤ) {out₀ out : List ℕ} → Put (depth ∷ firsts found k) out₀ out
    → k < length found → 8 + 4 * k ≤ length out₀
    → (x : ℕ) → word found k ≡ pos x → {out' : List ℕ} → out' ≡ sets out (4 + 4 * k) (word_bytes x)
    → Put (depth ∷ firsts found (k + 1)) out₀ out'
put_next depth k found {out₀} {out} p h r x e {out'} u =
    rw (← firsts_next found k h e) (put_more x (4 + 4 * k) p (omega (arith, firsts_long found k (omega arith)))
    (omega arith) u)

map_back : (xs : List ℕ) → map nat (map pos xs) ≡ xs
map_back [] = refl
map_back (x ∷ xs) = ap (λ (l : List ℕ). x ∷ l) (map_back xs)

-- numbers written over the front of `old`
module _ (xs : List ℕ) (old : List ℤ) {found : List ℤ} (e : found ≡ over (map pos xs) old) where
  pub firsts_are : firsts found (length xs) ≡ xs
  firsts_are =
      ap (λ (l : List ℤ). firsts l (length xs)) e
      ∙ ap (λ (l : List ℤ). map nat l) (take_at (map pos xs) (drop (length (map pos xs)) old) (length xs) (length-map xs pos)) ∙ map_back xs

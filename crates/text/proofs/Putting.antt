-- Words written one after another. Assumes nothing.
use Rattle.std.proofs.Common.{◌≡◌, ℕ, suc, ◌+◌, ◌-◌, ◌≤◌, List, [], ◌∷◌, ◌++◌, ℤ, pos, length, set, take, drop, sym, ap, ◌∙◌, arith, length-append, length-drop, append-nil, append_assoc}
use borrow.Rule.Slice.PartMut.{put_mid}
use lib.ListN.{drop_of_length-le, length-set}
use lib.Seq.{sets, length-sets, take_all}
use Rattle.std.proofs.lemmas.List.{drop-drop}
use Rattle.std.proofs.lemmas.List.Edits.{sets-eq}
use Rattle.rules.specs.Lists.{flat}
use Rattle.rules.specs.Text.{Items, entered, entry_words, option_words}
use Rattle.text.specs.Entries.{entries_words}

sets_append : (w : List ℤ) (n : ℕ) (xs ys : List ℤ) → sets w n (xs ++ ys) ≡ sets (sets w n xs) (n + length xs) ys
sets_append w n [] ys = let e : n ≡ n + 0 = omega arith in ap (λ (k : ℕ). sets w k ys) e
sets_append w n (x ∷ xs) ys =
    let e : suc n + length xs ≡ n + suc (length xs) = omega arith in
    sets_append (set w n x) (suc n) xs ys ∙ ap (λ (k : ℕ). sets (sets (set w n x) (suc n) xs) k ys) e

-- ---- words over the front of the rest of a list, from a place on

pub rest_long : (w : List ℤ) (n : ℕ) → length (take (length w - n) (drop n w)) ≡ length w - n
rest_long w n =
    let l = length-drop n w in
    ap length (take_all (length w - n) (drop n w) (omega arith)) ∙ l

pub put_rest : (w new : List ℤ) (n : ℕ) {w' : List ℤ} → n + length new ≤ length w
    → w' ≡ sets (take (length w - n) (drop n w)) 0 new → put_mid n (length w - n) w w' ≡ sets w n new
put_rest w new n {w'} h u =
    let k : ℕ = length w - n in
    let l = length-drop n w in
    let r : take k (drop n w) ≡ drop n w = take_all k (drop n w) (omega arith) in
    let e : drop k (drop n w) ≡ [] = drop_of_length-le (drop n w) (omega arith) in
    let v : w' ≡ new ++ drop (n + length new) w =
    u ∙ ap (λ (l : List ℤ). sets l 0 new) r ∙ sets-eq new (drop n w) 0 (omega arith)
    ∙ ap (λ (l : List ℤ). new ++ l) (drop-drop (0 + length new) n w)
    ∙ (let z : n + (0 + length new) ≡ n + length new = omega arith in ap (λ (k : ℕ). new ++ drop k w) z) in
    ap (λ (l : List ℤ). take n w ++ (w' ++ l)) e ∙ ap (λ (l : List ℤ). take n w ++ l) (append-nil w' ∙ v)
    ∙ sym (sets-eq new w n h ∙ append_assoc (take n w) new (drop (n + length new) w))

-- ---- a loop that writes: of `all`, the words `ahead` are to be written from `next` on

pub record Putting (all ahead w₀ w : List ℤ) (next : ℕ) : Type 0 where
  pub same : sets w₀ 0 all ≡ sets w next ahead
  pub counted : length all ≡ next + length ahead
  pub long : length w ≡ length w₀

module _ {all ahead w₀ w : List ℤ} {next : ℕ} (P : Putting all ahead w₀ w next) (new later : List ℤ)
    (e : ahead ≡ new ++ later) (h : length all ≤ length w₀) where
  pub put_fits : next + length new ≤ length w
  put_fits = let l = P.long in let c = P.counted in omega (arith, ap length e ∙ length-append new later)

  pub put_room : length new ≤ length (take (length w - next) (drop next w))
  put_room = omega (arith, put_fits, rest_long w next)

  pub put_turn : {w' : List ℤ} {r : ℕ} → r ≡ length new → w' ≡ sets (take (length w - next) (drop next w)) 0 new
      → Putting all later w₀ (put_mid next (length w - next) w w') (next + r)
  put_turn {w'} {r} n u =
      let v = put_rest w new next put_fits u in record {
        same =
            P.same ∙ ap (sets w next) e ∙ sets_append w next new later
            ∙ ap (λ (l : List ℤ). sets l (next + length new) later) (sym v)
            ∙ ap (λ (k : ℕ). sets (put_mid next (length w - next) w w') (next + k) later) (sym n);
        counted = P.counted ∙ omega (arith, ap length e ∙ length-append new later);
        long = ap length v ∙ length-sets w next new ∙ P.long;
      }

pub put_skip : {all ahead later w₀ w : List ℤ} {next : ℕ} → Putting all ahead w₀ w next → ahead ≡ later
    → Putting all later w₀ w next
put_skip {w = w} {next = next} P e = record {
  same = P.same ∙ ap (sets w next) e;
  counted = P.counted ∙ ap (λ (l : List ℤ). next + length l) e;
  long = P.long;
}

module _ {all ahead w₀ w : List ℤ} {next : ℕ} (P : Putting all ahead w₀ w next) (e : ahead ≡ []) where
  pub put_end : (next ≡ length all) × (w ≡ sets w₀ 0 all)
  put_end = ((let c = P.counted in omega (arith, ap length e)), sym (P.same ∙ ap (sets w next) e))

-- ---- one piece

pub put_first : (w : List ℤ) {rest new w₁ w₂ : List ℤ} {x : ℤ} → new ≡ x ∷ rest → length new ≤ length w
    → w₁ ≡ set w 0 x → w₂ ≡ sets (take (length w₁ - 1) (drop 1 w₁)) 0 rest
    → put_mid 1 (length w₁ - 1) w₁ w₂ ≡ sets w 0 new
put_first w {rest = rest} {w₁ = w₁} {x = x} e h u v =
    put_rest w₁ rest 1 (omega (arith, ap length e, ap length u ∙ length-set w 0 x)) v
    ∙ ap (λ (l : List ℤ). sets l 1 rest) u ∙ sym (ap (sets w 0) e)

pub set_long : (w : List ℤ) (x : ℤ) {w₁ : List ℤ} → w₁ ≡ set w 0 x → length w₁ ≡ length w
set_long w x u = ap length u ∙ length-set w 0 x

-- ---- the words of a token

module _ (I : Items) where
  pub entries_more : {all ts : List (List ℕ)} {t : List ℕ} → all ≡ t ∷ ts
      → entries_words I all ≡ entry_words (entered I t) ++ entries_words I ts
  unfolding entries_words flat
  entries_more e = ap (flat (λ t. entry_words (entered I t))) e

  pub entries_none : {all : List (List ℕ)} → all ≡ [] → entries_words I all ≡ []
  unfolding entries_words flat
  entries_none e = ap (flat (λ t. entry_words (entered I t))) e

  pub option_is : (ts : List (List ℕ)) {n : ℕ} → n ≡ length ts → option_words I ts ≡ pos n ∷ entries_words I ts
  unfolding option_words entries_words
  option_is ts e = ap (λ (k : ℕ). pos k ∷ flat (λ t. entry_words (entered I t)) ts) (sym e)

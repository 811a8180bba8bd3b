-- The words written as a whole, and what the reader answers. Assumes nothing.
use Rattle.std.proofs.Common.{◌≡◌, ℕ, zero, suc, ◌+◌, ◌-◌, ◌≤◌, ◌<◌, Bool, List, [], ◌∷◌, ◌++◌, ℤ, pos, leb, length, take, drop, set, Option, None, Some, Result, Ok, Err, refl, sym, ap, ◌∙◌, arith}
use borrow.Author.Tests.{le-leb, lt-leb}
use borrow.Rule.Slice.PartMut.{put_mid}
use lib.ListN.{length-set}
use lib.Seq.{sets, sets-eq}
use Rattle.rules.specs.declared.Unread.{Unread}
use Rattle.rules.specs.declared.Unread.TheVariants.{Faulty, Refused}
use Rattle.rules.specs.Lists.{flat, over}
use Rattle.rules.specs.Text.{tokens, lines, stated, Items, items_of, first_bad, option_words, text_words, words_of, unread, read_into, read_stated, read_lines, read_call}
use Rattle.text.specs.declared.names.Names.{Names}
use Rattle.text.specs.declared.pieces.Lines.{Lines}
use Rattle.text.specs.Pieces.{lines_left}
use Rattle.text.specs.Names.{known}
use Rattle.text.specs.Read.{bad_left, stated_left, options_words, ItemsFound, OptionsCounted, words_under, under, heads}
use Rattle.text.proofs.Entering.{numbered}
use Rattle.text.proofs.Putting.{put_rest}

-- ---- the words written

over_is : (all w : List ℤ) → length all ≤ length w → sets w 0 all ≡ over all w
over_is all w h = sets-eq all w 0 (omega arith) ∙ (let e : 0 + length all ≡ length all = omega arith in
    ap (λ (k : ℕ). all ++ drop k w) e)

pub long3 : (w : List ℤ) (x y z : ℤ) {w₁ w₂ w₃ : List ℤ} → w₁ ≡ set w 0 x → w₂ ≡ set w₁ 1 y → w₃ ≡ set w₂ 2 z
    → length w₃ ≡ length w
long3 w x y z {w₁} {w₂} p q r =
    ap length r ∙ length-set w₂ 2 z ∙ ap length q ∙ length-set w₁ 1 y ∙ ap length p ∙ length-set w 0 x

module _ (n : Names) (l : Lines) {a b m : ℕ} (e : a ≡ n.primaries) (f : b ≡ length (tokens n.secondary.now))
    (g : length (stated_left l) ≡ m) where
  abbrev I : Items
  I = known n

  text_is : pos a ∷ pos b ∷ pos m ∷ options_words I (lines_left l.rest) ≡ text_words I (stated_left l)
  unfolding text_words options_words
  text_is = let k : a ≡ length I.primary = e ∙ sym (numbered n [] n.counted) in rw (k, f, sym g) refl

  pub heads_are : (w : List ℤ) {w₁ w₂ w₃ w₄ : List ℤ} → 3 + length (options_words I (lines_left l.rest)) ≤ length w
      → w₁ ≡ set w 0 (pos a) → w₂ ≡ set w₁ 1 (pos b) → w₃ ≡ set w₂ 2 (pos m)
      → w₄ ≡ sets (take (length w₃ - 3) (drop 3 w₃)) 0 (options_words I (lines_left l.rest))
      → put_mid 3 (length w₃ - 3) w₃ w₄ ≡ heads I l w
  heads_are w {w₃ = w₃} h p q r s =
      let all : List ℤ = pos a ∷ pos b ∷ pos m ∷ options_words I (lines_left l.rest) in
      put_rest w₃ (options_words I (lines_left l.rest)) 3 (omega (arith, long3 w _ _ _ p q r)) s
      ∙ ap (λ (x : List ℤ). sets x 3 (options_words I (lines_left l.rest)))
      (r ∙ ap (λ (x : List ℤ). set x 2 (pos m)) (q ∙ ap (λ (x : List ℤ). set x 1 (pos b)) p))
      ∙ over_is all w (omega arith) ∙ ap (λ (x : List ℤ). over x w) text_is

-- ---- the answers

faulty_lines : (j : ℕ) (new : Option (List ℤ)) (ws : List ℤ) → 1 ≤ j → unread (Err (Faulty j)) ws ≡ read_lines j new ws
faulty_lines zero new ws h = absurd (omega arith)
faulty_lines (suc j) new ws h = refl

under_some : (I : Items) (st : List (List (List ℕ))) → (length st ≡ 0 → ⊥) → words_under I st ≡ Some (text_words I st)
under_some I [] n = absurd (n refl)
under_some I (o ∷ os) n = refl

text_long : (I : Items) (st : List (List (List ℕ))) → length (text_words I st) ≡ 3 + length (flat (option_words I) st)
unfolding text_words
text_long I st = omega arith

module _ (n : Names) (l : Lines) (ws : List ℤ) where
  module _ {m w : ℕ} (C : OptionsCounted (known n) l m w) where
    lines_fine : under n l ws ≡ read_stated (words_under (known n) (stated_left l)) ws
    lines_fine = ap (λ (k : ℕ). read_lines k (words_under (known n) (stated_left l)) ws) (C.faultless n.front)

    new_long : length (text_words (known n) (stated_left l)) ≡ 3 + w
    unfolding options_words
    new_long = text_long (known n) (stated_left l) ∙ ap (λ (k : ℕ). 3 + k) C.words_are

    module _ (some : m ≡ 0 → ⊥) where
      some_read : under n l ws ≡ read_into (leb (3 + w) (length ws)) (text_words (known n) (stated_left l)) ws
      some_read =
          lines_fine ∙ ap (λ (o : Option (List ℤ)). read_stated o ws)
          (under_some (known n) (stated_left l) (λ z. some (sym C.options_are ∙ z)))
          ∙ ap (λ (x : ℕ). read_into (leb x (length ws)) (text_words (known n) (stated_left l)) ws) new_long

      pub under_short : length ws < 3 + w → unread (Err (Refused 9)) ws ≡ under n l ws
      under_short h = sym (some_read ∙ rw (lt-leb (3 + w) (length ws) h) refl)

      pub under_read : {ws' : List ℤ} → 3 + w ≤ length ws → ws' ≡ heads (known n) l ws
          → unread (Ok (3 + w)) ws' ≡ under n l ws
      under_read h u =
          sym (some_read ∙ rw (le-leb (3 + w) (length ws) h) refl
          ∙ ap (λ (x : ℕ). unread (Ok x) (heads (known n) l ws)) new_long
          ∙ ap (unread (Ok (3 + w))) (sym u))

-- ---- the whole text

words_of_under : (front : Bool) (i : List (List ℕ)) (os : List (List (List ℕ)))
    → words_of front (i ∷ os) ≡ words_under (items_of front i) os
words_of_under front i [] = refl
words_of_under front i (o ∷ os) = refl

module _ (front : Bool) (text : List ℕ) (ws : List ℤ) where
  pub read_long : 65536 < length text → unread (Err (Refused 3)) ws ≡ read_call text front ws
  unfolding read_call
  read_long h = rw (lt-leb (length text) 65536 h) refl

  module _ (h : length text ≤ 65536) (s : Lines) (e : lines_left s.rest ≡ lines text) (first : s.number ≡ 1) where
    sized : read_call text front ws ≡ read_lines (bad_left front None s) (words_of front (stated_left s)) ws
    unfolding read_call
    sized =
        rw (le-leb (length text) 65536 h) refl
        ∙ sym (ap (λ (ls : List (List ℕ)). read_lines (first_bad front s.number None ls) (words_of front (stated ls))
        ws) e
        ∙ ap (λ (k : ℕ). read_lines (first_bad front k None (lines text)) (words_of front (stated (lines text))) ws)
        first)

    pub read_faulty : {j : ℕ} → (1 ≤ j) × ((front : Bool) → bad_left front None s ≡ j)
        → unread (Err (Faulty j)) ws ≡ read_call text front ws
    read_faulty {j} f =
        faulty_lines j (words_of front (stated_left s)) ws f.0
        ∙ ap (λ (k : ℕ). read_lines k (words_of front (stated_left s)) ws) (sym (f.1 front)) ∙ sym sized

    pub read_missing : ((front : Bool) → bad_left front None s ≡ 0) × (stated_left s ≡ [])
        → unread (Err (Faulty 0)) ws ≡ read_call text front ws
    read_missing f =
        sym (sized ∙ ap (λ (k : ℕ). read_lines k (words_of front (stated_left s)) ws) (f.0 front)
        ∙ ap (λ (st : List (List (List ℕ))). read_stated (words_of front st) ws) f.1)

    pub read_found : {t : Lines} {items : List ℕ} (n : Names) {x : Result ℕ Unread} {ws' : List ℤ}
        → ItemsFound s t items → known n ≡ items_of front (tokens items) → n.front ≡ front
        → unread x ws' ≡ under n t ws → unread x ws' ≡ read_call text front ws
    read_found {t} {items} n F k u v =
        v ∙ ap (λ (b : Bool). read_lines (bad_left b (Some (known n)) t) (words_under (known n) (stated_left t)) ws) u
        ∙ ap (λ (K : Items). read_lines (bad_left front (Some K) t) (words_under K (stated_left t)) ws) k
        ∙ sym (sized ∙ ap (λ (j : ℕ). read_lines j (words_of front (stated_left s)) ws) (F.same_bad front)
        ∙ ap (λ (o : Option (List ℤ)). read_lines (bad_left front (Some (items_of front (tokens items))) t) o ws)
        (ap (words_of front) F.same_stated ∙ words_of_under front (tokens items) (stated_left t)))

-- An event on the table is undone: the links of what left its list still say where it stood.
use Rattle.std.specs.Prelude.{◌≡◌, refl, ◌≢◌, List, [], ◌∷◌, ◌++◌, ℕ, suc, ◌+◌, ◌<◌, ℤ, pos, negsuc, length, get_or, set}
use Rattle.std.proofs.Common.{sym, ap, ◌∙◌, arith, length-set, set-set, get_or-set_same, get_or-set_other}
use Rattle.std.proofs.Math.IntN.{pred_ℤ, suc_ℤ, suc-pred}
use Rattle.std.proofs.lemmas.List.{set_comm, set-get_or}
use Rattle.rules.specs.Words.{nat}
use Rattle.rules.specs.Links.{Event, unlink, remove, mark, up, down, top, colour_at, left, right, link, join, fall}

-- words put back at three places
back3 : (t : List ℤ) (A B C : ℕ) (a b c a' b' c' : ℤ) → A ≢ B → A ≢ C → B ≢ C
    → set (set (set (set (set (set t A a') B b') C c') A a) B b) C c ≡ set (set (set t A a) B b) C c
back3 t A B C a b c a' b' c' ab ac bc =
    rw (
      set_comm (set (set t A a') B b') C A c' a (λ e. ac (sym e)),
      set_comm (set (set (set t A a') B b') A a) C B c' b (λ e. bc (sym e)),
      set-set (set (set (set (set t A a') B b') A a) B b) C c' c,
      set_comm (set t A a') B A b' a (λ e. ab (sym e)),
      set-set t A a' a,
      set-set (set t A a) B b' b,
    )

-- the word at place k rises by one
abbrev pub rise : List ℤ → ℕ → List ℤ
rise t k = set t k (suc_ℤ (get_or t k (pos 0)))

-- node q comes back between its neighbours
unfoldable pub relink : ℕ → List ℤ → ℕ → List ℤ
relink n t q =
    let u : ℕ = link t (up n q) in
    let d : ℕ = link t (down n q) in
    rise (join t (down n u) (pos q) (up n d) (pos q)) (top n (link t (top n q)))

-- an event undone
unfoldable pub undo : ℕ → List ℤ → Event → List ℤ
undo n t (unlink q) = relink n t q
undo n t (remove i) =
    let l : ℕ = link t (left (suc i)) in
    let r : ℕ = link t (right (suc i)) in
    join t (right l) (pos (suc i)) (left r) (pos (suc i))
undo n t (mark q c) = set t (colour_at n q) (pos c)

-- events undone, the last first
unfoldable pub undo_all : ℕ → List ℤ → List Event → List ℤ
undo_all n t [] = t
undo_all n t (e ∷ es) = undo n (undo_all n t es) e

pub undo_append : (n : ℕ) (t : List ℤ) (xs ys : List Event) → undo_all n t (xs ++ ys) ≡ undo_all n (undo_all n t ys) xs
unfolding undo_all
undo_append n t [] ys = refl
undo_append n t (x ∷ xs) ys = ap (λ (z : List ℤ). undo n z x) (undo_append n t xs ys)

-- ---- words

-- a link that is not 0 is a word that is not negative
pub word_of : (z : ℤ) (k : ℕ) → nat z ≡ k → 0 < k → z ≡ pos k
word_of (pos m) k e h = ap pos e
word_of (negsuc m) k e h = absurd (omega arith)

-- two words written
module _ (t : List ℤ) (A B : ℕ) (a b : ℤ) where
  pub join_length : length (join t A a B b) ≡ length t
  join_length = length-set (set t A a) B b ∙ length-set t A a

  pub join_else : (k : ℕ) → k ≢ A → k ≢ B → get_or (join t A a B b) k (pos 0) ≡ get_or t k (pos 0)
  join_else k ka kb = get_or-set_other (set t A a) B k b (pos 0) kb ∙ get_or-set_other t A k a (pos 0) ka

  pub join_first : A ≢ B → A < length t → get_or (join t A a B b) A (pos 0) ≡ a
  join_first ab h = get_or-set_other (set t A a) B A b (pos 0) ab ∙ get_or-set_same t A a (pos 0) h

  pub join_second : B < length t → get_or (join t A a B b) B (pos 0) ≡ b
  join_second h = get_or-set_same (set t A a) B b (pos 0) (rw (length-set t A a) h)

  -- and a third
  module _ (C : ℕ) (c : ℤ) where
    pub third_length : length (set (join t A a B b) C c) ≡ length t
    third_length = length-set (join t A a B b) C c ∙ join_length

    third_join : (k : ℕ) → k ≢ C → get_or (set (join t A a B b) C c) k (pos 0) ≡ get_or (join t A a B b) k (pos 0)
    third_join k kc = get_or-set_other (join t A a B b) C k c (pos 0) kc

    pub third_else : (k : ℕ) → k ≢ A → k ≢ B → k ≢ C → get_or (set (join t A a B b) C c) k (pos 0) ≡ get_or t k (pos 0)
    third_else k ka kb kc = third_join k kc ∙ join_else k ka kb

    pub third_first : A ≢ B → A ≢ C → A < length t → get_or (set (join t A a B b) C c) A (pos 0) ≡ a
    third_first ab ac h = third_join A ac ∙ join_first ab h

    pub third_second : B ≢ C → B < length t → get_or (set (join t A a B b) C c) B (pos 0) ≡ b
    third_second bc h = third_join B bc ∙ join_second h

    pub third_third : C < length t → get_or (set (join t A a B b) C c) C (pos 0) ≡ c
    third_third h = get_or-set_same (join t A a B b) C c (pos 0) (rw join_length h)

  -- one that has fallen
  module _ (C : ℕ) where
    abbrev low : ℤ
    low = pred_ℤ (get_or (join t A a B b) C (pos 0))

    pub fall_length : length (fall (join t A a B b) C) ≡ length t
    fall_length = third_length C low

    pub fall_else : (k : ℕ) → k ≢ A → k ≢ B → k ≢ C → get_or (fall (join t A a B b) C) k (pos 0) ≡ get_or t k (pos 0)
    fall_else = third_else C low

    pub fall_first : A ≢ B → A ≢ C → A < length t → get_or (fall (join t A a B b) C) A (pos 0) ≡ a
    fall_first = third_first C low

    pub fall_second : B ≢ C → B < length t → get_or (fall (join t A a B b) C) B (pos 0) ≡ b
    fall_second = third_second C low

    pub fall_third : C ≢ A → C ≢ B → C < length t → get_or (fall (join t A a B b) C) C (pos 0) ≡ pred_ℤ (get_or t C (pos 0))
    fall_third ca cb h = third_third C low h ∙ ap pred_ℤ (join_else C ca cb)

-- two words changed and put back
pub undo2 : (t : List ℤ) (A B : ℕ) (a b a' b' : ℤ) → A ≢ B → get_or t A (pos 0) ≡ a → get_or t B (pos 0) ≡ b → join (join t A a' B b') A a B b ≡ t
undo2 t A B a b a' b' ab ea eb =
    rw (set_comm (set t A a') B A b' a (λ e. ab (sym e)), set-set t A a' a, set-set (set t A a) B b' b, ← ea, ← eb, set-get_or t A (pos 0), set-get_or t B (pos 0))

-- two words changed and one fallen, and put back
pub undo3 : (t : List ℤ) (A B C : ℕ) (a b a' b' : ℤ) → A ≢ B → A ≢ C → B ≢ C → C < length t → get_or t A (pos 0) ≡ a → get_or t B (pos 0) ≡ b
    → rise (join (fall (join t A a' B b') C) A a B b) C ≡ t
undo3 t A B C a b a' b' ab ac bc h ea eb =
    ap (λ (z : ℤ). set (set (set (set t1 C c') A a) B b) C z) risen ∙ back3 t A B C a b (get_or t C (pos 0)) a' b' c' ab ac bc
    ∙ rw (← ea, ← eb, set-get_or t A (pos 0), set-get_or t B (pos 0), set-get_or t C (pos 0))
  where
    t1 : List ℤ
    t1 = set (set t A a') B b'

    c' : ℤ
    c' = pred_ℤ (get_or t1 C (pos 0))

    kept : get_or t1 C (pos 0) ≡ get_or t C (pos 0)
    kept = get_or-set_other (set t A a') B C b' (pos 0) (λ e. bc (sym e)) ∙ get_or-set_other t A C a' (pos 0) (λ e. ac (sym e))

    inside : C < length t1
    inside = rw (length-set (set t A a') B b', length-set t A a') h

    fallen : get_or (set (set (set t1 C c') A a) B b) C (pos 0) ≡ c'
    fallen =
        get_or-set_other (set (set t1 C c') A a) B C b (pos 0) (λ e. bc (sym e)) ∙ get_or-set_other (set t1 C c') A C a (pos 0) (λ e. ac (sym e))
        ∙ get_or-set_same t1 C c' (pos 0) inside

    risen : suc_ℤ (get_or (set (set (set t1 C c') A a) B b) C (pos 0)) ≡ get_or t C (pos 0)
    risen = ap suc_ℤ fallen ∙ suc-pred (get_or t1 C (pos 0)) ∙ kept

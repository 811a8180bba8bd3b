-- Tables that begin alike go on doing so where the same words are written to both.
use mathlib.Core.Path.{◌≡◌, refl, sym, ap, ◌∙◌}
use mathlib.Core.Bool.{Bool, true, false}
use mathlib.Core.List.Memᴰ.{head as here}
use mathlib.Core.List.Memᴰ.{tail as there}
use mathlib.Core.List.{List, [], ◌∷◌, Memᴰ as Mem}
use Prim.Native.Nat.{ℕ, suc, ◌+◌, ◌≤◌, ◌<◌}
use native.Mathlib.Omega.{arith}
use native.Mathlib.Decide.{ℕ_discrete}
use lib.IntN.{ℤ, pos, negsuc, suc_ℤ}
use lib.ListN.{length, set, length-set}
use lib.Seq.{get_or-set_same, get_or-set_other, ext_get_or}
use Rattle.rules.specs.Words.{word, nat}
use Rattle.rules.specs.Problem.{Entry}
use Rattle.rules.specs.Order.{kept, spacer_after}
use Rattle.rules.specs.Links.{top, up, down, link}
use Rattle.tables.specs.Build.{four, add, add_all, close, add_option, build}
use Rattle.tables.specs.Undo.{rise}
use Rattle.init.specs.SetUp.{Alike}

pub alike_self : (t : List ℤ) → Alike (length t) t t
alike_self t = record { long = omega arith; long' = omega arith; same = λ k h. refl }

-- all words are the same
pub alike_all : {b : ℕ} {t u : List ℤ} → Alike b t u → length t ≡ b → length u ≡ b → t ≡ u
alike_all {b} {t} {u} A e f = ext_get_or (pos 0) t u (e ∙ sym f) (λ k h. A.same k (omega arith))

module _ {b : ℕ} {t u : List ℤ} (A : Alike b t u) where
  pub alike_back : Alike b u t
  alike_back = record { long = A.long'; long' = A.long; same = λ k h. sym (A.same k h) }

  pub alike_then : {v : List ℤ} → Alike b u v → Alike b t v
  alike_then B = record { long = A.long; long' = B.long'; same = λ k h. A.same k h ∙ B.same k h }

  pub alike_less : {c : ℕ} → c ≤ b → Alike c t u
  alike_less h = let l = A.long in let l' = A.long' in record { long = omega arith; long' = omega arith; same = λ k g. A.same k (omega arith) }

  -- one word more
  alike_more : {c : ℕ} → c ≡ b + 1 → b < length t → b < length u → word t b ≡ word u b → Alike c t u
  alike_more {c} e h h' w = record { long = omega arith; long' = omega arith; same = λ k g. go k g (ℕ_discrete k b) }
    where
      go : (k : ℕ) → k < c → Dec (k ≡ b) → word t k ≡ word u k
      go k g (yes z) = rw z w
      go k g (no z) = A.same k (omega arith)

  -- a word of one table, past those that are the same
  alike_past : (k : ℕ) (z : ℤ) → b ≤ k → Alike b (set t k z) u
  alike_past k z h =
      let l = A.long in
      record { long = omega (arith, length-set t k z); long' = A.long'; same = λ j g. get_or-set_other t k j z (pos 0) (omega arith) ∙ A.same j g }

  -- a word of both
  pub alike_set : (k : ℕ) (z : ℤ) → Alike b (set t k z) (set u k z)
  alike_set k z =
      let l = A.long in
      let l' = A.long' in
      record { long = omega (arith, length-set t k z); long' = omega (arith, length-set u k z); same = λ j g. go j g (ℕ_discrete j k) }
    where
      go : (j : ℕ) → j < b → Dec (j ≡ k) → word (set t k z) j ≡ word (set u k z) j
      go j g (yes e) =
          let l = A.long in
          let l' = A.long' in
          rw e (get_or-set_same t k z (pos 0) (omega arith) ∙ sym (get_or-set_same u k z (pos 0) (omega arith)))
      go j g (no e) = get_or-set_other t k j z (pos 0) e ∙ A.same j g ∙ sym (get_or-set_other u k j z (pos 0) e)

  alike_rise : (k : ℕ) → k < b → Alike b (rise t k) (rise u k)
  alike_rise k h = rw (A.same k h) (alike_set k (suc_ℤ (word u k)))

-- the next word, of one table, as it stands in the other
pub alike_put : {b : ℕ} {t u : List ℤ} (A : Alike b t u) (z : ℤ) {c : ℕ} → c ≡ b + 1 → b < length t → b < length u → word u b ≡ z → Alike c (set t b z) u
alike_put {b} {t} A z e h h' w =
    alike_more (alike_past A b z (omega arith)) e (omega (arith, length-set t b z)) h' (get_or-set_same t b z (pos 0) h ∙ sym w)

-- the next word, of both
pub alike_new : {b : ℕ} {t u : List ℤ} (A : Alike b t u) (z : ℤ) {c : ℕ} → c ≡ b + 1 → b < length t → b < length u → Alike c (set t b z) (set u b z)
alike_new {b} {t} {u} A z e h h' =
    alike_more (alike_set A b z) e (omega (arith, length-set t b z)) (omega (arith, length-set u b z))
    (get_or-set_same t b z (pos 0) h ∙ sym (get_or-set_same u b z (pos 0) h'))

-- ---- four words

module _ (k : ℕ) (a b c d : ℤ) where
  pub length_four : (t : List ℤ) → length (four t k a b c d) ≡ length t
  length_four t = simp length-set

  four_kept : {m : ℕ} {t u : List ℤ} → Alike m t u → Alike m (four t k a b c d) (four u k a b c d)
  four_kept A = alike_set (alike_set (alike_set (alike_set A k a) (k + 1) b) (k + 2) c) (k + 3) d

  pub four_past : {t u : List ℤ} → Alike k t u → Alike k (four t k a b c d) u
  four_past A = alike_past (alike_past (alike_past (alike_past A k a (omega arith)) (k + 1) b (omega arith)) (k + 2) c (omega arith)) (k + 3) d (omega arith)

  -- the next four
  four_new : {t u : List ℤ} → Alike k t u → {m : ℕ} → m ≡ k + 4 → m ≤ length t → m ≤ length u → Alike m (four t k a b c d) (four u k a b c d)
  four_new {t} {u} A {m} e h h' =
      let t1 : List ℤ = set t k a in
      let u1 : List ℤ = set u k a in
      let t2 : List ℤ = set t1 (k + 1) b in
      let u2 : List ℤ = set u1 (k + 1) b in
      let t3 : List ℤ = set t2 (k + 2) c in
      let u3 : List ℤ = set u2 (k + 2) c in
      let e1 : (length t1 ≡ length t) × (length u1 ≡ length u) = (length-set t k a, length-set u k a) in
      let e2 : (length t2 ≡ length t1) × (length u2 ≡ length u1) = (length-set t1 (k + 1) b, length-set u1 (k + 1) b) in
      let e3 : (length t3 ≡ length t2) × (length u3 ≡ length u2) = (length-set t2 (k + 2) c, length-set u2 (k + 2) c) in
      let A1 : Alike (k + 1) t1 u1 = alike_new A a refl (omega arith) (omega arith) in
      let A2 : Alike (k + 2) t2 u2 = alike_new A1 b (omega arith) (omega arith) (omega arith) in
      let A3 : Alike (k + 3) t3 u3 = alike_new A2 c (omega arith) (omega arith) (omega arith) in
      alike_new A3 d (omega arith) (omega arith) (omega arith)

  -- the next four, of one table
  pub four_put : {t u : List ℤ} → Alike k t u → {m : ℕ} → m ≡ k + 4 → m ≤ length t → m ≤ length u → word u k ≡ a → word u (k + 1) ≡ b → word u (k + 2) ≡ c → word u (k + 3) ≡ d
      → Alike m (four t k a b c d) u
  four_put {t} {u} A {m} e h h' wa wb wc wd =
      let t1 : List ℤ = set t k a in
      let t2 : List ℤ = set t1 (k + 1) b in
      let t3 : List ℤ = set t2 (k + 2) c in
      let e1 : length t1 ≡ length t = length-set t k a in
      let e2 : length t2 ≡ length t1 = length-set t1 (k + 1) b in
      let e3 : length t3 ≡ length t2 = length-set t2 (k + 2) c in
      let A1 : Alike (k + 1) t1 u = alike_put A a refl (omega arith) (omega arith) wa in
      let A2 : Alike (k + 2) t2 u = alike_put A1 b (omega arith) (omega arith) (omega arith) wb in
      let A3 : Alike (k + 3) t3 u = alike_put A2 c (omega arith) (omega arith) (omega arith) wc in
      alike_put A3 d (omega arith) (omega arith) (omega arith) wd

-- ---- an entry

pub length_add : (n : ℕ) (t : List ℤ) (q : ℕ) (e : Entry) → length (add n t q e) ≡ length t
unfolding add
length_add n t q e = simp length-set

-- the header of an entry's item
abbrev pub header : Entry → ℕ
header e = suc e.item

-- the table once node q is written for the entry, and before the links of its neighbours, of which u is the upper, are turned to it
abbrev pub with_node : ℕ → List ℤ → ℕ → Entry → ℕ → List ℤ
with_node n t q e u = four t (top n q) (pos (header e)) (pos u) (pos (header e)) (pos e.colour)

module _ (n q : ℕ) (e : Entry) where
  turned : (t u : List ℤ) {b : ℕ} → Alike b (with_node n t q e (link u (up n (header e)))) (with_node n u q e (link u (up n (header e))))
      → link t (up n (header e)) ≡ link u (up n (header e)) → top n (header e) < b → Alike b (add n t q e) (add n u q e)
  unfolding add
  turned t u A s h = rw s (alike_rise (alike_set (alike_set A (down n (link u (up n (header e)))) (pos q)) (up n (header e)) (pos q)) (top n (header e)) h)

  -- an entry is added to both
  add_kept : {b : ℕ} {t u : List ℤ} → Alike b t u → top n (suc (header e)) ≤ b → Alike b (add n t q e) (add n u q e)
  add_kept {b} {t} {u} A h =
      turned t u (four_kept (top n q) (pos (header e)) (pos (link u (up n (header e)))) (pos (header e)) (pos e.colour) A)
      (ap nat (A.same (up n (header e)) (omega arith))) (omega arith)

  -- its node is the next of both
  add_new : {t u : List ℤ} → Alike (top n q) t u → header e < q → top n (suc q) ≤ length t → top n (suc q) ≤ length u → Alike (top n (suc q)) (add n t q e) (add n u q e)
  add_new {t} {u} A h l l' =
      turned t u (four_new (top n q) (pos (header e)) (pos (link u (up n (header e)))) (pos (header e)) (pos e.colour) A (omega arith) l l')
      (ap nat (A.same (up n (header e)) (omega arith))) (omega arith)

-- ---- an option, and all options

-- each item has a number below n
abbrev pub Ranged : ℕ → List Entry → Type 0
Ranged n es = (e : Entry) → Mem e es → e.item < n

pub all_none : (n : ℕ) (t : List ℤ) (q : ℕ) → add_all n t q [] ≡ t
unfolding add_all
all_none n t q = refl

pub all_cons : (n : ℕ) (t : List ℤ) (q : ℕ) (e : Entry) (es : List Entry) → add_all n t q (e ∷ es) ≡ add_all n (add n t q e) (suc q) es
unfolding add_all
all_cons n t q e es = refl

pub length_all : (n : ℕ) (t : List ℤ) (q : ℕ) (es : List Entry) → length (add_all n t q es) ≡ length t
unfolding add_all
length_all n t q [] = refl
length_all n t q (e ∷ es) = length_all n (add n t q e) (suc q) es ∙ length_add n t q e

module _ (n : ℕ) where
  all_kept : (q : ℕ) (es : List Entry) → Ranged n es → {b : ℕ} {t u : List ℤ} → Alike b t u → top n (n + 1) ≤ b → Alike b (add_all n t q es) (add_all n u q es)
  unfolding add_all
  all_kept q [] r A h = A
  all_kept q (e ∷ es) r A h = all_kept (suc q) es (λ d m. r d (there m)) (add_kept n q e A (let i = r e (here refl) in omega arith)) h

  -- the entries' nodes are the next of both
  pub all_new : (q : ℕ) (es : List Entry) → Ranged n es → {t u : List ℤ} → Alike (top n q) t u → n < q → top n (q + length es) ≤ length t → top n (q + length es) ≤ length u
      → Alike (top n (q + length es)) (add_all n t q es) (add_all n u q es)
  unfolding add_all
  all_new q [] r A h l l' = alike_less A (omega arith)
  all_new q (e ∷ es) r {t} {u} A h l l' =
      let i = r e (here refl) in
      let s : top n (suc q + length es) ≡ top n (q + suc (length es)) = omega arith in
      rw (← s)
      (all_new (suc q) es (λ d m. r d (there m)) (add_new n q e A (omega arith) (omega arith) (omega arith)) (omega arith)
      (omega (arith, length_add n t q e)) (omega (arith, length_add n u q e)))

  close_kept : (m p k : ℕ) {b : ℕ} {t u : List ℤ} → Alike b t u → Alike b (close n t m p k) (close n u m p k)
  unfolding close
  close_kept m p k A = alike_set (alike_set (alike_set A (down n p) (pos (p + k))) (top n (p + k + 1)) (negsuc m)) (up n (p + k + 1)) (pos (p + 1))

  option_kept : (c : Bool) (m p : ℕ) (o : List Entry) → Ranged n o → {b : ℕ} {t u : List ℤ} → Alike b t u → top n (n + 1) ≤ b → Alike b (add_option c n t m p o) (add_option c n u m p o)
  option_kept true m p o r A h = close_kept m p (length o) (all_kept (p + 1) o r A h)
  option_kept false m p o r A h = A

  pub build_kept : (np m p : ℕ) (os : List (List Entry)) → ((o : List Entry) → Mem o os → Ranged n o) → {b : ℕ} {t u : List ℤ} → Alike b t u → top n (n + 1) ≤ b
      → Alike b (build n np t m p os) (build n np u m p os)
  unfolding build
  build_kept np m p [] r A h = A
  build_kept np m p (o ∷ os) r A h =
      build_kept np (m + 1) (spacer_after (kept np o) p o) os (λ x k. r x (there k)) (option_kept (kept np o) m p o (r o (here refl)) A h) h

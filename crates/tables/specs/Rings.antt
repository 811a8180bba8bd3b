-- A family of rings with their headers, over two link functions: the items' option lists are one, the two rings of items another.
use Rattle.std.specs.Prelude.{◌≡◌, refl, ◌⊎◌, ◌≢◌, Bool, true, false, not, ℕ, suc, ◌+◌, ◌<◌, eqb, length}
use Rattle.std.proofs.Common.{sym, ap, ◌∙◌, inl, inr, eqb→eq, eq-eqb, ne_eqb}
use mathlib.Core.List.Memᴰ.{head as here}
use mathlib.Core.List.Memᴰ.{tail as there}
use mathlib.Core.List.{List, [], ◌∷◌, ◌++◌, Memᴰ as Mem}
use mathlib.Core.List.Memᴰ.{append_cases}
use mathlib.Core.List.Memᴰ.{append_right as in_right}
use mathlib.Core.List.Memᴰ.{cases_cons}
use mathlib.Core.List.Memᴰ.{eq_of_singleton as of-singleton}
use mathlib.Core.List.Memᴰ.{not-nil}
use Rattle.std.proofs.Math.Decide.{ℕ_discrete}
use Rattle.rules.specs.Lists.{keep}
use Rattle.laws.specs.Lists.{keep_mem, keep_in}
use Rattle.laws.specs.Order.{ne→neqb}
use Rattle.tables.specs.Ring.{Linked, Free, Distinct, leave}

-- the list without q
abbrev pub without : ℕ → List ℕ → List ℕ
without q l = keep (λ x. not (eqb q x)) l

-- ---- members

pub free_in : (q : ℕ) (l : List ℕ) → Free q l → {y : ℕ} → Mem y l → q ≢ y
free_in q [] f m = absurd (not-nil m)
free_in q (x ∷ l) f m = step (cases_cons m) (λ m'. free_in q l f.1 m')
  where
    step : {y : ℕ} → (y ≡ x) ⊎ Mem y l → (Mem y l → q ≢ y) → q ≢ y
    step (inl e) rec = λ u. f.0 (u ∙ e)
    step (inr m') rec = rec m'

pub in_free : (q : ℕ) (l : List ℕ) → ((y : ℕ) → Mem y l → q ≢ y) → Free q l
in_free q [] h = tt
in_free q (x ∷ l) h = (h x (here refl), in_free q l (λ y m. h y (there m)))

pub without_free : (q : ℕ) (l : List ℕ) → Free q l → without q l ≡ l
unfolding keep
without_free q [] f = refl
without_free q (x ∷ l) f = rw (ne_eqb q x f.0, without_free q l f.1)

pub without_at : (q : ℕ) (xs ys : List ℕ) → Distinct (xs ++ q ∷ ys) → without q (xs ++ q ∷ ys) ≡ xs ++ ys
unfolding keep
without_at q [] ys d = rw (eq-eqb q q refl, without_free q ys d.0)
without_at q (x ∷ xs) ys d = rw (ne_eqb q x (λ e. free_in x (xs ++ q ∷ ys) d.0 (in_right xs (here refl)) (sym e)), without_at q xs ys d.1)

pub without_mem : (q : ℕ) (l : List ℕ) {y : ℕ} → Mem y (without q l) → Mem y l
without_mem q l m = (keep_mem (λ (x : ℕ). not (eqb q x)) l m).0

pub without_in : (q : ℕ) {l : List ℕ} {y : ℕ} → q ≢ y → Mem y l → Mem y (without q l)
without_in q ne m = keep_in (λ (x : ℕ). not (eqb q x)) m (ne→neqb ne)

-- a member stands between what is before it and what is after it
pub part_at : {q : ℕ} {l : List ℕ} → Mem q l → (xs : List ℕ) × (ys : List ℕ) × (l ≡ xs ++ q ∷ ys)
part_at {q} (here {xs = xs} e) = ([], xs, ap (λ (y : ℕ). y ∷ xs) (sym e))
part_at (there {x = x} m) = let r = part_at m in (x ∷ r.0, r.1, ap (λ (l : List ℕ). x ∷ l) r.2)

length_part : (q : ℕ) (xs ys : List ℕ) → length (xs ++ q ∷ ys) ≡ suc (length (xs ++ ys))
length_part q [] ys = refl
length_part q (x ∷ xs) ys = ap suc (length_part q xs ys)

distinct_part : (q : ℕ) (xs ys : List ℕ) → Distinct (xs ++ q ∷ ys) → Distinct (xs ++ ys)
distinct_part q [] ys d = d.1
distinct_part q (x ∷ xs) ys d =
    (in_free x (xs ++ ys) (λ y m. free_in x (xs ++ q ∷ ys) d.0 (wider xs m)), distinct_part q xs ys d.1)
  where
    wider : (zs : List ℕ) {y : ℕ} → Mem y (zs ++ ys) → Mem y (zs ++ q ∷ ys)
    wider [] m = there m
    wider (z ∷ zs) (here e) = here e
    wider (z ∷ zs) (there m) = there (wider zs m)

module _ {q : ℕ} {l : List ℕ} (d : Distinct l) (m : Mem q l) where
  pub without_length : length l ≡ suc (length (without q l))
  without_length =
      let p = part_at m in
      let dl : Distinct (p.0 ++ q ∷ p.1) = rw p.2 at d in
      rw (p.2, without_at q p.0 p.1 dl) (length_part q p.0 p.1)

  without_distinct : Distinct (without q l)
  without_distinct =
      let p = part_at m in
      let dl : Distinct (p.0 ++ q ∷ p.1) = rw p.2 at d in
      rw (p.2, without_at q p.0 p.1 dl) (distinct_part q p.0 p.1 dl)

-- ---- neighbours

module _ (nx pv : ℕ → ℕ) where
  pub before_in : (a : ℕ) (l : List ℕ) (h : ℕ) → Linked nx pv a l h → {q : ℕ} → Mem q l → Mem (pv q) (a ∷ l)
  before_in a [] h k m = absurd (not-nil m)
  before_in a (x ∷ l) h k {q} m = step (cases_cons m) (λ m'. before_in x l h k.2 m')
    where
      step : (q ≡ x) ⊎ Mem q l → (Mem q l → Mem (pv q) (x ∷ l)) → Mem (pv q) (a ∷ x ∷ l)
      step (inl e) rec = here (ap pv e ∙ k.1)
      step (inr m') rec = there (rec m')

  pub following_in : (a : ℕ) (l : List ℕ) (h : ℕ) → Linked nx pv a l h → Mem (nx a) (h ∷ l)
  following_in a [] h k = here k.0
  following_in a (x ∷ l) h k = there (here k.0)

  following_back : (a : ℕ) (l : List ℕ) (h : ℕ) → Linked nx pv a l h → pv (nx a) ≡ a
  following_back a [] h k = ap pv k.0 ∙ k.1
  following_back a (x ∷ l) h k = ap pv k.0 ∙ k.1

  pub behind_in : (a : ℕ) (l : List ℕ) (h : ℕ) → Linked nx pv a l h → {q : ℕ} → Mem q l → Mem (nx q) (h ∷ l)
  behind_in a [] h k m = absurd (not-nil m)
  behind_in a (x ∷ l) h k {q} m = step (cases_cons m) (λ m'. behind_in x l h k.2 m')
    where
      wider : {z : ℕ} → Mem z (h ∷ l) → Mem z (h ∷ x ∷ l)
      wider (here e) = here e
      wider (there m) = there (there m)

      step : (q ≡ x) ⊎ Mem q l → (Mem q l → Mem (nx q) (h ∷ l)) → Mem (nx q) (h ∷ x ∷ l)
      step (inl e) rec = rw e (wider (following_in x l h k.2))
      step (inr m') rec = wider (rec m')

  pub back_from : (a : ℕ) (l : List ℕ) (h : ℕ) → Linked nx pv a l h → {q : ℕ} → Mem q l → pv (nx q) ≡ q
  back_from a [] h k m = absurd (not-nil m)
  back_from a (x ∷ l) h k {q} m = step (cases_cons m) (λ m'. back_from x l h k.2 m')
    where
      step : (q ≡ x) ⊎ Mem q l → (Mem q l → pv (nx q) ≡ q) → pv (nx q) ≡ q
      step (inl e) rec = rw e (following_back x l h k.2)
      step (inr m') rec = rec m'

  pub forth_to : (a : ℕ) (l : List ℕ) (h : ℕ) → Linked nx pv a l h → {q : ℕ} → Mem q l → nx (pv q) ≡ q
  forth_to a [] h k m = absurd (not-nil m)
  forth_to a (x ∷ l) h k {q} m = step (cases_cons m) (λ m'. forth_to x l h k.2 m')
    where
      step : (q ≡ x) ⊎ Mem q l → (Mem q l → nx (pv q) ≡ q) → nx (pv q) ≡ q
      step (inl e) rec = rw (e, k.1) k.0
      step (inr m') rec = rec m'

  pub before_other : (a : ℕ) (l : List ℕ) (h : ℕ) → Distinct (a ∷ l) → Linked nx pv a l h → {q : ℕ} → Mem q l → pv q ≢ q
  before_other a [] h d k m = absurd (not-nil m)
  before_other a (x ∷ l) h d k {q} m = step (cases_cons m) (λ m'. before_other x l h d.1 k.2 m')
    where
      step : (q ≡ x) ⊎ Mem q l → (Mem q l → pv q ≢ q) → pv q ≢ q
      step (inl e) rec = λ z. d.0.0 (sym k.1 ∙ ap pv (sym e) ∙ z ∙ e)
      step (inr m') rec = rec m'

  -- the links are the same at all members
  pub same_links : (nx' pv' : ℕ → ℕ) (a : ℕ) (l : List ℕ) (h : ℕ) → ((x : ℕ) → Mem x (a ∷ l) → nx' x ≡ nx x) → ((x : ℕ) → Mem x (h ∷ l) → pv' x ≡ pv x)
      → Linked nx pv a l h → Linked nx' pv' a l h
  same_links nx' pv' a [] h sn sp k = (sn a (here refl) ∙ k.0, sp h (here refl) ∙ k.1)
  same_links nx' pv' a (x ∷ l) h sn sp k =
      (sn a (here refl) ∙ k.0, sp x (there (here refl)) ∙ k.1, same_links nx' pv' x l h (λ y m. sn y (there m)) (λ y m. sp y (over m)) k.2)
    where
      over : {y : ℕ} → Mem y (h ∷ l) → Mem y (h ∷ x ∷ l)
      over (here e) = here e
      over (there m) = there (there m)

-- ---- the family: m rings, `head i` is the header of ring i and `l i` its members in order

pub record Rings (m : ℕ) (head : ℕ → ℕ) (nx pv : ℕ → ℕ) (l : ℕ → List ℕ) : Type 0 where
  pub linked : (i : ℕ) → i < m → Linked nx pv (head i) (l i) (head i)
  pub distinct : (i : ℕ) → i < m → Distinct (head i ∷ l i)
  -- no two rings have a member in common
  pub apart : (i j : ℕ) → i < m → j < m → i ≢ j → (y z : ℕ) → Mem y (head i ∷ l i) → Mem z (head j ∷ l j) → y ≢ z

module _ (m : ℕ) (head nx pv : ℕ → ℕ) (l : ℕ → List ℕ) (R : Rings m head nx pv l) where
  -- the links may change at other places
  pub rings_links : (nx' pv' : ℕ → ℕ) → ((i : ℕ) → i < m → (x : ℕ) → Mem x (head i ∷ l i) → (nx' x ≡ nx x) × (pv' x ≡ pv x)) → Rings m head nx' pv' l
  rings_links nx' pv' s = record {
    linked = λ i hi. same_links nx pv nx' pv' (head i) (l i) (head i) (λ x mx. (s i hi x mx).0) (λ x mx. (s i hi x mx).1) (R.linked i hi);
    distinct = R.distinct;
    apart = R.apart;
  }

  pub rings_lists : (l' : ℕ → List ℕ) → ((i : ℕ) → i < m → l' i ≡ l i) → Rings m head nx pv l'
  rings_lists l' s = record {
    linked = λ i hi. rw (s i hi) (R.linked i hi);
    distinct = λ i hi. rw (s i hi) (R.distinct i hi);
    apart = λ i j hi hj ne y z my mz. R.apart i j hi hj ne y z (rw (s i hi) at my) (rw (s j hj) at mz);
  }

  module _ (i : ℕ) (hi : i < m) (q : ℕ) (mq : Mem q (l i)) where
    pub u_in : Mem (pv q) (head i ∷ l i)
    u_in = before_in nx pv (head i) (l i) (head i) (R.linked i hi) mq

    pub d_in : Mem (nx q) (head i ∷ l i)
    d_in = behind_in nx pv (head i) (l i) (head i) (R.linked i hi) mq

    pub u_other : pv q ≢ q
    u_other = before_other nx pv (head i) (l i) (head i) (R.distinct i hi) (R.linked i hi) mq

    pub forth : nx (pv q) ≡ q
    forth = forth_to nx pv (head i) (l i) (head i) (R.linked i hi) mq

    pub back : pv (nx q) ≡ q
    back = back_from nx pv (head i) (l i) (head i) (R.linked i hi) mq

    pub d_other : nx q ≢ q
    d_other = λ e. u_other (ap pv (sym e) ∙ back)

    -- q is in no other ring
    pub foreign : (j : ℕ) → j < m → j ≢ i → without q (l j) ≡ l j
    foreign j hj ne = without_free q (l j) (in_free q (l j) (λ y my. R.apart i j hi hj (λ e. ne (sym e)) q y (there mq) (there my)))

    module _ (nx' pv' : ℕ → ℕ) (n_else : (x : ℕ) → x ≢ pv q → nx' x ≡ nx x) (n_new : nx' (pv q) ≡ nx q)
        (p_else : (x : ℕ) → x ≢ nx q → pv' x ≡ pv x) (p_new : pv' (nx q) ≡ pv q) where
      linked_on : (j : ℕ) → j < m → Dec (j ≡ i) → Linked nx' pv' (head j) (without q (l j)) (head j)
      linked_on j hj (yes e) =
          let p = part_at mq in
          let dl : Distinct (head i ∷ (p.0 ++ q ∷ p.1)) = rw p.2 at (R.distinct i hi) in
          let lk : Linked nx pv (head i) (p.0 ++ q ∷ p.1) (head i) = rw p.2 at (R.linked i hi) in
          rw (e, p.2, without_at q p.0 p.1 dl.1) (leave nx pv nx' pv' q n_else n_new p_else p_new (head i) p.0 p.1 (head i) dl.0 dl.0 dl.1 lk)
      linked_on j hj (no ne) =
          let other : (y : ℕ) → Mem y (head i ∷ l i) → (z : ℕ) → Mem z (head j ∷ l j) → y ≢ z = λ y my z mz. R.apart i j hi hj (λ e. ne (sym e)) y z my mz in
          rw (foreign j hj ne)
          (same_links nx pv nx' pv' (head j) (l j) (head j) (λ x mx. n_else x (λ e. other (pv q) u_in x mx (sym e))) (λ x mx. p_else x (λ e. other (nx q) d_in x mx (sym e))) (R.linked j hj))

      distinct_on : (j : ℕ) → j < m → Dec (j ≡ i) → Distinct (head j ∷ without q (l j))
      distinct_on j hj (yes e) =
          let d = R.distinct i hi in
          rw e (in_free (head i) (without q (l i)) (λ y my. free_in (head i) (l i) d.0 (without_mem q (l i) my)), without_distinct d.1 mq)
      distinct_on j hj (no ne) = rw (foreign j hj ne) (R.distinct j hj)

      -- q leaves its ring
      pub rings_leave : Rings m head nx' pv' (λ j. without q (l j))
      rings_leave = record {
        linked = λ j hj. linked_on j hj (ℕ_discrete j i);
        distinct = λ j hj. distinct_on j hj (ℕ_discrete j i);
        apart = λ j k hj hk ne y z my mz. R.apart j k hj hk ne y z (wider j my) (wider k mz);
      }
        where
          wider : (j : ℕ) {y : ℕ} → Mem y (head j ∷ without q (l j)) → Mem y (head j ∷ l j)
          wider j (here e) = here e
          wider j (there my) = there (without_mem q (l j) my)

-- ---- a new member at the end

abbrev pub more : Bool → ℕ → List ℕ → List ℕ
more true q l = l ++ q ∷ []
more false q l = l

pub more_mem_of : (i q : ℕ) (l : List ℕ) (j : ℕ) {y : ℕ} → Mem y (more (eqb i j) q l) → ((y ≡ q) × (i ≡ j)) ⊎ Mem y l
more_mem_of i q l j {y} my = go (eqb i j) refl my
  where
    go : (b : Bool) → eqb i j ≡ b → Mem y (more b q l) → ((y ≡ q) × (i ≡ j)) ⊎ Mem y l
    go false e my = inr my
    go true e my = last (append_cases l my)
      where
        last : Mem y l ⊎ Mem y (q ∷ []) → ((y ≡ q) × (i ≡ j)) ⊎ Mem y l
        last (inl k) = inr k
        last (inr k) = inl (of-singleton k, eqb→eq i j (rw e tt))

pub last_in : (nx pv : ℕ → ℕ) (a : ℕ) (l : List ℕ) (h : ℕ) → Linked nx pv a l h → Mem (pv h) (a ∷ l)
last_in nx pv a [] h k = here k.1
last_in nx pv a (x ∷ l) h k = there (last_in nx pv x l h k.2)

distinct_more : (l : List ℕ) (q : ℕ) → Distinct l → ((y : ℕ) → Mem y l → y ≢ q) → Distinct (l ++ q ∷ [])
distinct_more [] q d h = (tt, tt)
distinct_more (x ∷ l) q d h = (in_free x (l ++ q ∷ []) (λ y m. go y (append_cases l m)), distinct_more l q d.1 (λ y m. h y (there m)))
  where
    go : (y : ℕ) → Mem y l ⊎ Mem y (q ∷ []) → x ≢ y
    go y (inl m) = free_in x l d.0 m
    go y (inr m) = λ e. h x (here refl) (e ∙ of-singleton m)

module _ (m : ℕ) (head nx pv : ℕ → ℕ) (l : ℕ → List ℕ) (R : Rings m head nx pv l) (i : ℕ) (hi : i < m) (q : ℕ)
    (new : (j : ℕ) → j < m → (y : ℕ) → Mem y (head j ∷ l j) → y ≢ q) (nx' pv' : ℕ → ℕ)
    (n_else : (x : ℕ) → x ≢ pv (head i) → x ≢ q → nx' x ≡ nx x) (n_last : nx' (pv (head i)) ≡ q) (n_new : nx' q ≡ head i)
    (p_else : (x : ℕ) → x ≢ head i → x ≢ q → pv' x ≡ pv x) (p_head : pv' (head i) ≡ q) (p_new : pv' q ≡ pv (head i)) where
  append_linked : (a : ℕ) (xs : List ℕ) → Linked nx pv a xs (head i) → Distinct (a ∷ xs) → Free (head i) xs → ((y : ℕ) → Mem y (a ∷ xs) → y ≢ q) → Linked nx' pv' a (xs ++ q ∷ []) (head i)
  append_linked a [] k d f o = (ap nx' (sym k.1) ∙ n_last, p_new ∙ k.1, (n_new, p_head))
  append_linked a (x ∷ xs) k d f o = (
    n_else a (λ e. free_in a (x ∷ xs) d.0 (last_in nx pv x xs (head i) k.2) e) (o a (here refl)) ∙ k.0,
    p_else x (λ e. f.0 (sym e)) (o x (there (here refl))) ∙ k.1,
    append_linked x xs k.2 d.1 f.1 (λ y my. o y (there my)),
  )

  linked_more : (j : ℕ) → j < m → Dec (i ≡ j) → Linked nx' pv' (head j) (more (eqb i j) q (l j)) (head j)
  linked_more j hj (yes e) =
      rw (eq-eqb i j e, ← e) (append_linked (head i) (l i) (R.linked i hi) (R.distinct i hi) (R.distinct i hi).0 (new i hi))
  linked_more j hj (no ne) =
      let other : (y : ℕ) → Mem y (head i ∷ l i) → (z : ℕ) → Mem z (head j ∷ l j) → y ≢ z = λ y my z mz. R.apart i j hi hj ne y z my mz in
      rw (ne_eqb i j ne) (same_links nx pv nx' pv' (head j) (l j) (head j)
      (λ x mx. n_else x (λ e. other (pv (head i)) (last_in nx pv (head i) (l i) (head i) (R.linked i hi)) x mx (sym e)) (new j hj x mx))
      (λ x mx. p_else x (λ e. other (head i) (here refl) x mx (sym e)) (new j hj x mx)) (R.linked j hj))

  distinct_now : (j : ℕ) → j < m → Dec (i ≡ j) → Distinct (head j ∷ more (eqb i j) q (l j))
  distinct_now j hj (yes e) = rw (eq-eqb i j e, ← e) (distinct_more (head i ∷ l i) q (R.distinct i hi) (new i hi))
  distinct_now j hj (no ne) = rw (ne_eqb i j ne) (R.distinct j hj)

  pub rings_append : Rings m head nx' pv' (λ j. more (eqb i j) q (l j))
  rings_append = record {
    linked = λ j hj. linked_more j hj (ℕ_discrete i j);
    distinct = λ j hj. distinct_now j hj (ℕ_discrete i j);
    apart = λ j k hj hk ne y z my mz. go j k hj hk ne y z (split j my) (split k mz);
  }
    where
      split : (j : ℕ) {y : ℕ} → Mem y (head j ∷ more (eqb i j) q (l j)) → ((y ≡ q) × (i ≡ j)) ⊎ Mem y (head j ∷ l j)
      split j (here e) = inr (here e)
      split j {y} (there my) = wider (more_mem_of i q (l j) j my)
        where
          wider : ((y ≡ q) × (i ≡ j)) ⊎ Mem y (l j) → ((y ≡ q) × (i ≡ j)) ⊎ Mem y (head j ∷ l j)
          wider (inl e) = inl e
          wider (inr k) = inr (there k)

      go : (j k : ℕ) → j < m → k < m → j ≢ k → (y z : ℕ) → ((y ≡ q) × (i ≡ j)) ⊎ Mem y (head j ∷ l j) → ((z ≡ q) × (i ≡ k)) ⊎ Mem z (head k ∷ l k) → y ≢ z
      go j k hj hk ne y z (inl a) (inl b) = absurd (ne (sym a.1 ∙ b.1))
      go j k hj hk ne y z (inl a) (inr b) = λ e. new k hk z b (sym e ∙ a.0)
      go j k hj hk ne y z (inr a) (inl b) = λ e. new j hj y a (e ∙ b.0)
      go j k hj hk ne y z (inr a) (inr b) = R.apart j k hj hk ne y z a b

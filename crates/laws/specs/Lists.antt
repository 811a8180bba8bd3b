-- Laws of the lists that `rules` defines: membership, lengths, pairs of members.
use Rattle.std.specs.Prelude.{◌≡◌, ◌⊎◌, Bool, true, false, not, ◌&&◌, ◌||◌, ℕ, zero, suc, ◌+◌, ◌≤◌, ◌<◌, eqb, length, take, drop}
use Rattle.std.proofs.Math.Path.{refl}
use Rattle.std.proofs.Common.{ap, ◌∙◌, inl, inr, append_assoc, eqb→eq}
use mathlib.Core.List.Memᴰ.{head as here}
use mathlib.Core.List.Memᴰ.{tail as there}
use mathlib.Core.List.{List, [], ◌∷◌, ◌++◌, map, Memᴰ as Mem}
use mathlib.Core.List.Memᴰ
use mathlib.Core.List.Memᴰ.{append_cases}
use mathlib.Core.List.Memᴰ.{cases_cons}
use mathlib.Core.List.Memᴰ.{not-nil}
use native.Mathlib.Omega.{arith}
use Rattle.std.proofs.Math.Dec.{T, eqb_refl}
use Rattle.rules.specs.Lists.{also, keep, each, has, flat, run}

-- ---- tests

-- from two constructors that cannot be equal: `cc` brings them to 0 ≡ 1
pub cannot : {A : Type 0} → ◌≡◌ {A = ℕ} 0 1 → A
cannot e = absurd (omega arith)

pub and_left : (a b : Bool) → T (a && b) → T a
and_left true b t = tt
and_left false b t = t

pub and_right : (a b : Bool) → T (a && b) → T b
and_right true b t = t
and_right false b t = absurd t

pub and_both : (a b : Bool) → T a → T b → T (a && b)
and_both true b s t = t
and_both false b s t = s

pub or_cases : (a b : Bool) → T (a || b) → T a ⊎ T b
or_cases true b t = inl tt
or_cases false b t = inr t

pub or_left : (a b : Bool) → T a → T (a || b)
or_left true b t = tt
or_left false b t = absurd t

pub or_right : (a b : Bool) → T b → T (a || b)
or_right true b t = tt
or_right false b t = t

-- a test passes or fails
pub tested : (b : Bool) → T b ⊎ T (not b)
tested true = inl tt
tested false = inr tt

module _ {A : Type 0} where
  pub also_mem : (b : Bool) {x y : A} {r : List A} → Mem y (also b x r) → (T b × (y ≡ x)) ⊎ Mem y r
  also_mem true {x} {y} {r} m = step (cases_cons m)
    where
      step : (y ≡ x) ⊎ Mem y r → (T true × (y ≡ x)) ⊎ Mem y r
      step (inl e) = inl (tt, e)
      step (inr m') = inr m'
  also_mem false m = inr m

  pub also_rest : (b : Bool) (x : A) {y : A} {r : List A} → Mem y r → Mem y (also b x r)
  also_rest true x m = there m
  also_rest false x m = m

  pub also_head : (b : Bool) {x y : A} (r : List A) → T b → y ≡ x → Mem y (also b x r)
  also_head true r t e = here e
  also_head false r t e = absurd t

  module _ (p : A → Bool) where
    pub keep_mem : (xs : List A) {y : A} → Mem y (keep p xs) → Mem y xs × T (p y)
    unfolding keep
    keep_mem [] m = absurd (not-nil m)
    keep_mem (x ∷ xs) {y} m = step (also_mem (p x) m) (λ m'. keep_mem xs m')
      where
        step : (T (p x) × (y ≡ x)) ⊎ Mem y (keep p xs) → (Mem y (keep p xs) → Mem y xs × T (p y)) → Mem y (x ∷ xs) × T (p y)
        step (inl (t, e)) rec = (here e, rw e t)
        step (inr m') rec = let r = rec m' in (there r.0, r.1)

    pub keep_in : {y : A} {xs : List A} → Mem y xs → T (p y) → Mem y (keep p xs)
    unfolding keep
    keep_in (here {x = x} {xs = xs} e) t = also_head (p x) (keep p xs) (rw e at t) e
    keep_in (there {x = x} m) t = also_rest (p x) x (keep_in m t)

    pub each_at : {y : A} {xs : List A} → T (each p xs) → Mem y xs → T (p y)
    unfolding each
    each_at t (here {x = x} {xs = xs} e) = rw e (and_left (p x) (each p xs) t)
    each_at t (there {x = x} {xs = xs} m) = each_at (and_right (p x) (each p xs) t) m

    pub each_all : (xs : List A) → ((y : A) → Mem y xs → T (p y)) → T (each p xs)
    unfolding each
    each_all [] h = tt
    each_all (x ∷ xs) h = and_both (p x) (each p xs) (h x (here refl)) (each_all xs (λ y m. h y (there m)))

    pub has_at : (xs : List A) → T (has p xs) → (y : A) × Mem y xs × T (p y)
    unfolding has
    has_at [] t = absurd t
    has_at (x ∷ xs) t = step (or_cases (p x) (has p xs) t) (λ u. has_at xs u)
      where
        step : T (p x) ⊎ T (has p xs) → (T (has p xs) → (y : A) × Mem y xs × T (p y)) → (y : A) × Mem y (x ∷ xs) × T (p y)
        step (inl u) rec = (x, here refl, u)
        step (inr u) rec = let r = rec u in (r.0, there r.1, r.2)

    pub has_in : {y : A} {xs : List A} → Mem y xs → T (p y) → T (has p xs)
    unfolding has
    has_in (here {x = x} {xs = xs} e) t = or_left (p x) (has p xs) (rw e at t)
    has_in (there {x = x} {xs = xs} m) t = or_right (p x) (has p xs) (has_in m t)

module _ {A B : Type 0} (f : A → List B) where
  pub flat_mem : (xs : List A) {y : B} → Mem y (flat f xs) → (x : A) × Mem x xs × Mem y (f x)
  unfolding flat
  flat_mem [] m = absurd (not-nil m)
  flat_mem (x ∷ xs) {y} m = step (append_cases (f x) m) (λ m'. flat_mem xs m')
    where
      step : Mem y (f x) ⊎ Mem y (flat f xs) → (Mem y (flat f xs) → (z : A) × Mem z xs × Mem y (f z)) → (z : A) × Mem z (x ∷ xs) × Mem y (f z)
      step (inl m') rec = (x, here refl, m')
      step (inr m') rec = let r = rec m' in (r.0, there r.1, r.2)

  pub flat_in : {x : A} {xs : List A} {y : B} → Mem x xs → Mem y (f x) → Mem y (flat f xs)
  unfolding flat
  flat_in {y = y} (here {xs = xs} e) m = Memᴰ.append_left (flat f xs) (rw e at m)
  flat_in (there {x = x} m) m' = Memᴰ.append_right (f x) (flat_in m m')

pub run_mem : (a n : ℕ) {i : ℕ} → Mem i (run a n) → (a ≤ i) × (i < a + n)
unfolding run
run_mem a zero m = absurd (not-nil m)
run_mem a (suc n) {i} m = step (cases_cons m) (λ m'. run_mem (suc a) n m')
  where
    step : (i ≡ a) ⊎ Mem i (run (suc a) n) → (Mem i (run (suc a) n) → (suc a ≤ i) × (i < suc a + n)) → (a ≤ i) × (i < a + suc n)
    step (inl e) rec = (omega arith, omega arith)
    step (inr m') rec = let r = rec m' in (omega arith, omega arith)

pub run_in : (a n i : ℕ) → a ≤ i → i < a + n → Mem i (run a n)
unfolding run
run_in a zero i h k = absurd (omega arith)
run_in a (suc n) i h k = step (native.Mathlib.Decide.dec_le (suc a) i) (λ u. run_in (suc a) n i u (omega arith))
  where
    step : Dec (suc a ≤ i) → (suc a ≤ i → Mem i (run (suc a) n)) → Mem i (a ∷ run (suc a) n)
    step (yes u) rec = there (rec u)
    step (no f) rec = here (let e : i ≡ a = omega arith in e)

-- ---- lengths

module _ {A : Type 0} where
  pub mem_length : {xs : List A} {y : A} → Mem y xs → 0 < length xs
  mem_length (here e) = omega arith
  mem_length (there m) = omega arith

  also_le : (b c : Bool) (x : A) (r r' : List A) → (T c → T b) → length r' ≤ length r → length (also c x r') ≤ length (also b x r)
  also_le true true x r r' h l = omega arith
  also_le true false x r r' h l = omega arith
  also_le false true x r r' h l = absurd (h tt)
  also_le false false x r r' h l = l

  also_lt : (b c : Bool) (x : A) (r r' : List A) → (T c → T b) → length r' < length r → length (also c x r') < length (also b x r)
  also_lt true true x r r' h l = omega arith
  also_lt true false x r r' h l = omega arith
  also_lt false true x r r' h l = absurd (h tt)
  also_lt false false x r r' h l = l

  also_drop : (b c : Bool) (x : A) (r r' : List A) → T b → T (not c) → length r' ≤ length r → length (also c x r') < length (also b x r)
  also_drop true false x r r' t f l = omega arith
  also_drop true true x r r' t f l = absurd f
  also_drop false c x r r' t f l = absurd t

  module _ (p q : A → Bool) (h : (x : A) → T (q x) → T (p x)) where
    pub keep_le : (xs : List A) → length (keep q xs) ≤ length (keep p xs)
    unfolding keep
    keep_le [] = omega arith
    keep_le (x ∷ xs) = also_le (p x) (q x) x (keep p xs) (keep q xs) (h x) (keep_le xs)

    -- a stricter test, which some element fails that passed before, keeps fewer
    pub keep_lt : {y : A} {xs : List A} → Mem y xs → T (p y) → T (not (q y)) → length (keep q xs) < length (keep p xs)
    unfolding keep
    keep_lt (here {x = x} {xs = xs} e) t f = also_drop (p x) (q x) x (keep p xs) (keep q xs) (rw e at t) (rw e at f) (keep_le xs)
    keep_lt (there {x = x} {xs = xs} m) t f = also_lt (p x) (q x) x (keep p xs) (keep q xs) (h x) (keep_lt m t f)

-- ---- lists whose members are related in pairs

pub data Apart {A : Type 0} (R : A → A → Type 0) : List A → Type 0 where
  apart_nil : Apart R []
  apart_cons : {x : A} {xs : List A} → ((y : A) → Mem y xs → R x y) → Apart R xs → Apart R (x ∷ xs)

module _ {A : Type 0} {R : A → A → Type 0} where
  pub apart_append : {xs ys : List A} → Apart R xs → Apart R ys → ((x y : A) → Mem x xs → Mem y ys → R x y) → Apart R (xs ++ ys)
  apart_append apart_nil b h = b
  apart_append {ys = ys} (apart_cons {x = x} {xs = xs} r a) b h =
      apart_cons (λ y m. step y (append_cases xs m)) (apart_append a b (λ z y m m'. h z y (there m) m'))
    where
      step : (y : A) → Mem y xs ⊎ Mem y ys → R x y
      step y (inl m) = r y m
      step y (inr m) = h x y (here refl) m

  also_apart : (b : Bool) (x : A) {xs : List A} → ((y : A) → Mem y xs → R x y) → Apart R xs → Apart R (also b x xs)
  also_apart true x h a = apart_cons h a
  also_apart false x h a = a

  pub apart_keep : (p : A → Bool) {xs : List A} → Apart R xs → Apart R (keep p xs)
  unfolding keep
  apart_keep p apart_nil = apart_nil
  apart_keep p (apart_cons {x = x} {xs = xs} r a) = also_apart (p x) x (λ y m. r y (keep_mem p xs m).0) (apart_keep p a)

module _ {A B : Type 0} {R : A → A → Type 0} {S : B → B → Type 0} where
  pub apart_map : (f : A → B) → ((x y : A) → R x y → S (f x) (f y)) → {xs : List A} → Apart R xs → Apart S (map f xs)
  apart_map f h apart_nil = apart_nil
  apart_map f h (apart_cons {x = x} {xs = xs} r a) =
      apart_cons (λ y m. let z = Memᴰ.of_map f xs m in rw z.2 at (h x z.0 (r z.0 z.1))) (apart_map f h a)

  pub apart_flat : (f : A → List B) {xs : List A} → Apart R xs → ((x : A) → Mem x xs → Apart S (f x))
      → ((x y : A) → Mem x xs → Mem y xs → R x y → (u v : B) → Mem u (f x) → Mem v (f y) → S u v) → Apart S (flat f xs)
  unfolding flat
  apart_flat f apart_nil h k = apart_nil
  apart_flat f (apart_cons {x = x} {xs = xs} r a) h k =
      apart_append (h x (here refl)) (apart_flat f a (λ y m. h y (there m)) (λ y z m m'. k y z (there m) (there m')))
      (λ u v m m'. let z = flat_mem f xs m' in k x z.0 (here refl) (there z.1) (r z.0 z.1) u v m z.2)

module _ {A B : Type 0} where
  pub flat_ext : (f g : A → List B) (xs : List A) → ((x : A) → Mem x xs → f x ≡ g x) → flat f xs ≡ flat g xs
  unfolding flat
  flat_ext f g [] h = refl
  flat_ext f g (x ∷ xs) h = rw (h x (here refl), flat_ext f g xs (λ y m. h y (there m)))

also_length : {A : Type 0} (b : Bool) (x : A) (r : List A) → length (also b x r) ≤ suc (length r)
also_length true x r = omega arith
also_length false x r = omega arith

pub keep_length : {A : Type 0} (p : A → Bool) (xs : List A) → length (keep p xs) ≤ length xs
unfolding keep
keep_length p [] = omega arith
keep_length p (x ∷ xs) = omega (arith, also_length (p x) x (keep p xs), keep_length p xs)

pub length_run : (a n : ℕ) → length (run a n) ≡ n
unfolding run
length_run a zero = refl
length_run a (suc n) = ap suc (length_run (suc a) n)

-- ---- kept and flattened lists

pub each_not : {A : Type 0} (p : A → Bool) (xs : List A) → T (not (each p xs)) → (x : A) × Mem x xs × T (not (p x))
unfolding each
each_not p [] t = absurd t
each_not p (x ∷ xs) t = step (tested (p x)) (λ u. each_not p xs u)
  where
    tail_not : (a b : Bool) → T a → T (not (a && b)) → T (not b)
    tail_not true b s t = t
    tail_not false b s t = absurd s

    step : T (p x) ⊎ T (not (p x)) → (T (not (each p xs)) → (y : _) × Mem y xs × T (not (p y))) → (y : _) × Mem y (x ∷ xs) × T (not (p y))
    step (inr f) rec = (x, here refl, f)
    step (inl u) rec = let r = rec (tail_not (p x) (each p xs) u t) in (r.0, there r.1, r.2)

pub also_map : {A B : Type 0} (f : A → B) (b : Bool) (x : A) (r : List A) → also b (f x) (map f r) ≡ map f (also b x r)
also_map f true x r = refl
also_map f false x r = refl

pub keep_map : {A B : Type 0} (p : B → Bool) (f : A → B) (xs : List A) → keep p (map f xs) ≡ map f (keep (λ x. p (f x)) xs)
unfolding keep
keep_map p f [] = refl
keep_map p f (x ∷ xs) = ap (also (p (f x)) (f x)) (keep_map p f xs) ∙ also_map f (p (f x)) x (keep (λ x. p (f x)) xs)

pub keep_also : {A : Type 0} (p : A → Bool) (b : Bool) (x : A) (r : List A) → keep p (also b x r) ≡ also (b && p x) x (keep p r)
unfolding keep
keep_also p true x r = refl
keep_also p false x r = refl

pub keep_keep : {A : Type 0} (p q : A → Bool) (xs : List A) → keep p (keep q xs) ≡ keep (λ x. q x && p x) xs
unfolding keep
keep_keep p q [] = refl
keep_keep p q (x ∷ xs) = keep_also p (q x) x (keep q xs) ∙ ap (also (q x && p x) x) (keep_keep p q xs)

pub keep_same : {A : Type 0} (p q : A → Bool) (xs : List A) → ((x : A) → Mem x xs → p x ≡ q x) → keep p xs ≡ keep q xs
unfolding keep
keep_same p q [] h = refl
keep_same p q (x ∷ xs) h = rw (h x (here refl), keep_same p q xs (λ y m. h y (there m)))

pub keep_all : {A : Type 0} (p : A → Bool) (xs : List A) → ((x : A) → Mem x xs → T (p x)) → keep p xs ≡ xs
unfolding keep
keep_all p [] h = refl
keep_all p (x ∷ xs) h = step (p x) (h x (here refl)) (keep_all p xs (λ y m. h y (there m)))
  where
    step : (b : Bool) → T b → keep p xs ≡ xs → also b x (keep p xs) ≡ x ∷ xs
    step true t e = ap (λ (l : List _). x ∷ l) e
    step false t e = absurd t

pub one_true : (a b : Bool) → (T a → T b) → (T b → T a) → a ≡ b
one_true true true f g = refl
one_true true false f g = absurd (f tt)
one_true false true f g = absurd (g tt)
one_true false false f g = refl

-- q is among the nodes
abbrev pub among : List ℕ → ℕ → Bool
among qs q = has (λ x. eqb x q) qs

-- the list without the nodes
abbrev pub strike : List ℕ → List ℕ → List ℕ
strike qs l = keep (λ q. not (among qs q)) l

pub among_mem : (qs : List ℕ) (q : ℕ) → T (among qs q) → Mem q qs
among_mem qs q t = let r = has_at (λ (x : ℕ). eqb x q) qs t in rw (eqb→eq r.0 q r.2) at r.1

pub mem_among : (qs : List ℕ) (q : ℕ) → Mem q qs → T (among qs q)
mem_among qs q m = has_in (λ (x : ℕ). eqb x q) m (eqb_refl q)

module _ {A B : Type 0} (f : A → List B) where
  pub flat_append : (xs ys : List A) → flat f (xs ++ ys) ≡ flat f xs ++ flat f ys
  unfolding flat
  flat_append [] ys = refl
  flat_append (x ∷ xs) ys = rw (flat_append xs ys, append_assoc)

module _ {A : Type 0} where
  pub take_mem : (k : ℕ) (l : List A) {y : A} → Mem y (take k l) → Mem y l
  take_mem zero l m = absurd (not-nil m)
  take_mem (suc k) [] m = absurd (not-nil m)
  take_mem (suc k) (x ∷ l) {y} m = step (cases_cons m) (λ m'. take_mem k l m')
    where
      step : (y ≡ x) ⊎ Mem y (take k l) → (Mem y (take k l) → Mem y l) → Mem y (x ∷ l)
      step (inl e) rec = here e
      step (inr m') rec = there (rec m')

  pub drop_mem : (k : ℕ) (l : List A) {y : A} → Mem y (drop k l) → Mem y l
  drop_mem zero l m = m
  drop_mem (suc k) [] m = m
  drop_mem (suc k) (x ∷ l) m = there (drop_mem k l m)

module _ {A : Type 0} {R : A → A → Type 0} where
  pub apart_take : (k : ℕ) {xs : List A} → Apart R xs → Apart R (take k xs)
  apart_take zero a = apart_nil
  apart_take (suc k) apart_nil = apart_nil
  apart_take (suc k) (apart_cons {x = x} {xs = xs} r a) = apart_cons (λ y m. r y (take_mem k xs m)) (apart_take k a)

  pub apart_drop : (k : ℕ) {xs : List A} → Apart R xs → Apart R (drop k xs)
  apart_drop zero a = a
  apart_drop (suc k) apart_nil = apart_nil
  apart_drop (suc k) (apart_cons r a) = apart_drop k a

pub has_append : {A : Type 0} (p : A → Bool) (xs ys : List A) → has p (xs ++ ys) ≡ (has p xs || has p ys)
unfolding has
has_append p [] ys = refl
has_append p (x ∷ xs) ys = rw (has_append p xs ys) (or_assoc (p x) (has p xs) (has p ys))
  where
    or_assoc : (a b c : Bool) → (a || (b || c)) ≡ ((a || b) || c)
    or_assoc true b c = refl
    or_assoc false b c = refl

-- another relation between the members
pub apart_with : {A : Type 0} {R S : A → A → Type 0} {xs : List A} → Apart R xs → ((x y : A) → Mem x xs → Mem y xs → R x y → S x y) → Apart S xs
apart_with apart_nil h = apart_nil
apart_with (apart_cons {x = x} r a) h = apart_cons (λ y m. h x y (here refl) (there m) (r y m)) (apart_with a (λ y z m m'. h y z (there m) (there m')))

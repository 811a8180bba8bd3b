-- Laws of the order of the search: what the tests say, the kept options, and what the order rule picks.
use Rattle.std.specs.Prelude.{◌≡◌, refl, ◌⊎◌, ◌≢◌, Bool, true, false, not, ◌||◌, ℕ, zero, suc, ◌+◌, ◌<◌, T, eqb, ltb, length, get_or, None, Some}
use Rattle.std.proofs.Common.{sym, ap, ◌∙◌, subst, inl, inr, arith, eqb→eq, T_not}
use mathlib.Core.List.Memᴰ.{head as here}
use mathlib.Core.List.Memᴰ.{tail as there}
use mathlib.Core.List.{List, [], ◌∷◌, map, Memᴰ as Mem}
use mathlib.Core.List.Memᴰ.{cases_cons}
use mathlib.Core.List.Memᴰ.{map as map-in}
use mathlib.Core.List.Memᴰ.{not-nil}
use mathlib.Core.List.Memᴰ.{of_map as map-mem}
use Rattle.std.proofs.Math.Dec.{eqb_refl, not_T}
use Rattle.rules.specs.Lists.{also, keep, each, has, run}
use Rattle.laws.specs.Lists.{Apart, apart_nil, apart_cons, apart_keep, apart_map, and_left, and_right, and_both, or_cases, or_left, or_right, tested, keep_mem, keep_in, each_at, each_all, has_at, has_in, run_mem, run_in, also_mem, also_rest, also_head, cannot}
use Rattle.rules.specs.Problem.{Entry, Problem}
use Rattle.rules.specs.Knuth.{option, Has}
use Rattle.rules.specs.Order.{has_item, one_colour, agree, Placed, kept, spacer_after, place, open_options, open_items, Choice, place_of, choices, Weighed, lighter, least_from, least, Rule, pick}

-- ---- tests

pub eq→eqb : {m n : ℕ} → m ≡ n → T (eqb m n)
eq→eqb {m} e = rw (← e) (eqb_refl m)

pub neqb→ne : {m n : ℕ} → T (not (eqb m n)) → m ≢ n
neqb→ne {m} {n} t e = T_not (eqb m n) t (eq→eqb e)

pub ne→neqb : {m n : ℕ} → m ≢ n → T (not (eqb m n))
ne→neqb {m} {n} f = not_T (eqb m n) (λ t. f (eqb→eq m n t))

pub has-item→ : (i : ℕ) (o : List Entry) → T (has_item i o) → Has o i
unfolding has_item
has-item→ i o t = let r = has_at (λ e. eqb e.item i) o t in (r.0, r.1, eqb→eq r.0.item i r.2)

pub has-item← : (i : ℕ) (o : List Entry) → Has o i → T (has_item i o)
unfolding has_item
has-item← i o h = has_in (λ e. eqb e.item i) h.1 (eq→eqb h.2)

-- the test of two entries of options that agree
abbrev pub entries_agree : Entry → Entry → Bool
entries_agree e d = not (eqb e.item d.item) || one_colour e d

-- what two entries that agree have
abbrev pub Alike : Entry → Entry → Type 0
Alike e d = e.item ≡ d.item → (e.colour ≡ d.colour) × (e.colour ≢ 0)

pub alike→ : (e d : Entry) → T (entries_agree e d) → Alike e d
alike→ e d t s = step (or_cases (not (eqb e.item d.item)) (one_colour e d) t)
  where
    step : T (not (eqb e.item d.item)) ⊎ T (one_colour e d) → (e.colour ≡ d.colour) × (e.colour ≢ 0)
    step (inl f) = absurd (neqb→ne f s)
    step (inr u) = (
      eqb→eq e.colour d.colour (and_left (eqb e.colour d.colour) (not (eqb e.colour 0)) u),
      neqb→ne (and_right (eqb e.colour d.colour) (not (eqb e.colour 0)) u),
    )

pub alike← : (e d : Entry) → Alike e d → T (entries_agree e d)
alike← e d h = step (tested (eqb e.item d.item))
  where
    step : T (eqb e.item d.item) ⊎ T (not (eqb e.item d.item)) → T (entries_agree e d)
    step (inr f) = or_left (not (eqb e.item d.item)) (one_colour e d) f
    step (inl t) =
        let u = h (eqb→eq e.item d.item t) in
        or_right (not (eqb e.item d.item)) (one_colour e d)
        (and_both (eqb e.colour d.colour) (not (eqb e.colour 0)) (eq→eqb u.0) (ne→neqb u.1))

pub agree→ : (o p : List Entry) → T (agree o p) → {e d : Entry} → Mem e o → Mem d p → Alike e d
unfolding agree
agree→ o p t {e} {d} m m' = alike→ e d (each_at (λ z. entries_agree e z) (each_at (λ y. each (λ z. entries_agree y z) p) t m) m')

pub agree← : (o p : List Entry) → ((e d : Entry) → Mem e o → Mem d p → Alike e d) → T (agree o p)
unfolding agree
agree← o p h = each_all (λ y. each (λ z. entries_agree y z) p) o (λ e m. each_all (λ z. entries_agree e z) p (λ d m'. alike← e d (h e d m m')))

pub agree_sym : (o p : List Entry) → T (agree o p) → T (agree p o)
agree_sym o p t = agree← p o (λ e d m m' s. let u = agree→ o p t m' m (sym s) in (sym u.0, λ z. u.1 (u.0 ∙ z)))

-- ---- the kept options

pub place_facts : (np m p : ℕ) (os : List (List Entry)) {o : Placed} → Mem o (place np m p os)
    → (k : ℕ) × (o.number ≡ m + k) × (k < length os) × (get_or os k [] ≡ o.entries) × T (kept np o.entries)
unfolding place
place_facts np m p [] mem = absurd (not-nil mem)
place_facts np m p (o ∷ os) {o = x} mem =
    step (also_mem (kept np o) mem) (λ mem'. place_facts np (m + 1) (spacer_after (kept np o) p o) os mem')
  where
    Goal : List (List Entry) → ℕ → Type 0
    Goal l m' = (k : ℕ) × (x.number ≡ m' + k) × (k < length l) × (get_or l k [] ≡ x.entries) × T (kept np x.entries)

    step : (T (kept np o) × (x ≡ record { number = m; first = p + 1; entries = o })) ⊎ Mem x (place np (m + 1) (spacer_after (kept np o) p o) os)
        → (Mem x (place np (m + 1) (spacer_after (kept np o) p o) os) → Goal os (m + 1)) → Goal (o ∷ os) m
    step (inl (t, e)) rec = (0, ap (λ (y : Placed). y.number) e ∙ (omega arith), omega arith, ap (λ (y : Placed). y.entries) (sym e), rw e t)
    step (inr mem') rec = let r = rec mem' in (suc r.0, (omega (arith, r.1)), (omega (arith, r.2)), r.3, r.4)

pub place_has : (np m p : ℕ) (os : List (List Entry)) (k : ℕ) → k < length os → T (kept np (get_or os k []))
    → (o : Placed) × Mem o (place np m p os) × (o.number ≡ m + k)
unfolding place
place_has np m p [] k h t = absurd (omega arith)
place_has np m p (o ∷ os) zero h t =
    (record { number = m; first = p + 1; entries = o }, also_head (kept np o) (place np (m + 1) (spacer_after (kept np o) p o) os) t refl, omega arith)
place_has np m p (o ∷ os) (suc k) h t =
    let r = place_has np (m + 1) (spacer_after (kept np o) p o) os k (omega arith) t in
    (r.0, also_rest (kept np o) (record { number = m; first = p + 1; entries = o }) r.1, omega (arith, r.2))

-- the number tells the option
pub place_one : (np m p : ℕ) (os : List (List Entry)) {o o' : Placed} → Mem o (place np m p os) → Mem o' (place np m p os)
    → o.number ≡ o'.number → o ≡ o'
unfolding place
place_one np m p [] a b e = absurd (not-nil a)
place_one np m p (x ∷ os) {o} {o'} a b e =
    step (also_mem (kept np x) a) (also_mem (kept np x) b) (λ a' b'. place_one np (m + 1) (spacer_after (kept np x) p x) os a' b' e)
  where
    rest : List Placed
    rest = place np (m + 1) (spacer_after (kept np x) p x) os

    late : {y : Placed} → Mem y rest → m < y.number
    late y = let r = place_facts np (m + 1) (spacer_after (kept np x) p x) os y in omega (arith, r.1)

    first : Placed
    first = record { number = m; first = p + 1; entries = x }

    step : (T (kept np x) × (o ≡ first)) ⊎ Mem o rest → (T (kept np x) × (o' ≡ first)) ⊎ Mem o' rest → (Mem o rest → Mem o' rest → o ≡ o') → o ≡ o'
    step (inl (t, u)) (inl (t', u')) rec = u ∙ sym u'
    step (inl (t, u)) (inr b') rec = absurd (omega (arith, late b', ap (λ (y : Placed). y.number) u))
    step (inr a') (inl (t, u)) rec = absurd (omega (arith, late a', ap (λ (y : Placed). y.number) u))
    step (inr a') (inr b') rec = rec a' b'

-- ---- the order rule

pub least_none : (ws : List Weighed) → least ws ≡ None → {w : Weighed} → Mem w ws → ⊥
least_none [] e m = not-nil m
least_none (a ∷ ws) e m = cannot (cc)

least_from_in : (a : Weighed) (ws : List Weighed) → Mem (least_from a ws) (a ∷ ws)
unfolding least_from
least_from_in a [] = here refl
least_from_in a (b ∷ ws) = step (ltb b.weight a.weight) refl (λ x. least_from_in x ws)
  where
    step : (t : Bool) → ltb b.weight a.weight ≡ t → ((x : Weighed) → Mem (least_from x ws) (x ∷ ws)) → Mem (least_from (lighter a b) ws) (a ∷ b ∷ ws)
    step true e rec = rw e (there (rec b))
    step false e rec = rw e (move (cases_cons (rec a)))
      where
        move : (least_from a ws ≡ a) ⊎ Mem (least_from a ws) ws → Mem (least_from a ws) (a ∷ b ∷ ws)
        move (inl u) = here u
        move (inr m) = there (there m)

pub least_some : (ws : List Weighed) {i : ℕ} → least ws ≡ Some i → (w : Weighed) × Mem w ws × (w.item ≡ i)
least_some [] e = cannot (cc)
least_some (a ∷ ws) e = (least_from a ws, least_from_in a ws, cc)

weigh : Problem → List Placed → ℕ → Weighed
weigh P chosen i = record { item = i; weight = length (choices i (open_options P chosen)) }

-- item i is in none of the chosen options
abbrev pub open_item : List Placed → ℕ → Bool
open_item chosen i = not (has (λ c. has_item i c.entries) chosen)

pub pick_none : (P : Problem) (chosen : List Placed) → pick P chosen ≡ None → (i : ℕ) → i < P.np → (c : Placed) × Mem c chosen × Has c.entries i
unfolding pick weigh open_items
pick_none P chosen e i h = step (tested (has (λ c. has_item i c.entries) chosen))
  where
    step : T (has (λ c. has_item i c.entries) chosen) ⊎ T (open_item chosen i) → (c : Placed) × Mem c chosen × Has c.entries i
    step (inl t) = let r = has_at (λ c. has_item i c.entries) chosen t in (r.0, r.1, has-item→ i r.0.entries r.2)
    step (inr t) =
        let m : Mem i (open_items P chosen) = keep_in (open_item chosen) (run_in 0 P.np i (omega arith) (omega arith)) t in
        absurd (least_none (map (weigh P chosen) (open_items P chosen)) e (map-in (weigh P chosen) m))

pub pick_some : (P : Problem) (chosen : List Placed) {i : ℕ} → pick P chosen ≡ Some i → Mem i (open_items P chosen)
unfolding pick weigh
pick_some P chosen {i} e =
    let w = least_some (map (weigh P chosen) (open_items P chosen)) e in
    let r = map-mem (weigh P chosen) (open_items P chosen) w.1 in
    subst (λ (j : ℕ). Mem j (open_items P chosen)) (ap (λ (v : Weighed). v.item) r.2 ∙ w.2) r.1

pub open_item_facts : (P : Problem) (chosen : List Placed) {i : ℕ} → Mem i (open_items P chosen) → (i < P.np) × T (open_item chosen i)
unfolding open_items
open_item_facts P chosen m =
    let r = keep_mem (open_item chosen) (run 0 P.np) m in
    (let b = run_mem 0 P.np r.0 in omega arith, r.1)

pub choice_facts : (i : ℕ) (os : List Placed) {c : Choice} → Mem c (choices i os) → Mem c.option os × Has c.option.entries i
unfolding choices
choice_facts i os {c} m =
    let r = map-mem (λ (o : Placed). make i o) (keep (λ o. has_item i o.entries) os) m in
    let k = keep_mem (λ (o : Placed). has_item i o.entries) os r.1 in
    let e : r.0 ≡ c.option = ap (λ (d : Choice). d.option) r.2 in
    (rw e at k.0, rw e at (has-item→ i r.0.entries k.1))
  where
    make : ℕ → Placed → Choice
    make i o = record { at = place_of i o.entries; option = o }

pub choice_in : (i : ℕ) (os : List Placed) {o : Placed} → Mem o os → Has o.entries i → (c : Choice) × Mem c (choices i os) × (c.option ≡ o)
unfolding choices
choice_in i os {o} m h =
    (make o, map-in make (keep_in (λ (x : Placed). has_item i x.entries) m (has-item← i o.entries h)), refl)
  where
    make : Placed → Choice
    make x = record { at = place_of i x.entries; option = x }

also_distinct : (b : Bool) (x : Placed) {xs : List Placed} → ((y : Placed) → Mem y xs → x.number ≢ y.number)
    → Apart (λ (a b : Placed). a.number ≢ b.number) xs → Apart (λ (a b : Placed). a.number ≢ b.number) (also b x xs)
also_distinct true x h a = apart_cons h a
also_distinct false x h a = a

-- no two kept options have one number
pub place_apart : (np m p : ℕ) (os : List (List Entry)) → Apart (λ (a b : Placed). a.number ≢ b.number) (place np m p os)
unfolding place
place_apart np m p [] = apart_nil
place_apart np m p (o ∷ os) =
    also_distinct (kept np o) (record { number = m; first = p + 1; entries = o })
    (λ y my. let r = place_facts np (m + 1) (spacer_after (kept np o) p o) os my in omega (arith, r.1))
    (place_apart np (m + 1) (spacer_after (kept np o) p o) os)

pub choices_apart : (i : ℕ) (os : List Placed) → Apart (λ (a b : Placed). a.number ≢ b.number) os
    → Apart (λ (a b : Choice). a.option.number ≢ b.option.number) (choices i os)
unfolding choices
choices_apart i os a = apart_map make (λ x y h. h) (apart_keep (λ o. has_item i o.entries) a)
  where
    make : Placed → Choice
    make x = record { at = place_of i x.entries; option = x }

-- ---- what the theorems ask of an order rule

-- it takes an uncovered primary item, and none only where each is covered
pub record Sound (P : Problem) (rule : Rule) : Type 0 where
  pub takes : (chosen : List Placed) {i : ℕ} → rule chosen ≡ Some i → Mem i (open_items P chosen)
  pub ends : (chosen : List Placed) → rule chosen ≡ None → (i : ℕ) → i < P.np → (c : Placed) × Mem c chosen × Has c.entries i

-- document 01's rule does
pub pick_sound : (P : Problem) → Sound P (pick P)
pick_sound P = record { takes = pick_some P; ends = pick_none P }

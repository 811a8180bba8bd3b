-- What words without a fault mean: a good problem.
use Rattle.std.specs.Prelude.{◌≡◌, refl, ◌⊎◌, ◌≢◌, Bool, true, false, not, ◌||◌, ℕ, zero, suc, ◌+◌, ◌<◌, T, ltb, eqb, ℤ, pos, negsuc}
use Rattle.std.proofs.Common.{sym, ap, ◌∙◌, inl, inr, arith, T_not, lt→ltb, ltb→lt, eqb→eq}
use mathlib.Core.List.Memᴰ.{head as here}
use mathlib.Core.List.Memᴰ.{not-nil}
use mathlib.Core.List.Memᴰ.{of_map as map-mem}
use mathlib.Core.List.Memᴰ.{tail as there}
use mathlib.Core.List.{List, [], ◌∷◌, map, Memᴰ as Mem}
use Rattle.std.proofs.Math.Dec.{not_T}
use Rattle.std.specs.Int.Signed.{non_neg}
use Rattle.rules.specs.Lists.{has}
use Rattle.rules.specs.Words.{nat, below, same}
use Rattle.rules.specs.Problem.{Entry, Problem, Pair, Cut, items, need, first_of, entry_fault, option_fault, options_fault, fault, as_entry, meant}
use Rattle.rules.specs.Order.{Placed, kept, spacer_after, place, placed}
use Rattle.laws.specs.Lists.{or_cases, Apart, apart_nil, apart_cons, has_in, also_mem}
use Rattle.laws.specs.Order.{eq→eqb}

-- ---- a good problem

-- no item stands twice in the option
abbrev pub Simple : List Entry → Type 0
Simple es = Apart (λ (e d : Entry). e.item ≢ d.item) es

-- what refusals 5 to 7 leave
pub record Good (P : Problem) : Type 0 where
  pub all_ranged : (o : List Entry) → Mem o P.options → (e : Entry) → Mem e o → e.item < items P
  pub all_simple : (o : List Entry) → Mem o P.options → Simple o
  pub all_plain : (o : List Entry) → Mem o P.options → (e : Entry) → Mem e o → e.item < P.np → e.colour ≡ 0

-- a kept option is one of the options
place_mem : (np m p : ℕ) (os : List (List Entry)) {o : Placed} → Mem o (place np m p os) → Mem o.entries os
unfolding place
place_mem np m p [] a = absurd (not-nil a)
place_mem np m p (x ∷ os) {o} a = step (also_mem (kept np x) a) (λ a'. place_mem np (m + 1) (spacer_after (kept np x) p x) os a')
  where
    step : (T (kept np x) × (o ≡ record { number = m; first = p + 1; entries = x })) ⊎ Mem o (place np (m + 1) (spacer_after (kept np x) p x) os)
        → (Mem o (place np (m + 1) (spacer_after (kept np x) p x) os) → Mem o.entries os) → Mem o.entries (x ∷ os)
    step (inl (t, u)) rec = here (ap (λ (y : Placed). y.entries) u)
    step (inr a') rec = there (rec a')

pub placed_mem : (P : Problem) {o : Placed} → Mem o (placed P) → Mem o.entries P.options
unfolding placed
placed_mem P m = place_mem P.np 0 (items P + 1) P.options m

module _ {P : Problem} (G : Good P) (o : Placed) (m : Mem o (placed P)) where
  pub ranged : (e : Entry) → Mem e o.entries → e.item < items P
  ranged = G.all_ranged o.entries (placed_mem P m)

  pub simple : Simple o.entries
  simple = G.all_simple o.entries (placed_mem P m)

  pub plain : (e : Entry) → Mem e o.entries → e.item < P.np → e.colour ≡ 0
  plain = G.all_plain o.entries (placed_mem P m)

-- ---- refusals that are 0

pub need_holds : (b : Bool) (k later : ℕ) → need b (suc k) later ≡ 0 → T b × (later ≡ 0)
need_holds true k later e = (tt, e)
need_holds false k later e = absurd (omega arith)

pub first_none : (a b : ℕ) → first_of a b ≡ 0 → (a ≡ 0) × (b ≡ 0)
first_none zero b e = (refl, e)
first_none (suc a) b e = absurd (omega arith)

-- items in range are told apart by their numbers
apart_items : (n : ℕ) (a b : ℤ) → T (below n a) → T (below n b) → T (not (same b a)) → nat a ≢ nat b
apart_items n (pos a) (pos b) ra rb t = λ e. T_not (eqb b a) t (eq→eqb (sym e))
apart_items n (negsuc a) b ra rb t = absurd ra
apart_items n (pos a) (negsuc b) ra rb t = absurd rb

pub below_lt : (n : ℕ) (z : ℤ) → T (below n z) → nat z < n
below_lt n (pos k) t = ltb→lt k n t
below_lt n (negsuc k) t = absurd t

-- an entry without a fault, among n items of which np are primary
pub record Faultless (np n : ℕ) (e : Pair) : Type 0 where
  pub in_range : T (below n e.item)
  pub uncoloured : T (not (below np e.item) || same e.colour (pos 0))
  pub coloured : T (non_neg e.colour)

module _ (np n : ℕ) where
  entry_faultless : (seen : List ℤ) (e : Pair) → entry_fault np n seen e ≡ 0 → Faultless np n e × T (not (has (same e.item) seen))
  unfolding entry_fault
  entry_faultless seen e h =
      let a = need_holds (below n e.item) 4 _ h in
      let b = need_holds (not (has (same e.item) seen)) 5 _ a.1 in
      let c = need_holds (not (below np e.item) || same e.colour (pos 0)) 6 _ b.1 in
      let d = need_holds (non_neg e.colour) 7 _ c.1 in
      (record { in_range = a.0; uncoloured = c.0; coloured = d.0 }, b.0)

  option_parts : (seen : List ℤ) (x : Pair) (es : List Pair) → option_fault np n seen (x ∷ es) ≡ 0
      → (entry_fault np n seen x ≡ 0) × (option_fault np n (x.item ∷ seen) es ≡ 0)
  unfolding option_fault
  option_parts seen x es h = first_none (entry_fault np n seen x) (option_fault np n (x.item ∷ seen) es) h

  option_faultless : {e : Pair} (seen : List ℤ) {es : List Pair} → option_fault np n seen es ≡ 0 → Mem e es → Faultless np n e
  option_faultless {e = y} seen h (here {x = x} {xs = es} u) = rw u (entry_faultless seen x (option_parts seen x es h).0).0
  option_faultless seen h (there {x = x} {xs = es} m) = option_faultless (x.item ∷ seen) (option_parts seen x es h).1 m

  -- an item seen before is not there
  unseen : {e : Pair} (seen : List ℤ) {es : List Pair} → option_fault np n seen es ≡ 0 → Mem e es → {z : ℤ} → Mem z seen → T (not (same e.item z))
  unseen {e = y} seen h (here {x = x} {xs = es} u) {z} m =
      rw u
      (not_T (same x.item z)
      (λ t. T_not (has (same x.item) seen) (entry_faultless seen x (option_parts seen x es h).0).1 (has_in (same x.item) m t)))
  unseen seen h (there {x = x} {xs = es} m) k = unseen (x.item ∷ seen) (option_parts seen x es h).1 m (there k)

  option_simple : (seen : List ℤ) (es : List Pair) → option_fault np n seen es ≡ 0 → Simple (map as_entry es)
  option_simple seen [] h = apart_nil
  option_simple seen (x ∷ es) h =
      let a = option_parts seen x es h in
      apart_cons (λ y m. go (entry_faultless seen x a.0).0 a.1 y (map-mem as_entry es m)) (option_simple (x.item ∷ seen) es a.1)
    where
      go : Faultless np n x → option_fault np n (x.item ∷ seen) es ≡ 0 → (y : Entry) → (p : Pair) × Mem p es × (as_entry p ≡ y) → nat x.item ≢ y.item
      go f h y (p, m, u) =
          rw (← u)
          (apart_items n x.item p.item f.in_range (option_faultless (x.item ∷ seen) h m).in_range (unseen (x.item ∷ seen) h m (here refl)))

  option_of : {o : List Pair} {os : List (List Pair)} → options_fault np n os ≡ 0 → Mem o os → option_fault np n [] o ≡ 0
  unfolding options_fault
  option_of h (here {x = x} {xs = os} u) = rw u (first_none (option_fault np n [] x) (options_fault np n os) h).0
  option_of h (there {x = x} {xs = os} m) = option_of (first_none (option_fault np n [] x) (options_fault np n os) h).1 m

pub faultless : (C : Cut) → fault C ≡ 0 → {o : List Pair} {e : Pair} → Mem o C.options → Mem e o → Faultless C.np (C.np + C.ns) e
unfolding fault
faultless C h mo m = option_faultless C.np (C.np + C.ns) [] (option_of C.np (C.np + C.ns) h mo) m

-- refusal 7 found nothing: a primary item has colour 0
colourless : (np n : ℕ) (x : Pair) → Faultless np n x → nat x.item < np → nat x.colour ≡ 0
colourless np n x f lt = go x.item x.colour f.in_range f.uncoloured lt
  where
    go : (i c : ℤ) → T (below n i) → T (not (below np i) || same c (pos 0)) → nat i < np → nat c ≡ 0
    go (negsuc k) c r t lt = absurd r
    go (pos k) (negsuc c) r t lt = refl
    go (pos k) (pos c) r t lt = last (or_cases (not (ltb k np)) (eqb c 0) t)
      where
        last : T (not (ltb k np)) ⊎ T (eqb c 0) → c ≡ 0
        last (inl f) = absurd (T_not (ltb k np) f (lt→ltb k np lt))
        last (inr z) = eqb→eq c 0 z

-- words without a fault mean a good problem
pub good_meant : (C : Cut) → fault C ≡ 0 → Good (meant C)
unfolding meant fault
good_meant C h = record {
  all_ranged = λ o mo e me. let x = pair_of o mo e me in rw (← x.2) (below_lt (C.np + C.ns) x.0.item x.1.in_range);
  all_simple = λ o mo.
      let p = cut_option o mo in
      rw (← p.2) (option_simple C.np (C.np + C.ns) [] p.0 (option_of C.np (C.np + C.ns) h p.1));
  all_plain = λ o mo e me lt.
      let x = pair_of o mo e me in
      sym (ap (λ (y : Entry). y.colour) x.2) ∙ colourless C.np (C.np + C.ns) x.0 x.1 (rw (← x.2) at lt);
}
  where
    as_entries : List Pair → List Entry
    as_entries o = map as_entry o

    cut_option : (o : List Entry) → Mem o (map as_entries C.options) → (p : List Pair) × Mem p C.options × (as_entries p ≡ o)
    cut_option o mo = map-mem as_entries C.options mo

    pair_of : (o : List Entry) → Mem o (map as_entries C.options) → (e : Entry) → Mem e o → (x : Pair) × Faultless C.np (C.np + C.ns) x × (as_entry x ≡ e)
    pair_of o mo e me =
        let p = cut_option o mo in
        let q = map-mem as_entry p.0 (rw (← p.2) at me) in
        (q.0, faultless C h p.1 q.1, q.2)

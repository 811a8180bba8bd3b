-- The nodes: where an item stands in an option, the nodes around a choice, and that a node tells its option.
use Rattle.std.specs.Prelude.{◌≡◌, refl, ◌⊎◌, ◌≢◌, Bool, true, false, ℕ, zero, suc, ◌+◌, ◌≤◌, ◌<◌, T, length, get_or, take, drop}
use Rattle.std.proofs.Common.{sym, ap, ◌∙◌, subst, inl, inr, arith, eq-eqb, ne_eqb}
use mathlib.Core.List.Memᴰ.{head as here}
use mathlib.Core.List.Memᴰ.{tail as there}
use mathlib.Core.List.{List, [], ◌∷◌, ◌++◌, Memᴰ as Mem}
use mathlib.Core.List.Memᴰ.{append_cases}
use mathlib.Core.List.Memᴰ.{append_left as in_left}
use mathlib.Core.List.Memᴰ.{append_right as in_right}
use mathlib.Core.List.Memᴰ.{cases_cons}
use mathlib.Core.List.Memᴰ.{map as map-in}
use mathlib.Core.List.Memᴰ.{not-nil}
use mathlib.Core.List.Memᴰ.{of_map as map-mem}
use Rattle.std.proofs.Math.Decide.{ℕ_discrete}
use Rattle.rules.specs.Lists.{also, keep}
use Rattle.rules.specs.Problem.{Entry, Problem, items}
use Rattle.rules.specs.Knuth.{Has}
use Rattle.rules.specs.Order.{has_item, agree, Placed, kept, spacer_after, place, placed, Choice, node, place_of, choices}
use Rattle.rules.specs.Links.{Node, nodes_from, others, own, linked}
use Rattle.laws.specs.Lists.{Apart, apart_nil, apart_cons, keep_mem, keep_in, also_mem, take_mem, drop_mem, apart_append, apart_take, apart_drop}
use Rattle.laws.specs.Faults.{Simple}
use Rattle.laws.specs.Order.{has-item←, choice_facts}

-- ---- an item's place in an option

pub place_here : (i : ℕ) (e : Entry) (es : List Entry) → e.item ≡ i → place_of i (e ∷ es) ≡ 0
unfolding place_of
place_here i e es h = rw (eq-eqb e.item i h, place_of)

pub place_there : (i : ℕ) (e : Entry) (es : List Entry) → e.item ≢ i → place_of i (e ∷ es) ≡ suc (place_of i es)
unfolding place_of
place_there i e es h = rw (ne_eqb e.item i h, place_of)

abbrev pub blank : Entry
blank = record { item = 0; colour = 0 }

-- the entry there
pub place_entry : (i : ℕ) (es : List Entry) (d : Entry) → Has es i → (place_of i es < length es) × Mem (get_or es (place_of i es) d) es × ((get_or es (place_of i es) d).item ≡ i)
place_entry i [] d h = absurd (not-nil h.1)
place_entry i (e ∷ es) d (x, m, u) = step (ℕ_discrete e.item i) (cases_cons m) (λ r. place_entry i es d r)
  where
    Goal : ℕ → Type 0
    Goal k = (k < length (e ∷ es)) × Mem (get_or (e ∷ es) k d) (e ∷ es) × ((get_or (e ∷ es) k d).item ≡ i)

    step : Dec (e.item ≡ i) → (x ≡ e) ⊎ Mem x es → (Has es i → (place_of i es < length es) × Mem (get_or es (place_of i es) d) es × ((get_or es (place_of i es) d).item ≡ i))
        → (place_of i (e ∷ es) < length (e ∷ es)) × Mem (get_or (e ∷ es) (place_of i (e ∷ es)) d) (e ∷ es) × ((get_or (e ∷ es) (place_of i (e ∷ es)) d).item ≡ i)
    step (yes v) c rec = subst Goal (sym (place_here i e es v)) (omega arith, here refl, v)
    step (no v) (inl c) rec = absurd (v (ap (λ (y : Entry). y.item) (sym c) ∙ u))
    step (no v) (inr c) rec = let r = rec (x, c, u) in subst Goal (sym (place_there i e es v)) (omega (arith, r.0), there r.1, r.2)

-- a node of the option is at its item's place
pub nodes_at : (p : ℕ) {es : List Entry} → Simple es → {n : Node} → Mem n (nodes_from p es) → (n.at ≡ p + place_of n.entry.item es) × Mem n.entry es
unfolding nodes_from
nodes_at p apart_nil m = absurd (not-nil m)
nodes_at p (apart_cons {x = e} {xs = es} r s) {n} m = step (cases_cons m) (λ m'. nodes_at (suc p) s m')
  where
    step : (n ≡ record { at = p; entry = e }) ⊎ Mem n (nodes_from (suc p) es) → (Mem n (nodes_from (suc p) es) → (n.at ≡ suc p + place_of n.entry.item es) × Mem n.entry es)
        → (n.at ≡ p + place_of n.entry.item (e ∷ es)) × Mem n.entry (e ∷ es)
    step (inl u) rec =
        let z = place_here n.entry.item e es (ap (λ (y : Node). y.entry.item) (sym u)) in
        let w = ap (λ (y : Node). y.at) u in
        (omega arith, here (ap (λ (y : Node). y.entry) u))
    step (inr m') rec =
        let q = rec m' in
        let z = place_there n.entry.item e es (r n.entry q.1) in
        (omega (arith, q.0), there q.1)

-- each entry has its node
pub nodes_in : (p : ℕ) {es : List Entry} → Simple es → {e : Entry} → Mem e es → (n : Node) × Mem n (nodes_from p es) × (n.at ≡ p + place_of e.item es) × (n.entry ≡ e)
unfolding nodes_from
nodes_in p apart_nil m = absurd (not-nil m)
nodes_in p (apart_cons {x = x} {xs = es} r s) {e} m = step (cases_cons m) (λ m'. nodes_in (suc p) s m')
  where
    step : (e ≡ x) ⊎ Mem e es → (Mem e es → (n : Node) × Mem n (nodes_from (suc p) es) × (n.at ≡ suc p + place_of e.item es) × (n.entry ≡ e))
        → (n : Node) × Mem n (record { at = p; entry = x } ∷ nodes_from (suc p) es) × (n.at ≡ p + place_of e.item (x ∷ es)) × (n.entry ≡ e)
    step (inl u) rec =
        let z = place_here e.item x es (ap (λ (y : Entry). y.item) (sym u)) in
        (record { at = p; entry = x }, here refl, omega arith, sym u)
    step (inr m') rec =
        let q = rec m' in
        let z = place_there e.item x es (r e m') in
        (q.0, there q.1, omega (arith, q.2), q.3)

pub nodes_length : (p : ℕ) (es : List Entry) → length (nodes_from p es) ≡ length es
unfolding nodes_from
nodes_length p [] = refl
nodes_length p (e ∷ es) = ap suc (nodes_length (suc p) es)

nodes_getD : (p : ℕ) (es : List Entry) (k : ℕ) (d : Node) → k < length es → (get_or (nodes_from p es) k d).at ≡ p + k
unfolding nodes_from
nodes_getD p [] k d h = absurd (omega arith)
nodes_getD p (e ∷ es) zero d h = omega arith
nodes_getD p (e ∷ es) (suc k) d h = omega (arith, nodes_getD (suc p) es k d (omega arith))

-- ---- the nodes around a choice

module _ {A : Type 0} where
  -- an element is the one at k, or after it, or before it
  pub around : (d : A) (l : List A) (k : ℕ) → k < length l → {y : A} → Mem y l → (y ≡ get_or l k d) ⊎ Mem y (drop (suc k) l ++ take k l)
  around d [] k h m = absurd (not-nil m)
  around d (x ∷ l) zero h {y} m = step (cases_cons m)
    where
      step : (y ≡ x) ⊎ Mem y l → (y ≡ x) ⊎ Mem y (l ++ [])
      step (inl e) = inl e
      step (inr m') = inr (in_left [] m')
  around d (x ∷ l) (suc k) h {y} m = step (cases_cons m) (λ m'. around d l k (omega arith) m')
    where
      late : Mem y (drop (suc k) l) ⊎ Mem y (take k l) → Mem y (drop (suc k) l ++ x ∷ take k l)
      late (inl a) = in_left (x ∷ take k l) a
      late (inr a) = in_right (drop (suc k) l) (there a)

      wider : (y ≡ get_or l k d) ⊎ Mem y (drop (suc k) l ++ take k l) → (y ≡ get_or l k d) ⊎ Mem y (drop (suc k) l ++ x ∷ take k l)
      wider (inl e) = inl e
      wider (inr a) = inr (late (append_cases (drop (suc k) l) a))

      step : (y ≡ x) ⊎ Mem y l → (Mem y l → (y ≡ get_or l k d) ⊎ Mem y (drop (suc k) l ++ take k l)) → (y ≡ get_or l k d) ⊎ Mem y (drop (suc k) l ++ x ∷ take k l)
      step (inl e) rec = inr (in_right (drop (suc k) l) (here e))
      step (inr m') rec = wider (rec m')

pub others_mem : (c : Choice) {n : Node} → Mem n (others c) → Mem n (nodes_from c.option.first c.option.entries)
unfolding others
others_mem c {n} m = step (append_cases (drop (suc c.at) (nodes_from c.option.first c.option.entries)) m)
  where
    step : Mem n (drop (suc c.at) (nodes_from c.option.first c.option.entries)) ⊎ Mem n (take c.at (nodes_from c.option.first c.option.entries))
        → Mem n (nodes_from c.option.first c.option.entries)
    step (inl a) = drop_mem (suc c.at) (nodes_from c.option.first c.option.entries) a
    step (inr a) = take_mem c.at (nodes_from c.option.first c.option.entries) a

pub others_in : (c : Choice) {n : Node} → c.at < length c.option.entries → Mem n (nodes_from c.option.first c.option.entries) → n.at ≢ node c → Mem n (others c)
unfolding others
others_in c {n} h m ne = step (around d (nodes_from c.option.first c.option.entries) c.at (rw (nodes_length c.option.first c.option.entries) h) m)
  where
    d : Node
    d = record { at = 0; entry = blank }

    step : (n ≡ get_or (nodes_from c.option.first c.option.entries) c.at d)
        ⊎ Mem n (drop (suc c.at) (nodes_from c.option.first c.option.entries) ++ take c.at (nodes_from c.option.first c.option.entries))
        → Mem n (drop (suc c.at) (nodes_from c.option.first c.option.entries) ++ take c.at (nodes_from c.option.first c.option.entries))
    step (inl e) = absurd (ne (ap (λ (y : Node). y.at) e ∙ nodes_getD c.option.first c.option.entries c.at d h))
    step (inr a) = a

-- ---- a node tells its option

pub place_first : (np m p : ℕ) (os : List (List Entry)) {o : Placed} → Mem o (place np m p os) → p < o.first
unfolding place
place_first np m p [] a = absurd (not-nil a)
place_first np m p (x ∷ os) {o} a = step (kept np x) (also_mem (kept np x) a) (λ p' a'. place_first np (m + 1) p' os a')
  where
    step : (b : Bool) → (T b × (o ≡ record { number = m; first = p + 1; entries = x })) ⊎ Mem o (place np (m + 1) (spacer_after b p x) os)
        → ((p' : ℕ) → Mem o (place np (m + 1) p' os) → p' < o.first) → p < o.first
    step b (inl (t, e)) rec = omega (arith, ap (λ (y : Placed). y.first) e)
    step true (inr a') rec = omega (arith, rec (p + length x + 1) a')
    step false (inr a') rec = rec p a'

-- two options lie one after the other, with a spacer between
pub place_order : (np m p : ℕ) (os : List (List Entry)) {o o' : Placed} → Mem o (place np m p os) → Mem o' (place np m p os)
    → (o ≡ o') ⊎ ((o.first + length o.entries < o'.first) ⊎ (o'.first + length o'.entries < o.first))
unfolding place
place_order np m p [] a b = absurd (not-nil a)
place_order np m p (x ∷ os) {o} {o'} a b =
    step (kept np x) (also_mem (kept np x) a) (also_mem (kept np x) b) (λ p' a' b'. place_order np (m + 1) p' os a' b')
  where
    first : Placed
    first = record { number = m; first = p + 1; entries = x }

    Goal : Type 0
    Goal = (o ≡ o') ⊎ ((o.first + length o.entries < o'.first) ⊎ (o'.first + length o'.entries < o.first))

    step : (c : Bool) → (T c × (o ≡ first)) ⊎ Mem o (place np (m + 1) (spacer_after c p x) os) → (T c × (o' ≡ first)) ⊎ Mem o' (place np (m + 1) (spacer_after c p x) os)
        → ((p' : ℕ) → Mem o (place np (m + 1) p' os) → Mem o' (place np (m + 1) p' os) → Goal) → Goal
    step c (inl (t, u)) (inl (t', u')) rec = inl (u ∙ sym u')
    step c (inr a') (inr b') rec = rec (spacer_after c p x) a' b'
    step true (inl (t, u)) (inr b') rec =
        inr (inl (omega (arith, ap (λ (y : Placed). y.first) u, ap (λ (y : Placed). length y.entries) u, place_first np (m + 1) (p + length x + 1) os b')))
    step true (inr a') (inl (t, u)) rec =
        inr (inr (omega (arith, ap (λ (y : Placed). y.first) u, ap (λ (y : Placed). length y.entries) u, place_first np (m + 1) (p + length x + 1) os a')))
    step false (inl (t, u)) (inr b') rec = absurd t
    step false (inr a') (inl (t, u)) rec = absurd t

-- the node numbers of two options are different
pub place_nodes_one : (np m p : ℕ) (os : List (List Entry)) {o o' : Placed} → Mem o (place np m p os) → Mem o' (place np m p os) → (k k' : ℕ)
    → k < length o.entries → k' < length o'.entries → o.first + k ≡ o'.first + k' → o ≡ o'
place_nodes_one np m p os {o} {o'} a b k k' h h' e = step (place_order np m p os a b)
  where
    step : (o ≡ o') ⊎ ((o.first + length o.entries < o'.first) ⊎ (o'.first + length o'.entries < o.first)) → o ≡ o'
    step (inl u) = u
    step (inr (inl l)) = absurd (omega arith)
    step (inr (inr l)) = absurd (omega arith)

pub simple_one : {es : List Entry} → Simple es → {a b : Entry} → Mem a es → Mem b es → a.item ≡ b.item → a ≡ b
simple_one apart_nil m m' e = absurd (not-nil m)
simple_one (apart_cons r s) (here u) (here v) e = u ∙ sym v
simple_one (apart_cons r s) {a} {b} (here u) (there m) e = absurd (r b m (ap (λ (y : Entry). y.item) (sym u) ∙ e))
simple_one (apart_cons r s) {a} {b} (there m) (here u) e = absurd (r a m (ap (λ (y : Entry). y.item) (sym u) ∙ sym e))
simple_one (apart_cons r s) (there m) (there m') e = simple_one s m m' e

pub choice_at : (i : ℕ) (os : List Placed) {c : Choice} → Mem c (choices i os) → c.at ≡ place_of i c.option.entries
unfolding choices
choice_at i os {c} m =
    let r = map-mem make (keep (λ o. has_item i o.entries) os) m in
    ap (λ (d : Choice). d.at) (sym r.2) ∙ ap (λ (d : Choice). place_of i d.option.entries) r.2
  where
    make : Placed → Choice
    make o = record { at = place_of i o.entries; option = o }

-- ---- the nodes of an option, and those beside a choice, have different numbers

pub nodes_range : (p : ℕ) (es : List Entry) {n : Node} → Mem n (nodes_from p es) → (p ≤ n.at) × (n.at < p + length es)
unfolding nodes_from
nodes_range p [] m = absurd (not-nil m)
nodes_range p (e ∷ es) (here u) = (omega (arith, ap (λ (y : Node). y.at) u), omega (arith, ap (λ (y : Node). y.at) u))
nodes_range p (e ∷ es) (there m) = let r = nodes_range (suc p) es m in (omega arith, omega arith)

nodes_drop : (p k : ℕ) (es : List Entry) {n : Node} → Mem n (drop k (nodes_from p es)) → p + k ≤ n.at
unfolding nodes_from
nodes_drop p zero es m = omega (arith, nodes_range p es m)
nodes_drop p (suc k) [] m = absurd (not-nil m)
nodes_drop p (suc k) (e ∷ es) m = omega (arith, nodes_drop (suc p) k es m)

nodes_take : (p k : ℕ) (es : List Entry) {n : Node} → Mem n (take k (nodes_from p es)) → n.at < p + k
unfolding nodes_from
nodes_take p zero es m = absurd (not-nil m)
nodes_take p (suc k) [] m = absurd (not-nil m)
nodes_take p (suc k) (e ∷ es) (here u) = omega (arith, ap (λ (y : Node). y.at) u)
nodes_take p (suc k) (e ∷ es) (there m) = omega (arith, nodes_take (suc p) k es m)

nodes_apart : (p : ℕ) (es : List Entry) → Apart (λ (a b : Node). a.at ≢ b.at) (nodes_from p es)
unfolding nodes_from
nodes_apart p [] = apart_nil
nodes_apart p (e ∷ es) = apart_cons {x = record { at = p; entry = e }} (λ y m. let r = nodes_range (suc p) es m in omega arith) (nodes_apart (suc p) es)

pub others_apart : (c : Choice) → Apart (λ (a b : Node). a.at ≢ b.at) (others c)
unfolding others
others_apart c =
    let f : ℕ = c.option.first in
    let es : List Entry = c.option.entries in
    apart_append (apart_drop (suc c.at) (nodes_apart f es)) (apart_take c.at (nodes_apart f es))
    (λ a b m m'. let r = nodes_drop f (suc c.at) es m in let q = nodes_take f c.at es m' in omega arith)

pub others_other : (c : Choice) {n : Node} → Mem n (others c) → n.at ≢ node c
unfolding others
others_other c {n} m = step (append_cases (drop (suc c.at) (nodes_from c.option.first c.option.entries)) m)
  where
    step : Mem n (drop (suc c.at) (nodes_from c.option.first c.option.entries)) ⊎ Mem n (take c.at (nodes_from c.option.first c.option.entries)) → n.at ≢ node c
    step (inl a) = let r = nodes_drop c.option.first (suc c.at) c.option.entries a in omega arith
    step (inr a) = let r = nodes_take c.option.first c.at c.option.entries a in omega arith

-- ---- how far the nodes go

unfoldable pub span : List Placed → ℕ
span [] = 0
span (o ∷ os) = length o.entries + 1 + span os

-- the number of nodes
unfoldable pub nodes : Problem → ℕ
nodes P = items P + 2 + span (placed P)

place_end : (np m p : ℕ) (os : List (List Entry)) {o : Placed} → Mem o (place np m p os) → o.first + length o.entries < p + 1 + span (place np m p os)
unfolding place span
place_end np m p [] a = absurd (not-nil a)
place_end np m p (x ∷ os) {o} a = step (kept np x) (also_mem (kept np x) a) (λ p' a'. place_end np (m + 1) p' os a')
  where
    first : Placed
    first = record { number = m; first = p + 1; entries = x }

    step : (b : Bool) → (T b × (o ≡ first)) ⊎ Mem o (place np (m + 1) (spacer_after b p x) os)
        → ((p' : ℕ) → Mem o (place np (m + 1) p' os) → o.first + length o.entries < p' + 1 + span (place np (m + 1) p' os))
        → o.first + length o.entries < p + 1 + span (also b first (place np (m + 1) (spacer_after b p x) os))
    step true (inl (t, e)) rec = omega (arith, ap (λ (y : Placed). y.first) e, ap (λ (y : Placed). length y.entries) e)
    step true (inr a') rec = omega (arith, rec (p + length x + 1) a')
    step false (inl (t, e)) rec = absurd t
    step false (inr a') rec = rec p a'

pub placed_range : (P : Problem) {o : Placed} → Mem o (placed P) → (items P + 1 < o.first) × (o.first + length o.entries < nodes P)
unfolding placed nodes
placed_range P m =
    (place_first P.np 0 (items P + 1) P.options m, let r = place_end P.np 0 (items P + 1) P.options m in omega arith)

-- a node of an option is no spacer
pub not_spacer : (P : Problem) {o o' : Placed} → Mem o (placed P) → Mem o' (placed P) → (k : ℕ) → k < length o'.entries
    → (o'.first + k ≢ o.first + length o.entries) × (suc (o'.first + k) ≢ o.first)
unfolding placed
not_spacer P {o} {o'} m m' k h = step (place_order P.np 0 (items P + 1) P.options m m')
  where
    step : (o ≡ o') ⊎ ((o.first + length o.entries < o'.first) ⊎ (o'.first + length o'.entries < o.first))
        → (o'.first + k ≢ o.first + length o.entries) × (suc (o'.first + k) ≢ o.first)
    step (inl u) =
        let a : o.first ≡ o'.first = ap (λ (y : Placed). y.first) u in
        let b : length o.entries ≡ length o'.entries = ap (λ (y : Placed). length y.entries) u in
        (omega arith, omega arith)
    step (inr (inl l)) = (omega arith, omega arith)
    step (inr (inr l)) = (omega arith, omega arith)

-- ---- linked choices

-- the choice of the option for item i
abbrev pub choice_of : ℕ → Placed → Choice
choice_of i o = record { at = place_of i o.entries; option = o }

-- what a linked choice of item i is
pub record Of (P : Problem) (held : List Entry) (i : ℕ) (c : Choice) : Type 0 where
  pub placed_in : Mem c.option (placed P)
  pub agrees : T (agree held c.option.entries)
  pub inside : c.at < length c.option.entries
  pub own_in : Mem (own c) c.option.entries
  pub own_item : (own c).item ≡ i
  pub at_place : c.at ≡ place_of i c.option.entries

module _ (P : Problem) (held : List Entry) (i : ℕ) where
  pub linked_of : {c : Choice} → Mem c (linked P held i) → Of P held i c
  unfolding linked
  linked_of {c} m =
      let os : List Placed = keep (λ o. agree held o.entries) (placed P) in
      let f = choice_facts i os m in
      let a = choice_at i os m in
      let g = place_entry i c.option.entries blank f.1 in
      let k = keep_mem (λ (o : Placed). agree held o.entries) (placed P) f.0 in
      record { placed_in = k.0; agrees = k.1; inside = rw a g.0; own_in = rw a g.1; own_item = rw a g.2; at_place = a }

  pub linked_in : {o : Placed} → Mem o (placed P) → T (agree held o.entries) → Has o.entries i → Mem (choice_of i o) (linked P held i)
  unfolding linked choices
  linked_in {o} m a h =
      map-in (λ (o : Placed). choice_of i o) (keep_in (λ (x : Placed). has_item i x.entries) (keep_in (λ (z : Placed). agree held z.entries) m a) (has-item← i o.entries h))

pub placed_one : (P : Problem) {o o' : Placed} → Mem o (placed P) → Mem o' (placed P) → (k k' : ℕ)
    → k < length o.entries → k' < length o'.entries → o.first + k ≡ o'.first + k' → o ≡ o'
unfolding placed
placed_one P m m' k k' h h' e = place_nodes_one P.np 0 (items P + 1) P.options m m' k k' h h' e

-- one node is at one item's place in one option
module _ (P : Problem) {o o' : Placed} (mo : Mem o (placed P)) (mo' : Mem o' (placed P)) (i j : ℕ) (hi : Has o.entries i) (hj : Has o'.entries j)
    (e : o.first + place_of i o.entries ≡ o'.first + place_of j o'.entries) where
  pub same_option : o ≡ o'
  same_option =
      placed_one P mo mo' (place_of i o.entries) (place_of j o'.entries)
      (place_entry i o.entries blank hi).0 (place_entry j o'.entries blank hj).0 e

  pub same_item : i ≡ j
  same_item =
      let u = same_option in
      let a = place_entry i o.entries blank hi in
      let b = place_entry j o'.entries blank hj in
      let f : o.first ≡ o'.first = ap (λ (y : Placed). y.first) u in
      let k : place_of i o.entries ≡ place_of j o'.entries = omega arith in
      sym a.2 ∙ ap (λ (y : Placed). (get_or y.entries (place_of i o.entries) blank).item) u ∙ ap (λ (z : ℕ). (get_or o'.entries z blank).item) k ∙ b.2

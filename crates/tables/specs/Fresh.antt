-- The fresh table shows that nothing holds.
use Rattle.std.specs.Prelude.{◌≡◌, ◌⊎◌, ◌≢◌, Bool, T, ℤ, negsuc}
use Rattle.std.proofs.Math.Path.{refl, sym, ap}
use Rattle.std.proofs.Common.{◌∙◌, inl, inr, get_or-append-add}
use Rattle.std.proofs.Math.Bool.{true, false, not}
use mathlib.Core.List.Memᴰ.{head as here}
use mathlib.Core.List.Memᴰ.{tail as there}
use mathlib.Core.List.{List, [], ◌∷◌, ◌++◌, map, Memᴰ as Mem}
use mathlib.Core.List.Memᴰ.{not-nil}
use mathlib.Core.List.Memᴰ.{of_map as map-mem}
use Prim.Native.Nat.{ℕ, zero, suc, ◌+◌, ◌*◌, ◌-◌, ◌≤◌, ◌<◌}
use native.Mathlib.Omega.{arith}
use Rattle.std.proofs.Math.Decide.{ℕ_discrete}
use Rattle.std.proofs.Math.Numerals.{add-one}
use Rattle.std.proofs.Math.IntN.{pos}
use Rattle.std.proofs.Math.ListN.{length, get_or, length-append, get_or-append}
use borrow.Author.Tests.{eq-eqb, ne_eqb}
use Rattle.rules.specs.Lists.{also, keep, each, has, flat, run}
use Rattle.rules.specs.Words.{nat}
use Rattle.rules.specs.Problem.{Entry, Problem, items}
use Rattle.rules.specs.Order.{agree, Placed, kept, spacer_after, place, placed, node, place_of, choices}
use Rattle.rules.specs.Links.{Node, nodes_from, linked, previous, first_or, following, last_or, column, left_of, right_of, ring_words, header_words, node_words, last_node, option_words, fresh, left, right, up, down, top, colour_at, link}
use Rattle.laws.specs.Lists.{Apart, apart_nil, apart_cons, apart_with, also_mem, run_mem, length_run, keep_all, among}
use Rattle.laws.specs.Faults.{Good, simple}
use Rattle.tables.specs.Nodes.{linked_of, nodes_in, nodes_range, nodes_length, place_first, placed_one, placed_range, same_item, span, nodes}
use Rattle.tables.specs.Ring.{Linked, Distinct}
use Rattle.tables.specs.Rings.{Rings, in_free, free_in}
use Rattle.tables.specs.Shows.{Shows, view, since, removed, ring_items, marked}
use Rattle.tables.specs.Touch.{Stands, linked_stands, linked_apart}
use Rattle.tables.specs.Views.{View, Table, Named, Spaced, ring_head, stands_range, same_table}

-- ---- words of lists put together

module _ (xs ys : List ℤ) where
  pub getD_left : (i : ℕ) → i < length xs → get_or (xs ++ ys) i (pos 0) ≡ get_or xs i (pos 0)
  getD_left i h = get_or-append xs ys (pos 0) i h

  pub getD_right : (w i j : ℕ) → length xs ≡ w → i ≡ w + j → get_or (xs ++ ys) i (pos 0) ≡ get_or ys j (pos 0)
  getD_right w i j e u = ap (λ (k : ℕ). get_or (xs ++ ys) k (pos 0)) (u ∙ ap (λ (k : ℕ). k + j) (sym e)) ∙ get_or-append-add xs ys j (pos 0)

-- blocks of w words; `m k` is where block k begins
module _ {A : Type 0} (f : A → List ℤ) (w : ℕ) (m : ℕ → ℕ) (sized : (x : A) → length (f x) ≡ w) (m_zero : m 0 ≡ 0) (m_suc : (k : ℕ) → m (suc k) ≡ w + m k) where
  pub flat_length : (xs : List A) → length (flat f xs) ≡ m (length xs)
  unfolding flat
  flat_length [] = sym m_zero
  flat_length (x ∷ xs) = length-append (f x) (flat f xs) ∙ omega (arith, sized x, flat_length xs, m_suc (length xs))

  pub flat_getD : (d : A) (xs : List A) (k r : ℕ) → k < length xs → r < w → get_or (flat f xs) (m k + r) (pos 0) ≡ get_or (f (get_or xs k d)) r (pos 0)
  unfolding flat
  flat_getD d [] k r h b = absurd (omega arith)
  flat_getD d (x ∷ xs) zero r h b =
      ap (λ (j : ℕ). get_or (f x ++ flat f xs) j (pos 0)) (omega (arith, m_zero)) ∙ getD_left (f x) (flat f xs) r (omega (arith, sized x))
  flat_getD d (x ∷ xs) (suc k) r h b =
      getD_right (f x) (flat f xs) w (m (suc k) + r) (m k + r) (sized x) (omega (arith, m_suc k)) ∙ flat_getD d xs k r (omega arith) b

pub run_getD : (a m k : ℕ) → k < m → get_or (run a m) k 0 ≡ a + k
unfolding run
run_getD a zero k h = absurd (omega arith)
run_getD a (suc m) zero h = omega arith
run_getD a (suc m) (suc k) h = run_getD (suc a) m k (omega arith) ∙ omega arith

-- ---- links as the closed forms say them

-- a list, from a to h
closed_linked : (nx pv : ℕ → ℕ) (a : ℕ) (l : List ℕ) (h : ℕ) → Distinct l → nx a ≡ first_or h l → ((q : ℕ) → Mem q l → nx q ≡ following h q l)
    → ((q : ℕ) → Mem q l → pv q ≡ previous a q l) → pv h ≡ last_or a l → Linked nx pv a l h
unfolding following previous last_or
closed_linked nx pv a [] h d na nq pq ph = (na, ph)
closed_linked nx pv a (x ∷ l) h d na nq pq ph = (
  na,
  pq x (here refl) ∙ rw (eq-eqb x x refl, previous),
  closed_linked nx pv x l h d.1 (nq x (here refl) ∙ rw (eq-eqb x x refl, following))
      (λ q m. nq q (there m) ∙ rw (ne_eqb x q (free_in x l d.0 m), following)) (λ q m. pq q (there m) ∙ rw (ne_eqb x q (free_in x l d.0 m), previous)) ph,
)

-- numbers in a row
row_linked : (nx pv : ℕ → ℕ) (b m h : ℕ) → ((i : ℕ) → b ≤ i → i < b + m → (nx i ≡ suc i) × (pv (suc i) ≡ i)) → nx (b + m) ≡ h → pv h ≡ b + m → Linked nx pv b (run (suc b) m) h
unfolding run
row_linked nx pv b zero h s e f = (ap nx (omega arith) ∙ e, f ∙ omega arith)
row_linked nx pv b (suc m) h s e f =
    let r = s b (omega arith) (omega arith) in
    (r.0, r.1, row_linked nx pv (suc b) m h (λ i l u. s i (omega arith) (omega arith)) (ap nx (omega arith) ∙ e) (f ∙ omega arith))

run_distinct : (a m : ℕ) → Distinct (run a m)
unfolding run
run_distinct a zero = tt
run_distinct a (suc m) = (in_free a (run (suc a) m) (λ y k. let r = run_mem (suc a) m k in omega arith), run_distinct (suc a) m)

apart_distinct : {A : Type 0} (f : A → ℕ) {xs : List A} → Apart (λ x y. f x ≢ f y) xs → Distinct (map f xs)
apart_distinct f apart_nil = tt
apart_distinct f (apart_cons {x = x} {xs = xs} r a) =
    (in_free (f x) (map f xs) (λ y m. let z = map-mem f xs m in λ e. r z.0 z.1 (e ∙ sym z.2)), apart_distinct f a)

-- ---- the words of the options

module _ (P : Problem) where
  node_words_length : (x : Node) → length (node_words P x) ≡ 4
  unfolding node_words
  node_words_length x = refl

  pub four_suc : (k : ℕ) → 4 * suc k ≡ 4 + 4 * k
  four_suc k = omega arith

  nodes_words_length : (p : ℕ) (es : List Entry) → length (flat (node_words P) (nodes_from p es)) ≡ 4 * length es
  nodes_words_length p es = flat_length (node_words P) 4 (λ k. 4 * k) node_words_length refl four_suc (nodes_from p es) ∙ ap (λ (k : ℕ). 4 * k) (nodes_length p es)

  option_words_length : (os : List Placed) → length (option_words P os) ≡ 4 * span os
  unfolding option_words span
  option_words_length [] = refl
  option_words_length (o ∷ os) =
      length-append (flat (node_words P) (nodes_from o.first o.entries)) _ ∙ omega (arith, nodes_words_length o.first o.entries, option_words_length os)

  -- the node p + k
  nodes_from_getD : (p : ℕ) (es : List Entry) (d : Node) {x : Node} → Mem x (nodes_from p es) → (k : ℕ) → x.at ≡ p + k → (k < length es) × (get_or (nodes_from p es) k d ≡ x)
  unfolding nodes_from
  nodes_from_getD p [] d m k e = absurd (not-nil m)
  nodes_from_getD p (y ∷ es) d (here u) zero e = (omega arith, sym u)
  nodes_from_getD p (y ∷ es) d (here u) (suc k) e = absurd (omega (arith, ap (λ (z : Node). z.at) u))
  nodes_from_getD p (y ∷ es) d (there m) zero e = let r = nodes_range (suc p) es m in absurd (omega arith)
  nodes_from_getD p (y ∷ es) d (there m) (suc k) e = let r = nodes_from_getD (suc p) es d m k (omega arith) in (omega (arith, r.0), r.1)

  -- the words of an option's node, and of the spacer after it, in the words of the options that follow spacer p
  abbrev read : List Placed → ℕ → ℕ → ℤ
  read os k r = get_or (option_words P os) (4 * k + r) (pos 0)

  module _ (o : Placed) (os : List Placed) where
    abbrev front : List ℤ
    front = flat (node_words P) (nodes_from o.first o.entries)

    abbrev behind : List ℤ
    behind = negsuc o.number ∷ pos o.first ∷ pos (last_node P os) ∷ pos 0 ∷ option_words P os

    read_node : {x : Node} → Mem x (nodes_from o.first o.entries) → (k r : ℕ) → x.at ≡ o.first + k → r < 4 → read (o ∷ os) k r ≡ get_or (node_words P x) r (pos 0)
    unfolding option_words
    read_node {x} m k r e h =
        let d : Node = record { at = 0; entry = record { item = 0; colour = 0 } } in
        let g = nodes_from_getD o.first o.entries d m k e in
        getD_left front behind (4 * k + r) (omega (arith, nodes_words_length o.first o.entries, g.0))
        ∙ flat_getD (node_words P) 4 (λ k. 4 * k) node_words_length refl four_suc d (nodes_from o.first o.entries) k r (omega (arith, nodes_length o.first o.entries, g.0)) h
        ∙ ap (λ (y : Node). get_or (node_words P y) r (pos 0)) g.1

    read_spacer : (k r : ℕ) → k ≡ length o.entries → read (o ∷ os) k r ≡ get_or behind r (pos 0)
    unfolding option_words
    read_spacer k r e = getD_right front behind (4 * length o.entries) (4 * k + r) r (nodes_words_length o.first o.entries) (omega arith)

    read_rest : (k j r : ℕ) → k ≡ length o.entries + 1 + j → read (o ∷ os) k r ≡ read os j r
    unfolding option_words
    read_rest k j r e = getD_right front behind (4 * length o.entries) (4 * k + r) (suc (suc (suc (suc (4 * j + r))))) (nodes_words_length o.first o.entries) (omega arith)

  -- what the words say of an option, if they begin after spacer p
  record Reads (os : List Placed) (p : ℕ) (o : Placed) : Type 0 where
    nodes_read : {x : Node} → Mem x (nodes_from o.first o.entries) → (k r : ℕ) → x.at ≡ p + 1 + k → r < 4 → read os k r ≡ get_or (node_words P x) r (pos 0)
    number_read : (k : ℕ) → o.first + length o.entries ≡ p + 1 + k → (read os k 0 ≡ negsuc o.number) × (read os k 1 ≡ pos o.first)
    -- the spacer before it, where that is not p
    before_read : (s k : ℕ) → suc s ≡ o.first → s ≡ p + 1 + k → (nat (read os k 0) ≡ 0) × (read os k 2 ≡ pos (s + length o.entries)) × (read os k 3 ≡ pos 0)

  -- the spacer before the first option says where that ends
  last_read : (np m p : ℕ) (os : List (List Entry)) {o : Placed} → Mem o (place np m p os) → suc p ≡ o.first → last_node P (place np m p os) ≡ p + length o.entries
  unfolding place last_node
  last_read np m p [] a e = absurd (not-nil a)
  last_read np m p (x ∷ os) {o} a e = step (kept np x) (also_mem (kept np x) a) (λ a'. last_read np (m + 1) p os a' e)
    where
      step : (b : Bool) → (T b × (o ≡ record { number = m; first = p + 1; entries = x })) ⊎ Mem o (place np (m + 1) (spacer_after b p x) os)
          → (Mem o (place np (m + 1) p os) → last_node P (place np (m + 1) p os) ≡ p + length o.entries)
          → last_node P (also b (record { number = m; first = p + 1; entries = x }) (place np (m + 1) (spacer_after b p x) os)) ≡ p + length o.entries
      step true (inl (t, u)) rec = omega (arith, ap (λ (y : Placed). length y.entries) u)
      step true (inr a') rec = absurd (omega (arith, place_first np (m + 1) (p + length x + 1) os a'))
      step false (inl (t, u)) rec = absurd t
      step false (inr a') rec = rec a'

  -- the first option itself
  first_reads : (p m : ℕ) (x : List Entry) (rest : List Placed) → Reads (record { number = m; first = p + 1; entries = x } ∷ rest) p (record { number = m; first = p + 1; entries = x })
  first_reads p m x rest = record {
    nodes_read = λ mx k r e h. read_node o rest mx k r e h;
    number_read = λ k e. let u : k ≡ length x = omega arith in (read_spacer o rest k 0 u, read_spacer o rest k 1 u);
    before_read = λ s k e f. absurd (omega arith);
  }
    where
      o : Placed
      o = record { number = m; first = p + 1; entries = x }

  -- a later one
  later_reads : (np m p : ℕ) (x : List Entry) (os : List (List Entry)) {o : Placed} → Mem o (place np (m + 1) (p + length x + 1) os) → Reads (place np (m + 1) (p + length x + 1) os) (p + length x + 1) o
      → Reads (record { number = m; first = p + 1; entries = x } ∷ place np (m + 1) (p + length x + 1) os) p o
  unfolding last_node
  later_reads np m p x os {o} a R = record {
    nodes_read = λ mx k r e h.
        let b = nodes_range o.first o.entries mx in
        let j : ℕ = k - (length x + 1) in
        let f : p + length x + 1 < o.first = place_first np (m + 1) (p + length x + 1) os a in
        read_rest c rest k j r (omega arith) ∙ R.nodes_read mx j r (omega arith) h;
    number_read = λ k e.
        let j : ℕ = k - (length x + 1) in
        let f : p + length x + 1 < o.first = place_first np (m + 1) (p + length x + 1) os a in
        let u : k ≡ length x + 1 + j = omega arith in
        let n = R.number_read j (omega arith) in
        (read_rest c rest k j 0 u ∙ n.0, read_rest c rest k j 1 u ∙ n.1);
    before_read = λ s k e f. before s k e f (ℕ_discrete k (length x)) (place_first np (m + 1) (p + length x + 1) os a);
  }
    where
      c : Placed
      c = record { number = m; first = p + 1; entries = x }

      rest : List Placed
      rest = place np (m + 1) (p + length x + 1) os

      before : (s k : ℕ) → suc s ≡ o.first → s ≡ p + 1 + k → Dec (k ≡ length x) → p + length x + 1 < o.first
          → (nat (read (c ∷ rest) k 0) ≡ 0) × (read (c ∷ rest) k 2 ≡ pos (s + length o.entries)) × (read (c ∷ rest) k 3 ≡ pos 0)
      before s k e f (yes u) g = (
        ap nat (read_spacer c rest k 0 u),
        read_spacer c rest k 2 u ∙ ap pos (last_read np (m + 1) (p + length x + 1) os a (omega arith) ∙ omega arith),
        read_spacer c rest k 3 u,
      )
      before s k e f (no u) g =
          let j : ℕ = k - (length x + 1) in
          let v : k ≡ length x + 1 + j = omega arith in
          let n = R.before_read s j e (omega arith) in
          (ap nat (read_rest c rest k j 0 v) ∙ n.0, read_rest c rest k j 2 v ∙ n.1, read_rest c rest k j 3 v ∙ n.2)

  place_reads : (np m p : ℕ) (os : List (List Entry)) {o : Placed} → Mem o (place np m p os) → Reads (place np m p os) p o
  unfolding place
  place_reads np m p [] a = absurd (not-nil a)
  place_reads np m p (x ∷ os) {o} a = step (kept np x) (also_mem (kept np x) a) (λ p' a'. place_reads np (m + 1) p' os a')
    where
      step : (b : Bool) → (T b × (o ≡ record { number = m; first = p + 1; entries = x })) ⊎ Mem o (place np (m + 1) (spacer_after b p x) os)
          → ((p' : ℕ) → Mem o (place np (m + 1) p' os) → Reads (place np (m + 1) p' os) p' o)
          → Reads (also b (record { number = m; first = p + 1; entries = x }) (place np (m + 1) (spacer_after b p x) os)) p o
      step true (inl (t, u)) rec = rw u (first_reads p m x (place np (m + 1) (p + length x + 1) os))
      step true (inr a') rec = later_reads np m p x os a' (rec (p + length x + 1) a')
      step false (inl (t, u)) rec = absurd t
      step false (inr a') rec = rec p a'

  -- the last spacer
  span_none : (os : List Placed) → span os ≡ 0 → os ≡ []
  unfolding span
  span_none [] e = refl
  span_none (o ∷ os) e = absurd (omega arith)

  end_reads : (np m p : ℕ) (os : List (List Entry)) (k : ℕ) → suc k ≡ span (place np m p os) → (read (place np m p os) k 2 ≡ pos 0) × (read (place np m p os) k 3 ≡ pos 0)
  unfolding place span last_node
  end_reads np m p [] k e = absurd (omega arith)
  end_reads np m p (x ∷ os) k e = step (kept np x) e (λ p' j. end_reads np (m + 1) p' os j)
    where
      step : (b : Bool) → suc k ≡ span (also b (record { number = m; first = p + 1; entries = x }) (place np (m + 1) (spacer_after b p x) os))
          → ((p' j : ℕ) → suc j ≡ span (place np (m + 1) p' os) → (read (place np (m + 1) p' os) j 2 ≡ pos 0) × (read (place np (m + 1) p' os) j 3 ≡ pos 0))
          → (read (also b (record { number = m; first = p + 1; entries = x }) (place np (m + 1) (spacer_after b p x) os)) k 2 ≡ pos 0)
          × (read (also b (record { number = m; first = p + 1; entries = x }) (place np (m + 1) (spacer_after b p x) os)) k 3 ≡ pos 0)
      step false e rec = rec p k e
      step true e rec = go (ℕ_discrete (span rest) 0)
        where
          c : Placed
          c = record { number = m; first = p + 1; entries = x }

          rest : List Placed
          rest = place np (m + 1) (p + length x + 1) os

          go : Dec (span rest ≡ 0) → (read (c ∷ rest) k 2 ≡ pos 0) × (read (c ∷ rest) k 3 ≡ pos 0)
          go (yes z) = let u : k ≡ length x = omega arith in (read_spacer c rest k 2 u ∙ ap (λ (l : List Placed). pos (last_node P l)) (span_none rest z), read_spacer c rest k 3 u)
          go (no z) =
              let j : ℕ = k - (length x + 1) in
              let v : k ≡ length x + 1 + j = omega arith in
              let r = rec (p + length x + 1) j (omega arith) in
              (read_rest c rest k j 2 v ∙ r.0, read_rest c rest k j 3 v ∙ r.1)

-- ---- the words of the fresh table

module _ (P : Problem) where
  abbrev pub n : ℕ
  n = items P

  abbrev pub unused : List ℤ
  unused = pos 0 ∷ pos 0 ∷ pos 0 ∷ pos 0 ∷ []

  abbrev pub spacer : List ℤ
  spacer = pos 0 ∷ pos 0 ∷ pos (last_node P (placed P)) ∷ pos 0 ∷ []

  abbrev ws : List ℤ
  ws = option_words P (placed P)

  pub two_suc : (k : ℕ) → 2 * suc k ≡ 2 + 2 * k
  two_suc k = omega arith

  abbrev pub pair : ℕ → List ℤ
  pair i = pos (left_of P i) ∷ pos (right_of P i) ∷ []

  abbrev pub header : ℕ → List ℤ
  header i = pos (length (column P i)) ∷ pos (last_or (i + 1) (column P i)) ∷ pos (first_or (i + 1) (column P i)) ∷ pos 0 ∷ []

  pub ring_length : length (ring_words P) ≡ 2 * (n + 2)
  unfolding ring_words
  ring_length = flat_length pair 2 (λ k. 2 * k) (λ x. refl) refl two_suc (run 0 (n + 2)) ∙ ap (λ (k : ℕ). 2 * k) (length_run 0 (n + 2))

  header_length : length (header_words P) ≡ 4 * n
  unfolding header_words
  header_length = flat_length header 4 (λ k. 4 * k) (λ x. refl) refl (four_suc P) (run 0 n) ∙ ap (λ (k : ℕ). 4 * k) (length_run 0 n)

  front_3 : length (ring_words P ++ unused ++ header_words P) ≡ 2 * (n + 2) + 4 + 4 * n
  front_3 =
      length-append (ring_words P ++ unused) (header_words P)
      ∙ omega (arith, length-append (ring_words P) unused, ring_length, header_length)

  front_4 : length (ring_words P ++ unused ++ header_words P ++ spacer) ≡ 2 * (n + 2) + 4 + 4 * n + 4
  front_4 = length-append (ring_words P ++ unused ++ header_words P) spacer ∙ omega (arith, front_3)

  pub fresh_length : length (fresh P) ≡ 2 * (n + 2) + 4 * nodes P
  unfolding fresh nodes
  fresh_length = length-append (ring_words P ++ unused ++ header_words P ++ spacer) ws ∙ omega (arith, front_4, option_words_length P (placed P))

  -- an option's word
  fresh_option : (k r : ℕ) → get_or (fresh P) (2 * (n + 2) + 4 * (n + 1 + 1 + k) + r) (pos 0) ≡ read P (placed P) k r
  unfolding fresh
  fresh_option k r = getD_right (ring_words P ++ unused ++ header_words P ++ spacer) ws (2 * (n + 2) + 4 + 4 * n + 4) (2 * (n + 2) + 4 * (n + 1 + 1 + k) + r) (4 * k + r) front_4 (omega arith)

  pub fresh_early : (k : ℕ) → k < 2 * (n + 2) + 4 + 4 * n + 4 → get_or (fresh P) k (pos 0) ≡ get_or (ring_words P ++ unused ++ header_words P ++ spacer) k (pos 0)
  unfolding fresh
  fresh_early k h = getD_left (ring_words P ++ unused ++ header_words P ++ spacer) ws k (omega (arith, front_4))

  -- the first spacer's
  pub fresh_spacer : (r : ℕ) → r < 4 → get_or (fresh P) (2 * (n + 2) + 4 * (n + 1) + r) (pos 0) ≡ get_or spacer r (pos 0)
  fresh_spacer r h =
      fresh_early (2 * (n + 2) + 4 * (n + 1) + r) (omega arith)
      ∙ getD_right (ring_words P ++ unused ++ header_words P) spacer (2 * (n + 2) + 4 + 4 * n) (2 * (n + 2) + 4 * (n + 1) + r) r front_3 (omega arith)

  -- node 0's
  pub fresh_unused : (r : ℕ) → r < 4 → get_or (fresh P) (2 * (n + 2) + r) (pos 0) ≡ pos 0
  fresh_unused r h =
      fresh_early (2 * (n + 2) + r) (omega arith)
      ∙ getD_left (ring_words P ++ unused ++ header_words P) spacer (2 * (n + 2) + r) (omega (arith, front_3))
      ∙ getD_left (ring_words P ++ unused) (header_words P) (2 * (n + 2) + r) (omega (arith, length-append (ring_words P) unused, ring_length))
      ∙ getD_right (ring_words P) unused (2 * (n + 2)) (2 * (n + 2) + r) r ring_length refl ∙ zeros r h
    where
      zeros : (r : ℕ) → r < 4 → get_or unused r (pos 0) ≡ pos 0
      zeros zero h = refl
      zeros (suc zero) h = refl
      zeros (suc (suc zero)) h = refl
      zeros (suc (suc (suc zero))) h = refl
      zeros (suc (suc (suc (suc r)))) h = absurd (omega arith)

  -- the last spacer's
  pub fresh_end : (y : ℕ) → suc y ≡ nodes P → (get_or (fresh P) (2 * (n + 2) + 4 * y + 2) (pos 0) ≡ pos 0) × (get_or (fresh P) (2 * (n + 2) + 4 * y + 3) (pos 0) ≡ pos 0)
  unfolding nodes placed last_node
  fresh_end y e = go (span (place P.np 0 (n + 1) P.options)) refl
    where
      go : (s : ℕ) → span (place P.np 0 (n + 1) P.options) ≡ s → (get_or (fresh P) (2 * (n + 2) + 4 * y + 2) (pos 0) ≡ pos 0) × (get_or (fresh P) (2 * (n + 2) + 4 * y + 3) (pos 0) ≡ pos 0)
      go zero z =
          let u : y ≡ n + 1 = omega arith in
          rw u (fresh_spacer 2 (omega arith) ∙ ap (λ (l : List Placed). pos (last_node P l)) (span_none P (place P.np 0 (n + 1) P.options) z), fresh_spacer 3 (omega arith))
      go (suc k) z =
          let u : y ≡ n + 1 + 1 + k = omega arith in
          let r = end_reads P P.np 0 (n + 1) P.options k (sym z) in
          rw u (fresh_option k 2 ∙ r.0, fresh_option k 3 ∙ r.1)

  -- a header's
  pub fresh_header : (i r : ℕ) → i < n → r < 4 → get_or (fresh P) (2 * (n + 2) + 4 * suc i + r) (pos 0) ≡ get_or (header i) r (pos 0)
  unfolding header_words
  fresh_header i r hi h =
      fresh_early (2 * (n + 2) + 4 * suc i + r) (omega arith)
      ∙ getD_left (ring_words P ++ unused ++ header_words P) spacer (2 * (n + 2) + 4 * suc i + r) (omega (arith, front_3))
      ∙ getD_right (ring_words P ++ unused) (header_words P) (2 * (n + 2) + 4) (2 * (n + 2) + 4 * suc i + r) (4 * i + r)
      (length-append (ring_words P) unused ∙ omega (arith, ring_length)) (omega arith)
      ∙ flat_getD header 4 (λ k. 4 * k) (λ x. refl) refl (four_suc P) 0 (run 0 n) i r (omega (arith, length_run 0 n)) h
      ∙ ap (λ (j : ℕ). get_or (header j) r (pos 0)) (run_getD 0 n i hi ∙ omega arith)

  -- the words of the rings
  pub fresh_low : (k : ℕ) → k < 2 * (n + 2) → get_or (fresh P) k (pos 0) ≡ get_or (ring_words P) k (pos 0)
  fresh_low k h =
      fresh_early k (omega arith)
      ∙ getD_left (ring_words P ++ unused ++ header_words P) spacer k (omega (arith, front_3))
      ∙ getD_left (ring_words P ++ unused) (header_words P) k (omega (arith, length-append (ring_words P) unused, ring_length))
      ∙ getD_left (ring_words P) unused k (omega (arith, ring_length))

  -- a pair's
  pub fresh_pair : (i r : ℕ) → i < n + 2 → r < 2 → get_or (fresh P) (2 * i + r) (pos 0) ≡ get_or (pair i) r (pos 0)
  unfolding ring_words
  fresh_pair i r hi h =
      fresh_low (2 * i + r) (omega arith)
      ∙ flat_getD pair 2 (λ k. 2 * k) (λ x. refl) refl two_suc 0 (run 0 (n + 2)) i r (omega (arith, length_run 0 (n + 2))) h
      ∙ ap (λ (j : ℕ). get_or (pair j) r (pos 0)) (run_getD 0 (n + 2) i hi ∙ omega arith)

  left_word : (i : ℕ) → i < n + 2 → get_or (fresh P) (left i) (pos 0) ≡ pos (left_of P i)
  left_word i h = ap (λ (k : ℕ). get_or (fresh P) k (pos 0)) (omega arith) ∙ fresh_pair i 0 h (omega arith)

  right_word : (i : ℕ) → i < n + 2 → get_or (fresh P) (right i) (pos 0) ≡ pos (right_of P i)
  right_word i h = fresh_pair i 1 h (omega arith)

  -- ---- the rings

  left_zero : left_of P 0 ≡ P.np
  unfolding left_of
  left_zero = refl

  left_second : left_of P (P.np + 1) ≡ n + 1
  unfolding left_of
  left_second = rw (ne_eqb (P.np + 1) 0 (omega arith), eq-eqb (P.np + 1) (P.np + 1) refl, left_of)

  left_else : (i : ℕ) → i ≢ 0 → i ≢ P.np + 1 → left_of P i ≡ i - 1
  unfolding left_of
  left_else i a b = rw (ne_eqb i 0 a, ne_eqb i (P.np + 1) b, left_of)

  right_primary : right_of P P.np ≡ 0
  unfolding right_of
  right_primary = rw (eq-eqb P.np P.np refl, right_of)

  right_second : right_of P (n + 1) ≡ P.np + 1
  unfolding right_of
  right_second = rw (ne_eqb (n + 1) P.np (omega arith), eq-eqb (n + 1) (n + 1) refl, right_of)

  right_else : (i : ℕ) → i ≢ P.np → i ≢ n + 1 → right_of P i ≡ i + 1
  unfolding right_of
  right_else i a b = rw (ne_eqb i P.np a, ne_eqb i (n + 1) b, right_of)

  abbrev nx : ℕ → ℕ
  nx i = link (fresh P) (right i)

  abbrev pv : ℕ → ℕ
  pv i = link (fresh P) (left i)

  step_links : (i : ℕ) → i ≢ P.np → i < n + 1 → (nx i ≡ suc i) × (pv (suc i) ≡ i)
  step_links i a h = (
    ap nat (right_word i (omega arith)) ∙ right_else i a (omega arith) ∙ omega arith,
    ap nat (left_word (suc i) (omega arith)) ∙ left_else (suc i) (omega arith) (omega arith) ∙ omega arith,
  )

  primary_linked : Linked nx pv 0 (run 1 P.np) 0
  primary_linked =
      row_linked nx pv 0 P.np 0 (λ i l u. step_links i (omega arith) (omega arith))
      (ap nx (omega arith) ∙ ap nat (right_word P.np (omega arith)) ∙ right_primary) (ap nat (left_word 0 (omega arith)) ∙ left_zero ∙ omega arith)

  secondary_linked : (m : ℕ) → P.ns ≡ m → Linked nx pv (n + 1) (run (suc P.np) m) (n + 1)
  unfolding run
  secondary_linked zero e = (
    ap nat (right_word (n + 1) (omega arith)) ∙ right_second ∙ omega arith,
    ap pv (omega arith) ∙ ap nat (left_word (P.np + 1) (omega arith)) ∙ left_second,
  )
  secondary_linked (suc m) e = (
    ap nat (right_word (n + 1) (omega arith)) ∙ right_second ∙ omega arith,
    ap pv (omega arith) ∙ ap nat (left_word (P.np + 1) (omega arith)) ∙ left_second,
    row_linked nx pv (suc P.np) m (n + 1) (λ i l u. step_links i (omega arith) (omega arith))
        ((step_links (suc P.np + m) (omega arith) (omega arith)).0 ∙ omega arith)
        (ap pv (omega arith) ∙ (step_links (suc P.np + m) (omega arith) (omega arith)).1),
  )

  ring_member : (k x : ℕ) → Mem x (ring_head P k ∷ ring_items P k) → ((k ≡ 0) × (x < P.np + 1)) ⊎ ((k ≢ 0) × (P.np < x) × (x < n + 2))
  ring_member zero x (here u) = inl (refl, omega arith)
  ring_member zero x (there m) = let r = run_mem 1 P.np m in inl (refl, omega arith)
  ring_member (suc k) x (here u) = inr (omega arith, omega arith, omega arith)
  ring_member (suc k) x (there m) = let r = run_mem (suc P.np) P.ns m in inr (omega arith, omega arith, omega arith)

  fresh_rings : Rings 2 (ring_head P) nx pv (ring_items P)
  fresh_rings = record { linked = linked_at; distinct = distinct_at; apart = λ i j hi hj ne y z my mz. apart_at i j hi hj ne y z (ring_member i y my) (ring_member j z mz) }
    where
      linked_at : (k : ℕ) → k < 2 → Linked nx pv (ring_head P k) (ring_items P k) (ring_head P k)
      linked_at zero h = primary_linked
      linked_at (suc k) h = secondary_linked P.ns refl

      distinct_at : (k : ℕ) → k < 2 → Distinct (ring_head P k ∷ ring_items P k)
      distinct_at zero h = (in_free 0 (run 1 P.np) (λ y m. let r = run_mem 1 P.np m in omega arith), run_distinct 1 P.np)
      distinct_at (suc k) h = (in_free (n + 1) (run (suc P.np) P.ns) (λ y m. let r = run_mem (suc P.np) P.ns m in omega arith), run_distinct (suc P.np) P.ns)

      apart_at : (i j : ℕ) → i < 2 → j < 2 → i ≢ j → (y z : ℕ) → ((i ≡ 0) × (y < P.np + 1)) ⊎ ((i ≢ 0) × (P.np < y) × (y < n + 2))
          → ((j ≡ 0) × (z < P.np + 1)) ⊎ ((j ≢ 0) × (P.np < z) × (z < n + 2)) → y ≢ z
      apart_at i j hi hj ne y z (inl a) (inl b) = absurd (ne (a.0 ∙ sym b.0))
      apart_at i j hi hj ne y z (inl a) (inr b) = omega arith
      apart_at i j hi hj ne y z (inr a) (inl b) = omega arith
      apart_at i j hi hj ne y z (inr a) (inr b) = let ai = a.0 in let bj = b.0 in absurd (ne (omega arith))

  -- ---- the lists

  pub linked_column : (i : ℕ) → map node (linked P [] i) ≡ column P i
  unfolding linked column agree each
  linked_column i = ap (λ (os : List Placed). map node (choices i os)) (keep_all (λ (o : Placed). agree [] o.entries) (placed P) (λ o m. tt))

  pub column_stands : (i : ℕ) {q : ℕ} → Mem q (column P i) → Stands P i q
  column_stands i m = linked_stands P [] i (rw (linked_column i) m)

  pub column_distinct : (i : ℕ) → Distinct (column P i)
  column_distinct i =
      rw (linked_column i) at (apart_distinct node (apart_with (linked_apart P [] i) (λ a b ma mb ne e.
      let F = linked_of P [] i ma in
      let H = linked_of P [] i mb in
      ne (ap (λ (o : Placed). o.number) (placed_one P F.placed_in H.placed_in a.at b.at F.inside H.inside e)))))

  -- a node's words
  pub fresh_node : {o : Placed} → Mem o (placed P) → {x : Node} → Mem x (nodes_from o.first o.entries) → (r : ℕ) → r < 4
      → get_or (fresh P) (2 * (n + 2) + 4 * x.at + r) (pos 0) ≡ get_or (node_words P x) r (pos 0)
  unfolding placed
  fresh_node {o} mo {x} mx r h =
      let b = placed_range P mo in
      let c = nodes_range o.first o.entries mx in
      let k : ℕ = x.at - (n + 1 + 1) in
      let e : x.at ≡ n + 1 + 1 + k = omega arith in
      ap (λ (q : ℕ). get_or (fresh P) (2 * (n + 2) + 4 * q + r) (pos 0)) e ∙ fresh_option k r ∙ (place_reads P P.np 0 (n + 1) P.options mo).nodes_read mx k r e h

  module _ (G : Good P) where
    pub column_words : (i q : ℕ) → Mem q (column P i) → (link (fresh P) (up n q) ≡ previous (suc i) q (column P i)) × (link (fresh P) (down n q) ≡ following (suc i) q (column P i))
    unfolding node_words
    column_words i q m = go (column_stands i m)
      where
        go : Stands P i q → (link (fresh P) (up n q) ≡ previous (suc i) q (column P i)) × (link (fresh P) (down n q) ≡ following (suc i) q (column P i))
        go (o, mo, h, e) =
            let x = nodes_in o.first (simple G o mo) h.1 in
            let a : x.0.at ≡ q = x.2 ∙ ap (λ (k : ℕ). o.first + place_of k o.entries) h.2 ∙ sym e in
            let j : x.0.entry.item ≡ i = ap (λ (y : Entry). y.item) x.3 ∙ h.2 in
            rw (← a, ← j, ← add-one x.0.entry.item) (ap nat (fresh_node mo x.1 1 (omega arith)), ap nat (fresh_node mo x.1 2 (omega arith)))

    pub fresh_lists : Rings n suc (λ q. link (fresh P) (down n q)) (λ q. link (fresh P) (up n q)) (column P)
    fresh_lists = record {
      linked = λ i hi. closed_linked (λ q. link (fresh P) (down n q)) (λ q. link (fresh P) (up n q)) (suc i) (column P i) (suc i) (column_distinct i)
          (ap nat (fresh_header i 2 hi (omega arith)) ∙ ap (λ (k : ℕ). first_or k (column P i)) (add-one i))
          (λ q m. (column_words i q m).1) (λ q m. (column_words i q m).0)
          (ap nat (fresh_header i 1 hi (omega arith)) ∙ ap (λ (k : ℕ). last_or k (column P i)) (add-one i));
      distinct = λ i hi. (in_free (suc i) (column P i) (λ y m. let r = stands_range P i y (column_stands i m) in omega arith), column_distinct i);
      apart = λ i j hi hj ne y z my mz. apart_at i j hi hj ne y z my mz;
    }
      where
        both : (i j y : ℕ) → i ≢ j → Stands P i y → Stands P j y → ⊥
        both i j y ne (o, mo, h, e) (o', mo', h', e') = ne (same_item P mo mo' i j h h' (sym e ∙ e'))

        apart_at : (i j : ℕ) → i < n → j < n → i ≢ j → (y z : ℕ) → Mem y (suc i ∷ column P i) → Mem z (suc j ∷ column P j) → y ≢ z
        apart_at i j hi hj ne y z (here u) (here w) = omega arith
        apart_at i j hi hj ne y z (here u) (there m) = let r = stands_range P j z (column_stands j m) in omega arith
        apart_at i j hi hj ne y z (there m) (here w) = let r = stands_range P i y (column_stands i m) in omega arith
        apart_at i j hi hj ne y z (there m) (there m') = λ e. both i j y ne (column_stands i m) (rw e (column_stands j m'))

    fresh_view : View
    fresh_view = record { list = column P; ring = ring_items P; marked = λ q. false }

    pub fresh_named : (o : Placed) → Mem o (placed P) → (x : Node) → Mem x (nodes_from o.first o.entries) → Named n (fresh P) false x
    unfolding node_words
    fresh_named o mo x mx = record {
      top_is = ap (λ (k : ℕ). get_or (fresh P) k (pos 0)) (omega arith) ∙ fresh_node mo mx 0 (omega arith) ∙ ap pos (add-one x.entry.item);
      colour_is = fresh_node mo mx 3 (omega arith);
    }

    pub fresh_spaced : (o : Placed) → Mem o (placed P) → Spaced n (fresh P) o
    unfolding placed
    fresh_spaced o mo = record {
      number_is = ap (λ (k : ℕ). get_or (fresh P) k (pos 0)) (omega (arith, placed_range P mo)) ∙ fresh_option (end - (n + 1 + 1)) 0 ∙ number.0;
      first_is = ap (λ (k : ℕ). get_or (fresh P) k (pos 0)) (omega (arith, placed_range P mo)) ∙ fresh_option (end - (n + 1 + 1)) 1 ∙ number.1;
      before_is = λ s e. before s e (ℕ_discrete s (n + 1));
    }
      where
        end : ℕ
        end = o.first + length o.entries

        R : Reads P (place P.np 0 (n + 1) P.options) (n + 1) o
        R = place_reads P P.np 0 (n + 1) P.options mo

        number : (read P (place P.np 0 (n + 1) P.options) (end - (n + 1 + 1)) 0 ≡ negsuc o.number) × (read P (place P.np 0 (n + 1) P.options) (end - (n + 1 + 1)) 1 ≡ pos o.first)
        number = R.number_read (end - (n + 1 + 1)) (omega (arith, placed_range P mo))

        before : (s : ℕ) → suc s ≡ o.first → Dec (s ≡ n + 1) → (link (fresh P) (top n s) ≡ 0) × (get_or (fresh P) (down n s) (pos 0) ≡ pos (s + length o.entries))
        before s e (yes u) = (
          ap (λ (k : ℕ). link (fresh P) k) (omega arith) ∙ ap nat (fresh_spacer 0 (omega arith)),
          ap (λ (k : ℕ). get_or (fresh P) k (pos 0)) (omega arith) ∙ fresh_spacer 2 (omega arith)
              ∙ ap pos (last_read P P.np 0 (n + 1) P.options mo (omega arith) ∙ omega arith),
        )
        before s e (no u) =
            let b = placed_range P mo in
            let k : ℕ = s - (n + 1 + 1) in
            let v : s ≡ n + 1 + 1 + k = omega arith in
            let r = R.before_read s k e v in (
              ap (λ (k : ℕ). link (fresh P) k) (omega arith) ∙ ap nat (fresh_option k 0) ∙ r.0,
              ap (λ (k : ℕ). get_or (fresh P) k (pos 0)) (omega arith) ∙ fresh_option k 2 ∙ r.1,
            )

    -- the colour of the spacer before an option
    pub fresh_before : (o : Placed) → Mem o (placed P) → (s : ℕ) → suc s ≡ o.first → get_or (fresh P) (colour_at n s) (pos 0) ≡ pos 0
    unfolding placed
    fresh_before o mo s e = go (ℕ_discrete s (n + 1))
      where
        go : Dec (s ≡ n + 1) → get_or (fresh P) (colour_at n s) (pos 0) ≡ pos 0
        go (yes u) = rw u (fresh_spacer 3 (omega arith))
        go (no u) =
            let b = placed_range P mo in
            let k : ℕ = s - (n + 1 + 1) in
            let v : s ≡ n + 1 + 1 + k = omega arith in
            ap (λ (q : ℕ). get_or (fresh P) (colour_at n q) (pos 0)) v ∙ fresh_option k 3 ∙ ((place_reads P P.np 0 (n + 1) P.options mo).before_read s k e v).2

    fresh_table : Table P fresh_view (fresh P)
    unfolding fresh_view
    fresh_table = record {
      size = fresh_length;
      lists = fresh_lists;
      stand = λ i hi q m. column_stands i m;
      counted = λ i hi. ap (λ (k : ℕ). get_or (fresh P) k (pos 0)) (omega arith) ∙ fresh_header i 0 hi (omega arith);
      rings = fresh_rings;
      ringed = λ k hk x m. ringed k x m;
      paired = λ x hx. (left_word x hx ∙ ap (λ (z : ℤ). pos (nat z)) (sym (left_word x hx)), right_word x hx ∙ ap (λ (z : ℤ). pos (nat z)) (sym (right_word x hx)));
      named = fresh_named;
      spaced = fresh_spaced;
    }
      where
        ringed : (k x : ℕ) → Mem x (ring_items P k) → (0 < x) × (x < items P + 1)
        ringed zero x m = let r = run_mem 1 P.np m in (omega arith, omega arith)
        ringed (suc k) x m = let r = run_mem (suc P.np) P.ns m in (omega arith, omega arith)

    -- nothing holds in the fresh table
    pub fresh_shows : Shows P [] (fresh P)
    unfolding fresh_view since removed marked keep has
    fresh_shows = same_table P fresh_view (view P []) (fresh P) (record {
      lists = λ i hi. linked_column i;
      rings = λ k hk. keep_all (λ x. not (among [] x)) (ring_items P k) (λ x m. tt);
      marks = λ q. refl;
    }) fresh_table

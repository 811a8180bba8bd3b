-- The fresh table made an entry at a time, as `init_links` does.
use Rattle.std.specs.Prelude.{◌≡◌, ◌⊎◌, ◌≢◌, Bool, true, false, ◌||◌, T, eqb, ltb, ℤ, pos, negsuc, set}
use Rattle.std.proofs.Math.Path.{refl, sym, ap, subst}
use Rattle.std.proofs.Common.{◌∙◌, inl, inr, lt→ltb, ltb→lt, length-set, get_or-set_same, get_or-set_other, ext_get_or, eq-eqb, ne_eqb}
use mathlib.Core.List.Memᴰ.{head as here}
use mathlib.Core.List.Memᴰ.{tail as there}
use mathlib.Core.List.{List, [], ◌∷◌, ◌++◌, map, append_assoc, append-nil, Memᴰ as Mem}
use mathlib.Core.List.Memᴰ.{eq_of_singleton as of-singleton}
use mathlib.Core.List.Memᴰ.{map as map-in}
use mathlib.Core.List.Memᴰ.{not-nil}
use Prim.Native.Nat.{ℕ, zero, suc, ◌+◌, ◌*◌, ◌-◌, ◌≤◌, ◌<◌}
use native.Mathlib.Omega.{arith}
use Rattle.std.proofs.Math.Decide.{ℕ_discrete, dec_lt}
use Rattle.std.proofs.Math.IntN.{suc_ℤ}
use Rattle.std.proofs.Math.ListN.{length, get_or, length-append, get_or-eq_default}
use Rattle.rules.specs.Lists.{also, keep, each, has, flat, run}
use Rattle.rules.specs.Words.{nat}
use Rattle.rules.specs.Problem.{Entry, Problem, items}
use Rattle.rules.specs.Order.{has_item, agree, Placed, kept, spacer_after, place, placed, node, place_of, choices}
use Rattle.rules.specs.Links.{Node, nodes_from, column, ring_words, fresh, up, down, top, colour_at, link, join}
use Rattle.laws.specs.Lists.{apart_nil, apart_cons, length_run}
use Rattle.laws.specs.Faults.{Good, ranged, Simple, simple}
use Rattle.tables.specs.Fresh.{flat_length, flat_getD, getD_left, getD_right, run_getD, four_suc, ring_length, fresh_length, fresh_unused, fresh_spacer, fresh_header, fresh_low, fresh_end, fresh_before, fresh_named, fresh_spaced, column_stands, linked_column, fresh_lists}
use Rattle.tables.specs.Nodes.{nodes_at, placed_range, span, nodes, linked_in}
use Rattle.tables.specs.Ring.{Linked}
use Rattle.tables.specs.Rings.{Rings, rings_links, rings_append, rings_lists, more, more_mem_of, last_in, following_in, before_in, behind_in}
use Rattle.tables.specs.Touch.{Stands}
use Rattle.tables.specs.Undo.{rise, word_of, join_else, third_length, third_else, third_first, third_second, third_third}
use Rattle.tables.specs.Views.{Spaced, Named, stands_range, stands_no_spacer}

-- ---- the steps

-- a header points at itself
abbrev pub self : Bool → ℕ → ℕ
self true q = q
self false q = 0

abbrev pub blank_node : ℕ → ℕ → List ℤ
blank_node n q = pos 0 ∷ pos (self (ltb q (n + 1)) q) ∷ pos (self (ltb q (n + 1)) q) ∷ pos 0 ∷ []

-- before the first option
unfoldable pub blank : Problem → List ℤ
blank P = ring_words P ++ flat (blank_node (items P)) (run 0 (nodes P))

-- four words from place k
abbrev pub four : List ℤ → ℕ → ℤ → ℤ → ℤ → ℤ → List ℤ
four t k a b c d = set (set (set (set t k a) (k + 1) b) (k + 2) c) (k + 3) d

-- entry e at node q, last in its item's list
unfoldable pub add : ℕ → List ℤ → ℕ → Entry → List ℤ
add n t q e =
    let i : ℕ = suc e.item in
    let u : ℕ = link t (up n i) in
    rise (join (four t (top n q) (pos i) (pos u) (pos i) (pos e.colour)) (down n u) (pos q) (up n i) (pos q)) (top n i)

unfoldable pub add_all : ℕ → List ℤ → ℕ → List Entry → List ℤ
add_all n t q [] = t
add_all n t q (e ∷ es) = add_all n (add n t q e) (suc q) es

-- the spacers around the option of k entries that follows spacer p
unfoldable pub close : ℕ → List ℤ → ℕ → ℕ → ℕ → List ℤ
close n t m p k = set (join t (down n p) (pos (p + k)) (top n (p + k + 1)) (negsuc m)) (up n (p + k + 1)) (pos (p + 1))

abbrev pub add_option : Bool → ℕ → List ℤ → ℕ → ℕ → List Entry → List ℤ
add_option true n t m p o = close n (add_all n t (p + 1) o) m p (length o)
add_option false n t m p o = t

unfoldable pub build : ℕ → ℕ → List ℤ → ℕ → ℕ → List (List Entry) → List ℤ
build n np t m p [] = t
build n np t m p (o ∷ os) = build n np (add_option (kept np o) n t m p o) (m + 1) (spacer_after (kept np o) p o) os

unfoldable pub built : Problem → List ℤ
built P = build (items P) P.np (blank P) 0 (items P + 1) P.options

-- ---- four words

module _ (t : List ℤ) (k : ℕ) (a b c d : ℤ) where
  four_length : length (four t k a b c d) ≡ length t
  four_length = length-set (set (set (set t k a) (k + 1) b) (k + 2) c) (k + 3) d ∙ length-set (set (set t k a) (k + 1) b) (k + 2) c ∙ length-set (set t k a) (k + 1) b ∙ length-set t k a

  four_else : (j : ℕ) → j < k ⊎ k + 4 ≤ j → get_or (four t k a b c d) j (pos 0) ≡ get_or t j (pos 0)
  four_else j o = go (away o)
    where
      away : j < k ⊎ k + 4 ≤ j → (j ≢ k) × (j ≢ k + 1) × (j ≢ k + 2) × (j ≢ k + 3)
      away (inl h) = (omega arith, omega arith, omega arith, omega arith)
      away (inr h) = (omega arith, omega arith, omega arith, omega arith)

      go : (j ≢ k) × (j ≢ k + 1) × (j ≢ k + 2) × (j ≢ k + 3) → get_or (four t k a b c d) j (pos 0) ≡ get_or t j (pos 0)
      go (e0, e1, e2, e3) =
          get_or-set_other (set (set (set t k a) (k + 1) b) (k + 2) c) (k + 3) j d (pos 0) e3 ∙ get_or-set_other (set (set t k a) (k + 1) b) (k + 2) j c (pos 0) e2
          ∙ get_or-set_other (set t k a) (k + 1) j b (pos 0) e1 ∙ get_or-set_other t k j a (pos 0) e0

  module _ (h : k + 3 < length t) where
    four_0 : get_or (four t k a b c d) k (pos 0) ≡ a
    four_0 =
        get_or-set_other (set (set (set t k a) (k + 1) b) (k + 2) c) (k + 3) k d (pos 0) (omega arith) ∙ get_or-set_other (set (set t k a) (k + 1) b) (k + 2) k c (pos 0) (omega arith)
        ∙ get_or-set_other (set t k a) (k + 1) k b (pos 0) (omega arith) ∙ get_or-set_same t k a (pos 0) (omega arith)

    four_1 : get_or (four t k a b c d) (k + 1) (pos 0) ≡ b
    four_1 =
        get_or-set_other (set (set (set t k a) (k + 1) b) (k + 2) c) (k + 3) (k + 1) d (pos 0) (omega arith) ∙ get_or-set_other (set (set t k a) (k + 1) b) (k + 2) (k + 1) c (pos 0) (omega arith)
        ∙ get_or-set_same (set t k a) (k + 1) b (pos 0) (omega (arith, length-set t k a))

    four_2 : get_or (four t k a b c d) (k + 2) (pos 0) ≡ c
    four_2 =
        get_or-set_other (set (set (set t k a) (k + 1) b) (k + 2) c) (k + 3) (k + 2) d (pos 0) (omega arith)
        ∙ get_or-set_same (set (set t k a) (k + 1) b) (k + 2) c (pos 0) (omega (arith, length-set (set t k a) (k + 1) b, length-set t k a))

    four_3 : get_or (four t k a b c d) (k + 3) (pos 0) ≡ d
    four_3 =
        get_or-set_same (set (set (set t k a) (k + 1) b) (k + 2) c) (k + 3) d (pos 0)
        (omega (arith, length-set (set (set t k a) (k + 1) b) (k + 2) c, length-set (set t k a) (k + 1) b, length-set t k a))

-- ---- what is linked so far: nodes below q

record Part (P : Problem) (q : ℕ) (l : ℕ → List ℕ) (t : List ℤ) : Type 0 where
  size : length t ≡ 2 * (items P + 2) + 4 * nodes P
  lists : Rings (items P) suc (λ y. link t (down (items P) y)) (λ y. link t (up (items P) y)) l
  stand : (i : ℕ) → i < items P → (y : ℕ) → Mem y (l i) → Stands P i y × (y < q)
  counted : (i : ℕ) → i < items P → get_or t (top (items P) (suc i)) (pos 0) ≡ pos (length (l i))

module _ (P : Problem) (q : ℕ) (l : ℕ → List ℕ) (t : List ℤ) (S : Part P q l t) (e : Entry) (small : e.item < items P) (stands : Stands P e.item q) where
  abbrev n : ℕ
  n = items P

  abbrev i : ℕ
  i = e.item

  abbrev nx : ℕ → ℕ
  nx y = link t (down n y)

  abbrev pv : ℕ → ℕ
  pv y = link t (up n y)

  abbrev u : ℕ
  u = link t (up n (suc i))

  abbrev t4 : List ℤ
  t4 = four t (top n q) (pos (suc i)) (pos u) (pos (suc i)) (pos e.colour)

  abbrev t' : List ℤ
  t' = add n t q e

  q_range : (n + 1 < q) × (q < nodes P)
  q_range = stands_range P i q stands

  -- the last so far
  u_in : Mem u (suc i ∷ l i)
  u_in = last_in nx pv (suc i) (l i) (suc i) (S.lists.linked i small)

  -- a header, or a node of the item
  u_is : (u ≡ suc i) ⊎ (Stands P i u × (u < q))
  u_is = go u_in
    where
      go : {y : ℕ} → Mem y (suc i ∷ l i) → (y ≡ suc i) ⊎ (Stands P i y × (y < q))
      go (here e) = inl e
      go {y} (there m) = inr (S.stand i small y m)

  u_range : (0 < u) × (u < q)
  u_range = go u_is
    where
      go : (u ≡ suc i) ⊎ (Stands P i u × (u < q)) → (0 < u) × (u < q)
      go (inl e) = (omega arith, omega (arith, q_range))
      go (inr (s, h)) = let r = stands_range P i u s in (omega arith, h)

  add_else : (k : ℕ) → k < top n q ⊎ top n q + 4 ≤ k → k ≢ down n u → k ≢ up n (suc i) → k ≢ top n (suc i) → get_or t' k (pos 0) ≡ get_or t k (pos 0)
  unfolding add
  add_else k h a b c =
      third_else t4 (down n u) (up n (suc i)) (pos q) (pos q) (top n (suc i)) (suc_ℤ (get_or (join t4 (down n u) (pos q) (up n (suc i)) (pos q)) (top n (suc i)) (pos 0))) k a b c
      ∙ four_else t (top n q) (pos (suc i)) (pos u) (pos (suc i)) (pos e.colour) k h

  add_length : length t' ≡ length t
  unfolding add
  add_length =
      third_length t4 (down n u) (up n (suc i)) (pos q) (pos q) (top n (suc i)) (suc_ℤ (get_or (join t4 (down n u) (pos q) (up n (suc i)) (pos q)) (top n (suc i)) (pos 0)))
      ∙ four_length t (top n q) (pos (suc i)) (pos u) (pos (suc i)) (pos e.colour)

  four_long : length t4 ≡ length t
  four_long = four_length t (top n q) (pos (suc i)) (pos u) (pos (suc i)) (pos e.colour)

  -- node q's words
  own_word : (k : ℕ) → top n q ≤ k → k < top n q + 4 → get_or t' k (pos 0) ≡ get_or t4 k (pos 0)
  unfolding add
  own_word k h g =
      third_else t4 (down n u) (up n (suc i)) (pos q) (pos q) (top n (suc i)) (suc_ℤ (get_or (join t4 (down n u) (pos q) (up n (suc i)) (pos q)) (top n (suc i)) (pos 0))) k
      (omega (arith, u_range)) (omega (arith, q_range)) (omega (arith, q_range))

  room : top n q + 3 < length t
  room = omega (arith, q_range, S.size)

  new_top : get_or t' (top n q) (pos 0) ≡ pos (suc i)
  new_top = own_word (top n q) (omega arith) (omega arith) ∙ four_0 t (top n q) (pos (suc i)) (pos u) (pos (suc i)) (pos e.colour) room

  new_up : get_or t' (up n q) (pos 0) ≡ pos u
  new_up = own_word (up n q) (omega arith) (omega arith) ∙ four_1 t (top n q) (pos (suc i)) (pos u) (pos (suc i)) (pos e.colour) room

  new_down : get_or t' (down n q) (pos 0) ≡ pos (suc i)
  new_down = own_word (down n q) (omega arith) (omega arith) ∙ four_2 t (top n q) (pos (suc i)) (pos u) (pos (suc i)) (pos e.colour) room

  new_colour : get_or t' (colour_at n q) (pos 0) ≡ pos e.colour
  new_colour = own_word (colour_at n q) (omega arith) (omega arith) ∙ four_3 t (top n q) (pos (suc i)) (pos u) (pos (suc i)) (pos e.colour) room

  u_down : get_or t' (down n u) (pos 0) ≡ pos q
  unfolding add
  u_down =
      third_first t4 (down n u) (up n (suc i)) (pos q) (pos q) (top n (suc i)) (suc_ℤ (get_or (join t4 (down n u) (pos q) (up n (suc i)) (pos q)) (top n (suc i)) (pos 0)))
      (omega arith) (omega arith) (omega (arith, u_range, q_range, S.size, four_long))

  i_up : get_or t' (up n (suc i)) (pos 0) ≡ pos q
  unfolding add
  i_up =
      third_second t4 (down n u) (up n (suc i)) (pos q) (pos q) (top n (suc i)) (suc_ℤ (get_or (join t4 (down n u) (pos q) (up n (suc i)) (pos q)) (top n (suc i)) (pos 0)))
      (omega arith) (omega (arith, q_range, S.size, four_long))

  i_count : get_or t' (top n (suc i)) (pos 0) ≡ pos (suc (length (l i)))
  unfolding add
  i_count =
      third_third t4 (down n u) (up n (suc i)) (pos q) (pos q) (top n (suc i)) (suc_ℤ (get_or (join t4 (down n u) (pos q) (up n (suc i)) (pos q)) (top n (suc i)) (pos 0)))
      (omega (arith, q_range, S.size, four_long))
      ∙ ap suc_ℤ (join_else t4 (down n u) (up n (suc i)) (pos q) (pos q) (top n (suc i)) (omega arith) (omega arith)
      ∙ four_else t (top n q) (pos (suc i)) (pos u) (pos (suc i)) (pos e.colour) (top n (suc i)) (inl (omega (arith, q_range))) ∙ S.counted i small)

  length_more : (m : List ℕ) → length (m ++ q ∷ []) ≡ suc (length m)
  length_more m = length-append m (q ∷ []) ∙ omega arith

  add_part : Part P (suc q) (λ j. more (eqb i j) q (l j)) t'
  add_part = record {
    size = add_length ∙ S.size;
    lists = rings_append n suc nx pv l S.lists i small q fresh_one (λ y. link t' (down n y)) (λ y. link t' (up n y))
        (λ x a b. ap nat (add_else (down n x) (beside x b) (λ z. a (omega arith)) (omega arith) (omega arith))) (ap nat u_down) (ap nat new_down)
        (λ x a b. ap nat (add_else (up n x) (beside' x b) (omega arith) (λ z. a (omega arith)) (omega arith))) (ap nat i_up) (ap nat new_up);
    stand = λ j hj y m. stand_at j hj y (more_at j m);
    counted = λ j hj. count_at j hj (ℕ_discrete i j);
  }
    where
      fresh_one : (j : ℕ) → j < n → (y : ℕ) → Mem y (suc j ∷ l j) → y ≢ q
      fresh_one j hj y (here e) = omega (arith, q_range)
      fresh_one j hj y (there m) = let r = S.stand j hj y m in omega (arith, r.1)

      beside : (x : ℕ) → x ≢ q → down n x < top n q ⊎ top n q + 4 ≤ down n x
      beside x ne = go (dec_lt x q)
        where
          go : Dec (x < q) → down n x < top n q ⊎ top n q + 4 ≤ down n x
          go (yes h) = inl (omega arith)
          go (no h) = inr (omega arith)

      beside' : (x : ℕ) → x ≢ q → up n x < top n q ⊎ top n q + 4 ≤ up n x
      beside' x ne = go (dec_lt x q)
        where
          go : Dec (x < q) → up n x < top n q ⊎ top n q + 4 ≤ up n x
          go (yes h) = inl (omega arith)
          go (no h) = inr (omega arith)

      more_at : (j : ℕ) {y : ℕ} → Mem y (more (eqb i j) q (l j)) → ((y ≡ q) × (i ≡ j)) ⊎ Mem y (l j)
      more_at j m = more_mem_of i q (l j) j m

      stand_at : (j : ℕ) → j < n → (y : ℕ) → ((y ≡ q) × (i ≡ j)) ⊎ Mem y (l j) → Stands P j y × (y < suc q)
      stand_at j hj y (inl (a, b)) = (rw (a, ← b) stands, omega arith)
      stand_at j hj y (inr m) = let r = S.stand j hj y m in (r.0, omega (arith, r.1))

      count_at : (j : ℕ) → j < n → Dec (i ≡ j) → get_or t' (top n (suc j)) (pos 0) ≡ pos (length (more (eqb i j) q (l j)))
      count_at j hj (yes z) = rw (eq-eqb i j z, ← z) (i_count ∙ ap pos (sym (length_more (l i))))
      count_at j hj (no z) = rw (ne_eqb i j z) (add_else (top n (suc j)) (inl (omega (arith, q_range))) (omega arith) (omega arith) (λ w. z (omega arith)) ∙ S.counted j hj)

-- an item's list, once the entries are added
unfoldable grown : ℕ → List ℕ → ℕ → List Entry → List ℕ
grown j l q [] = l
grown j l q (e ∷ es) = grown j (more (eqb e.item j) q l) (suc q) es

-- ---- the words so far are the fresh table's

-- word r of node y
abbrev at_word : Problem → ℕ → ℕ → ℕ
at_word P y r = 2 * (items P + 2) + 4 * y + r

-- a link or a length, which changes while nodes are added
abbrev Lively : Problem → ℕ → ℕ → Type 0
Lively P y r = ((j : ℕ) × (j < items P) × (y ≡ suc j) × (r < 3)) ⊎ ((j : ℕ) × (j < items P) × Stands P j y × ((r ≡ 1) ⊎ (r ≡ 2)))

abbrev Right : Problem → List ℤ → ℕ → ℕ → Type 0
Right P t y r = (get_or t (at_word P y r) (pos 0) ≡ get_or (fresh P) (at_word P y r) (pos 0)) ⊎ Lively P y r

right_on : (P : Problem) (t t' : List ℤ) (y r : ℕ) → get_or t' (at_word P y r) (pos 0) ≡ get_or t (at_word P y r) (pos 0) → Right P t y r → Right P t' y r
right_on P t t' y r s (inl e) = inl (s ∙ e)
right_on P t t' y r s (inr v) = inr v

-- nodes below q are there, but for the last words of p, the spacer before the option that is being added
record Mid (P : Problem) (p q : ℕ) (t : List ℤ) : Type 0 where
  low : (k : ℕ) → k < 2 * (items P + 2) → get_or t k (pos 0) ≡ get_or (fresh P) k (pos 0)
  done : (y r : ℕ) → r < 4 → y < q → (y ≢ p) ⊎ (r < 2) → Right P t y r
  bare : (y r : ℕ) → r < 4 → (q ≤ y) ⊎ ((y ≡ p) × (2 ≤ r)) → get_or t (at_word P y r) (pos 0) ≡ pos 0

module _ (P : Problem) (G : Good P) (p : ℕ) (o : Placed) (mo : Mem o (placed P)) (first : suc p ≡ o.first) where
  p_range : items P < p
  p_range = let r = placed_range P mo in omega arith

  p_not : (i : ℕ) → Stands P i p → ⊥
  p_not i s = (stands_no_spacer P mo i p s).1 first

  module _ (q : ℕ) (l : ℕ → List ℕ) (t : List ℤ) (S : Part P q l t) (M : Mid P p q t) (pq : p < q) (x : Node) (mx : Mem x (nodes_from o.first o.entries)) (atq : x.at ≡ q) where
    entry_at : (x.at ≡ o.first + place_of x.entry.item o.entries) × Mem x.entry o.entries
    entry_at = nodes_at o.first (simple G o mo) mx

    small : x.entry.item < items P
    small = ranged G o mo x.entry entry_at.1

    stands : Stands P x.entry.item q
    stands = (o, mo, (x.entry, entry_at.1, refl), sym atq ∙ entry_at.0)

    abbrev i₁ : ℕ
    i₁ = x.entry.item

    abbrev u₁ : ℕ
    u₁ = link t (up (items P) (suc x.entry.item))

    abbrev t₁ : List ℤ
    t₁ = add (items P) t q x.entry

    else₁ : (k : ℕ) → k < top (items P) q ⊎ top (items P) q + 4 ≤ k → k ≢ down (items P) u₁ → k ≢ up (items P) (suc i₁) → k ≢ top (items P) (suc i₁) → get_or t₁ k (pos 0) ≡ get_or t k (pos 0)
    else₁ = add_else P q l t S x.entry small stands

    is₁ : (u₁ ≡ suc i₁) ⊎ (Stands P i₁ u₁ × (u₁ < q))
    is₁ = u_is P q l t S x.entry small stands

    range₁ : (0 < u₁) × (u₁ < q)
    range₁ = u_range P q l t S x.entry small stands

    grow_part : Part P (suc q) (λ j. more (eqb i₁ j) q (l j)) t₁
    grow_part = add_part P q l t S x.entry small stands

    grow_mid : Mid P p (suc q) t₁
    grow_mid = record {
      low = λ k h. else₁ k (inl (omega arith)) (omega arith) (omega arith) (omega arith) ∙ M.low k h;
      done = λ y r h k d. done_at y r h (ℕ_discrete y q) k d;
      bare = λ y r h d. bare_at y r h d;
    }
      where
        N : Named (items P) (fresh P) false x
        N = fresh_named P G o mo x mx

        q_words : (r : ℕ) → r < 4 → Right P t₁ q r
        q_words zero h = inl (
            ap (λ (k : ℕ). get_or t₁ k (pos 0)) (omega arith) ∙ new_top P q l t S x.entry small stands ∙ sym N.top_is
            ∙ ap (λ (k : ℕ). get_or (fresh P) k (pos 0)) (omega arith))
        q_words (suc zero) h = inr (inr (i₁, small, stands, inl refl))
        q_words (suc (suc zero)) h = inr (inr (i₁, small, stands, inr refl))
        q_words (suc (suc (suc zero))) h = inl (new_colour P q l t S x.entry small stands ∙ sym N.colour_is ∙ ap (λ (k : ℕ). get_or (fresh P) (colour_at (items P) k) (pos 0)) atq)
        q_words (suc (suc (suc (suc r)))) h = absurd (omega arith)

        live_u : (y r : ℕ) → r < 4 → at_word P y r ≡ down (items P) u₁ → Lively P y r
        live_u y r h z = go (is₁)
          where
            go : (u₁ ≡ suc i₁) ⊎ (Stands P i₁ u₁ × (u₁ < q)) → Lively P y r
            go (inl w) = inl (i₁, small, omega arith, omega arith)
            go (inr (s, w)) =
                let v : u₁ ≡ y = omega arith in
                inr (i₁, small, subst (Stands P i₁) v s, inr (omega arith))

        old : (y r : ℕ) → r < 4 → y < q → Right P t y r → Dec (at_word P y r ≡ down (items P) u₁)
            → Dec (at_word P y r ≡ up (items P) (suc i₁)) → Dec (at_word P y r ≡ top (items P) (suc i₁)) → Right P t₁ y r
        old y r h k R (yes a) b c = inr (live_u y r h a)
        old y r h k R (no a) (yes b) c = inr (inl (i₁, small, omega arith, omega arith))
        old y r h k R (no a) (no b) (yes c) = inr (inl (i₁, small, omega arith, omega arith))
        old y r h k R (no a) (no b) (no c) =
            right_on P t t₁ y r (else₁ (at_word P y r) (inl (omega arith)) a b c) R

        done_at : (y r : ℕ) → r < 4 → Dec (y ≡ q) → y < suc q → (y ≢ p) ⊎ (r < 2) → Right P t₁ y r
        done_at y r h (yes w) k d = rw w (q_words r h)
        done_at y r h (no w) k d =
            old y r h (omega arith) (M.done y r h (omega arith) d) (ℕ_discrete (at_word P y r) (down (items P) u₁))
            (ℕ_discrete (at_word P y r) (up (items P) (suc i₁))) (ℕ_discrete (at_word P y r) (top (items P) (suc i₁)))

        not_p : u₁ ≢ p
        not_p = go (is₁)
          where
            go : (u₁ ≡ suc i₁) ⊎ (Stands P i₁ u₁ × (u₁ < q))
                → u₁ ≢ p
            go (inl w) = omega (arith, p_range, small)
            go (inr (s, w)) = λ z. p_not i₁ (subst (Stands P i₁) z s)

        bare_at : (y r : ℕ) → r < 4 → (suc q ≤ y) ⊎ ((y ≡ p) × (2 ≤ r)) → get_or t₁ (at_word P y r) (pos 0) ≡ pos 0
        bare_at y r h (inl k) =
            let a = range₁ in
            else₁ (at_word P y r) (inr (omega arith)) (omega arith) (omega (arith, p_range, small)) (omega (arith, p_range, small)) ∙ M.bare y r h (inl (omega arith))
        bare_at y r h (inr (z, k)) =
            else₁ (at_word P y r) (inl (omega arith)) (λ w. not_p (omega arith)) (omega (arith, p_range, small)) (omega (arith, p_range, small)) ∙ M.bare y r h (inr (z, k))

  -- all entries of the option
  grow_all : (q : ℕ) (es : List Entry) (l : ℕ → List ℕ) (t : List ℤ) → Part P q l t → Mid P p q t → p < q → ((x : Node) → Mem x (nodes_from q es) → Mem x (nodes_from o.first o.entries))
      → Part P (q + length es) (λ j. grown j (l j) q es) (add_all (items P) t q es) × Mid P p (q + length es) (add_all (items P) t q es)
  unfolding add_all grown nodes_from
  grow_all q [] l t S M pq sub = subst (λ (k : ℕ). Part P k l t × Mid P p k t) (omega arith) (S, M)
  grow_all q (e ∷ es) l t S M pq sub =
      let x : Node = record { at = q; entry = e } in
      let mx = sub x (here refl) in
      subst (λ (k : ℕ). Part P k (λ j. grown j (more (eqb e.item j) q (l j)) (suc q) es) (add_all (items P) (add (items P) t q e) (suc q) es) × Mid P p k (add_all (items P) (add (items P) t q e) (suc q) es)) (omega arith)
      (grow_all (suc q) es (λ j. more (eqb e.item j) q (l j)) (add (items P) t q e) (grow_part q l t S M pq x mx refl) (grow_mid q l t S M pq x mx refl) (omega arith) (λ y my. sub y (there my)))

  -- and the spacers
  module _ (q : ℕ) (l : ℕ → List ℕ) (t : List ℤ) (S : Part P q l t) (M : Mid P p q t) (qs : q ≡ p + length o.entries + 1) where
    abbrev tc : List ℤ
    tc = close (items P) t o.number p (length o.entries)

    q_in : q < nodes P
    q_in = let r = placed_range P mo in omega arith

    close_else : (j : ℕ) → j ≢ down (items P) p → j ≢ top (items P) (p + length o.entries + 1) → j ≢ up (items P) (p + length o.entries + 1) → get_or tc j (pos 0) ≡ get_or t j (pos 0)
    unfolding close
    close_else = third_else t (down (items P) p) (top (items P) (p + length o.entries + 1)) (pos (p + length o.entries)) (negsuc o.number) (up (items P) (p + length o.entries + 1)) (pos (p + 1))

    close_down : get_or tc (down (items P) p) (pos 0) ≡ pos (p + length o.entries)
    unfolding close
    close_down =
        third_first t (down (items P) p) (top (items P) (p + length o.entries + 1)) (pos (p + length o.entries)) (negsuc o.number) (up (items P) (p + length o.entries + 1)) (pos (p + 1))
        (omega arith) (omega arith) (omega (arith, q_in, S.size))

    close_top : get_or tc (top (items P) (p + length o.entries + 1)) (pos 0) ≡ negsuc o.number
    unfolding close
    close_top =
        third_second t (down (items P) p) (top (items P) (p + length o.entries + 1)) (pos (p + length o.entries)) (negsuc o.number) (up (items P) (p + length o.entries + 1)) (pos (p + 1))
        (omega arith) (omega (arith, q_in, S.size))

    close_up : get_or tc (up (items P) (p + length o.entries + 1)) (pos 0) ≡ pos (p + 1)
    unfolding close
    close_up =
        third_third t (down (items P) p) (top (items P) (p + length o.entries + 1)) (pos (p + length o.entries)) (negsuc o.number) (up (items P) (p + length o.entries + 1)) (pos (p + 1))
        (omega (arith, q_in, S.size))

    -- a member of a list is no spacer
    member_not : (i : ℕ) → i < items P → (y : ℕ) → Mem y (suc i ∷ l i) → (y ≢ p) × (y ≢ p + length o.entries + 1)
    member_not i hi y (here e) = (omega (arith, p_range), omega (arith, p_range))
    member_not i hi y (there m) =
        let s = (S.stand i hi y m).0 in
        let r = stands_no_spacer P mo i y s in
        let a = r.0 in
        let b = r.1 in
        (λ z. b (omega arith), λ z. a (omega arith))

    close_part : Part P (suc q) l tc
    unfolding close
    close_part = record {
      size = third_length t (down (items P) p) (top (items P) (p + length o.entries + 1)) (pos (p + length o.entries)) (negsuc o.number) (up (items P) (p + length o.entries + 1)) (pos (p + 1)) ∙ S.size;
      lists = rings_links (items P) suc (λ y. link t (down (items P) y)) (λ y. link t (up (items P) y)) l S.lists (λ y. link tc (down (items P) y)) (λ y. link tc (up (items P) y))
          (λ i hi y my. let r = member_not i hi y my in
          let a = r.0 in
          let b = r.1 in
          (ap nat (close_else (down (items P) y) (λ z. a (omega arith)) (omega arith) (omega arith)), ap nat (close_else (up (items P) y) (omega arith) (omega arith) (λ z. b (omega arith)))));
      stand = λ i hi y my. let r = S.stand i hi y my in (r.0, omega (arith, r.1));
      counted = λ i hi. close_else (top (items P) (suc i)) (omega arith) (omega (arith, p_range)) (omega arith) ∙ S.counted i hi;
    }

    close_mid : Mid P q (suc q) tc
    close_mid = record {
      low = λ j h. close_else j (omega arith) (omega arith) (omega arith) ∙ M.low j h;
      done = λ y r h b d. done_at y r h b d (ℕ_discrete y q) (ℕ_discrete y p);
      bare = λ y r h d. bare_at y r h d;
    }
      where
        F : Spaced (items P) (fresh P) o
        F = fresh_spaced P G o mo

        q_words : (r : ℕ) → r < 2 → get_or tc (at_word P q r) (pos 0) ≡ get_or (fresh P) (at_word P q r) (pos 0)
        q_words zero h =
            ap (λ (j : ℕ). get_or tc j (pos 0)) (omega arith) ∙ close_top ∙ sym F.number_is ∙ ap (λ (j : ℕ). get_or (fresh P) j (pos 0)) (omega arith)
        q_words (suc zero) h =
            ap (λ (j : ℕ). get_or tc j (pos 0)) (omega arith) ∙ close_up ∙ ap pos (omega arith) ∙ sym F.first_is ∙ ap (λ (j : ℕ). get_or (fresh P) j (pos 0)) (omega arith)
        q_words (suc (suc r)) h = absurd (omega arith)

        p_words : (r : ℕ) → r < 4 → Right P tc p r
        p_words zero h = right_on P t tc p 0 (close_else (at_word P p 0) (omega arith) (omega arith) (omega arith)) (M.done p 0 h (omega arith) (inr (omega arith)))
        p_words (suc zero) h = right_on P t tc p 1 (close_else (at_word P p 1) (omega arith) (omega arith) (omega arith)) (M.done p 1 h (omega arith) (inr (omega arith)))
        p_words (suc (suc zero)) h = inl (close_down ∙ sym (F.before_is p first).1)
        p_words (suc (suc (suc zero))) h =
            inl (close_else (at_word P p 3) (omega arith) (omega arith) (omega arith) ∙ M.bare p 3 h (inr (refl, omega arith)) ∙ sym (fresh_before P G o mo p first))
        p_words (suc (suc (suc (suc r)))) h = absurd (omega arith)

        done_at : (y r : ℕ) → r < 4 → y < suc q → (y ≢ q) ⊎ (r < 2) → Dec (y ≡ q) → Dec (y ≡ p) → Right P tc y r
        done_at y r h b (inl d) (yes e) g = absurd (d e)
        done_at y r h b (inr d) (yes e) g = rw e (inl (q_words r d))
        done_at y r h b d (no e) (yes g) = rw g (p_words r h)
        done_at y r h b d (no e) (no g) =
            right_on P t tc y r (close_else (at_word P y r) (λ z. g (omega arith)) (omega arith) (omega arith)) (M.done y r h (omega arith) (inl g))

        bare_at : (y r : ℕ) → r < 4 → (suc q ≤ y) ⊎ ((y ≡ q) × (2 ≤ r)) → get_or tc (at_word P y r) (pos 0) ≡ pos 0
        bare_at y r h (inl b) = close_else (at_word P y r) (omega arith) (omega arith) (omega arith) ∙ M.bare y r h (inl (omega arith))
        bare_at y r h (inr (e, b)) = close_else (at_word P y r) (omega arith) (omega arith) (omega arith) ∙ M.bare y r h (inl (omega arith))

-- ---- an option's node of the item

grown_none : (j : ℕ) (l : List ℕ) (q : ℕ) (es : List Entry) → ((e : Entry) → Mem e es → e.item ≢ j) → grown j l q es ≡ l
unfolding grown
grown_none j l q [] h = refl
grown_none j l q (e ∷ es) h = rw (ne_eqb e.item j (h e (here refl))) (grown_none j l (suc q) es (λ d m. h d (there m)))

grown_is : (j : ℕ) (l : List ℕ) (q : ℕ) {es : List Entry} → Simple es → grown j l q es ≡ l ++ also (has_item j es) (q + place_of j es) []
unfolding grown has_item has place_of
grown_is j l q apart_nil = sym (append-nil l)
grown_is j l q (apart_cons {x = e} {xs = es} r a) = go (ℕ_discrete e.item j) (grown_is j l (suc q) a)
  where
    go : Dec (e.item ≡ j) → grown j l (suc q) es ≡ l ++ also (has_item j es) (suc q + place_of j es) [] → grown j (more (eqb e.item j) q l) (suc q) es ≡ l ++ also (eqb e.item j || has_item j es) (q + place_of j (e ∷ es)) []
    go (yes u) rec =
        rw (eq-eqb e.item j u, place_of)
        (grown_none j (l ++ q ∷ []) (suc q) es (λ d m z. r d m (u ∙ sym z)) ∙ ap (λ (k : ℕ). l ++ k ∷ []) (omega arith))
    go (no u) rec =
        rw (ne_eqb e.item j u, place_of)
        (rec ∙ ap (λ (k : ℕ). l ++ also (has_item j es) k []) (omega arith))

part_same : (P : Problem) (q : ℕ) (l l' : ℕ → List ℕ) (t : List ℤ) → ((j : ℕ) → l' j ≡ l j) → Part P q l t → Part P q l' t
part_same P q l l' t E S = record {
  size = S.size;
  lists = rings_lists (items P) suc (λ y. link t (down (items P) y)) (λ y. link t (up (items P) y)) l S.lists l' (λ j hj. E j);
  stand = λ i hi y m. S.stand i hi y (rw (E i) at m);
  counted = λ i hi. S.counted i hi ∙ ap (λ (m : List ℕ). pos (length m)) (sym (E i));
}

-- ---- all options

module _ (P : Problem) (G : Good P) where
  build_all : (m p : ℕ) (os : List (List Entry)) (l : ℕ → List ℕ) (t : List ℤ) → ((o : Placed) → Mem o (place P.np m p os) → Mem o (placed P)) → Part P (suc p) l t → Mid P p (suc p) t
      → Part P (suc (p + span (place P.np m p os))) (λ j. l j ++ map node (choices j (place P.np m p os))) (build (items P) P.np t m p os)
      × Mid P (p + span (place P.np m p os)) (suc (p + span (place P.np m p os))) (build (items P) P.np t m p os)
  unfolding build place span choices keep
  build_all m p [] l t sub S M =
      subst (λ (k : ℕ). Part P (suc k) (λ j. l j ++ []) t × Mid P k (suc k) t) (omega arith) (part_same P (suc p) l (λ j. l j ++ []) t (λ j. append-nil (l j)) S, M)
  build_all m p (x ∷ os) l t sub S M = step (kept P.np x) sub (λ p' l' t' sub' S' M'. build_all (m + 1) p' os l' t' sub' S' M')
    where
      c : Placed
      c = record { number = m; first = p + 1; entries = x }

      both : (j : ℕ) (b : Bool) (r : List Placed) → (l j ++ also b (p + 1 + place_of j x) []) ++ map node (map (λ o. record { at = place_of j o.entries; option = o }) r)
          ≡ l j ++ map node (map (λ o. record { at = place_of j o.entries; option = o }) (also b c r))
      both j true r = append_assoc (l j) ((p + 1 + place_of j x) ∷ []) (map node (map (λ o. record { at = place_of j o.entries; option = o }) r))
      both j false r = ap (λ (z : List ℕ). z ++ map node (map (λ o. record { at = place_of j o.entries; option = o }) r)) (append-nil (l j))

      step : (b : Bool) → ((o : Placed) → Mem o (also b c (place P.np (m + 1) (spacer_after b p x) os)) → Mem o (placed P))
          → ((p' : ℕ) (l' : ℕ → List ℕ) (t' : List ℤ) → ((o : Placed) → Mem o (place P.np (m + 1) p' os) → Mem o (placed P)) → Part P (suc p') l' t' → Mid P p' (suc p') t'
          → Part P (suc (p' + span (place P.np (m + 1) p' os))) (λ j. l' j ++ map node (choices j (place P.np (m + 1) p' os))) (build (items P) P.np t' (m + 1) p' os)
          × Mid P (p' + span (place P.np (m + 1) p' os)) (suc (p' + span (place P.np (m + 1) p' os))) (build (items P) P.np t' (m + 1) p' os))
          → Part P (suc (p + span (also b c (place P.np (m + 1) (spacer_after b p x) os)))) (λ j. l j ++ map node (choices j (also b c (place P.np (m + 1) (spacer_after b p x) os))))
          (build (items P) P.np (add_option b (items P) t m p x) (m + 1) (spacer_after b p x) os)
          × Mid P (p + span (also b c (place P.np (m + 1) (spacer_after b p x) os))) (suc (p + span (also b c (place P.np (m + 1) (spacer_after b p x) os))))
          (build (items P) P.np (add_option b (items P) t m p x) (m + 1) (spacer_after b p x) os)
      step false sub rec = rec p l t sub S M
      step true sub rec =
          let mo : Mem c (placed P) = sub c (here refl) in
          let f : suc p ≡ p + 1 = omega arith in
          let g = grow_all P G p c mo f (p + 1) x l t (subst (λ (k : ℕ). Part P k l t) f S) (subst (λ (k : ℕ). Mid P p k t) f M) (omega arith) (λ y my. my) in
          let qs : p + 1 + length x ≡ p + length x + 1 = omega arith in
          let S' = close_part P G p c mo f (p + 1 + length x) (λ j. grown j (l j) (p + 1) x) (add_all (items P) t (p + 1) x) g.0 g.1 qs in
          let M' = close_mid P G p c mo f (p + 1 + length x) (λ j. grown j (l j) (p + 1) x) (add_all (items P) t (p + 1) x) g.0 g.1 qs in
          let t' : List ℤ = close (items P) (add_all (items P) t (p + 1) x) m p (length x) in
          let r = rec (p + length x + 1) (λ j. grown j (l j) (p + 1) x) t' (λ o a. sub o (there a)) (subst (λ (k : ℕ). Part P (suc k) (λ j. grown j (l j) (p + 1) x) t') qs S') (subst (λ (k : ℕ). Mid P k (suc k) t') qs M') in
          let e : p + length x + 1 + span (place P.np (m + 1) (p + length x + 1) os) ≡ p + (length x + 1 + span (place P.np (m + 1) (p + length x + 1) os)) = omega arith in
          let T : List ℤ = build (items P) P.np t' (m + 1) (p + length x + 1) os in
          let L : ℕ → List ℕ = λ j. l j ++ map node (choices j (c ∷ place P.np (m + 1) (p + length x + 1) os)) in
          subst (λ (k : ℕ). Part P (suc k) L T × Mid P k (suc k) T) e (
            part_same P (suc (p + length x + 1 + span (place P.np (m + 1) (p + length x + 1) os)))
                (λ j. grown j (l j) (p + 1) x ++ map node (choices j (place P.np (m + 1) (p + length x + 1) os))) L T
                (λ j. sym (ap (λ (z : List ℕ). z ++ map node (choices j (place P.np (m + 1) (p + length x + 1) os))) (grown_is j (l j) (p + 1) (simple G c mo))
                ∙ both j (has_item j x) (keep (λ o. has_item j o.entries) (place P.np (m + 1) (p + length x + 1) os)))) r.0,
            r.1,
          )

-- ---- before the first option

module _ (P : Problem) where
  blank_length : length (blank P) ≡ 2 * (items P + 2) + 4 * nodes P
  unfolding blank
  blank_length =
      length-append (ring_words P) (flat (blank_node (items P)) (run 0 (nodes P)))
      ∙ omega (arith, ring_length P, flat_length (blank_node (items P)) 4 (λ k. 4 * k) (λ x. refl) refl (four_suc P) (run 0 (nodes P)), length_run 0 (nodes P))

  blank_word : (y r : ℕ) → r < 4 → y < nodes P → get_or (blank P) (at_word P y r) (pos 0) ≡ get_or (blank_node (items P) y) r (pos 0)
  unfolding blank
  blank_word y r h k =
      getD_right (ring_words P) (flat (blank_node (items P)) (run 0 (nodes P))) (2 * (items P + 2)) (at_word P y r) (4 * y + r) (ring_length P) (omega arith)
      ∙ flat_getD (blank_node (items P)) 4 (λ k. 4 * k) (λ x. refl) refl (four_suc P) 0 (run 0 (nodes P)) y r (omega (arith, length_run 0 (nodes P))) h
      ∙ ap (λ (z : ℕ). get_or (blank_node (items P) z) r (pos 0)) (run_getD 0 (nodes P) y k ∙ omega arith)

  blank_low : (k : ℕ) → k < 2 * (items P + 2) → get_or (blank P) k (pos 0) ≡ get_or (fresh P) k (pos 0)
  unfolding blank
  blank_low k h = getD_left (ring_words P) (flat (blank_node (items P)) (run 0 (nodes P))) k (omega (arith, ring_length P)) ∙ sym (fresh_low P k h)

  self_header : (y : ℕ) → y < items P + 1 → self (ltb y (items P + 1)) y ≡ y
  self_header y h = go (ltb y (items P + 1)) (lt→ltb y (items P + 1) h)
    where
      go : (b : Bool) → T b → self b y ≡ y
      go true t = refl
      go false t = absurd t

  self_none : (y : ℕ) → (y ≡ 0) ⊎ (items P + 1 ≤ y) → self (ltb y (items P + 1)) y ≡ 0
  self_none y c = go (ltb y (items P + 1)) refl c
    where
      go : (b : Bool) → ltb y (items P + 1) ≡ b → (y ≡ 0) ⊎ (items P + 1 ≤ y) → self b y ≡ 0
      go false e c = refl
      go true e (inl z) = z
      go true e (inr h) = absurd (let w = ltb→lt y (items P + 1) (rw e tt) in omega arith)

  blank_zero : (y r : ℕ) → r < 4 → (y ≡ 0) ⊎ (items P + 1 ≤ y) → get_or (blank P) (at_word P y r) (pos 0) ≡ pos 0
  blank_zero y r h c = go (dec_lt y (nodes P))
    where
      word : (r : ℕ) → r < 4 → get_or (blank_node (items P) y) r (pos 0) ≡ pos 0
      word zero h = refl
      word (suc zero) h = ap pos (self_none y c)
      word (suc (suc zero)) h = ap pos (self_none y c)
      word (suc (suc (suc zero))) h = refl
      word (suc (suc (suc (suc r)))) h = absurd (omega arith)

      go : Dec (y < nodes P) → get_or (blank P) (at_word P y r) (pos 0) ≡ pos 0
      go (yes k) = blank_word y r h k ∙ word r h
      go (no k) = get_or-eq_default (blank P) (pos 0) (omega (arith, blank_length))

  header_in : (i : ℕ) → i < items P → suc i < nodes P
  unfolding nodes
  header_in i h = omega arith

  blank_part : Part P (suc (items P + 1)) (λ j. []) (blank P)
  blank_part = record {
    size = blank_length;
    lists = record {
      linked = λ i hi. (
        ap nat (blank_word (suc i) 2 (omega arith) (header_in i hi)) ∙ self_header (suc i) (omega arith),
        ap nat (blank_word (suc i) 1 (omega arith) (header_in i hi)) ∙ self_header (suc i) (omega arith),
      );
      distinct = λ i hi. (tt, tt);
      apart = λ i j hi hj ne y z my mz. let a = of-singleton my in let b = of-singleton mz in omega arith;
    };
    stand = λ i hi y m. absurd (not-nil m);
    counted = λ i hi. ap (λ (k : ℕ). get_or (blank P) k (pos 0)) (omega arith) ∙ blank_word (suc i) 0 (omega arith) (header_in i hi);
  }

  blank_mid : Mid P (items P + 1) (suc (items P + 1)) (blank P)
  blank_mid = record {
    low = blank_low;
    done = λ y r h k d. done_at y r h k d (ℕ_discrete y (items P + 1));
    bare = λ y r h d. blank_zero y r h (inr (late y r d));
  }
    where
      late : (y r : ℕ) → (suc (items P + 1) ≤ y) ⊎ ((y ≡ items P + 1) × (2 ≤ r)) → items P + 1 ≤ y
      late y r (inl h) = omega arith
      late y r (inr (e, h)) = omega arith

      unused_zero : (r : ℕ) → r < 4 → get_or (fresh P) (at_word P 0 r) (pos 0) ≡ pos 0
      unused_zero r h = ap (λ (k : ℕ). get_or (fresh P) k (pos 0)) (omega arith) ∙ fresh_unused P r h

      spacer_zero : (r : ℕ) → r < 2 → get_or (fresh P) (at_word P (items P + 1) r) (pos 0) ≡ pos 0
      spacer_zero zero h = fresh_spacer P 0 (omega arith)
      spacer_zero (suc zero) h = fresh_spacer P 1 (omega arith)
      spacer_zero (suc (suc r)) h = absurd (omega arith)

      header_words : (i r : ℕ) → i < items P → r < 4 → Right P (blank P) (suc i) r
      header_words i zero hi h = inr (inl (i, hi, refl, omega arith))
      header_words i (suc zero) hi h = inr (inl (i, hi, refl, omega arith))
      header_words i (suc (suc zero)) hi h = inr (inl (i, hi, refl, omega arith))
      header_words i (suc (suc (suc zero))) hi h = inl (blank_word (suc i) 3 (omega arith) (header_in i hi) ∙ sym (fresh_header P i 3 hi (omega arith)))
      header_words i (suc (suc (suc (suc r)))) hi h = absurd (omega arith)

      done_at : (y r : ℕ) → r < 4 → y < suc (items P + 1) → (y ≢ items P + 1) ⊎ (r < 2) → Dec (y ≡ items P + 1) → Right P (blank P) y r
      done_at y r h k (inl d) (yes e) = absurd (d e)
      done_at y r h k (inr d) (yes e) = rw e (inl (blank_zero (items P + 1) r h (inr (omega arith)) ∙ sym (spacer_zero r d)))
      done_at zero r h k d (no e) = inl (blank_zero 0 r h (inl refl) ∙ sym (unused_zero r h))
      done_at (suc i) r h k d (no e) = header_words i r (omega arith) h

-- ---- at the end

-- a list's links are told by the list
links_told : (nx pv nx' pv' : ℕ → ℕ) (a : ℕ) (l : List ℕ) (h : ℕ) → Linked nx pv a l h → Linked nx' pv' a l h
    → (nx a ≡ nx' a) × (pv h ≡ pv' h) × ((q : ℕ) → Mem q l → (nx q ≡ nx' q) × (pv q ≡ pv' q))
links_told nx pv nx' pv' a [] h k k' = (k.0 ∙ sym k'.0, k.1 ∙ sym k'.1, λ q m. absurd (not-nil m))
links_told nx pv nx' pv' a (x ∷ l) h k k' =
    let r = links_told nx pv nx' pv' x l h k.2 k'.2 in
    (k.0 ∙ sym k'.0, r.1, λ q m. go q m r)
  where
    go : (q : ℕ) → Mem q (x ∷ l) → (nx x ≡ nx' x) × (pv h ≡ pv' h) × ((q : ℕ) → Mem q l → (nx q ≡ nx' q) × (pv q ≡ pv' q)) → (nx q ≡ nx' q) × (pv q ≡ pv' q)
    go q (here e) r = rw e (r.0, k.1 ∙ sym k'.1)
    go q (there m) r = r.2 q m

words_same : (y z : ℤ) → nat y ≡ nat z → 0 < nat y → y ≡ z
words_same y z e h = word_of y (nat y) refl h ∙ sym (word_of z (nat y) (sym e) h)

decode : (k : ℕ) → (y : ℕ) × (r : ℕ) × (r < 4) × (k ≡ 4 * y + r)
decode zero = (0, 0, omega arith, omega arith)
decode (suc k) = let d = decode k in go d.0 d.1 d.2 d.3 (dec_lt d.1 3)
  where
    go : (y r : ℕ) → r < 4 → k ≡ 4 * y + r → Dec (r < 3) → (y : ℕ) × (r : ℕ) × (r < 4) × (suc k ≡ 4 * y + r)
    go y r h e (yes b) = (y, suc r, omega arith, omega arith)
    go y r h e (no b) = (suc y, 0, omega arith, omega arith)

module _ (P : Problem) (G : Good P) where
  all_nodes : suc (items P + 1 + span (placed P)) ≡ nodes P
  unfolding nodes
  all_nodes = omega arith

  built_both : Part P (suc (items P + 1 + span (placed P))) (column P) (built P) × Mid P (items P + 1 + span (placed P)) (suc (items P + 1 + span (placed P))) (built P)
  unfolding built placed column
  built_both = build_all P G 0 (items P + 1) P.options (λ j. []) (blank P) (λ o m. m) (blank_part P) (blank_mid P)

  S : Part P (suc (items P + 1 + span (placed P))) (column P) (built P)
  S = built_both.0

  M : Mid P (items P + 1 + span (placed P)) (suc (items P + 1 + span (placed P))) (built P)
  M = built_both.1

  module _ (i : ℕ) (hi : i < items P) where
    told : (link (built P) (down (items P) (suc i)) ≡ link (fresh P) (down (items P) (suc i))) × (link (built P) (up (items P) (suc i)) ≡ link (fresh P) (up (items P) (suc i)))
        × ((q : ℕ) → Mem q (column P i) → (link (built P) (down (items P) q) ≡ link (fresh P) (down (items P) q)) × (link (built P) (up (items P) q) ≡ link (fresh P) (up (items P) q)))
    told =
        links_told (λ y. link (built P) (down (items P) y)) (λ y. link (built P) (up (items P) y)) (λ y. link (fresh P) (down (items P) y)) (λ y. link (fresh P) (up (items P) y))
        (suc i) (column P i) (suc i) (S.lists.linked i hi) ((fresh_lists P G).linked i hi)

    -- a member is not 0
    plus : {y : ℕ} → Mem y (suc i ∷ column P i) → 0 < y
    plus (here e) = omega arith
    plus {y} (there m) = let r = stands_range P i y (column_stands P i m) in omega arith

    abbrev nxt : ℕ → ℕ
    nxt y = link (built P) (down (items P) y)

    abbrev prv : ℕ → ℕ
    prv y = link (built P) (up (items P) y)

    header_down : get_or (built P) (down (items P) (suc i)) (pos 0) ≡ get_or (fresh P) (down (items P) (suc i)) (pos 0)
    header_down = words_same (get_or (built P) (down (items P) (suc i)) (pos 0)) (get_or (fresh P) (down (items P) (suc i)) (pos 0)) told.0 (plus (following_in nxt prv (suc i) (column P i) (suc i) (S.lists.linked i hi)))

    header_up : get_or (built P) (up (items P) (suc i)) (pos 0) ≡ get_or (fresh P) (up (items P) (suc i)) (pos 0)
    header_up = words_same (get_or (built P) (up (items P) (suc i)) (pos 0)) (get_or (fresh P) (up (items P) (suc i)) (pos 0)) told.1 (plus (last_in nxt prv (suc i) (column P i) (suc i) (S.lists.linked i hi)))

    node_down : (y : ℕ) → Mem y (column P i) → get_or (built P) (down (items P) y) (pos 0) ≡ get_or (fresh P) (down (items P) y) (pos 0)
    node_down y m = words_same (get_or (built P) (down (items P) y) (pos 0)) (get_or (fresh P) (down (items P) y) (pos 0)) (told.2 y m).0 (plus (behind_in nxt prv (suc i) (column P i) (suc i) (S.lists.linked i hi) m))

    node_up : (y : ℕ) → Mem y (column P i) → get_or (built P) (up (items P) y) (pos 0) ≡ get_or (fresh P) (up (items P) y) (pos 0)
    node_up y m = words_same (get_or (built P) (up (items P) y) (pos 0)) (get_or (fresh P) (up (items P) y) (pos 0)) (told.2 y m).1 (plus (before_in nxt prv (suc i) (column P i) (suc i) (S.lists.linked i hi) m))

    header_all : (r : ℕ) → r < 3 → get_or (built P) (at_word P (suc i) r) (pos 0) ≡ get_or (fresh P) (at_word P (suc i) r) (pos 0)
    header_all zero h =
        ap (λ (k : ℕ). get_or (built P) k (pos 0)) (omega arith) ∙ S.counted i hi ∙ sym (fresh_header P i 0 hi (omega arith))
    header_all (suc zero) h = header_up
    header_all (suc (suc zero)) h = header_down
    header_all (suc (suc (suc r))) h = absurd (omega arith)

    column_in : {y : ℕ} → Stands P i y → Mem y (column P i)
    unfolding agree each
    column_in (o, mo, h, e) = rw (← linked_column P i, e) (map-in node (linked_in P [] i mo tt h))

  lively_same : (y r : ℕ) → Lively P y r → get_or (built P) (at_word P y r) (pos 0) ≡ get_or (fresh P) (at_word P y r) (pos 0)
  lively_same y r (inl (i, hi, e, h)) = rw e (header_all i hi r h)
  lively_same y r (inr (i, hi, s, inl e)) = rw e (node_up i hi y (column_in i hi s))
  lively_same y r (inr (i, hi, s, inr e)) = rw e (node_down i hi y (column_in i hi s))

  right_same : (y r : ℕ) → Right P (built P) y r → get_or (built P) (at_word P y r) (pos 0) ≡ get_or (fresh P) (at_word P y r) (pos 0)
  right_same y r (inl w) = w
  right_same y r (inr v) = lively_same y r v

  end_zero : (y r : ℕ) → suc y ≡ nodes P → r < 4 → 2 ≤ r → get_or (fresh P) (at_word P y r) (pos 0) ≡ pos 0
  end_zero y zero e h b = absurd (omega arith)
  end_zero y (suc zero) e h b = absurd (omega arith)
  end_zero y (suc (suc zero)) e h b = (fresh_end P y e).0
  end_zero y (suc (suc (suc zero))) e h b = (fresh_end P y e).1
  end_zero y (suc (suc (suc (suc r)))) e h b = absurd (omega arith)

  node_word : (y r : ℕ) → r < 4 → y < nodes P → Dec (y ≡ items P + 1 + span (placed P)) → Dec (r < 2) → get_or (built P) (at_word P y r) (pos 0) ≡ get_or (fresh P) (at_word P y r) (pos 0)
  node_word y r h k (yes e) (no b) = M.bare y r h (inr (e, omega arith)) ∙ sym (end_zero y r (omega (arith, all_nodes)) h (omega arith))
  node_word y r h k (yes e) (yes b) = right_same y r (M.done y r h (omega (arith, all_nodes)) (inr b))
  node_word y r h k (no e) b = right_same y r (M.done y r h (omega (arith, all_nodes)) (inl e))

  -- what is made an entry at a time is the fresh table
  pub built_is : built P ≡ fresh P
  built_is = ext_get_or (pos 0) (built P) (fresh P) (S.size ∙ sym (fresh_length P)) (λ k h. go k (dec_lt k (2 * (items P + 2))) (omega (arith, S.size)))
    where
      go : (k : ℕ) → Dec (k < 2 * (items P + 2)) → k < 2 * (items P + 2) + 4 * nodes P → get_or (built P) k (pos 0) ≡ get_or (fresh P) k (pos 0)
      go k (yes h) b = M.low k h
      go k (no h) b =
          let d = decode (k - 2 * (items P + 2)) in
          let e : k ≡ at_word P d.0 d.1 = omega (arith, d.3) in
          rw e (node_word d.0 d.1 d.2 (omega (arith, d.3)) (ℕ_discrete d.0 (items P + 1 + span (placed P))) (dec_lt d.1 2))

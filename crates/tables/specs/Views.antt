-- What a table shows, and what an event does to it. A view says what is linked and marked; `Table P W t` says that the words t are as W says.
use Rattle.std.specs.Prelude.{◌≡◌, refl, ◌≢◌, Bool, not, ◌||◌, eqb, ℤ, negsuc}
use Rattle.std.proofs.Common.{sym, ◌∙◌, get_or-set_same, get_or-set_other, eq-eqb, ne_eqb}
use Rattle.std.proofs.Math.Path.{ap}
use Rattle.std.proofs.Math.Bool.{true, false}
use mathlib.Core.List.Memᴰ.{head as here}
use mathlib.Core.List.Memᴰ.{tail as there}
use mathlib.Core.List.{List, [], ◌∷◌, ◌++◌, foldl, Memᴰ as Mem}
use Prim.Native.Nat.{ℕ, zero, suc, ◌+◌, ◌*◌, ◌-◌, ◌≤◌, ◌<◌}
use native.Mathlib.Omega.{arith}
use Rattle.std.proofs.Math.Decide.{ℕ_discrete}
use Rattle.std.proofs.Math.Dec.{T}
use Rattle.std.proofs.Math.IntN.{pos, pred_ℤ}
use Rattle.std.proofs.Math.ListN.{length, get_or, set, length-set}
use Rattle.std.proofs.Math.Seq.{set-set, set-get_or}
use Rattle.rules.specs.Words.{nat}
use Rattle.rules.specs.Problem.{Entry, Problem, items}
use Rattle.rules.specs.Order.{Placed, placed, place_of}
use Rattle.rules.specs.Links.{Event, unlink, remove, mark, Node, nodes_from, left, right, up, down, top, colour_at, link, join, fall, apply}
use Rattle.laws.specs.Faults.{Good, simple}
use Rattle.tables.specs.Nodes.{nodes_in, nodes, placed_range, not_spacer, nodes_range, place_entry, blank}
use Rattle.tables.specs.Rings.{Rings, rings_links, rings_lists, rings_leave, without, without_mem, without_length, u_in, d_in, u_other, d_other, forth, back, foreign}
use Rattle.tables.specs.Touch.{Stands}
use Rattle.tables.specs.Undo.{relink, undo, undo_all, word_of, join_length, join_else, join_first, join_second, fall_length, fall_else, fall_first, fall_second, fall_third, undo2, undo3}

-- ---- views

pub record View : Type 0 where
  -- item i's nodes that are linked, in order
  pub list : ℕ → List ℕ
  -- the items of ring 0, the primary, and of ring 1, the secondary, numbered from 1
  pub ring : ℕ → List ℕ
  -- node q's colour is -1
  pub marked : ℕ → Bool

abbrev pub after : View → Event → View
after W (unlink q) = record { list = λ i. without q (W.list i); ring = W.ring; marked = W.marked }
after W (remove i) = record { list = W.list; ring = λ k. without (suc i) (W.ring k); marked = W.marked }
after W (mark q c) = record { list = W.list; ring = W.ring; marked = λ x. eqb q x || W.marked x }

-- ---- tables

-- the header of ring k
abbrev pub ring_head : Problem → ℕ → ℕ
ring_head P zero = 0
ring_head P (suc k) = items P + 1

abbrev pub shade : Bool → ℕ → ℤ
shade true c = negsuc 0
shade false c = pos c

-- a node's own words
pub record Named (n : ℕ) (t : List ℤ) (marked : Bool) (x : Node) : Type 0 where
  pub top_is : get_or t (top n x.at) (pos 0) ≡ pos (suc x.entry.item)
  pub colour_is : get_or t (colour_at n x.at) (pos 0) ≡ shade marked x.entry.colour

-- the spacers around an option
pub record Spaced (n : ℕ) (t : List ℤ) (o : Placed) : Type 0 where
  pub number_is : get_or t (top n (o.first + length o.entries)) (pos 0) ≡ negsuc o.number
  pub first_is : get_or t (up n (o.first + length o.entries)) (pos 0) ≡ pos o.first
  pub before_is : (s : ℕ) → suc s ≡ o.first → (link t (top n s) ≡ 0) × (get_or t (down n s) (pos 0) ≡ pos (s + length o.entries))

-- the word at k is no negative number
abbrev pub Plus : List ℤ → ℕ → Type 0
Plus t k = get_or t k (pos 0) ≡ pos (link t k)

pub record Table (P : Problem) (W : View) (t : List ℤ) : Type 0 where
  pub size : length t ≡ 2 * (items P + 2) + 4 * nodes P
  pub lists : Rings (items P) suc (λ q. link t (down (items P) q)) (λ q. link t (up (items P) q)) W.list
  pub stand : (i : ℕ) → i < items P → (q : ℕ) → Mem q (W.list i) → Stands P i q
  pub counted : (i : ℕ) → i < items P → get_or t (top (items P) (suc i)) (pos 0) ≡ pos (length (W.list i))
  pub rings : Rings 2 (ring_head P) (λ i. link t (right i)) (λ i. link t (left i)) W.ring
  pub ringed : (k : ℕ) → k < 2 → (x : ℕ) → Mem x (W.ring k) → (0 < x) × (x < items P + 1)
  pub paired : (x : ℕ) → x < items P + 2 → Plus t (left x) × Plus t (right x)
  pub named : (o : Placed) → Mem o (placed P) → (x : Node) → Mem x (nodes_from o.first o.entries) → Named (items P) t (W.marked x.at) x
  pub spaced : (o : Placed) → Mem o (placed P) → Spaced (items P) t o

-- node q in the list of item i: its item, its neighbours, and the length that will fall
pub record Beside (P : Problem) (t : List ℤ) (i q : ℕ) : Type 0 where
  pub after_headers : items P + 1 < q
  pub in_table : q < nodes P
  pub top_is : get_or t (top (items P) q) (pos 0) ≡ pos (suc i)
  pub up_is : Plus t (up (items P) q)
  pub up_in : link t (up (items P) q) < nodes P
  pub down_is : Plus t (down (items P) q)
  pub down_in : link t (down (items P) q) < nodes P
  pub left_in : ℕ
  pub count_is : get_or t (top (items P) (suc i)) (pos 0) ≡ pos (suc left_in)

-- an event that the view allows
abbrev pub Fits : Problem → View → Event → Type 0
Fits P W (unlink q) = (i : ℕ) × (i < items P) × Mem q (W.list i)
Fits P W (remove i) = (k : ℕ) × (k < 2) × Mem (suc i) (W.ring k)
Fits P W (mark q c) = (o : Placed) × Mem o (placed P) × (x : Node) × Mem x (nodes_from o.first o.entries) × (x.at ≡ q) × (x.entry.colour ≡ c) × T (not (W.marked q))

-- ---- where nodes stand

pub stands_range : (P : Problem) (i q : ℕ) → Stands P i q → (items P + 1 < q) × (q < nodes P)
stands_range P i q (o, mo, h, e) =
    let r = placed_range P mo in
    let k = place_entry i o.entries blank h in
    (omega arith, omega arith)

node_range : (P : Problem) {o : Placed} → Mem o (placed P) → {x : Node} → Mem x (nodes_from o.first o.entries) → (items P + 1 < x.at) × (x.at < nodes P)
node_range P {o} mo mx =
    let r = placed_range P mo in
    let k = nodes_range o.first o.entries mx in
    (omega arith, omega arith)

pub stands_no_spacer : (P : Problem) {o : Placed} → Mem o (placed P) → (i q : ℕ) → Stands P i q → (q ≢ o.first + length o.entries) × (suc q ≢ o.first)
stands_no_spacer P mo i q (o', mo', h, e) =
    let r = not_spacer P mo mo' (place_of i o'.entries) (place_entry i o'.entries blank h).0 in
    rw e (r.0, r.1)

module _ (P : Problem) (G : Good P) (W : View) (t : List ℤ) (S : Table P W t) where
  abbrev n : ℕ
  n = items P

  -- a header or a member of an item's list
  member_range : (i : ℕ) → i < n → (y : ℕ) → Mem y (suc i ∷ W.list i) → (0 < y) × (y < nodes P) × ((o : Placed) → Mem o (placed P) → (y ≢ o.first + length o.entries) × (suc y ≢ o.first))
  unfolding nodes
  member_range i hi y (here e) = (omega arith, omega arith, λ o mo. let r = placed_range P mo in (omega arith, omega arith))
  member_range i hi y (there m) =
      let s = S.stand i hi y m in
      let r = stands_range P i y s in
      (omega arith, omega arith, λ o mo. stands_no_spacer P mo i y s)

  ring_range : (k : ℕ) → k < 2 → (x : ℕ) → Mem x (ring_head P k ∷ W.ring k) → x < n + 2
  ring_range k hk x (here e) = go k e
    where
      go : (k : ℕ) → x ≡ ring_head P k → x < n + 2
      go zero e = omega arith
      go (suc k) e = omega arith
  ring_range k hk x (there m) = let r = S.ringed k hk x m in omega arith

  -- ---- a node is unlinked
  module _ (i : ℕ) (hi : i < n) (q : ℕ) (mq : Mem q (W.list i)) where
    abbrev nx : ℕ → ℕ
    nx y = link t (down n y)

    abbrev pv : ℕ → ℕ
    pv y = link t (up n y)

    abbrev u : ℕ
    u = link t (up n q)

    abbrev d : ℕ
    d = link t (down n q)

    abbrev t' : List ℤ
    t' = fall (join t (down n u) (pos d) (up n d) (pos u)) (top n (suc i))

    u_range : (0 < u) × (u < nodes P) × ((o : Placed) → Mem o (placed P) → (u ≢ o.first + length o.entries) × (suc u ≢ o.first))
    u_range = member_range i hi u (u_in n suc nx pv W.list S.lists i hi q mq)

    d_range : (0 < d) × (d < nodes P) × ((o : Placed) → Mem o (placed P) → (d ≢ o.first + length o.entries) × (suc d ≢ o.first))
    d_range = member_range i hi d (d_in n suc nx pv W.list S.lists i hi q mq)

    i_range : suc i < nodes P
    unfolding nodes
    i_range = omega arith

    -- its item is named there
    top_word : link t (top n q) ≡ suc i
    top_word = go (S.stand i hi q mq)
      where
        go : Stands P i q → link t (top n q) ≡ suc i
        go (o, mo, h, e) =
            let x = nodes_in o.first (simple G o mo) h.1 in
            let a : x.0.at ≡ q = x.2 ∙ ap (λ (k : ℕ). o.first + place_of k o.entries) h.2 ∙ sym e in
            ap (λ (k : ℕ). link t (top n k)) (sym a) ∙ ap nat (S.named o mo x.0 x.1).top_is ∙ ap (λ (y : Entry). suc y.item) x.3 ∙ ap suc h.2

    unlinked : apply n t (unlink q) ≡ t'
    unfolding apply
    unlinked = ap (λ (x : ℕ). fall (join t (down n u) (pos d) (up n d) (pos u)) (top n x)) top_word

    else_is : (k : ℕ) → k ≢ down n u → k ≢ up n d → k ≢ top n (suc i) → get_or t' k (pos 0) ≡ get_or t k (pos 0)
    else_is = fall_else t (down n u) (up n d) (pos d) (pos u) (top n (suc i))

    down_else : (y : ℕ) → y ≢ u → link t' (down n y) ≡ link t (down n y)
    down_else y h = ap nat (else_is (down n y) (λ e. h (omega arith)) (omega arith) (omega arith))

    up_else : (y : ℕ) → y ≢ d → link t' (up n y) ≡ link t (up n y)
    up_else y h = ap nat (else_is (up n y) (omega arith) (λ e. h (omega arith)) (omega arith))

    down_new : link t' (down n u) ≡ d
    down_new = ap nat (fall_first t (down n u) (up n d) (pos d) (pos u) (top n (suc i)) (omega arith) (omega arith) (omega (arith, u_range.1, S.size)))

    up_new : link t' (up n d) ≡ u
    up_new = ap nat (fall_second t (down n u) (up n d) (pos d) (pos u) (top n (suc i)) (omega arith) (omega (arith, d_range.1, S.size)))

    still_counted : (j : ℕ) → j < n → Dec (j ≡ i) → get_or t' (top n (suc j)) (pos 0) ≡ pos (length (without q (W.list j)))
    still_counted j hj (yes e) =
        rw e (fall_third t (down n u) (up n d) (pos d) (pos u) (top n (suc i)) (omega arith) (omega arith) (omega (arith, i_range, S.size))
        ∙ ap pred_ℤ (S.counted i hi ∙ ap pos (without_length (S.lists.distinct i hi).1 mq)))
    still_counted j hj (no ne) =
        rw (foreign n suc nx pv W.list S.lists i hi q mq j hj ne)
        (else_is (top n (suc j)) (omega arith) (omega arith) (λ e. ne (omega arith)) ∙ S.counted j hj)

    low : (k : ℕ) → k < 2 * (n + 2) → get_or t' k (pos 0) ≡ get_or t k (pos 0)
    low k h = else_is k (omega arith) (omega arith) (omega arith)

    unlink_table : Table P (after W (unlink q)) (apply n t (unlink q))
    unlink_table = rw unlinked (record {
      size = fall_length t (down n u) (up n d) (pos d) (pos u) (top n (suc i)) ∙ S.size;
      lists = rings_leave n suc nx pv W.list S.lists i hi q mq (λ y. link t' (down n y)) (λ y. link t' (up n y)) down_else down_new up_else up_new;
      stand = λ j hj y m. S.stand j hj y (without_mem q (W.list j) m);
      counted = λ j hj. still_counted j hj (ℕ_discrete j i);
      rings = rings_links 2 (ring_head P) (λ x. link t (right x)) (λ x. link t (left x)) W.ring S.rings (λ x. link t' (right x)) (λ x. link t' (left x))
          (λ k hk x mx. let r = ring_range k hk x mx in (ap nat (low (right x) (omega arith)), ap nat (low (left x) (omega arith))));
      ringed = S.ringed;
      paired = λ x hx. (
        low (left x) (omega arith) ∙ (S.paired x hx).0 ∙ ap (λ (z : ℤ). pos (nat z)) (sym (low (left x) (omega arith))),
        low (right x) (omega arith) ∙ (S.paired x hx).1 ∙ ap (λ (z : ℤ). pos (nat z)) (sym (low (right x) (omega arith))),
      );
      named = λ o mo x mx.
          let r = node_range P mo mx in
          let s = S.named o mo x mx in
          record {
            top_is = else_is (top n x.at) (omega arith) (omega arith) (omega arith) ∙ s.top_is;
            colour_is = else_is (colour_at n x.at) (omega arith) (omega arith) (omega arith) ∙ s.colour_is;
          };
      spaced = λ o mo.
          let r = placed_range P mo in
          let s = S.spaced o mo in
          let a = u_range.2 o mo in
          let b = d_range.2 o mo in
          record {
            number_is = else_is (top n (o.first + length o.entries)) (omega arith) (omega arith) (omega arith) ∙ s.number_is;
            first_is = else_is (up n (o.first + length o.entries)) (omega arith) (λ e. b.0 (omega arith)) (omega arith) ∙ s.first_is;
            before_is = λ y e.
                let p = s.before_is y e in (
                  ap nat (else_is (top n y) (omega arith) (omega arith) (omega arith)) ∙ p.0,
                  else_is (down n y) (λ z. a.1 (omega arith)) (omega arith) (omega arith) ∙ p.1,
                );
          };
    })

    unlink_undone : undo n (apply n t (unlink q)) (unlink q) ≡ t
    unfolding undo relink
    unlink_undone =
        let qr = stands_range P i q (S.stand i hi q mq) in
        let ux = u_other n suc nx pv W.list S.lists i hi q mq in
        let dx = d_other n suc nx pv W.list S.lists i hi q mq in
        rw (
          unlinked,
          up_else q (λ e. dx (sym e)),
          down_else q (λ e. ux (sym e)),
          ap nat (else_is (top n q) (omega arith) (omega arith) (omega arith)),
          top_word,
        )
        (undo3 t (down n u) (up n d) (top n (suc i)) (pos q) (pos q) (pos d) (pos u) (omega arith) (omega arith) (omega arith) (omega (arith, i_range, S.size))
        (word_of (get_or t (down n u) (pos 0)) q (forth n suc nx pv W.list S.lists i hi q mq) (omega arith))
        (word_of (get_or t (up n d) (pos 0)) q (back n suc nx pv W.list S.lists i hi q mq) (omega arith)))

  -- ---- an item leaves its ring
  module _ (k : ℕ) (hk : k < 2) (i : ℕ) (mi : Mem (suc i) (W.ring k)) where
    abbrev rx : ℕ → ℕ
    rx y = link t (right y)

    abbrev lx : ℕ → ℕ
    lx y = link t (left y)

    abbrev l : ℕ
    l = link t (left (suc i))

    abbrev r : ℕ
    r = link t (right (suc i))

    abbrev t'' : List ℤ
    t'' = join t (right l) (pos r) (left r) (pos l)

    l_range : l < n + 2
    l_range = ring_range k hk l (u_in 2 (ring_head P) rx lx W.ring S.rings k hk (suc i) mi)

    r_range : r < n + 2
    r_range = ring_range k hk r (d_in 2 (ring_head P) rx lx W.ring S.rings k hk (suc i) mi)

    other : (x : ℕ) → x ≢ right l → x ≢ left r → get_or t'' x (pos 0) ≡ get_or t x (pos 0)
    other = join_else t (right l) (left r) (pos r) (pos l)

    high : (x : ℕ) → 2 * (n + 2) ≤ x → get_or t'' x (pos 0) ≡ get_or t x (pos 0)
    high x h = other x (omega (arith, l_range)) (omega (arith, r_range))

    right_new : get_or t'' (right l) (pos 0) ≡ pos r
    right_new = join_first t (right l) (left r) (pos r) (pos l) (omega arith) (omega (arith, l_range, S.size))

    left_new : get_or t'' (left r) (pos 0) ≡ pos l
    left_new = join_second t (right l) (left r) (pos r) (pos l) (omega (arith, r_range, S.size))

    still_right : (x : ℕ) → x < n + 2 → Dec (x ≡ l) → Plus t'' (right x)
    still_right x hx (yes e) = rw e (right_new ∙ ap (λ (z : ℤ). pos (nat z)) (sym right_new))
    still_right x hx (no ne) =
        let s = other (right x) (λ e. ne (omega arith)) (omega arith) in
        s ∙ (S.paired x hx).1 ∙ ap (λ (z : ℤ). pos (nat z)) (sym s)

    still_left : (x : ℕ) → x < n + 2 → Dec (x ≡ r) → Plus t'' (left x)
    still_left x hx (yes e) = rw e (left_new ∙ ap (λ (z : ℤ). pos (nat z)) (sym left_new))
    still_left x hx (no ne) =
        let s = other (left x) (omega arith) (λ e. ne (omega arith)) in
        s ∙ (S.paired x hx).0 ∙ ap (λ (z : ℤ). pos (nat z)) (sym s)

    remove_table : Table P (after W (remove i)) (apply n t (remove i))
    unfolding apply
    remove_table = record {
      size = join_length t (right l) (left r) (pos r) (pos l) ∙ S.size;
      lists = rings_links n suc (λ x. link t (down n x)) (λ x. link t (up n x)) W.list S.lists (λ x. link t'' (down n x)) (λ x. link t'' (up n x))
          (λ j hj x mx. (ap nat (high (down n x) (omega arith)), ap nat (high (up n x) (omega arith))));
      stand = S.stand;
      counted = λ j hj. high (top n (suc j)) (omega arith) ∙ S.counted j hj;
      rings = rings_leave 2 (ring_head P) rx lx W.ring S.rings k hk (suc i) mi (λ x. link t'' (right x)) (λ x. link t'' (left x))
          (λ x ne. ap nat (other (right x) (λ e. ne (omega arith)) (omega arith))) (ap nat right_new)
          (λ x ne. ap nat (other (left x) (omega arith) (λ e. ne (omega arith)))) (ap nat left_new);
      ringed = λ j hj x m. S.ringed j hj x (without_mem (suc i) (W.ring j) m);
      paired = λ x hx. (still_left x hx (ℕ_discrete x r), still_right x hx (ℕ_discrete x l));
      named = λ o mo x mx.
          let s = S.named o mo x mx in
          record { top_is = high (top n x.at) (omega arith) ∙ s.top_is; colour_is = high (colour_at n x.at) (omega arith) ∙ s.colour_is };
      spaced = λ o mo.
          let s = S.spaced o mo in
          record {
            number_is = high (top n (o.first + length o.entries)) (omega arith) ∙ s.number_is;
            first_is = high (up n (o.first + length o.entries)) (omega arith) ∙ s.first_is;
            before_is = λ y e.
                let p = s.before_is y e in (ap nat (high (top n y) (omega arith)) ∙ p.0, high (down n y) (omega arith) ∙ p.1);
          };
    }

    remove_undone : undo n (apply n t (remove i)) (remove i) ≡ t
    unfolding undo apply
    remove_undone =
        let lo = u_other 2 (ring_head P) rx lx W.ring S.rings k hk (suc i) mi in
        let ro = d_other 2 (ring_head P) rx lx W.ring S.rings k hk (suc i) mi in
        rw (
          ap nat (other (left (suc i)) (omega arith) (λ e. ro (omega arith))),
          ap nat (other (right (suc i)) (λ e. lo (omega arith)) (omega arith)),
        )
        (undo2 t (right l) (left r) (pos (suc i)) (pos (suc i)) (pos r) (pos l) (omega arith)
        (word_of (get_or t (right l) (pos 0)) (suc i) (forth 2 (ring_head P) rx lx W.ring S.rings k hk (suc i) mi) (omega arith))
        (word_of (get_or t (left r) (pos 0)) (suc i) (back 2 (ring_head P) rx lx W.ring S.rings k hk (suc i) mi) (omega arith)))

  -- ---- a node is marked
  module _ (o : Placed) (mo : Mem o (placed P)) (x : Node) (mx : Mem x (nodes_from o.first o.entries)) (q c : ℕ) (eq : x.at ≡ q) (ec : x.entry.colour ≡ c)
      (fresh : T (not (W.marked q))) where
    abbrev t''' : List ℤ
    t''' = set t (colour_at n q) (negsuc 0)

    same : (y : ℕ) → y ≢ colour_at n q → get_or t''' y (pos 0) ≡ get_or t y (pos 0)
    same y h = get_or-set_other t (colour_at n q) y (negsuc 0) (pos 0) h

    low_same : (y : ℕ) → y < 2 * (n + 2) → get_or t''' y (pos 0) ≡ get_or t y (pos 0)
    low_same y h = same y (omega arith)

    still_named : (y : Node) → Named n t (W.marked y.at) y → Dec (q ≡ y.at) → Named n t''' (eqb q y.at || W.marked y.at) y
    still_named y s (yes e) = rw (eq-eqb q y.at e) (record {
      top_is = same (top n y.at) (omega arith) ∙ s.top_is;
      colour_is = ap (λ (z : ℕ). get_or t''' (colour_at n z) (pos 0)) (sym e)
          ∙ get_or-set_same t (colour_at n q) (negsuc 0) (pos 0) (let b = node_range P mo mx in omega (arith, S.size));
    })
    still_named y s (no ne) = rw (ne_eqb q y.at ne) (record {
      top_is = same (top n y.at) (omega arith) ∙ s.top_is;
      colour_is = same (colour_at n y.at) (λ e. ne (omega arith)) ∙ s.colour_is;
    })

    mark_table : Table P (after W (mark q c)) (apply n t (mark q c))
    unfolding apply
    mark_table = record {
      size = length-set t (colour_at n q) (negsuc 0) ∙ S.size;
      lists = rings_links n suc (λ x. link t (down n x)) (λ x. link t (up n x)) W.list S.lists (λ x. link t''' (down n x)) (λ x. link t''' (up n x))
          (λ j hj x mx. (ap nat (same (down n x) (omega arith)), ap nat (same (up n x) (omega arith))));
      stand = S.stand;
      counted = λ j hj. same (top n (suc j)) (omega arith) ∙ S.counted j hj;
      rings = rings_links 2 (ring_head P) (λ x. link t (right x)) (λ x. link t (left x)) W.ring S.rings (λ x. link t''' (right x)) (λ x. link t''' (left x))
          (λ k hk x mx. let r = ring_range k hk x mx in (ap nat (low_same (right x) (omega arith)), ap nat (low_same (left x) (omega arith))));
      ringed = S.ringed;
      paired = λ x hx. (
        low_same (left x) (omega arith) ∙ (S.paired x hx).0 ∙ ap (λ (z : ℤ). pos (nat z)) (sym (low_same (left x) (omega arith))),
        low_same (right x) (omega arith) ∙ (S.paired x hx).1 ∙ ap (λ (z : ℤ). pos (nat z)) (sym (low_same (right x) (omega arith))),
      );
      named = λ o' mo' y my. still_named y (S.named o' mo' y my) (ℕ_discrete q y.at);
      spaced = λ o' mo'.
          let s = S.spaced o' mo' in
          record {
            number_is = same (top n (o'.first + length o'.entries)) (omega arith) ∙ s.number_is;
            first_is = same (up n (o'.first + length o'.entries)) (omega arith) ∙ s.first_is;
            before_is = λ y e.
                let p = s.before_is y e in (ap nat (same (top n y) (omega arith)) ∙ p.0, same (down n y) (omega arith) ∙ p.1);
          };
    }

    mark_undone : undo n (apply n t (mark q c)) (mark q c) ≡ t
    unfolding undo apply
    mark_undone =
        set-set t (colour_at n q) (negsuc 0) (pos c) ∙ ap (λ (z : ℤ). set t (colour_at n q) z) (sym was) ∙ set-get_or t (colour_at n q) (pos 0)
      where
        unmarked : (b : Bool) → T (not b) → get_or t (colour_at n q) (pos 0) ≡ shade b c → get_or t (colour_at n q) (pos 0) ≡ pos c
        unmarked true f e = absurd f
        unmarked false f e = e

        was : get_or t (colour_at n q) (pos 0) ≡ pos c
        was = unmarked (W.marked q) fresh (rw (← eq, ← ec) (S.named o mo x mx).colour_is)

  -- ---- any event

  pub event_table : (v : Event) → Fits P W v → Table P (after W v) (apply n t v)
  event_table (unlink q) (i, hi, mq) = unlink_table i hi q mq
  event_table (remove i) (k, hk, mi) = remove_table k hk i mi
  event_table (mark q c) (o, mo, x, mx, eq, ec, fr) = mark_table o mo x mx q c eq ec fr

  pub event_undone : (v : Event) → Fits P W v → undo n (apply n t v) v ≡ t
  event_undone (unlink q) (i, hi, mq) = unlink_undone i hi q mq
  event_undone (remove i) (k, hk, mi) = remove_undone k hk i mi
  event_undone (mark q c) (o, mo, x, mx, eq, ec, fr) = mark_undone o mo x mx q c eq ec fr

  -- the words that unlinking a node reads
  pub neighbours : (i : ℕ) → i < n → (q : ℕ) → Mem q (W.list i) → Beside P t i q
  neighbours i hi q mq = record {
    after_headers = (stands_range P i q (S.stand i hi q mq)).0;
    in_table = (stands_range P i q (S.stand i hi q mq)).1;
    top_is = word_of (get_or t (top n q) (pos 0)) (suc i) (top_word i hi q mq) (omega arith);
    up_is = word_of (get_or t (up n q) (pos 0)) (link t (up n q)) refl (u_range i hi q mq).0;
    up_in = (u_range i hi q mq).1;
    down_is = word_of (get_or t (down n q) (pos 0)) (link t (down n q)) refl (d_range i hi q mq).0;
    down_in = (d_range i hi q mq).1;
    left_in = length (without q (W.list i));
    count_is = S.counted i hi ∙ ap pos (without_length (S.lists.distinct i hi).1 mq);
  }

  -- the words that removing an item reads: its neighbours in the ring
  pub ring_neighbours : (k : ℕ) → k < 2 → (x : ℕ) → Mem x (W.ring k) → (x < n + 1) × (link t (left x) < n + 2) × (link t (right x) < n + 2)
  ring_neighbours k hk x m = (
    (S.ringed k hk x m).1,
    ring_range k hk (link t (left x)) (u_in 2 (ring_head P) (λ y. link t (right y)) (λ y. link t (left y)) W.ring S.rings k hk x m),
    ring_range k hk (link t (right x)) (d_in 2 (ring_head P) (λ y. link t (right y)) (λ y. link t (left y)) W.ring S.rings k hk x m),
  )

  -- and after it has left its list it still says where it stood
  pub still_says : (i : ℕ) (hi : i < n) (q : ℕ) → Mem q (W.list i)
      → (link (apply n t (unlink q)) (up n q) ≡ link t (up n q)) × (link (apply n t (unlink q)) (down n q) ≡ link t (down n q)) × (link (apply n t (unlink q)) (top n q) ≡ suc i)
  still_says i hi q mq =
      let qr = stands_range P i q (S.stand i hi q mq) in
      rw (unlinked i hi q mq) (
        up_else i hi q mq q (λ e. d_other n suc (λ y. link t (down n y)) (λ y. link t (up n y)) W.list S.lists i hi q mq (sym e)),
        down_else i hi q mq q (λ e. u_other n suc (λ y. link t (down n y)) (λ y. link t (up n y)) W.list S.lists i hi q mq (sym e)),
        ap nat (else_is i hi q mq (top n q) (omega arith) (omega arith) (omega arith)) ∙ top_word i hi q mq,
      )

  -- the same of the words
  pub still_words : (i : ℕ) (hi : i < n) (q : ℕ) (mq : Mem q (W.list i))
      → (get_or (apply n t (unlink q)) (up n q) (pos 0) ≡ pos (link t (up n q))) × (get_or (apply n t (unlink q)) (down n q) (pos 0) ≡ pos (link t (down n q))) × (get_or (apply n t (unlink q)) (top n q) (pos 0) ≡ pos (suc i))
  still_words i hi q mq =
      let s = still_says i hi q mq in (
        word_of (get_or (apply n t (unlink q)) (up n q) (pos 0)) (link t (up n q)) s.0 (u_range i hi q mq).0,
        word_of (get_or (apply n t (unlink q)) (down n q) (pos 0)) (link t (down n q)) s.1 (d_range i hi q mq).0,
        word_of (get_or (apply n t (unlink q)) (top n q) (pos 0)) (suc i) s.2 (omega arith),
      )

  -- and so does an item that has left its ring
  pub still_ringed : (k : ℕ) (hk : k < 2) (i : ℕ) → Mem (suc i) (W.ring k)
      → (link (apply n t (remove i)) (left (suc i)) ≡ link t (left (suc i))) × (link (apply n t (remove i)) (right (suc i)) ≡ link t (right (suc i)))
  unfolding apply
  still_ringed k hk i mi =
      let lo = u_other 2 (ring_head P) (λ y. link t (right y)) (λ y. link t (left y)) W.ring S.rings k hk (suc i) mi in
      let ro = d_other 2 (ring_head P) (λ y. link t (right y)) (λ y. link t (left y)) W.ring S.rings k hk (suc i) mi in
      (ap nat (other k hk i mi (left (suc i)) (omega arith) (λ e. ro (omega arith))), ap nat (other k hk i mi (right (suc i)) (λ e. lo (omega arith)) (omega arith)))

-- ---- many events

abbrev pub Fit : Problem → View → List Event → Type 0
Fit P W [] = Unit {0}
Fit P W (v ∷ vs) = Fits P W v × Fit P (after W v) vs

pub run_table : (P : Problem) → Good P → (W : View) (t : List ℤ) (vs : List Event) → Table P W t → Fit P W vs → Table P (foldl after W vs) (foldl (apply (items P)) t vs)
run_table P G W t [] S f = S
run_table P G W t (v ∷ vs) S f = run_table P G (after W v) (apply (items P) t v) vs (event_table P G W t S v f.0) f.1

pub run_undone : (P : Problem) → Good P → (W : View) (t : List ℤ) (vs : List Event) → Table P W t → Fit P W vs → undo_all (items P) (foldl (apply (items P)) t vs) vs ≡ t
unfolding undo_all
run_undone P G W t [] S f = refl
run_undone P G W t (v ∷ vs) S f =
    ap (λ (z : List ℤ). undo (items P) z v) (run_undone P G (after W v) (apply (items P) t v) vs (event_table P G W t S v f.0) f.1)
    ∙ event_undone P G W t S v f.0

pub fit_split : (P : Problem) (W : View) (xs ys : List Event) → Fit P W (xs ++ ys) → Fit P W xs × Fit P (foldl after W xs) ys
fit_split P W [] ys f = (tt, f)
fit_split P W (x ∷ xs) ys f = let r = fit_split P (after W x) xs ys f.1 in ((f.0, r.0), r.1)

pub foldl_append : {A B : Type 0} (f : A → B → A) (a : A) (xs ys : List B) → foldl f a (xs ++ ys) ≡ foldl f (foldl f a xs) ys
foldl_append f a [] ys = refl
foldl_append f a (x ∷ xs) ys = foldl_append f (f a x) xs ys

-- ---- views that say the same

pub record Same (P : Problem) (W W' : View) : Type 0 where
  pub lists : (i : ℕ) → i < items P → W'.list i ≡ W.list i
  pub rings : (k : ℕ) → k < 2 → W'.ring k ≡ W.ring k
  pub marks : (q : ℕ) → W'.marked q ≡ W.marked q

pub same_table : (P : Problem) (W W' : View) (t : List ℤ) → Same P W W' → Table P W t → Table P W' t
same_table P W W' t E S = record {
  size = S.size;
  lists = rings_lists (items P) suc (λ q. link t (down (items P) q)) (λ q. link t (up (items P) q)) W.list S.lists W'.list E.lists;
  stand = λ i hi q m. S.stand i hi q (rw (E.lists i hi) at m);
  counted = λ i hi. S.counted i hi ∙ ap (λ (l : List ℕ). pos (length l)) (sym (E.lists i hi));
  rings = rings_lists 2 (ring_head P) (λ i. link t (right i)) (λ i. link t (left i)) W.ring S.rings W'.ring E.rings;
  ringed = λ k hk x m. S.ringed k hk x (rw (E.rings k hk) at m);
  paired = S.paired;
  named = λ o mo x mx. rw (E.marks x.at) (S.named o mo x mx);
  spaced = S.spaced;
}

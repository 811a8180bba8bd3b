-- At a point of the search: the linked options are those that agree with all chosen, and following the links lists them.
use Rattle.std.specs.Prelude.{◌≡◌, ◌⊎◌, true, false, eqb, ℤ, pos, length, get_or}
use Rattle.std.proofs.Math.Path.{refl, ap}
use Rattle.std.proofs.Common.{sym, ◌∙◌, subst, inl, inr, arith, eq-eqb, ne_eqb}
use Rattle.std.proofs.Math.Bool.{Bool, not}
use mathlib.Core.List.Memᴰ.{head as here}
use mathlib.Core.List.Memᴰ.{tail as there}
use mathlib.Core.List.{List, [], ◌∷◌, map, Memᴰ as Mem}
use mathlib.Core.List.Memᴰ.{map as map-in}
use mathlib.Core.List.Memᴰ.{not-nil}
use mathlib.Core.List.Memᴰ.{of_map as map-mem}
use Prim.Native.Nat.{ℕ, zero, suc, ◌+◌, ◌<◌}
use Rattle.std.proofs.Math.Decide.{ℕ_discrete}
use Rattle.std.proofs.Math.Dec.{T}
use Rattle.std.proofs.lemmas.List.{length-map}
use Rattle.rules.specs.Lists.{each, has, run}
use Rattle.rules.specs.Words.{nat}
use Rattle.rules.specs.Problem.{Entry, Problem, items}
use Rattle.rules.specs.Order.{has_item, agree, Placed, placed, Choice, node, place_of, choices, open_options, open_items}
use Rattle.rules.specs.Links.{Node, nodes_from, others, own, linked, committed, held, fresh, table, link, left, right, top, up, down}
use Rattle.laws.specs.Lists.{each_at, each_all, has_at, has_in, run_mem, length_run, keep_length, keep_map, keep_same, one_true, among, strike, among_mem, mem_among}
use Rattle.laws.specs.Faults.{Good, plain, simple}
use Rattle.laws.specs.Order.{entries_agree, has-item→, has-item←, open_item, open_item_facts}
use Rattle.tables.specs.Nodes.{Of, linked_of, nodes_in, nodes_at, others_mem, others_in, simple_one, same_item}
use Rattle.tables.specs.Ring.{Linked, Free}
use Rattle.tables.specs.Shows.{Shows, since, since_unheld, removed, removed_mem, removed_in, ring_items, Played, none_yet, one_more, point_shows}
use Rattle.tables.specs.Views.{ring_head}

-- ---- following links

abbrev pub until : Bool → ℕ → List ℕ → List ℕ
until true a r = []
until false a r = a ∷ r

-- `follow nx h k a`: from a along nx until h, at most k steps
unfoldable pub follow : (ℕ → ℕ) → ℕ → ℕ → ℕ → List ℕ
follow nx h zero a = []
follow nx h (suc k) a = until (eqb a h) a (follow nx h k (nx a))

pub follow_linked : (nx pv : ℕ → ℕ) (a : ℕ) (l : List ℕ) (h k : ℕ) → Linked nx pv a l h → Free h l → length l < k → follow nx h k (nx a) ≡ l
unfolding follow
follow_linked nx pv a l h zero L f b = absurd (omega arith)
follow_linked nx pv a [] h (suc k) L f b = rw (L.0, eq-eqb h h refl)
follow_linked nx pv a (x ∷ l) h (suc k) L f b =
    rw (L.0, ne_eqb x h (λ e. f.0 (sym e)), follow_linked nx pv x l h k L.2 f.1 (omega arith))

-- an item's list, read from its header along the down links; its length is there
pub list_read : (P : Problem) (held : List Entry) (t : List ℤ) → Shows P held t → (i : ℕ) → i < items P → T (not (has_item i held))
    → (follow (λ q. link t (down (items P) q)) (suc i) (suc (link t (top (items P) (suc i)))) (link t (down (items P) (suc i))) ≡ map node (linked P held i))
    × (get_or t (top (items P) (suc i)) (pos 0) ≡ pos (length (map node (linked P held i))))
list_read P held t S i hi fr =
    let n : ℕ = items P in
    let c = S.counted i hi in
    let e = since_unheld i held fr in
    let l : List ℕ = map node (linked P (since i held) i) in
    let r : follow (λ q. link t (down n q)) (suc i) (suc (link t (top n (suc i)))) (link t (down n (suc i))) ≡ l =
    follow_linked (λ q. link t (down n q)) (λ q. link t (up n q)) (suc i) l (suc i) (suc (link t (top n (suc i)))) (S.lists.linked i hi) (S.lists.distinct i hi).0 (omega (arith, ap nat c)) in
    (r ∙ ap (λ (h : List Entry). map node (linked P h i)) e, c ∙ ap (λ (h : List Entry). pos (length (map node (linked P h i)))) e)

-- a ring of items, read from its header along the right links
pub ring_read : (P : Problem) (held : List Entry) (t : List ℤ) → Shows P held t → (k : ℕ) → k < 2 → (m : ℕ) → length (strike (removed held) (ring_items P k)) < m
    → follow (λ i. link t (right i)) (ring_head P k) m (link t (right (ring_head P k))) ≡ strike (removed held) (ring_items P k)
ring_read P held t S k hk m h =
    follow_linked (λ i. link t (right i)) (λ i. link t (left i)) (ring_head P k) (strike (removed held) (ring_items P k)) (ring_head P k) m (S.rings.linked k hk) (S.rings.distinct k hk).0 h

-- ---- what holds at a point

pub committed_mem : (h : List Entry) (ns : List Node) {e : Entry} → Mem e (committed h ns) → Mem e h ⊎ ((x : Node) × Mem x ns × (x.entry ≡ e))
unfolding committed
committed_mem h [] m = inl m
committed_mem h (n ∷ ns) {e} m = step (committed_mem (n.entry ∷ h) ns m)
  where
    step : Mem e (n.entry ∷ h) ⊎ ((x : Node) × Mem x ns × (x.entry ≡ e)) → Mem e h ⊎ ((x : Node) × Mem x (n ∷ ns) × (x.entry ≡ e))
    step (inl (here u)) = inr (n, here refl, sym u)
    step (inl (there k)) = inl k
    step (inr (x, k, u)) = inr (x, there k, u)

pub committed_old : (h : List Entry) (ns : List Node) {e : Entry} → Mem e h → Mem e (committed h ns)
unfolding committed
committed_old h [] m = m
committed_old h (n ∷ ns) m = committed_old (n.entry ∷ h) ns (there m)

pub committed_new : {x : Node} (h : List Entry) {ns : List Node} → Mem x ns → Mem x.entry (committed h ns)
unfolding committed
committed_new h (here {x = n} {xs = ns} u) = committed_old (n.entry ∷ h) ns (here (ap (λ (y : Node). y.entry) u))
committed_new h (there {x = n} m) = committed_new (n.entry ∷ h) m

module _ (P : Problem) (G : Good P) where
  -- it is the chosen options' entries
  pub held_mem : {cs : List Choice} → Played P cs → {e : Entry} → Mem e (held cs) → (c : Choice) × Mem c cs × Mem c.option (placed P) × Mem e c.option.entries
  unfolding held
  held_mem none_yet m = absurd (not-nil m)
  held_mem (one_more {c = c} {cs = cs} i hi fr mc p) {e} m = step (committed_mem (own c ∷ held cs) (others c) m) (λ k. held_mem p k)
    where
      F : Of P (held cs) i c
      F = linked_of P (held cs) i mc

      step : Mem e (own c ∷ held cs) ⊎ ((x : Node) × Mem x (others c) × (x.entry ≡ e)) → (Mem e (held cs) → (d : Choice) × Mem d cs × Mem d.option (placed P) × Mem e d.option.entries)
          → (d : Choice) × Mem d (c ∷ cs) × Mem d.option (placed P) × Mem e d.option.entries
      step (inl (here u)) rec = (c, here refl, F.placed_in, rw u F.own_in)
      step (inl (there k)) rec = let r = rec k in (r.0, there r.1, r.2, r.3)
      step (inr (x, k, u)) rec = (c, here refl, F.placed_in, rw u at (nodes_at c.option.first (simple G c.option F.placed_in) (others_mem c k)).1)

  pub held_in : {cs : List Choice} → Played P cs → {c : Choice} → Mem c cs → {e : Entry} → Mem e c.option.entries → Mem e (held cs)
  unfolding held
  held_in none_yet mc me = absurd (not-nil mc)
  held_in (one_more {c = c} {cs = cs} i hi fr mc p) {c = d} (there k) me = committed_old (own c ∷ held cs) (others c) (there (held_in p k me))
  held_in (one_more {c = c} {cs = cs} i hi fr mc p) {c = d} (here u) {e} me = go (rw u at me)
    where
      F : Of P (held cs) i c
      F = linked_of P (held cs) i mc

      go : Mem e c.option.entries → Mem e (committed (own c ∷ held cs) (others c))
      go m = let x = nodes_in c.option.first (simple G c.option F.placed_in) m in step x (ℕ_discrete e.item i)
        where
          step : (x : Node) × Mem x (nodes_from c.option.first c.option.entries) × (x.at ≡ c.option.first + place_of e.item c.option.entries) × (x.entry ≡ e)
              → Dec (e.item ≡ i) → Mem e (committed (own c ∷ held cs) (others c))
          step x (yes w) = committed_old (own c ∷ held cs) (others c) (here (simple_one (simple G c.option F.placed_in) m F.own_in (w ∙ sym F.own_item)))
          step x (no w) = rw x.3 at (committed_new (own c ∷ held cs) (others_in c F.inside x.1 (λ z.
              w (same_item P F.placed_in F.placed_in e.item i (e, m, refl) (own c, F.own_in, F.own_item) (sym x.2 ∙ z ∙ ap (λ (k : ℕ). c.option.first + k) F.at_place)))))

  module _ {cs : List Choice} (p : Played P cs) where
    abbrev chosen : List Placed
    chosen = map (λ c. c.option) cs

    agree_held : (o : List Entry) → agree (held cs) o ≡ each (λ c. agree c.entries o) chosen
    unfolding agree
    agree_held o = one_true (agree (held cs) o) (each (λ c. agree c.entries o) chosen) onto from
      where
        A : Entry → Bool
        A x = each (λ d. entries_agree x d) o

        onto : T (each A (held cs)) → T (each (λ c. each A c.entries) chosen)
        onto t = each_all (λ (c : Placed). each A c.entries) chosen (λ c m.
            let r = map-mem (λ (c : Choice). c.option) cs m in
            each_all A c.entries (λ e k. each_at A t (held_in p r.1 (rw (← r.2) at k))))

        from : T (each (λ c. each A c.entries) chosen) → T (each A (held cs))
        from t = each_all A (held cs) (λ e m.
            let r = held_mem p m in
            each_at A (each_at (λ (c : Placed). each A c.entries) t (map-in (λ (c : Choice). c.option) r.1)) r.3)

    -- the choices of an item that are linked are those of the order rule
    pub linked_open : (i : ℕ) → linked P (held cs) i ≡ choices i (open_options P chosen)
    unfolding linked open_options
    linked_open i =
        ap (choices i) (keep_same (λ (o : Placed). agree (held cs) o.entries) (λ o. each (λ c. agree c.entries o.entries) chosen) (placed P) (λ o m. agree_held o.entries))

    held_chosen : (i : ℕ) → has_item i (held cs) ≡ has (λ c. has_item i c.entries) chosen
    held_chosen i = one_true (has_item i (held cs)) (has (λ c. has_item i c.entries) chosen) onto from
      where
        onto : T (has_item i (held cs)) → T (has (λ c. has_item i c.entries) chosen)
        onto t =
            let h = has-item→ i (held cs) t in
            let r = held_mem p h.1 in
            has_in (λ (c : Placed). has_item i c.entries) (map-in (λ (c : Choice). c.option) r.1) (has-item← i r.0.option.entries (h.0, r.3, h.2))

        from : T (has (λ c. has_item i c.entries) chosen) → T (has_item i (held cs))
        from t =
            let h = has_at (λ (c : Placed). has_item i c.entries) chosen t in
            let r = map-mem (λ (c : Choice). c.option) cs h.1 in
            let x = has-item→ i h.0.entries h.2 in
            has-item← i (held cs) (x.0, held_in p r.1 (subst (λ (y : Placed). Mem x.0 y.entries) (sym r.2) x.1), x.2)

    -- the search goes on to a point
    pub go_on : {i : ℕ} {c : Choice} → Mem i (open_items P chosen) → Mem c (choices i (open_options P chosen)) → Played P (c ∷ cs)
    go_on {i} {c} mi mc =
        let f = open_item_facts P chosen mi in
        one_more {c = c} {cs = cs} i (omega (arith, f.0)) (rw (held_chosen i) f.1) (rw (linked_open i) mc) p

    run_suc : (a m : ℕ) → run (suc a) m ≡ map suc (run a m)
    unfolding run
    run_suc a zero = refl
    run_suc a (suc m) = ap (λ (l : List ℕ). suc a ∷ l) (run_suc (suc a) m)

    -- the primary ring's items
    ring_open : strike (removed (held cs)) (run 1 P.np) ≡ map suc (open_items P chosen)
    unfolding open_items
    ring_open =
        ap (strike (removed (held cs))) (run_suc 0 P.np) ∙ keep_map (λ x. not (among (removed (held cs)) x)) suc (run 0 P.np)
        ∙ ap (map suc) (keep_same (λ i. not (among (removed (held cs)) (suc i))) (open_item chosen) (run 0 P.np) (λ i m. ap not (both i (run_mem 0 P.np m).1 ∙ held_chosen i)))
      where
        both : (i : ℕ) → i < 0 + P.np → among (removed (held cs)) (suc i) ≡ has_item i (held cs)
        both i h = one_true (among (removed (held cs)) (suc i)) (has_item i (held cs)) onto from
          where
            onto : T (among (removed (held cs)) (suc i)) → T (has_item i (held cs))
            onto t = let r = removed_mem (held cs) (among_mem (removed (held cs)) (suc i) t) in has-item← i (held cs) (r.0, r.1, omega (arith, r.3))

            from : T (has_item i (held cs)) → T (among (removed (held cs)) (suc i))
            from t =
                let x = has-item→ i (held cs) t in
                let r = held_mem p x.1 in
                let z = plain G r.0.option r.2 x.0 r.3 (omega (arith, x.2)) in
                mem_among (removed (held cs)) (suc i) (rw x.2 at (removed_in x.1 z))

    module _ (S : Shows P [] (fresh P)) where
      abbrev t : List ℤ
      t = table P cs

      -- Condition 3: from the header of an item that no chosen option has, the down links list the nodes of its options that agree with all chosen, in input order;
      -- the header's length is their number, the order rule's count
      pub chain : (i : ℕ) → i < items P → T (open_item chosen i)
          → (follow (λ q. link t (down (items P) q)) (suc i) (suc (link t (top (items P) (suc i)))) (link t (down (items P) (suc i))) ≡ map node (choices i (open_options P chosen)))
          × (get_or t (top (items P) (suc i)) (pos 0) ≡ pos (length (choices i (open_options P chosen))))
      chain i hi fr =
          let r = list_read P (held cs) t (point_shows P G S p) i hi (rw (held_chosen i) fr) in
          (r.0 ∙ ap (map node) (linked_open i), r.1 ∙ ap pos (length-map (linked P (held cs) i) node) ∙ ap (λ (l : List Choice). pos (length l)) (linked_open i))

      -- the primary ring lists the open items in order
      pub primary_ring : follow (λ i. link t (right i)) 0 (suc P.np) (link t (right 0)) ≡ map suc (open_items P chosen)
      primary_ring =
          let b = keep_length (λ (x : ℕ). not (among (removed (held cs)) x)) (run 1 P.np) in
          ring_read P (held cs) t (point_shows P G S p) 0 (omega arith) (suc P.np) (omega (arith, length_run 1 P.np)) ∙ ring_open

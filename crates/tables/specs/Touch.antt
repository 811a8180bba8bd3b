-- What covering or purifying an item does: its events one by one, that they are different, and the lists afterwards.
use Rattle.std.specs.Prelude.{◌≡◌, ◌⊎◌, ◌≢◌, ◌&&◌, ◌||◌, T, eqb, length}
use Rattle.std.proofs.Math.Path.{refl, sym, ap, subst}
use Rattle.std.proofs.Common.{◌∙◌, inl, inr, T_not, eqb→eq}
use Rattle.std.proofs.Math.Bool.{Bool, true, false, not}
use mathlib.Core.List.Memᴰ.{eq_of_singleton as of-singleton}
use mathlib.Core.List.Memᴰ.{head as here}
use mathlib.Core.List.{List, [], ◌∷◌, map, Memᴰ as Mem}
use mathlib.Core.List.Memᴰ.{append_cases}
use mathlib.Core.List.Memᴰ.{append_left as in_left}
use mathlib.Core.List.Memᴰ.{append_right as in_right}
use mathlib.Core.List.Memᴰ.{map as map-in}
use mathlib.Core.List.Memᴰ.{not-nil}
use mathlib.Core.List.Memᴰ.{of_map as map-mem}
use Prim.Native.Nat.{ℕ, zero, suc, ◌+◌, ◌-◌, ◌<◌}
use native.Mathlib.Omega.{arith}
use Rattle.std.proofs.Math.Dec.{not_T}
use Rattle.rules.specs.Lists.{keep, each, flat}
use Rattle.rules.specs.Problem.{Entry, Problem, items}
use Rattle.rules.specs.Knuth.{Has}
use Rattle.rules.specs.Order.{one_colour, has_item, agree, Placed, placed, Choice, node, place_of, choices}
use Rattle.rules.specs.Links.{Event, unlink, remove, mark, Node, nodes_from, others, own, linked, hide, met, ring_part, touch}
use Rattle.laws.specs.Lists.{Apart, apart_nil, apart_cons, apart_append, apart_map, apart_keep, apart_flat, and_left, and_right, and_both, tested, keep_mem, keep_in, each_at, flat_mem, flat_in, each_not, keep_map, keep_keep, keep_same, keep_all, one_true, among, strike, among_mem, mem_among}
use Rattle.laws.specs.Faults.{Good, simple}
use Rattle.laws.specs.Order.{entries_agree, alike→, eq→eqb, ne→neqb, has-item→, place_apart, choices_apart}
use Rattle.tables.specs.Nodes.{Of, linked_of, linked_in, choice_of, same_option, same_item, nodes_at, nodes_in, others_mem, others_in, others_apart, others_other, simple_one, nodes_range, placed_one}

-- ---- what events do, by kind

abbrev pub unlinks_of : Event → List ℕ
unlinks_of (unlink q) = q ∷ []
unlinks_of (remove i) = []
unlinks_of (mark q c) = []

abbrev pub removes_of : Event → List ℕ
removes_of (unlink q) = []
removes_of (remove i) = suc i ∷ []
removes_of (mark q c) = []

abbrev pub marks_of : Event → List ℕ
marks_of (unlink q) = []
marks_of (remove i) = []
marks_of (mark q c) = q ∷ []

-- the nodes that the events unlink, the items that they take out of a ring (as its members are numbered), and the nodes that they mark
abbrev pub unlinks : List Event → List ℕ
unlinks es = flat unlinks_of es

abbrev pub removes : List Event → List ℕ
removes es = flat removes_of es

abbrev pub marks : List Event → List ℕ
marks es = flat marks_of es

pub unlinks_mem : (es : List Event) {q : ℕ} → Mem q (unlinks es) → Mem (unlink q) es
unlinks_mem es {q} m = let r = flat_mem unlinks_of es m in step r.0 r.1 r.2
  where
    step : (v : Event) → Mem v es → Mem q (unlinks_of v) → Mem (unlink q) es
    step (unlink x) mv h = rw (of-singleton h) mv
    step (remove i) mv h = absurd (not-nil h)
    step (mark x c) mv h = absurd (not-nil h)

pub removes_mem : (es : List Event) {q : ℕ} → Mem q (removes es) → (i : ℕ) × Mem (remove i) es × (q ≡ suc i)
removes_mem es {q} m = let r = flat_mem removes_of es m in step r.0 r.1 r.2
  where
    step : (v : Event) → Mem v es → Mem q (removes_of v) → (i : ℕ) × Mem (remove i) es × (q ≡ suc i)
    step (unlink x) mv h = absurd (not-nil h)
    step (remove i) mv h = (i, mv, of-singleton h)
    step (mark x c) mv h = absurd (not-nil h)

pub marks_mem : (es : List Event) {q : ℕ} → Mem q (marks es) → (c : ℕ) × Mem (mark q c) es
marks_mem es {q} m = let r = flat_mem marks_of es m in step r.0 r.1 r.2
  where
    step : (v : Event) → Mem v es → Mem q (marks_of v) → (c : ℕ) × Mem (mark q c) es
    step (unlink x) mv h = absurd (not-nil h)
    step (remove i) mv h = absurd (not-nil h)
    step (mark x c) mv h = (c, rw (of-singleton h) mv)

pub unlinks_in : {es : List Event} {q : ℕ} → Mem (unlink q) es → Mem q (unlinks es)
unlinks_in m = flat_in unlinks_of m (here refl)

pub removes_in : {es : List Event} {i : ℕ} → Mem (remove i) es → Mem (suc i) (removes es)
removes_in m = flat_in removes_of m (here refl)

pub marks_in : {es : List Event} {q c : ℕ} → Mem (mark q c) es → Mem q (marks es)
marks_in m = flat_in marks_of m (here refl)

-- two events that do not do the same thing twice
abbrev pub Other : Event → Event → Type 0
Other (unlink q) (unlink q') = q ≢ q'
Other (unlink q) (remove i) = Unit {0}
Other (unlink q) (mark q' c) = Unit {0}
Other (remove i) (unlink q) = Unit {0}
Other (remove i) (remove j) = i ≢ j
Other (remove i) (mark q c) = Unit {0}
Other (mark q c) (unlink q') = Unit {0}
Other (mark q c) (remove i) = Unit {0}
Other (mark q c) (mark q' c') = q ≢ q'

-- ---- colours

-- entries of one item that do not agree
unlike : (e d : Entry) → T (not (entries_agree e d)) → (e.item ≡ d.item) × T (not (one_colour e d))
unlike e d t = step (eqb e.item d.item) refl t
  where
    step : (b : Bool) → eqb e.item d.item ≡ b → T (not (not b || one_colour e d)) → (e.item ≡ d.item) × T (not (one_colour e d))
    step true u t = (eqb→eq e.item d.item (rw u tt), t)
    step false u t = absurd t

pub alike_colour : (e d : Entry) → T (entries_agree e d) → e.item ≡ d.item → T (one_colour e d)
alike_colour e d t s =
    let r = alike→ e d t s in
    and_both (eqb e.colour d.colour) (not (eqb e.colour 0)) (eq→eqb r.0) (ne→neqb r.1)

-- ---- the events of `touch`

module _ (P : Problem) (held : List Entry) (e : Entry) where
  -- what an event of `touch` is
  abbrev pub Done : Event → Type 0
  Done (mark q k) = (c : Choice) × Mem c (linked P held e.item) × T (one_colour e (own c)) × (q ≡ node c) × (k ≡ (own c).colour)
  Done (unlink q) = (c : Choice) × Mem c (linked P held e.item) × T (not (one_colour e (own c)))
      × (x : Node) × Mem x (others c) × T (not (has_item x.entry.item held)) × (q ≡ x.at)
  Done (remove i) = (e.colour ≡ 0) × (i ≡ e.item)

  met_done : (c : Choice) → Mem c (linked P held e.item) → (b : Bool) → one_colour e (own c) ≡ b → {v : Event} → Mem v (met P b held c) → Done v
  unfolding hide
  met_done c mc true u m = subst Done (sym (of-singleton m)) (c, mc, rw u tt, refl, refl)
  met_done c mc false u m =
      let z = map-mem (λ (n : Node). unlink n.at) (keep (λ n. not (has_item n.entry.item held)) (others c)) m in
      let k = keep_mem (λ (n : Node). not (has_item n.entry.item held)) (others c) z.1 in
      subst Done z.2 (c, mc, rw u tt, z.0, k.0, k.1, refl)

  ring_done : (k : ℕ) → e.colour ≡ k → {v : Event} → Mem v (ring_part k e.item) → Done v
  ring_done zero u m = subst Done (sym (of-singleton m)) (u, refl)
  ring_done (suc k) u m = absurd (not-nil m)

  pub touch_done : {v : Event} → Mem v (touch P held e) → Done v
  unfolding touch
  touch_done {v} m = step (append_cases (flat (λ c. met P (one_colour e (own c)) held c) (linked P held e.item)) m)
    where
      step : Mem v (flat (λ c. met P (one_colour e (own c)) held c) (linked P held e.item)) ⊎ Mem v (ring_part e.colour e.item) → Done v
      step (inl h) =
          let r = flat_mem (λ c. met P (one_colour e (own c)) held c) (linked P held e.item) h in
          met_done r.0 r.1 (one_colour e (own r.0)) refl r.2
      step (inr h) = ring_done e.colour refl h

  ring_in : (k : ℕ) → k ≡ 0 → Mem (remove e.item) (ring_part k e.item)
  ring_in zero u = here refl
  ring_in (suc k) u = absurd (omega arith)

  in_met : (b : Bool) (c : Choice) → T b → Mem (mark (node c) (own c).colour) (met P b held c)
  in_met true c t = here refl
  in_met false c t = absurd t

  in_hide : (b : Bool) (c : Choice) → T (not b) → (x : Node) → Mem x (others c) → T (not (has_item x.entry.item held)) → Mem (unlink x.at) (met P b held c)
  unfolding hide
  in_hide true c t x mx fr = absurd t
  in_hide false c t x mx fr = map-in (λ (n : Node). unlink n.at) (keep_in (λ (n : Node). not (has_item n.entry.item held)) mx fr)

  pub done_touch : (v : Event) → Done v → Mem v (touch P held e)
  unfolding touch
  done_touch (mark q k) (c, mc, t, u, w) =
      rw (u, w) (in_left (ring_part e.colour e.item) (flat_in (λ c. met P (one_colour e (own c)) held c) mc (in_met (one_colour e (own c)) c t)))
  done_touch (unlink q) (c, mc, t, x, mx, fr, u) =
      rw u (in_left (ring_part e.colour e.item) (flat_in (λ c. met P (one_colour e (own c)) held c) mc (in_hide (one_colour e (own c)) c t x mx fr)))
  done_touch (remove i) (z, u) = rw u (in_right (flat (λ c. met P (one_colour e (own c)) held c) (linked P held e.item)) (ring_in e.colour z))

-- q is the node of item i in a kept option
abbrev pub Stands : Problem → ℕ → ℕ → Type 0
Stands P i q = (o : Placed) × Mem o (placed P) × Has o.entries i × (q ≡ o.first + place_of i o.entries)

pub linked_stands : (P : Problem) (held : List Entry) (i : ℕ) {q : ℕ} → Mem q (map node (linked P held i)) → Stands P i q
linked_stands P held i m =
    let r = map-mem node (linked P held i) m in
    let f = linked_of P held i r.1 in
    (r.0.option, f.placed_in, (own r.0, f.own_in, f.own_item), sym r.2 ∙ ap (λ (k : ℕ). r.0.option.first + k) f.at_place)

-- A node that `touch` unlinks: its option, which agrees with what is held and not with the entry, and its entry there, of an item that is neither held nor the entry's
pub record Struck (P : Problem) (held : List Entry) (e : Entry) (q : ℕ) : Type 0 where
  pub option : Placed
  pub option_in : Mem option (placed P)
  pub agrees : T (agree held option.entries)
  pub clashes : T (not (each (λ d. entries_agree e d) option.entries))
  pub entry : Entry
  pub entry_in : Mem entry option.entries
  pub at_is : q ≡ option.first + place_of entry.item option.entries
  pub unheld : T (not (has_item entry.item held))
  pub other : entry.item ≢ e.item

module _ (P : Problem) (G : Good P) (held : List Entry) (e : Entry) where
  pub unlinked_struck : {q : ℕ} → Mem (unlink q) (touch P held e) → Struck P held e q
  unlinked_struck {q} m =
      let d = touch_done P held e m in
      go d.0 (linked_of P held e.item d.1) d.2 d.3 d.4 d.5 d.6
    where
      go : (c : Choice) → Of P held e.item c → T (not (one_colour e (own c))) → (x : Node) → Mem x (others c) → T (not (has_item x.entry.item held)) → q ≡ x.at → Struck P held e q
      go c F t x mx fr u =
          let n = nodes_at c.option.first (simple G c.option F.placed_in) (others_mem c mx) in
          record {
            option = c.option;
            option_in = F.placed_in;
            agrees = F.agrees;
            clashes = not_T (each (λ d. entries_agree e d) c.option.entries)
                (λ a. T_not (one_colour e (own c)) t (alike_colour e (own c) (each_at (λ (d : Entry). entries_agree e d) a F.own_in) (sym F.own_item)));
            entry = x.entry;
            entry_in = n.1;
            at_is = u ∙ n.0;
            unheld = fr;
            other = λ z. others_other c mx (n.0 ∙ ap (λ (k : ℕ). c.option.first + place_of k c.option.entries) z ∙ ap (λ (k : ℕ). c.option.first + k) (sym F.at_place));
          }

  pub struck_unlinked : {q : ℕ} → Struck P held e q → Mem (unlink q) (touch P held e)
  struck_unlinked {q} S = done_touch P held e (unlink q) (choice_of e.item o, mc, clash, n.0, inn, free, S.at_is ∙ sym n.2)
    where
      o : Placed
      o = S.option

      x : (d : Entry) × Mem d o.entries × T (not (entries_agree e d))
      x = each_not (λ (d : Entry). entries_agree e d) o.entries S.clashes

      v : (e.item ≡ x.0.item) × T (not (one_colour e x.0))
      v = unlike e x.0 x.2

      mc : Mem (choice_of e.item o) (linked P held e.item)
      mc = linked_in P held e.item S.option_in S.agrees (x.0, x.1, sym v.0)

      F : Of P held e.item (choice_of e.item o)
      F = linked_of P held e.item mc

      clash : T (not (one_colour e (own (choice_of e.item o))))
      clash = rw (simple_one (simple G o S.option_in) F.own_in x.1 (F.own_item ∙ v.0)) v.1

      n : (n : Node) × Mem n (nodes_from o.first o.entries) × (n.at ≡ o.first + place_of S.entry.item o.entries) × (n.entry ≡ S.entry)
      n = nodes_in o.first (simple G o S.option_in) S.entry_in

      inn : Mem n.0 (others (choice_of e.item o))
      inn = others_in (choice_of e.item o) F.inside n.1
          (λ u. S.other (same_item P S.option_in S.option_in S.entry.item e.item (S.entry, S.entry_in, refl) (x.0, x.1, sym v.0) (sym n.2 ∙ u)))

      free : T (not (has_item n.0.entry.item held))
      free = rw n.3 S.unheld

  -- the list of another item that is not held loses the options that do not agree with the entry
  pub struck : (j : ℕ) → j ≢ e.item → T (not (has_item j held)) → strike (unlinks (touch P held e)) (map node (linked P held j)) ≡ map node (linked P (e ∷ held) j)
  unfolding linked choices agree each
  struck j ne fr =
      keep_map S node (map (choice_of j) (keep H (keep A (placed P)))) ∙ ap (map node) (keep_map (λ c. S (node c)) (choice_of j) (keep H (keep A (placed P)))
      ∙ ap (map (choice_of j)) (ap (keep S') (keep_keep H A (placed P)) ∙ keep_keep S' (λ o. A o && H o) (placed P)
      ∙ keep_same (λ o. (A o && H o) && S' o) (λ o. A' o && H o) (placed P) both ∙ sym (keep_keep H A' (placed P))))
    where
      S : ℕ → Bool
      S q = not (among (unlinks (touch P held e)) q)

      S' : Placed → Bool
      S' o = S (node (choice_of j o))

      H : Placed → Bool
      H o = has_item j o.entries

      A : Placed → Bool
      A o = agree held o.entries

      B : Placed → Bool
      B o = each (λ d. entries_agree e d) o.entries

      A' : Placed → Bool
      A' o = agree (e ∷ held) o.entries

      both : (o : Placed) → Mem o (placed P) → ((A o && H o) && S' o) ≡ (A' o && H o)
      both o mo = one_true ((A o && H o) && S' o) (A' o && H o) there_is here_is
        where
          q : ℕ
          q = node (choice_of j o)

          there_is : T ((A o && H o) && S' o) → T (A' o && H o)
          there_is t =
              let ah = and_left (A o && H o) (S' o) t in
              let a = and_left (A o) (H o) ah in
              let h = and_right (A o) (H o) ah in
              and_both (A' o) (H o) (and_both (B o) (A o) (agrees (tested (B o)) a (has-item→ j o.entries h) (and_right (A o && H o) (S' o) t)) a) h
            where
              agrees : T (B o) ⊎ T (not (B o)) → T (A o) → Has o.entries j → T (S' o) → T (B o)
              agrees (inl u) a h s = u
              agrees (inr f) a h s =
                  absurd (T_not (among (unlinks (touch P held e)) q) s (mem_among (unlinks (touch P held e)) q (unlinks_in (struck_unlinked (record {
                    option = o;
                    option_in = mo;
                    agrees = a;
                    clashes = f;
                    entry = h.0;
                    entry_in = h.1;
                    at_is = ap (λ (k : ℕ). o.first + place_of k o.entries) (sym h.2);
                    unheld = rw h.2 fr;
                    other = λ z. ne (sym h.2 ∙ z);
                  })))))

          here_is : T (A' o && H o) → T ((A o && H o) && S' o)
          here_is t =
              let a' = and_left (A' o) (H o) t in
              let h = and_right (A' o) (H o) t in
              let b = and_left (B o) (A o) a' in
              and_both (A o && H o) (S' o) (and_both (A o) (H o) (and_right (B o) (A o) a') h)
              (not_T (among (unlinks (touch P held e)) q) (λ u. bad (unlinked_struck (unlinks_mem (touch P held e) (among_mem (unlinks (touch P held e)) q u))) (has-item→ j o.entries h) b))
            where
              bad : Struck P held e q → Has o.entries j → T (B o) → ⊥
              bad S h b =
                  let same = same_option P S.option_in mo S.entry.item j (S.entry, S.entry_in, refl) h (sym S.at_is) in
                  T_not (B o) (rw same at S.clashes) b

  -- no other list loses a node, by some of the events
  pub unstruck : (vs : List Event) → ((v : Event) → Mem v vs → Mem v (touch P held e)) → (i : ℕ) (l : List ℕ) → ((q : ℕ) → Mem q l → Stands P i q)
      → T (has_item i held) ⊎ (i ≡ e.item) → strike (unlinks vs) l ≡ l
  unstruck vs sub i l st h = keep_all (λ q. not (among (unlinks vs) q)) l (λ q m. not_T (among (unlinks vs) q) (λ u.
      bad q (st q m) (unlinked_struck (sub (unlink q) (unlinks_mem vs (among_mem (unlinks vs) q u)))) h))
    where
      bad : (q : ℕ) → Stands P i q → Struck P held e q → T (has_item i held) ⊎ (i ≡ e.item) → ⊥
      bad q (o, mo, h, u) S k =
          clash k (same_item P mo S.option_in i S.entry.item h (S.entry, S.entry_in, refl) (sym u ∙ S.at_is))
        where
          clash : T (has_item i held) ⊎ (i ≡ e.item) → i ≡ S.entry.item → ⊥
          clash (inl t) z = T_not (has_item S.entry.item held) S.unheld (rw z at t)
          clash (inr t) z = S.other (sym z ∙ t)

-- ---- the events are different

-- where an event of a met node is
abbrev pub At : Placed → Event → Type 0
At o (unlink q) = (k : ℕ) × (k < length o.entries) × (q ≡ o.first + k)
At o (mark q c) = (k : ℕ) × (k < length o.entries) × (q ≡ o.first + k)
At o (remove i) = ⊥

module _ (P : Problem) (held : List Entry) where
  pub met_at : (b : Bool) (c : Choice) → c.at < length c.option.entries → {v : Event} → Mem v (met P b held c) → At c.option v
  unfolding hide
  met_at true c h m = subst (At c.option) (sym (of-singleton m)) (c.at, h, refl)
  met_at false c h m =
      let z = map-mem (λ (n : Node). unlink n.at) (keep (λ n. not (has_item n.entry.item held)) (others c)) m in
      let k = keep_mem (λ (n : Node). not (has_item n.entry.item held)) (others c) z.1 in
      let r = nodes_range c.option.first c.option.entries (others_mem c k.0) in
      subst (At c.option) z.2 (z.0.at - c.option.first, omega arith, omega arith)

  pub met_apart : (b : Bool) (c : Choice) → Apart Other (met P b held c)
  unfolding hide
  met_apart true c = apart_cons (λ y m. absurd (not-nil m)) apart_nil
  met_apart false c = apart_map (λ (n : Node). unlink n.at) (λ x y h. h) (apart_keep (λ (n : Node). not (has_item n.entry.item held)) (others_apart c))

at_other : (P : Problem) {o o' : Placed} → Mem o (placed P) → Mem o' (placed P) → o.number ≢ o'.number → (u v : Event) → At o u → At o' v → Other u v
at_other P {o} {o'} m m' ne u v a b = go u v a b
  where
    nodes : (q q' : ℕ) → (k : ℕ) × (k < length o.entries) × (q ≡ o.first + k) → (k : ℕ) × (k < length o'.entries) × (q' ≡ o'.first + k) → q ≢ q'
    nodes q q' (k, h, e) (k', h', e') z = ne (ap (λ (y : Placed). y.number) (placed_one P m m' k k' h h' (sym e ∙ z ∙ e')))

    go : (u v : Event) → At o u → At o' v → Other u v
    go (unlink q) (unlink q') a b = nodes q q' a b
    go (unlink q) (mark q' c) a b = tt
    go (mark q c) (unlink q') a b = tt
    go (mark q c) (mark q' c') a b = nodes q q' a b
    go (remove i) v a b = absurd a
    go (unlink q) (remove i) a b = absurd b
    go (mark q c) (remove i) a b = absurd b

at_not_ring : (o : Placed) (u : Event) → At o u → (i : ℕ) → Other u (remove i)
at_not_ring o (unlink q) a i = tt
at_not_ring o (mark q c) a i = tt
at_not_ring o (remove j) a i = absurd a

ring_part_mem : (k i : ℕ) {v : Event} → Mem v (ring_part k i) → v ≡ remove i
ring_part_mem zero i m = of-singleton m
ring_part_mem (suc k) i m = absurd (not-nil m)

ring_part_apart : (k i : ℕ) → Apart Other (ring_part k i)
ring_part_apart zero i = apart_cons (λ y m. absurd (not-nil m)) apart_nil
ring_part_apart (suc k) i = apart_nil

pub linked_apart : (P : Problem) (held : List Entry) (i : ℕ) → Apart (λ (a b : Choice). a.option.number ≢ b.option.number) (linked P held i)
unfolding linked placed
linked_apart P held i =
    choices_apart i (keep (λ o. agree held o.entries) (placed P)) (apart_keep (λ (o : Placed). agree held o.entries) (place_apart P.np 0 (items P + 1) P.options))

pub touch_apart : (P : Problem) (held : List Entry) (e : Entry) → Apart Other (touch P held e)
unfolding touch
touch_apart P held e =
    apart_append
    (apart_flat f (linked_apart P held e.item) (λ c mc. met_apart P held (one_colour e (own c)) c)
    (λ c d mc md ne u v mu mv. at_other P (of c mc).placed_in (of d md).placed_in ne u v (at c mc u mu) (at d md v mv)))
    (ring_part_apart e.colour e.item)
    (λ u v mu mv. let r = flat_mem f (linked P held e.item) mu in
    subst (Other u) (sym (ring_part_mem e.colour e.item mv)) (at_not_ring r.0.option u (at r.0 r.1 u r.2) e.item))
  where
    f : Choice → List Event
    f c = met P (one_colour e (own c)) held c

    of : (c : Choice) → Mem c (linked P held e.item) → Of P held e.item c
    of c mc = linked_of P held e.item mc

    at : (c : Choice) → Mem c (linked P held e.item) → (u : Event) → Mem u (f c) → At c.option u
    at c mc u mu = met_at P held (one_colour e (own c)) c (of c mc).inside mu

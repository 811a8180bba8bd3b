-- What a table shows where certain entries hold, and that `touch` leads from what holds to one entry more.
use Rattle.std.specs.Prelude.{◌≡◌, ◌⊎◌, ◌≢◌, Bool, not, ◌&&◌, ◌||◌, ℕ, zero, suc, ◌+◌, ◌<◌, eqb, ℤ}
use Rattle.std.proofs.Math.Path.{refl}
use Rattle.std.proofs.Common.{sym, ap, ◌∙◌, inl, inr, arith, T_not, eqb→eq}
use Rattle.std.proofs.Math.Bool.{true, false}
use mathlib.Core.List.Memᴰ.{head as here}
use mathlib.Core.List.Memᴰ.{tail as there}
use mathlib.Core.List.{List, [], ◌∷◌, ◌++◌, map, foldl, Memᴰ as Mem}
use mathlib.Core.List.Memᴰ.{append_cases}
use mathlib.Core.List.Memᴰ.{append_left as in_left}
use mathlib.Core.List.Memᴰ.{append_right as in_right}
use mathlib.Core.List.Memᴰ.{map as map-in}
use mathlib.Core.List.Memᴰ.{of_map as map-mem}
use Rattle.std.proofs.Math.Decide.{ℕ_discrete, dec_lt}
use Rattle.std.proofs.Math.Dec.{T, not_T}
use Rattle.rules.specs.Lists.{keep, each, has, flat, run}
use Rattle.rules.specs.Problem.{Entry, Problem, items}
use Rattle.rules.specs.Knuth.{Has}
use Rattle.rules.specs.Order.{one_colour, has_item, agree, Placed, placed, Choice, node, place_of, choices}
use Rattle.rules.specs.Links.{Event, unlink, remove, mark, Node, others, own, linked, touch, commit_node, commit, try, choose, committed, held, events, fresh, table, apply}
use Rattle.laws.specs.Lists.{Apart, apart_nil, apart_cons, apart_with, and_left, and_right, and_both, or_cases, or_left, or_right, tested, keep_mem, keep_in, each_at, each_all, run_in, keep_keep, keep_same, keep_all, one_true, has_append, among, strike, among_mem, mem_among}
use Rattle.laws.specs.Faults.{Good, ranged, simple}
use Rattle.laws.specs.Order.{entries_agree, eq→eqb, ne→neqb, has-item→, has-item←, agree→}
use Rattle.tables.specs.Nodes.{Of, linked_of, linked_in, choice_of, same_item, nodes_in, nodes_at, others_mem, others_apart, others_other}
use Rattle.tables.specs.Rings.{without, without_in}
use Rattle.tables.specs.Touch.{unlinks, removes, marks, removes_mem, marks_mem, removes_in, marks_in, Other, Done, touch_done, done_touch, alike_colour, linked_stands, Struck, unlinked_struck, struck, unstruck, touch_apart}
use Rattle.tables.specs.Undo.{undo_all, undo_append}
use Rattle.tables.specs.Views.{View, after, Table, Fits, Fit, run_table, run_undone, foldl_append, Same, same_table}

-- ---- the view

-- what held when item i came to be held; all that holds, where it is not
abbrev pub frozen : Bool → Bool → List Entry → Entry → List Entry → List Entry
frozen true b s e h = s
frozen false true s e h = h
frozen false false s e h = e ∷ h

unfoldable pub since : ℕ → List Entry → List Entry
since i [] = []
since i (e ∷ h) = frozen (has_item i h) (eqb e.item i) (since i h) e h

-- the items that are covered, as the rings number them
unfoldable pub removed : List Entry → List ℕ
removed held = map (λ e. suc e.item) (keep (λ e. eqb e.colour 0) held)

abbrev pub ring_items : Problem → ℕ → List ℕ
ring_items P zero = run 1 P.np
ring_items P (suc k) = run (suc P.np) P.ns

-- node q was marked when an item was purified
unfoldable pub marked : Problem → List Entry → ℕ → Bool
marked P [] q = false
marked P (e ∷ h) q = (not (has_item e.item h) && among (marks (touch P h e)) q) || marked P h q

-- An item's list is that of the options that agree with what holds, frozen when the item itself comes to be held.
abbrev pub view : Problem → List Entry → View
view P held = record {
  list = λ i. map node (linked P (since i held) i);
  ring = λ k. strike (removed held) (ring_items P k);
  marked = marked P held;
}

abbrev pub Shows : Problem → List Entry → List ℤ → Type 0
Shows P held t = Table P (view P held) t

-- ---- `since`

pub since_unheld : (i : ℕ) (held : List Entry) → T (not (has_item i held)) → since i held ≡ held
unfolding since has_item has
since_unheld i [] t = refl
since_unheld i (e ∷ h) t = go (eqb e.item i) (has_item i h) t
  where
    go : (b a : Bool) → T (not (b || a)) → frozen a b (since i h) e h ≡ e ∷ h
    go true a t = absurd t
    go false true t = absurd t
    go false false t = refl

pub since_held : (i : ℕ) (e : Entry) (h : List Entry) → T (has_item i h) → since i (e ∷ h) ≡ since i h
unfolding since
since_held i e h t = go (has_item i h) t
  where
    go : (a : Bool) → T a → frozen a (eqb e.item i) (since i h) e h ≡ since i h
    go true t = refl
    go false t = absurd t

pub since_now : (i : ℕ) (e : Entry) (h : List Entry) → T (not (has_item i h)) → e.item ≡ i → since i (e ∷ h) ≡ h
unfolding since
since_now i e h t u = go (has_item i h) (eqb e.item i) t (eq→eqb u)
  where
    go : (a b : Bool) → T (not a) → T b → frozen a b (since i h) e h ≡ h
    go true b t u = absurd t
    go false true t u = refl
    go false false t u = absurd u

pub since_later : (i : ℕ) (e : Entry) (h : List Entry) → T (not (has_item i h)) → e.item ≢ i → since i (e ∷ h) ≡ e ∷ h
unfolding since
since_later i e h t u = go (has_item i h) (eqb e.item i) t (ne→neqb u)
  where
    go : (a b : Bool) → T (not a) → T (not b) → frozen a b (since i h) e h ≡ e ∷ h
    go true b t u = absurd t
    go false true t u = absurd u
    go false false t u = refl

-- ---- what many events do to a view

strike_cons : (q : ℕ) (qs l : List ℕ) → strike qs (without q l) ≡ strike (q ∷ qs) l
unfolding has
strike_cons q qs l =
    keep_keep (λ x. not (among qs x)) (λ x. not (eqb q x)) l
    ∙ keep_same (λ x. not (eqb q x) && not (among qs x)) (λ x. not (eqb q x || among qs x)) l (λ x m. go (eqb q x) (among qs x))
  where
    go : (a b : Bool) → (not a && not b) ≡ not (a || b)
    go true b = refl
    go false b = refl

pub fold_list : (W : View) (vs : List Event) (i : ℕ) → (foldl after W vs).list i ≡ strike (unlinks vs) (W.list i)
unfolding flat has
fold_list W [] i = sym (keep_all (λ x. not (among [] x)) (W.list i) (λ x m. tt))
fold_list W (unlink q ∷ vs) i = fold_list (after W (unlink q)) vs i ∙ strike_cons q (unlinks vs) (W.list i)
fold_list W (remove j ∷ vs) i = fold_list (after W (remove j)) vs i
fold_list W (mark q c ∷ vs) i = fold_list (after W (mark q c)) vs i

pub fold_ring : (W : View) (vs : List Event) (k : ℕ) → (foldl after W vs).ring k ≡ strike (removes vs) (W.ring k)
unfolding flat has
fold_ring W [] k = sym (keep_all (λ x. not (among [] x)) (W.ring k) (λ x m. tt))
fold_ring W (unlink q ∷ vs) k = fold_ring (after W (unlink q)) vs k
fold_ring W (remove j ∷ vs) k = fold_ring (after W (remove j)) vs k ∙ strike_cons (suc j) (removes vs) (W.ring k)
fold_ring W (mark q c ∷ vs) k = fold_ring (after W (mark q c)) vs k

pub fold_marked : (W : View) (vs : List Event) (x : ℕ) → (foldl after W vs).marked x ≡ (among (marks vs) x || W.marked x)
unfolding flat has
fold_marked W [] x = refl
fold_marked W (unlink q ∷ vs) x = fold_marked (after W (unlink q)) vs x
fold_marked W (remove j ∷ vs) x = fold_marked (after W (remove j)) vs x
fold_marked W (mark q c ∷ vs) x = fold_marked (after W (mark q c)) vs x ∙ go (among (marks vs) x) (eqb q x) (W.marked x)
  where
    go : (a b c : Bool) → (a || (b || c)) ≡ ((b || a) || c)
    go true true c = refl
    go true false c = refl
    go false true c = refl
    go false false c = refl

-- different events that fit do so one after the other
fits_after : (P : Problem) (W : View) (v w : Event) → Other v w → Fits P W w → Fits P (after W v) w
fits_after P W (unlink q) (unlink q') o (i, hi, m) = (i, hi, without_in q o m)
fits_after P W (unlink q) (remove i) o f = f
fits_after P W (unlink q) (mark q' c) o f = f
fits_after P W (remove i) (unlink q) o f = f
fits_after P W (remove i) (remove j) o (k, hk, m) = (k, hk, without_in (suc i) (λ e. o (omega arith)) m)
fits_after P W (remove i) (mark q c) o f = f
fits_after P W (mark q c) (unlink q') o f = f
fits_after P W (mark q c) (remove i) o f = f
fits_after P W (mark q c) (mark q' c') o (p, mp, x, mx, e, ec, t) = (p, mp, x, mx, e, ec, go (eqb q q') (W.marked q') (ne→neqb o) t)
  where
    go : (a b : Bool) → T (not a) → T (not b) → T (not (a || b))
    go true b s t = absurd s
    go false b s t = t

pub fit_apart : (P : Problem) (W : View) {vs : List Event} → Apart Other vs → ((v : Event) → Mem v vs → Fits P W v) → Fit P W vs
fit_apart P W apart_nil h = tt
fit_apart P W (apart_cons {x = v} {xs = vs} r a) h = (h v (here refl), fit_apart P (after W v) a (λ w m. fits_after P W v w (r w m) (h w (there m))))

-- ---- marks

-- A node is marked only where its item is held
pub marked_held : (P : Problem) (held : List Entry) {o : Placed} → Mem o (placed P) → (i : ℕ) → Has o.entries i
    → T (marked P held (o.first + place_of i o.entries)) → T (has_item i held)
unfolding marked has_item has
marked_held P [] mo i h t = absurd t
marked_held P (e ∷ held) {o} mo i h t =
    step (or_cases (not (has_item e.item held) && among (marks (touch P held e)) q) (marked P held q) t) (λ u. marked_held P held mo i h u)
  where
    q : ℕ
    q = o.first + place_of i o.entries

    step : T (not (has_item e.item held) && among (marks (touch P held e)) q) ⊎ T (marked P held q) → (T (marked P held q) → T (has_item i held)) → T (eqb e.item i || has_item i held)
    step (inr u) rec = or_right (eqb e.item i) (has_item i held) (rec u)
    step (inl u) rec =
        let m = marks_mem (touch P held e) (among_mem (marks (touch P held e)) q (and_right (not (has_item e.item held)) (among (marks (touch P held e)) q) u)) in
        let d = touch_done P held e m.1 in
        let F = linked_of P held e.item d.1 in
        or_left (eqb e.item i) (has_item i held)
        (eq→eqb (sym (same_item P mo F.placed_in i e.item h (own d.0, F.own_in, F.own_item) (d.3 ∙ ap (λ (k : ℕ). d.0.option.first + k) F.at_place))))

-- A node of an option that agrees with all that holds is marked where its item is held
pub held_marked : (P : Problem) → Good P → (held : List Entry) {o : Placed} → Mem o (placed P) → T (agree held o.entries) → (i : ℕ) → Has o.entries i
    → T (has_item i held) → T (marked P held (o.first + place_of i o.entries))
unfolding marked has_item has agree each
held_marked P G [] mo a i h t = absurd t
held_marked P G (e ∷ held) {o} mo a i h t = step (tested (has_item i held)) (λ u. held_marked P G held mo (and_right (each (λ d. entries_agree e d) o.entries) (agree held o.entries) a) i h u)
  where
    q : ℕ
    q = o.first + place_of i o.entries

    new : T (not (has_item i held)) → e.item ≡ i → T (not (has_item e.item held) && among (marks (touch P held e)) q)
    new f u =
        let mc : Mem (choice_of i o) (linked P held i) = linked_in P held i mo (and_right (each (λ d. entries_agree e d) o.entries) (agree held o.entries) a) h in
        let F = linked_of P held i mc in
        let w : T (entries_agree e (own (choice_of i o))) = each_at (λ (d : Entry). entries_agree e d) (and_left (each (λ d. entries_agree e d) o.entries) (agree held o.entries) a) F.own_in in
        let one : T (one_colour e (own (choice_of i o))) = alike_colour e (own (choice_of i o)) w (u ∙ sym F.own_item) in
        and_both (not (has_item e.item held)) (among (marks (touch P held e)) q) (rw u f)
        (mem_among (marks (touch P held e)) q (marks_in (done_touch P held e (mark q (own (choice_of i o)).colour) (choice_of i o, rw u mc, one, refl, refl))))

    here_now : T (eqb e.item i || has_item i held) → T (not (has_item i held)) → e.item ≡ i
    here_now t f = go (or_cases (eqb e.item i) (has_item i held) t)
      where
        go : T (eqb e.item i) ⊎ T (has_item i held) → e.item ≡ i
        go (inl u) = eqb→eq e.item i u
        go (inr u) = absurd (T_not (has_item i held) f u)

    step : T (has_item i held) ⊎ T (not (has_item i held)) → (T (has_item i held) → T (marked P held q))
        → T ((not (has_item e.item held) && among (marks (touch P held e)) q) || marked P held q)
    step (inl u) rec = or_right (not (has_item e.item held) && among (marks (touch P held e)) q) (marked P held q) (rec u)
    step (inr f) rec = or_left (not (has_item e.item held) && among (marks (touch P held e)) q) (marked P held q) (new f (here_now t f))

-- ---- covered items

pub removed_mem : (held : List Entry) {x : ℕ} → Mem x (removed held) → (e : Entry) × Mem e held × (e.colour ≡ 0) × (x ≡ suc e.item)
unfolding removed
removed_mem held m =
    let r = map-mem (λ (e : Entry). suc e.item) (keep (λ e. eqb e.colour 0) held) m in
    let k = keep_mem (λ (e : Entry). eqb e.colour 0) held r.1 in
    (r.0, k.0, eqb→eq r.0.colour 0 k.1, sym r.2)

pub removed_in : {held : List Entry} {e : Entry} → Mem e held → e.colour ≡ 0 → Mem (suc e.item) (removed held)
unfolding removed
removed_in m z = map-in (λ (e : Entry). suc e.item) (keep_in (λ (e : Entry). eqb e.colour 0) m (eq→eqb z))

removed_held : (held : List Entry) (i : ℕ) → Mem (suc i) (removed held) → T (has_item i held)
removed_held held i m = let r = removed_mem held m in has-item← i held (r.0, r.1, omega (arith, r.3))

-- lists struck by what has the same members
strike_same : (qs rs l : List ℕ) → ((x : ℕ) → Mem x qs → Mem x rs) → ((x : ℕ) → Mem x rs → Mem x qs) → strike qs l ≡ strike rs l
strike_same qs rs l f g =
    keep_same (λ x. not (among qs x)) (λ x. not (among rs x)) l
    (λ x m. ap not (one_true (among qs x) (among rs x) (λ t. mem_among rs x (f x (among_mem qs x t))) (λ t. mem_among qs x (g x (among_mem rs x t)))))

strike_both : (qs rs l : List ℕ) → strike rs (strike qs l) ≡ strike (rs ++ qs) l
strike_both qs rs l =
    keep_keep (λ x. not (among rs x)) (λ x. not (among qs x)) l
    ∙ keep_same (λ x. not (among qs x) && not (among rs x)) (λ x. not (among (rs ++ qs) x)) l
    (λ x m. go (among rs x) (among qs x) ∙ sym (ap not (has_append (λ (y : ℕ). eqb y x) rs qs)))
  where
    go : (a b : Bool) → (not b && not a) ≡ not (a || b)
    go true true = refl
    go true false = refl
    go false true = refl
    go false false = refl

-- ---- one entry more

module _ (P : Problem) (G : Good P) (held : List Entry) (e : Entry) (small : e.item < items P) (fresh : T (not (has_item e.item held))) where
  fits_mark : (q k : ℕ) → Done P held e (mark q k) → Fits P (view P held) (mark q k)
  fits_mark q k (c, mc, one, u, w) =
      let F = linked_of P held e.item mc in
      let o : Placed = c.option in
      let x = nodes_in o.first (simple G o F.placed_in) F.own_in in
      let at_q : q ≡ o.first + place_of e.item o.entries = u ∙ ap (λ (k : ℕ). o.first + k) F.at_place in (
        o,
        F.placed_in,
        x.0,
        x.1,
        x.2 ∙ ap (λ (j : ℕ). o.first + place_of j o.entries) F.own_item ∙ sym at_q,
        ap (λ (y : Entry). y.colour) x.3 ∙ sym w,
        not_T (marked P held q) (λ t. T_not (has_item e.item held) fresh (marked_held P held F.placed_in e.item (own c, F.own_in, F.own_item) (rw at_q at t))),
      )

  fits_unlink : (q : ℕ) → Struck P held e q → Fits P (view P held) (unlink q)
  fits_unlink q S =
      let i : ℕ = S.entry.item in (
        i,
        ranged G S.option S.option_in S.entry S.entry_in,
        rw (since_unheld i held S.unheld, S.at_is) (map-in node (linked_in P held i S.option_in S.agrees (S.entry, S.entry_in, refl))),
      )

  fits_remove : (i : ℕ) → i ≡ e.item → Fits P (view P held) (remove i)
  fits_remove i u = go (dec_lt i P.np)
    where
      free : T (not (among (removed held) (suc i)))
      free = not_T (among (removed held) (suc i)) (λ t. T_not (has_item e.item held) fresh (rw u at (removed_held held i (among_mem (removed held) (suc i) t))))

      go : Dec (i < P.np) → (k : ℕ) × (k < 2) × Mem (suc i) (strike (removed held) (ring_items P k))
      go (yes h) = (0, omega arith, keep_in (λ x. not (among (removed held) x)) (run_in 1 P.np (suc i) (omega arith) (omega arith)) free)
      go (no h) = (1, omega arith, keep_in (λ x. not (among (removed held) x)) (run_in (suc P.np) P.ns (suc i) (omega arith) (omega arith)) free)

  touch_fits : (v : Event) → Mem v (touch P held e) → Fits P (view P held) v
  touch_fits (mark q k) m = fits_mark q k (touch_done P held e m)
  touch_fits (unlink q) m = fits_unlink q (unlinked_struck P G held e m)
  touch_fits (remove i) m = fits_remove i (touch_done P held e m).1

  -- each event is allowed when its turn comes
  pub touch_fit : Fit P (view P held) (touch P held e)
  touch_fit = fit_apart P (view P held) (touch_apart P held e) touch_fits

  after_lists : (i : ℕ) → T (has_item i held) ⊎ T (not (has_item i held)) → Dec (e.item ≡ i)
      → map node (linked P (since i (e ∷ held)) i) ≡ strike (unlinks (touch P held e)) (map node (linked P (since i held) i))
  after_lists i (inl t) d =
      rw (since_held i e held t) (sym (unstruck P G held e (touch P held e) (λ v m. m) i (map node (linked P (since i held) i)) (λ q m. linked_stands P (since i held) i m) (inl t)))
  after_lists i (inr f) (yes u) =
      rw (since_now i e held f u, since_unheld i held f) (sym (unstruck P G held e (touch P held e) (λ v m. m) i (map node (linked P held i)) (λ q m. linked_stands P held i m) (inr (sym u))))
  after_lists i (inr f) (no u) = rw (since_later i e held f u, since_unheld i held f) (sym (struck P G held e i (λ z. u (sym z)) f))

  after_ring : (l : List ℕ) → strike (removed (e ∷ held)) l ≡ strike (removes (touch P held e)) (strike (removed held) l)
  after_ring l =
      strike_same (removed (e ∷ held)) (removes (touch P held e) ++ removed held) l onto from ∙ sym (strike_both (removed held) (removes (touch P held e)) l)
    where
      onto : (x : ℕ) → Mem x (removed (e ∷ held)) → Mem x (removes (touch P held e) ++ removed held)
      onto x m = let r = removed_mem (e ∷ held) m in go r.0 r.1 r.2 r.3
        where
          go : (d : Entry) → Mem d (e ∷ held) → d.colour ≡ 0 → x ≡ suc d.item → Mem x (removes (touch P held e) ++ removed held)
          go d (here u) z w =
              rw (w, u) (in_left (removed held) (removes_in (done_touch P held e (remove e.item) (ap (λ (y : Entry). y.colour) (sym u) ∙ z, refl))))
          go d (there u) z w = rw w (in_right (removes (touch P held e)) (removed_in u z))

      from : (x : ℕ) → Mem x (removes (touch P held e) ++ removed held) → Mem x (removed (e ∷ held))
      from x m = go (append_cases (removes (touch P held e)) m)
        where
          go : Mem x (removes (touch P held e)) ⊎ Mem x (removed held) → Mem x (removed (e ∷ held))
          go (inl u) =
              let r = removes_mem (touch P held e) u in
              let d = touch_done P held e r.1 in
              rw (r.2, d.1) (removed_in {held = e ∷ held} {e = e} (here refl) d.0)
          go (inr u) = let r = removed_mem held u in rw r.3 (removed_in {held = e ∷ held} (there r.1) r.2)

  after_marks : (q : ℕ) → marked P (e ∷ held) q ≡ (among (marks (touch P held e)) q || marked P held q)
  unfolding marked
  after_marks q = go (has_item e.item held) fresh
    where
      go : (b : Bool) → T (not b) → ((not b && among (marks (touch P held e)) q) || marked P held q) ≡ (among (marks (touch P held e)) q || marked P held q)
      go true t = absurd t
      go false t = refl

  touch_same : Same P (foldl after (view P held) (touch P held e)) (view P (e ∷ held))
  touch_same = record {
    lists = λ i hi. after_lists i (tested (has_item i held)) (ℕ_discrete e.item i) ∙ sym (fold_list (view P held) (touch P held e) i);
    rings = λ k hk. after_ring (ring_items P k) ∙ sym (fold_ring (view P held) (touch P held e) k);
    marks = λ q. after_marks q ∙ sym (fold_marked (view P held) (touch P held e) q);
  }

-- ---- from what holds to what holds, on any table that shows it; and back, word for word

abbrev pub Leads : Problem → List Entry → List Event → List Entry → Type 0
Leads P h vs h' = (t : List ℤ) → Shows P h t → Shows P h' (foldl (apply (items P)) t vs) × (undo_all (items P) (foldl (apply (items P)) t vs) vs ≡ t)

pub touch_leads : (P : Problem) → Good P → (held : List Entry) (e : Entry) → e.item < items P → T (not (has_item e.item held)) → Leads P held (touch P held e) (e ∷ held)
touch_leads P G held e small fresh t S =
    let f = touch_fit P G held e small fresh in (
      same_table P (foldl after (view P held) (touch P held e)) (view P (e ∷ held)) (foldl (apply (items P)) t (touch P held e))
          (touch_same P G held e small fresh) (run_table P G (view P held) t (touch P held e) S f),
      run_undone P G (view P held) t (touch P held e) S f,
    )

-- ---- what holds counts by its members

abbrev pub Within : List Entry → List Entry → Type 0
Within h h' = (e : Entry) → Mem e h → Mem e h'

pub agree_within : (h h' : List Entry) → Within h h' → (o : List Entry) → T (agree h' o) → T (agree h o)
unfolding agree
agree_within h h' w o t = each_all (λ x. each (λ d. entries_agree x d) o) h (λ e m. each_at (λ (x : Entry). each (λ d. entries_agree x d) o) t (w e m))

pub linked_same : (P : Problem) (h h' : List Entry) → Within h h' → Within h' h → (i : ℕ) → linked P h i ≡ linked P h' i
unfolding linked
linked_same P h h' w w' i =
    ap (choices i) (keep_same (λ (o : Placed). agree h o.entries) (λ o. agree h' o.entries) (placed P)
    (λ o m. one_true (agree h o.entries) (agree h' o.entries) (agree_within h' h w' o.entries) (agree_within h h' w o.entries)))

-- nothing more holds where an entry is added that holds already
module _ (P : Problem) (held : List Entry) (e : Entry) (m : Mem e held) where
  wide : Within (e ∷ held) held
  wide d (here u) = rw u m
  wide d (there n) = n

  again_lists : (i : ℕ) → T (has_item i held) ⊎ T (not (has_item i held)) → map node (linked P (since i (e ∷ held)) i) ≡ map node (linked P (since i held) i)
  again_lists i (inl t) = rw (since_held i e held t)
  again_lists i (inr f) =
      rw (since_later i e held f (λ u. T_not (has_item i held) f (has-item← i held (e, m, u))), since_unheld i held f)
      (ap (map node) (linked_same P (e ∷ held) held wide (λ d n. there n) i))

  again_ring : (l : List ℕ) → strike (removed (e ∷ held)) l ≡ strike (removed held) l
  again_ring l =
      strike_same (removed (e ∷ held)) (removed held) l (λ x n. go x (removed_mem (e ∷ held) n))
      (λ x n. let r = removed_mem held n in rw r.3 (removed_in {held = e ∷ held} (there r.1) r.2))
    where
      go : (x : ℕ) → (d : Entry) × Mem d (e ∷ held) × (d.colour ≡ 0) × (x ≡ suc d.item) → Mem x (removed held)
      go x (d, n, z, u) = rw u (removed_in (wide d n) z)

  again_marks : (q : ℕ) → marked P (e ∷ held) q ≡ marked P held q
  unfolding marked
  again_marks q = go (has_item e.item held) (has-item← e.item held (e, m, refl))
    where
      go : (b : Bool) → T b → ((not b && among (marks (touch P held e)) q) || marked P held q) ≡ marked P held q
      go true t = refl
      go false t = absurd t

  pub again_leads : Leads P held [] (e ∷ held)
  unfolding undo_all
  again_leads t S = (
    same_table P (view P held) (view P (e ∷ held)) t (record {
      lists = λ i hi. again_lists i (tested (has_item i held));
      rings = λ k hk. again_ring (ring_items P k);
      marks = again_marks;
    }) S,
    refl,
  )

-- ---- one after the other

pub then_leads : (P : Problem) (h h' h'' : List Entry) (xs ys : List Event) → Leads P h xs h' → Leads P h' ys h'' → Leads P h (xs ++ ys) h''
then_leads P h h' h'' xs ys a b t S =
    let n : ℕ = items P in
    let s = a t S in
    let r = b (foldl (apply n) t xs) s.0 in
    rw (foldl_append (apply n) t xs ys, undo_append n (foldl (apply n) (foldl (apply n) t xs) ys) xs ys) (r.0, ap (λ (z : List ℤ). undo_all n z xs) r.1 ∙ s.1)

-- ---- committing an option

pub one_entry : (d x : Entry) → d.colour ≡ x.colour → d.item ≡ x.item → d ≡ x
one_entry d x p q = ap make_1 p ∙ ap make_2 q
  where
    make_1 : ℕ → Entry
    make_1 c = record { item = d.item; colour = c }

    make_2 : ℕ → Entry
    make_2 i = record { item = i; colour = x.colour }

module _ (P : Problem) (G : Good P) where
  commit_node_leads : (held : List Entry) (e : Entry) → e.item < items P → (T (has_item e.item held) → Mem e held)
      → (b : Bool) → has_item e.item held ≡ b → Leads P held (commit_node P b held e) (e ∷ held)
  commit_node_leads held e small again true u = again_leads P held e (again (rw u tt))
  commit_node_leads held e small again false u = touch_leads P G held e small (rw u tt)

  -- the nodes' items are different, and where one is held already it is with this very entry
  pub commit_leads : (held : List Entry) {ns : List Node} → Apart (λ (a b : Node). a.entry.item ≢ b.entry.item) ns → ((n : Node) → Mem n ns → n.entry.item < items P)
      → ((n : Node) → Mem n ns → T (has_item n.entry.item held) → Mem n.entry held) → Leads P held (commit P held ns) (committed held ns)
  unfolding commit committed undo_all
  commit_leads held apart_nil small again = λ t S. (S, refl)
  commit_leads held (apart_cons {x = n} {xs = ns} r a) small again =
      then_leads P held (n.entry ∷ held) (committed (n.entry ∷ held) ns) (commit_node P (has_item n.entry.item held) held n.entry) (commit P (n.entry ∷ held) ns)
      (commit_node_leads held n.entry (small n (here refl)) (again n (here refl)) (has_item n.entry.item held) refl)
      (commit_leads (n.entry ∷ held) a (λ y m. small y (there m)) (λ y m t. later y m (has-item→ y.entry.item (n.entry ∷ held) t)))
    where
      later : (y : Node) → Mem y ns → Has (n.entry ∷ held) y.entry.item → Mem y.entry (n.entry ∷ held)
      later y m (d, here u, w) = absurd (r y m (ap (λ (z : Entry). z.item) (sym u) ∙ w))
      later y m (d, there k, w) = there (again y (there m) (has-item← y.entry.item held (d, k, w)))

  -- the other nodes of an option that is linked
  module _ (held : List Entry) (i : ℕ) (c : Choice) (mc : Mem c (linked P held i)) where
    F : Of P held i c
    F = linked_of P held i mc

    abbrev es : List Entry
    es = c.option.entries

    -- they stand at their items' places
    pub others_at : {n : Node} → Mem n (others c) → (n.at ≡ c.option.first + place_of n.entry.item c.option.entries) × Mem n.entry c.option.entries
    others_at m = nodes_at c.option.first (simple G c.option F.placed_in) (others_mem c m)

    pub others_items : Apart (λ (a b : Node). a.entry.item ≢ b.entry.item) (others c)
    others_items = apart_with (others_apart c) (λ a b ma mb ne z. ne ((others_at ma).0 ∙ ap (λ (k : ℕ). c.option.first + place_of k es) z ∙ sym (others_at mb).0))

    -- where the item of one is held, it is with this very entry
    pub others_held : {n : Node} → Mem n (others c) → T (has_item n.entry.item (own c ∷ held)) → Mem n.entry (own c ∷ held)
    others_held {n} m t = go (has-item→ n.entry.item (own c ∷ held) t)
      where
        go : Has (own c ∷ held) n.entry.item → Mem n.entry (own c ∷ held)
        go (d, here u, w) =
            absurd (others_other c m ((others_at m).0 ∙ ap (λ (k : ℕ). c.option.first + place_of k es) (sym w ∙ ap (λ (z : Entry). z.item) u ∙ F.own_item) ∙ ap (λ (k : ℕ). c.option.first + k) (sym F.at_place)))
        go (d, there k, w) = there (rw (one_entry d n.entry (agree→ held es F.agrees k (others_at m).1 w).0 w) at k)

    pub try_leads : Leads P (own c ∷ held) (try P held c) (committed (own c ∷ held) (others c))
    unfolding try
    try_leads =
        commit_leads (own c ∷ held) others_items (λ n m. ranged G c.option F.placed_in n.entry (others_at m).1) (λ n m t. others_held m t)

  module _ (held : List Entry) (i : ℕ) (small : i < items P) (fresh : T (not (has_item i held))) (c : Choice) (mc : Mem c (linked P held i)) where
    pub choose_leads : Leads P held (choose P held c) (committed (own c ∷ held) (others c))
    unfolding choose
    choose_leads =
        then_leads P held (own c ∷ held) (committed (own c ∷ held) (others c)) (touch P held (own c)) (try P held c)
        (touch_leads P G held (own c) (rw (F held i c mc).own_item small) (rw (F held i c mc).own_item fresh)) (try_leads held i c mc)

-- ---- points

-- choices made one after the other, the deepest first, each of an item that was not held, in an option that was linked
pub data Played (P : Problem) : List Choice → Type 0 where
  none_yet : Played P []
  one_more : {c : Choice} {cs : List Choice} (i : ℕ) → i < items P → T (not (has_item i (held cs))) → Mem c (linked P (held cs) i) → Played P cs → Played P (c ∷ cs)

pub events_leads : (P : Problem) → Good P → {cs : List Choice} → Played P cs → Leads P [] (events P cs) (held cs)
unfolding events held undo_all
events_leads P G none_yet = λ t S. (S, refl)
events_leads P G (one_more {c = c} {cs = cs} i hi fr mc p) =
    then_leads P [] (held cs) (committed (own c ∷ held cs) (others c)) (events P cs) (choose P (held cs) c) (events_leads P G p) (choose_leads P G (held cs) i hi fr c mc)

pub point_shows : (P : Problem) → Good P → Shows P [] (fresh P) → {cs : List Choice} → Played P cs → Shows P (held cs) (table P cs)
unfolding table
point_shows P G S p = (events_leads P G p (fresh P) S).0

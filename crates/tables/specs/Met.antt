-- What the code meets on its way: an option is whole when a walk comes to it, and a chosen option's colours say what is to be committed.
use Rattle.std.specs.Prelude.{◌≡◌, ◌⊎◌, ◌≢◌, Bool, not, ◌&&◌, ◌||◌, ℕ, zero, suc, ◌+◌, ◌-◌, ◌<◌, eqb, ℤ, pos, length, get_or, take, drop}
use Rattle.std.proofs.Math.Path.{refl, ap}
use Rattle.std.proofs.Common.{sym, ◌∙◌, subst, inl, inr, arith, T_not, eq-eqb}
use Rattle.std.proofs.Math.Bool.{true, false}
use mathlib.Core.List.Memᴰ.{head as here}
use mathlib.Core.List.Memᴰ.{tail as there}
use mathlib.Core.List.{List, [], ◌∷◌, ◌++◌, map, foldl, Memᴰ as Mem}
use mathlib.Core.List.Memᴰ.{append_left as in_left}
use mathlib.Core.List.Memᴰ.{append_right as in_right}
use mathlib.Core.List.Memᴰ.{map as map-in}
use mathlib.Core.List.Memᴰ.{not-nil}
use mathlib.Core.List.Memᴰ.{of_map as map-mem}
use mathlib.Core.List.{append_assoc, map-append}
use Rattle.std.proofs.Math.Dec.{T, not_T}
use Rattle.rules.specs.Lists.{keep, flat}
use Rattle.rules.specs.Problem.{Entry, Problem, items}
use Rattle.rules.specs.Knuth.{Has}
use Rattle.rules.specs.Order.{one_colour, has_item, agree, Placed, placed, Choice, node, place_of}
use Rattle.rules.specs.Links.{Event, unlink, remove, mark, cost, Node, nodes_from, others, own, linked, hide, met, ring_part, touch, committed, first_or, last_or, link, up, down, colour_at, apply}
use Rattle.laws.specs.Lists.{Apart, apart_cons, apart_map, apart_keep, and_right, keep_mem, keep_in, flat_mem, flat_append, one_true, among, among_mem}
use Rattle.laws.specs.Faults.{Good, plain, ranged, simple}
use Rattle.laws.specs.Order.{has-item→, has-item←, eq→eqb, agree→}
use Rattle.tables.specs.Nodes.{Of, linked_of, linked_in, placed_one, nodes_in, nodes_at, nodes_range, others_mem, others_apart, others_other}
use Rattle.tables.specs.Points.{committed_mem, committed_old}
use Rattle.tables.specs.Ring.{Linked}
use Rattle.tables.specs.Shows.{Shows, view, since, since_unheld, marked, marked_held, held_marked, fold_list, fold_marked, fit_apart, touch_fit}
use Rattle.tables.specs.Touch.{unlinks, marks, unlinks_mem, marks_mem, touch_done, At, met_at, linked_apart, linked_stands, unstruck}
use Rattle.tables.specs.Views.{View, after, Table, Fits, Fit, fit_split, run_table, shade}

-- ---- a place in a list: after xs and before zs

pub cursor : (nx pv : ℕ → ℕ) (a : ℕ) (xs zs : List ℕ) (h : ℕ) → Linked nx pv a (xs ++ zs) h → (nx (last_or a xs) ≡ first_or h zs) × (pv (first_or h zs) ≡ last_or a xs)
unfolding last_or
cursor nx pv a [] [] h l = (l.0, l.1)
cursor nx pv a [] (z ∷ zs) h l = (l.0, l.1)
cursor nx pv a (x ∷ xs) zs h l = cursor nx pv x xs zs h l.2

apart_split : {A : Type 0} {R : A → A → Type 0} (xs : List A) (c : A) (ys : List A) → Apart R (xs ++ c ∷ ys) → {d : A} → Mem d xs → R d c
apart_split [] c ys a m = absurd (not-nil m)
apart_split (x ∷ xs) c ys (apart_cons r a) {d} (here u) = rw u (r c (in_right xs (here refl)))
apart_split (x ∷ xs) c ys (apart_cons r a) (there m) = apart_split xs c ys a m

-- ---- an option is whole

-- The other nodes of the choice's option: one whose item is held is marked, and any other is unmarked and in its list.
pub record Whole (P : Problem) (W : View) (held : List Entry) (c : Choice) : Type 0 where
  pub stays : (x : Node) → Mem x (others c) → T (has_item x.entry.item held) → T (W.marked x.at)
  pub plain : (x : Node) → Mem x (others c) → T (not (has_item x.entry.item held)) → T (not (W.marked x.at))
  pub listed : (x : Node) → Mem x (others c) → T (not (has_item x.entry.item held)) → (x.entry.item < items P) × Mem x.at (W.list x.entry.item)

-- its nodes can be unlinked one after the other
pub whole_fit : (P : Problem) (W : View) (held : List Entry) (c : Choice) → Whole P W held c → Fit P W (hide P held c)
unfolding hide
whole_fit P W held c H =
    fit_apart P W (apart_map (λ (x : Node). unlink x.at) (λ x y h. h) (apart_keep F (others_apart c))) (λ v m.
    let r = map-mem (λ (x : Node). unlink x.at) (keep F (others c)) m in
    let k = keep_mem F (others c) r.1 in
    let l = H.listed r.0 k.0 k.1 in
    subst (Fits P W) r.2 (r.0.entry.item, l.0, l.1))
  where
    F : Node → Bool
    F x = not (has_item x.entry.item held)

or_none : (a b : Bool) → T (not a) → (a || b) ≡ b
or_none true b t = absurd t
or_none false b t = refl

not_so : (b : Bool) → T (not b) → b ≡ false
not_so true t = absurd t
not_so false t = refl

-- a node of an option that agrees with what holds is marked just where its item is held
pub marked_is : (P : Problem) → Good P → (held : List Entry) {o : Placed} → Mem o (placed P) → T (agree held o.entries) → {x : Node} → Mem x (nodes_from o.first o.entries)
    → marked P held x.at ≡ has_item x.entry.item held
marked_is P G held {o} mo a {x} mx =
    let r = nodes_at o.first (simple G o mo) mx in
    one_true (marked P held x.at) (has_item x.entry.item held)
    (λ t. marked_held P held mo x.entry.item (x.entry, r.1, refl) (rw r.0 at t))
    (λ t. rw r.0 (held_marked P G held mo a x.entry.item (x.entry, r.1, refl) t))

-- hiding marks nothing
hide_marked : (P : Problem) (W : View) (held : List Entry) (c : Choice) (q : ℕ) → (foldl after W (hide P held c)).marked q ≡ W.marked q
unfolding hide
hide_marked P W held c q = go (keep (λ x. not (has_item x.entry.item held)) (others c)) W
  where
    go : (ns : List Node) (W : View) → (foldl after W (map (λ x. unlink x.at) ns)).marked q ≡ W.marked q
    go [] W = refl
    go (n ∷ ns) W = go ns (after W (unlink n.at))

-- ---- a walk down the list of the entry's item

-- what has been done when the walk is past the choices xs, and what the table shows then
abbrev pub met_all : Problem → List Entry → Entry → List Choice → List Event
met_all P held e xs = flat (λ d. met P (one_colour e (own d)) held d) xs

abbrev pub walked : Problem → List Entry → Entry → List Choice → View
walked P held e xs = foldl after (view P held) (met_all P held e xs)

module _ (P : Problem) (G : Good P) (held : List Entry) (e : Entry) (small : e.item < items P) (fresh : T (not (has_item e.item held)))
    (xs zs : List Choice) (split : linked P held e.item ≡ xs ++ zs) where
  -- what is left to do
  abbrev pub rest : List Event
  rest = met_all P held e zs ++ ring_part e.colour e.item

  pub touch_split : touch P held e ≡ met_all P held e xs ++ rest
  unfolding touch
  touch_split =
      ap (λ (l : List Choice). met_all P held e l ++ ring_part e.colour e.item) split
      ∙ ap (λ (l : List Event). l ++ ring_part e.colour e.item) (flat_append (λ d. met P (one_colour e (own d)) held d) xs zs)
      ∙ append_assoc (met_all P held e xs) (met_all P held e zs) (ring_part e.colour e.item)

  -- the item's own list is as it was
  pub own_list : (walked P held e xs).list e.item ≡ map node (linked P held e.item)
  own_list =
      fold_list (view P held) (met_all P held e xs) e.item
      ∙ unstruck P G held e (met_all P held e xs) (λ v m. rw touch_split (in_left rest m)) e.item (map node (linked P (since e.item held) e.item))
      (λ q m. linked_stands P (since e.item held) e.item m) (inr refl)
      ∙ ap (λ (h : List Entry). map node (linked P h e.item)) (since_unheld e.item held fresh)

  module _ (t₀ : List ℤ) (S : Shows P held t₀) where
    abbrev t : List ℤ
    t = foldl (apply (items P)) t₀ (met_all P held e xs)

    pub met_table : Table P (walked P held e xs) t
    met_table = run_table P G (view P held) t₀ (met_all P held e xs) S (fit_split P (view P held) (met_all P held e xs) rest (rw touch_split at (touch_fit P G held e small fresh))).0

    -- where the walk is, and where it goes
    pub met_cursor : (link t (down (items P) (last_or (suc e.item) (map node xs))) ≡ first_or (suc e.item) (map node zs))
        × (link t (up (items P) (first_or (suc e.item) (map node zs))) ≡ last_or (suc e.item) (map node xs))
    met_cursor =
        cursor (λ q. link t (down (items P) q)) (λ q. link t (up (items P) q)) (suc e.item) (map node xs) (map node zs) (suc e.item)
        (subst (λ (l : List ℕ). Linked (λ q. link t (down (items P) q)) (λ q. link t (up (items P) q)) (suc e.item) l (suc e.item))
        (own_list ∙ ap (map node) split ∙ map-append node xs zs) (met_table.lists.linked e.item small))

-- ---- the choice c that the walk comes to

module _ (P : Problem) (G : Good P) (held : List Entry) (e : Entry) (small : e.item < items P) (fresh : T (not (has_item e.item held)))
    (xs : List Choice) (c : Choice) (ys : List Choice) (split : linked P held e.item ≡ xs ++ c ∷ ys) where
  F : Of P held e.item c
  F = linked_of P held e.item (rw split (in_right xs (here refl)))

  abbrev done : List Event
  done = met_all P held e xs

  -- nothing yet was done in c's option
  untouched : (v : Event) → Mem v done → At c.option v → ⊥
  untouched v m a =
      let r = flat_mem (λ d. met P (one_colour e (own d)) held d) xs m in
      let H = linked_of P held e.item {c = r.0} (rw split (in_left (c ∷ ys) r.1)) in
      let b = met_at P held (one_colour e (own r.0)) r.0 H.inside r.2 in
      let ne = apart_split xs c ys (rw split at (linked_apart P held e.item)) r.1 in
      go v r.0 H.placed_in ne b a
    where
      go : (v : Event) (d : Choice) → Mem d.option (placed P) → d.option.number ≢ c.option.number → At d.option v → At c.option v → ⊥
      go (unlink q) d md ne (k, h, u) (k', h', u') = ne (ap (λ (o : Placed). o.number) (placed_one P md F.placed_in k k' h h' (sym u ∙ u')))
      go (mark q z) d md ne (k, h, u) (k', h', u') = ne (ap (λ (o : Placed). o.number) (placed_one P md F.placed_in k k' h h' (sym u ∙ u')))
      go (remove i) d md ne b a = a

  module _ {x : Node} (mx : Mem x (nodes_from c.option.first c.option.entries)) where
    at_x : (k : ℕ) × (k < length c.option.entries) × (x.at ≡ c.option.first + k)
    at_x = let r = nodes_range c.option.first c.option.entries mx in (x.at - c.option.first, omega arith, omega arith)

    not_unlinked : T (not (among (unlinks done) x.at))
    not_unlinked = not_T (among (unlinks done) x.at) (λ t. untouched (unlink x.at) (unlinks_mem done (among_mem (unlinks done) x.at t)) at_x)

    not_marked : T (not (among (marks done) x.at))
    not_marked = not_T (among (marks done) x.at) (λ t.
        let r = marks_mem done (among_mem (marks done) x.at t) in untouched (mark x.at r.0) r.1 at_x)

    entry_x : (x.at ≡ c.option.first + place_of x.entry.item c.option.entries) × Mem x.entry c.option.entries
    entry_x = nodes_at c.option.first (simple G c.option F.placed_in) mx

    -- a node of c's option is marked just where its item is held
    pub marked_now : (walked P held e xs).marked x.at ≡ has_item x.entry.item held
    marked_now =
        fold_marked (view P held) done x.at ∙ or_none (among (marks done) x.at) (marked P held x.at) not_marked
        ∙ marked_is P G held F.placed_in F.agrees mx

    -- and in its list elsewhere
    pub listed_now : T (not (has_item x.entry.item held)) → (x.entry.item < items P) × Mem x.at ((walked P held e xs).list x.entry.item)
    listed_now f = (
      ranged G c.option F.placed_in x.entry entry_x.1,
      rw (fold_list (view P held) done x.entry.item, since_unheld x.entry.item held f)
          (keep_in (λ q. not (among (unlinks done) q)) (rw entry_x.0 (map-in node (linked_in P held x.entry.item F.placed_in F.agrees (x.entry, entry_x.1, refl)))) not_unlinked),
    )

  pub met_whole : Whole P (walked P held e xs) held c
  met_whole = record {
    stays = λ x m t. rw (marked_now (others_mem c m)) t;
    plain = λ x m f. rw (marked_now (others_mem c m)) f;
    listed = λ x m f. listed_now (others_mem c m) f;
  }

  -- c's own node
  own_node : (x : Node) × Mem x (nodes_from c.option.first c.option.entries) × (x.at ≡ node c) × (x.entry ≡ own c)
  own_node =
      let x = nodes_in c.option.first (simple G c.option F.placed_in) F.own_in in
      (x.0, x.1, x.2 ∙ ap (λ (j : ℕ). c.option.first + place_of j c.option.entries) F.own_item ∙ ap (λ (j : ℕ). c.option.first + j) (sym F.at_place), x.3)

  -- it is not marked
  pub own_unmarked : T (not ((walked P held e xs).marked (node c)))
  own_unmarked =
      let x = own_node in
      let u : (walked P held e xs).marked x.0.at ≡ has_item x.0.entry.item held = marked_now x.1 in
      let v : x.0.entry.item ≡ e.item = ap (λ (y : Entry). y.item) x.3 ∙ F.own_item in
      subst (λ (q : ℕ). T (not ((walked P held e xs).marked q))) x.2 (rw (u, v) fresh)

  -- its colour can be read
  pub met_colour : (t₀ : List ℤ) → Shows P held t₀ → get_or (foldl (apply (items P)) t₀ done) (colour_at (items P) (node c)) (pos 0) ≡ pos (own c).colour
  met_colour t₀ S =
      let x = own_node in
      let N = ((met_table P G held e small fresh xs (c ∷ ys) split t₀ S).named c.option F.placed_in x.0 x.1).colour_is in
      ap (λ (q : ℕ). get_or (foldl (apply (items P)) t₀ done) (colour_at (items P) q) (pos 0)) (sym x.2) ∙ N
      ∙ unmarked ((walked P held e xs).marked x.0.at) x.0.entry.colour (subst (λ (q : ℕ). T (not ((walked P held e xs).marked q))) (sym x.2) own_unmarked) ∙ ap (λ (y : Entry). pos y.colour) x.3
    where
      unmarked : (b : Bool) (k : ℕ) → T (not b) → shade b k ≡ pos k
      unmarked true k f = absurd f
      unmarked false k f = refl

  -- and on the way back its mark says what was done there
  pub own_marked : (foldl after (walked P held e xs) (met P (one_colour e (own c)) held c)).marked (node c) ≡ one_colour e (own c)
  own_marked = go (one_colour e (own c))
    where
      go : (b : Bool) → (foldl after (walked P held e xs) (met P b held c)).marked (node c) ≡ b
      go true = rw (eq-eqb (node c) (node c) refl)
      go false = hide_marked P (walked P held e xs) held c (node c) ∙ not_so ((walked P held e xs).marked (node c)) own_unmarked

-- ---- a chosen option, while it is committed

-- the nodes beside the choice, as they stand in a row
pub drop_nodes : (k p : ℕ) (es : List Entry) → drop k (nodes_from p es) ≡ nodes_from (p + k) (drop k es)
unfolding nodes_from
drop_nodes zero p es = ap (λ (q : ℕ). nodes_from q es) (omega arith)
drop_nodes (suc k) p [] = refl
drop_nodes (suc k) p (e ∷ es) = drop_nodes k (suc p) es ∙ ap (λ (q : ℕ). nodes_from q (drop k es)) (omega arith)

pub take_nodes : (k p : ℕ) (es : List Entry) → take k (nodes_from p es) ≡ nodes_from p (take k es)
unfolding nodes_from
take_nodes zero p es = refl
take_nodes (suc k) p [] = refl
take_nodes (suc k) p (e ∷ es) = ap (λ (l : List Node). record { at = p; entry = e } ∷ l) (take_nodes k (suc p) es)

bare_colour : (e d : Entry) → e.colour ≡ 0 → T (one_colour e d) → ⊥
bare_colour e d z t = T_not (eqb e.colour 0) (and_right (eqb e.colour d.colour) (not (eqb e.colour 0)) t) (eq→eqb z)

-- the search chooses for a primary item, which has no colour
pub bare_own : (P : Problem) → Good P → (held : List Entry) (i : ℕ) → i < P.np → {c : Choice} → Mem c (linked P held i) → (own c).colour ≡ 0
bare_own P G held i h {c} m = let F = linked_of P held i m in plain G c.option F.placed_in (own c) F.own_in (omega (arith, F.own_item))

module _ (P : Problem) (G : Good P) (held : List Entry) (i : ℕ) (c : Choice) (mc : Mem c (linked P held i)) (bare : (own c).colour ≡ 0) where
  H : Of P held i c
  H = linked_of P held i mc

  abbrev es : List Entry
  es = c.option.entries

  abbrev first : ℕ
  first = c.option.first

  -- no later marks in an option with an entry that holds and has no colour
  no_mark : (h : List Entry) (e : Entry) → Mem (own c) h ⊎ (e.colour ≡ 0) → {x : Node} → Mem x (nodes_from first es) → T (not (among (marks (touch P h e)) x.at))
  no_mark h e k {x} mx = not_T (among (marks (touch P h e)) x.at) (λ t.
      let m = marks_mem (touch P h e) (among_mem (marks (touch P h e)) x.at t) in
      let d = touch_done P h e m.1 in
      go k d.0 (linked_of P h e.item d.1) d.2 d.3)
    where
      go : Mem (own c) h ⊎ (e.colour ≡ 0) → (d : Choice) → Of P h e.item d → T (one_colour e (own d)) → x.at ≡ node d → ⊥
      go (inr z) d F one u = bare_colour e (own d) z one
      go (inl m) d F one u =
          let r = nodes_range first es mx in
          let same : c.option ≡ d.option = placed_one P H.placed_in F.placed_in (x.at - first) d.at (omega arith) F.inside (omega arith) in
          (agree→ h es (rw same F.agrees) m H.own_in refl).1 bare

  quiet : (h : List Entry) (e : Entry) → Mem (own c) h ⊎ (e.colour ≡ 0) → {x : Node} → Mem x (nodes_from first es) → marked P (e ∷ h) x.at ≡ marked P h x.at
  unfolding marked
  quiet h e k {x} mx = go (not (has_item e.item h)) (among (marks (touch P h e)) x.at) (no_mark h e k mx)
    where
      go : (a b : Bool) → T (not b) → ((a && b) || marked P h x.at) ≡ marked P h x.at
      go a true f = absurd f
      go true false f = refl
      go false false f = refl

  quiet_all : (h : List Entry) (ns : List Node) → Mem (own c) h → {x : Node} → Mem x (nodes_from first es) → marked P (committed h ns) x.at ≡ marked P h x.at
  unfolding committed
  quiet_all h [] m mx = refl
  quiet_all h (n ∷ ns) m mx = quiet_all (n.entry ∷ h) ns (there m) mx ∙ quiet h n.entry (inl m) mx

  -- its nodes are marked where their item was held before the option was chosen, however far it is committed
  pub chosen_marked : (ns : List Node) {x : Node} → Mem x (nodes_from first es) → marked P (committed (own c ∷ held) ns) x.at ≡ has_item x.entry.item held
  chosen_marked ns {x} mx =
      quiet_all (own c ∷ held) ns (here refl) mx ∙ quiet held (own c) (inr bare) mx
      ∙ marked_is P G held H.placed_in H.agrees mx

  -- and when its turn comes an item is held just if it was before
  pub chosen_held : (xs : List Node) (x : Node) (ys : List Node) → others c ≡ xs ++ x ∷ ys → has_item x.entry.item (committed (own c ∷ held) xs) ≡ has_item x.entry.item held
  chosen_held xs x ys split = one_true (has_item j (committed (own c ∷ held) xs)) (has_item j held) (λ t. onto (has-item→ j (committed (own c ∷ held) xs) t)) from
    where
      j : ℕ
      j = x.entry.item

      mx : Mem x (others c)
      mx = rw split (in_right xs (here refl))

      at : {y : Node} → Mem y (others c) → y.at ≡ first + place_of y.entry.item es
      at m = (nodes_at first (simple G c.option H.placed_in) (others_mem c m)).0

      from : T (has_item j held) → T (has_item j (committed (own c ∷ held) xs))
      from t = let h = has-item→ j held t in has-item← j (committed (own c ∷ held) xs) (h.0, committed_old (own c ∷ held) xs (there h.1), h.2)

      onto : Has (committed (own c ∷ held) xs) j → T (has_item j held)
      onto (e, m, u) = go (committed_mem (own c ∷ held) xs m)
        where
          go : Mem e (own c ∷ held) ⊎ ((y : Node) × Mem y xs × (y.entry ≡ e)) → T (has_item j held)
          go (inl (here v)) =
              absurd (others_other c mx (at mx ∙ ap (λ (k : ℕ). first + place_of k es) (sym u ∙ ap (λ (z : Entry). z.item) v ∙ H.own_item) ∙ ap (λ (k : ℕ). first + k) (sym H.at_place)))
          go (inl (there k)) = has-item← j held (e, k, u)
          go (inr (y, my, v)) =
              absurd (apart_split xs x ys (rw split at (others_apart c)) my
              (at {y = y} (rw split (in_left (x ∷ ys) my)) ∙ ap (λ (k : ℕ). first + place_of k es) (ap (λ (z : Entry). z.item) v ∙ u) ∙ sym (at mx)))

-- ---- prices

pub cost_append : (xs ys : List Event) → cost (xs ++ ys) ≡ cost xs + cost ys
unfolding cost
cost_append [] ys = omega arith
cost_append (v ∷ xs) ys = omega (arith, cost_append xs ys)

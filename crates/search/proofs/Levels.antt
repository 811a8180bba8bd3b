-- At a point of the search: what its table shows, and what a level tries.
use mathlib.Core.Path.{◌≡◌, refl, sym, ap, ◌∙◌, subst}
use mathlib.Core.Bool.{not}
use Rattle.std.specs.Prelude.{Some}
use mathlib.Core.List.Memᴰ.{append_right as in_right}
use mathlib.Core.List.Memᴰ.{head as here}
use mathlib.Core.List.{List, ◌∷◌, ◌++◌, map, map-map, map-append, Memᴰ as Mem}
use Prim.Native.Nat.{ℕ, suc, ◌+◌, ◌<◌}
use native.Mathlib.Omega.{arith}
use lib.Dec.{T}
use lib.IntN.{ℤ}
use Rattle.rules.specs.Lists.{run}
use Rattle.rules.specs.Words.{nat}
use Rattle.rules.specs.Problem.{Entry, Problem, items}
use Rattle.rules.specs.Order.{has_item, Placed, Choice, node, pick, choices, open_options, open_items}
use Rattle.rules.specs.Links.{cost, own, linked, held, touch, try, choose, table, run_events, link, top, up, down}
use Rattle.rules.specs.Walk.{Level, made, chosen}
use Rattle.laws.specs.Lists.{keep_length, length_run, among}
use Rattle.laws.specs.Faults.{Good}
use Rattle.laws.specs.Order.{open_item, open_item_facts, pick_some, pick_sound}
use Rattle.laws.specs.Reached.{Reached, level}
use Rattle.tables.specs.Again.{touched, touched_shows, table_try, covered_list}
use Rattle.tables.specs.Fresh.{fresh_shows}
use Rattle.tables.specs.Met.{bare_own, cost_append}
use Rattle.tables.specs.Nodes.{Of, linked_of, nodes, placed_range}
use Rattle.tables.specs.Points.{follow_linked, ring_read, chain, primary_ring, linked_open}
use Rattle.tables.specs.Reached.{reached_played, reached_shows}
use Rattle.tables.specs.Shows.{Shows, view, removed, one_entry, Played, one_more}
use Rattle.links.specs.Moves.{Shown, bare, IsNode, CanCover, CanCommit}

-- ---- one level

-- the level v tries an item that the order rule takes at the point above
pub record Tries (P : Problem) (v : Level) (above : List Level) : Type 0 where
  pub item : ℕ
  pub before : List Choice
  pub picks : pick P (chosen above) ≡ Some item
  pub split : choices item (open_options P (chosen above)) ≡ before ++ v.tried ∷ v.left
  pub reached : Reached P (pick P) above

pub tries : {P : Problem} {v : Level} {above : List Level} → Reached P (pick P) (v ∷ above) → Tries P v above
tries (level i xs p e r) = record { item = i; before = xs; picks = p; split = e; reached = r }

-- what the last choice was when it was made
pub record Played-last (P : Problem) (c : Choice) (cs : List Choice) : Type 0 where
  pub item : ℕ
  pub free : T (not (has_item item (held cs)))
  pub listed : Mem c (linked P (held cs) item)

played_last : {P : Problem} {c : Choice} {cs : List Choice} → Played P (c ∷ cs) → Played-last P c cs
played_last (one_more i h f m p) = record { item = i; free = f; listed = m }

-- ---- what the table of a point shows

module _ (P : Problem) (G : Good P) {s : List Level} (r : Reached P (pick P) s) where
  played : Played P (made s)
  played = reached_played P (pick P) (pick_sound P) G r

  pub shows : Shows P (held (made s)) (table P (made s))
  shows = reached_shows P (pick P) (pick_sound P) G r

  chosen_is : map (λ c. c.option) (made s) ≡ chosen s
  chosen_is = map-map (λ (c : Choice). c.option) (λ (v : Level). v.tried) s

  -- the primary ring: the open items
  pub ring_open : (view P (held (made s))).ring 0 ≡ map suc (open_items P (chosen s))
  ring_open =
      sym (ring_read P (held (made s)) (table P (made s)) shows 0 (omega arith) (suc P.np)
      (omega (arith, keep_length (λ (x : ℕ). not (among (removed (held (made s))) x)) (run 1 P.np), length_run 1 P.np)))
      ∙ primary_ring P G played (fresh_shows P G) ∙ ap (λ (l : List Placed). map suc (open_items P l)) chosen_is

  -- an open item's list: its options that are open
  pub list_open : {i : ℕ} → Mem i (open_items P (chosen s)) → (view P (held (made s))).list i ≡ map node (choices i (open_options P (chosen s)))
  list_open {i} m =
      let f = open_item_facts P (chosen s) m in
      let h : i < items P = omega (arith, f.0) in
      let t : List ℤ = table P (made s) in
      let n : ℕ = items P in
      sym (follow_linked (λ q. link t (down n q)) (λ q. link t (up n q)) (suc i) ((view P (held (made s))).list i) (suc i) (suc (link t (top n (suc i))))
      (shows.lists.linked i h) (shows.lists.distinct i h).0 (omega (arith, ap nat (shows.counted i h))))
      ∙ (chain P G played (fresh_shows P G) i h (subst (λ (l : List Placed). T (open_item l i)) (sym chosen_is) f.1)).0
      ∙ ap (λ (l : List Placed). map node (choices i (open_options P l))) chosen_is

  pub linked_is : (i : ℕ) → linked P (held (made s)) i ≡ choices i (open_options P (chosen s))
  linked_is i = linked_open P G played i ∙ ap (λ (l : List Placed). choices i (open_options P l)) chosen_is

-- ---- what a level tries

-- the table of the point above with the level's item covered
abbrev pub covered : Problem → Level → List Level → List ℤ
covered P v above = touched P (made above) (own v.tried)

module _ (P : Problem) (G : Good P) (small : nodes P < 2147483648) {v : Level} {above : List Level} (r : Reached P (pick P) (v ∷ above)) where
  abbrev c : Choice
  c = v.tried

  abbrev h : List Entry
  h = held (made above)

  abbrev L : Tries P v above
  L = tries r

  opened : Mem L.item (open_items P (chosen above))
  opened = pick_some P (chosen above) L.picks

  last : Played-last P c (made above)
  last = played_last (reached_played P (pick P) (pick_sound P) G r)

  of_item : Of P h last.item c
  of_item = linked_of P h last.item last.listed

  choice_in : Mem c (linked P h L.item)
  choice_in = rw (linked_is P G L.reached L.item, L.split) (in_right L.before (here refl))

  -- its item
  pub own_item : (own c).item ≡ L.item
  own_item = (linked_of P h L.item choice_in).own_item

  pub primary : (own c).item < P.np
  primary = rw own_item (open_item_facts P (chosen above) opened).0

  free : T (not (has_item (own c).item h))
  free = rw of_item.own_item last.free

  listed : Mem c (linked P h (own c).item)
  listed = rw own_item choice_in

  bare_is : bare (own c).item ≡ own c
  bare_is = one_entry (bare (own c).item) (own c) (sym (bare_own P G h (own c).item primary listed)) refl

  -- its node
  pub node_range : (items P + 1 < node c) × (node c < nodes P)
  node_range = let b = placed_range P of_item.placed_in in (omega arith, omega (arith, of_item.inside))

  pub cover_is : run_events (items P) (table P (made above)) (touch P h (bare (own c).item)) ≡ covered P v above
  cover_is = rw bare_is refl

  pub covered_shown : Shown P (own c ∷ h) (covered P v above)
  covered_shown = record {
    good = G;
    small = small;
    shows = touched_shows P G (reached_played P (pick P) (pick_sound P) G L.reached) (own c).item (omega (arith, primary)) free listed;
  }

  -- a level is a cover and then a commit
  pub table_is : table P (made (v ∷ above)) ≡ run_events (items P) (covered P v above) (try P h c)
  table_is = table_try P c (made above)

  pub price_is : cost (choose P h c) ≡ cost (touch P h (bare (own c).item)) + cost (try P h c)
  unfolding choose
  price_is = cost_append (touch P h (own c)) (try P h c) ∙ ap (λ (e : Entry). cost (touch P h e) + cost (try P h c)) (sym bare_is)

  pub can_cover : CanCover P h (items P) (table P (made above)) (own c).item (suc (own c).item)
  can_cover = record {
    header = record { shown = record { good = G; small = small; shows = shows P G L.reached }; n_is = refl; item = omega (arith, primary); is = refl };
    free = free;
  }

  pub can_commit : CanCommit P h (items P) (covered P v above) c (node c)
  can_commit = record { shown = covered_shown; n_is = refl; primary = primary; listed = listed; is = refl }

  pub is_node : {held : List Entry} {t : List ℤ} → Shown P held t → IsNode P held (items P) t c (node c)
  is_node S = record { shown = S; n_is = refl; placed_in = of_item.placed_in; inside = of_item.inside; is = refl }

  -- the list of the covered item
  pub covered_chain : suc (own c).item ∷ (view P (own c ∷ h)).list (own c).item ≡ (suc (own c).item ∷ map node L.before) ++ node c ∷ map node v.left
  covered_chain =
      ap (λ (l : List ℕ). suc (own c).item ∷ l)
      (covered_list P h (own c) free ∙ ap (λ (i : ℕ). map node (linked P h i)) own_item ∙ ap (map node) (linked_is P G L.reached L.item ∙ L.split)
      ∙ map-append node L.before (c ∷ v.left))

-- A level as a cover and then a commit.
use Rattle.std.specs.Prelude.{◌≡◌, refl, not, ℕ, ◌+◌, ◌<◌, T, ℤ}
use Rattle.std.proofs.Common.{ap, ◌∙◌}
use mathlib.Core.List.{List, ◌∷◌, ◌++◌, map, foldl, Memᴰ as Mem}
use Rattle.rules.specs.Problem.{Entry, Problem, items}
use Rattle.rules.specs.Order.{has_item, Choice, node}
use Rattle.rules.specs.Links.{own, linked, touch, try, choose, held, events, fresh, table, apply}
use Rattle.laws.specs.Faults.{Good}
use Rattle.tables.specs.Fresh.{fresh_shows}
use Rattle.tables.specs.Nodes.{Of, linked_of}
use Rattle.tables.specs.Shows.{Shows, view, since_now, touch_leads, point_shows, Played}
use Rattle.tables.specs.Views.{foldl_append}

-- the table where the entry's item is covered or purified
abbrev pub touched : Problem → List Choice → Entry → List ℤ
touched P cs e = foldl (apply (items P)) (table P cs) (touch P (held cs) e)

-- a level is a cover and then a commit
pub table_try : (P : Problem) (c : Choice) (cs : List Choice) → table P (c ∷ cs) ≡ foldl (apply (items P)) (touched P cs (own c)) (try P (held cs) c)
unfolding table events choose
table_try P c cs =
    foldl_append (apply (items P)) (fresh P) (events P cs) (touch P (held cs) (own c) ++ try P (held cs) c)
    ∙ foldl_append (apply (items P)) (foldl (apply (items P)) (fresh P) (events P cs)) (touch P (held cs) (own c)) (try P (held cs) c)

-- the list of the item covered last is as it was when it was covered
pub covered_list : (P : Problem) (h : List Entry) (e : Entry) → T (not (has_item e.item h)) → (view P (e ∷ h)).list e.item ≡ map node (linked P h e.item)
covered_list P h e fr = ap (λ (s : List Entry). map node (linked P s e.item)) (since_now e.item e h fr refl)

module _ (P : Problem) (G : Good P) {cs : List Choice} (p : Played P cs) (i : ℕ) (small : i < items P) (fr : T (not (has_item i (held cs)))) {c : Choice} (mc : Mem c (linked P (held cs) i)) where
  here_shows : Shows P (held cs) (table P cs)
  here_shows = point_shows P G (fresh_shows P G) p

  F : Of P (held cs) i c
  F = linked_of P (held cs) i mc

  -- the item covered
  pub touched_shows : Shows P (own c ∷ held cs) (touched P cs (own c))
  touched_shows = (touch_leads P G (held cs) (own c) (rw F.own_item small) (rw F.own_item fr) (table P cs) here_shows).0

-- The headers' links and lengths are numbers below the next node's: in a fresh table, and while entries are added to it.
use mathlib.Core.Path.{◌≡◌, refl, ap, ◌∙◌}
use mathlib.Core.List.Memᴰ.{head as here}
use mathlib.Core.List.Memᴰ.{tail as there}
use mathlib.Core.List.{List, [], ◌∷◌, map, Memᴰ as Mem}
use Prim.Native.Nat.{ℕ, zero, suc, ◌+◌, ◌≤◌, ◌<◌}
use native.Mathlib.Omega.{arith}
use native.Mathlib.Decide.{ℕ_discrete}
use lib.IntN.{ℤ, pos, suc_ℤ}
use lib.ListN.{length, length-map}
use Rattle.rules.specs.Lists.{keep}
use Rattle.rules.specs.Words.{word}
use Rattle.rules.specs.Problem.{Entry, Problem, items}
use Rattle.rules.specs.Order.{has_item, Placed, placed, node, choices}
use Rattle.rules.specs.Links.{top, up, down, link, join, column, last_or, fresh}
use Rattle.laws.specs.Lists.{keep_length}
use Rattle.tables.specs.Build.{add}
use Rattle.tables.specs.Fresh.{fresh_header, column_stands}
use Rattle.tables.specs.Nodes.{span, nodes, choice_of}
use Rattle.tables.specs.Undo.{rise, join_else, third_else, third_second, third_third}
use Rattle.tables.specs.Views.{stands_range}
use Rattle.init.specs.SetUp.{Alike, Small, Live}
use Rattle.init.proofs.AlikeLaws.{header, alike_self, alike_less, with_node, four_past, length_four}

small_on : {y z : ℤ} {q r : ℕ} → z ≡ y → q ≤ r → Small y q → Small z r
small_on e h S = record { number = S.number; is = e ∙ S.is; less = let l = S.less in omega arith }

pub live_alike : {n q : ℕ} {t u : List ℤ} → Alike (top n q) t u → Live n q u → Live n q t
live_alike {n} {q} A L =
    let b = L.beyond in
    record {
      beyond = b;
      last = λ h z l. small_on (A.same (up n h) (omega arith)) (omega arith) (L.last h z l);
      count = λ h z l. small_on (A.same (top n h) (omega arith)) (omega arith) (L.count h z l);
    }

-- ---- the fresh table

last_below : (b a : ℕ) (l : List ℕ) → a < b → ((q : ℕ) → Mem q l → q < b) → last_or a l < b
unfolding last_or
last_below b a [] h r = h
last_below b a (x ∷ l) h r = last_below b x l (r x (here refl)) (λ q m. r q (there m))

placed_few : (os : List Placed) → length os ≤ span os
unfolding span
placed_few [] = omega arith
placed_few (o ∷ os) = let h = placed_few os in omega arith

module _ (P : Problem) where
  -- an item has fewer nodes than the table
  column_few : (i : ℕ) → length (column P i) < nodes P
  unfolding column choices nodes
  column_few i =
      let os : List Placed = keep (λ o. has_item i o.entries) (placed P) in
      omega (arith, length-map (map (choice_of i) os) node, length-map os (choice_of i), keep_length (λ (o : Placed). has_item i o.entries) (placed P), placed_few (placed P))

  pub fresh_live : Live (items P) (nodes P) (fresh P)
  unfolding nodes
  fresh_live = record { beyond = omega arith; last = last_at; count = count_at }
    where
      last_at : (h : ℕ) → 0 < h → h ≤ items P → Small (word (fresh P) (up (items P) h)) (nodes P)
      last_at zero z l = absurd (omega arith)
      last_at (suc i) z l = record {
        number = last_or (i + 1) (column P i);
        is = fresh_header P i 1 (omega arith) (omega arith);
        less = last_below (nodes P) (i + 1) (column P i) (omega arith) (λ q m. (stands_range P i q (column_stands P i m)).1);
      }

      count_at : (h : ℕ) → 0 < h → h ≤ items P → Small (word (fresh P) (top (items P) h)) (nodes P)
      count_at zero z l = absurd (omega arith)
      count_at (suc i) z l = record {
        number = length (column P i);
        is = ap (λ (k : ℕ). word (fresh P) k) (omega arith) ∙ fresh_header P i 0 (omega arith) (omega arith);
        less = column_few i;
      }

-- ---- an entry more

module _ (n : ℕ) (t : List ℤ) (q : ℕ) (e : Entry) (L : Live n q t) (r : top n (suc q) ≤ length t) (j : e.item < n) where
  abbrev i : ℕ
  i = header e

  abbrev u : ℕ
  u = link t (up n i)

  abbrev t4 : List ℤ
  t4 = with_node n t q e u

  abbrev t6 : List ℤ
  t6 = join t4 (down n u) (pos q) (up n i) (pos q)

  node_else : (k : ℕ) → k < top n q → word t4 k ≡ word t k
  node_else k h = (four_past (top n q) (pos i) (pos u) (pos i) (pos e.colour) (alike_less (alike_self t) (omega arith))).same k h

  -- the item's count, while the links are written
  pub count_stays : word t6 (top n i) ≡ word t (top n i)
  count_stays = join_else t4 (down n u) (up n i) (pos q) (pos q) (top n i) (omega arith) (omega arith) ∙ node_else (top n i) (let b = L.beyond in omega arith)

  count_was : Small (word t (top n i)) q
  count_was = L.count i (omega arith) j

  length_node : length t4 ≡ length t
  length_node = length_four (top n q) (pos i) (pos u) (pos i) (pos e.colour) t

  pub add_live : Live n (suc q) (add n t q e)
  unfolding add
  add_live = record { beyond = let b = L.beyond in omega arith; last = λ h z l. last_at h z l (ℕ_discrete h i); count = λ h z l. count_at h z l (ℕ_discrete h i) }
    where
      c : ℤ
      c = suc_ℤ (word t6 (top n i))

      last_at : (h : ℕ) → 0 < h → h ≤ n → Dec (h ≡ i) → Small (word (rise t6 (top n i)) (up n h)) (suc q)
      last_at h z l (yes w) =
          let b = L.beyond in
          record { number = q; is = rw w (third_second t4 (down n u) (up n i) (pos q) (pos q) (top n i) c (omega arith) (omega (arith, length_node))); less = omega arith }
      last_at h z l (no w) =
          let b = L.beyond in
          small_on
          (third_else t4 (down n u) (up n i) (pos q) (pos q) (top n i) c (up n h) (omega arith) (λ x. w (omega arith)) (omega arith)
          ∙ node_else (up n h) (omega arith)) (omega arith) (L.last h z l)

      count_at : (h : ℕ) → 0 < h → h ≤ n → Dec (h ≡ i) → Small (word (rise t6 (top n i)) (top n h)) (suc q)
      count_at h z l (yes w) =
          let b = L.beyond in
          record {
            number = suc count_was.number;
            is = rw w (third_third t4 (down n u) (up n i) (pos q) (pos q) (top n i) c (omega (arith, length_node)) ∙ ap suc_ℤ (count_stays ∙ count_was.is));
            less = omega (arith, count_was.less);
          }
      count_at h z l (no w) =
          let b = L.beyond in
          small_on
          (third_else t4 (down n u) (up n i) (pos q) (pos q) (top n i) c (top n h) (omega arith) (omega arith) (λ x. w (omega arith))
          ∙ node_else (top n h) (omega arith)) (omega arith) (L.count h z l)

-- What the reads find: the following member of a ring or of a list, a list's length, a node's item and its option's number.
use mathlib.Core.Path.{◌≡◌, refl, sym, ap, ◌∙◌, subst}
use mathlib.Core.Bool.{true, false}
use mathlib.Core.List.Memᴰ.{append_right as in_right}
use mathlib.Core.List.Memᴰ.{head as here}
use mathlib.Core.List.Memᴰ.{tail as there}
use mathlib.Core.List.{List, [], ◌∷◌, Memᴰ as Mem}
use Prim.Native.Nat.{ℕ, zero, suc, ◌+◌, ◌-◌, ◌*◌, ◌<◌, ◌≤◌}
use native.Mathlib.Omega.{arith}
use native.Mathlib.Decide.{dec_lt}
use lib.IntN.{ℤ, pos, negsuc}
use lib.Signed.{non_neg}
use lib.ListN.{length, get_or}
use Rattle.rules.specs.Words.{word}
use Rattle.rules.specs.Problem.{Entry, Problem, items}
use Rattle.rules.specs.Order.{Choice}
use Rattle.rules.specs.Links.{nodes_from, own, first_or, link, right, left, top, up, down}
use Rattle.words.specs.Read.{Spacer}
use Rattle.tables.specs.Nodes.{nodes, placed_range}
use Rattle.tables.specs.Rings.{following_in, behind_in}
use Rattle.tables.specs.Shows.{view}
use Rattle.tables.specs.Undo.{word_of}
use Rattle.tables.specs.Views.{stands_range}
use Rattle.links.specs.Moves.{InRing, InList, IsNode}
use Rattle.links.proofs.Words.{clash}
use Rattle.links.proofs.Cursor.{following_is}
use Rattle.links.proofs.Round.{end_of}

-- ---- the primary ring

module _ {P : Problem} {held : List Entry} {t : List ℤ} {xs : List ℕ} {p : ℕ} {ys : List ℕ} (R : InRing P held t xs p ys) where
  pub ring_size : length t ≡ 2 * (items P + 2) + 4 * nodes P
  ring_size = R.shown.shows.size

  pub ring_inside : p < items P + 2
  ring_inside = go (subst (Mem p) (sym R.split) (in_right xs (here refl)))
    where
      go : Mem p (0 ∷ (view P held).ring 0) → p < items P + 2
      go (here e) = omega arith
      go (there m) = let r = R.shown.shows.ringed 0 (omega arith) p m in omega arith

  pub ring_word : word t (right p) ≡ pos (first_or 0 ys)
  ring_word =
      (R.shown.shows.paired p ring_inside).1
      ∙ ap pos (following_is (λ k. link t (right k)) (λ k. link t (left k)) 0 ((view P held).ring 0) xs p ys R.split (R.shown.shows.rings.linked 0 (omega arith)))

-- ---- an item's list

module _ {P : Problem} {held : List Entry} {n : ℕ} {t : List ℤ} {i : ℕ} {xs : List ℕ} {q : ℕ} {ys : List ℕ} (L : InList P held n t i xs q ys) where
  pub list_size : length t ≡ 2 * (items P + 2) + 4 * nodes P
  list_size = L.shown.shows.size

  member : (y : ℕ) → Mem y (suc i ∷ (view P held).list i) → (0 < y) × (y < nodes P)
  unfolding nodes
  member y (here e) = (omega arith, omega (arith, L.item))
  member y (there m) = let r = stands_range P i y (L.shown.shows.stand i L.item y m) in (omega (arith, r.0), r.1)

  here_in : Mem q (suc i ∷ (view P held).list i)
  here_in = subst (Mem q) (sym L.split) (in_right xs (here refl))

  pub list_inside : q < nodes P
  list_inside = (member q here_in).1

  next_in : Mem (link t (down (items P) q)) (suc i ∷ (view P held).list i)
  next_in = go here_in
    where
      nx : ℕ → ℕ
      nx k = link t (down (items P) k)

      pv : ℕ → ℕ
      pv k = link t (up (items P) k)

      go : Mem q (suc i ∷ (view P held).list i) → Mem (nx q) (suc i ∷ (view P held).list i)
      go (here e) = rw e (following_in nx pv (suc i) ((view P held).list i) (suc i) (L.shown.shows.lists.linked i L.item))
      go (there m) = behind_in nx pv (suc i) ((view P held).list i) (suc i) (L.shown.shows.lists.linked i L.item) m

  pub list_word : word t (down (items P) q) ≡ pos (first_or (suc i) ys)
  list_word =
      word_of (word t (down (items P) q)) (link t (down (items P) q)) refl (member (link t (down (items P) q)) next_in).0
      ∙ ap pos (following_is (λ k. link t (down (items P) k)) (λ k. link t (up (items P) k)) (suc i) ((view P held).list i) xs q ys L.split (L.shown.shows.lists.linked i L.item))

-- ---- a node

pub node_in : (p : ℕ) (es : List Entry) (k : ℕ) (d : Entry) → k < length es → Mem (record { at = p + k; entry = get_or es k d }) (nodes_from p es)
unfolding nodes_from
node_in p [] k d h = absurd (omega arith)
node_in p (e ∷ es) zero d h = let z : p + 0 ≡ p = omega arith in here (ap (λ (j : ℕ). record { at = j; entry = e }) z)
node_in p (e ∷ es) (suc k) d h =
    there (subst (λ (j : ℕ). Mem (record { at = j; entry = get_or es k d }) (nodes_from (suc p) es)) (omega arith) (node_in (suc p) es k d (omega arith)))

module _ {P : Problem} {held : List Entry} {n : ℕ} {t : List ℤ} {c : Choice} {x : ℕ} (N : IsNode P held n t c x) where
  pub node_size : length t ≡ 2 * (items P + 2) + 4 * nodes P
  node_size = N.shown.shows.size

  -- every node of the option names its item
  top_at : (k : ℕ) → k < length c.option.entries → word t (top (items P) (c.option.first + k)) ≡ pos (suc (get_or c.option.entries k (record { item = 0; colour = 0 })).item)
  top_at k h = (N.shown.shows.named c.option N.placed_in _ (node_in c.option.first c.option.entries k (record { item = 0; colour = 0 }) h)).top_is

  pub node_word : word t (top (items P) x) ≡ pos (suc (own c).item)
  node_word = ap (λ (k : ℕ). word t (top (items P) k)) N.is ∙ top_at c.at N.inside

  -- from the node on, up to the spacer after the option
  abbrev pub Along : ℕ → Type 0
  Along q = (x ≤ q) × (q ≤ end_of c.option)

  pub along_start : Along x
  along_start = (omega arith, omega (arith, N.is, N.inside))

  module _ {q : ℕ} (A : Along q) where
    along_inside : q < nodes P
    along_inside = let r = placed_range P N.placed_in in omega (arith, A.1, r.1)

    pub along_test : top n q < length t
    along_test = omega (arith, along_inside, N.n_is, node_size)

    spacer_word : q ≡ end_of c.option → word t (top (items P) q) ≡ negsuc c.option.number
    spacer_word e = ap (λ (k : ℕ). word t (top (items P) k)) e ∙ (N.shown.shows.spaced c.option N.placed_in).number_is

    node_natural : q < end_of c.option → non_neg (word t (top (items P) q)) ≡ true
    node_natural h =
        let e : q ≡ c.option.first + (q - c.option.first) = omega (arith, A.0, N.is) in
        ap (λ (k : ℕ). non_neg (word t (top (items P) k))) e ∙ ap non_neg (top_at (q - c.option.first) (omega (arith, A.0, N.is)))

    pub along_node : non_neg (word t (top n q)) ≡ true → Along (q + 1)
    along_node b = go (dec_lt q (end_of c.option))
      where
        go : Dec (q < end_of c.option) → Along (q + 1)
        go (yes h) = (omega (arith, A.0), omega arith)
        go (no h) = absurd (clash (rw (← N.n_is) b) (ap non_neg (spacer_word (omega (arith, A.1)))))

    pub along_spacer : non_neg (word t (top n q)) ≡ false → word t (top n q) ≡ negsuc c.option.number
    along_spacer b = ap (λ (k : ℕ). word t (top k q)) N.n_is ∙ go (dec_lt q (end_of c.option))
      where
        go : Dec (q < end_of c.option) → word t (top (items P) q) ≡ negsuc c.option.number
        go (yes h) = absurd (clash (node_natural h) (rw (← N.n_is) b))
        go (no h) = spacer_word (omega (arith, A.1))

  pub node_inside : x < nodes P
  node_inside = along_inside along_start

-- the number that the spacer at a holds
module _ (t : List ℤ) (a : ℕ) {m : ℕ} (w : word t a ≡ negsuc m) where
  pub spacer_number : {r : ℕ} → Spacer t a r → r ≡ m
  spacer_number S = let v = S.word_is in cc

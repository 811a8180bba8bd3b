-- A node of an item that is purified: it has the colour and is marked, or it is hidden. And back.
use mathlib.Core.Path.{◌≡◌, refl, sym, ap, ◌∙◌, subst}
use mathlib.Core.Logic.{◌≢◌}
use mathlib.Core.Bool.{Bool, true, false, not, ◌&&◌}
use mathlib.Core.List.{List}
use Prim.Native.Nat.{ℕ, suc, ◌<◌}
use native.Mathlib.Omega.{arith}
use borrow.Author.Tests.{eq-eqb, ne_eqb}
use lib.Dec.{T, eqb, eqb→eq}
use lib.IntN.{ℤ, pos, negsuc}
use lib.Signed.{non_neg}
use lib.ListN.{length, set, length-set}
use lib.Seq.{set-set, set-get_or}
use Rattle.rules.specs.Words.{word, same}
use Rattle.rules.specs.Problem.{Entry, Problem, items}
use Rattle.rules.specs.Order.{one_colour, Choice}
use Rattle.rules.specs.Links.{own, met, cost, top, colour_at, apply, run_events}
use Rattle.tables.specs.Nodes.{placed_range}
use Rattle.tables.specs.Views.{View, shade}
use Rattle.links.specs.Moves.{Done}
use Rattle.words.specs.Read.{Link}
use Rattle.tables.specs.Met.{walked}
use Rattle.links.specs.Steps.{CanMeet, Meeting, Parting, CanPurify, Purified}
use Rattle.links.proofs.Words.{read_colour, read_header}
use Rattle.links.proofs.Touching.{Touching, met_now, touching_node}
use Rattle.links.proofs.Untouching.{met_hidden, Untouching, met_last, fore, untouching_node}
use Rattle.links.proofs.Lap.{left_start, left_size}
use Rattle.links.proofs.Hiding.{hide_lap, unhide_words}

-- the node's colour stands in the table
pub meet_colour : {P : Problem} {W : View} {n : ℕ} {t : List ℤ} {held : List Entry} {d : Choice} {q : ℕ} → CanMeet P W n t held d q → colour_at n q < length t
meet_colour {P} M = let r = placed_range P M.can.placed_in in omega (arith, M.can.n_is, M.can.is, M.can.inside, r.1, M.can.table.size)

module _ {P : Problem} {W : View} {n : ℕ} {t : List ℤ} {held : List Entry} {e : Entry} {d : Choice} {q colour : ℕ} (M : Meeting P W n t held e d q colour) where
  -- what the test of the colour says
  pub test_is : same (word t (colour_at n q)) (pos colour) ≡ one_colour e (own d)
  test_is =
      ap (λ (k : ℕ). same (word t (colour_at k q)) (pos colour)) M.can.can.n_is ∙ ap (λ (z : ℤ). same z (pos colour)) M.can.colour_is ∙ ap (eqb (own d).colour) M.colour_is ∙ go e.colour M.coloured
    where
      turned : (a b : ℕ) (x : Bool) → eqb b a ≡ x → eqb a b ≡ x
      turned a b true u = eq-eqb a b (sym (eqb→eq b a (rw u tt)))
      turned a b false u = ne_eqb a b (λ z. let k : true ≡ false = sym (eq-eqb b a (sym z)) ∙ u in absurd (subst T k tt))

      kept : (x : Bool) → x ≡ (x && true)
      kept true = refl
      kept false = refl

      go : (k : ℕ) → 0 < k → eqb (own d).colour k ≡ (eqb k (own d).colour && not (eqb k 0))
      go k h = turned (own d).colour k (eqb k (own d).colour) refl ∙ kept (eqb k (own d).colour) ∙ ap (λ (x : Bool). eqb k (own d).colour && not x) (sym (ne_eqb k 0 (omega arith)))

  pub marks : one_colour e (own d) ≡ true → {t' : List ℤ} → t' ≡ set t (colour_at n q) (negsuc 0) → Done (items P) t (met P (one_colour e (own d)) held d) t' 0
  unfolding apply cost
  marks b f = rw b (record {
    is = f ∙ ap (λ (k : ℕ). set t (colour_at k q) (negsuc 0)) M.can.can.n_is ∙ ap (λ (k : ℕ). set t (colour_at (items P) k) (negsuc 0)) M.can.can.is;
    counts = refl;
  })

module _ {P : Problem} {W : View} {n : ℕ} {t₁ t : List ℤ} {held : List Entry} {e : Entry} {d : Choice} {q colour : ℕ} (M : Parting P W n t₁ t held e d q colour) where
  now_marked : one_colour e (own d) ≡ true → t ≡ set t₁ (colour_at (items P) q) (negsuc 0)
  unfolding apply
  now_marked b =
      M.met.is ∙ ap (λ (x : Bool). run_events (items P) t₁ (met P x held d)) b ∙ ap (λ (k : ℕ). set t₁ (colour_at (items P) k) (negsuc 0)) (sym M.met.can.can.is)

  pub parting_test : non_neg (word t (colour_at n q)) ≡ not (one_colour e (own d))
  parting_test = ap (λ (k : ℕ). non_neg (word t (colour_at k q))) M.met.can.can.n_is ∙ ap non_neg M.met.colour_now ∙ go (one_colour e (own d))
    where
      go : (b : Bool) → non_neg (shade b (own d).colour) ≡ not b
      go true = refl
      go false = refl

  pub parting_colour : colour_at n q < length t
  parting_colour = omega (arith, meet_colour M.met.can, long (one_colour e (own d)) refl)
    where
      long : (b : Bool) → one_colour e (own d) ≡ b → length t ≡ length t₁
      long true b = ap length (now_marked b) ∙ length-set t₁ (colour_at (items P) q) (negsuc 0)
      long false b = let H = met_hidden M.met b in left_size (left_start (hide_lap H.can) (unhide_words H)) ∙ sym M.met.can.can.table.size

  -- the colour is put back
  pub unmarks : one_colour e (own d) ≡ true → {t' : List ℤ} → t' ≡ set t (colour_at n q) (pos colour) → t' ≡ t₁
  unmarks b f =
      let at : ℕ = colour_at (items P) q in
      let was : word t₁ at ≡ pos colour = M.met.can.colour_is ∙ ap pos (sym (one e (own d) b) ∙ sym M.colour_is) in
      f ∙ ap (λ (k : ℕ). set t (colour_at k q) (pos colour)) M.met.can.can.n_is ∙ ap (λ (l : List ℤ). set l at (pos colour)) (now_marked b) ∙ set-set t₁ at (negsuc 0) (pos colour)
      ∙ ap (set t₁ at) (sym was) ∙ set-get_or t₁ at (pos 0)
    where
      first : (x y : Bool) → (x && y) ≡ true → x ≡ true
      first true y u = refl
      first false y u = u

      one : (a b : Entry) → one_colour a b ≡ true → a.colour ≡ b.colour
      one a b u = eqb→eq a.colour b.colour (rw (first (eqb a.colour b.colour) (not (eqb a.colour 0)) u) tt)

-- ---- the node that the walk has come to

module _ {P : Problem} {held : List Entry} {n : ℕ} {t₀ : List ℤ} {e : Entry} {p : ℕ} (C : CanPurify P held n t₀ e p)
    {i : ℕ} (h : Link t₀ (top n p) i) where
  pub its_header : i ≡ suc e.item
  its_header = read_header C.touch.n_is C.says h

  pub purify_meets : {colour : ℕ} → Link t₀ (colour_at n p) colour
      → {t : List ℤ} {q u : ℕ} (K : Touching P held e t₀ t q u) (ne : q ≢ i)
      → Meeting P (walked P held e K.past) n t held e (met_now C.touch K its_header ne).0 q colour
  purify_meets k K ne = record {
    can = touching_node C.touch K its_header ne;
    colour_is = read_colour C.touch.n_is C.says k;
    coloured = C.coloured;
  }

module _ {P : Problem} {held : List Entry} {n : ℕ} {t₁ t₂ : List ℤ} {e : Entry} {p : ℕ}
    (Q : Purified P held n t₁ t₂ e p)
    {i : ℕ} (h : Link t₂ (top n p) i) where
  pub header_still : i ≡ suc e.item
  header_still = read_header Q.can.n_is Q.says h

  pub unpurify_parts : {colour : ℕ} → Link t₂ (colour_at n p) colour
      → {t : List ℤ} {q : ℕ} (K : Untouching P held e t₁ t q) (ne : q ≢ i)
      → Parting P (walked P held e (met_last Q.can K header_still ne).0) n (fore Q.can K header_still ne) t held e
      (met_last Q.can K header_still ne).1 q colour
  unpurify_parts k K ne = record {
    met = untouching_node Q.can K header_still ne;
    colour_is = read_colour Q.can.n_is Q.says k;
  }

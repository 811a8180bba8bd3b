-- A covered item leaves its ring after its list has been walked, and comes back before the walk back.
use mathlib.Core.Path.{◌≡◌, refl, sym, ap, ◌∙◌, subst}
use mathlib.Core.Bool.{Bool, true, false, not, ◌&&◌}
use mathlib.Core.List.{List, [], ◌∷◌, ◌++◌, append-nil}
use Prim.Native.Nat.{ℕ, suc, ◌+◌}
use native.Mathlib.Omega.{arith}
use lib.Dec.{eqb}
use lib.IntN.{ℤ}
use Rattle.rules.specs.Problem.{Entry, Problem, items}
use Rattle.rules.specs.Order.{one_colour, Choice}
use Rattle.rules.specs.Links.{remove, own, linked, hide, met, ring_part, touch, cost, link, left, right, apply, run_events}
use Rattle.tables.specs.Undo.{undo}
use Rattle.tables.specs.Views.{View, Table, Fits, Fit, fit_split, foldl_append, ring_neighbours, still_ringed, event_table, event_undone}
use Rattle.tables.specs.Shows.{view, touch_fit}
use Rattle.tables.specs.Met.{met_all, walked, cost_append}
use Rattle.links.specs.Moves.{bare, Done, CanCover}
use Rattle.links.specs.Steps.{Ringed, Hidden, CanTouch, CanMeet, Met}
use Rattle.links.proofs.Touching.{meet, table_now}
use Rattle.links.proofs.Untouching.{met_hidden}

pub can_touch : {P : Problem} {held : List Entry} {n : ℕ} {t : List ℤ} {j i : ℕ} → CanCover P held n t j i → CanTouch P held n t (bare j)
can_touch C = record { shown = C.header.shown; n_is = C.header.n_is; item = C.header.item; free = C.free }

-- where a covered item is met every node is hidden
bare_colour : (j : ℕ) (d : Entry) → one_colour (bare j) d ≡ false
bare_colour j d = go (eqb 0 d.colour)
  where
    go : (b : Bool) → (b && not (eqb 0 0)) ≡ false
    go true = refl
    go false = refl

pub hide_meets : {P : Problem} {W : View} {n : ℕ} {t : List ℤ} {held : List Entry} {d : Choice} {q : ℕ} → CanMeet P W n t held d q → (j : ℕ) {t' : List ℤ} {r : ℕ}
    → Done (items P) t (hide P held d) t' r → Done (items P) t (meet P held (bare j) d) t' r
hide_meets {P} {t = t} {held = held} {d} M j {t'} {r} D = subst (λ (b : Bool). Done (items P) t (met P b held d) t' r) (sym (bare_colour j (own d))) D

pub bare_hidden : {P : Problem} {W : View} {n : ℕ} {t₁ t : List ℤ} {held : List Entry} {j : ℕ} {d : Choice} {q : ℕ} → Met P W n t₁ t held (bare j) d q → Hidden P W n t₁ t held d q
bare_hidden {j = j} {d = d} M = met_hidden M (bare_colour j (own d))

module _ {P : Problem} {held : List Entry} {n : ℕ} {t₁ : List ℤ} {e : Entry} (C : CanTouch P held n t₁ e) (z : e.colour ≡ 0)
    {tm : List ℤ} (words : tm ≡ run_events (items P) t₁ (met_all P held e (linked P held e.item))) where
  abbrev chain : List Choice
  chain = linked P held e.item

  abbrev W : View
  W = walked P held e chain

  T : Table P W tm
  T = table_now C chain [] (sym (append-nil chain)) words

  parts : touch P held e ≡ met_all P held e chain ++ (remove e.item ∷ [])
  unfolding touch
  parts = ap (λ (k : ℕ). met_all P held e chain ++ ring_part k e.item) z

  fits : Fits P W (remove e.item)
  fits =
      (fit_split P (view P held) (met_all P held e chain) (remove e.item ∷ [])
      (subst (Fit P (view P held)) parts (touch_fit P C.shown.good held e C.item C.free))).1.0

  module _ {i : ℕ} (is : i ≡ suc e.item) where
    pub can_leave : Ringed P tm e.item i (link tm (left (suc e.item))) (link tm (right (suc e.item)))
    can_leave =
        let r = ring_neighbours P C.shown.good W tm T fits.0 fits.1 (suc e.item) fits.2 in
        let a = T.paired (suc e.item) (omega (arith, C.item)) in
        record { is = is; size = T.size; small = C.shown.small; item = C.item; left_is = a.0; left_in = r.1; right_is = a.1; right_in = r.2 }

  -- it has left
  pub covered : {t : List ℤ} {u : ℕ} → t ≡ apply (items P) tm (remove e.item) → u ≡ cost (met_all P held e chain) → Done (items P) t₁ (touch P held e) t (u + 1)
  unfolding cost
  covered f g = record {
    is = f ∙ ap (λ (l : List ℤ). apply (items P) l (remove e.item)) words ∙ sym (foldl_append (apply (items P)) t₁ (met_all P held e chain) (remove e.item ∷ []))
        ∙ ap (run_events (items P) t₁) (sym parts);
    counts = omega (arith, g, ap cost parts, cost_append (met_all P held e chain) (remove e.item ∷ []));
  }

  module _ {t : List ℤ} (now : t ≡ run_events (items P) t₁ (touch P held e)) where
    gone : t ≡ apply (items P) tm (remove e.item)
    gone =
        now ∙ ap (run_events (items P) t₁) parts ∙ foldl_append (apply (items P)) t₁ (met_all P held e chain) (remove e.item ∷ [])
        ∙ ap (λ (l : List ℤ). apply (items P) l (remove e.item)) (sym words)

    pub can_return : {i : ℕ} → i ≡ suc e.item → Ringed P t e.item i (link t (left (suc e.item))) (link t (right (suc e.item)))
    can_return is = rw gone (
        let U = event_table P C.shown.good W tm T (remove e.item) fits in
        let r = ring_neighbours P C.shown.good W tm T fits.0 fits.1 (suc e.item) fits.2 in
        let w = still_ringed P C.shown.good W tm T fits.0 fits.1 e.item fits.2 in
        let a = U.paired (suc e.item) (omega (arith, C.item)) in
        record {
          is = is;
          size = U.size;
          small = C.shown.small;
          item = C.item;
          left_is = a.0;
          left_in = omega (arith, r.1, w.0);
          right_is = a.1;
          right_in = omega (arith, r.2, w.1);
        })

    pub returned : {t' : List ℤ} → t' ≡ undo (items P) t (remove e.item) → t' ≡ tm
    returned f = f ∙ ap (λ (y : List ℤ). undo (items P) y (remove e.item)) gone ∙ event_undone P C.shown.good W tm T (remove e.item) fits

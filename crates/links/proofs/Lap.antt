-- A walk once round an option, to the right or back to the left, that does something at each of its other nodes.
use mathlib.Core.Path.{◌≡◌, refl, sym, ap, ◌∙◌, subst}
use mathlib.Core.Logic.{◌≢◌}
use mathlib.Core.Bool.{true, false}
use mathlib.Core.List.{List, [], ◌∷◌, ◌++◌, map, append-nil}
use Prim.Native.Nat.{ℕ, suc, ◌+◌, ◌-◌, ◌*◌, ◌≤◌, ◌<◌}
use native.Mathlib.Omega.{arith}
use lib.IntN.{ℤ, pos}
use lib.ListN.{length}
use Rattle.rules.specs.Words.{word}
use Rattle.rules.specs.Problem.{Problem, items}
use Rattle.rules.specs.Order.{Choice, node}
use Rattle.rules.specs.Links.{Node, others, first_or, last_or, cost, top, up, down, apply, run_events}
use Rattle.words.specs.Read.{Link}
use Rattle.tables.specs.Nodes.{nodes, placed_range}
use Rattle.tables.specs.Views.{foldl_append}
use Rattle.tables.specs.Met.{cost_append}
use Rattle.links.specs.Moves.{Done}
use denote.MutBor.{MutBor}
use Rattle.links.specs.Laps.{InOption, Lap, Does, Undoes}
use Rattle.links.specs.Steps.{HasLink}
use Rattle.links.proofs.Words.{has_link, read}
use Rattle.links.proofs.Cursor.{Front, Rear, split_on, split_back}
use Rattle.links.proofs.Round.{way_right, turn_less, way_left, left_less, back_less, spot, end_of, Fore, Aft, positive, fore_start, fore_inside, fore_node, fore_spacer, spacer_first, fore_first, fore_next, fore_end, aft_start, aft_inside, aft_node, aft_spacer, spacer_last, aft_last, aft_next, aft_end}

-- ---- to the right

-- The nodes past are done and those ahead are to be done; u is the price so far.
pub record Right {P : Problem} {c : Choice} {n p : ℕ} {t₀ : List ℤ} (L : Lap P c n p t₀) (t : List ℤ) (q u : ℕ) : Type 0 where
  pub past : List Node
  pub ahead : List Node
  pub split : others c ≡ past ++ ahead
  pub words : t ≡ run_events (items P) t₀ (L.done past)
  pub counts : u ≡ cost (L.done past)
  pub place : Fore c.option q (first_or (node c) (map spot ahead))

-- before anything is done
run_none : {P : Problem} {c : Choice} {n p : ℕ} {t₀ : List ℤ} (L : Lap P c n p t₀) → t₀ ≡ run_events (items P) t₀ (L.done [])
run_none {P} {t₀ = t₀} L = ap (run_events (items P) t₀) (sym L.none)

pub right_start : {P : Problem} {c : Choice} {n p : ℕ} {t₀ : List ℤ} (L : Lap P c n p t₀) → Right L t₀ (p + 1) 0
unfolding cost
right_start {c = c} L = record {
  past = [];
  ahead = others c;
  split = refl;
  words = run_none L;
  counts = ap cost (sym L.none);
  place = fore_start (L.stage [] (others c) refl) [] (others c) refl refl (ap (λ (k : ℕ). k + 1) L.is);
}

module _ {P : Problem} {c : Choice} {n p : ℕ} {t₀ : List ℤ} {L : Lap P c n p t₀} {t : List ℤ} {q u : ℕ} (K : Right L t q u) where
  O : InOption P c t
  O = rw K.words (L.stage K.past K.ahead K.split)

  right_size : length t ≡ 2 * (items P + 2) + 4 * nodes P
  right_size = O.table.size

  pub right_long : length t ≡ length t₀
  right_long = right_size ∙ sym (ap length (run_none L) ∙ (L.stage [] (others c) refl).table.size)

  right_inside : q < nodes P
  right_inside = fore_inside O K.past K.ahead K.split K.place

  pub right_few : u ≤ length t₀ + 2147483648 * 2147483648
  right_few = omega (arith, K.counts, L.few K.past K.ahead K.split)

  pub right_test : top n q < length t
  right_test = omega (arith, L.n_is, right_inside, right_size)

  pub right_below : q < length t₀
  right_below = omega (arith, right_test, right_long)

  module _ (ne : q ≢ p) where
    away : q ≢ node c
    away e = ne (e ∙ sym L.is)

    -- at a node
    module _ (b : positive t (top n q) ≡ true) where
      pub right_node : Front spot K.ahead q
      right_node = fore_node O K.past K.ahead K.split K.place away (rw (← L.n_is) b)

      -- what f does there
      pub right_does : {F : Type 0} (pre : F → MutBor (List ℤ) → ℕ → ℕ → Type 0) (post : F → MutBor (List ℤ) → ℕ → ℕ
          → ℕ → MutBor (List ℤ) → Type 0) (f : F)
          → Does pre post f L → (m : MutBor (List ℤ)) → m.now ≡ t
          → pre f m n q × ((r : ℕ) (m' : MutBor (List ℤ)) → post f m n q r m'
          → Done (items P) m.now (L.step K.past right_node.0) m'.now r)
      right_does pre post f D m e =
          let (y, ys, z, w) = right_node in
          subst (λ (k : ℕ). pre f m n k × ((r : ℕ) (m' : MutBor (List ℤ)) → post f m n k r m'
          → Done (items P) m.now (L.step K.past y) m'.now r))
          (sym w) (D K.past y ys (K.split ∙ ap (λ (l : List Node). K.past ++ l) z) m (e ∙ K.words))

      pub right_next : {t' : List ℤ} {r : ℕ} → Done (items P) t (L.step K.past right_node.0) t' r → Right L t' (q + 1) (u + r)
      right_next D =
          let y = right_node.0 in
          let e = L.more K.past y in
          record {
            past = K.past ++ (y ∷ []);
            ahead = right_node.1;
            split = split_on K.past K.split right_node.2;
            words = D.is ∙ ap (λ (z : List ℤ). run_events (items P) z (L.step K.past y)) K.words
                ∙ sym (foldl_append (apply (items P)) t₀ (L.done K.past) (L.step K.past y)) ∙ ap (run_events (items P) t₀) (sym e);
            counts = omega (arith, K.counts, D.counts, ap cost e, cost_append (L.done K.past) (L.step K.past y));
            place = fore_next O K.past K.ahead K.split K.place right_node;
          }

    -- at the spacer, which names the first node
    module _ (b : positive t (top n q) ≡ false) where
      at_end : (q ≡ end_of c.option) × (first_or (node c) (map spot K.ahead) ≡ c.option.first)
      at_end = fore_spacer O K.past K.ahead K.split K.place away (rw (← L.n_is) b)

      right_first : word t (up (items P) q) ≡ pos c.option.first
      right_first = spacer_first O K.past K.ahead K.split K.place at_end

      pub right_turns : HasLink t (up n q)
      right_turns = has_link t (omega (arith, L.n_is)) right_first (omega (arith, right_inside, right_size))

      module _ {q' : ℕ} (F : Link t (up n q) q') where
        first_is : q' ≡ c.option.first
        first_is = read t (omega (arith, L.n_is)) right_first F

        pub right_turn : Right L t q' u
        right_turn = record {
          past = K.past;
          ahead = K.ahead;
          split = K.split;
          words = K.words;
          counts = K.counts;
          place = fore_first O K.past K.ahead K.split K.place at_end first_is;
        }

        pub right_turn_near : way_right (length t₀) p q' < way_right (length t₀) p q
        right_turn_near = turn_less (length t₀) p q q' (omega (arith, at_end.0, L.is, O.inside)) (omega (arith, first_is, L.is)) right_below

  pub right_end : q ≡ p → Done (items P) t₀ (L.done (others c)) t u
  right_end e =
      let z = fore_end O K.past K.ahead K.split K.place (e ∙ L.is) in
      let all : others c ≡ K.past = K.split ∙ ap (λ (l : List Node). K.past ++ l) z ∙ append-nil K.past in
      rw all (record { is = K.words; counts = K.counts })

-- ---- back to the left

-- The nodes past are still done, and those ahead are undone.
pub record Left {P : Problem} {c : Choice} {n p : ℕ} {t₁ : List ℤ} (L : Lap P c n p t₁) (t : List ℤ) (q : ℕ) : Type 0 where
  pub past : List Node
  pub ahead : List Node
  pub split : others c ≡ past ++ ahead
  pub words : t ≡ run_events (items P) t₁ (L.done past)
  pub place : Aft c.option q (last_or (node c) (map spot past))

module _ {P : Problem} {c : Choice} {n p : ℕ} {t₁ : List ℤ} (L : Lap P c n p t₁) where
  pub left_some : 0 < p
  left_some = let r = placed_range P (L.stage [] (others c) refl).placed_in in omega (arith, L.is)

  pub left_start : {t : List ℤ} → t ≡ run_events (items P) t₁ (L.done (others c)) → Left L t (p - 1)
  left_start w =
      let s : others c ≡ others c ++ [] = sym (append-nil (others c)) in
      record { past = others c; ahead = []; split = s; words = w; place = aft_start (L.stage (others c) [] s) (others c) [] s refl L.is }

module _ {P : Problem} {c : Choice} {n p : ℕ} {t₁ : List ℤ} {L : Lap P c n p t₁} {t : List ℤ} {q : ℕ} (K : Left L t q) where
  seen : InOption P c t
  seen = rw K.words (L.stage K.past K.ahead K.split)

  pub left_size : length t ≡ 2 * (items P + 2) + 4 * nodes P
  left_size = seen.table.size

  pub left_long : {t₀ : List ℤ} → t₀ ≡ run_events (items P) t₁ (L.done (others c)) → length t ≡ length t₀
  left_long w = left_size ∙ sym (ap length w ∙ (L.stage (others c) [] (sym (append-nil (others c)))).table.size)

  left_inside : q < nodes P
  left_inside = aft_inside seen K.past K.ahead K.split K.place

  pub left_test : top n q < length t
  left_test = omega (arith, L.n_is, left_inside, left_size)

  module _ (ne : q ≢ p) where
    apart : q ≢ node c
    apart e = ne (e ∙ sym L.is)

    -- at a node
    module _ (b : positive t (top n q) ≡ true) where
      pub left_node : Rear spot K.past q
      left_node = aft_node seen K.past K.ahead K.split K.place apart (rw (← L.n_is) b)

      -- the table before it was done
      abbrev pub before : List ℤ
      before = run_events (items P) t₁ (L.done left_node.0)

      pub left_split : others c ≡ left_node.0 ++ (left_node.1 ∷ K.ahead)
      left_split = split_back left_node.0 left_node.1 K.ahead K.split left_node.2

      pub left_words : t ≡ run_events (items P) before (L.step left_node.0 left_node.1)
      left_words =
          K.words ∙ ap (λ (l : List Node). run_events (items P) t₁ (L.done l)) left_node.2 ∙ ap (run_events (items P) t₁) (L.more left_node.0 left_node.1)
          ∙ foldl_append (apply (items P)) t₁ (L.done left_node.0) (L.step left_node.0 left_node.1)

      -- what f undoes there
      pub left_does : {F : Type 0} (pre : F → MutBor (List ℤ) → ℕ → ℕ → Type 0)
          (post : F → MutBor (List ℤ) → ℕ → ℕ → Unit {0} → MutBor (List ℤ) → Type 0) (f : F)
          → Undoes pre post f L → (m : MutBor (List ℤ)) → m.now ≡ t
          → pre f m n q × ((m' : MutBor (List ℤ)) → post f m n q tt m' → m'.now ≡ before)
      left_does pre post f D m e =
          let (ys, y, z, w) = left_node in
          subst (λ (k : ℕ). pre f m n k × ((m' : MutBor (List ℤ)) → post f m n k tt m'
          → m'.now ≡ run_events (items P) t₁ (L.done ys)))
          (sym w) (D ys y K.ahead left_split m (e ∙ left_words))

      pub left_more : 0 < q
      left_more = (aft_next seen K.past K.ahead K.split K.place left_node).0

      pub left_near : (l : ℕ) → way_left l p (q - 1) < way_left l p q
      left_near l = left_less l p q ne left_more

      pub left_next : {t' : List ℤ} → t' ≡ before → Left L t' (q - 1)
      left_next e = record {
        past = left_node.0;
        ahead = left_node.1 ∷ K.ahead;
        split = left_split;
        words = e;
        place = (aft_next seen K.past K.ahead K.split K.place left_node).1;
      }

    -- at the spacer, which names the last node
    module _ (b : positive t (top n q) ≡ false) where
      at_start : (suc q ≡ c.option.first) × (suc (last_or (node c) (map spot K.past)) ≡ end_of c.option)
      at_start = aft_spacer seen K.past K.ahead K.split K.place apart (rw (← L.n_is) b)

      left_last : word t (down (items P) q) ≡ pos (q + length c.option.entries)
      left_last = spacer_last seen K.past K.ahead K.split K.place at_start

      pub left_turns : HasLink t (down n q)
      left_turns = has_link t (omega (arith, L.n_is)) left_last (omega (arith, left_inside, left_size))

      module _ {q' : ℕ} (F : Link t (down n q) q') where
        last_is : q' ≡ q + length c.option.entries
        last_is = read t (omega (arith, L.n_is)) left_last F

        pub left_turn : Left L t q'
        left_turn = record {
          past = K.past;
          ahead = K.ahead;
          split = K.split;
          words = K.words;
          place = aft_last seen K.past K.ahead K.split K.place at_start last_is;
        }

        pub left_turn_near : {l : ℕ} → length t ≡ l → way_left l p q' < way_left l p q
        left_turn_near {l} e =
            let r = placed_range P seen.placed_in in
            back_less l p q q' (omega (arith, at_start.0, L.is)) (omega (arith, at_start.0, last_is, L.is, seen.inside)) (omega (arith, at_start.0, last_is, left_size))

  pub left_end : q ≡ p → t ≡ t₁
  left_end e =
      let z = aft_end seen K.past K.ahead K.split K.place (e ∙ L.is) in
      K.words ∙ ap (run_events (items P) t₁) (ap L.done z ∙ L.none)

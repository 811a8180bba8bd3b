-- The walk of uncover and of unpurify up the list of the entry's item.
use mathlib.Core.Path.{◌≡◌, refl, sym, ap, ◌∙◌}
use mathlib.Core.Logic.{◌≢◌}
use mathlib.Core.Bool.{Bool, false}
use mathlib.Core.List.Memᴰ.{append_left as in_left}
use mathlib.Core.List.Memᴰ.{append_right as in_right}
use mathlib.Core.List.Memᴰ.{head as here}
use mathlib.Core.List.{List, [], ◌∷◌, ◌++◌, map, foldl, append-nil}
use Prim.Native.Nat.{ℕ, suc, ◌+◌, ◌*◌, ◌<◌}
use native.Mathlib.Omega.{arith}
use lib.IntN.{ℤ, pos}
use lib.ListN.{length}
use Rattle.rules.specs.Lists.{flat}
use Rattle.rules.specs.Words.{word}
use Rattle.rules.specs.Problem.{Entry, Problem, items}
use Rattle.rules.specs.Order.{one_colour, Choice, node}
use Rattle.rules.specs.Links.{own, linked, met, last_or, up, colour_at, run_events}
use Rattle.words.specs.Read.{Link}
use Rattle.tables.specs.Nodes.{nodes, linked_of, placed_range}
use Rattle.tables.specs.Shows.{view}
use Rattle.tables.specs.Views.{View, after, shade, foldl_append}
use Rattle.tables.specs.Met.{met_all, walked, own_marked}
use Rattle.links.specs.Rising.{linked_rise, rise_before}
use Rattle.links.specs.Steps.{HasLink, Hidden, CanTouch, Met}
use Rattle.links.proofs.Words.{has_link, read}
use Rattle.links.proofs.Cursor.{Rear, rear, no_rear, last_all, split_back, run_snoc, flat_snoc}
use Rattle.links.proofs.Found.{node_in}
use Rattle.links.proofs.Touching.{head_fair, meet, chain, table_now, other, short_now, last_fair, previous_word, can_meet}

-- a node that was hidden when it was met
pub met_hidden : {P : Problem} {W : View} {n : ℕ} {t₁ t : List ℤ} {held : List Entry} {e : Entry} {d : Choice} {q : ℕ} → Met P W n t₁ t held e d q
    → one_colour e (own d) ≡ false → Hidden P W n t₁ t held d q
met_hidden {P} {t₁ = t₁} {held = held} {d = d} M b = record {
  can = M.can.can;
  is = M.is ∙ ap (λ (x : Bool). run_events (items P) t₁ (met P x held d)) b;
  small = M.small;
  short = M.short;
}

pub record Untouching (P : Problem) (held : List Entry) (e : Entry) (t₁ t : List ℤ) (p : ℕ) : Type 0 where
  pub past : List Choice
  pub ahead : List Choice
  pub split : linked P held e.item ≡ past ++ ahead
  pub words : t ≡ run_events (items P) t₁ (met_all P held e past)
  pub place : p ≡ last_or (suc e.item) (map node past)

module _ {P : Problem} {held : List Entry} {n : ℕ} {t₁ : List ℤ} {e : Entry} (C : CanTouch P held n t₁ e) where
  -- all choices have been met
  module _ {t : List ℤ} (words : t ≡ run_events (items P) t₁ (met_all P held e (linked P held e.item))) where
    whole : linked P held e.item ≡ linked P held e.item ++ []
    whole = sym (append-nil (linked P held e.item))

    pub end_size : length t ≡ 2 * (items P + 2) + 4 * nodes P
    end_size = (table_now C (chain C) [] whole words).size

    end_last : word t (up (items P) (suc e.item)) ≡ pos (last_or (suc e.item) (map node (chain C)))
    end_last = previous_word C (chain C) [] whole words

    -- the header's words are read
    module _ {i : ℕ} (is : i ≡ suc e.item) where
      pub has_last : HasLink t (up n i)
      has_last = has_link t (omega (arith, C.n_is)) end_last (omega (arith, (head_fair C).1, end_size))

      pub untouching_start : {p : ℕ} → Link t (up n i) p → Untouching P held e t₁ t p
      untouching_start F = record {
        past = chain C;
        ahead = [];
        split = whole;
        words = words;
        place = read t (omega (arith, C.n_is)) end_last F;
      }

  module _ {t : List ℤ} {p : ℕ} (K : Untouching P held e t₁ t p) where
    untouching_inside : p < nodes P
    untouching_inside = omega (arith, K.place, (last_fair C K.past K.ahead K.split).1)

    pub untouching_end : {i : ℕ} → i ≡ suc e.item → p ≡ i → t ≡ t₁
    unfolding flat
    untouching_end is h =
        let z = no_rear node (suc e.item) K.past (λ c m. other C K.past K.ahead K.split c (in_left K.ahead m)) (sym K.place ∙ h ∙ is) in
        K.words ∙ ap (λ (x : List Choice). run_events (items P) t₁ (met_all P held e x)) z

    module _ {i : ℕ} (is : i ≡ suc e.item) (ne : p ≢ i) where
      pub met_last : Rear node K.past p
      met_last = rear node (suc e.item) K.past K.place (λ z. ne (z ∙ sym is))

      abbrev ys : List Choice
      ys = met_last.0

      abbrev c : Choice
      c = met_last.1

      -- the table before this node was met
      abbrev pub fore : List ℤ
      fore = run_events (items P) t₁ (met_all P held e met_last.0)

      split' : linked P held e.item ≡ ys ++ (c ∷ K.ahead)
      split' = split_back ys c K.ahead K.split met_last.2

      words' : t ≡ run_events (items P) fore (meet P held e c)
      words' = K.words ∙ ap (λ (x : List Choice). run_events (items P) t₁ (met_all P held e x)) met_last.2 ∙ run_snoc (meet P held e) ys c (items P) t₁

      -- the node's colour says what was done there
      colour_now : word t (colour_at (items P) p) ≡ shade (one_colour e (own c)) (own c).colour
      colour_now =
          let F = linked_of P held e.item {c = c} (rw split' (in_right ys (here refl))) in
          let T = table_now C K.past K.ahead K.split K.words in
          let seen : (walked P held e K.past).marked (node c) ≡ one_colour e (own c) =
          ap (λ (x : List Choice). (walked P held e x).marked (node c)) met_last.2
          ∙ ap (λ (x : List _). (foldl after (view P held) x).marked (node c)) (flat_snoc (meet P held e) ys c)
          ∙ ap (λ (W : View). W.marked (node c)) (foldl_append after (view P held) (met_all P held e ys) (meet P held e c))
          ∙ own_marked P C.shown.good held e C.item C.free ys c K.ahead split' in
          ap (λ (k : ℕ). word t (colour_at (items P) k)) met_last.3
          ∙ (T.named c.option F.placed_in _ (node_in c.option.first c.option.entries c.at (record { item = 0; colour = 0 }) F.inside)).colour_is
          ∙ ap (λ (b : Bool). shade b (own c).colour) seen

      pub untouching_node : Met P (walked P held e met_last.0) n fore t held e met_last.1 p
      untouching_node = record {
        can = can_meet C ys (c ∷ K.ahead) split' refl c K.ahead refl met_last.3;
        is = words';
        colour_now = colour_now;
        small = C.shown.small;
        short = short_now C ys (c ∷ K.ahead) split';
      }

      module _ {t' : List ℤ} (w : t' ≡ fore) where
        next_up : word t' (up (items P) p) ≡ pos (last_or (suc e.item) (map node met_last.0))
        next_up = ap (λ (k : ℕ). word t' (up (items P) k)) met_last.3 ∙ previous_word C ys (c ∷ K.ahead) split' w

        pub has_previous : HasLink t' (up n p)
        has_previous = has_link t' (omega (arith, C.n_is)) next_up (omega (arith, untouching_inside, (table_now C ys (c ∷ K.ahead) split' w).size))

        -- a node nearer to the header
        pub untouching_near : {p' : ℕ} → Link t' (up n p) p' → p' < p
        untouching_near L =
            let a = rw split' at (linked_rise P held e.item) in
            let F = linked_of P held e.item {c = c} (rw split' (in_right ys (here refl))) in
            let r = placed_range P F.placed_in in
            let k = last_all node (λ k. k < node c) (suc e.item) ys (omega (
              arith,
              C.item,
              r.0,
            )) (rise_before ys c K.ahead a) in
            omega (arith, read t' (omega (arith, C.n_is)) next_up L, met_last.3, k)

        pub untouching_next : {p' : ℕ} → Link t' (up n p) p' → Untouching P held e t₁ t' p'
        untouching_next L = record {
          past = ys;
          ahead = c ∷ K.ahead;
          split = split';
          words = w;
          place = read t' (omega (arith, C.n_is)) next_up L;
        }

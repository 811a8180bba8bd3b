-- The walk of cover and of purify down the list of the entry's item.
use mathlib.Core.Path.{◌≡◌, refl, sym, ap, ◌∙◌}
use mathlib.Core.Logic.{◌≢◌}
use mathlib.Core.Bool.{not}
use mathlib.Core.List.Memᴰ.{append_left as in_left}
use mathlib.Core.List.Memᴰ.{append_right as in_right}
use mathlib.Core.List.Memᴰ.{head as here}
use mathlib.Core.List.{List, [], ◌∷◌, ◌++◌, map, append-nil, Memᴰ as Mem}
use Prim.Native.Nat.{ℕ, zero, suc, ◌+◌, ◌<◌}
use native.Mathlib.Omega.{arith}
use lib.IntN.{ℤ, pos}
use lib.ListN.{length, length-map}
use Rattle.rules.specs.Lists.{flat}
use Rattle.rules.specs.Words.{word}
use Rattle.rules.specs.Problem.{Entry, Problem, items}
use Rattle.rules.specs.Order.{one_colour, Choice, node}
use Rattle.rules.specs.Links.{Event, own, linked, met, ring_part, touch, first_or, last_or, cost, up, down, run_events}
use Rattle.laws.specs.Lists.{keep_length, among}
use Rattle.laws.specs.Faults.{Good}
use Rattle.tables.specs.Nodes.{Of, linked_of, nodes, placed_range}
use Rattle.words.specs.Read.{Link}
use Rattle.tables.specs.Touch.{unlinks}
use Rattle.tables.specs.Undo.{word_of}
use Rattle.tables.specs.Views.{Table}
use Rattle.tables.specs.Shows.{view, since, fold_list}
use Rattle.tables.specs.Met.{met_all, walked, met_table, met_cursor, met_whole, met_colour}
use Rattle.links.specs.Moves.{Done}
use Rattle.links.specs.Rising.{linked_rise, way_down, down_less}
use Rattle.links.specs.Steps.{HasLink, Short, CanTouch, CanMeet}
use Rattle.links.proofs.Words.{has_link, read}
use Rattle.links.proofs.Cursor.{Front, front, no_front, first_all, last_all, last_snoc, split_on, run_snoc, cost_snoc}
use Rattle.links.proofs.Bounds.{spans, spans_length, spans_part, linked_few, met_all_few}

-- what is done where the choice d is met
abbrev pub meet : Problem → List Entry → Entry → Choice → List Event
meet P held e d = met P (one_colour e (own d)) held d

-- ---- the choices xs have been met, and zs are to be met

module _ {P : Problem} {held : List Entry} {n : ℕ} {t₀ : List ℤ} {e : Entry} (C : CanTouch P held n t₀ e) where
  abbrev G : Good P
  G = C.shown.good

  abbrev pub head : ℕ
  head = suc e.item

  -- a number that can stand in a link of the list
  abbrev pub Fair : ℕ → Type 0
  Fair k = (0 < k) × (k < nodes P)

  pub head_fair : Fair head
  unfolding nodes
  head_fair = (omega arith, omega (arith, C.item))

  module _ (xs zs : List Choice) (split : linked P held e.item ≡ xs ++ zs) where
    of : {c : Choice} → Mem c (xs ++ zs) → Of P held e.item c
    of m = linked_of P held e.item (rw split m)

    fair : (c : Choice) → Mem c (xs ++ zs) → Fair (node c)
    fair c m = let r = placed_range P (of m).placed_in in (omega arith, omega (arith, r.1, (of m).inside))

    -- no choice's node is the header
    pub other : (c : Choice) → Mem c (xs ++ zs) → node c ≢ head
    other c m z = let r = placed_range P (of m).placed_in in omega (arith, C.item)

    pub last_fair : Fair (last_or head (map node xs))
    last_fair = last_all node Fair head xs head_fair (λ c m. fair c (in_left zs m))

    first_fair : Fair (first_or head (map node zs))
    first_fair = first_all node Fair head zs head_fair (λ c m. fair c (in_right xs m))

    -- no list is longer than a word can count
    pub short_now : Short P (walked P held e xs)
    short_now i hi =
        let l = linked P (since i held) i in
        omega (
          arith,
          ap length (fold_list (view P held) (met_all P held e xs) i),
          keep_length (λ x. not (among (unlinks (met_all P held e xs)) x)) (map node l),
          length-map l node,
          spans_length l,
          linked_few P (since i held) i,
          C.shown.small,
        )

    module _ {t : List ℤ} (words : t ≡ run_events (items P) t₀ (met_all P held e xs)) where
      pub table_now : Table P (walked P held e xs) t
      table_now = rw words (met_table P G held e C.item C.free xs zs split t₀ C.shown.shows)

      next_word : word t (down (items P) (last_or head (map node xs))) ≡ pos (first_or head (map node zs))
      next_word =
          word_of (word t (down (items P) (last_or head (map node xs)))) (first_or head (map node zs))
          (rw words (met_cursor P G held e C.item C.free xs zs split t₀ C.shown.shows).0) first_fair.0

      pub previous_word : word t (up (items P) (first_or head (map node zs))) ≡ pos (last_or head (map node xs))
      previous_word =
          word_of (word t (up (items P) (first_or head (map node zs)))) (last_or head (map node xs))
          (rw words (met_cursor P G held e C.item C.free xs zs split t₀ C.shown.shows).1) last_fair.0

      pub can_meet : (c : Choice) (ys : List Choice) → zs ≡ c ∷ ys → {q : ℕ} → q ≡ node c → CanMeet P (walked P held e xs) n t held c q
      can_meet c ys z {q} w =
          let s = rw z at split in
          let F = of {c = c} (rw z (in_right xs (here refl))) in
          record {
            can = record {
              good = G;
              n_is = C.n_is;
              table = table_now;
              placed_in = F.placed_in;
              inside = F.inside;
              whole = met_whole P G held e C.item C.free xs c ys s;
              is = w;
            };
            colour_is = rw (w, words) (met_colour P G held e C.item C.free xs c ys s t₀ C.shown.shows);
          }

-- a purified item stays in its ring
pub touch_coloured : (P : Problem) (held : List Entry) (e : Entry) → 0 < e.colour → touch P held e ≡ met_all P held e (linked P held e.item)
unfolding touch
touch_coloured P held e s = go e.colour s
  where
    go : (k : ℕ) → 0 < k → met_all P held e (linked P held e.item) ++ ring_part k e.item ≡ met_all P held e (linked P held e.item)
    go zero s = absurd (omega arith)
    go (suc k) s = append-nil (met_all P held e (linked P held e.item))

-- ---- down the list

pub record Touching (P : Problem) (held : List Entry) (e : Entry) (t₀ t : List ℤ) (p u : ℕ) : Type 0 where
  pub past : List Choice
  pub ahead : List Choice
  pub split : linked P held e.item ≡ past ++ ahead
  pub words : t ≡ run_events (items P) t₀ (met_all P held e past)
  pub counts : u ≡ cost (met_all P held e past)
  pub place : p ≡ first_or (suc e.item) (map node ahead)

pub touching_few : {P : Problem} {held : List Entry} {e : Entry} {t₀ t : List ℤ} {p u : ℕ}
    → Touching P held e t₀ t p u → u < nodes P
touching_few {P} {held} {e} K =
    omega (arith, K.counts, met_all_few P held e K.past, spans_part K.past K.ahead, ap spans K.split, linked_few P held e.item)

module _ {P : Problem} {held : List Entry} {n : ℕ} {t₀ : List ℤ} {e : Entry} (C : CanTouch P held n t₀ e) where
  abbrev pub chain : List Choice
  chain = linked P held e.item

  start_first : word t₀ (down (items P) (suc e.item)) ≡ pos (first_or (suc e.item) (map node chain))
  unfolding flat last_or
  start_first = next_word C [] chain refl refl

  -- the header's words are read
  module _ {i : ℕ} (is : i ≡ suc e.item) where
    pub has_first : HasLink t₀ (down n i)
    has_first = has_link t₀ (omega (arith, C.n_is)) start_first (omega (arith, (head_fair C).1, C.shown.shows.size))

    pub touching_start : {p : ℕ} → Link t₀ (down n i) p → Touching P held e t₀ t₀ p 0
    unfolding flat cost
    touching_start F = record {
      past = [];
      ahead = chain;
      split = refl;
      words = refl;
      counts = refl;
      place = read t₀ (omega (arith, C.n_is)) start_first F;
    }

  module _ {t : List ℤ} {p u : ℕ} (K : Touching P held e t₀ t p u) where
    touching_inside : p < nodes P
    touching_inside = omega (arith, K.place, (first_fair C K.past K.ahead K.split).1)

    -- ---- at a node

    module _ {i : ℕ} (is : i ≡ suc e.item) (ne : p ≢ i) where
      pub met_now : Front node K.ahead p
      met_now = front node (suc e.item) K.ahead K.place (λ z. ne (z ∙ sym is))

      pub touching_node : CanMeet P (walked P held e K.past) n t held met_now.0 p
      touching_node = can_meet C K.past K.ahead K.split K.words met_now.0 met_now.1 met_now.2 met_now.3

      module _ {t' : List ℤ} {r : ℕ} (D : Done (items P) t (meet P held e met_now.0) t' r) where
        split' : chain ≡ (K.past ++ (met_now.0 ∷ [])) ++ met_now.1
        split' = split_on K.past K.split met_now.2

        words' : t' ≡ run_events (items P) t₀ (met_all P held e (K.past ++ (met_now.0 ∷ [])))
        words' =
            D.is ∙ ap (λ (z : List ℤ). run_events (items P) z (meet P held e met_now.0)) K.words
            ∙ sym (run_snoc (meet P held e) K.past met_now.0 (items P) t₀)

        next_down : word t' (down (items P) p) ≡ pos (first_or (suc e.item) (map node met_now.1))
        next_down =
            ap (λ (k : ℕ). word t' (down (items P) k)) (met_now.3 ∙ sym (last_snoc node (suc e.item) K.past met_now.0))
            ∙ next_word C (K.past ++ (met_now.0 ∷ [])) met_now.1 split' words'

        pub has_next : HasLink t' (down n p)
        has_next =
            has_link t' (omega (arith, C.n_is)) next_down
            (omega (arith, touching_inside, (table_now C (K.past ++ (met_now.0 ∷ [])) met_now.1 split' words').size))

        onward : {p' : ℕ} → p' ≡ first_or (suc e.item) (map node met_now.1) → Touching P held e t₀ t' p' (u + r)
        onward ep = record {
          past = K.past ++ (met_now.0 ∷ []);
          ahead = met_now.1;
          split = split';
          words = words';
          counts = omega (arith, K.counts, D.counts, cost_snoc (meet P held e) K.past met_now.0);
          place = ep;
        }

        -- a node nearer to the header
        pub touching_near : {p' : ℕ} → Link t' (down n p) p' → way_down (length t₀) i p' < way_down (length t₀) i p
        touching_near L =
            let s : chain ≡ K.past ++ (met_now.0 ∷ met_now.1) = K.split
            ∙ ap (λ (l : List Choice). K.past ++ l) met_now.2 in
            let e' = read t' (omega (arith, C.n_is)) next_down L
            ∙ ap (λ (h : ℕ). first_or h (map node met_now.1)) (sym is) in
            down_less K.past met_now.0 met_now.1 (rw s at (linked_rise P held e.item)) met_now.3 e' ne
            (omega (arith, touching_inside, C.shown.shows.size))

        pub touching_next : {p' : ℕ} → Link t' (down n p) p' → Touching P held e t₀ t' p' (u + r)
        touching_next L = onward (read t' (omega (arith, C.n_is)) next_down L)

        pub sum_few : u + r < nodes P
        sum_few = touching_few (onward refl)

    -- ---- the end

    module _ {i : ℕ} (is : i ≡ suc e.item) (h : p ≡ i) where
      all : K.past ≡ chain
      all =
          let z = no_front node (suc e.item) K.ahead (λ c m. other C K.past K.ahead K.split c (in_right K.past m)) (sym K.place ∙ h ∙ is) in
          sym (K.split ∙ ap (λ (a : List Choice). K.past ++ a) z ∙ append-nil K.past)

      pub met_list : t ≡ run_events (items P) t₀ (met_all P held e chain)
      met_list = K.words ∙ ap (λ (l : List Choice). run_events (items P) t₀ (met_all P held e l)) all

      pub paid : u ≡ cost (met_all P held e chain)
      paid = K.counts ∙ ap (λ (l : List Choice). cost (met_all P held e l)) all

      pub purified : 0 < e.colour → Done (items P) t₀ (touch P held e) t u
      purified s =
          let x = touch_coloured P held e s in
          record { is = met_list ∙ ap (run_events (items P) t₀) (sym x); counts = paid ∙ ap cost (sym x) }

-- Hiding an option and unhiding it: one node, and the walk round the option.
use mathlib.Core.Path.{◌≡◌, refl, sym, ap, ◌∙◌, subst}
use mathlib.Core.Logic.{◌⊎◌, inl, inr}
use mathlib.Core.Bool.{Bool, true, false, not}
use mathlib.Core.List.Memᴰ.{append_right as in_right}
use mathlib.Core.List.Memᴰ.{head as here}
use mathlib.Core.List.{List, [], ◌∷◌, ◌++◌, map, foldl, Memᴰ as Mem}
use Prim.Native.Nat.{ℕ, zero, suc, ◌+◌, ◌<◌, ◌≤◌}
use native.Mathlib.Omega.{arith}
use lib.Dec.{T, T_not, eqb}
use lib.IntN.{ℤ}
use lib.Signed.{non_neg}
use lib.ListN.{length, take, drop, length-append}
use Rattle.rules.specs.Lists.{also, keep, flat}
use Rattle.rules.specs.Words.{word}
use Rattle.rules.specs.Problem.{Entry, Problem, items}
use Rattle.rules.specs.Order.{has_item, Choice}
use Rattle.rules.specs.Links.{Event, unlink, Node, nodes_from, others, hide, cost, colour_at, apply, run_events}
use Rattle.laws.specs.Lists.{one_true, tested, keep_length, flat_append}
use Rattle.tables.specs.Nodes.{nodes, nodes_range, nodes_length, placed_range, others_mem}
use Rattle.tables.specs.Rings.{without, without_length}
use Rattle.tables.specs.Undo.{undo}
use Rattle.tables.specs.Views.{View, after, Table, Fits, Fit, shade, event_table, event_undone, neighbours, still_words, fit_split, run_table}
use Rattle.tables.specs.Met.{whole_fit}
use Rattle.links.specs.Moves.{Done}
use Rattle.links.specs.Steps.{SomeUnlink, SomeRelink, OneNode, unless, Short, OneHidden, CanHide, Hidden}
use Rattle.links.proofs.Cursor.{flat_snoc}
use Rattle.links.specs.Laps.{Lap}

-- ---- one node

nonneg_shade : (b : Bool) (k : ℕ) → non_neg (shade b k) ≡ not b
nonneg_shade true k = refl
nonneg_shade false k = refl

pub not_true : (b : Bool) → not b ≡ true → b ≡ false
not_true true e = sym e
not_true false e = refl

pub not_false : (b : Bool) → not b ≡ false → b ≡ true
not_false true e = refl
not_false false e = sym e

-- what a test of the colour, which is not negative just if m is false, says of m
module _ {x v : Bool} (m : Bool) (tells : x ≡ not m) (e : v ≡ x) where
  pub unmarked : v ≡ true → m ≡ false
  unmarked h = not_true m (sym tells ∙ sym e ∙ h)

  pub marked : v ≡ false → m ≡ true
  marked h = not_false m (sym tells ∙ sym e ∙ h)

module _ {P : Problem} {W : View} {n : ℕ} {t : List ℤ} {x : Node} {q : ℕ} (A : OneNode P W n t x q) where
  node_inside : q < nodes P
  node_inside =
      let a = nodes_range A.option.first A.option.entries A.node_in in
      let b = placed_range P A.placed_in in
      omega (arith, A.is)

  pub node_colour : colour_at n q < length t
  node_colour = omega (arith, A.n_is, node_inside, A.table.size)

  -- the colour tells whether the node is marked
  colour_in : (W' : View) (z : List ℤ) → Table P W' z → non_neg (word z (colour_at n q)) ≡ not (W'.marked q)
  colour_in W' z S =
      ap (λ (k : ℕ). non_neg (word z (colour_at k q))) A.n_is ∙ ap (λ (k : ℕ). non_neg (word z (colour_at (items P) k))) A.is ∙ ap non_neg (S.named A.option A.placed_in x A.node_in).colour_is
      ∙ nonneg_shade (W'.marked x.at) x.entry.colour ∙ ap (λ (k : ℕ). not (W'.marked k)) (sym A.is)

  pub node_tells : non_neg (word t (colour_at n q)) ≡ not (W.marked q)
  node_tells = colour_in W t A.table

  module _ (f : W.marked q ≡ false) where
    fitting : Fits P W (unlink q)
    fitting = A.fits (rw f tt)

    pub can_unlink : SomeUnlink n t q
    can_unlink =
        let (i, hi, mq) = fitting in
        let B = neighbours P A.good W t A.table i hi q mq in (
          P,
          i,
          _,
          _,
          record {
            between = record {
              n_is = A.n_is;
              size = A.table.size;
              item = hi;
              inside = B.in_table;
              top_is = B.top_is;
              up_is = B.up_is;
              up_in = B.up_in;
              down_is = B.down_is;
              down_in = B.down_in;
            };
            others = B.left_in;
            count_is = B.count_is;
          },
        )

    pub hide_unmarked : {t' : List ℤ} → t' ≡ apply n t (unlink q) → Done (items P) t (unless (W.marked q) q) t' 1
    unfolding cost
    hide_unmarked e = rw f (record { is = e ∙ ap (λ (k : ℕ). apply k t (unlink q)) A.n_is; counts = refl })

  pub hide_marked : W.marked q ≡ true → Done (items P) t (unless (W.marked q) q) t 0
  unfolding cost
  hide_marked f = rw f (record { is = refl; counts = refl })

module _ {P : Problem} {W : View} {n : ℕ} {t₁ t : List ℤ} {x : Node} {q : ℕ} (H : OneHidden P W n t₁ t x q) where
  A : OneNode P W n t₁ x q
  A = H.node

  words_now : (b : Bool) → W.marked q ≡ b → t ≡ run_events (items P) t₁ (unless b q)
  words_now b e = H.is ∙ ap (λ (m : Bool). run_events (items P) t₁ (unless m q)) e

  gone : W.marked q ≡ false → Table P (after W (unlink q)) t
  gone f = rw (words_now false f) (event_table P A.good W t₁ A.table (unlink q) (fitting A f))

  hidden_long : length t ≡ length t₁
  hidden_long = go (W.marked q) refl
    where
      go : (b : Bool) → W.marked q ≡ b → length t ≡ length t₁
      go true e = ap length (words_now true e)
      go false e = (gone e).size ∙ sym A.table.size

  pub hidden_colour : colour_at n q < length t
  hidden_colour = omega (arith, hidden_long, node_colour A)

  pub hidden_tells : non_neg (word t (colour_at n q)) ≡ not (W.marked q)
  hidden_tells = go (W.marked q) refl
    where
      go : (b : Bool) → W.marked q ≡ b → non_neg (word t (colour_at n q)) ≡ not (W.marked q)
      go true e = ap (λ (z : List ℤ). non_neg (word z (colour_at n q))) (words_now true e) ∙ node_tells A
      go false e = colour_in A (after W (unlink q)) t (gone e)

  module _ (f : W.marked q ≡ false) where
    pub can_relink : SomeRelink n t q
    can_relink =
        let (i, hi, mq) = fitting A f in
        let B = neighbours P A.good W t₁ A.table i hi q mq in
        let w = rw (← words_now false f) at (still_words P A.good W t₁ A.table i hi q mq) in (
          P,
          i,
          _,
          _,
          record {
            between = record {
              n_is = A.n_is;
              size = hidden_long ∙ A.table.size;
              item = hi;
              inside = B.in_table;
              top_is = w.2;
              up_is = w.0;
              up_in = B.up_in;
              down_is = w.1;
              down_in = B.down_in;
            };
            small = H.small;
            others = length (without q (W.list i));
            count_is = (gone f).counted i hi;
            room = omega (arith, H.short i hi, without_length (A.table.lists.distinct i hi).1 mq);
          },
        )

    pub unhide_unmarked : {t' : List ℤ} → t' ≡ undo n t (unlink q) → t' ≡ t₁
    unhide_unmarked e =
        e ∙ ap (λ (k : ℕ). undo k t (unlink q)) A.n_is ∙ ap (λ (z : List ℤ). undo (items P) z (unlink q)) (words_now false f)
        ∙ event_undone P A.good W t₁ A.table (unlink q) (fitting A f)

  pub unhide_marked : W.marked q ≡ true → t ≡ t₁
  unhide_marked f = words_now true f

-- ---- the option's other nodes, one after the other

abbrev pub hide_node : List Entry → Node → List Event
hide_node held x = unless (has_item x.entry.item held) x.at

abbrev pub hides : List Entry → List Node → List Event
hides held xs = flat (hide_node held) xs

pub hide_is : (P : Problem) (held : List Entry) (c : Choice) → hide P held c ≡ hides held (others c)
unfolding hide keep flat
hide_is P held c = go (others c)
  where
    one : (b : Bool) (x : Node) (ns : List Node) → map (λ (y : Node). unlink y.at) (also (not b) x ns) ≡ unless b x.at ++ map (λ (y : Node). unlink y.at) ns
    one true x ns = refl
    one false x ns = refl

    go : (xs : List Node) → map (λ x. unlink x.at) (keep (λ x. not (has_item x.entry.item held)) xs) ≡ hides held xs
    go [] = refl
    go (x ∷ xs) = one (has_item x.entry.item held) x (keep (λ y. not (has_item y.entry.item held)) xs) ∙ ap (λ (l : List Event). hide_node held x ++ l) (go xs)

-- marks and the lengths of lists, while nodes leave
hides_marked : (held : List Entry) (xs : List Node) (W : View) (q : ℕ) → (foldl after W (hides held xs)).marked q ≡ W.marked q
unfolding flat
hides_marked held [] W q = refl
hides_marked held (x ∷ xs) W q = go (has_item x.entry.item held) (λ W'. hides_marked held xs W' q)
  where
    go : (b : Bool) → ((W' : View) → (foldl after W' (hides held xs)).marked q ≡ W'.marked q) → (foldl after W (unless b x.at ++ hides held xs)).marked q ≡ W.marked q
    go true rec = rec W
    go false rec = rec (after W (unlink x.at))

hides_short : (P : Problem) (held : List Entry) (xs : List Node) (W : View) → Short P W → Short P (foldl after W (hides held xs))
unfolding flat
hides_short P held [] W s = s
hides_short P held (x ∷ xs) W s = go (has_item x.entry.item held) (λ W' s'. hides_short P held xs W' s')
  where
    go : (b : Bool) → ((W' : View) → Short P W' → Short P (foldl after W' (hides held xs))) → Short P (foldl after W (unless b x.at ++ hides held xs))
    go true rec = rec W s
    go false rec = rec (after W (unlink x.at)) (λ i h. omega (arith, s i h, keep_length (λ y. not (eqb x.at y)) (W.list i)))

pub hides_few : (held : List Entry) (xs : List Node) → cost (hides held xs) ≤ length xs
unfolding flat cost
hides_few held [] = omega arith
hides_few held (x ∷ xs) = go (has_item x.entry.item held) (hides_few held xs)
  where
    go : (b : Bool) → cost (hides held xs) ≤ length xs → cost (unless b x.at ++ hides held xs) ≤ suc (length xs)
    go true h = omega arith
    go false h = omega arith

pub others_few : (c : Choice) → length (others c) ≤ length c.option.entries
unfolding others
others_few c =
    let ns = nodes_from c.option.first c.option.entries in
    omega (arith, length-append (drop (suc c.at) ns) (take c.at ns), parts c.at ns, nodes_length c.option.first c.option.entries)
  where
    parts : (k : ℕ) (l : List Node) → length (drop (suc k) l) + length (take k l) ≤ length l
    parts zero [] = omega arith
    parts (suc k) [] = omega arith
    parts zero (x ∷ l) = omega arith
    parts (suc k) (x ∷ l) = omega (arith, parts k l)

module _ {P : Problem} {W : View} {n : ℕ} {t₀ : List ℤ} {held : List Entry} {c : Choice} {p : ℕ} (C : CanHide P W n t₀ held c p) where
  told : (x : Node) → Mem x (others c) → W.marked x.at ≡ has_item x.entry.item held
  told x m = one_true (W.marked x.at) (has_item x.entry.item held) (λ u. go u (tested (has_item x.entry.item held))) (C.whole.stays x m)
    where
      go : T (W.marked x.at) → T (has_item x.entry.item held) ⊎ T (not (has_item x.entry.item held)) → T (has_item x.entry.item held)
      go u (inl h) = h
      go u (inr f) = absurd (T_not (W.marked x.at) (C.whole.plain x m f) u)

  -- the nodes xs have been met, and zs are to be met
  module _ (xs zs : List Node) (split : others c ≡ xs ++ zs) where
    abbrev now : View
    now = foldl after W (hides held xs)

    fit : Fit P W (hides held xs) × Fit P now (hides held zs)
    fit = fit_split P W (hides held xs) (hides held zs)
        (subst (Fit P W) (hide_is P held c ∙ ap (hides held) split ∙ flat_append (hide_node held) xs zs) (whole_fit P W held c C.whole))

    table_now : Table P now (run_events (items P) t₀ (hides held xs))
    table_now = run_table P C.good W t₀ (hides held xs) C.table fit.0

    module _ (x : Node) (ys : List Node) (e : zs ≡ x ∷ ys) where
      here_in : Mem x (others c)
      here_in = rw (split, e) (in_right xs (here refl))

      told_now : now.marked x.at ≡ has_item x.entry.item held
      told_now = hides_marked held xs W x.at ∙ told x here_in

      pub one_node : {q : ℕ} → q ≡ x.at → {t : List ℤ} → t ≡ run_events (items P) t₀ (hides held xs)
          → OneNode P now n t x q
      unfolding flat
      one_node {q} w f = record {
        good = C.good;
        n_is = C.n_is;
        table = rw f table_now;
        option = c.option;
        placed_in = C.placed_in;
        node_in = others_mem c here_in;
        is = w;
        fits = rw w (λ k. go (has_item x.entry.item held) (rw told_now at k) (rw e at fit.1));
      }
        where
          go : (b : Bool) → T (not b) → Fit P now (unless b x.at ++ hides held ys) → Fits P now (unlink x.at)
          go true k g = absurd k
          go false k g = g.0

      pub one_is : {q : ℕ} → q ≡ x.at → unless (now.marked q) q ≡ hide_node held x
      one_is w = rw w (ap (λ (b : Bool). unless b x.at) told_now)

  pub hide_lap : Lap P c n p t₀
  unfolding flat
  hide_lap = record {
    n_is = C.n_is;
    is = C.is;
    done = hides held;
    step = λ xs x. hide_node held x;
    none = refl;
    more = λ xs x. flat_snoc (hide_node held) xs x;
    stage = λ xs zs s.
        record { sees = foldl after W (hides held xs); table = table_now xs zs s; placed_in = C.placed_in; inside = C.inside };
    few = λ xs zs s. let r = placed_range P C.placed_in in
        omega (arith, hides_few held xs, ap length s, length-append xs zs, others_few c, C.table.size);
  }

-- ---- in the loops

module _ {P : Problem} {W : View} {n : ℕ} {t₀ : List ℤ} {held : List Entry} {c : Choice} {p : ℕ} (C : CanHide P W n t₀ held c p) where
  -- a node that the walk comes to
  module _ (xs : List Node) (y : Node) (zs : List Node) (s : others c ≡ xs ++ y ∷ zs) where
    abbrev pub hide_view : View
    hide_view = foldl after W (hides held xs)

    pub hide_here : {t : List ℤ} → t ≡ run_events (items P) t₀ ((hide_lap C).done xs) → OneNode P hide_view n t y y.at
    unfolding hide_lap
    hide_here e = one_node C xs (y ∷ zs) s y zs refl refl e

    pub hide_step : {t t' : List ℤ} {r : ℕ} → Done (items P) t (unless (hide_view.marked y.at) y.at) t' r
        → Done (items P) t ((hide_lap C).step xs y) t' r
    unfolding hide_lap
    hide_step D = rw (one_is C xs (y ∷ zs) s y zs refl refl) at D

  pub hide_all : {t : List ℤ} {u : ℕ} → Done (items P) t₀ ((hide_lap C).done (others c)) t u → Done (items P) t₀ (hide P held c) t u
  unfolding hide_lap
  hide_all D = rw (hide_is P held c) D

module _ {P : Problem} {W : View} {n : ℕ} {t₁ t₀ : List ℤ} {held : List Entry} {c : Choice} {p : ℕ} (H : Hidden P W n t₁ t₀ held c p) where
  pub unhide_words : t₀ ≡ run_events (items P) t₁ ((hide_lap H.can).done (others c))
  unfolding hide_lap
  unhide_words = H.is ∙ ap (run_events (items P) t₁) (hide_is P held c)

  module _ (xs : List Node) (y : Node) (zs : List Node) (s : others c ≡ xs ++ y ∷ zs) where
    abbrev pub before : List ℤ
    before = run_events (items P) t₁ ((hide_lap H.can).done xs)

    pub unhide_here : {t : List ℤ} → t ≡ run_events (items P) before ((hide_lap H.can).step xs y)
        → OneHidden P (hide_view H.can xs y zs s) n before t y y.at
    unfolding hide_lap
    unhide_here e = record {
      node = one_node H.can xs (y ∷ zs) s y zs refl refl refl;
      is = e ∙ ap (run_events (items P) before) (sym (one_is H.can xs (y ∷ zs) s y zs refl refl));
      small = H.small;
      short = hides_short P held xs W H.short;
    }

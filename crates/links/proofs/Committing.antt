-- Committing a node, whose colour says what is to be done, and the nodes of an option one after the other. And back.
use mathlib.Core.Path.{◌≡◌, refl, sym, ap, ◌∙◌, subst}
use mathlib.Core.Bool.{Bool, true, false, not}
use mathlib.Core.List.Memᴰ.{append_left as in_left}
use mathlib.Core.List.Memᴰ.{append_right as in_right}
use mathlib.Core.List.Memᴰ.{head as here}
use mathlib.Core.List.{List, [], ◌∷◌, ◌++◌, append_assoc, append-nil, Memᴰ as Mem}
use Prim.Native.Nat.{ℕ, zero, suc, ◌<◌}
use native.Mathlib.Omega.{arith}
use borrow.Author.Tests.{lt-ltb}
use lib.Dec.{T, eqb→eq, ltb→lt}
use lib.IntN.{ℤ, pos}
use lib.Signed.{lt_z}
use lib.ListN.{length, length-append}
use Rattle.rules.specs.Words.{word, same}
use Rattle.rules.specs.Problem.{Entry, Problem, items}
use Rattle.rules.specs.Order.{has_item, Choice}
use Rattle.rules.specs.Links.{Event, Node, others, own, touch, commit_node, commit, try, committed, cost, top, colour_at, run_events}
use Rattle.words.specs.Read.{Link}
use Rattle.laws.specs.Lists.{Apart, apart_nil, apart_cons}
use Rattle.laws.specs.Faults.{Good, ranged, simple}
use Rattle.tables.specs.Nodes.{Of, linked_of, nodes, nodes_at, nodes_range, placed_range, others_mem}
use Rattle.tables.specs.Shows.{Shows, view, marked, one_entry, touch_leads, commit_leads, others_at, others_items, others_held}
use Rattle.tables.specs.Views.{Named, shade}
use Rattle.tables.specs.Met.{bare_own, chosen_marked, chosen_held}
use Rattle.links.specs.Moves.{bare, Done, CanCover, Covered, CanCommit, Committed}
use Rattle.links.specs.Steps.{HasLink, CanTouch, CanPurify, Purified, CanCommitNode, CommittedNode}
use Rattle.links.proofs.Words.{has_link, read, clash, done_at}
use Rattle.links.specs.Laps.{Lap}
use Rattle.links.proofs.Hiding.{others_few}
use Rattle.links.proofs.Bounds.{commit_few}

-- ---- what the tests of a colour say

shade_zero : (b : Bool) (k : ℕ) → same (shade b k) (pos 0) ≡ true → (b ≡ false) × (k ≡ 0)
shade_zero true k e = absurd (clash e refl)
shade_zero false k e = (refl, eqb→eq k 0 (rw e tt))

shade_positive : (b : Bool) (k : ℕ) → lt_z (pos 0) (shade b k) ≡ true → (b ≡ false) × (0 < k)
shade_positive true k e = absurd (clash e refl)
shade_positive false k e = (refl, ltb→lt 0 k (rw e tt))

shade_neither : (b : Bool) (k : ℕ) → same (shade b k) (pos 0) ≡ false → lt_z (pos 0) (shade b k) ≡ false → b ≡ true
shade_neither true k e f = refl
shade_neither false zero e f = absurd (clash refl e)
shade_neither false (suc k) e f = absurd (clash (lt-ltb 0 (suc k) (omega arith)) f)

module _ {z : ℤ} (b : Bool) (k : ℕ) (w : z ≡ shade b k) where
  pub tells_bare : {u : Bool} → u ≡ same z (pos 0) → u ≡ true → (b ≡ false) × (k ≡ 0)
  tells_bare e h = shade_zero b k (ap (λ (y : ℤ). same y (pos 0)) (sym w) ∙ sym e ∙ h)

  pub tells_coloured : {v : Bool} → v ≡ lt_z (pos 0) z → v ≡ true → (b ≡ false) × (0 < k)
  tells_coloured e h = shade_positive b k (ap (lt_z (pos 0)) (sym w) ∙ sym e ∙ h)

  pub tells_marked : {u v : Bool} → u ≡ same z (pos 0) → u ≡ false → v ≡ lt_z (pos 0) z → v ≡ false → b ≡ true
  tells_marked e h f g = shade_neither b k (ap (λ (y : ℤ). same y (pos 0)) (sym w) ∙ sym e ∙ h) (ap (lt_z (pos 0)) (sym w) ∙ sym f ∙ g)

-- ---- one node

module _ {P : Problem} {held : List Entry} {n : ℕ} {t₁ : List ℤ} {x : Node} {p : ℕ}
    (C : CanCommitNode P held n t₁ x p) where
  abbrev e : Entry
  e = x.entry

  abbrev G : Good P
  G = C.shown.good

  item_small : e.item < items P
  item_small = ranged G C.option C.placed_in e (nodes_at C.option.first (simple G C.option C.placed_in) C.node_in).1

  node_inside : p < nodes P
  node_inside =
      let a = nodes_range C.option.first C.option.entries C.node_in in
      let b = placed_range P C.placed_in in
      omega (arith, C.is)

  -- what the node says where h holds
  module _ (h : List Entry) (t : List ℤ) (S : Shows P h t) where
    named : Named (items P) t (marked P h x.at) x
    named = S.named C.option C.placed_in x C.node_in

    top_in : word t (top (items P) p) ≡ pos (suc e.item)
    top_in = ap (λ (k : ℕ). word t (top (items P) k)) C.is ∙ named.top_is

    colour_in : (b : Bool) → marked P h x.at ≡ b → word t (colour_at (items P) p) ≡ shade b e.colour
    colour_in b m = ap (λ (k : ℕ). word t (colour_at (items P) k)) C.is ∙ named.colour_is ∙ ap (λ (a : Bool). shade a e.colour) m

  colour_word : word t₁ (colour_at (items P) p) ≡ shade (has_item e.item held) e.colour
  colour_word = colour_in held t₁ C.shown.shows (has_item e.item held) C.marked_is

  pub commit_tells : word t₁ (colour_at n p) ≡ shade (has_item e.item held) e.colour
  commit_tells = ap (λ (k : ℕ). word t₁ (colour_at k p)) C.n_is ∙ colour_word

  pub commit_colour : colour_at n p < length t₁
  commit_colour = omega (arith, C.n_is, node_inside, C.shown.shows.size)

  pub commit_has : HasLink t₁ (top n p)
  commit_has = has_link t₁ (omega (arith, C.n_is)) (top_in held t₁ C.shown.shows) (omega (
    arith,
    node_inside,
    C.shown.shows.size,
  ))

  pub commit_header : {j : ℕ} → Link t₁ (top n p) j → j ≡ suc e.item
  commit_header L = read t₁ (omega (arith, C.n_is)) (top_in held t₁ C.shown.shows) L

  -- its item is held: nothing is done
  pub commit_none : has_item e.item held ≡ true → Done (items P) t₁ (commit_node P (has_item e.item held) held e) t₁ 0
  unfolding cost
  commit_none b = rw b (record { is = refl; counts = refl })

  module _ (b : has_item e.item held ≡ false) where
    free : T (not (has_item e.item held))
    free = rw b tt

    commit_does : {t : List ℤ} {r : ℕ} → Done (items P) t₁ (touch P held e) t r → Done (items P) t₁ (commit_node P (has_item e.item held) held e) t r
    commit_does D = rw b D

    pub can_touch : CanTouch P held n t₁ e
    can_touch = record { shown = C.shown; n_is = C.n_is; item = item_small; free = free }

    -- it is covered
    pub can_cover : {j : ℕ} → j ≡ suc e.item → CanCover P held n t₁ e.item j
    can_cover h = record { header = record { shown = C.shown; n_is = C.n_is; item = item_small; is = h }; free = free }

    is_bare : e.colour ≡ 0 → bare e.item ≡ e
    is_bare z = one_entry (bare e.item) e (sym z) refl

    pub commit_covers : e.colour ≡ 0 → {t : List ℤ} {r : ℕ} → Done n t₁ (touch P held (bare e.item)) t r → Done (items P) t₁ (commit_node P (has_item e.item held) held e) t r
    commit_covers z {t} {r} D = commit_does (subst (λ (d : Entry). Done (items P) t₁ (touch P held d) t r) (is_bare z) (done_at (sym C.n_is) D))

    -- or purified
    pub can_purify : 0 < e.colour → CanPurify P held n t₁ e p
    can_purify h = record {
      touch = can_touch;
      says = record {
        inside = node_inside;
        top_is = top_in held t₁ C.shown.shows;
        colour_is = colour_word ∙ ap (λ (a : Bool). shade a e.colour) b;
      };
      coloured = h;
    }

    pub commit_purifies : {t : List ℤ} {r : ℕ} → Done (items P) t₁ (touch P held e) t r → Done (items P) t₁ (commit_node P (has_item e.item held) held e) t r
    commit_purifies D = commit_does D

module _ {P : Problem} {held : List Entry} {n : ℕ} {t₁ t : List ℤ} {x : Node} {p : ℕ}
    (Q : CommittedNode P held n t₁ t x p) where
  C : CanCommitNode P held n t₁ x p
  C = Q.can

  abbrev d : Entry
  d = x.entry

  words : (b : Bool) → has_item d.item held ≡ b → t ≡ run_events (items P) t₁ (commit_node P b held d)
  words b e = Q.is ∙ ap (λ (a : Bool). run_events (items P) t₁ (commit_node P a held d)) e

  -- its item was held: nothing was done
  pub uncommit_none : has_item d.item held ≡ true → t ≡ t₁
  uncommit_none b = words true b

  shows_after : has_item d.item held ≡ false → Shows P (d ∷ held) t
  shows_after b = rw (words false b) (touch_leads P (G C) held d (item_small C) (free C b) t₁ C.shown.shows).0

  colour_after : word t (colour_at (items P) p) ≡ shade (has_item d.item held) d.colour
  colour_after = go (has_item d.item held) refl
    where
      go : (b : Bool) → has_item d.item held ≡ b → word t (colour_at (items P) p) ≡ shade (has_item d.item held) d.colour
      go true b = ap (λ (z : List ℤ). word z (colour_at (items P) p)) (uncommit_none b) ∙ colour_word C
      go false b = colour_in C (d ∷ held) t (shows_after b) (has_item d.item held) Q.still

  pub uncommit_tells : word t (colour_at n p) ≡ shade (has_item d.item held) d.colour
  uncommit_tells = ap (λ (k : ℕ). word t (colour_at k p)) C.n_is ∙ colour_after

  pub uncommit_colour : colour_at n p < length t
  uncommit_colour = omega (arith, commit_colour C, long (has_item d.item held) refl)
    where
      long : (b : Bool) → has_item d.item held ≡ b → length t ≡ length t₁
      long true b = ap length (uncommit_none b)
      long false b = (shows_after b).size ∙ sym C.shown.shows.size

  module _ (b : has_item d.item held ≡ false) where
    top_after : word t (top (items P) p) ≡ pos (suc d.item)
    top_after = top_in C (d ∷ held) t (shows_after b)

    pub uncommit_has : HasLink t (top n p)
    uncommit_has = has_link t (omega (arith, C.n_is)) top_after (omega (arith, node_inside C, (shows_after b).size))

    pub uncommit_header : {j : ℕ} → Link t (top n p) j → j ≡ suc d.item
    uncommit_header L = read t (omega (arith, C.n_is)) top_after L

    pub covered : d.colour ≡ 0 → {j : ℕ} → j ≡ suc d.item → Covered P held n t₁ t d.item j
    covered z h = record {
      can = can_cover C b h;
      is = words false b ∙ ap (λ (y : Entry). run_events (items P) t₁ (touch P held y)) (sym (is_bare C b z))
          ∙ ap (λ (k : ℕ). run_events k t₁ (touch P held (bare d.item))) (sym C.n_is);
    }

    pub purified : 0 < d.colour → Purified P held n t₁ t d p
    purified h = record {
      can = can_touch C b;
      says = record {
        inside = node_inside C;
        top_is = top_in C (d ∷ held) t (shows_after b);
        colour_is = colour_after ∙ ap (λ (a : Bool). shade a d.colour) b;
      };
      coloured = h;
      is = words false b;
    }

-- ---- the nodes of an option, one after the other

committed_snoc : (h : List Entry) (xs : List Node) (y : Node) → committed h (xs ++ (y ∷ [])) ≡ y.entry ∷ committed h xs
unfolding committed
committed_snoc h [] y = refl
committed_snoc h (x ∷ xs) y = committed_snoc (x.entry ∷ h) xs y

-- committing y after xs
abbrev pub commit_after : Problem → List Entry → List Node → Node → List Event
commit_after P h xs y = commit_node P (has_item y.entry.item (committed h xs)) (committed h xs) y.entry

commit_snoc : (P : Problem) (h : List Entry) (xs : List Node) (y : Node) → commit P h (xs ++ (y ∷ [])) ≡ commit P h xs ++ commit_after P h xs y
unfolding commit committed
commit_snoc P h [] y = append-nil (commit_after P h [] y)
commit_snoc P h (x ∷ xs) y =
    ap (λ (l : List Event). commit_after P h [] x ++ l) (commit_snoc P (x.entry ∷ h) xs y)
    ∙ sym (append_assoc (commit_after P h [] x) (commit P (x.entry ∷ h) xs) (commit_after P (x.entry ∷ h) xs y))

apart_part : {A : Type 0} {R : A → A → Type 0} (xs ys : List A) → Apart R (xs ++ ys) → Apart R xs
apart_part [] ys a = apart_nil
apart_part (x ∷ xs) ys (apart_cons r a) = apart_cons (λ y m. r y (in_left ys m)) (apart_part xs ys a)

module _ {P : Problem} {held : List Entry} {n : ℕ} {t₀ : List ℤ} {c : Choice} {x : ℕ} (C : CanCommit P held n t₀ c x) where
  abbrev h : List Entry
  h = own c ∷ held

  abbrev good : Good P
  good = C.shown.good

  F : Of P held (own c).item c
  F = linked_of P held (own c).item C.listed

  -- the nodes xs are committed
  module _ (xs zs : List Node) (split : others c ≡ xs ++ zs) where
    in_others : {y : Node} → Mem y xs → Mem y (others c)
    in_others m = rw split (in_left zs m)

    shows_now : Shows P (committed h xs) (run_events (items P) t₀ (commit P h xs))
    shows_now =
        (commit_leads P good h (apart_part xs zs (rw split at (others_items P good held (own c).item c C.listed)))
        (λ y m. ranged good c.option F.placed_in y.entry (others_at P good held (own c).item c C.listed (in_others m)).1)
        (λ y m k. others_held P good held (own c).item c C.listed (in_others m) k) t₀ C.shown.shows).0

    module _ (y : Node) (ys : List Node) (z : zs ≡ y ∷ ys) where
      y_in : Mem y (others c)
      y_in = rw (split, z) (in_right xs (here refl))

      bare_c : (own c).colour ≡ 0
      bare_c = bare_own P good held (own c).item C.primary C.listed

      marked_at : (ns : List Node) → marked P (committed h ns) y.at ≡ has_item y.entry.item (committed h xs)
      marked_at ns =
          chosen_marked P good held (own c).item c C.listed bare_c ns (others_mem c y_in)
          ∙ sym (chosen_held P good held (own c).item c C.listed bare_c xs y ys (rw z at split))

      can_commit_node : {p : ℕ} → p ≡ y.at → {t : List ℤ} → t ≡ run_events (items P) t₀ (commit P h xs)
          → CanCommitNode P (committed h xs) n t y p
      can_commit_node ep f = record {
        shown = record { good = good; small = C.shown.small; shows = rw f shows_now };
        n_is = C.n_is;
        option = c.option;
        placed_in = F.placed_in;
        node_in = others_mem c y_in;
        is = ep;
        marked_is = marked_at xs;
      }

      still_marked : marked P (y.entry ∷ committed h xs) y.at ≡ has_item y.entry.item (committed h xs)
      still_marked = ap (λ (l : List Entry). marked P l y.at) (sym (committed_snoc h xs y)) ∙ marked_at (xs ++ (y ∷ []))

  pub commit_lap : Lap P c n x t₀
  unfolding commit
  commit_lap = record {
    n_is = C.n_is;
    is = C.is;
    done = commit P h;
    step = commit_after P h;
    none = refl;
    more = commit_snoc P h;
    stage = λ xs zs s. record { sees = view P (committed h xs); table = shows_now xs zs s; placed_in = F.placed_in; inside = F.inside };
    few = λ xs zs s.
        let r = placed_range P F.placed_in in
        omega (arith, commit_few P C.shown.small h xs, ap length s, length-append xs zs, others_few c, C.shown.small);
  }

-- ---- at the nodes that the walk comes to

module _ {P : Problem} {held : List Entry} {n : ℕ} {t₀ : List ℤ} {c : Choice} {x : ℕ} (C : CanCommit P held n t₀ c x) where
  module _ (xs : List Node) (y : Node) (zs : List Node) (s : others c ≡ xs ++ y ∷ zs) where
    abbrev pub holding : List Entry
    holding = committed (own c ∷ held) xs

    pub commit_here : {t : List ℤ} → t ≡ run_events (items P) t₀ ((commit_lap C).done xs)
        → CanCommitNode P holding n t y y.at
    unfolding commit_lap
    commit_here e = can_commit_node C xs (y ∷ zs) s y zs refl refl e

    pub commit_step : {t t' : List ℤ} {r : ℕ}
        → Done (items P) t (commit_node P (has_item y.entry.item holding) holding y.entry) t' r
        → Done (items P) t ((commit_lap C).step xs y) t' r
    unfolding commit_lap
    commit_step D = D

  pub commit_all : {t : List ℤ} {u : ℕ} → Done (items P) t₀ ((commit_lap C).done (others c)) t u → Done n t₀ (try P held c) t u
  unfolding commit_lap try
  commit_all D = done_at C.n_is D

module _ {P : Problem} {held : List Entry} {n : ℕ} {t₁ t₀ : List ℤ} {c : Choice} {x : ℕ} (Q : Committed P held n t₁ t₀ c x) where
  pub uncommit_words : t₀ ≡ run_events (items P) t₁ ((commit_lap Q.can).done (others c))
  unfolding commit_lap try
  uncommit_words = Q.is ∙ ap (λ (k : ℕ). run_events k t₁ (commit P (own c ∷ held) (others c))) Q.can.n_is

  module _ (xs : List Node) (y : Node) (zs : List Node) (s : others c ≡ xs ++ y ∷ zs) where
    abbrev pub before : List ℤ
    before = run_events (items P) t₁ ((commit_lap Q.can).done xs)

    pub uncommit_here : {t : List ℤ} → t ≡ run_events (items P) before ((commit_lap Q.can).step xs y)
        → CommittedNode P (holding Q.can xs y zs s) n before t y y.at
    unfolding commit_lap
    uncommit_here e = record {
      can = can_commit_node Q.can xs (y ∷ zs) s y zs refl refl refl;
      still = still_marked Q.can xs (y ∷ zs) s y zs refl;
      is = e;
    }

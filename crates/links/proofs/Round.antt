-- The walk round an option: its spacers make a ring of it. To the right it goes from the last node to the spacer after the option, which names the first
-- node; to the left from the first node to the spacer before it, which names the last.
use mathlib.Core.Path.{◌≡◌, refl, sym, ap, ◌∙◌, subst}
use mathlib.Core.Logic.{◌⊎◌, inl, inr, ⊎_elim, ◌≢◌}
use mathlib.Core.Bool.{Bool, true, false, cond}
use mathlib.Core.List.Memᴰ.{append_left as in_left}
use mathlib.Core.List.Memᴰ.{append_right as in_right}
use mathlib.Core.List.Memᴰ.{head as here}
use mathlib.Core.List.{List, [], ◌∷◌, ◌++◌, map, map-append, append-nil, Memᴰ as Mem}
use Prim.Native.Nat.{ℕ, zero, suc, ◌+◌, ◌-◌, ◌<◌, ◌≤◌}
use native.Mathlib.Omega.{arith}
use native.Mathlib.Decide.{dec_lt}
use borrow.Author.Tests.{lt-ltb, le-ltb}
use lib.Dec.{ltb}
use lib.IntN.{ℤ, pos, negsuc}
use lib.Signed.{lt_z}
use lib.ListN.{length, take, drop}
use Rattle.rules.specs.Words.{word, nat}
use Rattle.rules.specs.Problem.{Entry, Problem, items}
use Rattle.rules.specs.Order.{Placed, Choice, node}
use Rattle.rules.specs.Links.{Node, nodes_from, others, first_or, last_or, top, up, down}
use Rattle.tables.specs.Nodes.{nodes, nodes_range, placed_range, others_mem, others_other}
use Rattle.links.specs.Laps.{InOption}
use Rattle.tables.specs.Met.{drop_nodes, take_nodes}
use Rattle.links.proofs.Words.{clash}
use Rattle.links.proofs.Cursor.{Front, Rear, front, rear, no_front, no_rear, first_all, last_all, last_snoc, split_on, split_back}

abbrev pub spot : Node → ℕ
spot x = x.at

-- the spacer after the option
abbrev pub end_of : Placed → ℕ
end_of o = o.first + length o.entries

-- q is b, or the spacer after the option, and b the first node
abbrev pub Fore : Placed → ℕ → ℕ → Type 0
Fore o q b = (q ≡ b) ⊎ ((q ≡ end_of o) × (b ≡ o.first))

-- q is a, or the spacer before the option, and a the last node
abbrev pub Aft : Placed → ℕ → ℕ → Type 0
Aft o q a = (q ≡ a) ⊎ ((suc q ≡ o.first) × (suc a ≡ end_of o))

-- ---- the nodes follow one another

abbrev Chain : Placed → ℕ → List ℕ → ℕ → Type 0
Chain o a [] h = Fore o (suc a) h
Chain o a (x ∷ xs) h = Fore o (suc a) x × Chain o x xs h

chain_at : (o : Placed) (a : ℕ) (xs zs : List ℕ) (h : ℕ) → Chain o a (xs ++ zs) h → Fore o (suc (last_or a xs)) (first_or h zs)
unfolding last_or
chain_at o a [] [] h k = k
chain_at o a [] (z ∷ zs) h k = k.0
chain_at o a (x ∷ xs) zs h k = chain_at o x xs zs h k.1

chain_run : (o : Placed) (a : ℕ) (es : List Entry) (l : List ℕ) (h : ℕ) → Chain o (a + length es) l h → Chain o a (map spot (nodes_from (suc a) es) ++ l) h
unfolding nodes_from
chain_run o a [] l h k = subst (λ (j : ℕ). Chain o j l h) (omega arith) k
chain_run o a (e ∷ es) l h k = (inl refl, chain_run o (suc a) es l h (subst (λ (j : ℕ). Chain o j l h) (omega arith) k))

around_length : {A : Type 0} (k : ℕ) (es : List A) → k < length es → (suc k + length (drop (suc k) es) ≡ length es) × (length (take k es) ≡ k)
around_length k [] h = absurd (omega arith)
around_length zero (e ∷ es) h = (omega arith, refl)
around_length (suc k) (e ∷ es) h = let r = around_length k es (omega arith) in (omega (arith, r.0), omega (arith, r.1))

others_chain : (c : Choice) → c.at < length c.option.entries → Chain c.option (node c) (map spot (others c)) (node c)
unfolding others nodes_from
others_chain c h =
    subst (λ (l : List ℕ). Chain c.option (node c) l (node c)) (sym parts)
    (chain_run c.option (node c) (drop (suc c.at) es) (map spot (nodes_from f (take c.at es))) (node c) (left (take c.at es) sizes.1))
  where
    es : List Entry
    es = c.option.entries

    f : ℕ
    f = c.option.first

    sizes : (suc c.at + length (drop (suc c.at) es) ≡ length es) × (length (take c.at es) ≡ c.at)
    sizes = around_length c.at es h

    parts : map spot (drop (suc c.at) (nodes_from f es) ++ take c.at (nodes_from f es))
        ≡ map spot (nodes_from (suc (node c)) (drop (suc c.at) es)) ++ map spot (nodes_from f (take c.at es))
    parts =
        let z : f + suc c.at ≡ suc (node c) = omega arith in
        ap (map spot) (ap (λ (l : List Node). l ++ take c.at (nodes_from f es)) (drop_nodes (suc c.at) f es ∙ ap (λ (k : ℕ). nodes_from k (drop (suc c.at) es)) z)
        ∙ ap (λ (l : List Node). nodes_from (suc (node c)) (drop (suc c.at) es) ++ l) (take_nodes c.at f es))
        ∙ map-append spot (nodes_from (suc (node c)) (drop (suc c.at) es)) (nodes_from f (take c.at es))

    left : (ls : List Entry) → length ls ≡ c.at → Chain c.option (node c + length (drop (suc c.at) es)) (map spot (nodes_from f ls)) (node c)
    left [] k = inr (omega (arith, sizes.0), omega arith)
    left (x ∷ ls) k = (
      inr (omega (arith, sizes.0), refl),
      subst (λ (l : List ℕ). Chain c.option f l (node c)) (append-nil (map spot (nodes_from (suc f) ls))) (chain_run c.option f ls [] (node c) (inl (omega arith))),
    )

-- the last node of the past is followed by the first one ahead, round the option
next_to : (c : Choice) → c.at < length c.option.entries → (xs zs : List Node) → others c ≡ xs ++ zs
    → Fore c.option (suc (last_or (node c) (map spot xs))) (first_or (node c) (map spot zs))
next_to c h xs zs s =
    chain_at c.option (node c) (map spot xs) (map spot zs) (node c)
    (subst (λ (l : List ℕ). Chain c.option (node c) l (node c)) (ap (map spot) s ∙ map-append spot xs zs) (others_chain c h))

-- ---- what stands at the place reached

abbrev pub positive : List ℤ → ℕ → Bool
positive t a = lt_z (pos 0) (word t a)

module _ {P : Problem} {c : Choice} {t : List ℤ} (O : InOption P c t) where
  abbrev o : Placed
  o = c.option

  node_top : {x : Node} → Mem x (others c) → word t (top (items P) x.at) ≡ pos (suc x.entry.item)
  node_top {x} m = (O.table.named o O.placed_in x (others_mem c m)).top_is

  node_positive : {x : Node} → Mem x (others c) → positive t (top (items P) x.at) ≡ true
  node_positive {x} m = ap (lt_z (pos 0)) (node_top m) ∙ lt-ltb 0 (suc x.entry.item) (omega arith)

  -- the nodes of the option are between its spacers
  abbrev Inside : ℕ → Type 0
  Inside q = (o.first ≤ q) × (q < end_of o)

  own_inside : Inside (node c)
  own_inside = (omega arith, omega (arith, O.inside))

  other_inside : {x : Node} → Mem x (others c) → Inside x.at
  other_inside m = nodes_range o.first o.entries (others_mem c m)

  module _ (past ahead : List Node) (split : others c ≡ past ++ ahead) where
    of_past : {x : Node} → Mem x past → Mem x (others c)
    of_past m = rw split (in_left ahead m)

    of_ahead : {x : Node} → Mem x ahead → Mem x (others c)
    of_ahead m = rw split (in_right past m)

    -- ---- to the right

    pub fore_start : past ≡ [] → {q : ℕ} → q ≡ node c + 1 → Fore o q (first_or (node c) (map spot ahead))
    unfolding last_or
    fore_start z {q} e =
        subst (λ (k : ℕ). Fore o k (first_or (node c) (map spot ahead)))
        (ap (λ (l : List Node). suc (last_or (node c) (map spot l))) z ∙ (let w : suc (node c) ≡ q = omega arith in w)) (next_to c O.inside past ahead split)

    module _ {q : ℕ} (F : Fore o q (first_or (node c) (map spot ahead))) where
      stop_inside : Inside (first_or (node c) (map spot ahead))
      stop_inside = first_all spot Inside (node c) ahead own_inside (λ z m. other_inside (of_ahead m))

      pub fore_inside : q < nodes P
      fore_inside = let r = placed_range P O.placed_in in ⊎_elim (λ e. omega (arith, e, stop_inside.1, r.1)) (λ e. omega (arith, e.0, r.1)) F

      module _ (ne : q ≢ node c) where
        pub fore_node : positive t (top (items P) q) ≡ true → Front spot ahead q
        fore_node b = ⊎_elim (λ e. front spot (node c) ahead e ne) (λ e. absurd (clash b (no_node e.0))) F
          where
            no_node : q ≡ end_of o → positive t (top (items P) q) ≡ false
            no_node e = ap (λ (k : ℕ). positive t (top (items P) k)) e ∙ ap (lt_z (pos 0)) (O.table.spaced o O.placed_in).number_is

        pub fore_spacer : positive t (top (items P) q) ≡ false → (q ≡ end_of o) × (first_or (node c) (map spot ahead) ≡ o.first)
        fore_spacer b = ⊎_elim (λ e. absurd (clash (is_node (front spot (node c) ahead e ne)) b)) (λ e. e) F
          where
            is_node : Front spot ahead q → positive t (top (items P) q) ≡ true
            is_node (x, ys, e, w) = ap (λ (k : ℕ). positive t (top (items P) k)) w ∙ node_positive {x = x} (of_ahead (rw e (here refl)))

      -- the spacer names the first node
      module _ (s : (q ≡ end_of o) × (first_or (node c) (map spot ahead) ≡ o.first)) where
        pub spacer_first : word t (up (items P) q) ≡ pos o.first
        spacer_first = ap (λ (k : ℕ). word t (up (items P) k)) s.0 ∙ (O.table.spaced o O.placed_in).first_is

        pub fore_first : {q' : ℕ} → q' ≡ o.first → Fore o q' (first_or (node c) (map spot ahead))
        fore_first e = inl (e ∙ sym s.1)

      -- past a node
      pub fore_next : (f : Front spot ahead q) → Fore o (q + 1) (first_or (node c) (map spot f.1))
      fore_next (x, ys, e, w) =
          subst (λ (k : ℕ). Fore o k (first_or (node c) (map spot ys)))
          (ap suc (last_snoc spot (node c) past x) ∙ (let v : suc x.at ≡ q + 1 = omega arith in v))
          (next_to c O.inside (past ++ (x ∷ [])) ys (split_on past split e))

      pub fore_end : q ≡ node c → ahead ≡ []
      fore_end h = ⊎_elim (λ e. no_front spot (node c) ahead (λ z m. others_other c (of_ahead m)) (sym e ∙ h)) (λ e. absurd (omega (arith, e.0, own_inside.1))) F

    -- ---- to the left

    first_some : 0 < o.first
    first_some = let r = placed_range P O.placed_in in omega arith

    aft_of : {a q : ℕ} → 0 < q → Fore o (suc a) q → Aft o (q - 1) a
    aft_of h (inl e) = inl (omega arith)
    aft_of h (inr (e, w)) = inr (omega arith, e)

    pub aft_start : ahead ≡ [] → {q : ℕ} → q ≡ node c → Aft o (q - 1) (last_or (node c) (map spot past))
    aft_start z {q} e =
        aft_of (omega (arith, first_some)) (subst (λ (k : ℕ). Fore o (suc (last_or (node c) (map spot past))) k) (ap (λ (l : List Node). first_or (node c) (map spot l)) z ∙ sym e)
        (next_to c O.inside past ahead split))

    module _ {q : ℕ} (F : Aft o q (last_or (node c) (map spot past))) where
      rest_inside : Inside (last_or (node c) (map spot past))
      rest_inside = last_all spot Inside (node c) past own_inside (λ z m. other_inside (of_past m))

      pub aft_inside : q < nodes P
      aft_inside = let r = placed_range P O.placed_in in ⊎_elim (λ e. omega (arith, e, rest_inside.1, r.1)) (λ e. omega (arith, e.0, r.1)) F

      not_positive : (z : ℤ) → nat z ≡ 0 → lt_z (pos 0) z ≡ false
      not_positive (pos k) h = le-ltb 0 k (omega arith)
      not_positive (negsuc k) h = refl

      module _ (ne : q ≢ node c) where
        pub aft_node : positive t (top (items P) q) ≡ true → Rear spot past q
        aft_node b = ⊎_elim (λ e. rear spot (node c) past e ne) (λ e. absurd (clash b (no_node e.0))) F
          where
            no_node : suc q ≡ o.first → positive t (top (items P) q) ≡ false
            no_node e = not_positive (word t (top (items P) q)) ((O.table.spaced o O.placed_in).before_is q e).0

        pub aft_spacer : positive t (top (items P) q) ≡ false → (suc q ≡ o.first) × (suc (last_or (node c) (map spot past)) ≡ end_of o)
        aft_spacer b = ⊎_elim (λ e. absurd (clash (is_node (rear spot (node c) past e ne)) b)) (λ e. e) F
          where
            is_node : Rear spot past q → positive t (top (items P) q) ≡ true
            is_node (ys, x, e, w) = ap (λ (k : ℕ). positive t (top (items P) k)) w ∙ node_positive {x = x} (of_past (rw e (in_right ys (here refl))))

      -- the spacer names the last node
      module _ (s : (suc q ≡ o.first) × (suc (last_or (node c) (map spot past)) ≡ end_of o)) where
        pub spacer_last : word t (down (items P) q) ≡ pos (q + length o.entries)
        spacer_last = ((O.table.spaced o O.placed_in).before_is q s.0).1

        pub aft_last : {q' : ℕ} → q' ≡ q + length o.entries → Aft o q' (last_or (node c) (map spot past))
        aft_last e = inl (omega (arith, e, s))

      pub aft_next : (f : Rear spot past q) → (0 < q) × Aft o (q - 1) (last_or (node c) (map spot f.0))
      aft_next (ys, x, e, w) =
          let h : 0 < q = omega (arith, w, first_some, (other_inside {x = x} (of_past (rw e (in_right ys (here refl))))).0) in
          (h, aft_of h (subst (λ (k : ℕ). Fore o (suc (last_or (node c) (map spot ys))) k) (sym w) (next_to c O.inside ys (x ∷ ahead) (split_back ys x ahead split e))))

      pub aft_end : q ≡ node c → past ≡ []
      aft_end h = ⊎_elim (λ e. no_rear spot (node c) past (λ z m. others_other c (of_past m)) (sym e ∙ h)) (λ e. absurd (omega (arith, e.0, own_inside.0))) F

-- ---- the walk ends: what is left of the way, of which l words are a bound

abbrev pub way_right : ℕ → ℕ → ℕ → ℕ
way_right l p q = cond (ltb p q) (l + p + 1 - q) (p - q)

pub turn_less : (l p q q' : ℕ) → p < q → q' ≤ p → q < l → way_right l p q' < way_right l p q
turn_less l p q q' h k b = rw (lt-ltb p q h, le-ltb p q' k) (omega arith)

abbrev pub way_left : ℕ → ℕ → ℕ → ℕ
way_left l p q = cond (ltb q p) (l + q + 1) (q - p)

pub left_less : (l p q : ℕ) → q ≢ p → 0 < q → way_left l p (q - 1) < way_left l p q
left_less l p q ne h = go (dec_lt q p)
  where
    go : Dec (q < p) → way_left l p (q - 1) < way_left l p q
    go (yes k) = rw (lt-ltb q p k, lt-ltb (q - 1) p (omega arith)) (omega arith)
    go (no k) = rw (le-ltb q p (omega arith), le-ltb (q - 1) p (omega arith)) (omega arith)

pub back_less : (l p q q' : ℕ) → q < p → p ≤ q' → q' < l → way_left l p q' < way_left l p q
back_less l p q q' h k b = rw (lt-ltb q p h, le-ltb q' p k) (omega arith)

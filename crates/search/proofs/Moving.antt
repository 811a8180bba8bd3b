-- A choice tried, tried again and taken back; going back, and entering an item: table, path and level.
use mathlib.Core.Path.{◌≡◌, refl, sym, ap, ◌∙◌}
use mathlib.Core.Logic.{◌≢◌}
use Rattle.std.specs.Prelude.{Option, None, Some}
use mathlib.Core.List.{List, [], ◌∷◌, ◌++◌, map, append_assoc, Memᴰ as Mem}
use Prim.Native.Nat.{ℕ, suc, ◌+◌, ◌-◌, ◌≤◌, ◌<◌}
use native.Mathlib.Omega.{arith}
use lib.IntN.{ℤ, pos}
use lib.ListN.{length, set}
use Rattle.rules.specs.Words.{word}
use Rattle.rules.specs.Problem.{Problem, items}
use Rattle.rules.specs.Order.{Choice, node, pick, choices, open_options, open_items}
use Rattle.rules.specs.Links.{cost, own, held, touch, try, choose, table, run_events, first_or}
use Rattle.rules.specs.Walk.{Level, made, chosen, back_to, retreat, go_into, enter}
use Rattle.rules.specs.Calls.{capped}
use Rattle.laws.specs.Lists.{cannot, mem_length}
use Rattle.laws.specs.Order.{pick_some, open_item_facts}
use Rattle.laws.specs.Reached.{Reached, level}
use Rattle.tables.specs.Shows.{view}
use Rattle.words.specs.Read.{Natural, Link}
use Rattle.links.specs.Moves.{InList, IsNode, Done, bare, CanCover, Covered, CanCommit, Committed}
use Rattle.search.specs.Depth.{shallow, room, path_long, level_within}
use Rattle.search.specs.Points.{At, On, Trying, Tried, Retried, Last, Gone, Picked, Taking}
use Rattle.search.proofs.Choosing.{shown}
use Rattle.search.proofs.Levels.{tries, list_open, own_item, primary, node_range, covered, cover_is, covered_shown, table_is, price_is, can_cover, can_commit, is_node, covered_chain}
use Rattle.search.proofs.Written.{path_more, path_less, path_again, path_at}

-- ---- `try_item`

module _ {P : Problem} {n : ℕ} {s : List Level} {v : Level} {t : List ℤ} {i x : ℕ} (M : Trying P n s v t i x) where
  pub try_cover : CanCover P (held (made s)) n t (own v.tried).item i
  try_cover = rw (M.header_is, M.at.n_is, M.at.is) (can_cover P M.at.good M.at.small M.reached)

  cover_made : {t₁ : List ℤ} → t₁ ≡ run_events n t (touch P (held (made s)) (bare (own v.tried).item)) → t₁ ≡ covered P v s
  cover_made e = e ∙ rw (M.at.n_is, M.at.is) (cover_is P M.at.good M.at.small M.reached)

  pub try_commit : {t₁ : List ℤ} → t₁ ≡ run_events n t (touch P (held (made s)) (bare (own v.tried).item)) → CanCommit P (held (made s)) n t₁ v.tried x
  try_commit e = rw (cover_made e, M.node_is, M.at.n_is) (can_commit P M.at.good M.at.small M.reached)

  pub tried : {t₁ t₂ : List ℤ} {a b r : ℕ} → Done n t (touch P (held (made s)) (bare (own v.tried).item)) t₁ a → Done n t₁ (try P (held (made s)) v.tried) t₂ b
      → r ≡ capped a b → Tried P n s v t₂ r
  tried {r = r} D E f = record {
    at = record {
      good = M.at.good;
      small = M.at.small;
      n_is = M.at.n_is;
      reached = M.reached;
      is = E.is ∙ rw (cover_made D.is, M.at.n_is) (sym (table_is P M.at.good M.at.small M.reached));
    };
    counts = omega (arith, D.counts, E.counts, price_is P M.at.good M.at.small M.reached);
  }

-- ---- `restore_item`

module _ {P : Problem} {n : ℕ} {v : Level} {above : List Level} {t : List ℤ} {x : ℕ} (K : Last P n v above t x) where
  pub last_node : IsNode P (held (made (v ∷ above))) n t v.tried x
  last_node = rw (K.node_is, K.at.n_is) (is_node P K.at.good K.at.small K.at.reached (shown K.at))

  pub last_committed : Committed P (held (made above)) n (covered P v above) t v.tried x
  last_committed = record {
    can = rw (K.node_is, K.at.n_is) (can_commit P K.at.good K.at.small K.at.reached);
    is = K.at.is ∙ rw K.at.n_is (table_is P K.at.good K.at.small K.at.reached);
  }

  pub last_covered : {t₁ : List ℤ} {i : ℕ} → t₁ ≡ covered P v above → i ≡ suc (own v.tried).item → Covered P (held (made above)) n (table P (made above)) t₁ (own v.tried).item i
  last_covered e f = record {
    can = rw (f, K.at.n_is) (can_cover P K.at.good K.at.small K.at.reached);
    is = e ∙ rw K.at.n_is (sym (cover_is P K.at.good K.at.small K.at.reached));
  }

  pub restored : {t₂ : List ℤ} → t₂ ≡ table P (made above) → At P n above t₂
  restored e = record { good = K.at.good; small = K.at.small; n_is = K.at.n_is; reached = (tries K.at.reached).reached; is = e }

-- ---- `try_again`

-- the level with its next choice
pub record Next (P : Problem) (v : Level) (above : List Level) (j y : ℕ) : Type 0 where
  pub w : Level
  pub left_is : v.left ≡ w.tried ∷ w.left
  pub reached : Reached P (pick P) (w ∷ above)
  pub node_is : y ≡ node w.tried
  pub item_is : (own w.tried).item ≡ j

module _ {P : Problem} {n : ℕ} {v : Level} {above : List Level} {t path : List ℤ} {l : ℕ} (O : On P n (v ∷ above) t path (suc l)) where
  level_is : l ≡ length above
  level_is = omega (arith, O.level)

  pub in_path : l < length path
  in_path = level_within O

  pub word_is : word path l ≡ pos (node v.tried)
  word_is = rw (O.path_is, level_is) (path_at P.np v above)

  pub word_natural : Natural path l
  word_natural = rw word_is tt

  pub last_of : {x : ℕ} → Link path l x → Last P n v above t x
  last_of {x} k = record { at = O.at; node_is = let e : pos x ≡ pos (node v.tried) = sym k.word_is ∙ word_is in cc }

  abbrev j : ℕ
  j = (own v.tried).item

  pub again_list : {x : ℕ} (K : Last P n v above t x) {t₁ : List ℤ} → t₁ ≡ covered P v above → InList P (own v.tried ∷ held (made above)) n t₁ j (suc j ∷ map node (tries O.at.reached).before) x (map node v.left)
  again_list K e = record {
    shown = rw e (covered_shown P K.at.good K.at.small K.at.reached);
    n_is = O.at.n_is;
    item = omega (arith, primary P O.at.good O.at.small O.at.reached);
    split = rw K.node_is (covered_chain P O.at.good O.at.small O.at.reached);
  }

  -- the level v with the choice c in place of its own
  again_reached : (c : Choice) (cs : List Choice) → v.left ≡ c ∷ cs → Reached P (pick P) (record { tried = c; left = cs } ∷ above)
  again_reached c cs u =
      let L = tries O.at.reached in
      level {v = record { tried = c; left = cs }} L.item (L.before ++ v.tried ∷ []) L.picks
      (L.split ∙ ap (λ (l : List Choice). L.before ++ v.tried ∷ l) u ∙ sym (append_assoc L.before (v.tried ∷ []) (c ∷ cs))) L.reached

  again_item : (c : Choice) (cs : List Choice) (r : Reached P (pick P) (record { tried = c; left = cs } ∷ above)) → (own c).item ≡ j
  again_item c cs r =
      let a = own_item P O.at.good O.at.small O.at.reached in
      let b = own_item P O.at.good O.at.small r in
      let e : Some (tries r).item ≡ Some (tries O.at.reached).item = sym (tries r).picks ∙ (tries O.at.reached).picks in
      let f : (tries r).item ≡ (tries O.at.reached).item = cc in
      b ∙ f ∙ sym a

  pub again : {y i : ℕ} → y ≡ first_or (suc j) (map node v.left) → i ≡ suc j → y ≢ i → Next P v above j y
  again {y} {i} e f ne = step v.left refl
    where
      step : (r : List Choice) → v.left ≡ r → Next P v above j y
      step [] u = absurd (ne (e ∙ ap (λ (l : List Choice). first_or (suc j) (map node l)) u ∙ sym f))
      step (c ∷ cs) u = record {
        w = record { tried = c; left = cs };
        left_is = u;
        reached = again_reached c cs u;
        node_is = e ∙ ap (λ (l : List Choice). first_or (suc j) (map node l)) u;
        item_is = again_item c cs (again_reached c cs u);
      }

  pub none_left : {y i : ℕ} → y ≡ first_or (suc j) (map node v.left) → i ≡ suc j → y ≡ i → v.left ≡ []
  none_left {y} {i} e f g = step v.left refl
    where
      step : (r : List Choice) → v.left ≡ r → v.left ≡ []
      step [] u = u
      step (c ∷ cs) u =
          let h : y ≡ node c = e ∙ ap (λ (l : List Choice). first_or (suc j) (map node l)) u in
          absurd (omega (arith, node_range P O.at.good O.at.small (again_reached c cs u), primary P O.at.good O.at.small O.at.reached))

  pub back : {t₂ path₂ : List ℤ} → v.left ≡ [] → t₂ ≡ table P (made above) → path₂ ≡ set path l (pos 0)
      → Retried P n l v.left above t₂ path₂ None
  back u e f = rw u (record {
    is = refl;
    on = record {
      at = record { good = O.at.good; small = O.at.small; n_is = O.at.n_is; reached = (tries O.at.reached).reached; is = e };
      path_is = f ∙ rw (O.path_is, level_is) (path_less P.np v above (room O.at.reached));
      level = level_is;
    };
  })

  module _ {t₁ : List ℤ} (e₁ : t₁ ≡ covered P v above) {y : ℕ} (N : Next P v above j y) where
    -- the item is covered with the next choice's entry too
    one_table : t₁ ≡ covered P N.w above
    one_table =
        e₁ ∙ sym (cover_is P O.at.good O.at.small O.at.reached)
        ∙ ap (λ (i : ℕ). run_events (items P) (table P (made above)) (touch P (held (made above)) (bare i))) (sym N.item_is)
        ∙ cover_is P O.at.good O.at.small N.reached

    pub again_commit : CanCommit P (held (made above)) n t₁ N.w.tried y
    again_commit = rw (one_table, N.node_is, O.at.n_is) (can_commit P O.at.good O.at.small N.reached)

    pub onward : {t₂ path₂ : List ℤ} {a : ℕ} → Done n t₁ (try P (held (made above)) N.w.tried) t₂ a
        → path₂ ≡ set path l (pos y) → Retried P n l v.left above t₂ path₂ (Some a)
    onward {a = a} D f = rw N.left_is (record {
      updates = a;
      is = refl;
      on = record {
        at = record {
          good = O.at.good;
          small = O.at.small;
          n_is = O.at.n_is;
          reached = N.reached;
          is = D.is ∙ rw (one_table, O.at.n_is) (sym (table_is P O.at.good O.at.small N.reached));
        };
        path_is = f ∙ rw (O.path_is, level_is, N.node_is) (path_again P.np v above N.w);
        level = ap suc level_is;
      };
      counts = D.counts;
    })

-- ---- `retreat`

-- the retreat from s₀ has come back to a point
pub record Retreating (P : Problem) (n : ℕ) (s₀ : List Level) (t path : List ℤ) (l : ℕ) : Type 0 where
  pub s : List Level
  pub on : On P n s t path l
  pub same : retreat P s₀ ≡ retreat P s

-- which has a level
pub record Deepest (P : Problem) (n : ℕ) (s₀ : List Level) (t path : List ℤ) (l : ℕ) : Type 0 where
  pub v : Level
  pub above : List Level
  pub on : On P n (v ∷ above) t path (suc l)
  pub same : retreat P s₀ ≡ retreat P (v ∷ above)

pub deepest : {P : Problem} {n : ℕ} {s₀ : List Level} {t path : List ℤ} {l : ℕ} → Retreating P n s₀ t path l → 0 < l
    → Deepest P n s₀ t path (l - 1)
deepest {P} {n} {s₀} {t} {path} {l} R some = step R.s R.on R.same
  where
    step : (s : List Level) → On P n s t path l → retreat P s₀ ≡ retreat P s → Deepest P n s₀ t path (l - 1)
    step [] O e = absurd (omega (arith, O.level))
    step (v ∷ above) O e = record { v = v; above = above; on = record { at = O.at; path_is = O.path_is; level = omega (arith, O.level) }; same = e }

module _ {P : Problem} {n : ℕ} {s₀ : List Level} {t path : List ℤ} {l : ℕ} (D : Deepest P n s₀ t path l)
    (t' path' : List ℤ) (r : Option ℕ)
    (R : Retried P n l D.v.left D.above t' path' r) where
  -- it goes on to the next choice there
  pub gone_on : {a : ℕ} → r ≡ Some a → Gone P n (retreat P s₀) t' path' (Some (l + 1, a))
  unfolding retreat
  gone_on {a} e = step D.v.left refl R
    where
      step : (cs : List Choice) → D.v.left ≡ cs → Retried P n l cs D.above t' path' r
          → Gone P n (retreat P s₀) t' path' (Some (l + 1, a))
      step [] u B = cannot (let q = B.is in cc)
      step (c ∷ cs) u N =
          let k : a ≡ N.updates = let q = N.is in cc in
          let h : l + 1 ≡ suc (length D.above) = omega (arith, N.on.level) in
          rw (D.same, u) (record {
            updates = a;
            is = ap (λ (m : ℕ). Some (m, a)) h;
            on = record { at = N.on.at; path_is = N.on.path_is; level = refl };
            counts = λ x. ap (λ (m : ℕ). capped x m) (k ∙ N.counts);
          })

  -- or back above it
  pub gone_back : r ≡ None → Retreating P n s₀ t' path' l
  unfolding retreat
  gone_back e = step D.v.left refl R
    where
      step : (cs : List Choice) → D.v.left ≡ cs → Retried P n l cs D.above t' path' r → Retreating P n s₀ t' path' l
      step [] u B = record { s = D.above; on = B.on; same = D.same ∙ ap (λ (cs : List Choice). back_to P cs D.above (retreat P D.above)) u }
      step (c ∷ cs) u N = cannot (let q = N.is in cc)

pub gone_out : {P : Problem} {n : ℕ} {s₀ : List Level} {t path : List ℤ} {l : ℕ} → Retreating P n s₀ t path l → l ≤ 0
    → Gone P n (retreat P s₀) t path None
unfolding retreat
gone_out {P} {n} {s₀} {t} {path} {l} R z = step R.s R.on R.same
  where
    step : (s : List Level) → On P n s t path l → retreat P s₀ ≡ retreat P s → Gone P n (retreat P s₀) t path None
    step [] O e = rw e (record { is = refl; on = record { at = O.at; path_is = O.path_is; level = refl } })
    step (v ∷ above) O e = absurd (omega (arith, O.level))

-- a word can number the levels
pub level_small : {P : Problem} {n : ℕ} {s : List Level} {t path : List ℤ} {l : ℕ} → On P n s t path l → l < 2147483648
level_small {P} {n} {s} {t} {path} {l} O = step s O.level O.at.reached
  where
    step : (s : List Level) → l ≡ length s → Reached P (pick P) s → l < 2147483648
    step [] e r = omega arith
    step (v ∷ above) e r = omega (arith, room r, node_range P O.at.good O.at.small r, O.at.small)

-- ---- `enter`

-- the first choice of the item j
pub record First (P : Problem) (s : List Level) (j i x : ℕ) : Type 0 where
  pub v : Level
  pub reached : Reached P (pick P) (v ∷ s)
  pub header_is : i ≡ suc (own v.tried).item
  pub node_is : x ≡ node v.tried
  pub enter_is : enter P s j ≡ Some (record { to = v ∷ s; updates = cost (choose P (held (made s)) v.tried) })

module _ {P : Problem} {n : ℕ} {s : List Level} {j : ℕ} {t : List ℤ} {i : ℕ} (K : Picked P n s j t i) where
  abbrev ways : List Choice
  ways = choices j (open_options P (chosen s))

  opened : Mem j (open_items P (chosen s))
  opened = pick_some P (chosen s) K.picks

  pub ways_list : (view P (held (made s))).list j ≡ map node ways
  ways_list = list_open P K.at.good K.at.reached opened

  -- its list, from its header on
  pub item_list : (xs : List ℕ) (p : ℕ) (ys : List ℕ) → suc j ∷ map node ways ≡ xs ++ p ∷ ys → InList P (held (made s)) n t j xs p ys
  item_list xs p ys e = record {
    shown = shown K.at;
    n_is = K.at.n_is;
    item = omega (arith, open_item_facts P (chosen s) opened);
    split = ap (λ (l : List ℕ). suc j ∷ l) ways_list ∙ e;
  }

  pub header_list : InList P (held (made s)) n t j [] i (map node ways)
  header_list = item_list [] i (map node ways) (ap (λ (p : ℕ). p ∷ map node ways) (sym K.header_is))

  -- one of its choices
  pub way_reached : (xs : List Choice) (v : Level) → ways ≡ xs ++ v.tried ∷ v.left → Reached P (pick P) (v ∷ s)
  way_reached xs v e = level {v = v} j xs K.picks e K.at.reached

  pub way_header : (v : Level) → Reached P (pick P) (v ∷ s) → i ≡ suc (own v.tried).item
  way_header v r =
      let e : Some (tries r).item ≡ Some j = sym (tries r).picks ∙ K.picks in
      let f : (tries r).item ≡ j = cc in
      K.header_is ∙ ap suc (sym (own_item P K.at.good K.at.small r ∙ f))

  -- which is no header
  pub way_other : (xs : List Choice) (c : Choice) (cs : List Choice) → ways ≡ xs ++ c ∷ cs → node c ≢ i
  way_other xs c cs e f =
      omega (arith, K.header_is, open_item_facts P (chosen s) opened, node_range P K.at.good K.at.small (way_reached xs (record { tried = c; left = cs }) e))

  -- and stands in the table
  pub way_below : (xs : List Choice) (c : Choice) (cs : List Choice) → ways ≡ xs ++ c ∷ cs → {p : ℕ} → p ≡ node c
      → p < length t
  way_below xs c cs e f =
      omega (
        arith,
        f,
        (shown K.at).shows.size,
        node_range P K.at.good K.at.small (way_reached xs
            (record { tried = c; left = cs }) e),
      )

  pub first_choice : {x : ℕ} → x ≡ first_or (suc j) (map node ways) → x ≢ i → First P s j i x
  unfolding enter
  first_choice {x} e ne = step ways refl
    where
      step : (r : List Choice) → ways ≡ r → First P s j i x
      step [] u = absurd (ne (e ∙ ap (λ (l : List Choice). first_or (suc j) (map node l)) u ∙ sym K.header_is))
      step (c ∷ cs) u =
          let v : Level = record { tried = c; left = cs } in
          record {
            v = v;
            reached = way_reached [] v u;
            header_is = way_header v (way_reached [] v u);
            node_is = e ∙ ap (λ (l : List Choice). first_or (suc j) (map node l)) u;
            enter_is = ap (λ (l : List Choice). go_into P l s) u;
          }

  pub no_choice : {x : ℕ} → x ≡ first_or (suc j) (map node ways) → x ≡ i → enter P s j ≡ retreat P s
  unfolding enter
  no_choice {x} e f = step ways refl
    where
      step : (r : List Choice) → ways ≡ r → go_into P ways s ≡ retreat P s
      step [] u = ap (λ (l : List Choice). go_into P l s) u
      step (c ∷ cs) u = absurd (way_other [] c cs u (sym (e ∙ ap (λ (l : List Choice). first_or (suc j) (map node l)) u) ∙ f))

module _ {P : Problem} {n : ℕ} {s : List Level} {j : ℕ} {t path : List ℤ} {l i : ℕ} (K : Taking P n s j t path l i) where
  pub entry_room : l < length path
  entry_room = omega (arith, K.on.level, path_long K.on, shallow K.on.at.reached, mem_length (pick_some P (chosen s) K.picked.picks))

  module _ {x : ℕ} (F : First P s j i x) where
    pub entry_trying : Trying P n s F.v t i x
    entry_trying = record { at = K.on.at; reached = F.reached; header_is = F.header_is; node_is = F.node_is }

    pub entered : {t' path' : List ℤ} {a : ℕ} → Tried P n s F.v t' a → path' ≡ set path l (pos x)
        → Gone P n (enter P s j) t' path' (Some (l + 1, a))
    entered {a = a} T f = rw F.enter_is (record {
      updates = a;
      is = ap (λ (m : ℕ). Some (m, a)) (let h : l + 1 ≡ suc (length s) = omega (arith, K.on.level) in h);
      on = record {
        at = T.at;
        path_is = f ∙ rw (K.on.path_is, K.on.level, F.node_is) (path_more P.np F.v s (room F.reached));
        level = refl;
      };
      counts = λ u. omega (arith, T.counts);
    })

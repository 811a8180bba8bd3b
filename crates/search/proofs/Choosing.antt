-- The walk of the primary ring: what `choose` reads is the order rule.
use mathlib.Core.Path.{◌≡◌, refl, sym, ap, ◌∙◌}
use mathlib.Core.Logic.{◌≢◌}
use mathlib.Core.Bool.{Bool, true, false, cond}
use Rattle.std.specs.Prelude.{None, Some}
use mathlib.Core.List.Memᴰ.{append_right as in_right}
use mathlib.Core.List.Memᴰ.{head as here}
use mathlib.Core.List.{List, [], ◌∷◌, ◌++◌, map, map-append, append_assoc, Memᴰ as Mem}
use Prim.Native.Nat.{ℕ, zero, suc, ◌-◌, ◌≤◌, ◌<◌}
use native.Mathlib.Omega.{arith}
use lib.Dec.{ltb}
use borrow.Author.Tests.{lt-ltb, le-ltb}
use lib.IntN.{ℤ}
use lib.ListN.{length, length-map}
use Rattle.rules.specs.Lists.{run}
use Rattle.rules.specs.Problem.{Problem}
use Rattle.rules.specs.Order.{node, Weighed, least_from, least, pick, choices, open_options, open_items}
use Rattle.rules.specs.Links.{held, first_or}
use Rattle.rules.specs.Walk.{Level, made, chosen}
use Rattle.laws.specs.Lists.{Apart, apart_nil, apart_cons, apart_keep, run_mem}
use Rattle.laws.specs.Order.{open_item, open_item_facts}
use Rattle.tables.specs.Shows.{view}
use Rattle.links.specs.Moves.{Shown, InRing, IsHeader}
use Rattle.search.specs.Points.{At, header}
use Rattle.search.proofs.Levels.{shows, ring_open, list_open}

-- ---- the items rise

run_apart : (a m : ℕ) → Apart (λ (x y : ℕ). x < y) (run a m)
unfolding run
run_apart a zero = apart_nil
run_apart a (suc m) = apart_cons {x = a} {xs = run (suc a) m} (λ y h. let b = run_mem (suc a) m h in omega arith) (run_apart (suc a) m)

apart_at : {A : Type 0} {R : A → A → Type 0} (xs : List A) (x : A) (ys : List A) → Apart R (xs ++ x ∷ ys) → (y : A) → Mem y ys → R x y
apart_at [] x ys (apart_cons r a) = r
apart_at (z ∷ xs) x ys (apart_cons r a) = apart_at xs x ys a

-- so the rank of a place in the ring falls along it
abbrev pub rank : ℕ → ℕ → ℕ
rank n zero = 0
rank n (suc j) = n - j

-- ---- the table of a point

pub shown : {P : Problem} {n : ℕ} {s : List Level} {t : List ℤ} → At P n s t → Shown P (held (made s)) t
shown {P} A = record { good = A.good; small = A.small; shows = rw A.is (shows P A.good A.reached) }

abbrev pub weigh : Problem → List Level → ℕ → Weighed
weigh P s i = record { item = i; weight = length (choices i (open_options P (chosen s))) }

none_lighter : (a : Weighed) (l : List Weighed) → a.weight ≡ 0 → least_from a l ≡ a
unfolding least_from
none_lighter a [] z = refl
none_lighter a (b ∷ l) z = ap (λ (x : Bool). least_from (cond x b a) l) (le-ltb b.weight a.weight (omega arith)) ∙ none_lighter a l z

-- the walk is at p: the items `done` are weighed, those of `rest` are ahead, and i is the header of the lightest, `best`
pub record Choosing (P : Problem) (s : List Level) (p i min : ℕ) : Type 0 where
  pub done : List ℕ
  pub rest : List ℕ
  pub best : Weighed
  pub split : open_items P (chosen s) ≡ done ++ rest
  pub at : p ≡ first_or 0 (map suc rest)
  pub item : i ≡ suc best.item
  pub weight : min ≡ best.weight
  pub picks : pick P (chosen s) ≡ Some (least_from best (map (weigh P s) rest)).item

-- an open item at p, the first of those ahead
pub record Turn (P : Problem) (n : ℕ) (s : List Level) (t : List ℤ) (done ahead : List ℕ) (p : ℕ) : Type 0 where
  pub j : ℕ
  pub rest : List ℕ
  pub ahead_is : ahead ≡ j ∷ rest
  pub at : p ≡ suc j
  pub ringed : InRing P (held (made s)) t (0 ∷ map suc done) p (map suc rest)
  pub headed : IsHeader P (held (made s)) n t j p
  pub counts : length ((view P (held (made s))).list j) ≡ (weigh P s j).weight
  pub less : (p' : ℕ) → p' ≡ first_or 0 (map suc rest) → rank n p' < rank n p

module _ (P : Problem) (n : ℕ) (s : List Level) (t : List ℤ) (A : At P n s t) where
  pub ring_start : InRing P (held (made s)) t [] 0 (map suc (open_items P (chosen s)))
  ring_start = record { shown = shown A; split = ap (λ (l : List ℕ). 0 ∷ l) (ring_open P A.good A.reached) }

  rising : (done : List ℕ) (j : ℕ) (rest : List ℕ) → open_items P (chosen s) ≡ done ++ j ∷ rest → (k : ℕ) → Mem k rest → j < k
  unfolding open_items
  rising done j rest e = apart_at {R = λ (x y : ℕ). x < y} done j rest (rw e at (apart_keep (open_item (chosen s)) (run_apart 0 P.np)))

  turn_at : (done : List ℕ) (j : ℕ) (rest : List ℕ) (p : ℕ) → open_items P (chosen s) ≡ done ++ j ∷ rest → p ≡ suc j → Turn P n s t done (j ∷ rest) p
  turn_at done j rest p e u =
      let m : Mem j (open_items P (chosen s)) = rw e (in_right done (here refl)) in
      let b = (open_item_facts P (chosen s) m).0 in
      record {
        j = j;
        rest = rest;
        ahead_is = refl;
        at = u;
        ringed = record {
          shown = shown A;
          split = rw u (ap (λ (l : List ℕ). 0 ∷ l) (ring_open P A.good A.reached ∙ ap (map suc) e ∙ map-append suc done (j ∷ rest)));
        };
        headed = record { shown = shown A; n_is = A.n_is; item = omega arith; is = u };
        counts = ap length (list_open P A.good A.reached m) ∙ length-map (choices j (open_options P (chosen s))) node;
        less = λ p' w. falls rest (rising done j rest e) p' w (omega (arith, A.n_is));
      }
    where
      falls : (rest : List ℕ) → ((k : ℕ) → Mem k rest → j < k) → (p' : ℕ) → p' ≡ first_or 0 (map suc rest) → j < n → rank n p' < rank n p
      falls [] h p' w b = rw (w, u) (omega arith)
      falls (k ∷ rest) h p' w b = let g = h k (here refl) in rw (w, u) (omega arith)

  pub turn : (done ahead : List ℕ) (p : ℕ) → open_items P (chosen s) ≡ done ++ ahead → p ≡ first_or 0 (map suc ahead) → p ≢ 0 → Turn P n s t done ahead p
  turn done [] p e u ne = absurd (ne u)
  turn done (j ∷ rest) p e u ne = turn_at done j rest p e u

  -- no open item
  pub none_open : (p : ℕ) → p ≡ first_or 0 (map suc (open_items P (chosen s))) → p ≡ 0
      → None ≡ header (pick P (chosen s))
  unfolding pick
  none_open p u z = step (open_items P (chosen s)) u
    where
      step : (l : List ℕ) → p ≡ first_or 0 (map suc l) → None ≡ header (least (map (weigh P s) l))
      step [] v = refl
      step (j ∷ l) v = absurd (omega arith)

  -- the first open item is the lightest so far
  pub begin : {p : ℕ} (T : Turn P n s t [] (open_items P (chosen s)) p) (p' k : ℕ) → p' ≡ first_or 0 (map suc T.rest) → k ≡ (weigh P s T.j).weight → Choosing P s p' p k
  unfolding pick
  begin T p' k a b = record {
    done = T.j ∷ [];
    rest = T.rest;
    best = weigh P s T.j;
    split = T.ahead_is;
    at = a;
    item = T.at;
    weight = b;
    picks = ap (λ (l : List ℕ). least (map (weigh P s) l)) T.ahead_is;
  }

  -- another one
  module _ {p i min : ℕ} (C : Choosing P s p i min) (T : Turn P n s t C.done C.rest p) (p' k : ℕ) (u : p' ≡ first_or 0 (map suc T.rest)) (w : k ≡ (weigh P s T.j).weight) where
    abbrev W : Weighed
    W = weigh P s T.j

    next : (b : Bool) → ltb W.weight C.best.weight ≡ b → (i' min' : ℕ) → i' ≡ suc (cond b W C.best).item → min' ≡ (cond b W C.best).weight → Choosing P s p' i' min'
    unfolding least_from
    next b f i' min' g h = record {
      done = C.done ++ T.j ∷ [];
      rest = T.rest;
      best = cond b W C.best;
      split = C.split ∙ ap (λ (l : List ℕ). C.done ++ l) T.ahead_is ∙ sym (append_assoc C.done (T.j ∷ []) T.rest);
      at = u;
      item = g;
      weight = h;
      picks =
          C.picks ∙ ap (λ (l : List ℕ). Some (least_from C.best (map (weigh P s) l)).item) T.ahead_is
          ∙ ap (λ (x : Bool). Some (least_from (cond x W C.best) (map (weigh P s) T.rest)).item) f;
    }

    pub lighter_one : k < min → Choosing P s p' p k
    lighter_one h = next true (lt-ltb W.weight C.best.weight (omega (arith, C.weight))) p k T.at w

    pub no_lighter : min ≤ k → Choosing P s p' i min
    no_lighter h = next false (le-ltb W.weight C.best.weight (omega (arith, C.weight))) i min C.item C.weight

  -- nothing is lighter than an item without an option
  pub dead : {p i min : ℕ} → Choosing P s p i min → min ≡ 0 → Some i ≡ header (pick P (chosen s))
  dead C z =
      ap Some C.item ∙ ap header (sym (C.picks ∙ ap (λ (w : Weighed). Some w.item) (none_lighter C.best (map
      (weigh P s) C.rest) (sym C.weight ∙ z))))

  -- the walk is done
  pub chosen_is : {p i min : ℕ} → Choosing P s p i min → p ≡ 0 → Some i ≡ header (pick P (chosen s))
  unfolding least_from
  chosen_is {p} {i} C z = step C.rest refl
    where
      step : (r : List ℕ) → C.rest ≡ r → Some i ≡ header (pick P (chosen s))
      step [] e = ap Some C.item ∙ ap header (sym (C.picks
          ∙ ap (λ (l : List ℕ). Some (least_from C.best (map (weigh P s) l)).item) e))
      step (j ∷ rest) e = let u : p ≡ suc j = C.at ∙ ap (λ (l : List ℕ). first_or 0 (map suc l)) e in absurd (omega arith)

-- The points that the search reaches by an order rule: the walk goes from one to another, and what passes the test for 10 is one.
use Rattle.std.specs.Prelude.{◌≡◌, Bool, true, false, ◌&&◌, cond, T, eqb, ℤ, pos, negsuc, length, take, drop, replicate, Option, None, Some}
use Rattle.std.proofs.Math.Path.{refl, sym}
use Rattle.std.proofs.Common.{ap, ◌∙◌, arith, eqb→eq, length-append}
use mathlib.Core.List.{List, [], ◌∷◌, ◌++◌, append_assoc}
use Prim.Native.Nat.{ℕ, zero, suc, ◌+◌, ◌-◌, ◌≤◌}
use Rattle.std.proofs.lemmas.List.{length-replicate}
use Rattle.rules.specs.declared.Phase.{Phase}
use Rattle.rules.specs.declared.Phase.TheVariants.{Ready, Solution, Done}
use Rattle.rules.specs.declared.State.{State}
use Rattle.rules.specs.Lists.{each, when}
use Rattle.rules.specs.Words.{same, same_words}
use Rattle.rules.specs.Problem.{Problem}
use Rattle.rules.specs.Order.{Choice, Rule, node, choices, open_options}
use Rattle.rules.specs.Links.{table}
use Rattle.rules.specs.Walk.{Level, made, chosen, in_order, Move, back_to, retreat, go_into, enter, paused, Walk, stop, visiting, follow, at_point, walk, resume}
use Rattle.rules.specs.Calls.{level_of, deeper, phase_fits, depth_fits, taken, levels, in_phase, path_point, in_table, point, path_words}
use Rattle.laws.specs.Lists.{and_left, and_right, cannot}

-- At each level the item that the rule takes is tried, and the choices from the one tried on are the last of its open ones.
pub data Reached (P : Problem) (rule : Rule) : List Level → Type 0 where
  root : Reached P rule []
  level : {v : Level} {above : List Level} (i : ℕ) (xs : List Choice) → rule (chosen above) ≡ Some i
      → choices i (open_options P (chosen above)) ≡ xs ++ v.tried ∷ v.left → Reached P rule above → Reached P rule (v ∷ above)

-- two walks as one: the second begins where the first ended
abbrev pub joined : Walk → Walk → Walk
joined w v = record { end = v.end; at = v.at; visited = w.visited ++ v.visited; updates = w.updates + v.updates }

-- a test that holds
pub when_some : {A : Type 0} (b : Bool) {r : Option A} {a : A} → when b r ≡ Some a → T b × (r ≡ Some a)
when_some true e = (tt, e)
when_some false e = cannot (cc)

pub same_eq : (x y : ℤ) → T (same x y) → x ≡ y
same_eq (pos a) (pos b) t = ap pos (eqb→eq a b t)
same_eq (pos a) (negsuc b) t = absurd t
same_eq (negsuc a) (pos b) t = absurd t
same_eq (negsuc a) (negsuc b) t = ap negsuc (eqb→eq a b t)

pub words_eq : (xs ys : List ℤ) → T (same_words xs ys) → xs ≡ ys
unfolding same_words
words_eq [] [] t = refl
words_eq [] (y ∷ ys) t = absurd t
words_eq (x ∷ xs) [] t = absurd t
words_eq (x ∷ xs) (y ∷ ys) t =
    let e = same_eq x y (and_left (same x y) (same_words xs ys) t) in
    rw (e, words_eq xs ys (and_right (same x y) (same_words xs ys) t))

-- ---- a path's words

pub in_order_length : {A : Type 0} (f : Choice → A) (s : List Level) → length (in_order f s) ≡ length s
unfolding in_order
in_order_length f [] = refl
in_order_length f (v ∷ s) = length-append (in_order f s) (f v.tried ∷ []) ∙ omega (arith, in_order_length f s)

pub path_length : (np : ℕ) (s : List Level) → length s ≤ np → length (path_words np s) ≡ np
unfolding path_words
path_length np s h =
    length-append (in_order (λ c. pos (node c)) s) (replicate (np - length s) (pos 0))
    ∙ omega (arith, in_order_length (λ c. pos (node c)) s, length-replicate (np - length s) (pos 0))

-- the level found tries one of the choices
pub level_at : (q : ℕ) (cs : List Choice) {v : Level} → level_of q cs ≡ Some v → (xs : List Choice) × (cs ≡ xs ++ v.tried ∷ v.left)
unfolding level_of
level_at q [] e = cannot (cc)
level_at q (c ∷ cs) {v} e = go (eqb (node c) q) e (λ u. level_at q cs u)
  where
    go : (b : Bool) → cond b (Some (record { tried = c; left = cs })) (level_of q cs) ≡ Some v
        → (level_of q cs ≡ Some v → (xs : List Choice) × (cs ≡ xs ++ v.tried ∷ v.left)) → (xs : List Choice) × (c ∷ cs ≡ xs ++ v.tried ∷ v.left)
    go true e rec = let u : record { tried = c; left = cs } ≡ v = cc in ([], rw (← u))
    go false e rec = let r = rec e in (c ∷ r.0, ap (λ (l : List Choice). c ∷ l) r.1)

module _ (P : Problem) (rule : Rule) where
  -- ---- the walk

  pub retreat_reached : {s : List Level} {m : Move} → Reached P rule s → retreat P s ≡ Some m → Reached P rule m.to
  unfolding retreat
  retreat_reached {m = m} root e = cannot (cc)
  retreat_reached {m = m} (level {v = v} {above = above} i xs p c r) e = go v.left c e (λ u. retreat_reached r u)
    where
      go : (l : List Choice) → choices i (open_options P (chosen above)) ≡ xs ++ v.tried ∷ l → back_to P l above (retreat P above) ≡ Some m
          → (retreat P above ≡ Some m → Reached P rule m.to) → Reached P rule m.to
      go [] c e rec = rec e
      go (d ∷ ds) c e rec =
          let u : record { tried = d; left = ds } ∷ above ≡ m.to = cc in
          rw (← u) (level {v = record { tried = d; left = ds }} i (xs ++ v.tried ∷ []) p (c ∙ sym (append_assoc xs (v.tried ∷ []) (d ∷ ds))) r)

  pub enter_reached : {s : List Level} {i : ℕ} {m : Move} → Reached P rule s → rule (chosen s) ≡ Some i → enter P s i ≡ Some m → Reached P rule m.to
  unfolding enter
  enter_reached {s} {i} {m} r p e = go (choices i (open_options P (chosen s))) refl e
    where
      go : (l : List Choice) → choices i (open_options P (chosen s)) ≡ l → go_into P l s ≡ Some m → Reached P rule m.to
      go [] c e = retreat_reached r e
      go (d ∷ ds) c e =
          let u : record { tried = d; left = ds } ∷ s ≡ m.to = cc in
          rw (← u) (level {v = record { tried = d; left = ds }} i [] p c r)

  follow_reached : (r : Option Move) (k : List Level → Walk) → ((m : Move) → r ≡ Some m → Reached P rule (k m.to).at) → Reached P rule (follow r k).at
  follow_reached None k h = root
  follow_reached (Some m) k h = h m refl

  pub walk_reached : (a : ℕ) {s : List Level} → Reached P rule s → Reached P rule (walk P rule a s).at
  unfolding walk
  walk_reached zero {s} r = go (rule (chosen s))
    where
      go : (o : Option ℕ) → Reached P rule (at_point s o (λ i. stop paused s)).at
      go None = r
      go (Some i) = r
  walk_reached (suc a) {s} r = go (rule (chosen s)) refl (λ t u. walk_reached a u)
    where
      go : (o : Option ℕ) → rule (chosen s) ≡ o → ((t : List Level) → Reached P rule t → Reached P rule (walk P rule a t).at)
          → Reached P rule (at_point s o (λ i. visiting (length s) (follow (enter P s i) (λ t. walk P rule a t)))).at
      go None e rec = r
      go (Some i) e rec = follow_reached (enter P s i) (λ t. walk P rule a t) (λ m u. rec m.to (enter_reached r e u))

  pub resume_reached : (a : ℕ) (ph : Phase) {s : List Level} → Reached P rule s → Reached P rule (resume P rule a ph s).at
  unfolding resume
  resume_reached a Ready r = walk_reached a r
  resume_reached a Solution {s} r = follow_reached (retreat P s) (λ t. walk P rule a t) (λ m u. walk_reached a (retreat_reached r u))
  resume_reached a Done r = walk_reached a root

  -- ---- the test for refusal 10

  pub levels_reached : (qs : List ℤ) {s s' : List Level} → Reached P rule s → levels P rule qs s ≡ Some s' → Reached P rule s'
  unfolding levels
  levels_reached [] {s} {s'} r e = let u : s ≡ s' = cc in rw (← u) r
  levels_reached (negsuc k ∷ qs) r e = cannot (cc)
  levels_reached (pos q ∷ qs) {s} {s'} r e = go (rule (chosen s)) refl e (λ t u w. levels_reached qs u w)
    where
      last : (i : ℕ) → rule (chosen s) ≡ Some i → (o : Option Level) → level_of q (choices i (open_options P (chosen s))) ≡ o → deeper o s (λ t. levels P rule qs t) ≡ Some s'
          → ((t : List Level) → Reached P rule t → levels P rule qs t ≡ Some s' → Reached P rule s') → Reached P rule s'
      last i p None f e rec = cannot (cc)
      last i p (Some v) f e rec = let x = level_at q (choices i (open_options P (chosen s))) f in rec (v ∷ s) (level i x.0 p x.1 r) e

      go : (o : Option ℕ) → rule (chosen s) ≡ o → deeper (taken P rule o s q) s (λ t. levels P rule qs t) ≡ Some s'
          → ((t : List Level) → Reached P rule t → levels P rule qs t ≡ Some s' → Reached P rule s') → Reached P rule s'
      go None p e rec = cannot (cc)
      go (Some i) p e rec = last i p (level_of q (choices i (open_options P (chosen s)))) refl e rec

  pub in_phase_some : (ph : Phase) (o : Option (List Level)) {s : List Level} → in_phase P rule ph o ≡ Some s → o ≡ Some s
  in_phase_some ph None e = e
  in_phase_some ph (Some s) e = (when_some (phase_fits ph (rule (chosen s))) e).1

  pub in_table_some : (t : List ℤ) (o : Option (List Level)) {s : List Level} → in_table P rule t o ≡ Some s → (o ≡ Some s) × (t ≡ table P (made s))
  in_table_some t None e = cannot (cc)
  in_table_some t (Some s') {s} e =
      let w = when_some (same_words t (table P (made s'))) e in
      let u : s' ≡ s = cc in
      (w.1, words_eq t (table P (made s')) w.0 ∙ ap (λ (x : List Level). table P (made x)) u)

  pub path_reached : (st : State) (path : List ℤ) {s : List Level} → path_point P rule st path ≡ Some s → Reached P rule s
  unfolding path_point
  path_reached st path e =
      let w = when_some (depth_fits st.phase P.np st.depth && each (λ w. same w (pos 0)) (drop st.depth path)) e in
      levels_reached (take st.depth path) root (in_phase_some st.phase (levels P rule (take st.depth path) []) w.1)

  -- what passes is a point that the search reaches, and the words lent are its table
  pub point_reached : (st : State) (t path : List ℤ) {s : List Level} → point P rule st t path ≡ Some s → Reached P rule s × (t ≡ table P (made s))
  unfolding point
  point_reached st t path e = let w = in_table_some t (path_point P rule st path) e in (path_reached st path w.0, w.1)

-- The list of all solutions holds each solution once, and nothing else.
use Rattle.std.specs.Prelude.{◌≡◌, ◌⊎◌, ◌≢◌, ◌↔◌, Bool, true, false, not, ◌||◌, Option, None, Some}
use Rattle.std.proofs.Math.Path.{refl}
use Rattle.std.proofs.Common.{sym, ap, ◌∙◌, inl, inr, arith, lt→ltb, T_not}
use mathlib.Core.List.Memᴰ.{head as here}
use mathlib.Core.List.Memᴰ.{tail as there}
use mathlib.Core.List.{List, [], ◌∷◌, Memᴰ as Mem}
use mathlib.Core.List.Memᴰ.{append_cases}
use mathlib.Core.List.Memᴰ.{append_left as in_left}
use mathlib.Core.List.Memᴰ.{append_right as in_right}
use mathlib.Core.List.Memᴰ.{eq_of_singleton as of-singleton}
use mathlib.Core.List.Memᴰ.{map as map-in}
use mathlib.Core.List.Memᴰ.{not-nil}
use mathlib.Core.List.Memᴰ.{of_map as map-mem}
use Prim.Native.Nat.{ℕ, zero, suc, ◌+◌, ◌≤◌, ◌<◌}
use Rattle.std.proofs.Math.Decide.{dec_lt, ℕ_discrete}
use Rattle.std.proofs.Math.Dec.{T, ltb, ltb→lt}
use Rattle.std.proofs.Math.ListN.{length}
use Rattle.rules.specs.Lists.{each, has, run, flat}
use Rattle.rules.specs.Problem.{Entry, Problem, items}
use Rattle.rules.specs.Knuth.{option, Has, Agree, Solution}
use Rattle.rules.specs.Order.{has_item, agree, Placed, kept, placed, open_options, open_items, Choice, choices, Rule}
use Rattle.rules.specs.Walk.{branch, solutions, in_turn, listed}
use Rattle.laws.specs.Lists.{Apart, apart_nil, apart_cons, apart_keep, apart_map, apart_append, apart_flat, keep_mem, keep_in, each_at, each_all, has_at, has_in, flat_mem, flat_in, mem_length, keep_lt, keep_length, length_run}
use Rattle.laws.specs.Order.{agree→, agree←, agree_sym, has-item←, place_facts, place_has, place_one, place_apart, open_item, open_item_facts, choice_facts, choice_in, choices_apart, Sound}
use Rattle.laws.specs.Faults.{Good, plain}
use Rattle.knuth.specs.Listed.{SameSet}

-- ---- the numbers told

told_mem : (s : List Placed) {x : ℕ} → Mem x (in_turn s) → (c : Placed) × Mem c s × (c.number ≡ x)
unfolding in_turn
told_mem [] m = absurd (not-nil m)
told_mem (o ∷ s) {x} m = step (append_cases (in_turn s) m) (λ k. told_mem s k)
  where
    step : Mem x (in_turn s) ⊎ Mem x (o.number ∷ []) → (Mem x (in_turn s) → (c : Placed) × Mem c s × (c.number ≡ x))
        → (c : Placed) × Mem c (o ∷ s) × (c.number ≡ x)
    step (inl k) rec = let r = rec k in (r.0, there r.1, r.2)
    step (inr k) rec = (o, here refl, sym (of-singleton k))

told_in : {c : Placed} {s : List Placed} → Mem c s → Mem c.number (in_turn s)
unfolding in_turn
told_in (here {x = x} {xs = s} e) = in_right (in_turn s) (here (ap (λ (y : Placed). y.number) e))
told_in (there {x = x} {xs = s} m) = in_left (x.number ∷ []) (told_in m)

-- ---- the kept options

-- no two kept options have one number
abbrev Numbered : List Placed → Type 0
Numbered os = Apart (λ (a b : Placed). a.number ≢ b.number) os

module _ (P : Problem) where
  -- a kept option is the option of its number
  kept_option : {c : Placed} → Mem c (placed P) → (c.number < length P.options) × (option P c.number ≡ c.entries) × T (kept P.np c.entries)
  unfolding placed
  kept_option {c} m =
      let r = place_facts P.np 0 (items P + 1) P.options m in
      let e : c.number ≡ r.0 = omega (arith, r.1) in
      (omega (arith, r.2), rw e r.3, r.4)

  -- and the only one
  one_number : {c d : Placed} → Mem c (placed P) → Mem d (placed P) → c.number ≡ d.number → c ≡ d
  unfolding placed
  one_number m m' e = place_one P.np 0 (items P + 1) P.options m m' e

  has_primary : (o : List Entry) → T (kept P.np o) → (i : ℕ) × (i < P.np) × Has o i
  unfolding kept
  has_primary o t = let r = has_at (λ (e : Entry). ltb e.item P.np) o t in (r.0.item, ltb→lt r.0.item P.np r.2, (r.0, r.1, refl))

  is_kept : (o : List Entry) (i : ℕ) → i < P.np → Has o i → T (kept P.np o)
  unfolding kept
  is_kept o i h x = has_in (λ (e : Entry). ltb e.item P.np) x.1 (lt→ltb x.0.item P.np (rw x.2 h))

  open_numbered : (cs : List Placed) → Numbered (open_options P cs)
  unfolding open_options placed
  open_numbered cs = apart_keep (λ o. each (λ c. agree c.entries o.entries) cs) (place_apart P.np 0 (items P + 1) P.options)

-- the test is Knuth's relation
is_agree : (np : ℕ) {o p : List Entry} → Agree np o p → T (agree o p)
is_agree np {o} {p} a = agree← o p (λ e d m m' s. let u = a e d m m' s in (u.one_colour, u.coloured))

module _ {P : Problem} (G : Good P) {c : Placed} (mc : Mem c (placed P)) where
  agree_is : {p : List Entry} → T (agree c.entries p) → Agree P.np c.entries p
  agree_is {p} t e d m m' s =
      let u = agree→ c.entries p t m m' s in
      record { secondary = late (dec_lt e.item P.np) u.1; one_colour = u.0; coloured = u.1 }
    where
      late : Dec (e.item < P.np) → e.colour ≢ 0 → P.np ≤ e.item
      late (yes h) coloured = absurd (coloured (plain G c mc e m h))
      late (no f) coloured = omega arith

  pub agree_exactly : (es : List Entry) → T (agree c.entries es) ↔ Agree P.np c.entries es
  agree_exactly es = (agree_is, is_agree P.np)

  -- options with a primary item in common do not agree
  pub clash : (o : List Entry) (i : ℕ) → i < P.np → Has c.entries i → Has o i → T (agree c.entries o) → ⊥
  clash o i h (e, me, ie) (d, md, id) t = (agree→ c.entries o t me md (ie ∙ sym id)).1 (plain G c mc e me (rw ie h))

-- ---- chosen options

-- the deepest first: each is kept, and agrees with those above it
data Fine (P : Problem) : List Placed → Type 0 where
  start : Fine P []
  more : {c : Placed} {cs : List Placed} → Mem c (placed P) → T (each (λ d. agree d.entries c.entries) cs) → Fine P cs → Fine P (c ∷ cs)

module _ {P : Problem} where
  -- one more level keeps the chosen options fine
  grow : (cs : List Placed) (i : ℕ) {c : Choice} → Fine P cs → Mem c (choices i (open_options P cs)) → Fine P (c.option ∷ cs)
  unfolding open_options
  grow cs i f m =
      let h = choice_facts i (open_options P cs) m in
      let k = keep_mem (λ (o : Placed). each (λ d. agree d.entries o.entries) cs) (placed P) h.0 in
      more k.0 k.1 f

  fine_kept : {cs : List Placed} → Fine P cs → {c : Placed} → Mem c cs → Mem c (placed P)
  fine_kept start m = absurd (not-nil m)
  fine_kept (more k t f) (here e) = rw e k
  fine_kept (more k t f) (there m) = fine_kept f m

  -- two chosen options of different numbers agree
  fine_agree : {cs : List Placed} → Fine P cs → {c d : Placed} → Mem c cs → Mem d cs → c.number ≢ d.number → T (agree c.entries d.entries)
  fine_agree start m m' ne = absurd (not-nil m)
  fine_agree (more k t f) {c} {d} (here e) (here e') ne = absurd (ne (ap (λ (y : Placed). y.number) (e ∙ sym e')))
  fine_agree (more {c = x} {cs = cs} k t f) {c} {d} (here e) (there m') ne =
      agree_sym d.entries c.entries (rw e (each_at (λ (y : Placed). agree y.entries x.entries) t m'))
  fine_agree (more {c = x} {cs = cs} k t f) {c} {d} (there m) (here e') ne = rw e' (each_at (λ (y : Placed). agree y.entries x.entries) t m)
  fine_agree (more k t f) (there m) (there m') ne = fine_agree f m m' ne

  -- no option is chosen twice: it does not agree with itself
  fine_numbered : Good P → {cs : List Placed} → Fine P cs → Numbered cs
  fine_numbered G start = apart_nil
  fine_numbered G (more {c = c} {cs = cs} k t f) = apart_cons apart (fine_numbered G f)
    where
      apart : (d : Placed) → Mem d cs → c.number ≢ d.number
      apart d m e =
          let p = has_primary P c.entries (kept_option P k).2 in
          let same : c ≡ d = one_number P k (fine_kept f m) e in
          let self : T (agree c.entries c.entries) = rw (← same) at (each_at (λ (y : Placed). agree y.entries c.entries) t m) in
          clash G k c.entries p.0 p.1 p.2 p.2 self

-- the numbers told are apart, as the options are
apart_told : {s : List Placed} → Numbered s → Apart (λ (x y : ℕ). x ≢ y) (in_turn s)
unfolding in_turn
apart_told apart_nil = apart_nil
apart_told (apart_cons {x = o} {xs = s} r a) =
    apart_append (apart_told a) (apart_cons (λ y m. absurd (not-nil m)) apart_nil)
    (λ x y m m' e. let z = told_mem s m in r z.0 z.1 (sym (of-singleton m') ∙ sym e ∙ sym z.2))

not_or_right : (a b : Bool) → T (not (a || b)) → T (not b)
not_or_right true b t = absurd t
not_or_right false b t = t

not_or : (a b : Bool) → T a → T (not (not (a || b)))
not_or true b t = tt
not_or false b t = absurd t

-- a choice covers an item that was open
pub fewer : (P : Problem) (cs : List Placed) (o : Placed) {i : ℕ} → Mem i (open_items P cs) → Has o.entries i → length (open_items P (o ∷ cs)) < length (open_items P cs)
unfolding open_items has
fewer P cs o {i} m h =
    let r = keep_mem (open_item cs) (run 0 P.np) m in
    keep_lt (open_item cs) (open_item (o ∷ cs)) (λ j t. not_or_right (has_item j o.entries) (has (λ c. has_item j c.entries) cs) t) r.0 r.1
    (not_or (has_item i o.entries) (has (λ c. has_item i c.entries) cs) (has-item← i o.entries h))

pub few : (P : Problem) (cs : List Placed) → length (open_items P cs) ≤ P.np
unfolding open_items
few P cs = omega (arith, keep_length (open_item cs) (run 0 P.np), length_run 0 P.np)

-- ---- the list

module _ (P : Problem) (rule : Rule) where
  -- A member of what lies below a point is the point, where no item is taken, or lies below one of the choices.
  abbrev Below : List Placed → (Placed → List (List Placed)) → List Placed → Type 0
  Below cs rest s = ((s ≡ cs) × (rule cs ≡ None)) ⊎ ((i : ℕ) × (rule cs ≡ Some i) × (c : Choice) × Mem c (choices i (open_options P cs)) × Mem s (rest c.option))

  branch_mem : (cs : List Placed) (rest : Placed → List (List Placed)) {s : List Placed} → Mem s (branch P rule cs (rule cs) rest) → Below cs rest s
  branch_mem cs rest {s} m = step (rule cs) refl m
    where
      step : (r : Option ℕ) → rule cs ≡ r → Mem s (branch P rule cs r rest) → Below cs rest s
      step None e m = inl (of-singleton m, e)
      step (Some i) e m = let r = flat_mem (λ (c : Choice). rest c.option) (choices i (open_options P cs)) m in inr (i, e, r.0, r.1, r.2)

  -- What holds at a point and is kept by each choice holds of all that is listed below it; and there no item is taken.
  solutions_all : (Q : List Placed → Type 0) → ((cs : List Placed) (i : ℕ) (c : Choice) → Q cs → Mem c (choices i (open_options P cs)) → Q (c.option ∷ cs))
      → (d : ℕ) (cs : List Placed) → Q cs → {s : List Placed} → Mem s (solutions P rule d cs) → Q s × (rule s ≡ None)
  unfolding solutions
  solutions_all Q more-so zero cs q {s} m = step (branch_mem cs (λ o. []) m)
    where
      step : Below cs (λ o. []) s → Q s × (rule s ≡ None)
      step (inl (u, e)) = (rw u q, rw u e)
      step (inr (i, e, c, mc, n)) = absurd (not-nil n)
  solutions_all Q more-so (suc d) cs q {s} m = step (branch_mem cs (λ o. solutions P rule d (o ∷ cs)) m) (λ o q' n. solutions_all Q more-so d (o ∷ cs) q' n)
    where
      step : Below cs (λ o. solutions P rule d (o ∷ cs)) s → ((o : Placed) → Q (o ∷ cs) → Mem s (solutions P rule d (o ∷ cs)) → Q s × (rule s ≡ None)) → Q s × (rule s ≡ None)
      step (inl (u, e)) rec = (rw u q, rw u e)
      step (inr (i, e, c, mc, n)) rec = rec c.option (more-so cs i c q mc) n

  solutions_fine : (d : ℕ) (cs : List Placed) → Fine P cs → {s : List Placed} → Mem s (solutions P rule d cs) → Fine P s × (rule s ≡ None)
  solutions_fine d cs f m = solutions_all (λ s. Fine P s) (λ cs i c f m. grow cs i f m) d cs f m

  solutions_hold : (d : ℕ) (cs : List Placed) {s : List Placed} → Mem s (solutions P rule d cs) → {c : Placed} → Mem c cs → Mem c s
  solutions_hold d cs m {c} mc = (solutions_all (λ s. Mem c s) (λ cs i o h m. there h) d cs mc m).0

  module _ (G : Good P) (R : Sound P rule) where
    -- ---- sound

    fine_solution : {s : List Placed} → Fine P s → rule s ≡ None → Solution P (in_turn s)
    fine_solution {s} f e = record {
      listed = λ x mx. let r = told_mem s mx in rw (← r.2) (kept_option P (fine_kept f r.1)).0;
      primary = λ x mx.
          let r = told_mem s mx in
          let k = kept_option P (fine_kept f r.1) in
          rw (← r.2, k.1) (has_primary P r.0.entries k.2);
      agreeing = λ x y mx my ne.
          let r = told_mem s mx in
          let q = told_mem s my in
          let k = fine_kept f r.1 in
          let a : T (agree r.0.entries q.0.entries) = fine_agree f r.1 q.1 (λ u. ne (sym r.2 ∙ u ∙ q.2)) in
          rw (← r.2, ← q.2, (kept_option P k).1, (kept_option P (fine_kept f q.1)).1) (agree_is G k a);
      covering = λ i h.
          let c = R.ends s e i h in
          (c.0.number, told_in c.1, rw (kept_option P (fine_kept f c.1)).1 c.2);
    }

    listed_from : {xs : List ℕ} → Mem xs (listed P rule) → (s : List Placed) × Fine P s × (rule s ≡ None) × (in_turn s ≡ xs)
    listed_from m =
        let z = map-mem in_turn (solutions P rule P.np []) m in
        let f = solutions_fine P.np [] start z.1 in
        (z.0, f.0, f.1, z.2)

    pub sound : (xs : List ℕ) → Mem xs (listed P rule) → Solution P xs
    sound xs m = let z = listed_from m in rw (← z.3) (fine_solution z.1 z.2)

    -- ---- once

    pub distinct : (xs : List ℕ) → Mem xs (listed P rule) → Apart (λ (x y : ℕ). x ≢ y) xs
    distinct xs m = let z = listed_from m in rw (← z.3) (apart_told (fine_numbered G z.1))

    abbrev Differ : List Placed → List Placed → Type 0
    Differ s s' = ¬ SameSet (in_turn s) (in_turn s')

    -- what lies below two choices of one item differs
    differ : (cs : List Placed) (i : ℕ) → rule cs ≡ Some i → Fine P cs → {c c' : Choice} → Mem c (choices i (open_options P cs)) → Mem c' (choices i (open_options P cs))
        → c.option.number ≢ c'.option.number → (d : ℕ) (s s' : List Placed) → Mem s (solutions P rule d (c.option ∷ cs)) → Mem s' (solutions P rule d (c'.option ∷ cs)) → Differ s s'
    differ cs i e f {c} {c'} m m' ne d s s' ms ms' same =
        let fs = (solutions_fine d (c.option ∷ cs) (grow cs i f m) ms).0 in
        let fs' = (solutions_fine d (c'.option ∷ cs) (grow cs i f m') ms').0 in
        let cin : Mem c.option s = solutions_hold d (c.option ∷ cs) ms (here refl) in
        let cin' : Mem c'.option s' = solutions_hold d (c'.option ∷ cs) ms' (here refl) in
        let z = told_mem s ((same c'.option.number).1 (told_in cin')) in
        let one : z.0 ≡ c'.option = one_number P (fine_kept fs z.1) (fine_kept fs' cin') z.2 in
        clash G (fine_kept fs cin) z.0.entries i (open_item_facts P cs (R.takes cs e)).0 (choice_facts i (open_options P cs) m).1
        (rw one (choice_facts i (open_options P cs) m').1)
        (fine_agree fs cin z.1 (λ u. ne (u ∙ z.2)))

    solutions_once : (d : ℕ) (cs : List Placed) → Fine P cs → Apart Differ (solutions P rule d cs)
    unfolding solutions flat
    solutions_once zero cs f = step (rule cs)
      where
        empty : (l : List Choice) → Apart Differ (flat (λ c. []) l)
        empty [] = apart_nil
        empty (x ∷ l) = empty l

        step : (r : Option ℕ) → Apart Differ (branch P rule cs r (λ o. []))
        step None = apart_cons (λ y m. absurd (not-nil m)) apart_nil
        step (Some i) = empty (choices i (open_options P cs))
    solutions_once (suc d) cs f = step (rule cs) refl (λ o fo. solutions_once d (o ∷ cs) fo)
      where
        step : (r : Option ℕ) → rule cs ≡ r → ((o : Placed) → Fine P (o ∷ cs) → Apart Differ (solutions P rule d (o ∷ cs)))
            → Apart Differ (branch P rule cs r (λ o. solutions P rule d (o ∷ cs)))
        step None e rec = apart_cons (λ y m. absurd (not-nil m)) apart_nil
        step (Some i) e rec =
            apart_flat (λ (c : Choice). solutions P rule d (c.option ∷ cs)) (choices_apart i (open_options P cs) (open_numbered P cs))
            (λ c m. rec c.option (grow cs i f m))
            (λ c c' m m' ne s s' ms ms'. differ cs i e f m m' ne d s s' ms ms')

    pub once : Apart (λ (xs ys : List ℕ). ¬ SameSet xs ys) (listed P rule)
    once = apart_map in_turn (λ s s' h. h) (solutions_once P.np [] start)

    -- ---- complete

    module _ (xs : List ℕ) (S : Solution P xs) where
      -- the chosen options are the solution's
      abbrev Within : List Placed → Type 0
      Within cs = (c : Placed) → Mem c cs → Mem c (placed P) × Mem c.number xs

      -- two members that share a primary item are one
      share_one : {x y : ℕ} (i : ℕ) → Mem x xs → Mem y xs → i < P.np → Has (option P x) i → Has (option P y) i → x ≡ y
      share_one {x} {y} i mx my h (e, me, ie) (d, md, id) = step (ℕ_discrete x y)
        where
          step : Dec (x ≡ y) → x ≡ y
          step (yes u) = u
          step (no ne) = let a = S.agreeing x y mx my ne e d me md (ie ∙ sym id) in absurd (omega (arith, a.secondary))

      -- where no item is open, the chosen options are all
      full : (cs : List Placed) → Within cs → rule cs ≡ None → SameSet xs (in_turn cs)
      full cs w e x = (there_is, is_there)
        where
          there_is : Mem x xs → Mem x (in_turn cs)
          there_is m =
              let p = S.primary x m in
              let c = R.ends cs e p.0 p.1 in
              let k = kept_option P (w c.0 c.1).0 in
              let u : x ≡ c.0.number = share_one p.0 m (w c.0 c.1).1 p.1 p.2 (rw k.1 c.2) in
              rw u (told_in c.1)

          is_there : Mem x (in_turn cs) → Mem x xs
          is_there m = let r = told_mem cs m in rw r.2 at (w r.0 r.1).1

      -- the solution's option for a primary item
      option_for : (i : ℕ) → i < P.np → (o : Placed) × Mem o (placed P) × Mem o.number xs × Has o.entries i
      unfolding placed
      option_for i h =
          let v = S.covering i h in
          let o = place_has P.np 0 (items P + 1) P.options v.0 (S.listed v.0 v.1) (is_kept P (option P v.0) i h v.2) in
          let e : o.0.number ≡ v.0 = omega (arith, o.2) in
          (o.0, o.1, rw e v.1, rw (← (kept_option P o.1).1, e) v.2)

      -- where the item is open, it is none of the chosen options, and agrees with each
      agrees_with : (cs : List Placed) → Within cs → {i : ℕ} → Mem i (open_items P cs) → (o : Placed) → Mem o (placed P) → Mem o.number xs → Has o.entries i
          → (c : Placed) → Mem c cs → T (agree c.entries o.entries)
      agrees_with cs w {i} m o mo mx h c mc =
          rw (← (kept_option P (w c mc).0).1, ← (kept_option P mo).1) (is_agree P.np (S.agreeing c.number o.number (w c mc).1 mx other))
        where
          other : c.number ≢ o.number
          other e =
              let one : c ≡ o = one_number P (w c mc).0 mo e in
              T_not (has (λ z. has_item i z.entries) cs) (open_item_facts P cs m).1 (has_in (λ (z : Placed). has_item i z.entries) mc (has-item← i c.entries (rw one h)))

      -- so it is one of the item's choices, and with it the chosen options are still the solution's
      next_in : (cs : List Placed) → Within cs → {i : ℕ} → Mem i (open_items P cs)
          → (c : Choice) × Mem c (choices i (open_options P cs)) × Within (c.option ∷ cs) × Has c.option.entries i
      unfolding open_options
      next_in cs w {i} m =
          let (o, mo, mx, h) = option_for i (open_item_facts P cs m).0 in
          let agrees : T (each (λ d. agree d.entries o.entries) cs) = each_all (λ (d : Placed). agree d.entries o.entries) cs (agrees_with cs w m o mo mx h) in
          let ch = choice_in i (open_options P cs) (keep_in (λ (z : Placed). each (λ d. agree d.entries z.entries) cs) mo agrees) h in
          (ch.0, ch.1, (λ c mc. still o (mo, mx) c (rw ch.2 at mc)), rw ch.2 h)
        where
          still : (o : Placed) → Mem o (placed P) × Mem o.number xs → (c : Placed) → Mem c (o ∷ cs) → Mem c (placed P) × Mem c.number xs
          still o h c (here e) = (rw e h.0, rw e h.1)
          still o h c (there m) = w c m

      complete_from : (d : ℕ) (cs : List Placed) → Within cs → length (open_items P cs) ≤ d → (s : List Placed) × Mem s (solutions P rule d cs) × SameSet xs (in_turn s)
      unfolding solutions
      complete_from zero cs w l = step (rule cs) refl
        where
          step : (r : Option ℕ) → rule cs ≡ r → (s : List Placed) × Mem s (branch P rule cs r (λ o. [])) × SameSet xs (in_turn s)
          step None e = (cs, here refl, full cs w e)
          step (Some i) e = absurd (omega (arith, mem_length (R.takes cs e)))
      complete_from (suc d) cs w l = step (rule cs) refl (λ o w' l'. complete_from d (o ∷ cs) w' l')
        where
          step : (r : Option ℕ) → rule cs ≡ r
              → ((o : Placed) → Within (o ∷ cs) → length (open_items P (o ∷ cs)) ≤ d → (s : List Placed) × Mem s (solutions P rule d (o ∷ cs)) × SameSet xs (in_turn s))
              → (s : List Placed) × Mem s (branch P rule cs r (λ o. solutions P rule d (o ∷ cs))) × SameSet xs (in_turn s)
          step None e rec = (cs, here refl, full cs w e)
          step (Some i) e rec =
              let n = next_in cs w (R.takes cs e) in
              let r = rec n.0.option n.2 (omega (arith, fewer P cs n.0.option (R.takes cs e) n.3)) in
              (r.0, flat_in (λ (c : Choice). solutions P rule d (c.option ∷ cs)) n.1 r.1, r.2)

      pub complete : (ys : List ℕ) × Mem ys (listed P rule) × SameSet xs ys
      complete =
          let r = complete_from P.np [] (λ c m. absurd (not-nil m)) (few P []) in
          (in_turn r.0, map-in in_turn r.1, r.2)

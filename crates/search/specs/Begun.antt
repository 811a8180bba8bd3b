-- What the tests of a call tell: the words that pass the test for 10 are those of a point, and counts that pass the test for 11 are within the cap.
use Rattle.std.proofs.Math.Path.{◌≡◌, sym, ap}
use Rattle.std.specs.Prelude.{refl, Bool, true, false, ◌&&◌, cond, ℕ, zero, suc, ◌+◌, ◌-◌, ◌≤◌, ◌<◌, T, eqb, leb, ℤ, pos, negsuc, get_or, take, drop, replicate, Option, None, Some}
use Rattle.std.proofs.Common.{◌∙◌, arith, eqb→eq, leb→le, length-take, length-drop, take-append-drop}
use mathlib.Core.List.{List, [], ◌∷◌, ◌++◌, append_assoc, append-nil}
use Rattle.std.proofs.Math.ListN.{length}
use Rattle.rules.specs.declared.Phase.{Phase}
use Rattle.rules.specs.declared.Phase.TheVariants as Phases
use Rattle.rules.specs.declared.State.{State}
use Rattle.rules.specs.Lists.{each}
use Rattle.rules.specs.Words.{same}
use Rattle.rules.specs.Problem.{Problem, items}
use Rattle.rules.specs.Order.{Choice, Rule, node, pick, choices, open_options}
use Rattle.rules.specs.Links.{events, fresh, table}
use Rattle.rules.specs.Walk.{Level, chosen, in_order}
use Rattle.rules.specs.Calls.{cap, counts_fit, level_of, deeper, depth_fits, taken, levels, path_point, point, path_words}
use Rattle.laws.specs.Faults.{Good}
use Rattle.laws.specs.Lists.{and_left, and_right}
use Rattle.laws.specs.Reached.{root, when_some, same_eq, in_phase_some, in_table_some, point_reached}
use Rattle.tables.specs.Nodes.{nodes}
use Rattle.search.specs.Points.{At, Profile, Begun}

-- ---- the fresh table

-- it is that of the top
pub fresh_at : {P : Problem} {n : ℕ} → Good P → nodes P < 2147483648 → n ≡ items P → At P n [] (fresh P)
unfolding table events
fresh_at G h e = record { good = G; small = h; n_is = e; reached = root; is = refl }

-- ---- the levels of a path

-- the level found tries the choice of the node
pub level_node : (q : ℕ) (cs : List Choice) {v : Level} → level_of q cs ≡ Some v → q ≡ node v.tried
unfolding level_of
level_node q [] e = absurd (let z : ◌≡◌ {A = ℕ} 0 1 = cc in omega arith)
level_node q (c ∷ cs) {v} e = step (eqb (node c) q) refl e (λ u. level_node q cs u)
  where
    step : (b : Bool) → eqb (node c) q ≡ b → cond b (Some (record { tried = c; left = cs })) (level_of q cs) ≡ Some v → (level_of q cs ≡ Some v → q ≡ node v.tried) → q ≡ node v.tried
    step true u e rec =
        let k : record { tried = c; left = cs } ≡ v = cc in
        sym (eqb→eq (node c) q (rw u tt)) ∙ ap (λ (w : Level). node w.tried) k
    step false u e rec = rec e

abbrev nodes_of : List Level → List ℤ
nodes_of s = in_order (λ c. pos (node c)) s

module _ (P : Problem) (rule : Rule) where
  -- they try the path's nodes
  levels_are : (qs : List ℤ) (s : List Level) {s' : List Level} → levels P rule qs s ≡ Some s' → (nodes_of s' ≡ nodes_of s ++ qs) × (length s' ≡ length s + length qs)
  unfolding levels in_order
  levels_are [] s {s'} e =
      let z : s ≡ s' = cc in
      (ap nodes_of (sym z) ∙ sym (append-nil (nodes_of s)), ap length (sym z) ∙ omega arith)
  levels_are (negsuc k ∷ qs) s e = absurd (let z : ◌≡◌ {A = ℕ} 0 1 = cc in omega arith)
  levels_are (pos q ∷ qs) s {s'} e = go (rule (chosen s)) e (λ v f. levels_are qs (v ∷ s) f)
    where
      More : Level → Type 0
      More v = levels P rule qs (v ∷ s) ≡ Some s' → (nodes_of s' ≡ nodes_of (v ∷ s) ++ qs) × (length s' ≡ length (v ∷ s) + length qs)

      Goal : Type 0
      Goal = (nodes_of s' ≡ nodes_of s ++ pos q ∷ qs) × (length s' ≡ length s + length (pos q ∷ qs))

      last : (i : ℕ) (o : Option Level) → level_of q (choices i (open_options P (chosen s))) ≡ o → deeper o s (λ t. levels P rule qs t) ≡ Some s' → ((v : Level) → More v) → Goal
      last i None f e rec = absurd (let z : ◌≡◌ {A = ℕ} 0 1 = cc in omega arith)
      last i (Some v) f e rec =
          let r = rec v e in (
            r.0 ∙ append_assoc (nodes_of s) (pos (node v.tried) ∷ []) qs ∙ ap (λ (k : ℕ). nodes_of s ++ pos k ∷ qs) (sym (level_node q (choices i (open_options P (chosen s))) f)),
            r.1 ∙ omega arith,
          )

      go : (o : Option ℕ) → deeper (taken P rule o s q) s (λ t. levels P rule qs t) ≡ Some s' → ((v : Level) → More v) → Goal
      go None e rec = absurd (let z : ◌≡◌ {A = ℕ} 0 1 = cc in omega arith)
      go (Some i) e rec = last i (level_of q (choices i (open_options P (chosen s)))) refl e rec

-- ---- a point

zeros_are : (xs : List ℤ) → T (each (λ w. same w (pos 0)) xs) → xs ≡ replicate (length xs) (pos 0)
unfolding each
zeros_are [] t = refl
zeros_are (x ∷ xs) t =
    let e = same_eq x (pos 0) (and_left (same x (pos 0)) (each (λ w. same w (pos 0)) xs) t) in
    rw (e, ← zeros_are xs (and_right (same x (pos 0)) (each (λ w. same w (pos 0)) xs) t)) refl

depth_within : (ph : Phase) (np d : ℕ) → T (depth_fits ph np d) → d ≤ np
depth_within Phases.Ready np d t = leb→le d np t
depth_within Phases.Solution np d t = leb→le d np t
depth_within Phases.Done np d t = let z = eqb→eq d 0 t in omega arith

done_depth : (ph : Phase) (np d : ℕ) → T (depth_fits ph np d) → ph ≡ Phases.Done → d ≡ 0
done_depth Phases.Ready np d t e = absurd (let z : ◌≡◌ {A = ℕ} 0 1 = cc in omega arith)
done_depth Phases.Solution np d t e = absurd (let z : ◌≡◌ {A = ℕ} 0 1 = cc in omega arith)
done_depth Phases.Done np d t e = eqb→eq d 0 t

-- table and path of the problem's lengths, with the state, that are a point
pub point_begun : {P : Problem} {n : ℕ} (st : State) (t path : List ℤ) {s : List Level} → Good P → nodes P < 2147483648 → n ≡ items P → length path ≡ P.np
    → point P (pick P) st t path ≡ Some s → Begun P n s t path st
unfolding point path_point path_words in_order
point_begun {P} {n} st t path {s} G h en el e =
    let d : ℕ = st.depth in
    let Z : Bool = each (λ w. same w (pos 0)) (drop d path) in
    let w = when_some (depth_fits st.phase P.np d && Z) (in_table_some P (pick P) t (path_point P (pick P) st path) e).0 in
    let f = and_left (depth_fits st.phase P.np d) Z w.0 in
    let le = depth_within st.phase P.np d f in
    let r = levels_are P (pick P) (take d path) [] (in_phase_some P (pick P) st.phase (levels P (pick P) (take d path) []) w.1) in
    let q = point_reached P (pick P) st t path e in
    let ls : length s ≡ d = r.1 ∙ omega (arith, length-take d path) in
    let ld : length (drop d path) ≡ P.np - length s = omega (arith, length-drop d path) in
    let z : drop d path ≡ replicate (P.np - length s) (pos 0) =
    zeros_are (drop d path) (and_right (depth_fits st.phase P.np d) Z w.0) ∙ ap (λ (k : ℕ). replicate k (pos 0)) ld in
    record {
      on = record {
        at = record { good = G; small = h; n_is = en; reached = q.0; is = q.1 };
        path_is = sym (take-append-drop d path) ∙ ap (λ (l : List ℤ). take d path ++ l) z ∙ ap (λ (l : List ℤ). l ++ replicate (P.np - length s) (pos 0)) (sym r.0);
        level = sym ls;
      };
      done_top = done_depth st.phase P.np d f;
    }

-- ---- counts

each_small : (profile : List ℕ) → T (each (λ c. leb c cap) profile) → (k : ℕ) → get_or profile k 0 ≤ cap
unfolding each
each_small [] t k = omega arith
each_small (c ∷ cs) t zero = leb→le c cap (and_left (leb c cap) (each (λ c. leb c cap) cs) t)
each_small (c ∷ cs) t (suc k) = each_small cs (and_right (leb c cap) (each (λ c. leb c cap) cs) t) k

pub counts_begun : (st : State) (profile : List ℕ) → T (counts_fit st profile) → (st.updates ≤ cap) × Profile (length profile) profile
unfolding counts_fit
counts_begun st profile t = (
  leb→le st.updates cap (and_left (leb st.updates cap) (each (λ c. leb c cap) profile) t),
  record { long = refl; small = each_small profile (and_right (leb st.updates cap) (each (λ c. leb c cap) profile) t) },
)

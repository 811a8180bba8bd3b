-- Whether table, path and state are a point.
use mathlib.Core.Path.{◌≡◌, refl, sym, ap, ◌∙◌}
use mathlib.Core.Logic.{◌≢◌}
use mathlib.Core.Bool.{Bool, true, false, ◌&&◌, cond}
use Rattle.std.specs.Prelude.{Option, None, Some}
use mathlib.Core.List.{List, [], ◌∷◌}
use Prim.Native.Nat.{ℕ, suc, ◌+◌, ◌≤◌}
use native.Mathlib.Omega.{arith}
use lib.Dec.{eqb, eqb→eq, leb→le}
use borrow.Author.Tests.{eq-eqb, ne_eqb}
use lib.IntN.{ℤ, pos, negsuc}
use lib.ListN.{length, take, drop, length-take}
use Rattle.rules.specs.declared.Phase.{Phase}
use Rattle.rules.specs.declared.Phase.TheVariants as Phases
use Rattle.rules.specs.declared.State.{State}
use Rattle.rules.specs.Lists.{each, when, got}
use Rattle.rules.specs.Words.{same, same_words}
use Rattle.rules.specs.Problem.{Problem}
use Rattle.rules.specs.Order.{pick}
use Rattle.rules.specs.Links.{table}
use Rattle.rules.specs.Walk.{Level, made, chosen}
use Rattle.rules.specs.Calls.{deeper, phase_fits, depth_fits, levels, in_phase, path_point, in_table, point}
use Rattle.search.specs.declared.point.Reach.{Reach}
use Rattle.search.specs.Points.{At, header}
use Rattle.search.specs.Replays.{meant_by, Trailed, go_on, follows, reach, PathPoint}

-- the words from k on are 0
abbrev pub zeros : List ℤ → ℕ → Bool
zeros xs k = each (λ w. same w (pos 0)) (drop k xs)

-- ---- `path_point`

pub depth_le : (ph : Phase) (np d : ℕ) → depth_fits ph np d ≡ true → d ≤ np
depth_le Phases.Ready np d e = leb→le d np (rw e tt)
depth_le Phases.Solution np d e = leb→le d np (rw e tt)
depth_le Phases.Done np d e = let z = eqb→eq d 0 (rw e tt) in omega arith

-- a header is as good as its item
phase_same : (ph : Phase) (o : Option ℕ) → phase_fits ph (header o) ≡ phase_fits ph o
phase_same Phases.Ready None = refl
phase_same Phases.Ready (Some j) = refl
phase_same Phases.Solution None = refl
phase_same Phases.Solution (Some j) = refl
phase_same Phases.Done o = refl

levels_word : (P : Problem) (z : ℤ) (zs : List ℤ) (s : List Level)
    → levels P (pick P) (z ∷ zs) s ≡ deeper (meant_by P s z) s (λ t. levels P (pick P) zs t)
unfolding levels
levels_word P (pos q) zs s = refl
levels_word P (negsuc q) zs s = refl

-- a path has levels where each of its words makes one
levels_are : (P : Problem) (zs : List ℤ) (s : List Level)
    → levels P (pick P) zs s ≡ when (eqb (length (follows P zs s)) (length zs + length s)) (Some (follows P zs s))
unfolding levels follows
levels_are P [] s = rw (eq-eqb (length s) (0 + length s) (omega arith)) refl
levels_are P (z ∷ zs) s = levels_word P z zs s ∙ step (meant_by P s z) (λ t. levels_are P zs t)
  where
    rest : List Level → List Level
    rest t = follows P zs t

    step : (o : Option Level)
        → ((t : List Level)
        → levels P (pick P) zs t ≡ when (eqb (length (rest t)) (length zs + length t)) (Some (rest t)))
        → deeper o s (λ t. levels P (pick P) zs t)
        ≡ when (eqb (length (go_on o s rest)) (suc (length zs) + length s)) (Some (go_on o s rest))
    step None rec = rw (ne_eqb (length s) (suc (length zs) + length s) (λ e. omega arith)) refl
    step (Some v) rec =
        let k : length zs + suc (length s) ≡ suc (length zs) + length s = omega arith in
        rec (v ∷ s) ∙ ap (λ (m : ℕ). when (eqb (length (rest (v ∷ s))) m) (Some (rest (v ∷ s)))) k

got_when : {A : Type 0} (b : Bool) (x : A) → got (when b (Some x)) ≡ b
got_when true x = refl
got_when false x = refl

and_false : (b : Bool) {c : Bool} → c ≡ false → (b && c) ≡ false
and_false true e = e
and_false false e = refl

-- depth and the words past it are those of a point
abbrev stated : Problem → State → List ℤ → Bool
stated P st path = depth_fits st.phase P.np st.depth && zeros path st.depth

depth_same : (P : Problem) (st : State) (path : List ℤ) → length path ≡ P.np → {b : Bool}
    → depth_fits st.phase (length path) st.depth ≡ b → depth_fits st.phase P.np st.depth ≡ b
depth_same P st path long e = ap (λ (k : ℕ). depth_fits st.phase k st.depth) (sym long) ∙ e

module _ (P : Problem) {n : ℕ} (st : State) (path : List ℤ) (long : length path ≡ P.np) where
  nothing_made : {t : List ℤ} → At P n [] t → stated P st path ≡ false
      → PathPoint P n st t path (record { fits = false; level = 0 })
  unfolding path_point reach
  nothing_made A e = record { fits = rw e refl; on = rw e (record { at = A; trail = tt; level = refl }) }

  pub bad_depth : {t : List ℤ} → At P n [] t → depth_fits st.phase (length path) st.depth ≡ false
      → PathPoint P n st t path (record { fits = false; level = 0 })
  bad_depth A e = nothing_made A (ap (λ (b : Bool). b && zeros path st.depth) (depth_same P st path long e))

  pub bad_zeros : {t : List ℤ} → At P n [] t → zeros path st.depth ≡ false
      → PathPoint P n st t path (record { fits = false; level = 0 })
  bad_zeros A e = nothing_made A (and_false (depth_fits st.phase P.np st.depth) e)

  module _ (d : depth_fits st.phase (length path) st.depth ≡ true) (z : zeros path st.depth ≡ true)
      {t : List ℤ} {l : ℕ} (O : Trailed P n (follows P (take st.depth path) []) t path l) where
    is_stated : stated P st path ≡ true
    is_stated = rw (depth_same P st path long d, z) refl

    is_reach : Trailed P n (reach P st path) t path l
    unfolding reach
    is_reach = rw is_stated O

    is_point : path_point P (pick P) st path
        ≡ in_phase P (pick P) st.phase (when (eqb l st.depth) (Some (follows P (take st.depth path) [])))
    unfolding path_point
    is_point =
        let k : length (take st.depth path) + 0 ≡ st.depth =
        omega (arith, length-take st.depth path, depth_le st.phase (length path) st.depth d) in
        rw (is_stated, levels_are P (take st.depth path) [], k, O.level) refl

    pub bad_path : l ≢ st.depth → PathPoint P n st t path (record { fits = eqb l st.depth; level = l })
    bad_path h = record { fits = rw (is_point, ne_eqb l st.depth h) refl; on = is_reach }

    pub good_path : {i : Option ℕ} {b : Bool} → l ≡ st.depth
        → i ≡ header (pick P (chosen (follows P (take st.depth path) []))) → b ≡ phase_fits st.phase i
        → PathPoint P n st t path (record { fits = b; level = l })
    good_path u h f =
        let s : List Level = follows P (take st.depth path) [] in
        let o : Option ℕ = pick P (chosen s) in
        let g = f ∙ ap (phase_fits st.phase) h ∙ phase_same st.phase o in
        record {
          fits = rw (is_point, eq-eqb l st.depth u) (g ∙ sym (got_when (phase_fits st.phase o) s));
          on = is_reach;
        }

-- ---- `test_point`

-- the point of state and path, if they are one, is that of the levels made
at_reach : (P : Problem) (st : State) (path : List ℤ)
    → path_point P (pick P) st path ≡ when (got (path_point P (pick P) st path)) (Some (reach P st path))
unfolding path_point reach
at_reach P st path =
    rw (levels_are P (take st.depth path) [])
    (step (stated P st path) (eqb (length s) (length (take st.depth path) + 0)))
  where
    s : List Level
    s = follows P (take st.depth path) []

    by : (b : Bool) → when b (Some s) ≡ when (got (when b (Some s))) (Some s)
    by true = refl
    by false = refl

    step : (b c : Bool) → let o : Option (List Level) = when b (in_phase P (pick P) st.phase (when c (Some s))) in
        o ≡ when (got o) (Some (cond b s []))
    step true true = by (phase_fits st.phase (pick P (chosen s)))
    step true false = refl
    step false c = refl

pub point_is : {P : Problem} {n : ℕ} {st : State} (t : List ℤ) {spare path : List ℤ} {r : Reach}
    → PathPoint P n st spare path r → (r.fits && same_words t spare) ≡ got (point P (pick P) st t path)
unfolding point
point_is {P} {st = st} t {path = path} {r = r} K =
    let e : path_point P (pick P) st path ≡ when r.fits (Some s) =
    at_reach P st path ∙ ap (λ (b : Bool). when b (Some s)) (sym K.fits) in
    rw (K.on.at.is, e) (step r.fits)
  where
    s : List Level
    s = reach P st path

    step : (b : Bool) → (b && same_words t (table P (made s))) ≡ got (in_table P (pick P) t (when b (Some s)))
    step true = sym (got_when (same_words t (table P (made s))) s)
    step false = refl

-- The test for refusal 10 reads a point that the search reaches back from its path.
use Rattle.std.specs.Prelude.{◌≡◌, ◌&&◌, ℕ, ◌-◌, ◌≤◌, negsuc, take, drop, Some}
use Rattle.std.proofs.Math.Path.{refl, sym, ap}
use Rattle.std.proofs.Common.{◌∙◌, le→leb, take_at, drop_at}
use Rattle.std.proofs.Math.Bool.{Bool}
use mathlib.Core.List.{List, [], ◌∷◌, ◌++◌, append_assoc, append-nil}
use Rattle.std.proofs.Math.Dec.{T, eqb→eq, eqb_refl, leb-zero}
use Rattle.std.proofs.Math.IntN.{ℤ, pos}
use Rattle.std.proofs.Math.ListN.{length, replicate}
use Rattle.rules.specs.declared.Phase.{Phase}
use Rattle.rules.specs.declared.Phase.TheVariants.{Done}
use Rattle.rules.specs.declared.State.{State}
use Rattle.rules.specs.Lists.{each, when}
use Rattle.rules.specs.Words.{same, same_words}
use Rattle.rules.specs.Problem.{Problem}
use Rattle.rules.specs.Order.{Rule, node, choices, open_options}
use Rattle.rules.specs.Links.{table}
use Rattle.rules.specs.Walk.{Level, made, chosen, in_order, End, solution, exhausted, paused}
use Rattle.rules.specs.Calls.{blank, phase_after, level_of, phase_fits, depth_fits, levels, in_phase, path_point, point, path_words}
use Rattle.laws.specs.Lists.{and_left, and_both}
use Rattle.laws.specs.Reached.{Reached, root, level, when_some, in_order_length, in_table_some}
use Rattle.knuth.specs.Lists.{each_replicate, when_true}
use Rattle.knuth.specs.Nodes.{choices_nodes, level_back}
use Rattle.knuth.proofs.Ends.{Fits}

-- ---- words

same_refl : (x : ℤ) → T (same x x)
same_refl (pos a) = eqb_refl a
same_refl (negsuc a) = eqb_refl a

words_refl : (xs : List ℤ) → T (same_words xs xs)
unfolding same_words
words_refl [] = tt
words_refl (x ∷ xs) = and_both (same x x) (same_words xs xs) (same_refl x) (words_refl xs)

module _ (P : Problem) (rule : Rule) where
  -- ---- a search that is done

  -- "done asks depth 0"
  done_top : (st : State) (t path : List ℤ) {s : List Level} → st.phase ≡ Done → point P rule st t path ≡ Some s → st.depth ≡ 0
  unfolding point path_point
  done_top st t path d e =
      let deep : Bool = depth_fits st.phase P.np st.depth in
      let clear : Bool = each (λ w. same w (pos 0)) (drop st.depth path) in
      let a = when_some (deep && clear) (in_table_some P rule t (path_point P rule st path) e).0 in
      eqb→eq st.depth 0 (rw d at (and_left deep clear a.0))

  -- it stands where a blank one does
  pub point_again : (st : State) (t path : List ℤ) {s : List Level} → st.phase ≡ Done → (i : ℕ) → rule [] ≡ Some i → point P rule st t path ≡ Some s → point P rule blank t path ≡ Some []
  unfolding point path_point levels
  point_again st t path {s} d i p e =
      let clear : Bool = each (λ w. same w (pos 0)) path in
      let top : path_point P rule st path ≡ when clear (Some []) = rw (d, done_top st t path d e) in
      let same_top : path_point P rule blank path ≡ when clear (Some []) = rw (leb-zero P.np, p) in
      let u : Some [] ≡ Some s = (when_some clear (rw top at (in_table_some P rule t (path_point P rule st path) e).0)).1 in
      rw same_top (rw top at e ∙ sym u)

  -- ---- what is reached passes

  -- the path leads to the point
  levels_back : {s : List Level} (qs : List ℤ) → Reached P rule s → levels P rule (in_order (λ c. pos (node c)) s ++ qs) [] ≡ levels P rule qs s
  unfolding levels in_order
  levels_back qs root = refl
  levels_back qs (level {v = v} {above = above} i xs p e r) =
      ap (λ (l : List ℤ). levels P rule l []) (append_assoc (in_order (λ c. pos (node c)) above) (pos (node v.tried) ∷ []) qs)
      ∙ levels_back (pos (node v.tried) ∷ qs) r
      ∙ rw (p, back) refl
    where
      back : level_of (node v.tried) (choices i (open_options P (chosen above))) ≡ Some v
      back = rw e (level_back xs v (rw e at (choices_nodes P i (chosen above))))

  -- a phase that asks what is so at the point
  abbrev Allows : Phase → List Level → Type 0
  Allows ph s = T (depth_fits ph P.np (length s)) × T (phase_fits ph (rule (chosen s)))

  end_allows : (e : End) (s : List Level) → length s ≤ P.np → Fits P rule e s → Allows (phase_after e) s
  end_allows solution s l f = (le→leb (length s) P.np l, rw f tt)
  end_allows exhausted s l f = (rw f tt, tt)
  end_allows paused s l f = (le→leb (length s) P.np l, rw f.1 tt)

  path_back : (ph : Phase) (s : List Level) (u : ℕ) → Reached P rule s → Allows ph s
      → path_point P rule (record { phase = ph; depth = length s; updates = u }) (path_words P.np s) ≡ Some s
  unfolding path_point path_words levels
  path_back ph s u r ok =
      let nodes : List ℤ = in_order (λ c. pos (node c)) s in
      let zeros : List ℤ = replicate (P.np - length s) (pos 0) in
      let long : length nodes ≡ length s = in_order_length (λ c. pos (node c)) s in
      let front : levels P rule (take (length s) (nodes ++ zeros)) [] ≡ Some s = rw (take_at nodes zeros (length s) long, ← append-nil nodes) (levels_back [] r) in
      let clear : Bool = each (λ w. same w (pos 0)) (drop (length s) (nodes ++ zeros)) in
      let cleared : T clear = rw (drop_at nodes zeros (length s) long) (each_replicate (λ w. same w (pos 0)) (P.np - length s) (pos 0) tt) in
      let deep : Bool = depth_fits ph P.np (length s) in
      when_true (deep && clear) (in_phase P rule ph (levels P rule (take (length s) (nodes ++ zeros)) [])) (and_both deep clear ok.0 cleared)
      ∙ rw front (when_true (phase_fits ph (rule (chosen s))) (Some s) ok.1)

  -- the point that a walk ended at is read back
  pub point_back : (e : End) (s : List Level) (u : ℕ) → Reached P rule s → length s ≤ P.np → Fits P rule e s
      → point P rule (record { phase = phase_after e; depth = length s; updates = u }) (table P (made s)) (path_words P.np s) ≡ Some s
  unfolding point
  point_back e s u r l f =
      rw (path_back (phase_after e) s u r (end_allows e s l f))
      (when_true (same_words (table P (made s)) (table P (made s))) (Some s) (words_refl (table P (made s))))

-- One option more: its nodes and its spacer, added to the shorter problem's fresh table, make the longer problem's.
use mathlib.Core.Path.{◌≡◌, refl, sym, ap, ◌∙◌}
use mathlib.Core.Bool.{Bool, true, false}
use mathlib.Core.List.Memᴰ.{append_left as in_left}
use mathlib.Core.List.Memᴰ.{append_right as in_right}
use mathlib.Core.List.Memᴰ.{head as here}
use mathlib.Core.List.{List, [], ◌∷◌, ◌++◌, append_assoc}
use Prim.Native.Nat.{ℕ, zero, suc, ◌+◌, ◌*◌, ◌≤◌, ◌<◌}
use native.Mathlib.Omega.{arith}
use lib.IntN.{ℤ, pos, negsuc}
use lib.ListN.{length, set, length-set, length-append}
use Rattle.rules.specs.Lists.{also, flat, run}
use Rattle.rules.specs.Words.{word}
use Rattle.rules.specs.Problem.{Entry, Problem, items}
use Rattle.rules.specs.Order.{Placed, kept, spacer_after, place, placed}
use Rattle.rules.specs.Links.{top, up, down, colour_at, left_of, right_of, ring_words, fresh}
use Rattle.laws.specs.Faults.{Good}
use Rattle.laws.specs.Lists.{flat_append, length_run}
use Rattle.tables.specs.Build.{blank_node, blank, add_all, close, add_option, build, built, built_is}
use Rattle.tables.specs.Fresh.{getD_left, flat_length, four_suc, ring_length, fresh_length, fresh_end}
use Rattle.tables.specs.Nodes.{span, nodes}
use Rattle.init.specs.SetUp.{Alike, longer, last_spacer, end_option}
use Rattle.init.proofs.AlikeLaws.{alike_back, alike_then, alike_less, alike_put, alike_set, alike_new, Ranged, length_all, all_new, build_kept}

pub nodes_last : (P : Problem) → nodes P ≡ suc (last_spacer P)
unfolding nodes last_spacer
nodes_last P = omega arith

spacer_high : (P : Problem) → items P < last_spacer P
unfolding last_spacer
spacer_high P = omega arith

-- ---- the last of several options

-- the spacer after the first option, and what follows it
pub first_span : (b : Bool) (p : ℕ) (o : List Entry) (m : ℕ) (r : List Placed) → spacer_after b p o + span r ≡ p + span (also b (record { number = m; first = p + 1; entries = o }) r)
unfolding span
first_span true p o m r = omega arith
first_span false p o m r = refl

span_last : (np m p : ℕ) (os : List (List Entry)) (x : List Entry) → p + span (place np m p (os ++ x ∷ [])) ≡ spacer_after (kept np x) (p + span (place np m p os)) x
unfolding place span
span_last np m p [] x = let e : p + 0 ≡ p = omega arith in rw e (sym (first_span (kept np x) p x m []) ∙ omega arith)
span_last np m p (o ∷ os) x =
    let s : ℕ = spacer_after (kept np o) p o in
    sym (first_span (kept np o) p o m (place np (m + 1) s (os ++ x ∷ []))) ∙ span_last np (m + 1) s os x
    ∙ ap (λ (y : ℕ). spacer_after (kept np x) y x) (first_span (kept np o) p o m (place np (m + 1) s os))

build_last : (n np : ℕ) (t : List ℤ) (m p : ℕ) (os : List (List Entry)) (x : List Entry)
    → build n np t m p (os ++ x ∷ []) ≡ add_option (kept np x) n (build n np t m p os) (m + length os) (p + span (place np m p os)) x
unfolding build place span
build_last n np t m p [] x = let a : m + 0 ≡ m = omega arith in let b : p + 0 ≡ p = omega arith in rw (a, b)
build_last n np t m p (o ∷ os) x =
    let s : ℕ = spacer_after (kept np o) p o in
    let u : List ℤ = build n np (add_option (kept np o) n t m p o) (m + 1) s os in
    let a : m + 1 + length os ≡ m + suc (length os) = omega arith in
    build_last n np (add_option (kept np o) n t m p o) (m + 1) s os x
    ∙ ap (λ (y : ℕ). add_option (kept np x) n u y (s + span (place np (m + 1) s os)) x) a
    ∙ ap (λ (y : ℕ). add_option (kept np x) n u (m + suc (length os)) y x) (first_span (kept np o) p o m (place np (m + 1) s os))

-- ---- nodes before the first option

run_plus : (a m d : ℕ) → run a (m + d) ≡ run a m ++ run (a + m) d
unfolding run
run_plus a zero d = let e : 0 + d ≡ d = omega arith in let f : a + 0 ≡ a = omega arith in rw (e, f)
run_plus a (suc m) d =
    let e : suc m + d ≡ suc (m + d) = omega arith in
    let f : suc a + m ≡ a + suc m = omega arith in
    rw (e, ← f) (ap (λ (l : List ℕ). a ∷ l) (run_plus (suc a) m d))

module _ (P : Problem) where
  length_blank : length (blank P) ≡ top (items P) (nodes P)
  unfolding blank
  length_blank =
      length-append (ring_words P) (flat (blank_node (items P)) (run 0 (nodes P)))
      ∙ omega (arith, ring_length P, flat_length (blank_node (items P)) 4 (λ k. 4 * k) (λ x. refl) refl (four_suc P) (run 0 (nodes P)), length_run 0 (nodes P))

module _ (P : Problem) (x : List Entry) where
  pub last_longer : (b : Bool) → kept P.np x ≡ b → last_spacer (longer P x) ≡ spacer_after b (last_spacer P) x
  unfolding last_spacer placed
  last_longer b e = span_last P.np 0 (items P + 1) P.options x ∙ ap (λ (c : Bool). spacer_after c (last_spacer P) x) e

  ring_longer : ring_words (longer P x) ≡ ring_words P
  unfolding ring_words left_of right_of
  ring_longer = refl

  blank_same : nodes (longer P x) ≡ nodes P → blank (longer P x) ≡ blank P
  unfolding blank
  blank_same e = rw (ring_longer, e)

  blank_longer : (d : ℕ) → nodes (longer P x) ≡ nodes P + d → blank (longer P x) ≡ blank P ++ flat (blank_node (items P)) (run (0 + nodes P) d)
  unfolding blank
  blank_longer d e =
      rw (ring_longer, e, run_plus 0 (nodes P) d, flat_append (blank_node (items P)) (run 0 (nodes P)) (run (0 + nodes P) d))
      (sym (append_assoc (ring_words P) (flat (blank_node (items P)) (run 0 (nodes P))) (flat (blank_node (items P)) (run (0 + nodes P) d))))

-- ---- one option more

length_close : (n : ℕ) (t : List ℤ) (m p k : ℕ) → length (close n t m p k) ≡ length t
unfolding close
length_close n t m p k = simp length-set

module _ (n : ℕ) (t u : List ℤ) (m p k : ℕ) (A : Alike (top n (p + k + 1)) t u) (l : top n (p + k + 2) ≤ length t) (l' : top n (p + k + 2) ≤ length u)
    (zero_down : word (close n u m p k) (down n (p + k + 1)) ≡ pos 0) (zero_colour : word (close n u m p k) (colour_at n (p + k + 1)) ≡ pos 0) where
  end_alike : Alike (top n (p + k + 2)) (end_option n t m p k) (close n u m p k)
  unfolding end_option close
  end_alike =
      let s : ℕ = p + k + 1 in
      let t1 : List ℤ = set t (down n p) (pos (p + k)) in
      let u1 : List ℤ = set u (down n p) (pos (p + k)) in
      let t2 : List ℤ = set t1 (top n s) (negsuc m) in
      let u2 : List ℤ = set u1 (top n s) (negsuc m) in
      let t3 : List ℤ = set t2 (up n s) (pos (p + 1)) in
      let u3 : List ℤ = set u2 (up n s) (pos (p + 1)) in
      let t4 : List ℤ = set t3 (down n s) (pos 0) in
      let e1 : length t1 ≡ length t = length-set t (down n p) (pos (p + k)) in
      let f1 : length u1 ≡ length u = length-set u (down n p) (pos (p + k)) in
      let e2 : length t2 ≡ length t1 = length-set t1 (top n s) (negsuc m) in
      let f2 : length u2 ≡ length u1 = length-set u1 (top n s) (negsuc m) in
      let e3 : length t3 ≡ length t2 = length-set t2 (up n s) (pos (p + 1)) in
      let f3 : length u3 ≡ length u2 = length-set u2 (up n s) (pos (p + 1)) in
      let e4 : length t4 ≡ length t3 = length-set t3 (down n s) (pos 0) in
      let A2 : Alike (up n s) t2 u2 = alike_new (alike_set A (down n p) (pos (p + k))) (negsuc m) refl (omega arith) (omega arith) in
      let A3 : Alike (down n s) t3 u3 = alike_new A2 (pos (p + 1)) (omega arith) (omega arith) (omega arith) in
      let A4 : Alike (colour_at n s) t4 u3 = alike_put A3 (pos 0) (omega arith) (omega arith) (omega arith) zero_down in
      alike_put A4 (pos 0) (omega arith) (omega arith) (omega arith) zero_colour

module _ (P : Problem) (x : List Entry) (G : Good (longer P x)) where
  good_shorter : Good P
  good_shorter = record {
    all_ranged = λ o m. G.all_ranged o (in_left (x ∷ []) m);
    all_simple = λ o m. G.all_simple o (in_left (x ∷ []) m);
    all_plain = λ o m. G.all_plain o (in_left (x ∷ []) m);
  }

  new_ranged : Ranged (items P) x
  new_ranged = G.all_ranged x (in_right P.options (here refl))

  -- the shorter problem's options, entered into the longer one's nodes
  abbrev old : List ℤ
  old = build (items P) P.np (blank (longer P x)) 0 (items P + 1) P.options

  fresh_longer : fresh (longer P x) ≡ add_option (kept P.np x) (items P) old (length P.options) (last_spacer P) x
  unfolding built last_spacer placed
  fresh_longer =
      let e : 0 + length P.options ≡ length P.options = omega arith in
      sym (built_is (longer P x) G) ∙ build_last (items P) P.np (blank (longer P x)) 0 (items P + 1) P.options x ∙ rw e

  -- "Options without a primary item are skipped": a skipped option changes no word
  pub fresh_skipped : kept P.np x ≡ false → fresh (longer P x) ≡ fresh P
  unfolding built
  fresh_skipped k =
      let e : nodes (longer P x) ≡ nodes P = omega (arith, nodes_last (longer P x), nodes_last P, last_longer P x false k) in
      fresh_longer ∙ ap (λ (b : Bool). add_option b (items P) old (length P.options) (last_spacer P) x) k
      ∙ ap (λ (t : List ℤ). build (items P) P.np t 0 (items P + 1) P.options) (blank_same P x e) ∙ built_is P good_shorter

  module _ (k : kept P.np x ≡ true) where
    nodes_longer : nodes (longer P x) ≡ nodes P + (length x + 1)
    nodes_longer = omega (arith, nodes_last (longer P x), nodes_last P, last_longer P x true k)

    old_alike : Alike (top (items P) (nodes P)) old (fresh P)
    unfolding built
    old_alike =
        let more : List ℤ = flat (blank_node (items P)) (run (0 + nodes P) (length x + 1)) in
        let e : blank (longer P x) ≡ blank P ++ more = blank_longer P x (length x + 1) nodes_longer in
        let b = length_blank P in
        let B : Alike (top (items P) (nodes P)) (blank (longer P x)) (blank P) = record {
          long = omega (arith, ap length e, length-append (blank P) more);
          long' = omega arith;
          same = λ j h. ap (λ (t : List ℤ). word t j) e ∙ getD_left (blank P) more j (omega arith);
        } in
        rw (← built_is P good_shorter)
        (build_kept (items P) P.np 0 (items P + 1) P.options good_shorter.all_ranged B (omega (arith, nodes_last P, spacer_high P)))

    -- the entries of a kept option are added, and its spacer is written
    pub appended : (t : List ℤ) → Alike (top (items P) (nodes P)) t (fresh P) → top (items P) (nodes (longer P x)) ≤ length t
        → Alike (top (items P) (nodes (longer P x))) (end_option (items P) (add_all (items P) t (last_spacer P + 1) x) (length P.options) (last_spacer P) (length x)) (fresh (longer P x))
    appended t A l =
        let n : ℕ = items P in
        let p : ℕ = last_spacer P in
        let m : ℕ = length P.options in
        let u : List ℤ = add_all n old (p + 1) x in
        let F : fresh (longer P x) ≡ close n u m p (length x) = fresh_longer ∙ ap (λ (b : Bool). add_option b n old m p x) k in
        let s : nodes (longer P x) ≡ p + length x + 2 = omega (arith, nodes_longer, nodes_last P) in
        let d = nodes_last P in
        let lu : length u ≡ top n (nodes (longer P x)) = sym (length_close n u m p (length x)) ∙ sym (ap length F) ∙ fresh_length (longer P x) in
        let lo : length u ≡ length old = length_all n old (p + 1) x in
        let lt : length (add_all n t (p + 1) x) ≡ length t = length_all n t (p + 1) x in
        let B : Alike (top n (p + 1)) t old = alike_less (alike_then A (alike_back old_alike)) (omega arith) in
        let C : Alike (top n (p + 1 + length x)) (add_all n t (p + 1) x) u = all_new n (p + 1) x new_ranged B (omega (arith, spacer_high P)) (omega arith) (omega arith) in
        let z = fresh_end (longer P x) (p + length x + 1) (omega arith) in
        let E = end_alike n (add_all n t (p + 1) x) u m p (length x) (alike_less C (omega arith)) (omega arith) (omega arith)
        (ap (λ (v : List ℤ). word v (down n (p + length x + 1))) (sym F) ∙ z.0) (ap (λ (v : List ℤ). word v (colour_at n (p + length x + 1))) (sym F) ∙ z.1) in
        rw F (alike_less E (omega arith))

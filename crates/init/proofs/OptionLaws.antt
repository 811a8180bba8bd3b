-- The options, appended one after the other.
use Rattle.problem.specs.Sums.{met_of, met_there}
use mathlib.Core.Path.{◌≡◌, refl, sym, ap, ◌∙◌}
use mathlib.Core.Bool.{Bool, true, false}
use Rattle.std.specs.Prelude.{None, Some}
use mathlib.Core.List.Memᴰ.{head as here}
use mathlib.Core.List.Memᴰ.{map as map-in}
use mathlib.Core.List.Memᴰ.{of_map as map-mem}
use mathlib.Core.List.{List, [], ◌∷◌, ◌++◌, map, map-append, Memᴰ as Mem}
use Prim.Native.Nat.{ℕ, zero, suc, ◌+◌, ◌*◌, ◌-◌, ◌≤◌, ◌<◌}
use native.Mathlib.Omega.{arith}
use lib.IntN.{ℤ}
use lib.ListN.{length, take, drop, length-append, length-map}
use lib.Seq.{take_all, take-nil, take-add, drop-drop}
use Rattle.rules.specs.declared.Sizes.{Sizes}
use Rattle.rules.specs.Problem.{Entry, Problem, items, Pair, Cut, as_entry, meant, cut, fault, entry_count, pairs_kept, node_count, table_length}
use Rattle.rules.specs.Order.{kept, spacer_after, place, placed}
use Rattle.rules.specs.Links.{top, fresh}
use Rattle.laws.specs.Faults.{Good, faultless, good_meant}
use Rattle.laws.specs.Lists.{take_mem, drop_mem}
use Rattle.problem.specs.CutLaws.{entries_at, options_at, Whole, length_entries, length_options, count_room}
use Rattle.problem.specs.CutLaws.{count_word, never_missing, Turn, turn}
use Rattle.problem.specs.Measured.{Measured, whole_options, cut_is}
use Rattle.tables.specs.Build.{add_all}
use Rattle.tables.specs.Fresh.{fresh_length}
use Rattle.tables.specs.Nodes.{span, nodes}
use Rattle.tables.specs.Sizes.{nodes_meant}
use Rattle.init.specs.SetUp.{Alike, longer, last_spacer, as_entries, option_at, first, AllClean, Live, end_option, Holds, Appends, Enters}
use Rattle.init.proofs.AlikeLaws.{alike_all, alike_less}
use Rattle.init.proofs.AppendLaws.{nodes_last, last_longer, first_span, fresh_skipped, appended}
use Rattle.init.proofs.EntryLaws.{kept_as}
use Rattle.init.proofs.LiveLaws.{fresh_live, live_alike}

-- ---- one option

module _ {P : Problem} {n np number last : ℕ} {t ws : List ℤ} {p k : ℕ} {keep : Bool} (A : Appends P n np number last t ws p k keep) where
  abbrev x : List Entry
  x = option_at ws p k

  abbrev H : Holds P n np number last t
  H = A.holds

  length_x : length x ≡ k
  length_x = length-map (entries_at ws p k) as_entry ∙ length_entries ws p k A.there

  kept_x : (b : Bool) → keep ≡ b → kept P.np x ≡ b
  kept_x b e = ap (λ (j : ℕ). kept j x) (sym H.primary) ∙ kept_as np n (entries_at ws p k) A.clean ∙ sym A.kept ∙ e

  pub appends_live : Live n (last + 1) t
  appends_live =
      let i = H.items_are in
      let e : nodes P ≡ last + 1 = nodes_last P ∙ let s = H.spacer in omega arith in
      rw (← e, i) (live_alike H.begins (fresh_live P))

  after : (b : Bool) → keep ≡ b → last_spacer (longer P x) ≡ spacer_after b last x
  after b e = last_longer P x b (kept_x b e) ∙ rw H.spacer

  one_more : number + 1 ≡ length (P.options ++ x ∷ [])
  one_more = let m = H.numbered in sym (length-append P.options (x ∷ []) ∙ omega arith)

  module _ (e : keep ≡ true) where
    pub nodes_kept : nodes (longer P x) ≡ last + k + 2
    nodes_kept = nodes_last (longer P x) ∙ let a = after true e in let l = length_x in omega arith

    pub append_kept : (t₁ t₂ : List ℤ) → t₁ ≡ add_all n t (last + 1) x → t₂ ≡ end_option n t₁ number last k → Holds (longer P x) n np (number + 1) (last + k + 1) t₂
    append_kept t₁ t₂ u v =
        let i = H.items_are in
        let m = H.numbered in
        let s = H.spacer in
        let l = length_x in
        let w : t₂ ≡ end_option (items P) (add_all (items P) t (last_spacer P + 1) x) (length P.options) (last_spacer P) (length x) = cc in
        record {
          items_are = i;
          primary = H.primary;
          numbered = one_more;
          spacer = sym (after true e ∙ ap (λ (j : ℕ). last + j + 1) l);
          begins = rw w (appended P x A.good (kept_x true e) t H.begins (rw (← i) A.room));
        }

  pub append_skipped : keep ≡ false → Holds (longer P x) n np (number + 1) last t
  append_skipped e =
      let a = after false e in
      let s : nodes (longer P x) ≡ nodes P = nodes_last (longer P x) ∙ ap suc (a ∙ H.spacer) ∙ sym (nodes_last P) in
      record {
        items_are = H.items_are;
        primary = H.primary;
        numbered = one_more;
        spacer = sym a;
        begins = rw (s, fresh_skipped P x A.good (kept_x false e)) H.begins;
      }

-- ---- the first options of a problem

-- the next option
next_taken : {A : Type 0} (j : ℕ) (l : List A) {x : A} {r : List A} → drop j l ≡ x ∷ r → take (j + 1) l ≡ take j l ++ x ∷ []
next_taken j l e = take-add j 1 l ∙ rw e

next_dropped : {A : Type 0} (j : ℕ) (l : List A) {x : A} {r : List A} → drop j l ≡ x ∷ r → r ≡ drop (j + 1) l
next_dropped j l e = sym (sym (drop-drop 1 j l) ∙ rw e)

pub nodes_least : (P : Problem) → items P + 2 ≤ nodes P
unfolding nodes
nodes_least P = omega arith

-- more options, more nodes
span_more : (np m p : ℕ) (os : List (List Pair)) (a b : ℕ) → a ≤ b → p + span (place np m p (map as_entries (take a os))) ≤ p + span (place np m p (map as_entries (take b os)))
unfolding place span
span_more np m p [] a b h = rw (take-nil {A = List Pair} a, take-nil {A = List Pair} b) (omega arith)
span_more np m p (o ∷ os) zero b h = omega arith
span_more np m p (o ∷ os) (suc a) zero h = absurd (omega arith)
span_more np m p (o ∷ os) (suc a) (suc b) h =
    let x : List Entry = as_entries o in
    let s : ℕ = spacer_after (kept np x) p x in
    let r = span_more np (m + 1) s os a b (omega arith) in
    omega (arith, first_span (kept np x) p x m (place np (m + 1) s (map as_entries (take a os))), first_span (kept np x) p x m (place np (m + 1) s (map as_entries (take b os))))

nodes_more : (ws : List ℤ) (s : Sizes) (a b : ℕ) → a ≤ b → nodes (first ws s a) ≤ nodes (first ws s b)
unfolding nodes placed
nodes_more ws s a b h = let r = span_more s.np 0 (s.np + s.ns + 1) (options_at ws 3 s.options) a b h in omega arith

module _ {ws : List ℤ} {s : Sizes} (M : Measured ws s) (z : fault (cut ws) ≡ 0) where
  abbrev C : Cut
  C = record { np = s.np; ns = s.ns; options = options_at ws 3 s.options }

  sound_cut : fault C ≡ 0
  sound_cut = rw (cut_is ws s M) at z

  -- all options
  pub first_all : first ws s s.options ≡ meant (cut ws)
  unfolding meant
  first_all =
      let l = length_options ws 3 s.options (whole_options ws s M) in
      rw (cut_is ws s M, take_all s.options (options_at ws 3 s.options) (omega arith))

  pub nodes_all : nodes (first ws s s.options) ≡ node_count s
  nodes_all = ap nodes first_all ∙ nodes_meant (cut ws) z ∙ ap (λ (y : Sizes). node_count y) (sym M.are)

  good_first : (j : ℕ) → Good (first ws s j)
  unfolding meant
  good_first j =
      let G : Good (meant C) = good_meant C sound_cut in
      record { all_ranged = λ o m. G.all_ranged o (wider m); all_simple = λ o m. G.all_simple o (wider m); all_plain = λ o m. G.all_plain o (wider m) }
    where
      wider : {o : List Entry} → Mem o (map as_entries (take j (options_at ws 3 s.options))) → Mem o (map as_entries (options_at ws 3 s.options))
      wider m =
          let r = map-mem as_entries (take j (options_at ws 3 s.options)) m in
          rw (← r.2) (map-in as_entries (take_mem j (options_at ws 3 s.options) r.1))

  clean_option : {o : List Pair} → Mem o (options_at ws 3 s.options) → AllClean (s.np + s.ns) o
  clean_option m e k = let f = faultless C sound_cut m k in record { item = f.in_range; colour = f.coloured }

  pub enters_all : table_length s < 2147483648 → s.options < 2147483648 → Enters ws s s.options
  enters_all h f = record { measured = M; sound = z; most = omega arith; few = f; small = omega (arith, nodes_all) }

  pub all_entered : (t : List ℤ) → length t ≡ table_length s → Alike (top (s.np + s.ns) (nodes (first ws s s.options))) t (fresh (first ws s s.options)) → t ≡ fresh (meant (cut ws))
  all_entered t l A = alike_all A (omega (arith, nodes_all)) (fresh_length (first ws s s.options)) ∙ ap fresh first_all

-- `number` of m options are entered, after which come the words at `at`
pub record Entering (ws : List ℤ) (s : Sizes) (m : ℕ) (t₀ t : List ℤ) (at last number : ℕ) : Type 0 where
  pub few : number ≤ m
  pub size : length t ≡ length t₀
  pub whole : Whole ws at (s.options - number)
  pub ahead : options_at ws at (s.options - number) ≡ drop number (options_at ws 3 s.options)
  pub holds : Holds (first ws s number) (s.np + s.ns) s.np number last t

module _ {ws : List ℤ} {s : Sizes} {m : ℕ} {t₀ : List ℤ} (E : Enters ws s m) (r : top (s.np + s.ns) (nodes (first ws s m)) ≤ length t₀) where
  pub entering_start : Alike (top (s.np + s.ns) (s.np + s.ns + 2)) t₀ (fresh (first ws s 0)) → Entering ws s m t₀ t₀ 3 (s.np + s.ns + 1) 0
  unfolding last_spacer placed place span nodes
  entering_start A =
      let z : s.options - 0 ≡ s.options = omega arith in
      record {
        few = omega arith;
        size = refl;
        whole = rw z (whole_options ws s E.measured);
        ahead = rw z;
        holds = record { items_are = refl; primary = refl; numbered = refl; spacer = omega arith; begins = alike_less A (omega arith) };
      }

  module _ {t : List ℤ} {at last number : ℕ} (I : Entering ws s m t₀ t at last number) where
    left : number < m → 0 < s.options - number
    left h = let l = E.most in omega arith

    -- the option is there
    pub entering_there : number < m → None ≡ entry_count (drop at ws) → ⊥
    entering_there h = never_missing ws at (s.options - number) (left h) I.whole

    module _ (h : number < m) (k : ℕ) (e : Some k ≡ entry_count (drop at ws)) where
      now_at : Turn ws at (s.options - number) k
      now_at = turn ws at (s.options - number) (left h) I.whole k (count_word ws at k (sym e))

      abbrev o : List Pair
      o = entries_at ws (at + 1) k

      next : drop number (options_at ws 3 s.options) ≡ o ∷ options_at ws (at + (1 + 2 * k)) (s.options - number - 1)
      next = sym I.ahead ∙ now_at.options_are

      more : longer (first ws s number) (as_entries o) ≡ first ws s (number + 1)
      more =
          ap (λ (os : List (List Entry)). record { np = s.np; ns = s.ns; options = os })
          (sym (ap (map as_entries) (next_taken number (options_at ws 3 s.options) next)
          ∙ map-append as_entries (take number (options_at ws 3 s.options)) (o ∷ [])))

      pub entering_appends : (keep : Bool) → keep ≡ pairs_kept s.np o → Appends (first ws s number) (s.np + s.ns) s.np number last t ws (at + 1) k keep
      entering_appends keep b =
          let n = nodes_more ws s (number + 1) m (omega arith) in
          let e : nodes (longer (first ws s number) (as_entries o)) ≡ nodes (first ws s (number + 1)) = ap nodes more in
          record {
            holds = I.holds;
            there = now_at.room;
            kept = b;
            clean = clean_option E.measured E.sound (drop_mem number (options_at ws 3 s.options) (rw next (here refl)));
            good = rw more (good_first E.measured E.sound (number + 1));
            room = let l = I.size in omega arith;
            small = let l = E.small in omega arith;
            few = let l = E.most in let f = E.few in omega arith;
          }

      pub entering_turn : (t' : List ℤ) (last' : ℕ) → length t' ≡ length t → Holds (longer (first ws s number) (as_entries o)) (s.np + s.ns) s.np (number + 1) last' t'
          → Entering ws s m t₀ t' (at + (1 + 2 * k)) last' (number + 1)
      entering_turn t' last' l H =
          let b : s.options - number - 1 ≡ s.options - (number + 1) = omega arith in
          record {
            few = omega arith;
            size = l ∙ I.size;
            whole = rw b at now_at.whole;
            ahead = rw (← b) (next_dropped number (options_at ws 3 s.options) next);
            holds = rw (← more) H;
          }

    pub entering_end : m ≤ number → Alike (top (s.np + s.ns) (nodes (first ws s m))) t (fresh (first ws s m))
    entering_end h = let f = I.few in let e : m ≡ number = omega arith in rw e I.holds.begins

pub ruleset append_laws = (appends_live, nodes_kept, append_kept, append_skipped)

pub ruleset entering_laws = (
  entering_start,
  entering_there,
  entering_appends,
  entering_turn,
  entering_end,
  met_of,
  met_there,
  count_room,
)

pub ruleset all_laws = (nodes_all, enters_all, all_entered)

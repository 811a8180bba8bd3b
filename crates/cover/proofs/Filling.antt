-- A page: the lines of the solutions to come, one after another. Assumes nothing.
use mathlib.Core.Path.{◌≡◌, refl, sym, ap, ◌∙◌, subst}
use mathlib.Core.List.{List, [], ◌∷◌, ◌++◌, append-nil, append_assoc, map}
use Prim.Native.Nat.{ℕ, zero, suc, ◌+◌, ◌≤◌, ◌<◌}
use native.Mathlib.Omega.{arith}
use lib.IntN.{ℤ, pos}
use lib.ListN.{length, get_or, take, drop, length-append, length-map, get_or-append, get_or-map}
use lib.Seq.{take_at}
use Rattle.rules.specs.declared.NextAnswer.{NextAnswer}
use Rattle.rules.specs.declared.NextAnswer.TheVariants as NextSays
use Rattle.rules.specs.declared.Phase.{Phase}
use Rattle.rules.specs.declared.Phase.TheVariants.{Solution}
use Rattle.rules.specs.declared.State.{State}
use Rattle.rules.specs.Lists.{flat, over}
use Rattle.rules.specs.Words.{word, nat}
use Rattle.rules.specs.Problem.{Problem}
use Rattle.rules.specs.Order.{pick}
use Rattle.rules.specs.Walk.{Level, Walk, End, solution, exhausted, paused, numbers, resume}
use Rattle.rules.specs.Calls.{cap, capped, profile_from, phase_after, started, moved, next_answer}
use Rattle.rules.specs.Cover.{line}
use Rattle.laws.specs.Lists.{flat_append, cannot}
use Rattle.laws.specs.Order.{pick_sound}
use Rattle.laws.specs.Reached.{in_order_length}
use Rattle.knuth.specs.Trace.{Trace, ◌then◌, to_come, remains, found_by, made_by}
use Rattle.knuth.proofs.Walks.{resume_tells}
use Rattle.knuth.specs.Adds.{resume_spends}
use Rattle.words.specs.Read.{Natural}
use Rattle.search.specs.Points.{On, Profile, Ran}
use Rattle.search.specs.Arrived.{solved, on_level}
use Rattle.search.specs.Depth.{level_within}
use Rattle.cover.specs.Pages.{Coming, Lined, Filling}
use Rattle.cover.proofs.Printing.{line_short, line_some}

-- ---- the profile

profile_small : (l : ℕ) (visited cs : List ℕ) (k : ℕ) → get_or (profile_from l visited cs) k 0 ≤ cap
unfolding profile_from
profile_small l visited [] k = omega arith
profile_small l visited (c ∷ cs) zero = omega arith
profile_small l visited (c ∷ cs) (suc k) = profile_small (suc l) visited cs k

profile_long : (l : ℕ) (visited cs : List ℕ) → length (profile_from l visited cs) ≡ length cs
unfolding profile_from
profile_long l visited [] = refl
profile_long l visited (c ∷ cs) = ap suc (profile_long (suc l) visited cs)

-- ---- where a walk ended

abbrev after : End → State → Walk → State
after e st w = record { phase = phase_after e; depth = length w.at; updates = capped st.updates w.updates }

-- ---- the lines in the buffer

-- one line more
lined_more : {done : List (List ℕ)} {out out' : List ℕ} (x : List ℕ) → Lined done out → out' ≡ out ++ line x
    → length out + length (line x) ≤ 65536 → Lined (done ++ x ∷ []) out'
unfolding flat
lined_more {done} {out} x L p h = record {
  within = omega (arith, h, ap length p ∙ length-append out (line x));
  is =
      p ∙ ap (λ (y : List ℕ). y ++ line x) L.is
      ∙ ap (λ (y : List ℕ). flat line done ++ y) (sym (append-nil (line x))) ∙ sym (flat_append line done (x ∷ []));
}

-- ---- the loop

pub fill_start : {P : Problem} {n : ℕ} {all : List (List ℕ)} {t path : List ℤ} {profile out : List ℕ} {st : State}
    → out ≡ [] → Coming P n all t path profile st → Filling P n all t path profile out st
unfolding flat
fill_start {all = all} e C = record {
  done = [];
  left = all;
  parts = refl;
  lined = record { within = omega (arith, ap length e); is = e };
  coming = C;
}

module _ {P : Problem} {n : ℕ} {all : List (List ℕ)} {t path : List ℤ} {profile out : List ℕ} {state : State}
    (F : Filling P n all t path profile out state) where
  abbrev pub piece : Walk
  piece = resume P (pick P) 18446744073709551615 state.phase F.coming.s

  -- what was to come is what the walk made, and what is to come where it ended
  told : to_come P (pick P) state.phase F.coming.s
      ≡ made_by piece then remains P (pick P) piece.end piece.at
  told = resume_tells P (pick P) (pick_sound P) 18446744073709551615 state.phase F.coming.s

  visits_told : length piece.visited + length (remains P (pick P) piece.end piece.at).visits
      < 18446744073709551615
  visits_told =
      omega (
        arith,
        F.coming.few,
        ap (λ (t : Trace). length t.visits) told,
        length-append piece.visited (remains P (pick P) piece.end piece.at).visits,
      )

  -- a walk pauses only where it has made all the visits allowed
  never_paused : piece.end ≡ paused → ⊥
  never_paused e =
      omega (arith, visits_told, resume_spends P (pick P) 18446744073709551615 state.phase F.coming.s e)

  found_told : F.left ≡ found_by piece.end piece.at ++ (remains P (pick P) piece.end piece.at).found
  found_told = F.coming.is ∙ ap (λ (t : Trace). t.found) told

  module _ {t' path' : List ℤ} {profile' : List ℕ} {r : NextAnswer}
      (R : Ran P n piece (started state) profile t' path' profile' r) (l : length path' ≡ length path) where
    counts_after : Profile (length path') profile'
    counts_after = record {
      long = ap length R.profile_is ∙ profile_long 0 piece.visited profile ∙ F.coming.counts.long ∙ sym l;
      small = rw R.profile_is (profile_small 0 piece.visited profile);
    }

    module _ {at : State} {v : ℕ} (q : r ≡ NextSays.Solution at v) where
      ends : piece.end ≡ solution
      ends = (solved piece (started state) R.answer q).0

      at_is : at ≡ after solution (started state) piece
      at_is = (solved piece (started state) R.answer q).1

      deep : at.depth ≡ length piece.at
      deep = ap (λ (x : State). x.depth) at_is

      pub on_there : {d : ℕ} → d ≡ at.depth → On P n piece.at t' path' d
      on_there e = on_level R.on (e ∙ deep)

      pub level_low : {d : ℕ} → d ≡ at.depth → d ≤ 64
      level_low e = omega (arith, level_within (on_there e), l, F.coming.low)

      module _ {out' : List ℕ} (p : out' ≡ out ++ line (numbers piece.at)) where
        pub fill_grows : length out < length out'
        fill_grows =
            omega (
              arith,
              ap length p ∙ length-append out (line (numbers piece.at)),
              line_some (numbers piece.at),
            )

        pub fill_turn : length out + 1345 ≤ 65536 → Filling P n all t' path' profile' out' at
        fill_turn room =
            let x : List ℕ = numbers piece.at in
            let a = at_is in
            let ph : at.phase ≡ Solution = ap (λ (y : State). y.phase) a in
            let left' : List (List ℕ) = (remains P (pick P) solution piece.at).found in
            let e : F.left ≡ x ∷ left' =
            found_told ∙ ap (λ (z : End). found_by z piece.at ++ (remains P (pick P) z piece.at).found) ends in
            let short : length (line x) ≤ 1345 =
            omega (
              arith,
              line_short x,
              in_order_length (λ c. c.option.number) piece.at,
              level_low {d = at.depth} refl,
              deep,
            ) in
            record {
              done = F.done ++ x ∷ [];
              left = left';
              parts =
                  F.parts ∙ ap (λ (z : List (List ℕ)). F.done ++ z) e
                  ∙ sym (append_assoc F.done (x ∷ []) left');
              lined = lined_more x F.lined p (omega (arith, room, short));
              coming = record {
                s = piece.at;
                begun = record { on = on_there refl; done_top = λ z. cannot (cc) };
                counts = counts_after;
                small = omega (arith, ap (λ (y : State). y.updates) a);
                low = omega (arith, l, F.coming.low);
                few = omega (
                  arith,
                  visits_told,
                  ap (λ (z : End). length (remains P (pick P) z piece.at).visits) ends,
                  ap (λ (z : Phase). length (to_come P (pick P) z piece.at).visits) ph,
                );
                is = ap (λ (z : Phase). (to_come P (pick P) z piece.at).found) (sym ph);
              };
            }

    -- a walk that found no solution left none to come
    pub fill_ends : ((at : State) (v : ℕ) → r ≡ NextSays.Solution at v → ⊥) → Lined all out
    fill_ends k = by piece.end refl
      where
        by : (e : End) → piece.end ≡ e → Lined all out
        by solution z =
            absurd (k _ _ (R.answer ∙ ap (λ (x : End). next_answer x (moved (started state) piece) (length piece.visited)) z))
        by paused z = absurd (never_paused z)
        by exhausted z =
            let e : F.left ≡ [] =
            found_told ∙ ap (λ (y : End). found_by y piece.at ++ (remains P (pick P) y piece.at).found) z in
            subst (λ (y : List (List ℕ)). Lined y out)
            (sym (F.parts ∙ ap (λ (y : List (List ℕ)). F.done ++ y) e ∙ append-nil F.done)) F.lined

-- ---- the numbers of a point

map_back : (xs : List ℕ) → map nat (map pos xs) ≡ xs
map_back [] = refl
map_back (x ∷ xs) = ap (λ (l : List ℕ). x ∷ l) (map_back xs)

module _ {P : Problem} {n : ℕ} {s : List Level} {t path : List ℤ} {level : ℕ} (O : On P n s t path level) (old : List ℤ) {found : List ℤ} (e : found ≡ over (map pos (numbers s)) old) where
  numbers_long : length (numbers s) ≡ level
  numbers_long = in_order_length (λ c. c.option.number) s ∙ sym O.level

  pub numbers_natural : (k : ℕ) → k < level → Natural found k
  numbers_natural k h =
      let m : length (map pos (numbers s)) ≡ length (numbers s) = length-map (numbers s) pos in
      let w : word found k ≡ pos (get_or (numbers s) k 0) =
      ap (λ (l : List ℤ). word l k) e ∙ get_or-append (map pos (numbers s)) (drop (length (map pos (numbers s))) old) (pos 0) k (omega (arith, numbers_long)) ∙ get_or-map pos (numbers s) k 0 in
      rw w tt

  pub line_told : (out : List ℕ) {out' : List ℕ} → out' ≡ out ++ line (map nat (take level found))
      → out' ≡ out ++ line (numbers s)
  line_told out p =
      p
      ∙ ap (λ (l : List ℕ). out ++ line l)
      (ap (λ (l : List ℤ). map nat (take level l)) e
      ∙ ap (map nat)
      (take_at (map pos (numbers s)) (drop (length (map pos (numbers s))) old) level
      (length-map (numbers s) pos ∙ numbers_long))
      ∙ map_back (numbers s))

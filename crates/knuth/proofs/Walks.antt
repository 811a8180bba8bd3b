-- A walk makes the first part of what was to come, and leaves the rest.
use Rattle.std.specs.Prelude.{◌≡◌, Option, None, Some}
use Rattle.std.proofs.Math.Path.{refl, sym, ap}
use Rattle.std.proofs.Common.{◌∙◌, zero-add, add-zero, add_assoc, arith}
use mathlib.Core.List.Memᴰ.{head as here}
use mathlib.Core.List.Memᴰ.{tail as there}
use mathlib.Core.List.{List, [], ◌∷◌, ◌++◌, map, append_assoc, append-nil, map-append, Memᴰ as Mem}
use Prim.Native.Nat.{ℕ, zero, suc, ◌+◌, ◌≤◌}
use Rattle.std.proofs.Math.ListN.{length}
use Rattle.rules.specs.declared.Phase.{Phase}
use Rattle.rules.specs.declared.Phase.TheVariants.{Ready, Solution, Done}
use Rattle.rules.specs.Lists.{flat}
use Rattle.rules.specs.Problem.{Problem}
use Rattle.rules.specs.Order.{Placed, Choice, Rule, choices, open_options, open_items}
use Rattle.rules.specs.Links.{Event, cost, own, touch, try, choose, held}
use Rattle.rules.specs.Walk.{Level, made, chosen, in_order, numbers, Move, back_to, retreat, go_into, enter, solution, paused, Walk, stop, visiting, follow, at_point, walk, resume, branch, solutions, in_turn, listed}
use Rattle.laws.specs.Lists.{mem_length}
use Rattle.laws.specs.Order.{choice_facts, Sound}
use Rattle.tables.specs.Met.{cost_append}
use Rattle.knuth.specs.Search.{fewer, few}
use Rattle.knuth.specs.Trace.{Trace, nothing, ◌then◌, visit, pay, deeper_by, tries, covers, spread, tree, whole, rest, to_come, remains, made_by}

-- ---- traces

pub nothing_then : (t : Trace) → nothing then t ≡ t
nothing_then t = λ i. record { visits = t.visits; found = t.found; updates = zero-add t.updates i }

pub then_nothing : (t : Trace) → t then nothing ≡ t
then_nothing t = λ i. record { visits = append-nil t.visits i; found = append-nil t.found i; updates = add-zero t.updates i }

pub then_assoc : (t u v : Trace) → (t then u) then v ≡ t then u then v
then_assoc t u v = λ i. record {
  visits = append_assoc t.visits u.visits v.visits i;
  found = append_assoc t.found u.found v.found i;
  updates = add_assoc t.updates u.updates v.updates i;
}

pay_then : (n : ℕ) (t u : Trace) → pay n t then u ≡ pay n (t then u)
pay_then n t u = λ i. record { visits = t.visits ++ u.visits; found = t.found ++ u.found; updates = add_assoc n t.updates u.updates i }

pay_pay : (m n : ℕ) (t : Trace) → pay m (pay n t) ≡ pay (m + n) t
pay_pay m n t = λ i. record { visits = t.visits; found = t.found; updates = sym (add_assoc m n t.updates) i }

-- ---- the tree

pub numbers_told : (s : List Level) → numbers s ≡ in_turn (chosen s)
unfolding in_order in_turn
numbers_told [] = refl
numbers_told (v ∷ s) = ap (λ (l : List ℕ). l ++ (v.tried.option.number ∷ [])) (numbers_told s)

module _ (P : Problem) where
  tries_ext : (above : List Level) (cs : List Choice) (f g : List Level → Trace) → ((v : Level) → Mem v.tried cs → f (v ∷ above) ≡ g (v ∷ above)) → tries P above cs f ≡ tries P above cs g
  unfolding tries
  tries_ext above [] f g h = refl
  tries_ext above (c ∷ cs) f g h = rw (h (record { tried = c; left = cs }) (here refl), tries_ext above cs f g (λ v m. h v (there m)))

  module _ (below : List Level → Trace) (list : List Placed → List (List Placed)) (h : (t : List Level) → (below t).found ≡ map in_turn (list (chosen t))) where
    tries_found : (above : List Level) (cs : List Choice) → (tries P above cs below).found ≡ map in_turn (flat (λ c. list (c.option ∷ chosen above)) cs)
    unfolding tries flat
    tries_found above [] = refl
    tries_found above (c ∷ cs) =
        rw (h (deeper_by c cs above), tries_found above cs)
        (sym (map-append in_turn (list (c.option ∷ chosen above)) (flat (λ c. list (c.option ∷ chosen above)) cs)))

  module _ (rule : Rule) where
    spread_found : (below : List Level → Trace) (list : List Placed → List (List Placed)) → ((t : List Level) → (below t).found ≡ map in_turn (list (chosen t)))
        → (s : List Level) (r : Option ℕ) → (spread P s r below).found ≡ map in_turn (branch P rule (chosen s) r (λ o. list (o ∷ chosen s)))
    spread_found below list h s None = ap (λ (l : List ℕ). l ∷ []) (numbers_told s)
    spread_found below list h s (Some i) = tries_found below list h s (choices i (open_options P (chosen s)))

    -- the tree's solutions are those of the list
    tree_found : (d : ℕ) (s : List Level) → (tree P rule d s).found ≡ map in_turn (solutions P rule d (chosen s))
    unfolding tree solutions
    tree_found zero s = spread_found (λ t. nothing) (λ cs. []) (λ t. refl) s (rule (chosen s))
    tree_found (suc d) s = spread_found (λ t. tree P rule d t) (λ cs. solutions P rule d cs) (λ t. tree_found d t) s (rule (chosen s))

    pub whole_lists : (s : List Level) → (whole P rule s).found ≡ map in_turn (solutions P rule P.np (chosen s))
    unfolding whole
    whole_lists s = tree_found P.np s

    pub whole_found : (whole P rule []).found ≡ listed P rule
    whole_found = whole_lists []

    module _ (R : Sound P rule) where
      -- a level more than there are open items changes nothing
      one_more : (d : ℕ) (s : List Level) → length (open_items P (chosen s)) ≤ d → tree P rule d s ≡ tree P rule (suc d) s
      unfolding tree
      one_more zero s h = step (rule (chosen s)) refl
        where
          step : (r : Option ℕ) → rule (chosen s) ≡ r → spread P s r (λ t. nothing) ≡ spread P s r (λ t. tree P rule 0 t)
          step None e = refl
          step (Some i) e = absurd (omega (arith, mem_length (R.takes (chosen s) e)))
      one_more (suc d) s h = step (rule (chosen s)) refl (λ t l. one_more d t l)
        where
          step : (r : Option ℕ) → rule (chosen s) ≡ r → ((t : List Level) → length (open_items P (chosen t)) ≤ d → tree P rule d t ≡ tree P rule (suc d) t)
              → spread P s r (λ t. tree P rule d t) ≡ spread P s r (λ t. tree P rule (suc d) t)
          step None e rec = refl
          step (Some i) e rec =
              let cs : List Choice = choices i (open_options P (chosen s)) in
              let below : (v : Level) → Mem v.tried cs → tree P rule d (v ∷ s) ≡ tree P rule (suc d) (v ∷ s) = λ v m.
              rec (v ∷ s) (omega (arith, fewer P (chosen s) v.tried.option (R.takes (chosen s) e) (choice_facts i (open_options P (chosen s)) m).1)) in
              rw (tries_ext s cs (λ t. tree P rule d t) (λ t. tree P rule (suc d) t) below)

      whole_is : (s : List Level) → whole P rule s ≡ spread P s (rule (chosen s)) (whole P rule)
      unfolding whole tree
      whole_is s = one_more P.np s (few P (chosen s))

      pub whole_at : (s : List Level) → (whole P rule s).found ≡ map in_turn (branch P rule (chosen s) (rule (chosen s)) (λ o. solutions P rule P.np (o ∷ chosen s)))
      whole_at s = ap (λ (t : Trace). t.found) (whole_is s) ∙ spread_found (whole P rule) (λ cs. solutions P rule P.np cs) whole_lists s (rule (chosen s))

      -- ---- a walk

      -- what comes after a move, and what it costs
      abbrev after : Option Move → Trace
      after None = nothing
      after (Some m) = pay m.updates (to_come P rule Ready m.to)

      after_tries : (n : ℕ) (c : Choice) (cs : List Choice) (above : List Level)
          → pay n (whole P rule (deeper_by c cs above) then tries P above cs (whole P rule)) then rest P rule above ≡ pay n (to_come P rule Ready (deeper_by c cs above))
      unfolding rest
      after_tries n c cs above =
          pay_then n (whole P rule (deeper_by c cs above) then tries P above cs (whole P rule)) (rest P rule above)
          ∙ ap (pay n) (then_assoc (whole P rule (deeper_by c cs above)) (tries P above cs (whole P rule)) (rest P rule above))

      retreat_tells : (s : List Level) → rest P rule s ≡ after (retreat P s)
      unfolding rest retreat tries
      retreat_tells [] = refl
      retreat_tells (v ∷ above) = step v.left (retreat_tells above)
        where
          step : (l : List Choice) → rest P rule above ≡ after (retreat P above) → tries P above l (whole P rule) then rest P rule above ≡ after (back_to P l above (retreat P above))
          step [] e = nothing_then (rest P rule above) ∙ e
          step (c ∷ cs) e = after_tries (cost (try P (held (made above)) c)) c cs above

      enter_tells : (s : List Level) (i : ℕ) → rule (chosen s) ≡ Some i → to_come P rule Ready s ≡ visit (length s) (after (enter P s i))
      unfolding enter tries choose
      enter_tells s i e = rw (whole_is s, e) (ap (visit (length s)) (step (choices i (open_options P (chosen s)))))
        where
          step : (l : List Choice) → covers P s l (whole P rule) then rest P rule s ≡ after (go_into P l s)
          step [] = nothing_then (rest P rule s) ∙ retreat_tells s
          step (c ∷ cs) =
              let covering : List Event = touch P (held (made s)) (own c) in
              let committing : List Event = try P (held (made s)) c in
              let t : Trace = whole P rule (deeper_by c cs s) then tries P s cs (whole P rule) in
              ap (λ (x : Trace). x then rest P rule s) (pay_pay (cost covering) (cost committing) t ∙ ap (λ (n : ℕ). pay n t) (sym (cost_append covering committing)))
              ∙ after_tries (cost (covering ++ committing)) c cs s

      -- a point where no item is taken is the one solution below it
      leaf_tells : (s : List Level) → rule (chosen s) ≡ None → to_come P rule Ready s ≡ made_by (stop solution s) then rest P rule s
      leaf_tells s e = rw (whole_is s, e)

      abbrev Tells : Trace → Walk → Type 0
      Tells t w = t ≡ made_by w then remains P rule w.end w.at

      follow_tells : (r : Option Move) (k : List Level → Walk) → ((t : List Level) → Tells (to_come P rule Ready t) (k t)) → Tells (after r) (follow r k)
      follow_tells None k h = sym (nothing_then nothing)
      follow_tells (Some m) k h = ap (pay m.updates) (h m.to) ∙ sym (pay_then m.updates (made_by (k m.to)) (remains P rule (k m.to).end (k m.to).at))

      walk_tells : (a : ℕ) (s : List Level) → Tells (to_come P rule Ready s) (walk P rule a s)
      unfolding walk
      walk_tells zero s = step (rule (chosen s)) refl
        where
          step : (r : Option ℕ) → rule (chosen s) ≡ r → Tells (to_come P rule Ready s) (at_point s r (λ i. stop paused s))
          step None e = leaf_tells s e
          step (Some i) e = sym (nothing_then (to_come P rule Ready s))
      walk_tells (suc a) s = step (rule (chosen s)) refl (λ t. walk_tells a t)
        where
          step : (r : Option ℕ) → rule (chosen s) ≡ r → ((t : List Level) → Tells (to_come P rule Ready t) (walk P rule a t))
              → Tells (to_come P rule Ready s) (at_point s r (λ i. visiting (length s) (follow (enter P s i) (λ t. walk P rule a t))))
          step None e rec = leaf_tells s e
          step (Some i) e rec = enter_tells s i e ∙ ap (visit (length s)) (follow_tells (enter P s i) (λ t. walk P rule a t) rec)

      -- what a walk made, then what is left, is what was to come
      pub resume_tells : (a : ℕ) (ph : Phase) (s : List Level) → Tells (to_come P rule ph s) (resume P rule a ph s)
      unfolding resume rest
      resume_tells a Ready s = walk_tells a s
      resume_tells a Solution s = retreat_tells s ∙ follow_tells (retreat P s) (λ t. walk P rule a t) (λ t. walk_tells a t)
      resume_tells a Done s = sym (then_nothing (whole P rule [])) ∙ walk_tells a []

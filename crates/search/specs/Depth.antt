-- How deep a point is: each level takes a primary item, so that its path has a word for each level.
use Rattle.std.specs.Prelude.{◌≡◌, refl, Bool, true, false, not, ◌||◌, ℕ, ◌+◌, ◌≤◌, ◌<◌, T, ℤ, length}
use Rattle.std.proofs.Common.{ap, ◌∙◌, arith}
use mathlib.Core.List.Memᴰ.{append_right as in_right}
use mathlib.Core.List.Memᴰ.{head as here}
use mathlib.Core.List.{List, [], ◌∷◌, Memᴰ as Mem}
use Rattle.rules.specs.Lists.{has, run}
use Rattle.rules.specs.Knuth.{Has}
use Rattle.rules.specs.Problem.{Problem}
use Rattle.rules.specs.Order.{has_item, Placed, pick, choices, open_options, open_items}
use Rattle.rules.specs.Walk.{Level, chosen}
use Rattle.laws.specs.Lists.{keep_mem, keep_length, keep_lt, length_run, mem_length}
use Rattle.laws.specs.Order.{has-item←, open_item, pick_some, choice_facts}
use Rattle.laws.specs.Reached.{Reached, root, level, path_length}
use Rattle.search.specs.Points.{On}

fewer : (P : Problem) (cs : List Placed) (o : Placed) {i : ℕ} → Mem i (open_items P cs) → Has o.entries i → length (open_items P (o ∷ cs)) < length (open_items P cs)
unfolding open_items has
fewer P cs o {i} m h =
    let r = keep_mem (open_item cs) (run 0 P.np) m in
    keep_lt (open_item cs) (open_item (o ∷ cs)) (λ j t. later (has_item j o.entries) (has (λ c. has_item j c.entries) cs) t) r.0 r.1
    (now_held (has_item i o.entries) (has (λ c. has_item i c.entries) cs) (has-item← i o.entries h))
  where
    now_held : (a b : Bool) → T a → T (not (not (a || b)))
    now_held true b t = tt
    now_held false b t = absurd t

    later : (a b : Bool) → T (not (a || b)) → T (not b)
    later true b t = absurd t
    later false b t = t

pub shallow : {P : Problem} {s : List Level} → Reached P (pick P) s → length (open_items P (chosen s)) + length s ≤ P.np
unfolding open_items
shallow {P} root = omega (arith, keep_length (open_item []) (run 0 P.np), length_run 0 P.np)
shallow {P} (level {v = v} {above = above} i xs p e r) =
    let m : Mem v.tried (choices i (open_options P (chosen above))) = rw e (in_right xs (here refl)) in
    omega (arith, shallow r, fewer P (chosen above) v.tried.option (pick_some P (chosen above) p) (choice_facts i (open_options P (chosen above)) m).1)

-- below a level there was room for it
pub room : {P : Problem} {v : Level} {above : List Level} → Reached P (pick P) (v ∷ above) → length above < P.np
room {P} {v} {above} (level i xs p e r) = omega (arith, shallow r, mem_length (pick_some P (chosen above) p))

-- ---- the path's words

pub path_long : {P : Problem} {n : ℕ} {s : List Level} {t path : List ℤ} {l : ℕ} → On P n s t path l → length path ≡ P.np
path_long {P} {n} {s} O = ap length O.path_is ∙ path_length P.np s (omega (arith, shallow O.at.reached))

pub level_within : {P : Problem} {n : ℕ} {s : List Level} {t path : List ℤ} {l : ℕ} → On P n s t path l → l ≤ length path
level_within O = omega (arith, O.level, path_long O, shallow O.at.reached)

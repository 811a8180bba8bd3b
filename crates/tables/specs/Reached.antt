-- The table of a point that the search reaches shows what is chosen there.
use Rattle.std.specs.Prelude.{◌≡◌, refl}
use Rattle.std.proofs.Common.{ap}
use mathlib.Core.List.Memᴰ.{append_right as in_right}
use mathlib.Core.List.Memᴰ.{head as here}
use mathlib.Core.List.{List, [], ◌∷◌, map, Memᴰ as Mem}
use Rattle.rules.specs.Problem.{Problem}
use Rattle.rules.specs.Order.{Placed, Rule, choices, open_options, open_items}
use Rattle.rules.specs.Links.{held, table}
use Rattle.rules.specs.Walk.{Level, made, chosen}
use Rattle.rules.specs.Calls.{point}
use Rattle.laws.specs.Order.{Sound}
use Rattle.laws.specs.Faults.{Good}
use Rattle.laws.specs.Reached.{Reached, root, level}
use Rattle.tables.specs.Fresh.{fresh_shows}
use Rattle.tables.specs.Points.{go_on}
use Rattle.tables.specs.Shows.{Shows, Played, none_yet, point_shows}

pub chosen_made : (s : List Level) → chosen s ≡ map (λ c. c.option) (made s)
chosen_made [] = refl
chosen_made (v ∷ s) = ap (λ (l : List Placed). v.tried.option ∷ l) (chosen_made s)

module _ (P : Problem) (rule : Rule) (S : Sound P rule) (G : Good P) where
  pub reached_played : {s : List Level} → Reached P rule s → Played P (made s)
  reached_played root = none_yet
  reached_played (level {v = v} {above = above} i xs p e r) =
      let mi : Mem i (open_items P (chosen above)) = S.takes (chosen above) p in
      let mc : Mem v.tried (choices i (open_options P (chosen above))) = rw e (in_right xs (here refl)) in
      go_on P G (reached_played r) (rw (chosen_made above) at mi) (rw (chosen_made above) at mc)

  pub reached_shows : {s : List Level} → Reached P rule s → Shows P (held (made s)) (table P (made s))
  reached_shows r = point_shows P G (fresh_shows P G) (reached_played r)

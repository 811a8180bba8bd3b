use mathlib.Core.List.{List}
use mathlib.Core.Path.{◌≡◌}
use Prim.Native.Nat.{ℕ, ◌-◌}
use lib.ListN.{length}
use Rattle.rules.specs.Problem.{Problem}
use Rattle.cover.specs.Pages.{Coming, Filling}
use Rattle.cover.proofs.page.fill.Given as goal

abbrev pub invariant-loop-t : goal.invariant-loop-t
invariant-loop-t l =
    (length l.t ≡ length l.initial.t)
    × (length l.path ≡ length l.initial.path)
    × (length l.profile ≡ length l.initial.profile)
    × ((P : Problem) (all : List (List ℕ)) → Coming P l.n all l.initial.t l.initial.path l.initial.profile l.initial.state
    → Filling P l.n all l.t l.path l.profile l.out.items l.state)

abbrev pub decreases-loop-t : goal.decreases-loop-t
decreases-loop-t l = 65536 - length l.out.items

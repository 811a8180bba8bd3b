use mathlib.Core.Path.{◌≡◌}
use Prim.Native.Nat.{◌-◌, ◌<◌}
use lib.ListN.{length}
use Rattle.rules.specs.Problem.{cut, meant}
use Rattle.cover.proofs.Showing.{Paging}
use Rattle.cover.proofs.show.Given as goal

abbrev pub invariant-loop-sent : goal.invariant-loop-sent
invariant-loop-sent l =
    (length l.t ≡ length l.initial.t)
    × (length l.path ≡ length l.initial.path)
    × (length l.profile ≡ length l.initial.profile)
    × (l.sent < 9223372036854775808
    → Paging l.text (meant (cut l.problem)) l.n l.t l.path l.profile l.out.items l.sent l.next)

abbrev pub decreases-loop-sent : goal.decreases-loop-sent
decreases-loop-sent l = 9223372036854775808 - l.sent

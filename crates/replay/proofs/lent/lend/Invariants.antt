use Rattle.std.proofs.Common.{◌≡◌, length, replicate, ◌-◌}
use Rattle.replay.proofs.lent.lend.Given as goal

abbrev pub invariant-loop-list : goal.invariant-loop-list
invariant-loop-list g l =
    (seven : g.row.T.Denot) → l.fn.sevens ≡ replicate (length l.fn.sevens) seven
    → l.list.items ≡ replicate (length l.list.items) seven

abbrev pub decreases-loop-list : goal.decreases-loop-list
decreases-loop-list g l = l.length - length l.list.items

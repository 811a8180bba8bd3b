use Rattle.std.proofs.Common.{◌≤◌, ◌*◌}
use Rattle.replay.proofs.output.Output.put_list.Given as goal

abbrev pub invariant-loop-figure : goal.invariant-loop-figure
invariant-loop-figure g l = (l.used ≤ 22 * l.figure-index) × (l.figure-index-end ≤ 8)

abbrev pub invariant-loop-part : goal.invariant-loop-part
invariant-loop-part g l =
    (goal.iterator-loop-part g).can_next l.part-iterator ×
    (goal.iterator-loop-part g).is_finite l.part-iterator

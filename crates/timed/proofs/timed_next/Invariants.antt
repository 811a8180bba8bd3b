use mathlib.Core.Path.{◌≡◌}
use Rattle.timed.proofs.Called.{Called}
use Rattle.timed.proofs.timed_next.Given as goal

abbrev pub invariant-loop : goal.invariant-loop
invariant-loop l =
    (l.solutions ≡ l.counter)
    × Called l.problem l.most
    (record { table = l.fn.table; spare = l.fn.spare; path = l.fn.path; profile = l.fn.profile; found = l.fn.found })
    (record { table = l.table; spare = l.spare; path = l.path; profile = l.profile; found = l.found })
    l.state l.solutions

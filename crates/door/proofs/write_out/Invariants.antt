use mathlib.Core.List.{◌∷◌}
use Rattle.door.proofs.Written.{Put, firsts}
use Rattle.door.proofs.write_out.Given as goal

abbrev pub invariant-loop-k : goal.invariant-loop-k
invariant-loop-k l = Put (l.depth ∷ firsts l.found l.k) l.fn.out l.out

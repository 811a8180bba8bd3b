use Rattle.rules.specs.Words.{bytes_words}
use Rattle.door.proofs.Cutting.{Cutting}
use Rattle.door.proofs.is_whole.Given as goal

abbrev pub invariant-loop : goal.invariant-loop
invariant-loop l = Cutting (bytes_words l.bytes) l.m l.at l.counter

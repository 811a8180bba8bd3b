use Rattle.door.proofs.Bytes.{Reading}
use Rattle.door.proofs.read_words.Given as goal

abbrev pub invariant-loop-k : goal.invariant-loop-k
invariant-loop-k l = Reading l.bytes l.words l.k

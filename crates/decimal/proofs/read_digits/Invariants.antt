use Rattle.decimal.proofs.ReadLaws.{Reading}
use Rattle.decimal.proofs.read_digits.Given as goal

abbrev pub invariant-loop-byte : goal.invariant-loop-byte
invariant-loop-byte l = Reading l.text l.most l.value l.byte-index

use Rattle.init.proofs.EntryLaws.{Adding}
use Rattle.init.proofs.opts.add_entries.Given as goal

abbrev pub invariant-loop-i : goal.invariant-loop-i
invariant-loop-i l = Adding l.initial.t l.n l.q l.ws l.p l.k l.t l.i

use Rattle.rules.specs.Text.{tokens}
use Rattle.text.specs.Names.{known}
use Rattle.text.specs.Entries.{entries_words}
use Rattle.text.proofs.Putting.{Putting}
use Rattle.text.proofs.options.write_entries.Given as goal

abbrev pub invariant-loop-token : goal.invariant-loop-token
invariant-loop-token l =
    Putting (entries_words (known l.names) (tokens l.line)) (entries_words (known l.names)
    (tokens l.token-iterator.rest.now)) l.initial.words l.words l.next

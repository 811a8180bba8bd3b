use Rattle.text.proofs.Outcomes.{under_short, under_read}
use Rattle.text.proofs.read_options.Goals as goal

pub returns-then-words-count : goal.returns-then-words-count
returns-then-words-count c = under_short c.args.names.now c.args.lines c.args.words.now c.in-Ok.ensures
    c.if-options-eq0.false c.if-words-count.true

pub returns-else-words-count : goal.returns-else-words-count
returns-else-words-count c =
    under_read c.args.names.now c.args.lines c.args.words.now c.in-Ok.ensures c.if-options-eq0.false
    c.if-words-count.false c.write_problem.ensures

use Rattle.text.proofs.Outcomes.{read_long, read_faulty, read_missing, read_found}
use Rattle.text.proofs.read.Goals as goal

pub returns-then-text-gt65536 : goal.returns-then-text-gt65536
returns-then-text-gt65536 c = read_long c.args.front c.args.text.now c.args.words.now c.if-text-gt65536.true

pub returns-in-Err : goal.returns-in-Err
returns-in-Err c =
    read_faulty c.args.front c.args.text.now c.args.words.now c.if-text-gt65536.false c.of-lines.result
    c.of-lines.ensures.whole c.of-lines.ensures.first c.in-Err.ensures

pub returns-in-Ok-None : goal.returns-in-Ok-None
returns-in-Ok-None c =
    read_missing c.args.front c.args.text.now c.args.words.now c.if-text-gt65536.false c.of-lines.result
    c.of-lines.ensures.whole c.of-lines.ensures.first (rw c.in-Ok-None.field-0-is at c.in-Ok-None.ensures)

pub returns-in-Ok-Some : goal.returns-in-Ok-Some
returns-in-Ok-Some c =
    read_found c.args.front c.args.text.now c.args.words.now c.if-text-gt65536.false c.of-lines.result
    c.of-lines.ensures.whole c.of-lines.ensures.first c.of.result
    (rw c.in-Ok-Some.field-0-is at c.in-Ok-Some.ensures) c.of.ensures.value c.of.ensures.flag c.read_options.ensures

use Rattle.std.proofs.Common.{sym, ◌∙◌}
use Rattle.text.proofs.Lining.{check_faulty, check_passed, check_option, check_end}
use Rattle.text.proofs.lines.check_options.Goals as goal

pub returns-then-line_fault : goal.returns-then-line_fault
returns-then-line_fault c =
    let e = c.in-Some.ensures.steps in
    check_faulty c.loop-number.invariant c.next.new.self e.0 e.1 e.2 (sym c.line_fault.ensures ∙ c.if-line_fault.true)

pub loop-number-preserved-then-not-is_passed : goal.loop-number-preserved-then-not-is_passed
loop-number-preserved-then-not-is_passed c =
    let e = c.in-Some.ensures.steps in
    check_option c.loop-number.invariant c.next.new.self e.0 e.1 e.2 e.3
    (sym c.line_fault.ensures ∙ c.if-line_fault.false) (sym c.is_passed.ensures ∙ c.if-not-is_passed.true)
    c.count.ensures.value c.count.ensures.few

pub loop-number-preserved : goal.loop-number-preserved
loop-number-preserved c =
    let e = c.in-Some.ensures.steps in
    check_passed c.loop-number.invariant c.next.new.self e.0 e.1 e.2 e.3
    (sym c.line_fault.ensures ∙ c.if-line_fault.false) (sym c.is_passed.ensures ∙ c.if-not-is_passed.false)

pub returns : goal.returns
returns c = check_end c.loop-number.invariant c.in-None.ensures.steps

use Rattle.std.proofs.Common.{None, sym, ◌∙◌, arith}
use Rattle.text.proofs.Lining.{bad_byte, bad_items, seek_faulty, seek_turn, seek_found, seek_end}
use Rattle.text.proofs.lines.find_items.Goals as goal

pub returns-then-not-is_clean : goal.returns-then-not-is_clean
returns-then-not-is_clean c =
    let e = c.in-Some.ensures.steps in
    seek_faulty c.loop-number.invariant c.next.new.self e.0 e.1 e.2
    (bad_byte None c.in-Some.line.now (sym c.is_clean.ensures ∙ c.if-not-is_clean.true))

pub returns-then-items_fault : goal.returns-then-items_fault
returns-then-items_fault c =
    let e = c.in-Some.ensures.steps in
    seek_faulty c.loop-number.invariant c.next.new.self e.0 e.1 e.2
    (bad_items c.in-Some.line.now (sym c.is_clean.ensures ∙ c.if-not-is_clean.false)
    (sym c.is_passed.ensures ∙ c.if-not-is_passed.true) (sym c.items_fault.ensures ∙ c.if-items_fault.true))

pub returns-then-not-is_passed : goal.returns-then-not-is_passed
returns-then-not-is_passed c =
    let e = c.in-Some.ensures.steps in
    seek_found c.loop-number.invariant c.next.new.self e.0 e.1 e.2
    (let f = c.loop-number.lines.few in omega (arith, e.3)) (sym c.is_clean.ensures ∙ c.if-not-is_clean.false)
    (sym c.is_passed.ensures ∙ c.if-not-is_passed.true) (sym c.items_fault.ensures ∙ c.if-items_fault.false)

pub loop-number-preserved : goal.loop-number-preserved
loop-number-preserved c =
    let e = c.in-Some.ensures.steps in
    seek_turn c.loop-number.invariant c.next.new.self e.0 e.1 e.2 (sym c.is_clean.ensures ∙ c.if-not-is_clean.false)
    (sym c.is_passed.ensures ∙ c.if-not-is_passed.false)

pub returns : goal.returns
returns c = seek_end c.loop-number.invariant c.in_default.ensures.steps

use mathlib.Core.Path.{sym, ◌∙◌}
use Rattle.decimal.proofs.ReadLaws.{turn, stop, end}
use Rattle.decimal.proofs.read_digits.Goals as goal

pub returns-in_err-value-clause-value : goal.returns-in_err-value-clause-value
returns-in_err-value-clause-value c =
    c.from_residual.ensures ∙ stop c.loop-byte.invariant c.loop-byte-test.true (sym c.extended.ensures ∙ c.in_err-value.was)

pub loop-byte-preserved : goal.loop-byte-preserved
loop-byte-preserved c = turn c.loop-byte.invariant c.loop-byte-test.true (sym c.extended.ensures ∙ c.in_ok-value.was)

pub returns-clause-value : goal.returns-clause-value
returns-clause-value c = end c.loop-byte.invariant c.loop-byte-test.false

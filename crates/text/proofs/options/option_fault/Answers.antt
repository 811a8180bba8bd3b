use Rattle.std.proofs.Common.{sym, ◌∙◌}
use Rattle.text.specs.Names.{known}
use Rattle.text.proofs.Faults.{option_found, option_passed}
use Rattle.text.proofs.options.option_fault.Goals as goal

pub returns-then-token_fault : goal.returns-then-token_fault
returns-then-token_fault c =
    option_found c.in-Some.ensures.steps (known c.args.names.now) c.token_fault.ensures c.if-token_fault.true
    ∙ sym c.loop-token.invariant

pub loop-token-preserved : goal.loop-token-preserved
loop-token-preserved c =
    c.loop-token.invariant ∙ option_passed c.in-Some.ensures.steps (known c.args.names.now) c.token_fault.ensures
    c.if-token_fault.false

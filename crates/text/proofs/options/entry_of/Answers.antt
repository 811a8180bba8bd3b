use Rattle.std.proofs.Common.{◌∙◌}
use Rattle.text.specs.Names.{known}
use Rattle.text.proofs.Entering.{entered_none, entered_named}
use Rattle.text.proofs.options.entry_of.Goals as goal

pub returns-in_err-name-clause-value : goal.returns-in_err-name-clause-value
returns-in_err-name-clause-value c = c.from_residual.ensures
    ∙ entered_none (known c.args.names.now) c.args.token.now c.in_err-name.ensures

pub returns-clause-value : goal.returns-clause-value
returns-clause-value c = c.entry_named.ensures.value ∙ entered_named (known c.args.names.now) c.args.token.now
    c.in_ok-name.ensures.0

use Rattle.std.proofs.Common.{None, sym, ap, ◌∙◌}
use Rattle.text.specs.Names.{known}
use Rattle.text.specs.Entries.{told}
use Rattle.text.proofs.Entering.{numbered, entry_second}
use Rattle.text.proofs.options.entry_named.Goals as goal

pub returns-in_err-item-clause-value : goal.returns-in_err-item-clause-value
returns-in_err-item-clause-value c =
    let names = c.args.names.now in
    c.from_residual.ensures
    ∙ sym (ap told (entry_second (known names) c.args.name.now c.args.colour
    (sym c.find_primary.ensures.value ∙ c.in_default.is) (numbered names c.args.name.now names.counted) {o = None}
    (sym c.find_secondary.ensures.value ∙ c.in_err-item.was)))

pub returns-clause-value : goal.returns-clause-value
returns-clause-value c =
    let names = c.args.names.now in
    sym (ap told (entry_second (known names) c.args.name.now c.args.colour
    (sym c.find_primary.ensures.value ∙ c.in_default.is) (numbered names c.args.name.now names.counted)
    (sym c.find_secondary.ensures.value ∙ c.in_ok-item.was)))

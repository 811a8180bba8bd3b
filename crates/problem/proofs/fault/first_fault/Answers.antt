use mathlib.Core.Path.{sym, ap, ◌∙◌}
use Rattle.problem.specs.Marks.{refused}
use Rattle.problem.specs.Measured.{whole_options, fault_is}
use Rattle.problem.proofs.fault.first_fault.Goals as goal

pub options_fault-requires-clause-whole : goal.options_fault-requires-clause-whole
options_fault-requires-clause-whole c = whole_options c.args.problem.now c.args.s c.requires.measured

pub returns : goal.returns
returns c = c.options_fault.ensures ∙ ap refused (sym (fault_is c.args.problem.now c.args.s c.requires.measured))

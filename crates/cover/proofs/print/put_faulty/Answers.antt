use mathlib.Core.List.{[], ◌∷◌, ◌++◌}
use mathlib.Core.Path.{ap, ◌∙◌}
use native.Mathlib.Omega.{arith}
use lib.ListN.{length, length-append}
use Rattle.rules.specs.Cover.{decimal}
use Rattle.cover.proofs.Printing.{faulty_put, number_short, word_refused}
use Rattle.cover.proofs.print.put_faulty.Goals as goal

pub put_number-requires-2 : goal.put_number-requires-2
put_number-requires-2 c =
    omega (
      arith,
      c.requires,
      ap length c.put_bytes.ensures ∙ length-append c.args.out.now.items word_refused,
      ap length c.put_number.ensures ∙ length-append c.put_bytes.new.out.items (decimal c.args.number ++ (32 ∷ [])),
      number_short c.args.number 32,
    )

pub returns : goal.returns
returns c =
    faulty_put c.args.out.now.items c.args.number c.args.faulty c.put_bytes.ensures c.put_number.ensures
    c.put_number-2.ensures

use Rattle.std.proofs.Common.{rules, sym, ◌∙◌}
use borrow.Author.Tests.{tests}
use Rattle.std.proofs.lemmas.Iterator.{YieldsList-from_slice}
use Rattle.std.proofs.lemmas.Iterator.Search.{all_from_yields_List}
use Rattle.rules.specs.Text.{name_byte}
use Rattle.text.proofs.Mirror.{each_all}
use Rattle.text.proofs.bytes.is_name.Goals as goal

pub returns : goal.returns
returns c =
    all_from_yields_List name_byte _ _ _ c.all.ensures.ran (YieldsList-from_slice c.args.token.now cc)
    (λ x b q k. search (rules, tests)) ∙ sym (each_all name_byte c.args.token.now)

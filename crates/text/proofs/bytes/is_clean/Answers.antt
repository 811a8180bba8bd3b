use Rattle.std.proofs.Common.{rules, sym, ◌∙◌}
use borrow.Author.Tests.{tests}
use Rattle.std.proofs.lemmas.Iterator.{YieldsList-from_slice}
use Rattle.std.proofs.lemmas.Iterator.Search.{all_from_yields_List}
use Rattle.rules.specs.Text.{allowed}
use Rattle.text.proofs.Mirror.{each_all}
use Rattle.text.proofs.bytes.is_clean.Goals as goal

pub returns : goal.returns
returns c =
    all_from_yields_List allowed _ _ _ c.all.ensures.ran (YieldsList-from_slice c.args.line.now cc)
    (λ x b q k. search (rules, tests)) ∙ sym (each_all allowed c.args.line.now)

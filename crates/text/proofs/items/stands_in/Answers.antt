use Rattle.std.proofs.Common.{rules, eqb, sym, ap, ◌∙◌}
use borrow.Author.Tests.{tests}
use lib.Pointwise.{pointwise}
use Rattle.std.proofs.lemmas.Iterator.Consumers.{YieldsList-from_first}
use Rattle.std.proofs.lemmas.Iterator.Search.{any_from_yields_List}
use Rattle.rules.specs.Text.{tokens}
use Rattle.text.proofs.Mirror.{stands_any}
use Rattle.text.proofs.items.stands_in.Goals as goal

pub returns : goal.returns
returns c =
    any_from_yields_List (λ t. pointwise eqb c.args.name.now t) c.any.new.self _ _ c.any.ensures.ran
    (YieldsList-from_first (λ t. t.now) (λ s. tokens s.rest.now) {s = c.of.result} (tokens c.args.line.now)
    (ap tokens c.of.ensures)) (λ x b q k. search (rules, tests))
    ∙ sym (stands_any c.args.name.now (tokens c.args.line.now))

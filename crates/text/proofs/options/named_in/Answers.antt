use Rattle.std.proofs.Common.{rules, eqb, sym, ap, ◌∙◌}
use borrow.Author.Tests.{tests}
use lib.Pointwise.{pointwise}
use Rattle.std.proofs.lemmas.Iterator.Consumers.{YieldsList-from_first}
use Rattle.std.proofs.lemmas.Iterator.Search.{any_from_yields_List}
use Rattle.rules.specs.Text.{name_of, tokens}
use Rattle.text.proofs.Mirror.{named_any}
use Rattle.text.proofs.options.named_in.Goals as goal

pub returns : goal.returns
returns c =
    any_from_yields_List (λ t. pointwise eqb c.args.name.now (name_of t)) c.any.new.self _ _ c.any.ensures.ran
    (YieldsList-from_first (λ t. t.now) (λ s. tokens s.rest.now) {s = c.of.result} (tokens c.args.line.now)
    (ap tokens c.of.ensures)) (λ x b q k. search (rules, tests))
    ∙ sym (named_any c.args.name.now (tokens c.args.line.now))

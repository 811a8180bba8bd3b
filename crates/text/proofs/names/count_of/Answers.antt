use Rattle.std.proofs.Common.{rules}
use mathlib.Core.Bool.{beq}
use borrow.Author.Tests.{tests}
use Rattle.std.proofs.lemmas.Iterator.{YieldsList-from_take}
use Rattle.std.proofs.lemmas.Iterator.Consumers.{YieldsList-from_filter, count_from_yields_List}
use Rattle.rules.specs.Text.{sharp, tokens}
use Rattle.text.proofs.Coming.{tokens_come}
use Rattle.text.proofs.names.count_of.Goals as goal

pub returns : goal.returns
returns c =
    count_from_yields_List c.filter.result _ c.count.ensures.ran
    (YieldsList-from_filter _ (λ t. beq (sharp t) c.args.with)
    (YieldsList-from_take c.args.names (tokens_come (tokens c.args.items.now) (cc)) (cc))
    c.filter.ensures.closure (λ x r q k. search (rules, tests)))

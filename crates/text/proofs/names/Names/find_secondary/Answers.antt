use Rattle.std.proofs.Common.{rules, eqb, ap, ◌≡◌}
use borrow.Author.Tests.{tests}
use lib.Pointwise.{pointwise}
use Rattle.std.proofs.lemmas.Iterator.Search.{position_from_yields_List}
use Rattle.rules.specs.Text.{tokens}
use Rattle.text.specs.Names.{place_in}
use Rattle.text.proofs.Coming.{tokens_come}
use Rattle.text.proofs.Naming.{place_at}
use Rattle.text.proofs.names.Names.find_secondary.Goals as goal

pub returns-clause-value : goal.returns-clause-value
returns-clause-value c =
    let at : c.position.result ≡ place_in c.args.name.now (tokens c.args.self.now.secondary.now) =
    position_from_yields_List (pointwise eqb c.args.name.now) c.position.new.self _ _ c.position.ensures.ran
    (tokens_come {s = c.of.result} (tokens c.args.self.now.secondary.now) (ap tokens c.of.ensures))
    (λ x b q k. search (rules, tests)) in
    search (rules, place_at)

pub returns-in_err-place-clause-value : goal.returns-in_err-place-clause-value
returns-in_err-place-clause-value c =
    let at : c.position.result ≡ place_in c.args.name.now (tokens c.args.self.now.secondary.now) =
    position_from_yields_List (pointwise eqb c.args.name.now) c.position.new.self _ _ c.position.ensures.ran
    (tokens_come {s = c.of.result} (tokens c.args.self.now.secondary.now) (ap tokens c.of.ensures))
    (λ x b q k. search (rules, tests)) in
    search (rules, place_at)

use Rattle.std.proofs.Common.{leb, refl, ◌∙◌, le-leb, rules, tests}
use Rattle.std.proofs.lemmas.Bool.{lt-leb}
use Rattle.std.proofs.lemmas.Iterator.{YieldsList-from_slice}
use Rattle.std.proofs.lemmas.Iterator.Search.{all_from_yields_List}
use Rattle.rules.specs.Calls.{cap, counts_fit}
use Rattle.calls.proofs.Tests.{each_all}
use Rattle.calls.proofs.test.counts_fit.Goals as goal

pub returns-then-state-le-CAP : goal.returns-then-state-le-CAP
unfolding counts_fit
returns-then-state-le-CAP c =
    rw (le-leb _ _ c.if-state-le-CAP.true)
    (all_from_yields_List (λ n. leb n cap) _ _ _ c.all.ensures.ran
    (YieldsList-from_slice c.args.profile.now c.iter.ensures.rest)
    (λ x b q k. search (rules, tests))
    ∙ each_all (λ n. leb n cap) c.args.profile.now)

pub returns-else-state-le-CAP : goal.returns-else-state-le-CAP
unfolding counts_fit
returns-else-state-le-CAP c = rw (lt-leb _ _ c.if-state-le-CAP.false) refl

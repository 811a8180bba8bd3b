use Rattle.std.proofs.Common.{pos, ◌∙◌, rules, tests}
use Rattle.std.specs.Ordering.{int_eq}
use Rattle.std.proofs.lemmas.Iterator.{YieldsList-from_slice}
use Rattle.std.proofs.lemmas.Iterator.Search.{all_from_yields_List}
use Rattle.words.proofs.Tests.{each_same}
use Rattle.words.proofs.are_zeros.Goals as goal

pub returns : goal.returns
returns c =
    all_from_yields_List (λ w. int_eq w (pos 0)) _ _ _ c.all.ensures.ran
    (YieldsList-from_slice c.args.t.now c.iter.ensures.rest)
    (λ x b q k. search (rules, tests))
    ∙ each_same c.args.t.now

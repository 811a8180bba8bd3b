use Rattle.std.proofs.Common.{◌∙◌}
use Rattle.std.proofs.lemmas.List.Folds.{length-prefix_len}
use Rattle.std.proofs.lemmas.Iterator.{YieldsList-from_slice}
use Rattle.std.proofs.lemmas.Iterator.Consumers.{count_from_yields_List}
use Rattle.std.proofs.lemmas.Iterator.Search.{YieldsList-from_take_while}
use Rattle.text.proofs.bytes.prefix_len.Goals as goal

pub returns : goal.returns
returns g c p is =
    count_from_yields_List c.take_while.result _ c.count.ensures.ran
    (YieldsList-from_take_while _ p (YieldsList-from_slice c.args.text.now cc) c.take_while.ensures.closure
    c.take_while.ensures.done
    is)
    ∙ length-prefix_len p c.args.text.now

use mathlib.Core.Path.{◌≡◌, sym, ◌∙◌}
use mathlib.Core.Bool.{true}
use Rattle.rules.specs.Calls.{level_of}
use Rattle.rules.specs.Lists.{got}
use Rattle.search.proofs.Running.{picked}
use Rattle.search.proofs.Replaying.{ways, listed, stepped}
use Rattle.search.proofs.point.follow.Goals as goal

pub try_item-requires : goal.try_item-requires
try_item-requires c =
    let F = c.requires.2 in
    let K = (picked F.at (c.in-Some.ensures _ _ F.at)).1 in
    (_, _, _, (listed _ _ c.link_at-q.ensures K (sym (c.is_listed.ensures _ _ _ K) ∙ c.if-not-is_listed.false)).2)

pub returns : goal.returns
returns c =
    λ P s F.
    let (j, K) = picked F.at (c.in-Some.ensures P s F.at) in
    let I : got (level_of c.link_at-q.result (ways P s j)) ≡ true =
    sym (c.is_listed.ensures P s j K) ∙ c.if-not-is_listed.false in
    stepped P s c.link_at-q.ensures K I (c.try_item.ensures P _ _ (listed P s c.link_at-q.ensures K I).2).at

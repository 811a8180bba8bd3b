use Rattle.cover.proofs.Showing.{top_coming}
use Rattle.cover.proofs.begin.Goals as goal

pub fill-requires : goal.fill-requires
fill-requires c =
    (_, _, top_coming c.requires.accepted c.init_links.ensures c.requires.parts.path_is c.requires.parts.profile_is)

pub returns : goal.returns
returns c =
    c.fill.ensures _ _ (top_coming c.requires.accepted c.init_links.ensures c.requires.parts.path_is c.requires.parts.profile_is)

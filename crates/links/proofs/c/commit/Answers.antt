-- `links::c::commit` meets its contract: the node's colour tells whether its item is held, and else what is to be done.
-- Assumes nothing.
use Rattle.links.proofs.Committing.{tells_bare, tells_coloured, tells_marked, commit_tells, commit_has, commit_header, commit_none, can_cover, commit_covers, can_purify, commit_purifies}
use Rattle.links.proofs.c.commit.Goals as goal

pub top_of-j-requires : goal.top_of-j-requires
top_of-j-requires c = commit_has c.requires.3

pub cover-requires : goal.cover-requires
cover-requires c = (
  _,
  _,
  _,
  can_cover c.requires.3 (tells_bare _ _ (commit_tells c.requires.3) c.is_bare.ensures c.if-is_bare.true).0
      (commit_header c.requires.3 c.top_of-j.ensures),
)

pub returns-then-is_bare : goal.returns-then-is_bare
returns-then-is_bare c =
    λ P held x C.
    let k = tells_bare _ _ (commit_tells C) c.is_bare.ensures c.if-is_bare.true in
    commit_covers C k.0 k.1 (c.cover.ensures P held _ (can_cover C k.0 (commit_header C c.top_of-j.ensures)))

pub purify-requires : goal.purify-requires
purify-requires c =
    let k = tells_coloured _ _ (commit_tells c.requires.3) c.is_coloured.ensures c.if-is_coloured.true in
    (_, _, _, can_purify c.requires.3 k.0 k.1)

pub returns-then-is_coloured : goal.returns-then-is_coloured
returns-then-is_coloured c =
    λ P held x C.
    let k = tells_coloured _ _ (commit_tells C) c.is_coloured.ensures c.if-is_coloured.true in
    commit_purifies C k.0 (c.purify.ensures P held _ (can_purify C k.0 k.1))

pub returns : goal.returns
returns c =
    λ P held x C. commit_none C (tells_marked _ _ (commit_tells C) c.is_bare.ensures c.if-is_bare.false
    c.is_coloured.ensures c.if-is_coloured.false)

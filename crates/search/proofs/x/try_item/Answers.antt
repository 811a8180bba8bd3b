use Rattle.search.proofs.Moving.{try_cover, try_commit, tried}
use Rattle.search.proofs.x.try_item.Goals as goal

pub cover-a-requires : goal.cover-a-requires
cover-a-requires c = (_, _, _, try_cover c.requires.3)

pub commit_all-b-requires : goal.commit_all-b-requires
commit_all-b-requires c =
    (_, _, _, try_commit c.requires.3 (c.cover-a.ensures _ _ _ (try_cover c.requires.3)).is)

pub returns : goal.returns
returns c = λ P s v M.
    let D = c.cover-a.ensures P _ _ (try_cover M) in
    tried M D (c.commit_all-b.ensures P _ _ (try_commit M D.is)) c.capped.ensures

use Rattle.search.proofs.Moving.{last_node, last_committed, last_covered, restored}
use Rattle.search.proofs.x.restore_item.Goals as goal

pub top-i-requires : goal.top-i-requires
top-i-requires c = (_, _, _, last_node c.requires.3)

pub uncommit_all-requires : goal.uncommit_all-requires
uncommit_all-requires c = (_, _, _, _, last_committed c.requires.3)

pub uncover-requires : goal.uncover-requires
uncover-requires c =
    (_, _, _, _, last_covered c.requires.3 (c.uncommit_all.ensures _ _ _ _ (last_committed c.requires.3)) (c.top-i.ensures _ _ _ (last_node c.requires.3)))

pub returns : goal.returns
returns c = λ P v above K.
    restored K (c.uncover.ensures P _ _ _ (last_covered K (c.uncommit_all.ensures P _ _ _ (last_committed K)) (c.top-i.ensures P _ _ (last_node K))))

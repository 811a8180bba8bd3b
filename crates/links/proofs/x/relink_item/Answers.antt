-- `links::x::relink_item` meets its contract: the two words that it writes are those of the event undone. Assumes
-- nothing.
use Rattle.links.proofs.Words.{item_small, restore_done}
use Rattle.links.proofs.x.relink_item.Goals as goal

pub put_right-requires-clause-x_bound : goal.put_right-requires-clause-x_bound
put_right-requires-clause-x_bound c = item_small c.requires.4

pub put_left-requires-clause-x_bound : goal.put_left-requires-clause-x_bound
put_left-requires-clause-x_bound c = item_small c.requires.4

pub returns : goal.returns
returns c =
    λ n j e. restore_done c.requires.4
    c.left_of-l.ensures c.right_of-r.ensures n j e
    c.put_right.ensures c.put_left.ensures

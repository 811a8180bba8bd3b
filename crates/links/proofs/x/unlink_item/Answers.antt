-- `links::x::unlink_item` meets its contract: the two words that it writes are those of the event. Assumes nothing.
use Rattle.links.proofs.Words.{remove_done}
use Rattle.links.proofs.x.unlink_item.Goals as goal

pub returns : goal.returns
returns c =
    λ n j e. remove_done c.requires.4
    c.left_of-l.ensures c.right_of-r.ensures n j e
    c.put_right.ensures c.put_left.ensures

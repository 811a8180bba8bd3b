-- `links::c::relink_node` meets its contract: the three words that it writes are those of the event undone. Assumes
-- nothing.
use Rattle.links.proofs.Words.{can_raise, relink_done}
use Rattle.links.proofs.c.relink_node.Goals as goal

pub raise_len-requires-clause-i_in_bounds : goal.raise_len-requires-clause-i_in_bounds
raise_len-requires-clause-i_in_bounds c =
    (can_raise c.requires.4.between c.stand_of-s.ensures _ _ c.put_down.ensures c.put_up.ensures c.requires.4.count_is
    c.requires.4.room).0

pub returns : goal.returns
returns c =
    relink_done c.requires.4.between c.stand_of-s.ensures c.put_down.ensures
    c.put_up.ensures c.raise_len.ensures

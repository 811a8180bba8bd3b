-- `links::c::unlink_node` meets its contract: the three words that it writes are those of the event. Assumes nothing.
use Rattle.links.proofs.Words.{unlink_done}
use Rattle.links.proofs.c.unlink_node.Goals as goal

pub returns : goal.returns
returns c =
    unlink_done c.requires.4.between c.stand_of-s.ensures c.put_down.ensures
    c.put_up.ensures c.lower_len.ensures

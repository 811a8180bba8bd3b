-- `links::c::dlink` meets its contract: the down link of a member of the list is the following member. Assumes nothing.
use native.Mathlib.Omega.{arith}
use Rattle.links.proofs.Words.{has_link, read}
use Rattle.links.proofs.Found.{list_size, list_inside, list_word}
use Rattle.links.proofs.c.dlink.Goals as goal

pub down_of-requires : goal.down_of-requires
down_of-requires c = has_link c.args.t.now (omega (arith, c.requires.5.n_is)) (list_word c.requires.5) (omega (arith, list_inside c.requires.5, list_size c.requires.5))

pub returns-clause-value : goal.returns-clause-value
returns-clause-value c = λ P held i xs ys L. read c.args.t.now (omega (arith, L.n_is)) (list_word L) c.down_of.ensures

-- `links::c::top` meets its contract: a node names the header of its item. Assumes nothing.
use native.Mathlib.Omega.{arith}
use Rattle.links.proofs.Words.{has_link, read}
use Rattle.links.proofs.Found.{node_size, node_inside, node_word}
use Rattle.links.proofs.c.top.Goals as goal

pub top_of-requires : goal.top_of-requires
top_of-requires c = has_link c.args.t.now (omega (arith, c.requires.3.n_is)) (node_word c.requires.3) (omega (arith, node_inside c.requires.3, node_size c.requires.3))

pub returns : goal.returns
returns c = λ P held c' N. read c.args.t.now (omega (arith, N.n_is)) (node_word N) c.top_of.ensures

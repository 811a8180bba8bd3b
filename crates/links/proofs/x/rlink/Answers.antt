-- `links::x::rlink` meets its contract: the right link of a member of the ring is the following member. Assumes
-- nothing.
use mathlib.Core.Path.{refl}
use native.Mathlib.Omega.{arith}
use Rattle.links.proofs.Words.{has_link, read}
use Rattle.links.proofs.Found.{ring_size, ring_inside, ring_word}
use Rattle.links.proofs.x.rlink.Goals as goal

pub right_of-requires : goal.right_of-requires
right_of-requires c = has_link c.args.t.now refl (ring_word c.requires.4) (omega (arith, ring_inside c.requires.4, ring_size c.requires.4))

pub returns : goal.returns
returns c = λ P held xs ys R. read c.args.t.now refl (ring_word R) c.right_of.ensures

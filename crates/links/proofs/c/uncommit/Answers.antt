-- `links::c::uncommit` meets its contract: the node's colour still tells whether its item was held before, and else
-- what was done. Assumes nothing.
use Rattle.links.proofs.Committing.{tells_bare, tells_coloured, tells_marked, uncommit_tells, uncommit_colour, uncommit_has, uncommit_header, uncommit_none, covered, purified}
use Rattle.links.proofs.c.uncommit.Goals as goal

pub is_bare-requires : goal.is_bare-requires
is_bare-requires c = uncommit_colour c.requires.4

pub top_of-j-requires : goal.top_of-j-requires
top_of-j-requires c =
    let Q = c.requires.4 in
    uncommit_has Q (tells_bare _ _ (uncommit_tells Q) c.is_bare.ensures c.if-is_bare.true).0

pub uncover-requires : goal.uncover-requires
uncover-requires c =
    let k = tells_bare _ _ (uncommit_tells c.requires.4) c.is_bare.ensures c.if-is_bare.true in
    (_, _, _, _, covered c.requires.4 k.0 k.1 (uncommit_header c.requires.4 k.0 c.top_of-j.ensures))

pub returns-then-is_bare : goal.returns-then-is_bare
returns-then-is_bare c =
    λ P held t₁ x Q.
    let k = tells_bare _ _ (uncommit_tells Q) c.is_bare.ensures c.if-is_bare.true in
    c.uncover.ensures P held t₁ _ (covered Q k.0 k.1 (uncommit_header Q k.0 c.top_of-j.ensures))

pub unpurify-requires : goal.unpurify-requires
unpurify-requires c =
    let k = tells_coloured _ _ (uncommit_tells c.requires.4) c.is_coloured.ensures c.if-is_coloured.true in
    (_, _, _, _, purified c.requires.4 k.0 k.1)

pub returns-then-is_coloured : goal.returns-then-is_coloured
returns-then-is_coloured c =
    λ P held t₁ x Q.
    let k = tells_coloured _ _ (uncommit_tells Q) c.is_coloured.ensures c.if-is_coloured.true in
    c.unpurify.ensures P held t₁ _ (purified Q k.0 k.1)

pub returns-else-is_coloured : goal.returns-else-is_coloured
returns-else-is_coloured c =
    λ P held t₁ x Q. uncommit_none Q (tells_marked _ _ (uncommit_tells Q) c.is_bare.ensures c.if-is_bare.false
    c.is_coloured.ensures c.if-is_coloured.false)

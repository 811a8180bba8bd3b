use native.Mathlib.Omega.{arith}
use Rattle.search.proofs.Moving.{header_list, first_choice, no_choice, entry_room, entry_trying, entered}
use Rattle.search.proofs.enter.Goals as goal

pub dlink-x-requires : goal.dlink-x-requires
dlink-x-requires c = (_, _, _, _, _, header_list c.requires.3.picked)

pub returns-then-x-i : goal.returns-then-x-i
returns-then-x-i c = λ P s j K.
    rw (no_choice K.picked (c.dlink-x.ensures.value _ _ _ _ _ (header_list K.picked)) c.if-x-i.true) (c.retreat.ensures P s K.on)

pub put_link-requires-clause-a_in_bounds : goal.put_link-requires-clause-a_in_bounds
put_link-requires-clause-a_in_bounds c = entry_room c.requires.3

pub try_item-a-requires : goal.try_item-a-requires
try_item-a-requires c =
    let K = c.requires.3 in
    (_, _, _, entry_trying K (first_choice K.picked (c.dlink-x.ensures.value _ _ _ _ _ (header_list K.picked)) c.if-x-i.false))

pub overflow_add-result : goal.overflow_add-result
overflow_add-result c = omega (arith, entry_room c.requires.3)

pub returns : goal.returns
returns c = λ P s j K.
    let F = first_choice K.picked (c.dlink-x.ensures.value _ _ _ _ _ (header_list K.picked)) c.if-x-i.false in
    entered K F (c.try_item-a.ensures P _ _ (entry_trying K F)) c.put_link.ensures

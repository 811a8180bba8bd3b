use Rattle.search.proofs.Moving.{last_node, last_committed, last_covered, in_path, word_natural, last_of, again_list, again, none_left, back, again_commit, onward}
use Rattle.search.proofs.x.try_again.Goals as goal

pub link_at-x-requires : goal.link_at-x-requires
link_at-x-requires c = record { a_in_bounds = in_path c.requires.3; natural = word_natural c.requires.3 }

pub top-i-requires : goal.top-i-requires
top-i-requires c = (_, _, _, last_node (last_of c.requires.3 c.link_at-x.ensures))

pub uncommit_all-requires : goal.uncommit_all-requires
uncommit_all-requires c = (_, _, _, _, last_committed (last_of c.requires.3 c.link_at-x.ensures))

pub dlink-y-requires : goal.dlink-y-requires
dlink-y-requires c =
    let O = c.requires.3 in
    let L = last_of O c.link_at-x.ensures in
    (_, _, _, _, _, again_list O L (c.uncommit_all.ensures _ _ _ _ (last_committed L)))

pub uncover-requires : goal.uncover-requires
uncover-requires c =
    let L = last_of c.requires.3 c.link_at-x.ensures in
    (_, _, _, _, last_covered L (c.uncommit_all.ensures _ _ _ _ (last_committed L)) (c.top-i.ensures _ _ _ (last_node L)))

pub put_link-requires-clause-a_in_bounds : goal.put_link-requires-clause-a_in_bounds
put_link-requires-clause-a_in_bounds c = in_path c.requires.3

pub returns-then-y-i : goal.returns-then-y-i
returns-then-y-i c =
    λ P v above O.
    let L = last_of O c.link_at-x.ensures in
    let H = c.top-i.ensures P _ _ (last_node L) in
    let T = c.uncommit_all.ensures P _ _ _ (last_committed L) in
    back O (none_left O (c.dlink-y.ensures.value P _ _ _ _ (again_list O L T)) H c.if-y-i.true) (c.uncover.ensures P _ _ _ (last_covered L T H)) c.put_link.ensures

pub put_link-requires-2-clause-a_in_bounds : goal.put_link-requires-2-clause-a_in_bounds
put_link-requires-2-clause-a_in_bounds c = in_path c.requires.3

pub commit_all-requires : goal.commit_all-requires
commit_all-requires c =
    let O = c.requires.3 in
    let L = last_of O c.link_at-x.ensures in
    let T = c.uncommit_all.ensures _ _ _ _ (last_committed L) in
    let N = again O (c.dlink-y.ensures.value _ _ _ _ _ (again_list O L T)) (c.top-i.ensures _ _ _ (last_node L)) c.if-y-i.false in
    (_, _, _, again_commit O T N)

pub returns : goal.returns
returns c =
    λ P v above O.
    let L = last_of O c.link_at-x.ensures in
    let T = c.uncommit_all.ensures P _ _ _ (last_committed L) in
    let N = again O (c.dlink-y.ensures.value P _ _ _ _ (again_list O L T)) (c.top-i.ensures P _ _ (last_node L)) c.if-y-i.false in
    onward O T N (c.commit_all.ensures P _ _ (again_commit O T N)) c.put_link-2.ensures

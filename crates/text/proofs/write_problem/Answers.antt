use Rattle.std.proofs.Common.{refl, arith}
use Rattle.text.proofs.Outcomes.{long3, heads_are}
use Rattle.text.proofs.Putting.{rest_long}
use Rattle.text.proofs.write_problem.Goals as goal

pub slice_bounds-write_options-count : goal.slice_bounds-write_options-count
slice_bounds-write_options-count c =
    let l = long3 c.args.words.now _ _ _ c.put_link.ensures c.put_link-2.ensures c.put_link-3.ensures in
    omega (arith, c.requires.enough)

pub slice_bounds-write_options-start : goal.slice_bounds-write_options-start
slice_bounds-write_options-start c = slice_bounds-write_options-count c

pub write_options-requires : goal.write_options-requires
write_options-requires c =
    let l = long3 c.args.words.now _ _ _ c.put_link.ensures c.put_link-2.ensures c.put_link-3.ensures in
    omega (arith, c.requires.enough, rest_long c.put_link-3.new.t 3)

pub returns : goal.returns
returns c =
    heads_are c.args.names.now c.args.lines refl c.count.ensures.value c.requires.options_are c.args.words.now
    c.requires.enough c.put_link.ensures c.put_link-2.ensures c.put_link-3.ensures c.write_options.ensures

use Rattle.std.proofs.Common.{ap, length, arith}
use Rattle.rules.specs.Text.{tokens}
use Rattle.text.specs.Names.{known}
use Rattle.text.proofs.Putting.{put_first, rest_long, set_long, option_is}
use Rattle.text.proofs.options.write_option.Goals as goal

pub put_link-requires-clause-a_in_bounds : goal.put_link-requires-clause-a_in_bounds
put_link-requires-clause-a_in_bounds c =
    let h = ap length (option_is (known c.args.names.now) (tokens c.args.line.now) c.count.ensures.value) in
    omega (arith, c.requires.line_in_bounds)

pub slice_bounds-write_entries-count : goal.slice_bounds-write_entries-count
slice_bounds-write_entries-count c =
    let h = ap length (option_is (known c.args.names.now) (tokens c.args.line.now) c.count.ensures.value) in
    omega (arith, c.requires.line_in_bounds, set_long c.args.words.now _ c.put_link.ensures)

pub slice_bounds-write_entries-start : goal.slice_bounds-write_entries-start
slice_bounds-write_entries-start c = slice_bounds-write_entries-count c

pub overflow_add-result : goal.overflow_add-result
overflow_add-result c =
    let h = ap length (option_is (known c.args.names.now) (tokens c.args.line.now) c.count.ensures.value) in
    omega (arith, c.requires.line_in_bounds, c.write_entries.ensures.value)

pub write_entries-requires : goal.write_entries-requires
write_entries-requires c =
    let h = ap length (option_is (known c.args.names.now) (tokens c.args.line.now) c.count.ensures.value) in
    let l = set_long c.args.words.now _ c.put_link.ensures in
    omega (arith, c.requires.line_in_bounds, rest_long c.put_link.new.t 1)

pub returns-clause-value : goal.returns-clause-value
returns-clause-value c =
    let h = ap length (option_is (known c.args.names.now) (tokens c.args.line.now) c.count.ensures.value) in
    omega (arith, c.write_entries.ensures.value)

pub returns-clause-words_after : goal.returns-clause-words_after
returns-clause-words_after c =
    put_first c.args.words.now (option_is (known c.args.names.now) (tokens c.args.line.now) c.count.ensures.value)
    c.requires.line_in_bounds c.put_link.ensures c.write_entries.ensures.words_after

use mathlib.Core.Path.{sym, ◌∙◌}
use native.Mathlib.Omega.{arith}
use lib.ListN.{length-set, length-take, length-drop}
use Rattle.decimal.proofs.WriteLaws.{length_lent, holds, fails, wrote_natural, wrote_negative}
use Rattle.decimal.proofs.write_word.Goals as goal

pub link_at-requires : goal.link_at-requires
link_at-requires c = record { a_in_bounds = c.requires.at_in_bounds; natural = holds (sym c.is_natural.ensures ∙ c.if-is_natural.true) }

pub returns-then-is_natural : goal.returns-then-is_natural
returns-then-is_natural c = wrote_natural c.link_at.ensures.word_is c.link_at.ensures.small c.write_unsigned.ensures

pub option_at-under-requires : goal.option_at-under-requires
option_at-under-requires c = record { a_in_bounds = c.requires.at_in_bounds; t = fails (sym c.is_natural.ensures ∙ c.if-is_natural.false) }

pub slice_bounds-write_unsigned-count : goal.slice_bounds-write_unsigned-count
slice_bounds-write_unsigned-count c = rw length-set (omega (arith, c.requires.in_bounds))

pub slice_bounds-write_unsigned-start : goal.slice_bounds-write_unsigned-start
slice_bounds-write_unsigned-start c = rw length-set (omega (arith, c.requires.in_bounds))

pub write_unsigned-requires-2 : goal.write_unsigned-requires-2
write_unsigned-requires-2 c = simp (length-take, length-drop, length-set) (omega (arith, c.requires.in_bounds))

pub shape_of-out : goal.shape_of-out
shape_of-out c = length_lent c.args.out.now c.write_unsigned-2.new.out c.write_unsigned-2.auto.out

pub returns : goal.returns
returns c =
    wrote_negative c.args.out.now c.write_unsigned-2.new.out c.requires.in_bounds c.option_at-under.ensures.word_is c.option_at-under.ensures.small c.write_unsigned-2.ensures

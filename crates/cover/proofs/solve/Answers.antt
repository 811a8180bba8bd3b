use mathlib.Core.Path.{sym, ◌∙◌}
use native.Mathlib.Omega.{arith}
use lib.IntN.{pos}
use lib.Seq.{length-take-le}
use Rattle.problem.specs.Measured.{table_bounds}
use Rattle.cover.proofs.Showing.{take_zeros}
use Rattle.cover.proofs.solve.Goals as goal

pub slice_bounds-show-end : goal.slice_bounds-show-end
slice_bounds-show-end c =
    sym (length-take-le _ _ (omega (
      arith,
      c.table_words-words.ensures,
      (table_bounds c.requires.accepted.bounds).0,
    )))

pub slice_bounds-show-end-2 : goal.slice_bounds-show-end-2
slice_bounds-show-end-2 c =
    sym (length-take-le _ _ (omega (arith, c.requires.accepted.bounds.few_items)))

pub slice_bounds-show-end-3 : goal.slice_bounds-show-end-3
slice_bounds-show-end-3 c =
    sym (length-take-le _ _ (omega (
      arith,
      c.requires.accepted.bounds.few_items,
    )))

pub show-requires : goal.show-requires
show-requires c = record {
  text_value = c.requires.text_value;
  accepted = c.requires.accepted;
  parts = record {
    table_long = length-take-le _ _ (omega (arith, c.table_words-words.ensures, (table_bounds c.requires.accepted.bounds).0))
        ∙ c.table_words-words.ensures;
    path_is = take_zeros (pos 0) 64 c.args.s.np (omega (arith, c.requires.accepted.bounds.few_items));
    profile_is = take_zeros 0 64 c.args.s.np (omega (arith, c.requires.accepted.bounds.few_items));
  };
  sent_value = c.requires.sent_value;
}

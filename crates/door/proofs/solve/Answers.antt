use mathlib.Core.Path.{◌∙◌}
use native.Mathlib.Omega.{arith}
use lib.IntN.{pos}
use lib.Seq.{length-take-le}
use Rattle.problem.specs.Measured.{table_bounds}
use Rattle.door.proofs.Outcomes.{take_zeros}
use Rattle.door.proofs.solve.Goals as goal

pub solve_parts-requires-clause-parts : goal.solve_parts-requires-clause-parts
solve_parts-requires-clause-parts c = record {
  table_long = length-take-le _ _ (omega (arith, c.table_words-words.ensures, (table_bounds c.requires.bounds).0)) ∙ c.table_words-words.ensures;
  path_is = take_zeros (pos 0) 64 c.args.s.np (omega (arith, c.requires.bounds.few_items));
  profile_is = take_zeros 0 64 c.args.s.np (omega (arith, c.requires.bounds.few_items));
}

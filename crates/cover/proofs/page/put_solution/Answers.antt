use native.Mathlib.Omega.{arith}
use Rattle.cover.proofs.Filling.{numbers_natural, line_told}
use Rattle.cover.proofs.page.put_solution.Goals as goal

pub put_line-requires : goal.put_line-requires
put_line-requires c = record {
  by_index = numbers_natural c.requires.some_on.2 _ (c.write_found.ensures _ _ c.requires.some_on.2);
  count_in_bounds = omega (arith, c.requires.level_bound, c.write_found.auto.found);
  room = omega (arith, c.requires.level_bound, c.requires.room);
}

pub returns : goal.returns
returns c = λ P s O. line_told O _ (c.write_found.ensures P s O) c.args.out.now.items c.put_line.ensures

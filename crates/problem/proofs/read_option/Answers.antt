use mathlib.Core.Path.{sym}
use native.Mathlib.Omega.{arith}
use Rattle.problem.specs.CutLaws.{count_room}
use Rattle.problem.proofs.read_option.Goals as goal

pub overflow_add-at : goal.overflow_add-at
overflow_add-at c = omega (arith, count_room c.args.ws.now c.args.at c.in_ok-k.k (sym c.in_ok-k.ensures))

pub keeps-requires : goal.keeps-requires
keeps-requires c = count_room c.args.ws.now c.args.at c.in_ok-k.k (sym c.in_ok-k.ensures)

use mathlib.Core.Path.{ap}
use native.Mathlib.Omega.{arith}
use Rattle.rules.specs.declared.State.{State}
use Rattle.rules.specs.Order.{pick}
use Rattle.rules.specs.Walk.{resume}
use Rattle.rules.specs.Calls.{started}
use Rattle.search.specs.Arrived.{solved, on_level}
use Rattle.search.specs.Depth.{level_within}
use Rattle.calls.proofs.run.Goals as goal

pub write_found-requires : goal.write_found-requires
write_found-requires c = let w = resume c.requires.some_begun.0 (pick c.requires.some_begun.0) c.args.allowance c.args.state.phase c.requires.some_begun.1 in
    let R = c.go-answer.ensures c.requires.some_begun.0 c.requires.some_begun.1 c.requires.some_begun.2 in
    let d = ap (λ (x : State). x.depth) (solved w (started c.args.state) R.answer c.in-Solution.is).1 in
    record { some_on = (c.requires.some_begun.0, w.at, on_level R.on d); depth_in_bounds = omega (arith, d, level_within R.on, c.go-answer.auto.path, c.requires.path_in_bounds) }

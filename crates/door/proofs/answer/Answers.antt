use native.Mathlib.Omega.{arith}
use Rattle.rules.specs.Problem.{cut, meant}
use Rattle.door.proofs.Outcomes.{stops, goes, answer_refused, answer_walked}
use Rattle.door.proofs.answer.Goals as goal

pub solve-requires : goal.solve-requires
solve-requires c =
    (goes _ c.args.out.now c.door.ensures c.lists_of-lists.ensures _ c.accept.ensures (omega arith) c.in-Ok.is).1

pub returns-in-Err : goal.returns-in-Err
returns-in-Err c =
    let x = stops c.args.problem.now c.args.out.now c.door.ensures c.lists_of-lists.ensures _ c.accept.ensures
    (omega arith) c.in-Err.is in answer_refused (meant (cut c.args.problem.now)) c.args.number c.args.allowance
    c.args.out.now x.0 x.1

pub returns-in-Ok : goal.returns-in-Ok
returns-in-Ok c =
    answer_walked (meant (cut c.args.problem.now)) c.args.number c.args.allowance c.args.out.now
    (goes c.args.problem.now c.args.out.now c.door.ensures c.lists_of-lists.ensures _ c.accept.ensures (omega arith)
    c.in-Ok.is).0 c.solve.ensures

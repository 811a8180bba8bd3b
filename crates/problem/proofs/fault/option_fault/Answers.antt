use mathlib.Core.Path.{refl}
use native.Mathlib.Omega.{arith}
use Rattle.std.proofs.lemmas.Result.{err_from_is_err_and}
use Rattle.problem.proofs.FaultWalk.{passing_stop, passing_end}
use Rattle.problem.proofs.fault.option_fault.Goals as goal

pub returns-in_err-entry_fault-clause-value : goal.returns-in_err-entry_fault-clause-value
returns-in_err-entry_fault-clause-value c =
    let p = err_from_is_err_and c.from_residual.result c.from_residual.ensures.1 in
    rw (p.1, p.2)
    (passing_stop c.args.ws.now c.args.p c.args.k c.args.np c.args.n c.args.stamp c.loop-i.invariant (omega arith)
    c.requires.k_in_bounds
    (c.in_err-entry_fault.ensures c.loop-i.invariant.seen c.loop-i.invariant.marked))

pub returns-clause-value : goal.returns-clause-value
returns-clause-value c =
    rw (passing_end c.args.ws.now c.args.p c.args.k c.args.np c.args.n c.args.stamp c.loop-i.invariant
    (omega arith)) refl

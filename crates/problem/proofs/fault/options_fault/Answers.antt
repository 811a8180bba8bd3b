use Rattle.std.proofs.lemmas.Result.{err_from_is_err_and}
use Rattle.problem.proofs.FaultWalk.{searching_stop, searching_turn}
use Rattle.problem.proofs.fault.options_fault.Goals as goal

pub returns-in_err-option_fault : goal.returns-in_err-option_fault
returns-in_err-option_fault c =
    let p = err_from_is_err_and c.from_residual.result c.from_residual.ensures.1 in
    rw (p.1, p.2)
    (searching_stop c.args.ws.now c.args.m c.args.np c.args.n c.loop.invariant c.loop-test.true
    c.link_at-k.ensures.word_is
    c.in_err-option_fault.ensures.value)

pub loop-preserved : goal.loop-preserved
loop-preserved c =
    searching_turn c.args.ws.now c.args.m c.args.np c.args.n c.loop.invariant c.loop-test.true
    c.link_at-k.ensures.word_is
    c.in_ok-option_fault.ensures.value c.option_fault.ensures.older_2

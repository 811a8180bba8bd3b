use native.Mathlib.Omega.{arith}
use borrow.Author.Rules.{rules}
use Rattle.timed.proofs.Called.{call_all, call_ends, call_refused, call_turns}
use Rattle.timed.proofs.timed_next.Goals as goal

pub overflow_add-solutions : goal.overflow_add-solutions
overflow_add-solutions c = omega arith

pub loop-preserved : goal.loop-preserved
loop-preserved c = (
  omega arith,
  call_turns c.loop.invariant.1 (omega arith) c.next-answer.ensures c.in-Ok-Solution.is
      (rw c.in-Ok-Solution.is at c.in-Ok-Solution.field-0-is),
)

pub returns-after-loop : goal.returns-after-loop
returns-after-loop c = call_all c.loop.invariant.1 (omega arith)

pub returns-in_default : goal.returns-in_default
returns-in_default c =
    call_ends c.loop.invariant.1 (omega arith) c.next-answer.ensures c.in_default.is (λ at v e. search rules)

pub returns-in_default-2 : goal.returns-in_default-2
returns-in_default-2 c = call_refused c.loop.invariant.1 (omega arith) c.next-answer.ensures c.in_default.is

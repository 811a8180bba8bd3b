use mathlib.Core.Path.{sym, ◌∙◌}
use native.Mathlib.Omega.{arith}
use Rattle.links.proofs.Found.{along_test, along_node, along_spacer, spacer_number}
use Rattle.links.proofs.c.option_of.Goals as goal

pub has_top-requires : goal.has_top-requires
has_top-requires c = along_test c.requires.3 (c.loop-q.invariant _ _ _ c.requires.3)

pub overflow_add-q : goal.overflow_add-q
overflow_add-q c = omega (arith, along_test c.requires.3 (c.loop-q.invariant _ _ _ c.requires.3))

pub loop-q-smaller : goal.loop-q-smaller
loop-q-smaller c = omega (arith, along_test c.requires.3 (c.loop-q.invariant _ _ _ c.requires.3))

pub loop-q-preserved : goal.loop-q-preserved
loop-q-preserved c = λ P held c' N. along_node N (c.loop-q.invariant P held c' N) (sym c.has_top.ensures ∙ c.loop-q-test.true)

pub returns-clause-value : goal.returns-clause-value
returns-clause-value c =
    λ P held c' N.
    spacer_number c.args.t.now _ (along_spacer N (c.loop-q.invariant P held c' N) (sym c.has_top.ensures
    ∙ c.loop-q-test.false))
    c.number_of.ensures

use native.Mathlib.Omega.{arith}
use Rattle.std.proofs.lemmas.Result.{err_from_is_err_and}
use Rattle.calls.proofs.Pointing.{accept_is, refused_first, words_laid, then_pointed}
use Rattle.calls.proofs.test.test.Goals as goal

pub returns-in_err-s : goal.returns-in_err-s
returns-in_err-s c =
    let p = err_from_is_err_and c.from_residual.result c.from_residual.ensures.1 in
    rw (p.1, p.2) (refused_first _ _ _ _ _
    (accept_is _ _ _ _ _ c.library.ensures c.min-tables.ensures c.min-lists.ensures _ c.in_err-s.ensures (omega arith)))

pub test_point_of-requires : goal.test_point_of-requires
test_point_of-requires c =
    let (laid, room) = words_laid _ _ _ _ _
    (accept_is _ _ _ _ _ c.library.ensures c.min-tables.ensures c.min-lists.ensures _ c.in_ok-s.ensures (omega arith))
    in
    record { laid = laid; s_in_bounds = room }

pub returns : goal.returns
returns c =
    then_pointed _ _ _ _ _
    (accept_is _ _ _ _ _ c.library.ensures c.min-tables.ensures c.min-lists.ensures _ c.in_ok-s.ensures (omega arith))
    c.test_point_of.ensures

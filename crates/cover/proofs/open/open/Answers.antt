use mathlib.Core.Bool.{true}
use mathlib.Core.Path.{sym}
use native.Mathlib.Omega.{arith}
use lib.Seq.{length-take-le}
use Rattle.knuth.specs.Limits.{long_3}
use Rattle.cover.proofs.Opening.{count_within, opens_refused, opens_to, opens_faulty, opens_long, errs}
use Rattle.cover.proofs.open.open.Goals as goal

pub slice_bounds-judge-end : goal.slice_bounds-judge-end
slice_bounds-judge-end c =
    count_within c.args.text.now c.args.words.now c.read.ensures c.in-Ok.is

pub slice_bounds-judge-end-in-Ok : goal.slice_bounds-judge-end-in-Ok
slice_bounds-judge-end-in-Ok c =
    sym (length-take-le _ _ (count_within c.args.text.now c.args.words.now c.read.ensures c.in-Ok.is))

pub returns-in-Ok-judge : goal.returns-in-Ok-judge
returns-in-Ok-judge c =
    opens_to c.args.text.now c.args.words.now c.read.ensures c.in-Ok.is c.judge.ensures c.in-Ok-judge.is

pub returns-in-Err : goal.returns-in-Err
returns-in-Err c =
    opens_refused c.args.text.now c.args.words.now c.read.ensures c.in-Ok.is c.judge.ensures c.in-Err.is

pub returns-in-Err-Faulty : goal.returns-in-Err-Faulty
returns-in-Err-Faulty c =
    opens_faulty c.args.text.now c.args.words.now c.read.ensures (errs c.in-Err-Faulty.is c.in-Err-Faulty.field-0-is)

pub returns-in-Err-Refused : goal.returns-in-Err-Refused
returns-in-Err-Refused c =
    opens_long c.args.text.now c.args.words.now c.read.ensures
    (λ e new u h. long_3 true c.args.text.now e new u (omega (arith, c.requires))) (errs c.in-Err-Refused.is c.in-Err-Refused.field-0-is)

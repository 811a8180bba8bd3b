use mathlib.Core.Path.{ap, ◌∙◌}
use mathlib.Core.List.{List, ◌++◌}
use lib.ListN.{drop}
use Prim.Native.Nat.{ℕ}
use Rattle.decimal.proofs.WriteLaws.{wrote_as}
use Rattle.decimal.proofs.write_unsigned.Goals as goal

pub returns : goal.returns
returns c =
    let d = c.decimal-count in
    wrote_as d.ensures.len c.ranges.value.fits
    (ap (λ (s : List ℕ). s ++ drop d.result c.args.out.now) (c.copy_from_slice.ensures.after ∙ d.ensures.digits))

use mathlib.Core.Path.{sym, ◌∙◌}
use Rattle.search.proofs.Testing.{bad_depth, bad_zeros, bad_path, good_path}
use Rattle.search.proofs.point.path_point.Goals as goal
use Rattle.search.proofs.point.path_point.Goals.{then-not-depth_fits-via-then-not-depth_fits, then-not-depth_fits-via-else-not-depth_fits+then-not-zeros_from}

pub returns-then-not-depth_fits : goal.returns-then-not-depth_fits
returns-then-not-depth_fits c =
    λ P A h.
    elim c.then-not-depth_fits.branch [
      | then-not-depth_fits-via-then-not-depth_fits w ↦ bad_depth P c.args.st c.args.path.now h A
          (sym c.depth_fits.ensures ∙ w.if-not-depth_fits.true)
      | then-not-depth_fits-via-else-not-depth_fits+then-not-zeros_from w ↦ bad_zeros P c.args.st c.args.path.now h A
          (sym w.zeros_from.ensures ∙ w.if-not-zeros_from.true)
    ]

pub returns-then-level-d : goal.returns-then-level-d
returns-then-level-d c =
    λ P A h.
    let R = c.replay-level.ensures P A in
    good_path P c.args.st c.args.path.now h (sym c.depth_fits.ensures ∙ c.if-not-depth_fits.false)
    (sym c.zeros_from.ensures ∙ c.if-not-zeros_from.false)
    R c.if-level-d.true (c.choose.ensures P _ R.at) c.phase_fits.ensures

pub returns-else-level-d : goal.returns-else-level-d
returns-else-level-d c =
    λ P A h.
    bad_path P c.args.st c.args.path.now h (sym c.depth_fits.ensures ∙ c.if-not-depth_fits.false)
    (sym c.zeros_from.ensures ∙ c.if-not-zeros_from.false)
    (c.replay-level.ensures P A) c.if-level-d.false

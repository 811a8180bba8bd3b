use mathlib.Core.Path.{◌∙◌}
use Rattle.rules.specs.Problem.{cut, meant}
use Rattle.calls.proofs.Points.{testing}
use Rattle.calls.proofs.test.fresh_point.Goals as goal

pub test_point-requires : goal.test_point-requires
test_point-requires c =
    (meant (cut c.args.problem.now), testing _ _ _ _ _ _ c.requires c.init_links.auto.t c.init_links.ensures)

pub returns : goal.returns
returns c = record { value = c.test_point.ensures.value (meant (cut c.args.problem.now)) (testing _ _ _ _ _ _ c.requires c.init_links.auto.t c.init_links.ensures); spare_after = c.test_point.ensures.spare_unchanged ∙ c.init_links.ensures }

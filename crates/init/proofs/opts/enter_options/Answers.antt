use mathlib.Core.Path.{sym, ◌∙◌}
use Rattle.problem.specs.Sums.{met_of}
use Rattle.init.proofs.OptionLaws.{entering_start, entering_appends, entering_turn}
use Rattle.init.proofs.opts.enter_options.Goals as goal

pub loop-number-init : goal.loop-number-init
loop-number-init c = entering_start c.requires.enters c.requires.m_in_bounds c.requires.alike

pub append_option-last-requires : goal.append_option-last-requires
append_option-last-requires c =
    let m = met_of _ _ (sym c.unwrap-k.ensures ∙ c.read_option.ensures) in (
      _,
      _,
      entering_appends c.requires.enters c.requires.m_in_bounds c.loop-number.invariant c.loop-number-test.true
          c.unwrap-k.result.0 m.0 c.unwrap-k.result.1 m.1,
    )

pub loop-number-preserved : goal.loop-number-preserved
loop-number-preserved c =
    let m = met_of _ _ (sym c.unwrap-k.ensures ∙ c.read_option.ensures) in
    entering_turn c.requires.enters c.requires.m_in_bounds c.loop-number.invariant c.loop-number-test.true
    c.unwrap-k.result.0 m.0
    c.append_option-last.new.t c.append_option-last.result c.append_option-last.auto.t
    (c.append_option-last.ensures _ _ (entering_appends c.requires.enters c.requires.m_in_bounds
    c.loop-number.invariant c.loop-number-test.true c.unwrap-k.result.0 m.0 c.unwrap-k.result.1 m.1))

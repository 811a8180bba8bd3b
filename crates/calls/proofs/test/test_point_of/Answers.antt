use Rattle.std.specs.Prelude.{◌≡◌, take}
use mathlib.Core.Path.{sym, ◌∙◌}
use Rattle.rules.specs.Lists.{got}
use Rattle.rules.specs.Problem.{cut}
use Rattle.rules.specs.Calls.{counts_fit, lent_point}
use Rattle.calls.proofs.Pointing.{counts_are, point_is, fresh_over, at_11, at_10, at_0}
use Rattle.calls.proofs.test.test_point_of.Goals.{After-counts_fit, After-fresh_point}
use Rattle.calls.proofs.test.test_point_of.Goals as goal

counts : (q : After-counts_fit)
    → q.counts_fit.result ≡ counts_fit q.args.state (take (cut q.args.problem.now).np q.args.profile.now)
counts q =
    counts_are _ q.args.s q.requires.laid.measured q.args.state q.args.profile.now _ q.min-front.ensures
    q.counts_fit.ensures

at_point : (q : After-fresh_point)
    → q.fresh_point.result ≡ got (lent_point (cut q.args.problem.now) q.args.state q.args.table.now q.args.path.now)
at_point q =
    point_is _ q.args.s q.requires.laid.measured q.args.state q.args.table.now q.args.path.now _
    q.table_words-words.ensures q.fresh_point.ensures.value

pub returns-then-not-counts_fit : goal.returns-then-not-counts_fit
returns-then-not-counts_fit c =
    let g = goal.at.returns-then-not-counts_fit c in
    at_11 _ _ _ _ _ c.args.s c.args.state (sym (counts g.After-counts_fit) ∙ c.if-not-counts_fit.true)

pub returns-then-not-fresh_point : goal.returns-then-not-fresh_point
returns-then-not-fresh_point c =
    let g = goal.at.returns-then-not-fresh_point c in
    let laid = c.requires.laid in
    at_10 _ _ _ _ _ c.args.s c.args.state (sym (counts g.After-counts_fit) ∙ c.if-not-counts_fit.false)
    (fresh_over _ c.args.s laid.measured laid.faultless c.args.spare.now _ _ c.table_words-words.ensures
    c.fresh_point.ensures.spare_after)
    (sym (at_point g.After-fresh_point) ∙ c.if-not-fresh_point.true)

pub returns : goal.returns
returns c =
    let g = goal.at.returns c in
    let laid = c.requires.laid in
    at_0 _ _ _ _ _ c.args.s c.args.state (sym (counts g.After-counts_fit) ∙ c.if-not-counts_fit.false)
    (fresh_over _ c.args.s laid.measured laid.faultless c.args.spare.now _ _ c.table_words-words.ensures
    c.fresh_point.ensures.spare_after)
    (sym (at_point g.After-fresh_point) ∙ c.if-not-fresh_point.false)

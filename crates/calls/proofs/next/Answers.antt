use mathlib.Core.Path.{◌≡◌, refl, sym, ap, ◌∙◌}
use Prim.Native.Nat.{ℕ}
use native.Mathlib.Omega.{arith}
use borrow.Author.Rules.{rules}
use lib.ListN.{take}
use Rattle.std.proofs.lemmas.Result.{err_from_is_err_and}
use Rattle.rules.specs.Lists.{over}
use Rattle.rules.specs.Problem.{Problem, cut, meant}
use Rattle.rules.specs.Order.{pick}
use Rattle.rules.specs.Walk.{Walk, resume}
use Rattle.rules.specs.Calls.{profile_from, NextLent}
use Rattle.calls.proofs.Entry.{with_state, mapped, with_ok, with_err, stops, goes}
use Rattle.calls.proofs.Outcomes.{next_refused, next_ran}
use Rattle.search.specs.Meant.{np_meant}
use Rattle.calls.proofs.Points.{begun, fronts}
use Rattle.calls.proofs.next.Goals.{After-map_err}
use Rattle.calls.proofs.next.Goals as goal

abbrev lent : After-map_err → NextLent
lent q = record {
  table = q.args.table.now;
  spare = q.args.spare.now;
  path = q.args.path.now;
  profile = q.args.profile.now;
  found = q.args.found.now;
}

-- the tests, with the state where they refuse
told : (q : After-map_err) → q.map_err.result ≡ with_state q.args.state q.test.result
told q = mapped _ _ q.map_err.ensures.cases (λ k r e. search rules)

pub returns-in_err-s : goal.returns-in_err-s
returns-in_err-s c =
    let q = (goal.at.returns-in_err-s c).After-map_err in
    let p = err_from_is_err_and c.from_residual.result c.from_residual.ensures.1 in
    let (k, u, w) = with_err _ _ (sym c.in_err-s.was ∙ told q) in
    let X = rw q.min-more.ensures at q.test.ensures in
    let (x, y) = stops X u in
    rw (p.1, p.2, w) (next_refused _ (lent q) _ q.args.allowance k _ x y X.spare_is)

pub run_fronts-requires : goal.run_fronts-requires
run_fronts-requires c =
    let q = (goal.at.run_fronts-requires c).After-map_err in
    let g = goes q.test.ensures (with_ok _ _ (sym c.in_ok-s.was ∙ told q)) in
    fronts c.args.problem.now _ _ _ c.args.profile.now c.args.found.now c.args.state g.is_laid (omega (arith, g.lists)) (omega (arith, g.lists)) g.fit g.at

pub returns : goal.returns
returns c =
    let q = (goal.at.returns c).After-map_err in
    let X = rw q.min-more.ensures at q.test.ensures in
    let g = goes X (with_ok _ _ (sym c.in_ok-s.was ∙ told q)) in
    let L = g.is_laid in
    let P : Problem = meant (cut c.args.problem.now) in
    let w : Walk = resume P (pick P) c.args.allowance c.args.state.phase g.v in
    let W = c.run_fronts.ensures P g.v (begun _ _ L.measured L.faultless L.small.0 c.args.state _ _ L.path_room g.at) in
    next_ran c.args.problem.now (lent q) c.args.state c.args.allowance g.v _ _ _ _ _ _ g.none g.at w refl
    W.answer W.table_is X.spare_is W.path_is
    (W.profile_is ∙ ap (λ (k : ℕ). over (profile_from 0 w.visited (take k c.args.profile.now)) c.args.profile.now) (sym (np_meant _ _ L.measured))) W.found_is

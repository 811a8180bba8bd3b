use mathlib.Core.Path.{◌≡◌, sym, ap, ◌∙◌}
use mathlib.Core.List.{[]}
use Prim.Native.Nat.{ℕ}
use borrow.Author.Rules.{rules}
use Rattle.std.proofs.lemmas.Result.{err_from_is_err_and}
use Rattle.rules.specs.Lists.{over}
use Rattle.rules.specs.Calls.{GiveUpLent, path_words}
use Rattle.search.specs.Meant.{np_meant}
use Rattle.calls.proofs.Entry.{with_state, mapped, with_ok, with_err, stops, goes}
use Rattle.calls.proofs.Outcomes.{give_up_refused, give_up_done}
use Rattle.calls.proofs.give_up.Goals.{After-map_err}
use Rattle.calls.proofs.give_up.Goals as goal

abbrev lent : After-map_err → GiveUpLent
lent q = record { table = q.args.table.now; spare = q.args.spare.now; path = q.args.path.now }

-- the tests, with the state where they refuse
told : (q : After-map_err) → q.map_err.result ≡ with_state q.args.state q.test.result
told q = mapped _ _ q.map_err.ensures.cases (λ k r e. search rules)

pub returns-in_err-s : goal.returns-in_err-s
returns-in_err-s c =
    let q = (goal.at.returns-in_err-s c).After-map_err in
    let p = err_from_is_err_and c.from_residual.result c.from_residual.ensures.1 in
    let (k, u, w) = with_err _ _ (sym c.in_err-s.was ∙ told q) in
    let (x, y) = stops q.test.ensures u in
    rw (p.1, p.2, w) (give_up_refused _ (lent q) _ k _ x y q.test.ensures.spare_is)

pub lay_out-requires : goal.lay_out-requires
lay_out-requires c =
    let q = (goal.at.lay_out-requires c).After-map_err in
    (goes q.test.ensures (with_ok _ _ (sym c.in_ok-s.was ∙ told q))).is_laid

pub returns : goal.returns
returns c =
    let q = (goal.at.returns c).After-map_err in
    let g = goes q.test.ensures (with_ok _ _ (sym c.in_ok-s.was ∙ told q)) in
    let n = sym (np_meant _ _ g.is_laid.measured) in
    rw c.ready.ensures
    (give_up_done _ (lent q) _ _ _ _ g.none c.lay_out.ensures.table_after q.test.ensures.spare_is
    (c.lay_out.ensures.path_after ∙ ap (λ (k : ℕ). over (path_words k []) c.args.path.now) n))

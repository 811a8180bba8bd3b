use mathlib.Core.Path.{◌≡◌, sym, ap, ◌∙◌}
use mathlib.Core.List.{[]}
use Prim.Native.Nat.{ℕ, ◌≤◌}
use native.Mathlib.Omega.{arith}
use borrow.Author.Rules.{rules}
use lib.ListN.{length, replicate}
use lib.Seq.{length-take-le}
use Rattle.std.specs.Prelude.{Ok}
use Rattle.std.proofs.lemmas.Result.{err_from_is_err_and}
use Rattle.rules.specs.declared.Sizes.{Sizes}
use Rattle.rules.specs.declared.State.{State}
use Rattle.rules.specs.Lists.{over}
use Rattle.rules.specs.Problem.{library_limits, problem_refusal}
use Rattle.rules.specs.Calls.{blank, SetUpLent, set_up_room, path_words}
use Rattle.calls.specs.Tested.{Laid}
use Rattle.search.specs.Meant.{np_meant}
use Rattle.calls.proofs.Entry.{with_state, mapped, with_ok, with_err, set_up_stops, set_up_goes}
use Rattle.calls.proofs.Outcomes.{over_filled, set_up_refused, set_up_done}
use Rattle.calls.proofs.set_up.Goals.{After-map_err}
use Rattle.calls.proofs.set_up.Goals as goal

abbrev lent : After-map_err → SetUpLent
lent q = record { table = q.args.table.now; path = q.args.path.now; profile = q.args.profile.now }

-- the test of the problem, with the blank state where it refuses
told : (q : After-map_err) → q.map_err.result ≡ with_state blank q.accept.result
told q =
    mapped _ _ q.map_err.ensures.cases (λ k r e. search rules)
    ∙ ap (λ (st : State). with_state st q.accept.result) q.ready-state.ensures

goes : (q : After-map_err) {s : Sizes} → q.map_err.result ≡ Ok s
    → (problem_refusal library_limits 1 (set_up_room (lent q)) q.args.problem.now ≡ 0)
    × Laid q.args.problem.now s q.args.table.now q.args.path.now × (s.np ≤ length q.args.profile.now)
goes q e =
    set_up_goes q.args.problem.now (lent q) q.library.ensures q.min-lists.ensures _ q.accept.ensures (omega arith)
    (with_ok _ _ (sym e ∙ told q))

pub returns-in_err-s : goal.returns-in_err-s
returns-in_err-s c =
    let q = (goal.at.returns-in_err-s c).After-map_err in
    let p = err_from_is_err_and c.from_residual.result c.from_residual.ensures.1 in
    let (k, u, w) = with_err _ _ (sym c.in_err-s.was ∙ told q) in
    let (x, y) = set_up_stops q.args.problem.now (lent q) q.library.ensures q.min-lists.ensures _ q.accept.ensures
    (omega arith) u in
    rw (p.1, p.2, w) (set_up_refused _ (lent q) k x y)

pub lay_out-requires : goal.lay_out-requires
lay_out-requires c = (goes (goal.at.lay_out-requires c).After-map_err c.in_ok-s.was).1

pub slice_bounds-fill-end : goal.slice_bounds-fill-end
slice_bounds-fill-end c = (goes (goal.at.slice_bounds-fill-end c).After-map_err c.in_ok-s.was).2

pub slice_bounds-fill-end-2 : goal.slice_bounds-fill-end-2
slice_bounds-fill-end-2 c =
    sym (length-take-le _ _ (goes (goal.at.slice_bounds-fill-end-2 c).After-map_err c.in_ok-s.was).2)

pub returns : goal.returns
returns c =
    let g = goes (goal.at.returns c).After-map_err c.in_ok-s.was in
    let n = sym (np_meant _ _ g.1.measured) in
    let profile = over_filled 0 c.args.profile.now c.fill.new.self (c.fill.ensures.after (λ y e. search rules)) g.2 in
    rw c.ready-state.ensures
    (set_up_done _ (lent (goal.at.returns c).After-map_err) _ _ _ g.0 c.lay_out.ensures.table_after
    (c.lay_out.ensures.path_after ∙ ap (λ (k : ℕ). over (path_words k []) c.args.path.now) n)
    (profile ∙ ap (λ (k : ℕ). over (replicate k 0) c.args.profile.now) n))

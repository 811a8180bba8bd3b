use mathlib.Core.List.{List}
use mathlib.Core.Path.{◌≡◌, sym, ◌∙◌}
use Prim.Native.Nat.{ℕ}
use native.Mathlib.Omega.{arith}
use Rattle.std.proofs.lemmas.Result.{err_from_is_err_and}
use Rattle.std.specs.Prelude.{Option}
use lib.IntN.{ℤ}
use lib.ListN.{drop}
use Rattle.rules.specs.Problem.{parts, cut_options}
use Rattle.rules.specs.Words.{word, nat}
use Rattle.problem.proofs.VerdictLaws.{cut_wrong, cut_many, cut_fits}
use Rattle.problem.specs.Measured.{countable}
use Rattle.problem.specs.Sums.{no_sums, total}
use Rattle.problem.specs.declared.Sums.{Sums}
use Rattle.problem.proofs.check.Goals as goal

-- what the options come to
came_to : (ws : List ℤ) {np m : ℕ} {r : Option Sums} → r ≡ total np (cut_options m (drop 3 ws)) no_sums
    → np ≡ nat (word ws 0) → m ≡ nat (word ws 2)
    → r ≡ total (nat (word ws 0)) (parts ws) no_sums
unfolding parts
came_to ws e p o = cc

pub returns-in_err-s-clause-value : goal.returns-in_err-s-clause-value
returns-in_err-s-clause-value c =
    let p = err_from_is_err_and c.from_residual-in_err-s.result c.from_residual-in_err-s.ensures.1 in
    let n = c.in_err-s.ensures.ok_part in
    let v = rw n at c.in_err-s.ensures.value in
    let k : 4 ≡ c.in_err-s.field-0.0 = cc in
    rw (p.1, p.2, ← k)
    (cut_wrong c.args.limits c.args.least c.args.problem.now c.in_ok-heads.ensures.1
    (sym n ∙ came_to c.args.problem.now c.count_options.ensures c.link_at-np.ensures.is c.link_at-options.ensures.is))

pub returns-then-limits-s-clause-value : goal.returns-then-limits-s-clause-value
returns-then-limits-s-clause-value c =
    cut_many c.args.limits c.args.least c.args.problem.now c.in_ok-heads.ensures.1 c.in_ok-s.s
    (sym c.in_ok-s.ensures.ok_part ∙ came_to c.args.problem.now c.count_options.ensures c.link_at-np.ensures.is
    c.link_at-options.ensures.is) c.if-limits-s.true

pub returns : goal.returns
returns c =
    let p = countable c.args.limits c.args.least c.args.problem.now _
    (cc (cut_fits c.args.limits c.args.least c.args.problem.now c.in_ok-heads.ensures.1 c.in_ok-s.s
    (sym c.in_ok-s.ensures.ok_part ∙ came_to c.args.problem.now c.count_options.ensures c.link_at-np.ensures.is
    c.link_at-options.ensures.is) (omega arith)))
    c.link_at-np.ensures.small c.link_at-ns.ensures.small c.link_at-options.ensures.small (omega arith)
    in
    record { value = p.0; s_bound = p.1 }

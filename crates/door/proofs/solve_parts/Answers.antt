use mathlib.Core.Path.{refl, sym, ap}
use mathlib.Core.List.{[]}
use Prim.Native.Nat.{◌+◌, ◌≤◌, ◌*◌}
use native.Mathlib.Omega.{arith}
use lib.Dec.{leb→le}
use lib.IntN.{pos}
use lib.ListN.{length, length-replicate}
use Rattle.rules.specs.declared.NextAnswer.{NextAnswer}
use Rattle.rules.specs.declared.Phase.TheVariants.{Ready}
use Rattle.rules.specs.Problem.{cut, meant}
use Rattle.rules.specs.Order.{pick}
use Rattle.rules.specs.Walk.{Walk}
use Rattle.rules.specs.Calls.{walk_said}
use Rattle.rules.specs.Door.{walk_to}
use Rattle.laws.specs.Lists.{cannot}
use Rattle.problem.specs.Measured.{table_bounds}
use Rattle.search.specs.Points.{On}
use Rattle.search.specs.Arrived.{whole_to, Arrived}
use Rattle.search.specs.Meant.{top_on, top_profile}
use Rattle.door.proofs.Outcomes.{on_depth, shallow, found_natural, ends_solved, ends_other}
use Rattle.door.proofs.solve_parts.Goals.{After-walk_to-arg-3-1, After-walk_to-answer, In-Solution}
use Rattle.door.proofs.solve_parts.Goals as goal

-- the search begins at the top
top : (q : After-walk_to-arg-3-1)
    → On (meant (cut q.args.problem.now)) (q.args.s.np + q.args.s.ns) [] q.init_links.new.t q.args.path.now 0
top q =
    top_on _ _ q.requires.accepted.measures q.requires.accepted.faultless (omega (arith, (table_bounds q.requires.accepted.bounds).0)) q.init_links.ensures q.requires.parts.path_is

abbrev walked : After-walk_to-answer → Walk
walked q = walk_to (meant (cut q.args.problem.now)) (pick (meant (cut q.args.problem.now))) q.args.number q.args.allowance Ready []

arrived : (q : After-walk_to-answer)
    → On (meant (cut q.args.problem.now)) (q.args.s.np + q.args.s.ns) [] q.init_links.new.t q.args.path.now 0
    → let P = meant (cut q.args.problem.now) in
    Arrived P (q.args.s.np + q.args.s.ns) (walked q) (whole_to P (pick P) q.args.number q.args.allowance Ready [])
    q.args.profile.now q.walk_to-answer.new.t q.walk_to-answer.new.path q.walk_to-answer.new.profile q.walk_to-answer.result
arrived q o = q.walk_to-answer.ensures (meant (cut q.args.problem.now)) o

-- at a solution
no_deeper : (q : In-Solution) → q.in-Solution.at.depth ≤ length q.walk_to-answer.new.path
    → q.in-Solution.at.depth ≤ q.args.s.np
no_deeper q h = omega (arith, q.walk_to-answer.auto.path, ap length q.requires.parts.path_is, length-replicate q.args.s.np (pos 0))

pub walk_to-answer-requires : goal.walk_to-answer-requires
walk_to-answer-requires c = record {
  profile = top_profile c.args.s.np c.requires.parts.path_is c.requires.parts.profile_is;
  on = (_, top (goal.at.walk_to-answer-requires c).After-walk_to-arg-3-1);
}

pub write_found-requires : goal.write_found-requires
write_found-requires c =
    let g = goal.at.write_found-requires c in
    let A = arrived g.After-walk_to-answer (top g.After-walk_to-arg-3-1) in
    let d = no_deeper g.In-Solution (shallow A c.in-Solution.is refl) in
    record {
      some_on = (_, _, on_depth A c.in-Solution.is refl);
      depth_in_bounds = omega (arith, d, c.requires.accepted.bounds.few_items);
    }

pub write_out-requires : goal.write_out-requires
write_out-requires c =
    let g = goal.at.write_out-requires c in
    let A = arrived g.After-walk_to-answer (top g.After-walk_to-arg-3-1) in
    let d = no_deeper g.In-Solution (shallow A c.in-Solution.is refl) in
    record {
      by_index = found_natural A c.in-Solution.is refl _ (c.write_found.ensures _ _ (on_depth A c.in-Solution.is refl));
      depth_in_bounds = omega (arith, d, c.write_found.auto.found, c.requires.accepted.bounds.few_items);
      depth_in_bounds_2 = omega (arith, d, leb→le (4 + 4 * c.args.s.np) (length c.args.out.now) c.requires.accepted.has_room);
    }

pub returns-in-Solution : goal.returns-in-Solution
returns-in-Solution c =
    let g = goal.at.returns-in-Solution c in
    let A = arrived g.After-walk_to-answer (top g.After-walk_to-arg-3-1) in
    ends_solved A c.in-Solution.is refl _ (c.write_found.ensures _ _ (on_depth A c.in-Solution.is refl))
    c.args.out.now c.write_out.ensures

pub returns-in-Exhausted : goal.returns-in-Exhausted
returns-in-Exhausted c =
    let g = goal.at.returns-in-Exhausted c in
    ends_other (arrived g.After-walk_to-answer (top g.After-walk_to-arg-3-1)) c.args.out.now (sym (ap (λ (a : NextAnswer). (walk_said a).number) c.in-Exhausted.is)) (λ at v e. cannot (cc))

pub returns-in-Paused : goal.returns-in-Paused
returns-in-Paused c =
    let g = goal.at.returns-in-Paused c in
    ends_other (arrived g.After-walk_to-answer (top g.After-walk_to-arg-3-1)) c.args.out.now (sym (ap (λ (a : NextAnswer). (walk_said a).number) c.in-Paused.is)) (λ at v e. cannot (cc))

use Rattle.std.proofs.Common.{sym, ◌∙◌, arith}
use Rattle.text.proofs.Cutting.{tokens_short}
use Rattle.text.proofs.Barring.{Found, seek_low, seek_turn, seek_found, seek_end, found_low, found_few, found_items}
use Rattle.text.proofs.names.Names.of.Goals as goal
use Rattle.text.proofs.names.Names.of.Goals.{in-Some+then-is_bar, in_default}

pub overflow_add-primaries : goal.overflow_add-primaries
overflow_add-primaries c = let h = seek_low c.loop-token.invariant c.requires in omega arith

pub loop-token-preserved : goal.loop-token-preserved
loop-token-preserved c = seek_turn c.loop-token.invariant c.in-Some.ensures.steps
    (sym c.is_bar.ensures ∙ c.if-is_bar.false)

pub invariant_of-result : goal.invariant_of-result
invariant_of-result c =
    let F : Found c.args.items.now c.next.new.self.rest.now c.loop-token.primaries =
    elim c.match-next.branch [
      | in-Some+then-is_bar w ↦ seek_found c.loop-token.invariant w.in-Some.ensures.steps
          (sym w.is_bar.ensures ∙ w.if-is_bar.true)
      | in_default w ↦ seek_end c.loop-token.invariant w.in_default.ensures.steps
    ] in
    record {
      few = (let h = tokens_short c.args.items.now in omega arith, found_few F c.requires);
      counted = found_low F;
      ahead = c.count_of.ensures;
    }

pub returns-clause-value : goal.returns-clause-value
returns-clause-value c =
    let F : Found c.args.items.now c.next.new.self.rest.now c.loop-token.primaries =
    elim c.match-next.branch [
      | in-Some+then-is_bar w ↦ seek_found c.loop-token.invariant w.in-Some.ensures.steps
          (sym w.is_bar.ensures ∙ w.if-is_bar.true)
      | in_default w ↦ seek_end c.loop-token.invariant w.in_default.ensures.steps
    ] in
    found_items F c.args.front

pub count_of-requires : goal.count_of-requires
count_of-requires c = let h = tokens_short c.args.items.now in omega (arith, c.requires)

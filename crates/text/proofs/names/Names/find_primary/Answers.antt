use Rattle.std.proofs.Common.{rules, arith, ◌+◌, ◌≤◌, [], length-take, option_map, sym, ap, ◌∙◌}
use Rattle.rules.specs.Text.{tokens}
use Rattle.text.specs.declared.names.Names.{Names}
use Rattle.text.specs.Names.{primary_names}
use Rattle.text.proofs.Naming.{beq_is, beq_not, with_few, first_number, second_number, no_number}
use Rattle.text.proofs.names.Names.find_primary.Goals as goal

pub returns-in_err-place-clause-value : goal.returns-in_err-place-clause-value
returns-in_err-place-clause-value c =
    let e = no_number c.args.self.now.front c.args.name.now (primary_names c.args.self.now) c.has_sharp-with.ensures
    (sym c.place_among.ensures.value ∙ c.in_err-place.was) in
    search rules

pub returns-then-with-self-clause-value : goal.returns-then-with-self-clause-value
returns-then-with-self-clause-value c =
    sym (first_number c.args.self.now.front c.args.name.now (primary_names c.args.self.now) c.has_sharp-with.ensures
    (beq_is _ _ c.if-with-self.true) ∙ sym c.place_among.ensures.value ∙ c.in_ok-place.was)

pub returns-else-with-self-clause-value : goal.returns-else-with-self-clause-value
returns-else-with-self-clause-value c =
    sym (second_number c.args.self.now.front c.args.name.now (primary_names c.args.self.now) c.has_sharp-with.ensures
    (beq_not _ _ c.if-with-self.false) c.args.self.now.ahead
    ∙ ap (option_map (λ i. c.args.self.now.firsts + i)) (sym c.place_among.ensures.value ∙ c.in_ok-place.was))

firsts_few : (n : Names) → n.firsts ≤ 65536
firsts_few n =
    let h = with_few n.front [] (primary_names n) n.front in
    let l = length-take n.primaries (tokens n.items.now) in
    omega (arith, n.ahead, n.few)

pub overflow_add-result : goal.overflow_add-result
overflow_add-result c = omega (arith, firsts_few c.args.self.now, c.in_ok-place.ensures.low)

pub returns-else-with-self-clause-low : goal.returns-else-with-self-clause-low
returns-else-with-self-clause-low c = omega (arith, firsts_few c.args.self.now, c.in_ok-place.ensures.low)

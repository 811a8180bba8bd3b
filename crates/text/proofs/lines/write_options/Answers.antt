use Rattle.std.proofs.Common.{sym, ◌∙◌, arith}
use Rattle.rules.specs.Text.{tokens, option_words}
use Rattle.text.specs.Names.{known}
use Rattle.text.specs.Pieces.{lines_left}
use Rattle.text.specs.Read.{options_words}
use Rattle.text.proofs.Putting.{put_fits, put_room, put_turn, put_skip, put_end}
use Rattle.text.proofs.Lining.{words_passed, words_option, words_end}
use Rattle.text.proofs.lines.write_options.Goals as goal

pub write_option-next-requires-clause-line_in_bounds : goal.write_option-next-requires-clause-line_in_bounds
write_option-next-requires-clause-line_in_bounds c =
    let I = known c.args.names.now in
    put_room c.loop-line.invariant (option_words I (tokens c.in-Some.line.now))
    (options_words I (lines_left c.next.new.self.rest)) (words_option c.loop-line.line-iterator c.next.new.self
    c.in-Some.ensures.steps.2 I (sym c.is_passed.ensures ∙ c.if-not-is_passed.true)) c.requires

pub overflow_add-next : goal.overflow_add-next
overflow_add-next c =
    let I = known c.args.names.now in
    omega (
      arith,
      put_fits c.loop-line.invariant (option_words I (tokens c.in-Some.line.now))
          (options_words I (lines_left c.next.new.self.rest)) (words_option c.loop-line.line-iterator c.next.new.self
          c.in-Some.ensures.steps.2 I (sym c.is_passed.ensures ∙ c.if-not-is_passed.true)) c.requires,
      c.write_option-next.ensures.value,
    )

pub loop-line-preserved-then-not-is_passed : goal.loop-line-preserved-then-not-is_passed
loop-line-preserved-then-not-is_passed c =
    let I = known c.args.names.now in
    put_turn c.loop-line.invariant (option_words I (tokens c.in-Some.line.now))
    (options_words I (lines_left c.next.new.self.rest)) (words_option c.loop-line.line-iterator c.next.new.self
    c.in-Some.ensures.steps.2 I (sym c.is_passed.ensures ∙ c.if-not-is_passed.true)) c.requires
    c.write_option-next.ensures.value c.write_option-next.ensures.words_after

pub loop-line-preserved : goal.loop-line-preserved
loop-line-preserved c =
    put_skip c.loop-line.invariant (words_passed c.loop-line.line-iterator c.next.new.self c.in-Some.ensures.steps.2
    (known c.args.names.now) (sym c.is_passed.ensures ∙ c.if-not-is_passed.false))

pub returns : goal.returns
returns c =
    (put_end c.loop-line.invariant (words_end c.loop-line.line-iterator c.in-None.ensures.steps
    (known c.args.names.now))).1

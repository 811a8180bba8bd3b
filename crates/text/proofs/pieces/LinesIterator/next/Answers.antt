use Rattle.std.proofs.Common.{rules, refl, ap, ◌∙◌, ◌+◌, length, arith}
use borrow.Author.Tests.{tests}
use Rattle.rules.specs.Text.{lines}
use Rattle.text.specs.Pieces.{no_lf, lines_left, bytes_left}
use Rattle.text.proofs.Cutting.{cut_len, rest_of, line_more, line_last}
use Rattle.text.proofs.pieces.LinesIterator.next.Goals as goal
use Rattle.text.proofs.pieces.LinesIterator.next.Goals.{then-end-text, else-end-text}

pub slice_bounds-result-end : goal.slice_bounds-result-end
slice_bounds-result-end c =
    cut_len no_lf c.in_ok-text.text.now (c.prefix_len-end.ensures no_lf (λ x b q k. search (rules, tests)))

pub returns-clause-steps : goal.returns-clause-steps
returns-clause-steps c =
    let left = c.args.self.now.rest in
    let text = c.in_ok-text.text in
    let e = c.in_ok-text.was in
    let l = c.prefix_len-end.ensures no_lf (λ x b q k. search (rules, tests)) in
    let r = rest_of text.now (c.prefix_len-end.result + 1) in
    elim c.if-end-text.branch [
      | then-end-text w ↦
          let p = line_more left text e l c.if-end-text.self w.if-end-text.true
          (ap lines_left w.self-is ∙ ap lines r) (ap bytes_left w.self-is ∙ omega (arith, ap length r)) in
          (refl, refl, p.0, p.1)
      | else-end-text w ↦
          let p = line_last left text e l w.if-end-text.false w.self-is in
          (refl, refl, p.0, p.1)
    ]

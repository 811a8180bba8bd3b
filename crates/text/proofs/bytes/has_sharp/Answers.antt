use Rattle.std.proofs.Common.{rules, ltb, length, eqb, sym, ap, ◌∙◌}
use borrow.Author.Tests.{tests}
use Rattle.text.specs.Pieces.{no_sharp}
use Rattle.text.proofs.Mirror.{has_after}
use Rattle.text.proofs.bytes.has_sharp.Goals as goal

pub returns : goal.returns
returns c =
    let n = c.prefix_len.ensures no_sharp (λ x b q k. search (rules, tests)) in
    ap (λ m. ltb m (length c.args.token.now)) n ∙ sym (has_after (λ b. eqb b 35) c.args.token.now)

use Rattle.std.proofs.Common.{◌≡◌, length, get_or, arith, sym, ap, ◌∙◌, ◌+◌}
use borrow.Author.Tests.{eqb-true, eqb-false}
use lib.Seq.{get_or-drop}
use Rattle.std.proofs.lemmas.List.Sums.{prefix_len-le-length}
use Rattle.text.specs.Pieces.{no_colon}
use Rattle.text.proofs.Writing.{cut_plain, cut_colour, cut_other}
use Rattle.text.proofs.options.cut.Goals as goal
use Rattle.text.proofs.options.cut.Goals.{then-rest-ne2-via-then-rest-ne2, then-rest-ne2-via-else-rest-ne2+then-rest-eq58}

pub split_at-requires : goal.split_at-requires
split_at-requires c = omega (arith, c.name_len.ensures, prefix_len-le-length no_colon c.args.token.now)

pub returns-then-is_empty : goal.returns-then-is_empty
returns-then-is_empty c =
    let e = eqb-true (length c.split_at.result.1.now) 0 (sym c.if-is_empty.ensures) in (
      cut_plain c.args.token.now c.name_len.ensures c.split_at.ensures.front c.split_at.ensures.back (omega arith),
      omega
          arith,
    )

pub returns-then-rest-ne2 : goal.returns-then-rest-ne2
returns-then-rest-ne2 c =
    let rest = c.split_at.result.1.now in
    let n = eqb-false (length rest) 0 (sym c.if-is_empty.ensures) in
    let g : length rest ≡ 2 → get_or rest 1 0 ≡ 58 =
    elim c.then-rest-ne2.branch [
      | then-rest-ne2-via-then-rest-ne2 w ↦ λ e. absurd (w.if-rest-ne2.true e)
      | then-rest-ne2-via-else-rest-ne2+then-rest-eq58 w ↦ λ e. w.if-rest-eq58.true
    ] in
    cut_other c.args.token.now c.name_len.ensures c.split_at.ensures.front c.split_at.ensures.back (omega arith) g

pub returns : goal.returns
returns c =
    let n = eqb-false (length c.split_at.result.1.now) 0 (sym c.if-is_empty.ensures) in
    let l : length c.split_at.result.1.now ≡ 2 = c.if-rest-ne2.false in
    let at : get_or c.split_at.result.1.now 1 0 ≡ get_or c.args.token.now (c.name_len.result + 1) 0 =
    ap (λ s. get_or s 1 0) c.split_at.ensures.back ∙ get_or-drop c.name_len.result c.args.token.now 1 0 in (
      cut_colour c.args.token.now c.name_len.ensures c.split_at.ensures.front c.split_at.ensures.back (omega arith) l
          c.if-rest-eq58.false c.from.ensures,
      let f = c.type_inv.token (c.name_len.result + 1) in omega (arith, c.from.ensures, at),
    )

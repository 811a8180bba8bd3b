use mathlib.Core.Path.{ap, ◌∙◌}
use mathlib.Core.List.{◌++◌}
use Rattle.cover.proofs.Printing.{put_then, digits_are}
use Rattle.cover.proofs.print.put_number.Goals as goal

pub returns : goal.returns
returns c =
    let d = c.decimal-count in
    put_then c.args.out.now.items _ _
    (c.put_bytes.ensures
    ∙ ap (λ l. c.args.out.now.items ++ l)
    (digits_are d.new.out c.args.n d.result d.ensures.in_bounds d.ensures.len d.ensures.digits c.ranges.n.fits))
    c.push.ensures.items

use Rattle.std.proofs.Common.{ap, sym, ◌∙◌, take}
use Rattle.text.specs.Pieces.{no_colon}
use Rattle.text.proofs.Cutting.{cut_len, name_is}
use Rattle.text.proofs.bytes.name_of.Goals as goal

pub slice_bounds-result-end : goal.slice_bounds-result-end
slice_bounds-result-end c = cut_len no_colon c.args.token.now c.name_len.ensures

pub returns : goal.returns
returns c = ap (λ n. take n c.args.token.now) c.name_len.ensures ∙ sym (name_is c.args.token.now)

use Rattle.std.proofs.Common.{rules}
use borrow.Author.Tests.{tests}
use Rattle.text.specs.Pieces.{no_colon}
use Rattle.text.proofs.bytes.name_len.Goals as goal

pub returns : goal.returns
returns c = c.prefix_len.ensures no_colon (λ x b q k. search (rules, tests))

use Rattle.cover.proofs.Printing.{refused_put}
use Rattle.cover.proofs.print.put_refused.Goals as goal

pub returns : goal.returns
returns c =
    refused_put c.args.out.now.items c.args.number c.put_bytes.ensures c.put_number.ensures

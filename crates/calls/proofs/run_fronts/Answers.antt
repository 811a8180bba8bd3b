use mathlib.Core.Path.{◌∙◌}
use Prim.Native.Nat.{◌≤◌}
use native.Mathlib.Omega.{arith}
use lib.ListN.{length}
use lib.Seq.{length-take-le}
use Rattle.calls.proofs.Outcomes.{over_part}
use Rattle.calls.proofs.run_fronts.Goals as goal

pub returns : goal.returns
returns c =
    λ P v B.
    let W = c.run.ensures P v (rw c.table_words-words.ensures B) in
    record {
      answer = W.ran.answer;
      table_is = over_part _ c.args.table.now _ c.table_words-words.result W.ran.on.at.is (c.run.auto.t ∙ length-take-le _ _ (let h : c.table_words-words.result ≤ length c.args.table.now = omega (arith, c.table_words-words.ensures, c.requires.table_room) in h));
      path_is = over_part _ c.args.path.now _ c.args.s.np W.ran.on.path_is (c.run.auto.path ∙ length-take-le _ _ c.requires.path_room);
      profile_is = over_part _ c.args.profile.now _ c.args.s.np W.ran.profile_is (c.run.auto.profile ∙ length-take-le _ _ c.requires.profile_room);
      found_is = W.found_is;
    }

use mathlib.Core.Path.{◌∙◌}
use Prim.Native.Nat.{◌≤◌}
use native.Mathlib.Omega.{arith}
use lib.ListN.{length}
use lib.Seq.{length-take-le}
use Rattle.rules.specs.Problem.{cut, meant}
use Rattle.timed.proofs.Walked.{fronts_on, fronts_profile, fronts_walked}
use Rattle.timed.proofs.walk_fronts.Goals as goal

pub walk_to-requires : goal.walk_to-requires
walk_to-requires c = record { profile = fronts_profile c.requires.1; on = (meant (cut c.requires.0), rw c.table_words-words.ensures (fronts_on c.requires.1)) }

pub returns : goal.returns
returns c =
    λ ws T.
    let h : c.table_words-words.result ≤ length c.args.table.now = omega (arith, T.table_room) in
    rw c.table_words-words.ensures (fronts_walked T c.args.number (c.walk_to.ensures (meant (cut ws)) (rw c.table_words-words.ensures (fronts_on T))) (c.walk_to.auto.t ∙ length-take-le _ _ h ∙ c.table_words-words.ensures) (c.walk_to.auto.path ∙ length-take-le _ _ T.path_room) (c.walk_to.auto.profile ∙ length-take-le _ _ T.profile_room))

use Rattle.links.proofs.Committing.{commit_lap, commit_here, commit_step, commit_all}
use Rattle.links.proofs.c.commit_all.Goals as goal

pub round_right-requires : goal.round_right-requires
round_right-requires c =
    let C = c.requires.3 in (
      _,
      _,
      commit_lap C,
      λ xs y zs s m e.
          let A = commit_here C xs y zs s e in
          ((_, _, y, A), λ u m' h. commit_step C xs y zs s (h _ _ y A)),
    )

pub returns : goal.returns
returns c = λ P held c' C.
    commit_all C (c.round_right.ensures P c' (commit_lap C) λ xs y zs s m e.
    let A = commit_here C xs y zs s e in
    ((_, _, y, A), λ u m' h. commit_step C xs y zs s (h _ _ y A)))

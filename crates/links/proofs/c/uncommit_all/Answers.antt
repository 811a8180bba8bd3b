use Rattle.links.proofs.Committing.{commit_lap, uncommit_words, uncommit_here}
use Rattle.links.proofs.c.uncommit_all.Goals as goal

pub round_left-requires : goal.round_left-requires
round_left-requires c =
    let Q = c.requires.4 in (
      _,
      _,
      _,
      commit_lap Q.can,
      uncommit_words Q,
      λ xs y zs s m e.
          let A = uncommit_here Q xs y zs s e in
          ((_, _, _, y, A), λ m' h. h _ _ _ y A),
    )

pub returns : goal.returns
returns c = λ P held t₁ c' Q.
    c.round_left.ensures P t₁ c' (commit_lap Q.can) (uncommit_words Q) λ xs y zs s m e.
    let A = uncommit_here Q xs y zs s e in
    ((_, _, _, y, A), λ m' h. h _ _ _ y A)

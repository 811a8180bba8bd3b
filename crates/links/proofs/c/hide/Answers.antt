use Rattle.links.proofs.Hiding.{hide_lap, hide_here, hide_step, hide_all}
use Rattle.links.proofs.c.hide.Goals as goal

pub round_right-requires : goal.round_right-requires
round_right-requires c =
    let C = c.requires.4 in (
      _,
      _,
      hide_lap C,
      λ xs y zs s m e.
          let A = hide_here C xs y zs s e in
          ((_, _, y, A), λ u m' h. hide_step C xs y zs s (h.0 _ _ y A)),
    )

pub returns : goal.returns
returns c = λ P W held c' C.
    hide_all C (c.round_right.ensures P c' (hide_lap C) λ xs y zs s m e.
    let A = hide_here C xs y zs s e in
    ((_, _, y, A), λ u m' h. hide_step C xs y zs s (h.0 _ _ y A)))

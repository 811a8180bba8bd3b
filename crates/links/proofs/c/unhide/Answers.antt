use Rattle.links.proofs.Hiding.{hide_lap, unhide_words, unhide_here}
use Rattle.links.proofs.c.unhide.Goals as goal

pub round_left-requires : goal.round_left-requires
round_left-requires c =
    let H = c.requires.5 in (
      _,
      _,
      _,
      hide_lap H.can,
      unhide_words H,
      λ xs y zs s m e.
          let A = unhide_here H xs y zs s e in
          ((_, _, _, y, A), λ m' h. h _ _ _ y A),
    )

pub returns : goal.returns
returns c = λ P W t₁ held c' H.
    c.round_left.ensures P t₁ c' (hide_lap H.can) (unhide_words H) λ xs y zs s m e.
    let A = unhide_here H xs y zs s e in
    ((_, _, _, y, A), λ m' h. h _ _ _ y A)

use mathlib.Core.Path.{sym, ap, ◌∙◌}
use mathlib.Core.Bool.{Bool, ◌&&◌}
use Rattle.rules.specs.Words.{same_words}
use Rattle.search.proofs.Testing.{point_is}
use Rattle.search.proofs.point.test_point.Goals as goal

pub returns-then-fits-clause-value : goal.returns-then-fits-clause-value
returns-then-fits-clause-value c =
    λ P T.
    let Q = c.path_point-fits.ensures P T.fresh T.long in
    let spare = c.path_point-fits.new.spare in
    c.are_same-same.ensures
    ∙ ap (λ (b : Bool). b && same_words c.args.t.now spare) (sym c.if-fits.true) ∙ point_is c.args.t.now Q

pub returns-else-fits-clause-value : goal.returns-else-fits-clause-value
returns-else-fits-clause-value c =
    λ P T.
    let Q = c.path_point-fits.ensures P T.fresh T.long in
    c.if-fits.false ∙ ap (λ (b : Bool). b && same_words c.args.t.now c.path_point-fits.new.spare) (sym c.if-fits.false)
    ∙ point_is c.args.t.now Q

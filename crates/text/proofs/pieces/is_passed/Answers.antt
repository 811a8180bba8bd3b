use Rattle.std.proofs.Common.{rules, ℕ, option_map, sym, ap, ◌∙◌}
use borrow.Author.Tests.{tests}
use denote.Ref.{Bor}
use Rattle.std.proofs.lemmas.Iterator.{YieldsList-from_slice}
use Rattle.std.proofs.lemmas.Iterator.Search.{find_from_yields_List}
use Rattle.text.specs.Pieces.{no_white}
use Rattle.text.proofs.Cutting.{passed_first, starts_passed}
use Rattle.text.proofs.pieces.is_passed.Goals as goal

pub returns-in-None : goal.returns-in-None
returns-in-None c =
    let e = find_from_yields_List no_white _ _ c.find.result c.find.ensures.ran
    (YieldsList-from_slice c.args.line.now cc) (λ x b q k. search (rules, tests)) in
    sym (passed_first c.args.line.now ∙ ap starts_passed (sym e ∙ ap (option_map (λ (b : Bor ℕ). b.now)) c.in-None.is))

pub returns-in-Some : goal.returns-in-Some
returns-in-Some c =
    let e = find_from_yields_List no_white _ _ c.find.result c.find.ensures.ran
    (YieldsList-from_slice c.args.line.now cc) (λ x b q k. search (rules, tests)) in
    sym (passed_first c.args.line.now ∙ ap starts_passed (sym e ∙ ap (option_map (λ (b : Bor ℕ). b.now)) c.in-Some.is))

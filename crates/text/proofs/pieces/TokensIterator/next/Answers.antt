use Rattle.std.proofs.Common.{rules, ◌+◌, ◌∷◌, ℕ, List, length, take, sym, ap, ◌∙◌, arith}
use borrow.Author.Tests.{tests, eqb-true, eqb-false}
use Rattle.rules.specs.Text.{tokens}
use Rattle.text.specs.Pieces.{no_white}
use Rattle.text.proofs.Cutting.{cut_len, rest_of, cut_low, token_more, token_none, token_last, token_empty}
use Rattle.text.proofs.pieces.TokensIterator.next.Goals as goal

pub returns-then-end-line-clause-steps : goal.returns-then-end-line-clause-steps
returns-then-end-line-clause-steps c =
    let s = c.loop-line.self.rest.now in
    let u = c.prefix_len-end.ensures no_white (λ x b q k. search (rules, tests)) in
    c.loop-line.invariant
    ∙ token_last s u c.if-end-line.true (eqb-false (length s) 0 (sym c.loop-line-test.ensures))

pub returns-then-end-line-clause-goes : goal.returns-then-end-line-clause-goes
returns-then-end-line-clause-goes c = let l = ap length (returns-then-end-line-clause-steps c) in search rules

pub slice_bounds-self-count : goal.slice_bounds-self-count
slice_bounds-self-count c =
    let s = c.loop-line.self.rest.now in
    let u = c.prefix_len-end.ensures no_white (λ x b q k. search (rules, tests)) in
    cut_low s u c.if-end-line.false

pub slice_bounds-self-start : goal.slice_bounds-self-start
slice_bounds-self-start c = slice_bounds-self-count c

pub overflow_add-self : goal.overflow_add-self
overflow_add-self c = let h = slice_bounds-self-count c in omega arith

pub slice_bounds-result-end : goal.slice_bounds-result-end
slice_bounds-result-end c =
    cut_len no_white c.loop-line.self.rest.now (c.prefix_len-end.ensures no_white (λ x b q k. search (rules, tests)))

pub returns-then-end-ne0-clause-steps : goal.returns-then-end-ne0-clause-steps
returns-then-end-ne0-clause-steps c =
    let s = c.loop-line.self.rest.now in
    let u = c.prefix_len-end.ensures no_white (λ x b q k. search (rules, tests)) in
    c.loop-line.invariant ∙ token_more s u c.if-end-line.false c.if-end-ne0.true
    ∙ ap (λ (l : List ℕ). take c.prefix_len-end.result s ∷ tokens l) (sym (rest_of s (c.prefix_len-end.result + 1)))

pub returns-then-end-ne0-clause-goes : goal.returns-then-end-ne0-clause-goes
returns-then-end-ne0-clause-goes c = let l = ap length (returns-then-end-ne0-clause-steps c) in search rules

pub loop-line-preserved : goal.loop-line-preserved
loop-line-preserved c =
    let s = c.loop-line.self.rest.now in
    let u = c.prefix_len-end.ensures no_white (λ x b q k. search (rules, tests)) in
    c.loop-line.invariant ∙ token_none s u c.if-end-line.false c.if-end-ne0.false
    ∙ ap tokens (sym (rest_of s (c.prefix_len-end.result + 1)))

pub returns-clause-steps : goal.returns-clause-steps
returns-clause-steps c =
    let s = c.loop-line.self.rest.now in
    let e = token_empty s (eqb-true (length s) 0 (sym c.loop-line-test.ensures)) in
    (c.loop-line.invariant ∙ e, e)

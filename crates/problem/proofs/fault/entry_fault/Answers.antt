use mathlib.Core.Bool.{Bool, true}
use mathlib.Core.Path.{◌≡◌, sym, ap, ◌∙◌}
use Prim.Native.Nat.{ℕ, ◌<◌}
use borrow.Author.Tests.{ltb-true}
use lib.Dec.{ltb}
use lib.IntN.{ℤ, pos}
use Rattle.rules.specs.Words.{below}
use Rattle.problem.proofs.MarkLaws.{in_range}
use Rattle.problem.proofs.fault.entry_fault.Goals as goal

-- the item is in range
passed : (n : ℕ) {w : ℤ} {x : ℕ} {r : Bool} → w ≡ pos x → r ≡ below n w → r ≡ true → ltb x n ≡ true
passed n e h t = sym (ap (below n) e) ∙ sym h ∙ t

low : (n : ℕ) {w : ℤ} {x : ℕ} {r : Bool} → w ≡ pos x → r ≡ below n w → r ≡ true → x < n
low n {w} {x} e h t = ltb-true x n (passed n e h t)

pub returns : goal.returns
returns c =
    λ seen M. in_range c.args.ws.now c.args.p c.args.np c.args.n seen c.link_at-x.result c.link_at-x.ensures.word_is
    (passed c.args.n c.link_at-x.ensures.word_is c.is_below.ensures c.if-not-is_below.false)
    (M.are c.link_at-x.result (low c.args.n c.link_at-x.ensures.word_is c.is_below.ensures c.if-not-is_below.false))
    c.repeat_fault-again.ensures c.colour_fault-colour.ensures c.and.ensures

use mathlib.Core.Path.{ap, ◌∙◌}
use mathlib.Core.List.{List, ◌++◌}
use Prim.Native.Nat.{ℕ}
use Rattle.std.specs.Prelude.{Err}
use Rattle.rules.specs.Text.{read_said}
use Rattle.rules.specs.Cover.{refusal_line}
use Rattle.cover.proofs.Showing.{last_write, opens_as, refusal_due, refusal_small, refusal_sent, unread_short}
use Rattle.cover.proofs.answer.Goals as goal

pub put_page-requires : goal.put_page-requires
put_page-requires c =
    let ns = read_said (Err c.in-Err.unread) in
    let e = opens_as _ c.«open».new.words (Err c.in-Err.unread) c.«open».ensures c.in-Err.is in
    let p = c.put_unread.ensures ∙ ap (λ (l : List ℕ). l ++ refusal_line ns) c.new-out.ensures in
    let h = unread_short c.in-Err.unread in
    record { due = refusal_due _ ns e p h c.requires; used_bound = refusal_small _ ns e p h c.requires }

pub returns-in-Err : goal.returns-in-Err
returns-in-Err c =
    let ns = read_said (Err c.in-Err.unread) in
    let e = opens_as _ c.«open».new.words (Err c.in-Err.unread) c.«open».ensures c.in-Err.is in
    let p = c.put_unread.ensures ∙ ap (λ (l : List ℕ). l ++ refusal_line ns) c.new-out.ensures in
    last_write _ c.put_page.ensures (refusal_sent _ ns e p (unread_short c.in-Err.unread) c.requires)

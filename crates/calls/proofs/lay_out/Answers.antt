use mathlib.Core.List.{List}
use lib.IntN.{ℤ, pos}
use Rattle.rules.specs.Lists.{over}
use mathlib.Core.Path.{sym, ap, ◌∙◌}
use Prim.Native.Nat.{◌≤◌}
use native.Mathlib.Omega.{arith}
use lib.ListN.{length}
use lib.Seq.{length-take-le}
use Rattle.search.specs.Meant.{top_words}
use Rattle.calls.proofs.Outcomes.{over_part, over_filled}
use Rattle.calls.proofs.lay_out.Goals as goal

pub returns-clause-table_after : goal.returns-clause-table_after
returns-clause-table_after c =
    over_part _ c.args.table.now _ c.table_words-words.result c.init_links.ensures (c.init_links.auto.t
    ∙ length-take-le _ _ (let h : c.table_words-words.result ≤ length c.args.table.now = omega (
      arith,
      c.requires.table_room,
      c.table_words-words.ensures,
    ) in h))

pub returns-clause-path_after : goal.returns-clause-path_after
returns-clause-path_after c =
    over_filled (pos 0) c.args.path.now c.fill.new.t c.fill.ensures c.requires.path_room
    ∙ ap (λ (x : List ℤ). over x c.args.path.now) (sym (top_words c.args.s.np))

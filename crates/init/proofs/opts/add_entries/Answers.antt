use mathlib.Core.Path.{◌∙◌}
use native.Mathlib.Omega.{arith}
use Prim.Native.Nat.{◌+◌, ◌*◌}
use Rattle.rules.specs.Words.{word}
use Rattle.init.proofs.EntryLaws.{item_natural, item_small, adding_clean, adding_turn}
use Rattle.init.proofs.opts.add_entries.Goals as goal

pub link_at-requires-clause-natural : goal.link_at-requires-clause-natural
link_at-requires-clause-natural c =
    item_natural c.args.n (word c.args.ws.now (c.args.p + 2 * c.loop-i.i))
    (adding_clean c.loop-i.invariant c.loop-i-test.true c.requires.k_in_bounds.0).item

pub link_at-requires-in-loop-i-clause-natural : goal.link_at-requires-in-loop-i-clause-natural
link_at-requires-in-loop-i-clause-natural c = (adding_clean c.loop-i.invariant c.loop-i-test.true
    c.requires.k_in_bounds.0).colour

pub add_entry-requires-clause-item_lt_n : goal.add_entry-requires-clause-item_lt_n
add_entry-requires-clause-item_lt_n c =
    item_small c.args.n c.link_at.result (adding_clean c.loop-i.invariant c.loop-i-test.true
    c.requires.k_in_bounds.0).item c.link_at.ensures.word_is

pub loop-i-preserved : goal.loop-i-preserved
loop-i-preserved c =
    adding_turn c.loop-i.invariant c.loop-i-test.true c.requires.k_in_bounds.0 c.add_entry.new.t (omega arith)
    (c.add_entry.ensures ∙ cc (c.link_at.ensures.is, c.link_at-in-loop-i.ensures.is))

use Rattle.rules.specs.Text.{tokens, entered, entry_words}
use Rattle.text.specs.Names.{known}
use Rattle.text.specs.Entries.{entries_words}
use Rattle.text.proofs.Putting.{put_room, put_turn, put_end, entries_more, entries_none}
use Rattle.text.proofs.options.write_entries.Goals as goal

pub write_entry-next-requires : goal.write_entry-next-requires
write_entry-next-requires c =
    let I = known c.args.names.now in
    put_room c.loop-token.invariant (entry_words (entered I c.in-Some.token.now))
    (entries_words I (tokens c.next.new.self.rest.now)) (entries_more I c.in-Some.ensures.steps) c.requires

pub loop-token-preserved : goal.loop-token-preserved
loop-token-preserved c =
    let I = known c.args.names.now in
    put_turn c.loop-token.invariant (entry_words (entered I c.in-Some.token.now))
    (entries_words I (tokens c.next.new.self.rest.now)) (entries_more I c.in-Some.ensures.steps) c.requires
    c.write_entry-next.ensures.value c.write_entry-next.ensures.words_after

pub returns : goal.returns
returns c =
    let p = put_end c.loop-token.invariant (entries_none (known c.args.names.now) c.in-None.ensures.steps.0) in
    record { value = p.0; words_after = p.1 }

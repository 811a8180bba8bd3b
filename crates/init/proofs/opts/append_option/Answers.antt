use Rattle.init.proofs.OptionLaws.{append_kept, append_skipped}
use Rattle.init.proofs.opts.append_option.Goals as goal

pub returns-then-not-keep : goal.returns-then-not-keep
returns-then-not-keep c = λ P np A. append_skipped A c.if-not-keep.true

pub returns : goal.returns
returns c = λ P np A. append_kept A c.if-not-keep.false c.add_entries.new.t c.end_option.new.t c.add_entries.ensures c.end_option.ensures

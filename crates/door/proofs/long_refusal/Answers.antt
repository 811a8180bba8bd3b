use mathlib.Core.Path.{◌≡◌, sym, ap, ◌∙◌}
use native.Mathlib.Omega.{arith}
use Prim.Native.Nat.{◌<◌}
use lib.ListN.{length, take}
use lib.Signed.{non_neg}
use Rattle.rules.specs.Words.{word, bytes_words}
use mathlib.Core.Bool.{true}
use Rattle.rules.specs.Lists.{got}
use Rattle.rules.specs.Problem.{door_limits, parts, cut_refusal}
use Rattle.door.proofs.Bytes.{words_long}
use Rattle.door.proofs.Cutting.{heads_refused, alone_is, head_is, whole_is, by_heads, options_natural, by_ns}
use Rattle.door.proofs.Cutting.{by_entries, by_cut}
use Rattle.door.proofs.long_refusal.Goals.{After-unwrap_err-alone, Else-not-is_natural, After-is_whole}
use Rattle.door.proofs.long_refusal.Goals as goal

-- more words than the limits allow
long : (q : After-unwrap_err-alone) → 579 < length (bytes_words q.args.problem.now)
long q =
    omega (arith, (words_long q.args.problem.now).1, q.requires)

alone : (q : After-unwrap_err-alone) → q.unwrap_err-alone.result ≡ cut_refusal door_limits 1
    (take 3 (bytes_words q.args.problem.now))
alone q =
    alone_is (bytes_words q.args.problem.now) (omega (arith, long q)) q.door.ensures q.read_words.ensures
    q.check.ensures.value q.unwrap_err-alone.ensures

ns_natural : (q : Else-not-is_natural) → non_neg (word (bytes_words q.args.problem.now) 1) ≡ true
ns_natural q =
    ap non_neg (sym (head_is (bytes_words q.args.problem.now) 1 (omega arith) q.read_words.ensures)) ∙ sym q.is_natural.ensures ∙ q.if-not-is_natural.false

found_whole : (q : After-is_whole) → q.is_whole.result ≡ got (parts (bytes_words q.args.problem.now))
found_whole q =
    whole_is (bytes_words q.args.problem.now) (sym (head_is (bytes_words q.args.problem.now) 2 (omega arith) q.read_words.ensures) ∙ q.link_at.ensures.word_is) q.is_whole.ensures

pub unwrap_err-alone-requires : goal.unwrap_err-alone-requires
unwrap_err-alone-requires c = heads_refused (bytes_words c.args.problem.now)
    (omega (arith, (words_long c.args.problem.now).1, c.requires)) c.door.ensures c.read_words.ensures
    c.check.ensures.value

pub returns-then-alone-ne4 : goal.returns-then-alone-ne4
returns-then-alone-ne4 c = by_heads (bytes_words c.args.problem.now)
    (long (goal.at.returns-then-alone-ne4 c).After-unwrap_err-alone)
    (alone (goal.at.returns-then-alone-ne4 c).After-unwrap_err-alone) c.if-alone-ne4.true

pub returns-then-not-is_natural : goal.returns-then-not-is_natural
returns-then-not-is_natural c = (
  by_ns (bytes_words c.args.problem.now) (long (goal.at.returns-then-not-is_natural c).After-unwrap_err-alone)
      (alone (goal.at.returns-then-not-is_natural c).After-unwrap_err-alone) c.if-alone-ne4.false
      (ap non_neg (sym (head_is (bytes_words c.args.problem.now) 1 (omega arith) c.read_words.ensures))
      ∙ sym c.is_natural.ensures ∙ c.if-not-is_natural.true),
  omega arith,
)

pub link_at-requires-clause-natural : goal.link_at-requires-clause-natural
link_at-requires-clause-natural c = rw (head_is (bytes_words c.args.problem.now) 2 (omega arith)
    c.read_words.ensures) (options_natural (bytes_words c.args.problem.now)
    (long (goal.at.link_at-requires-clause-natural c).After-unwrap_err-alone)
    (alone (goal.at.link_at-requires-clause-natural c).After-unwrap_err-alone) c.if-alone-ne4.false)

pub returns-then-is_whole : goal.returns-then-is_whole
returns-then-is_whole c = (
  by_entries (bytes_words c.args.problem.now) (long (goal.at.returns-then-is_whole c).After-unwrap_err-alone)
      (alone (goal.at.returns-then-is_whole c).After-unwrap_err-alone) c.if-alone-ne4.false
      (ns_natural (goal.at.returns-then-is_whole c).Else-not-is_natural)
      (sym c.if-is_whole.true ∙ found_whole (goal.at.returns-then-is_whole c).After-is_whole),
  omega arith,
)

pub returns-else-is_whole : goal.returns-else-is_whole
returns-else-is_whole c = (
  by_cut (bytes_words c.args.problem.now) (long (goal.at.returns-else-is_whole c).After-unwrap_err-alone)
      (alone (goal.at.returns-else-is_whole c).After-unwrap_err-alone) c.if-alone-ne4.false
      (ns_natural (goal.at.returns-else-is_whole c).Else-not-is_natural)
      (sym c.if-is_whole.false ∙ found_whole (goal.at.returns-else-is_whole c).After-is_whole),
  omega arith,
)

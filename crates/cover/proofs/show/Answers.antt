use mathlib.Core.Path.{refl, ◌∙◌}
use native.Mathlib.Omega.{arith}
use Rattle.cover.proofs.Showing.{last_write, nearer, first_page, last_due, last_short, last_sent}
use Rattle.cover.proofs.Showing.{more_due, more_short, more_some, more_coming, more_sent}
use Rattle.cover.proofs.show.Goals as goal

pub loop-sent-init : goal.loop-sent-init
loop-sent-init c = (
  refl,
  refl,
  refl,
  λ _. first_page _ c.requires.text_value c.requires.sent_value c.begin-next.ensures,
)

pub put_page-requires : goal.put_page-requires
put_page-requires c =
    let S = c.loop-sent.invariant.3 c.loop-sent-test.true in
    record {
      due = last_due S c.in-None.is;
      used_bound = omega (arith, last_short S c.in-None.is, c.loop-sent-test.true);
    }

pub returns-in-None : goal.returns-in-None
returns-in-None c =
    last_write _ c.put_page.ensures (last_sent (c.loop-sent.invariant.3 c.loop-sent-test.true) c.in-None.is)

pub turn-next-requires : goal.turn-next-requires
turn-next-requires c =
    let S = c.loop-sent.invariant.3 c.loop-sent-test.true in
    record {
      due = more_due S c.in-Some.is;
      used_bound = omega (arith, more_short S c.in-Some.is, c.loop-sent-test.true);
      some_coming = (_, _, more_coming S c.in-Some.is);
    }

pub loop-sent-smaller : goal.loop-sent-smaller
loop-sent-smaller c =
    nearer
    c.turn-next.ensures.moved
    (more_some (c.loop-sent.invariant.3 c.loop-sent-test.true) c.in-Some.is)
    c.loop-sent-test.true

pub loop-sent-preserved : goal.loop-sent-preserved
loop-sent-preserved c =
    let inv = c.loop-sent.invariant in
    let kept = c.turn-next.auto in
    let S = inv.3 c.loop-sent-test.true in
    let k = more_coming S c.in-Some.is in (
      kept.t ∙ inv.0,
      kept.path ∙ inv.1,
      kept.profile ∙ inv.2,
      λ h. more_sent S c.in-Some.is c.turn-next.ensures.moved (λ z. c.turn-next.ensures.filled z _ _ k) h,
    )

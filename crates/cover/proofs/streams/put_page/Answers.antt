use mathlib.Core.Path.{refl, ap}
use mathlib.Core.Logic.{inl, inr}
use Prim.Native.Nat.{ℕ, ◌+◌}
use Rattle.cover.proofs.streams.put_page.Goals as goal

pub returns-then-is_ok : goal.returns-then-is_ok
returns-then-is_ok c = record { on = inl (ap (λ (k : ℕ). c.args.sent.now + k) c.len.ensures.value) }

pub returns-else-is_ok : goal.returns-else-is_ok
returns-else-is_ok c = record { on = inr refl }

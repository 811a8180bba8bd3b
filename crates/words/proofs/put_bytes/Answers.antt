use mathlib.Core.List.{List, ◌++◌}
use mathlib.Core.Path.{◌≡◌}
use Prim.Native.Nat.{ℕ, ◌+◌, ◌-◌, ◌≤◌}
use native.Mathlib.Omega.{arith}
use Rattle.std.proofs.Common.{length, take, drop, drop-drop, append_assoc}
use Rattle.std.proofs.lemmas.List.Edits.{sets, sets-eq}
use Rattle.rules.specs.Words.{word_bytes}
use Rattle.words.proofs.put_bytes.Goals as goal

-- a part written over
written : (l vs : List ℕ) (i k : ℕ) → k ≡ length vs → i + k ≤ length l
    → take i l ++ (vs ++ drop k (drop i l)) ≡ sets l i vs
written l vs i k e h = rw (e, drop-drop, sets-eq vs l i (omega arith), append_assoc)

pub returns : goal.returns
returns c =
    let f = rw c.to_le_bytes.ensures at c.copy_from_slice.ensures.after in
    rw f (written c.args.out.now (word_bytes c.args.x) c.args.at (c.args.at + 4 - c.args.at) (omega arith)
    (omega arith))

-- What a call that answers a test shows.
use mathlib.Core.Bool.{Bool, true, false}
use mathlib.Core.Path.{◌≡◌}
use Prim.Native.Nat.{ℕ}
use Rattle.problem.specs.CutLaws.{no_count_past, no_count_negative, count_if_room}
use lib.Dec.{T}
use lib.IntN.{ℤ, pos, negsuc}
use lib.Signed.{non_neg}

pub so : {x : Bool} → x ≡ true → T x
so e = rw e tt

-- a test that no negative word passes
pub natural_if : (f : ℤ → Bool) (z : ℤ) → ((k : ℕ) → f (negsuc k) ≡ false) → T (f z) → T (non_neg z)
natural_if f (pos k) n t = tt
natural_if f (negsuc k) n t = absurd (rw (n k) at t)

pub ruleset count_laws = (no_count_past, no_count_negative, count_if_room)

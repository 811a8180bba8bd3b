-- The host door: bytes in, a number out, and the output bytes left behind.
use Rattle.std.specs.Prelude.{List, [], ◌∷◌, ℕ, zero, suc, ◌+◌, ◌-◌, ◌*◌, ◌%◌, Bool, eqb, leb, length}
use Rattle.rules.specs.declared.Phase.{Phase}
use Rattle.rules.specs.declared.Phase.TheVariants.{Ready, Solution}
use Rattle.rules.specs.declared.Sizes.{Sizes}
use Rattle.rules.specs.Lists.{flat, over}
use Rattle.rules.specs.Words.{bytes_words, word_bytes}
use Rattle.rules.specs.Problem.{Problem, cut, meant, need, door_limits, problem_refusal}
use Rattle.rules.specs.Order.{Rule, pick}
use Rattle.rules.specs.Walk.{Level, Walk, End, solution, exhausted, paused, numbers, resume}
use Rattle.rules.specs.Calls.{end_number}

-- where a walk ended at a solution, what follows there; else that walk
abbrev pub past : End → Walk → (List Level → Walk) → Walk
past solution w later = later w.at
past exhausted w later = w
past paused w later = w

-- "a solution number from 0, an allowance for the whole call": the walk to solution number k below a point
unfoldable pub walk_to : Problem → Rule → ℕ → ℕ → Phase → List Level → Walk
walk_to P rule zero a ph s = resume P rule a ph s
walk_to P rule (suc k) a ph s =
    let w : Walk = resume P rule a ph s in
    past w.end w (λ t. walk_to P rule k (a - length w.visited) Solution t)

pub record DoorOutcome : Type 0 where
  pub result : ℕ
  pub out : List ℕ

-- "Output shorter than 4+4np bytes is 9."
abbrev pub door_room : List ℕ → Sizes → Bool
door_room out s = leb (4 + 4 * s.np) (length out)

-- "A byte length that is no multiple of 4 is refused first, as 4."
unfoldable pub door_refusal : List ℕ → List ℕ → ℕ
door_refusal problem out =
    need (eqb (length problem % 4) 0) 4
    (problem_refusal door_limits 1 (door_room out) (bytes_words problem))

-- "It returns 0 and writes depth and option numbers as 32-bit words .. only 0 writes, and no byte past 4+4 times depth."
abbrev pub door_out : End → List Level → List ℕ → List ℕ
door_out solution s out = over (flat word_bytes (length s ∷ numbers s)) out
door_out exhausted s out = out
door_out paused s out = out

-- "0 .. or 20 for no such solution, or 21 when the allowance runs out"
abbrev pub door_walked : Walk → List ℕ → DoorOutcome
door_walked w out = record { result = end_number w.end; out = door_out w.end w.at out }

abbrev pub door_as : ℕ → Problem → ℕ → ℕ → List ℕ → DoorOutcome
door_as (suc k) P number allowance out = record { result = suc k; out = out }
door_as zero P number allowance out = door_walked (walk_to P (pick P) number allowance Ready []) out

unfoldable pub door_call : List ℕ → ℕ → ℕ → List ℕ → DoorOutcome
door_call problem number allowance out =
    door_as (door_refusal problem out) (meant (cut (bytes_words problem))) number allowance out

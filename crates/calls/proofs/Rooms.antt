-- 9's test of each call, by the shortest of the lent tables and the shortest of the lent lists. Assumes nothing.
use mathlib.Core.Path.{◌≡◌, refl, sym, ap, ◌∙◌}
use mathlib.Core.Bool.{Bool, true, false, ◌&&◌}
use mathlib.Core.List.{List}
use Prim.Native.Nat.{ℕ, ◌≤◌, min}
use native.Mathlib.Omega.{arith}
use native.Mathlib.Decide.{dec_le}
use borrow.Author.Tests.{le-leb, lt-leb}
use lib.Dec.{T, leb, leb→le}
use lib.IntN.{ℤ}
use lib.ListN.{length}
use Rattle.rules.specs.declared.Limits.{Limits}
use Rattle.rules.specs.declared.Sizes.{Sizes}
use Rattle.rules.specs.Problem.{cut, sizes, table_length, problem_refusal}
use Rattle.rules.specs.Calls.{SetUpLent, set_up_room, NextLent, next_room, GiveUpLent, give_up_room}
use Rattle.laws.specs.Lists.{and_left, and_right}
use Rattle.problem.specs.Room.{room}

leb_min : (x a b : ℕ) → leb x (min a b) ≡ (leb x a && leb x b)
leb_min x a b = by (dec_le x a) (dec_le x b)
  where
    by : Dec (x ≤ a) → Dec (x ≤ b) → leb x (min a b) ≡ (leb x a && leb x b)
    by (yes h) (yes k) = le-leb x (min a b) (omega arith) ∙ sym (rw (le-leb x a h, le-leb x b k))
    by (yes h) (no k) = lt-leb x (min a b) (omega arith) ∙ sym (rw (le-leb x a h, lt-leb x b (omega arith)))
    by (no h) k = lt-leb x (min a b) (omega arith) ∙ sym (rw (lt-leb x a (omega arith)))

and_assoc : (a b c : Bool) → ((a && b) && c) ≡ (a && (b && c))
and_assoc true b c = refl
and_assoc false b c = refl

pub room_parts : (tables lists : ℕ) (s : Sizes) → T (room tables lists s) → (table_length s ≤ tables) × (s.np ≤ lists)
room_parts tables lists s t =
    let a = leb (table_length s) tables in
    let b = leb s.np lists in
    (leb→le (table_length s) tables (and_left a b t), leb→le s.np lists (and_right a b t))

module _ (s : Sizes) where
  pub set_up_rooms : (l : SetUpLent) → set_up_room l s ≡ room (length l.table) (min (length l.path) (length l.profile)) s
  unfolding set_up_room
  set_up_rooms l =
      and_assoc (leb (table_length s) (length l.table)) (leb s.np (length l.path)) (leb s.np (length l.profile))
      ∙ ap (λ (b : Bool). leb (table_length s) (length l.table) && b) (sym (leb_min s.np (length l.path) (length l.profile)))

  pub give_up_rooms : (l : GiveUpLent) → give_up_room l s ≡ room (min (length l.table) (length l.spare)) (min (length l.path) (length l.path)) s
  unfolding give_up_room
  give_up_rooms l = rw (leb_min (table_length s) (length l.table) (length l.spare), leb_min s.np (length l.path) (length l.path)) (ap (λ (b : Bool). (leb (table_length s) (length l.table) && leb (table_length s) (length l.spare)) && b) (twice (leb s.np (length l.path))))
    where
      twice : (b : Bool) → b ≡ (b && b)
      twice true = refl
      twice false = refl

  pub next_rooms : (l : NextLent) → next_room l s ≡ room (min (length l.table) (length l.spare)) (min (length l.path) (min (length l.profile) (length l.found))) s
  unfolding next_room
  next_rooms l =
      rw (leb_min (table_length s) (length l.table) (length l.spare), leb_min s.np (length l.path) (min (length l.profile) (length l.found)), leb_min s.np (length l.profile) (length l.found))
      (three (leb (table_length s) (length l.table) && leb (table_length s) (length l.spare)) (leb s.np (length l.path)) (leb s.np (length l.profile)) (leb s.np (length l.found)))
    where
      three : (a b c d : Bool) → (((a && b) && c) && d) ≡ (a && (b && (c && d)))
      three true b c d = and_assoc b c d
      three false b c d = refl

-- the refusal depends on the room at the sizes alone
pub same_room : (L : Limits) (least : ℕ) (p q : Sizes → Bool) (ws : List ℤ) → p (sizes (cut ws)) ≡ q (sizes (cut ws)) → problem_refusal L least p ws ≡ problem_refusal L least q ws
unfolding problem_refusal
same_room L least p q ws e = rw e

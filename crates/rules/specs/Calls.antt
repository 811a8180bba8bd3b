-- The public calls, as functions of all that is passed and lent: the answer, which carries the state, and every lent word left behind.
use Rattle.std.specs.Prelude.{Bool, true, false, ◌&&◌, cond, List, [], ◌∷◌, ◌++◌, map, ℕ, zero, suc, ◌+◌, ◌-◌, min, eqb}
use Rattle.std.specs.Prelude.{leb, ℤ, pos, negsuc, length, replicate, take, drop, Option, None, Some, Result, Ok, Err}
use Rattle.rules.specs.declared.Phase.{Phase}
use Rattle.rules.specs.declared.Phase.TheVariants.{Ready, Solution, Done}
use Rattle.rules.specs.declared.State.{State}
use Rattle.rules.specs.declared.Refused.{Refused}
use Rattle.rules.specs.declared.NextAnswer.{NextAnswer}
use Rattle.rules.specs.declared.NextAnswer.TheVariants as NextSays
use Rattle.rules.specs.declared.Limits.{Limits}
use Rattle.rules.specs.declared.Sizes.{Sizes}
use Rattle.rules.specs.Lists.{each, tally, over, when, got}
use Rattle.rules.specs.Words.{same, same_words}
use Rattle.rules.specs.Problem.{Problem, Cut, cut, meant, sizes, table_length, need, first_of, problem_refusal}
use Rattle.rules.specs.Order.{Choice, Rule, node, choices, open_options, pick}
use Rattle.rules.specs.Links.{fresh, table}
use Rattle.rules.specs.Walk.{Level, Walk, End, solution, exhausted, paused, made, chosen, in_order, numbers, resume}

-- ---- counts

-- 2^63-1
abbrev pub cap : ℕ
cap = 9223372036854775807

-- "Updates and profile grow from the values lent; each is the true sum or 2^63-1, whichever is less."
abbrev pub capped : ℕ → ℕ → ℕ
capped a b = min (a + b) cap

-- refusal 11: "a count in the state, or in the first np words of a lent profile, above 2^63-1"
unfoldable pub counts_fit : State → List ℕ → Bool
counts_fit st profile = leb st.updates cap && each (λ c. leb c cap) profile

-- the profile's words from level l on, with the visits to those levels
unfoldable pub profile_from : ℕ → List ℕ → List ℕ → List ℕ
profile_from l visited [] = []
profile_from l visited (c ∷ cs) = capped c (tally (eqb l) visited) ∷ profile_from (suc l) visited cs

-- ---- states: the four places where one is made

-- "state ready, depth 0, updates 0"
abbrev pub blank : State
blank = record { phase = Ready; depth = 0; updates = 0 }

-- "From done it sets updates to 0 and starts over"
abbrev pub begun_again : State → State
begun_again st = blank

abbrev pub phase_after : End → Phase
phase_after solution = Solution
phase_after exhausted = Done
phase_after paused = Ready

-- where a walk leaves the state that it began with
abbrev pub moved : State → Walk → State
moved st w = record { phase = phase_after w.end; depth = length w.at; updates = capped st.updates w.updates }

-- Give-up "leaves ready at depth 0. Updates stand."
abbrev pub given_up : State → State
given_up st = record { phase = Ready; depth = 0; updates = st.updates }

-- the state that a walk begins with
abbrev pub started_in : Phase → State → State
started_in Ready st = st
started_in Solution st = st
started_in Done st = begun_again st

abbrev pub started : State → State
started st = started_in st.phase st

-- ---- a point of the search

-- the level at which the choice of node q is tried
unfoldable pub level_of : ℕ → List Choice → Option Level
level_of q [] = None
level_of q (c ∷ cs) = cond (eqb (node c) q) (Some (record { tried = c; left = cs })) (level_of q cs)

abbrev pub deeper : Option Level → List Level → (List Level → Option (List Level)) → Option (List Level)
deeper None s k = None
deeper (Some v) s k = k (v ∷ s)

-- "Ready asks an uncovered primary item, at a solution asks none"
abbrev pub phase_fits : Phase → Option ℕ → Bool
phase_fits Ready (Some i) = true
phase_fits Ready None = false
phase_fits Solution (Some i) = false
phase_fits Solution None = true
phase_fits Done i = true

-- "depth 0 to np"; "done asks depth 0"
abbrev pub depth_fits : Phase → ℕ → ℕ → Bool
depth_fits Ready np d = leb d np
depth_fits Solution np d = leb d np
depth_fits Done np d = eqb d 0

module _ (P : Problem) (rule : Rule) where
  abbrev pub taken : Option ℕ → List Level → ℕ → Option Level
  taken None s q = None
  taken (Some i) s q = level_of q (choices i (open_options P (chosen s)))

  -- the levels of a path below the point s: "each path node is in the item that the order rule takes there, in an option agreeing with those
  -- above"
  unfoldable pub levels : List ℤ → List Level → Option (List Level)
  levels [] s = Some s
  levels (negsuc k ∷ qs) s = None
  levels (pos q ∷ qs) s = deeper (taken (rule (chosen s)) s q) s (λ t. levels qs t)

  abbrev pub in_phase : Phase → Option (List Level) → Option (List Level)
  in_phase ph None = None
  in_phase ph (Some s) = when (phase_fits ph (rule (chosen s))) (Some s)

  -- The first half of the test for 10, with no table: the levels that phase, depth and the np path words say. "path words past depth are 0"
  unfoldable pub path_point : State → List ℤ → Option (List Level)
  path_point st path =
      when (depth_fits st.phase P.np st.depth && each (λ w. same w (pos 0)) (drop st.depth path))
      (in_phase st.phase (levels (take st.depth path) []))

  -- the second half: "the table equals set-up with those choices made"
  abbrev pub in_table : List ℤ → Option (List Level) → Option (List Level)
  in_table t None = None
  in_table t (Some s) = when (same_words t (table P (made s))) (Some s)

  -- the point that state, table and path are, if they are one
  unfoldable pub point : State → List ℤ → List ℤ → Option (List Level)
  point st t path = in_table t (path_point st path)

abbrev pub levels_or_top : Option (List Level) → List Level
levels_or_top None = []
levels_or_top (Some s) = s

-- ---- what the calls share

-- "the node tried at each level; words from depth to np-1 are 0"
unfoldable pub path_words : ℕ → List Level → List ℤ
path_words np s = in_order (λ c. pos (node c)) s ++ replicate (np - length s) (pos 0)

-- the point that was lent, by document 01's order rule
unfoldable pub lent_point : Cut → State → List ℤ → List ℤ → Option (List Level)
lent_point C st table path =
    point (meant C) (pick (meant C)) st (take (table_length (sizes C)) table) (take C.np path)

-- the refusals of a call on a search: those of the problem, then 11, then 10 where what was lent is no point
unfoldable pub search_refusal : Limits → (Sizes → Bool) → List ℤ → Bool → Option (List Level) → ℕ
search_refusal L room ws fit at =
    first_of (problem_refusal L 1 room ws)
    (need fit 11
    (need (got at) 10
    0))

-- "it holds the fresh set-up after refusal 10": every other refusal leaves it
abbrev pub spare_after : ℕ → Problem → List ℤ → List ℤ
spare_after k P spare = cond (eqb k 10) (over (fresh P) spare) spare

-- Document 01's number and values for each answer: 0, the door's 20 and 21, or the refusal's number; the visits; the state.
pub record Said : Type 0 where
  pub number : ℕ
  pub visits : ℕ
  pub state : State

abbrev pub end_number : End → ℕ
end_number solution = 0
end_number exhausted = 20
end_number paused = 21

abbrev pub refused_said : Refused → Said
refused_said r = record { number = r.number; visits = 0; state = r.state }

-- of Set-up and of Give-up
abbrev pub state_said : Result State Refused → Said
state_said (Ok st) = record { number = 0; visits = 0; state = st }
state_said (Err r) = refused_said r

-- of a walk
abbrev pub walk_said : NextAnswer → Said
walk_said (NextSays.Solution st v) = record { number = end_number solution; visits = v; state = st }
walk_said (NextSays.Exhausted st v) = record { number = end_number exhausted; visits = v; state = st }
walk_said (NextSays.Paused st v) = record { number = end_number paused; visits = v; state = st }

-- of Next
abbrev pub next_said : Result NextAnswer Refused → Said
next_said (Ok a) = walk_said a
next_said (Err r) = refused_said r

-- ---- Set-up

pub record SetUpLent : Type 0 where
  pub table : List ℤ
  pub path : List ℤ
  pub profile : List ℕ

pub record SetUpOutcome : Type 0 where
  pub answer : Result State Refused
  pub lent : SetUpLent

unfoldable pub set_up_room : SetUpLent → Sizes → Bool
set_up_room l s = leb (table_length s) (length l.table) && leb s.np (length l.path) && leb s.np (length l.profile)

-- "Set-up writes table, path and profile"; "set-up's refusal .. returns a ready state of zeros"
abbrev pub set_up_as : ℕ → Problem → SetUpLent → SetUpOutcome
set_up_as (suc k) P l = record { answer = Err (record { state = blank; number = suc k }); lent = l }
set_up_as zero P l = record {
  answer = Ok blank;
  lent = record {
    table = over (fresh P) l.table;
    path = over (path_words P.np []) l.path;
    profile = over (replicate P.np 0) l.profile;
  };
}

-- the number that Set-up refuses with, 0 for none
abbrev pub set_up_refusal : Limits → List ℤ → SetUpLent → ℕ
set_up_refusal L ws l = problem_refusal L 1 (set_up_room l) ws

unfoldable pub set_up_call : Limits → List ℤ → SetUpLent → SetUpOutcome
set_up_call L ws l = set_up_as (set_up_refusal L ws l) (meant (cut ws)) l

-- ---- Next

pub record NextLent : Type 0 where
  pub table : List ℤ
  pub spare : List ℤ
  pub path : List ℤ
  pub profile : List ℕ
  pub found : List ℤ

pub record NextOutcome : Type 0 where
  pub answer : Result NextAnswer Refused
  pub lent : NextLent

unfoldable pub next_room : NextLent → Sizes → Bool
next_room l s =
    leb (table_length s) (length l.table)
    && leb (table_length s) (length l.spare)
    && leb s.np (length l.path)
    && leb s.np (length l.profile)
    && leb s.np (length l.found)

-- "solution, exhausted or paused, each with the visits it made"
abbrev pub next_answer : End → State → ℕ → NextAnswer
next_answer solution st v = NextSays.Solution st v
next_answer exhausted st v = NextSays.Exhausted st v
next_answer paused st v = NextSays.Paused st v

-- "on a solution, its option numbers in the first depth words; every other word is unchanged"
abbrev pub found_words : End → List Level → List ℤ → List ℤ
found_words solution s old = over (map pos (numbers s)) old
found_words exhausted s old = old
found_words paused s old = old

-- what a walk from an accepted point leaves
abbrev pub walked : Problem → NextLent → State → Walk → NextOutcome
walked P l st w = record {
  answer = Ok (next_answer w.end (moved (started st) w) (length w.visited));
  lent = record {
    table = over (table P (made w.at)) l.table;
    spare = over (fresh P) l.spare;
    path = over (path_words P.np w.at) l.path;
    profile = over (profile_from 0 w.visited (take P.np l.profile)) l.profile;
    found = found_words w.end w.at l.found;
  };
}

-- "A refusal returns its number and the state it was given"
abbrev pub next_as : ℕ → Problem → NextLent → State → Option (List Level) → ℕ → NextOutcome
next_as (suc k) P l st at a = record {
  answer = Err (record { state = st; number = suc k });
  lent = record {
    table = l.table;
    spare = spare_after (suc k) P l.spare;
    path = l.path;
    profile = l.profile;
    found = l.found;
  };
}
next_as zero P l st at a = walked P l st (resume P (pick P) a st.phase (levels_or_top at))

-- the number that Next refuses with, by the counts and the point that it was lent
abbrev pub next_refusal : Limits → List ℤ → NextLent → State → ℕ
next_refusal L ws l st =
    search_refusal L (next_room l) ws (counts_fit st (take (cut ws).np l.profile))
    (lent_point (cut ws) st l.table l.path)

unfoldable pub next_call : Limits → List ℤ → NextLent → State → ℕ → NextOutcome
next_call L ws l st a =
    next_as (next_refusal L ws l st) (meant (cut ws)) l st (lent_point (cut ws) st l.table l.path) a

-- ---- Give-up

pub record GiveUpLent : Type 0 where
  pub table : List ℤ
  pub spare : List ℤ
  pub path : List ℤ

pub record GiveUpOutcome : Type 0 where
  pub answer : Result State Refused
  pub lent : GiveUpLent

unfoldable pub give_up_room : GiveUpLent → Sizes → Bool
give_up_room l s =
    leb (table_length s) (length l.table) && leb (table_length s) (length l.spare) && leb s.np (length l.path)

-- "undoes all choices, clears the path"
abbrev pub give_up_as : ℕ → Problem → GiveUpLent → State → GiveUpOutcome
give_up_as (suc k) P l st = record {
  answer = Err (record { state = st; number = suc k });
  lent = record { table = l.table; spare = spare_after (suc k) P l.spare; path = l.path };
}
give_up_as zero P l st = record {
  answer = Ok (given_up st);
  lent = record {
    table = over (fresh P) l.table;
    spare = over (fresh P) l.spare;
    path = over (path_words P.np []) l.path;
  };
}

-- the number that Give-up refuses with: it is lent no profile, so of the counts the updates alone are tested
abbrev pub give_up_refusal : Limits → List ℤ → GiveUpLent → State → ℕ
give_up_refusal L ws l st =
    search_refusal L (give_up_room l) ws (counts_fit st []) (lent_point (cut ws) st l.table l.path)

unfoldable pub give_up_call : Limits → List ℤ → GiveUpLent → State → GiveUpOutcome
give_up_call L ws l st = give_up_as (give_up_refusal L ws l st) (meant (cut ws)) l st

-- ---- Report

-- "depth long if the phase is at a solution and the list is long enough, else the empty part"
abbrev pub report_part : Phase → Bool → ℕ → List ℤ → List ℤ
report_part Solution true d found = take d found
report_part Solution false d found = []
report_part Ready b d found = []
report_part Done b d found = []

abbrev pub report_call : List ℤ → State → List ℤ
report_call found st = report_part st.phase (leb st.depth (length found)) st.depth found

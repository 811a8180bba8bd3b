-- What the tests of a call on a search answer, and what a run asks and leaves.
use Rattle.std.specs.Prelude.{◌≡◌, List, ℕ, zero, suc, ◌+◌, ◌<◌, ◌≤◌, min, ℤ, length, get_or, take, Result}
use Rattle.rules.specs.declared.NextAnswer.{NextAnswer}
use Rattle.rules.specs.declared.Sizes.{Sizes}
use Rattle.rules.specs.declared.State.{State}
use Rattle.rules.specs.Lists.{over, got}
use Rattle.rules.specs.Problem.{Problem, library_limits, cut, meant, sizes, table_length, fault, need, judged}
use Rattle.rules.specs.Links.{fresh, table as table_at}
use Rattle.rules.specs.Walk.{Walk, made}
use Rattle.rules.specs.Calls.{cap, counts_fit, profile_from, moved, started, path_words, lent_point, search_refusal, spare_after, next_answer, found_words}
use Rattle.problem.specs.Measured.{Measured}
use Rattle.problem.specs.Room.{room}
use Rattle.search.specs.Points.{Ran, SomeBegun}

-- words that are accepted, and room for table and path
pub record Laid (ws : List ℤ) (s : Sizes) (table path : List ℤ) : Type 0 where
  pub measured : Measured ws s
  pub faultless : fault (cut ws) ≡ 0
  pub small : (table_length s < 2147483648) × (s.options < 2147483648)
  pub table_room : table_length s ≤ length table
  pub path_room : s.np ≤ length path

-- parts of the stated lengths, of words that are accepted
pub record Parts (ws : List ℤ) (s : Sizes) (t spare path : List ℤ) : Type 0 where
  pub measured : Measured ws s
  pub faultless : fault (cut ws) ≡ 0
  pub small : (table_length s < 2147483648) × (s.options < 2147483648)
  pub t_long : length t ≡ table_length s
  pub spare_long : length spare ≡ table_length s
  pub path_long : length path ≡ s.np

-- 11 and 10, where the words are accepted
abbrev pub last_refusal : List ℤ → List ℤ → List ℤ → List ℕ → State → ℕ
last_refusal ws table path profile st =
    need (counts_fit st (take (cut ws).np profile)) 11
    (need (got (lent_point (cut ws) st table path)) 10
    0)

-- the spare after the tests: fresh where there is no refusal, and at 10
abbrev pub spare_by : ℕ → Problem → List ℤ → List ℤ
spare_by zero P spare = over (fresh P) spare
spare_by (suc k) P spare = spare_after (suc k) P spare

pub record Pointed (ws table spare path : List ℤ) (profile : List ℕ) (s : Sizes) (st : State) (r : Result Sizes ℕ)
    (spare' : List ℤ) : Type 0 where
  pub answer : r ≡ judged (last_refusal ws table path profile st) s
  pub spare_is : spare' ≡ spare_by (last_refusal ws table path profile st) (meant (cut ws)) spare

-- the refusal of a call on a search that is lent these lists, of which the shortest beside table, spare and path has `more` words
unfoldable pub refusal : List ℤ → List ℤ → List ℤ → List ℤ → List ℕ → ℕ → State → ℕ
refusal ws table spare path profile more st =
    search_refusal library_limits (room (min (length table) (length spare)) (min (length path) more)) ws
    (counts_fit st (take (cut ws).np profile)) (lent_point (cut ws) st table path)

pub record Tested (ws table spare path : List ℤ) (profile : List ℕ) (more : ℕ) (st : State) (r : Result Sizes ℕ)
    (spare' : List ℤ) : Type 0 where
  pub answer : r ≡ judged (refusal ws table spare path profile more st) (sizes (cut ws))
  pub spare_is : spare' ≡ spare_by (refusal ws table spare path profile more st) (meant (cut ws)) spare

-- ---- what a call that is accepted writes

-- a walk that wrote the options found
pub record Wrote (P : Problem) (n : ℕ) (w : Walk) (st : State) (profile : List ℕ) (found t path : List ℤ) (profile' : List ℕ) (found' : List ℤ) (r : NextAnswer) : Type 0 where
  pub ran : Ran P n w st profile t path profile' r
  pub found_is : found' ≡ found_words w.end w.at found

-- lists whose fronts are those of a point of the search, with counts within the cap
pub record Fronts (s : Sizes) (table path : List ℤ) (profile : List ℕ) (found : List ℤ) (st : State) : Type 0 where
  pub small : table_length s < 2147483648
  pub table_room : table_length s ≤ length table
  pub path_room : s.np ≤ length path
  pub profile_room : s.np ≤ length profile
  pub found_room : s.np ≤ length found
  pub updates_fit : st.updates ≤ cap
  pub profile_fits : (k : ℕ) → get_or (take s.np profile) k 0 ≤ cap
  pub begun : SomeBegun (s.np + s.ns) (take (table_length s) table) (take s.np path) st

-- what the walk w leaves of them
pub record WroteFronts (P : Problem) (s : Sizes) (w : Walk) (st : State) (table path : List ℤ) (profile : List ℕ) (found table' path' : List ℤ) (profile' : List ℕ) (found' : List ℤ) (r : NextAnswer) : Type 0 where
  pub answer : r ≡ next_answer w.end (moved (started st) w) (length w.visited)
  pub table_is : table' ≡ over (table_at P (made w.at)) table
  pub path_is : path' ≡ over (path_words P.np w.at) path
  pub profile_is : profile' ≡ over (profile_from 0 w.visited (take s.np profile)) profile
  pub found_is : found' ≡ found_words w.end w.at found

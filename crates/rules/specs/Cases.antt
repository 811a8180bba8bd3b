-- Document 01's examples P1 to P12, by the calls and at the host door, as one list of data, and the theorem that the
-- outcome functions give what it says.
use Rattle.std.specs.Prelude.{◌≡◌, refl, Bool, true, false, ◌&&◌, List, [], ◌∷◌, ◌++◌, map, ℕ, zero, suc, ◌+◌, ◌*◌, eqb, ℤ, pos, negsuc, length, replicate, take, drop, Option, None, Some}
use Rattle.rules.specs.declared.Phase.{Phase}
use Rattle.rules.specs.declared.Phase.TheVariants.{Ready, Solution, Done}
use Rattle.rules.specs.declared.State.{State}
use Rattle.rules.specs.Lists as Lists
use Rattle.rules.specs.Words as Words
use Rattle.rules.specs.Problem as Problem
use Rattle.rules.specs.Order as Order
use Rattle.rules.specs.Links as Links
use Rattle.rules.specs.Walk as Walk
use Rattle.rules.specs.Calls as Calls
use Rattle.rules.specs.Door as Door
use Rattle.rules.specs.Door.{DoorOutcome, door_call}
use Rattle.rules.specs.Words.{same_words}
use Rattle.rules.specs.Problem.{Cut, Problem, library_limits, cut, meant, sizes, table_length}
use Rattle.rules.specs.Order.{pick}
use Rattle.rules.specs.Links.{fresh}
use Rattle.rules.specs.Walk.{Level, End, solution, exhausted, paused, numbers}
use Rattle.rules.specs.Calls.{Said, SetUpLent, SetUpOutcome, set_up_call, state_said, NextLent, NextOutcome, next_call}
use Rattle.rules.specs.Calls.{next_said, end_number, phase_after, levels, report_call}

-- ---- the cases

-- A call of Next: how it ends, its visits, the options on the path, the updates and the profile after it.
pub record Call : Type 0 where
  pub allowance : ℕ
  pub end : End
  pub visits : ℕ
  pub options : List ℕ
  pub updates : ℕ
  pub profile : List ℕ

abbrev call : ℕ → End → ℕ → List ℕ → ℕ → List ℕ → Call
call a e v o u f = record { allowance = a; end = e; visits = v; options = o; updates = u; profile = f }

pub data Case : Type 0 where
  -- the words are set up, and these calls of Next follow
  calls : List ℕ → List Call → Case
  -- set-up writes this table
  sets_up : List ℕ → List ℤ → Case
  -- set-up refuses the words with this number
  refuses : List ℕ → ℕ → Case
  -- lent the words as bytes, a solution's number and an allowance, the door answers this number, and writes these bytes
  at_door : List ℕ → ℕ → ℕ → ℕ → List ℕ → Case

p1_words : List ℕ
p1_words =
    7 ∷ 0 ∷ 6
    ∷ 2 ∷ 2 ∷ 0 ∷ 4 ∷ 0
    ∷ 3 ∷ 0 ∷ 0 ∷ 3 ∷ 0 ∷ 6 ∷ 0
    ∷ 3 ∷ 1 ∷ 0 ∷ 2 ∷ 0 ∷ 5 ∷ 0
    ∷ 3 ∷ 0 ∷ 0 ∷ 3 ∷ 0 ∷ 5 ∷ 0
    ∷ 2 ∷ 1 ∷ 0 ∷ 6 ∷ 0
    ∷ 3 ∷ 3 ∷ 0 ∷ 4 ∷ 0 ∷ 6 ∷ 0
    ∷ []

p3_words : List ℕ
p3_words = 1 ∷ 0 ∷ 1 ∷ 1 ∷ 0 ∷ 0 ∷ []

p4_words : List ℕ
p4_words = 1 ∷ 0 ∷ 2 ∷ 1 ∷ 0 ∷ 0 ∷ 1 ∷ 0 ∷ 0 ∷ []

p5_words : List ℕ
p5_words = 2 ∷ 0 ∷ 1 ∷ 1 ∷ 0 ∷ 0 ∷ []

p6_words : List ℕ
p6_words = 2 ∷ 1 ∷ 4 ∷ 2 ∷ 0 ∷ 0 ∷ 2 ∷ 5 ∷ 2 ∷ 1 ∷ 0 ∷ 2 ∷ 5 ∷ 2 ∷ 1 ∷ 0 ∷ 2 ∷ 6 ∷ 2 ∷ 1 ∷ 0 ∷ 2 ∷ 0 ∷ []

p7_words : List ℕ
p7_words = 2 ∷ 1 ∷ 2 ∷ 2 ∷ 0 ∷ 0 ∷ 2 ∷ 0 ∷ 2 ∷ 1 ∷ 0 ∷ 2 ∷ 0 ∷ []

p8_words : List ℕ
p8_words = 1 ∷ 1 ∷ 2 ∷ 1 ∷ 1 ∷ 0 ∷ 1 ∷ 0 ∷ 0 ∷ []

p9_words : List ℕ
p9_words = 1 ∷ 1 ∷ 1 ∷ 1 ∷ 1 ∷ 0 ∷ []

p10_words : List ℕ
p10_words = 1 ∷ 0 ∷ 1 ∷ 1 ∷ 1 ∷ 0 ∷ []

p11_words : List ℕ
p11_words = 1 ∷ 1 ∷ 1 ∷ 3 ∷ 0 ∷ 0 ∷ 1 ∷ 5 ∷ 1 ∷ 6 ∷ []

p12_words : List ℕ
p12_words = 1 ∷ 0 ∷ 1 ∷ 1 ∷ 0 ∷ 7 ∷ []

pub p_cases : List Case
unfolding p1_words p3_words p4_words p5_words p6_words p7_words p8_words p9_words p10_words p11_words p12_words
p_cases =
    -- P1
    calls p1_words
    (call 100 solution 5 (3 ∷ 4 ∷ 0 ∷ []) 28 (1 ∷ 2 ∷ 2 ∷ 0 ∷ 0 ∷ 0 ∷ 0 ∷ [])
    ∷ call 100 exhausted 0 [] 28 (1 ∷ 2 ∷ 2 ∷ 0 ∷ 0 ∷ 0 ∷ 0 ∷ [])
    ∷ [])
    -- P2
    ∷ calls p1_words
    (call 2 paused 2 (1 ∷ 2 ∷ []) 16 (1 ∷ 1 ∷ 0 ∷ 0 ∷ 0 ∷ 0 ∷ 0 ∷ [])
    ∷ call 0 paused 0 (1 ∷ 2 ∷ []) 16 (1 ∷ 1 ∷ 0 ∷ 0 ∷ 0 ∷ 0 ∷ 0 ∷ [])
    ∷ [])
    -- P3
    ∷ calls p3_words
    (call 9 solution 1 (0 ∷ []) 1 (1 ∷ []) ∷ call 9 exhausted 0 [] 1 (1 ∷ []) ∷ call 9 solution 1 (0 ∷ []) 1 (2 ∷ []) ∷ [])
    -- P4
    ∷ calls p4_words
    (call 9 solution 1 (0 ∷ []) 1 (1 ∷ []) ∷ call 9 solution 0 (1 ∷ []) 1 (1 ∷ []) ∷ call 9 exhausted 0 [] 1 (1 ∷ []) ∷ [])
    -- P5
    ∷ calls p5_words (call 9 exhausted 1 [] 0 (1 ∷ 0 ∷ []) ∷ [])
    -- P6
    ∷ calls p6_words
    (call 9 solution 2 (0 ∷ 1 ∷ []) 5 (1 ∷ 1 ∷ []) ∷ call 9 exhausted 0 [] 5 (1 ∷ 1 ∷ []) ∷ [])
    -- P7
    ∷ calls p7_words (call 9 exhausted 2 [] 4 (1 ∷ 1 ∷ []) ∷ [])
    -- P8
    ∷ calls p8_words (call 9 solution 1 (1 ∷ []) 1 (1 ∷ []) ∷ [])
    ∷ sets_up p8_words
    (map pos (1 ∷ 1 ∷ 0 ∷ 0 ∷ 3 ∷ 3 ∷ 2 ∷ 2 ∷ [])
    ++ map pos (0 ∷ 0 ∷ 0 ∷ 0 ∷ 1 ∷ 4 ∷ 4 ∷ 0 ∷ 0 ∷ 2 ∷ 2 ∷ 0 ∷ 0 ∷ 0 ∷ 4 ∷ 0 ∷ 1 ∷ 1 ∷ 1 ∷ 0 ∷ [])
    ++ negsuc 1 ∷ map pos (4 ∷ 0 ∷ 0 ∷ []))
    -- P9
    ∷ calls p9_words (call 9 exhausted 1 [] 0 (1 ∷ []) ∷ [])
    -- P10, P11, P12
    ∷ refuses p10_words 5
    ∷ refuses p11_words 6
    ∷ refuses p12_words 7
    -- at the door: P1's one solution takes 5 visits, and so does the whole tree
    ∷ at_door p1_words 0 5 0 (3 ∷ 0 ∷ 0 ∷ 0 ∷ 3 ∷ 0 ∷ 0 ∷ 0 ∷ 4 ∷ 0 ∷ 0 ∷ 0 ∷ 0 ∷ 0 ∷ 0 ∷ 0 ∷ [])
    ∷ at_door p1_words 0 4 21 []
    ∷ at_door p1_words 1 5 20 []
    -- P2
    ∷ at_door p1_words 0 2 21 []
    ∷ at_door p1_words 0 0 21 []
    -- P3: after its one solution the door does not start over
    ∷ at_door p3_words 0 1 0 (1 ∷ 0 ∷ 0 ∷ 0 ∷ 0 ∷ 0 ∷ 0 ∷ 0 ∷ [])
    ∷ at_door p3_words 0 0 21 []
    ∷ at_door p3_words 2 9 20 []
    -- P4
    ∷ at_door p4_words 1 1 0 (1 ∷ 0 ∷ 0 ∷ 0 ∷ 1 ∷ 0 ∷ 0 ∷ 0 ∷ [])
    ∷ at_door p4_words 2 1 20 []
    -- P5
    ∷ at_door p5_words 0 1 20 []
    ∷ at_door p5_words 0 0 21 []
    -- P6
    ∷ at_door p6_words 0 2 0 (2 ∷ 0 ∷ 0 ∷ 0 ∷ 0 ∷ 0 ∷ 0 ∷ 0 ∷ 1 ∷ 0 ∷ 0 ∷ 0 ∷ [])
    ∷ at_door p6_words 1 2 20 []
    -- P7
    ∷ at_door p7_words 0 2 20 []
    -- P8
    ∷ at_door p8_words 0 1 0 (1 ∷ 0 ∷ 0 ∷ 0 ∷ 1 ∷ 0 ∷ 0 ∷ 0 ∷ [])
    -- P9
    ∷ at_door p9_words 0 1 20 []
    -- P10, P11, P12
    ∷ at_door p10_words 0 9 5 []
    ∷ at_door p11_words 0 9 6 []
    ∷ at_door p12_words 0 9 7 []
    ∷ []

-- ---- what a case says

-- lent lists are one word longer than they need be, and hold sevens
abbrev sevens : ℕ → List ℤ
sevens n = replicate (n + 1) (pos 7)

-- the list holds these words, and then a seven
abbrev holds_words : List ℤ → List ℤ → Bool
holds_words l ws = same_words l (ws ++ pos 7 ∷ [])

abbrev counts : List ℕ → List ℤ
counts = map pos

-- the word past the first n is still a seven
abbrev seven_past : ℕ → List ℤ → Bool
seven_past n l = same_words (drop n l) (pos 7 ∷ [])

abbrev same_phase : Phase → Phase → Bool
same_phase Ready Ready = true
same_phase Ready Solution = false
same_phase Ready Done = false
same_phase Solution Ready = false
same_phase Solution Solution = true
same_phase Solution Done = false
same_phase Done Ready = false
same_phase Done Solution = false
same_phase Done Done = true

abbrev same_state : State → Phase → ℕ → ℕ → Bool
same_state st ph d u = same_phase st.phase ph && eqb st.depth d && eqb st.updates u

abbrev on_path : Option (List Level) → List ℕ
on_path None = []
on_path (Some s) = numbers s

-- what Report hands back
abbrev reported : End → List ℕ → List ℤ
reported solution o = counts o
reported exhausted o = []
reported paused o = []

-- no word changed, which is asked of a pause with no visit
abbrev unchanged : End → ℕ → NextLent → NextLent → Bool
unchanged paused zero l l' =
    same_words l.table l'.table
    && same_words l.spare l'.spare
    && same_words l.path l'.path
    && same_words (counts l.profile) (counts l'.profile)
    && same_words l.found l'.found
unchanged paused (suc v) l l' = true
unchanged solution v l l' = true
unchanged exhausted v l l' = true

unfoldable pub as_called : Cut → Call → NextLent → NextOutcome → Bool
as_called C c l o =
    let P : Problem = meant C in
    let said : Said = next_said o.answer in
    let l' : NextLent = o.lent in
    eqb said.number (end_number c.end)
    && eqb said.visits c.visits
    && same_state said.state (phase_after c.end) (length c.options) c.updates
    && same_words (counts (on_path (levels P (pick P) (take (length c.options) l'.path) []))) (counts c.options)
    && same_words (report_call l'.found said.state) (reported c.end c.options)
    && holds_words (counts l'.profile) (counts c.profile)
    && holds_words l'.spare (fresh P)
    && seven_past (table_length (sizes C)) l'.table
    && seven_past C.np l'.path
    && seven_past C.np l'.found
    && unchanged c.end c.visits l l'

unfoldable pub as_calls : Cut → List ℤ → State → NextLent → List Call → Bool
as_calls C ws st l [] = true
as_calls C ws st l (c ∷ cs) =
    let o : NextOutcome = next_call library_limits ws l st c.allowance in
    as_called C c l o && as_calls C ws (next_said o.answer).state o.lent cs

abbrev blank_lent : Cut → SetUpLent
blank_lent C = record { table = sevens (table_length (sizes C)); path = sevens C.np; profile = replicate (C.np + 1) 7 }

abbrev next_lent : Cut → SetUpLent → NextLent
next_lent C l = record {
  table = l.table;
  spare = sevens (table_length (sizes C));
  path = l.path;
  profile = l.profile;
  found = sevens C.np;
}

abbrev set_up_is : Cut → SetUpOutcome → ℕ → List ℤ → List ℤ → List ℤ → Bool
set_up_is C o k t p f =
    eqb (state_said o.answer).number k
    && same_state (state_said o.answer).state Ready 0 0
    && holds_words o.lent.table t
    && holds_words o.lent.path p
    && holds_words (counts o.lent.profile) f

unfoldable pub holds : Case → Bool
holds (calls ns cs) =
    let C : Cut = cut (counts ns) in
    let o : SetUpOutcome = set_up_call library_limits (counts ns) (blank_lent C) in
    as_calls C (counts ns) (state_said o.answer).state (next_lent C o.lent) cs
holds (sets_up ns t) =
    let C : Cut = cut (counts ns) in
    let zeros : List ℤ = replicate C.np (pos 0) in
    set_up_is C (set_up_call library_limits (counts ns) (blank_lent C)) 0 t zeros zeros
holds (refuses ns k) =
    let C : Cut = cut (counts ns) in
    let old : List ℤ = replicate C.np (pos 7) in
    set_up_is C (set_up_call library_limits (counts ns) (blank_lent C)) k (replicate (table_length (sizes C)) (pos 7)) old old
holds (at_door ns k a r bytes) =
    let out : List ℕ = replicate (4 + 4 * (cut (counts ns)).np + 1) 7 in
    let o : DoorOutcome = door_call (Lists.flat Words.word_bytes ns) k a out in
    eqb o.result r && same_words (counts o.out) (counts (Lists.over bytes out))

-- P1 to P12 are as document 01 says.
pub p_cases_hold : Lists.each holds p_cases ≡ true
unfolding p_cases holds as_called as_calls Lists.keep Lists.each Lists.has Lists.tally Lists.flat Lists.run Words.same_words Problem.entry_count Problem.pairs Problem.cut_options Problem.parts Problem.cut Problem.count_pairs Problem.cut_refusal Problem.entry_fault Problem.option_fault Problem.options_fault Problem.fault Problem.pairs_kept Problem.sizes Problem.problem_refusal Problem.meant Order.has_item Order.agree Order.kept Order.place Order.placed Order.open_options Order.open_items Order.place_of Order.choices Order.least_from Order.pick Links.nodes_from Links.previous Links.following Links.last_or Links.column Links.left_of Links.right_of Links.ring_words Links.header_words Links.node_words Links.last_node Links.option_words Links.fresh Links.cost Links.apply Links.others Links.linked Links.hide Links.touch Links.commit Links.try Links.choose Links.committed Links.held Links.events Links.table Walk.in_order Walk.retreat Walk.enter Walk.walk Walk.resume Calls.counts_fit Calls.profile_from Calls.level_of Calls.levels Calls.path_point Calls.point Calls.path_words Calls.lent_point Calls.search_refusal Calls.set_up_room Calls.set_up_call Calls.next_room Calls.next_call Words.bytes_words Door.walk_to Door.door_refusal Door.door_call
p_cases_hold = refl

-- Lent words that are written twice hold what was written last.
use Rattle.std.specs.Prelude.{◌≡◌, List, ◌++◌, ℕ, ◌≤◌, ℤ, length, take}
use Rattle.std.proofs.Common.{sym, ◌∙◌, length-take-le}
use Rattle.rules.specs.Lists.{over}
use Rattle.rules.specs.Problem.{Problem}
use Rattle.rules.specs.Order.{Choice}
use Rattle.rules.specs.Links.{table}
use Rattle.rules.specs.Walk.{Level}
use Rattle.rules.specs.Calls.{profile_from, path_words}
use Rattle.laws.specs.Reached.{path_length}
use Rattle.knuth.specs.Lists.{take_over, over_over}
use Rattle.tables.specs.Sizes.{table_same}
use Rattle.knuth.specs.Counts.{profile_length, profile_twice}

pub table_twice : (P : Problem) (cs cs' : List Choice) (t : List ℤ) → over (table P cs') (over (table P cs) t) ≡ over (table P cs') t
table_twice P cs cs' t = over_over (table P cs') (table P cs) t (table_same P cs ∙ sym (table_same P cs'))

pub path_twice : (np : ℕ) (s s' : List Level) (p : List ℤ) → length s ≤ np → length s' ≤ np → over (path_words np s') (over (path_words np s) p) ≡ over (path_words np s') p
path_twice np s s' p h h' = over_over (path_words np s') (path_words np s) p (path_length np s h ∙ sym (path_length np s' h'))

-- the profile grows by the visits of both
pub counted_twice : (np : ℕ) (v w : List ℕ) (f : List ℕ) → np ≤ length f
    → let g : List ℕ = over (profile_from 0 v (take np f)) f in over (profile_from 0 w (take np g)) g ≡ over (profile_from 0 (v ++ w) (take np f)) f
counted_twice np v w f h =
    let x : List ℕ = profile_from 0 v (take np f) in
    let long : length x ≡ np = profile_length v 0 (take np f) ∙ length-take-le np f h in
    rw (take_over np x f long, profile_twice v w 0 (take np f))
    (over_over (profile_from 0 (v ++ w) (take np f)) x f (profile_length v 0 (take np f) ∙ sym (profile_length (v ++ w) 0 (take np f))))

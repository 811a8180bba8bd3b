-- Words that are accepted, and the point that was lent. Assumes nothing.
use mathlib.Core.Path.{◌≡◌, sym, ap, ◌∙◌}
use Rattle.std.specs.Prelude.{Some}
use mathlib.Core.List.{List}
use Prim.Native.Nat.{ℕ, ◌+◌, ◌≤◌, ◌<◌}
use lib.Dec.{T}
use lib.IntN.{ℤ}
use lib.ListN.{length, take}
use lib.Seq.{length-take-le}
use Rattle.rules.specs.declared.Sizes.{Sizes}
use Rattle.rules.specs.declared.State.{State}
use Rattle.rules.specs.Problem.{cut, meant, sizes, table_length, fault}
use Rattle.rules.specs.Links.{fresh}
use Rattle.rules.specs.Walk.{Level}
use Rattle.rules.specs.Calls.{counts_fit, lent_point}
use Rattle.laws.specs.Faults.{good_meant}
use Rattle.problem.specs.Measured.{Measured}
use Rattle.search.specs.Points.{Begun}
use Rattle.search.specs.Begun.{point_begun, counts_begun}
use Rattle.search.specs.Meant.{np_meant, n_meant, few_nodes, fresh_top}
use Rattle.search.specs.Replays.{Testing}
use Rattle.calls.specs.Tested.{Laid, Parts, Fronts}

-- the point that was lent
pub begun : (ws : List ℤ) (s : Sizes) (M : Measured ws s) → fault (cut ws) ≡ 0 → table_length s < 2147483648 → (st : State) (lent path : List ℤ) → s.np ≤ length path
    → {v : List Level} → lent_point (cut ws) st lent path ≡ Some v → Begun (meant (cut ws)) (s.np + s.ns) v (take (table_length s) lent) (take s.np path) st
unfolding lent_point sizes cut meant
begun ws s M f small st lent path h e =
    point_begun st (take (table_length s) lent) (take s.np path) (good_meant (cut ws) f) (few_nodes ws s M f small) (n_meant ws s M) (length-take-le s.np path h ∙ sym (np_meant ws s M)) (rw M.are e)

pub testing : (ws : List ℤ) (s : Sizes) (t spare path spare' : List ℤ) → Parts ws s t spare path → length spare' ≡ length spare → spare' ≡ fresh (meant (cut ws))
    → Testing (meant (cut ws)) (s.np + s.ns) t spare' path
testing ws s t spare path spare' G l e = record {
  fresh = fresh_top ws s G.measured G.faultless G.small.0 e;
  long = G.path_long ∙ sym (np_meant ws s G.measured);
  even = G.t_long ∙ sym G.spare_long ∙ sym l;
}

-- lists whose fronts are the point's
pub fronts : (ws : List ℤ) (s : Sizes) (lent path : List ℤ) (profile : List ℕ) (found : List ℤ) (st : State) {v : List Level} → Laid ws s lent path → s.np ≤ length profile → s.np ≤ length found
    → T (counts_fit st (take (cut ws).np profile)) → lent_point (cut ws) st lent path ≡ Some v → Fronts s lent path profile found st
unfolding sizes cut
fronts ws s lent path profile found st {v} L hp hf t e =
    let c = counts_begun st (take (cut ws).np profile) t in
    record {
      small = L.small.0;
      table_room = L.table_room;
      path_room = L.path_room;
      profile_room = hp;
      found_room = hf;
      updates_fit = c.0;
      profile_fits = rw (ap (λ (x : Sizes). x.np) L.measured.are) c.1.small;
      begun = (meant (cut ws), v, begun ws s L.measured L.faultless L.small.0 st lent path L.path_room e);
    }

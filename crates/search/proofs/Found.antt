-- The option numbers of a point, written from the deepest level up.
use mathlib.Core.Path.{◌≡◌, refl, sym, ap, ◌∙◌}
use mathlib.Core.List.{List, [], ◌∷◌, map}
use Prim.Native.Nat.{ℕ, ◌-◌, ◌≤◌, ◌<◌}
use native.Mathlib.Omega.{arith}
use lib.IntN.{ℤ, pos}
use lib.ListN.{length, set}
use Rattle.rules.specs.Lists.{over}
use Rattle.rules.specs.Problem.{Problem}
use Rattle.rules.specs.Order.{node, pick}
use Rattle.rules.specs.Links.{held}
use Rattle.rules.specs.Walk.{Level, made, in_order, numbers}
use Rattle.rules.specs.Words.{word}
use Rattle.laws.specs.Reached.{Reached}
use Rattle.words.specs.Read.{Natural, Link}
use Rattle.links.specs.Moves.{IsNode}
use Rattle.search.specs.Points.{At, On}
use Rattle.search.specs.Replays.{Trail}
use Rattle.search.proofs.Choosing.{shown}
use Rattle.search.proofs.Levels.{tries, is_node}
use Rattle.search.proofs.Written.{path_trail, over_numbers}

-- the numbers of the levels `top` are to come
pub record Writing (P : Problem) (s : List Level) (path : List ℤ) (l : ℕ) (found₀ found : List ℤ) : Type 0 where
  pub top : List Level
  pub reached : Reached P (pick P) top
  pub trail : Trail path top
  pub level : l ≡ length top
  pub same : over (map pos (numbers s)) found₀ ≡ over (map pos (numbers top)) found

pub writing : {P : Problem} {n : ℕ} {s : List Level} {t path : List ℤ} {l : ℕ} (found : List ℤ) → On P n s t path l → Writing P s path l found found
writing {s = s} found O = record {
  top = s;
  reached = O.at.reached;
  trail = path_trail O;
  level = O.level;
  same = refl;
}

-- the deepest of them, v
pub record Line (P : Problem) (n : ℕ) (s : List Level) (t path : List ℤ) (l : ℕ) (found₀ found : List ℤ) : Type 0 where
  pub v : Level
  pub inside : l < length path
  pub natural : Natural path l
  pub is_node : {x : ℕ} → Link path l x → IsNode P (held (made s)) n t v.tried x
  pub next : {found' : List ℤ} → found' ≡ set found l (pos v.tried.option.number) → l < length found → Writing P s path l found₀ found'

pub line : {P : Problem} {n : ℕ} {s : List Level} {t path : List ℤ} {l : ℕ} {found₀ found : List ℤ} → At P n s t
    → Writing P s path l found₀ found → 0 < l → Line P n s t path (l - 1) found₀ found
line {P} {n} {s} {t} {path} {l} {found₀} {found} A W some = step W.top W.reached W.trail W.level W.same
  where
    step : (top : List Level) → Reached P (pick P) top → Trail path top → l ≡ length top → over (map pos (numbers s)) found₀ ≡ over (map pos (numbers top)) found → Line P n s t path (l - 1) found₀ found
    step [] r q e f = absurd (omega arith)
    step (v ∷ top) r q e f =
        let d : l - 1 ≡ length top = omega arith in
        let w : word path (l - 1) ≡ pos (node v.tried) = rw d q.1 in
        record {
          v = v;
          inside = rw d q.0;
          natural = rw w tt;
          is_node = λ {x} k. let z : pos x ≡ pos (node v.tried) = sym k.word_is ∙ w in let y : x ≡ node v.tried = cc in rw (y, A.n_is) (is_node P A.good A.small r (shown A));
          next = λ {found'} h k. record {
            top = top;
            reached = (tries r).reached;
            trail = q.2;
            level = d;
            same = f ∙ over_numbers v top found (omega arith) ∙ ap (λ (z : List ℤ). over (map pos (numbers top)) z) (sym (h ∙ ap (λ (i : ℕ). set found i (pos v.tried.option.number)) d));
          };
        }

pub written : {P : Problem} {s : List Level} {path : List ℤ} {l : ℕ} {found₀ found : List ℤ}
    → Writing P s path l found₀ found → l ≤ 0 → found ≡ over (map pos (numbers s)) found₀
unfolding in_order
written {s = s} {l = l} {found₀ = found₀} {found = found} W z = step W.top W.level W.same
  where
    step : (top : List Level) → l ≡ length top → over (map pos (numbers s)) found₀ ≡ over (map pos (numbers top)) found → found ≡ over (map pos (numbers s)) found₀
    step [] e f = sym f
    step (v ∷ top) e f = absurd (omega arith)

-- The words that a point's levels write: the path, and the option numbers.
use mathlib.Core.Path.{◌≡◌, refl, sym, ap, ◌∙◌}
use mathlib.Core.List.{List, [], ◌∷◌, ◌++◌, map, map-append, append_assoc}
use Prim.Native.Nat.{ℕ, suc, ◌-◌, ◌≤◌, ◌<◌}
use native.Mathlib.Omega.{arith}
use lib.IntN.{ℤ, pos}
use lib.ListN.{length, set, drop, replicate, length-append}
use lib.Seq.{set_at, get_or_at, drop-cons, drop-set-add}
use native.Mathlib.Nat.{add-zero}
use Rattle.rules.specs.Lists.{over}
use Rattle.rules.specs.Words.{word}
use Rattle.rules.specs.Problem.{Problem}
use Rattle.rules.specs.Order.{Choice, node}
use Rattle.rules.specs.Walk.{Level, in_order, numbers}
use Rattle.rules.specs.Calls.{path_words}
use Rattle.laws.specs.Reached.{in_order_length}
use Rattle.search.specs.Depth.{level_within}
use Rattle.search.specs.Points.{On}
use Rattle.search.specs.Replays.{Trail}

module _ {A : Type 0} (f : Choice → A) where
  in_order_map : {B : Type 0} (g : A → B) (s : List Level) → map g (in_order f s) ≡ in_order (λ c. g (f c)) s
  unfolding in_order
  in_order_map g [] = refl
  in_order_map g (v ∷ s) = map-append g (in_order f s) (f v.tried ∷ []) ∙ ap (λ (l : List _). l ++ g (f v.tried) ∷ []) (in_order_map g s)

  -- the levels above are written first
  in_order_split : (deep : List Level) (v : Level) (top : List Level) → (later : List A) × (in_order f (deep ++ v ∷ top) ≡ in_order f top ++ f v.tried ∷ later)
  unfolding in_order
  in_order_split [] v top = ([], refl)
  in_order_split (w ∷ deep) v top =
      let r = in_order_split deep v top in
      (r.0 ++ f w.tried ∷ [], ap (λ (l : List A). l ++ f w.tried ∷ []) r.1 ∙ append_assoc (in_order f top) (f v.tried ∷ r.0) (f w.tried ∷ []))

-- ---- the path

abbrev nodes_of : List Level → List ℤ
nodes_of s = in_order (λ c. pos (node c)) s

nodes_length : (s : List Level) → length (nodes_of s) ≡ length s
nodes_length s = in_order_length (λ c. pos (node c)) s

-- the words at and after a level where nothing is tried
abbrev blank_after : ℕ → List Level → List ℤ
blank_after np s = replicate (np - suc (length s)) (pos 0)

above_is : (np : ℕ) (s : List Level) → length s < np → path_words np s ≡ nodes_of s ++ pos 0 ∷ blank_after np s
unfolding path_words
above_is np s h = ap (λ (k : ℕ). nodes_of s ++ replicate k (pos 0)) (let e : np - length s ≡ suc (np - suc (length s)) = omega arith in e)

below_is : (np : ℕ) (v : Level) (s : List Level) → path_words np (v ∷ s) ≡ nodes_of s ++ pos (node v.tried) ∷ blank_after np s
unfolding path_words in_order
below_is np v s = append_assoc (nodes_of s) (pos (node v.tried) ∷ []) (blank_after np s)

module _ (np : ℕ) (v : Level) (s : List Level) where
  -- a level more
  pub path_more : length s < np → set (path_words np s) (length s) (pos (node v.tried)) ≡ path_words np (v ∷ s)
  path_more h = rw (above_is np s h, below_is np v s) (set_at (nodes_of s) (pos 0) (blank_after np s) (pos (node v.tried)) (length s) (nodes_length s))

  -- a level less
  pub path_less : length s < np → set (path_words np (v ∷ s)) (length s) (pos 0) ≡ path_words np s
  path_less h = rw (above_is np s h, below_is np v s) (set_at (nodes_of s) (pos (node v.tried)) (blank_after np s) (pos 0) (length s) (nodes_length s))

  -- another choice at the deepest level
  pub path_again : (w : Level) → set (path_words np (v ∷ s)) (length s) (pos (node w.tried)) ≡ path_words np (w ∷ s)
  path_again w = rw (below_is np v s, below_is np w s) (set_at (nodes_of s) (pos (node v.tried)) (blank_after np s) (pos (node w.tried)) (length s) (nodes_length s))

  pub path_at : word (path_words np (v ∷ s)) (length s) ≡ pos (node v.tried)
  path_at = rw (below_is np v s) (get_or_at (nodes_of s) (pos (node v.tried)) (blank_after np s) (pos 0) (length s) (nodes_length s))

-- so the words of a point's path are its trail
trail_from : (np : ℕ) (deep top : List Level) (path : List ℤ) → length (deep ++ top) ≤ length path → path ≡ path_words np (deep ++ top) → Trail path top
unfolding path_words
trail_from np deep [] path h e = tt
trail_from np deep (v ∷ top) path h e =
    let r = in_order_split (λ c. pos (node c)) deep v top in
    let p : path ≡ nodes_of top ++ pos (node v.tried) ∷ (r.0 ++ replicate (np - length (deep ++ v ∷ top)) (pos 0)) =
    e ∙ ap (λ (l : List ℤ). l ++ replicate (np - length (deep ++ v ∷ top)) (pos 0)) r.1
    ∙ append_assoc (nodes_of top) (pos (node v.tried) ∷ r.0) (replicate (np - length (deep ++ v ∷ top)) (pos 0)) in (
      omega (arith, length-append deep (v ∷ top)),
      rw p (get_or_at (nodes_of top) (pos (node v.tried)) (r.0 ++ replicate (np - length (deep ++ v ∷ top)) (pos 0)) (pos 0) (length top) (nodes_length top)),
      trail_from np (deep ++ v ∷ []) top path (rw (append_assoc deep (v ∷ []) top) h) (rw (append_assoc deep (v ∷ []) top) e),
    )

pub path_trail : {P : Problem} {n : ℕ} {s : List Level} {t path : List ℤ} {l : ℕ} → On P n s t path l → Trail path s
path_trail {P} {s = s} {path = path} O = trail_from P.np [] s path (omega (arith, O.level, level_within O)) O.path_is

-- ---- words over the front of a list

-- the last of them may be written before the others
over_set : {A : Type 0} (xs : List A) (x : A) (old : List A) → length xs < length old → over (xs ++ x ∷ []) old ≡ over xs (set old (length xs) x)
over_set xs x old h =
    let k : ℕ = length xs in
    let m : length (xs ++ x ∷ []) ≡ suc k = length-append xs (x ∷ []) ∙ omega arith in
    let a : drop (length (xs ++ x ∷ [])) old ≡ drop (suc k) old = ap (λ (i : ℕ). drop i old) m in
    let b : drop k (set old k x) ≡ set (drop k old) 0 x = ap (λ (i : ℕ). drop k (set old i x)) (sym (add-zero k)) ∙ drop-set-add k old 0 x in
    let d : drop k (set old k x) ≡ x ∷ drop (suc k) old = b ∙ ap (λ (l : List _). set l 0 x) (drop-cons old k x h) in
    ap (λ (l : List _). (xs ++ x ∷ []) ++ l) a ∙ append_assoc xs (x ∷ []) (drop (suc k) old) ∙ ap (λ (l : List _). xs ++ l) (sym d)

pub over_numbers : (v : Level) (s : List Level) (old : List ℤ) → length s < length old
    → over (map pos (numbers (v ∷ s))) old ≡ over (map pos (numbers s)) (set old (length s) (pos v.tried.option.number))
unfolding in_order
over_numbers v s old h =
    let e : length (map pos (numbers s)) ≡ length s = ap length (in_order_map (λ c. c.option.number) pos s) ∙ in_order_length (λ c. pos c.option.number) s in
    ap (λ (l : List ℤ). over l old) (map-append pos (numbers s) (v.tried.option.number ∷ []))
    ∙ over_set (map pos (numbers s)) (pos v.tried.option.number) old (omega arith)
    ∙ ap (λ (k : ℕ). over (map pos (numbers s)) (set old k (pos v.tried.option.number))) e

-- How many visits a search can take: twice their number is at most two to the number of its kept options, and 2.
use Rattle.std.specs.Prelude.{◌≡◌, Option, None, Some}
use Rattle.std.proofs.Math.Path.{refl}
use Rattle.std.proofs.Common.{ap, length-append}
use Rattle.std.proofs.Math.Bool.{Bool, true, false}
use mathlib.Core.List.Memᴰ.{head as here}
use mathlib.Core.List.Memᴰ.{tail as there}
use mathlib.Core.List.{List, [], ◌∷◌, append-nil, Memᴰ as Mem}
use Prim.Native.Nat.{ℕ, zero, suc, ◌+◌, ◌-◌, ◌*◌, ◌^◌, ◌≤◌, ◌<◌}
use Rattle.std.proofs.Math.Nat.{two-pow-succ, one-le-pow, pow-le-pow_right, pow-zero}
use native.Mathlib.Omega.{arith}
use Rattle.std.proofs.Math.Dec.{T}
use Rattle.std.proofs.Math.ListN.{length, length-map}
use Rattle.rules.specs.Lists.{also, keep, each}
use Rattle.rules.specs.Problem.{Entry, Problem, items}
use Rattle.rules.specs.Order.{has_item, agree, Placed, kept, spacer_after, place, placed, open_options}
use Rattle.rules.specs.Order.{Choice, place_of, choices, Rule}
use Rattle.rules.specs.Walk.{Level, chosen}
use Rattle.laws.specs.Lists.{and_left, and_right, keep_mem, keep_length}
use Rattle.laws.specs.Order.{has-item→, open_item_facts, choice_facts, Sound}
use Rattle.laws.specs.Faults.{Good}
use Rattle.knuth.specs.Search.{clash}
use Rattle.knuth.specs.Trace.{Trace, nothing, deeper_by, tries, spread, tree, whole}

-- ---- lists

-- what passes q passes p, and nothing passes both q and r
module _ {A : Type 0} (p q r : A → Bool)
    (weaker : (x : A) → T (q x) → T (p x)) (apart : (x : A) → T (q x) → T (r x) → ⊥) where
  parted : (xs : List A) → length (keep q xs) + length (keep r (keep p xs)) ≤ length (keep p xs)
  unfolding keep
  parted [] = omega arith
  parted (x ∷ xs) = step (p x) (q x) (weaker x) (apart x) (parted xs)
    where
      passed : (c d : Bool) (ys zs : List A) (n : ℕ) → (T c → T d → ⊥) → length ys + length zs ≤ n
          → length (also c x ys) + length (also d x zs) ≤ suc n
      passed true true ys zs n h l = absurd (h tt tt)
      passed true false ys zs n h l = omega arith
      passed false true ys zs n h l = omega arith
      passed false false ys zs n h l = omega arith

      step : (b c : Bool) → (T c → T b) → (T c → T (r x) → ⊥)
          → length (keep q xs) + length (keep r (keep p xs)) ≤ length (keep p xs)
          → length (also c x (keep q xs)) + length (keep r (also b x (keep p xs))) ≤ length (also b x (keep p xs))
      step true c w a l = passed c (r x) (keep q xs) (keep r (keep p xs)) (length (keep p xs)) a l
      step false true w a l = absurd (w tt)
      step false false w a l = l

-- no more options are kept than there are
place_length : (np m p : ℕ) (os : List (List Entry)) → length (place np m p os) ≤ length os
unfolding place
place_length np m p [] = omega arith
place_length np m p (o ∷ os) =
    let q : ℕ = spacer_after (kept np o) p o in
    let x : Placed = record { number = m; first = p + 1; entries = o } in
    step (kept np o) x (place np (m + 1) q os) (place_length np (m + 1) q os)
  where
    step : (b : Bool) (x : Placed) (xs : List Placed) → length xs ≤ length os → length (also b x xs) ≤ suc (length os)
    step true x xs l = omega arith
    step false x xs l = omega arith

-- ---- numbers

twice : (k : ℕ) → 2 ^ suc k ≡ 2 ^ k + 2 ^ k
twice k = two-pow-succ k

-- half of a power of two, and 1, is no more than the power
half : (v k : ℕ) → 2 * v ≤ 2 + 2 ^ k → v ≤ 2 ^ k
half v zero h = omega (arith, pow-zero 2)
half v (suc k) h = omega (arith, twice k, one-le-pow k 2 (omega arith))

one_try : {t b : ℕ} (j k : ℕ) → k ≡ suc j → t ≡ b → b ≤ 2 ^ j → 2 * t ≤ 2 ^ k
one_try j k e u h = rw e (omega (arith, u, h, twice j))

more_tries : {t b : ℕ} (r j m k : ℕ) → k ≡ suc m → j < m → t ≡ b + r → b ≤ 2 ^ j → 2 * r ≤ 2 ^ m → 2 * t ≤ 2 ^ k
more_tries r j m k e l u h h' =
    let p = pow-le-pow_right {n = 2} (omega arith) {i = suc j} {j = m} (omega arith) in
    rw e (omega (arith, u, h, h', twice j, twice m, p))

-- ---- the tree

module _ (P : Problem) where
  tries_few : (above : List Level) (below : List Level → Trace) (j : ℕ) (cs : List Choice)
      → ((v : Level) → Mem v.tried cs → length (below (v ∷ above)).visits ≤ 2 ^ j)
      → 2 * length (tries P above cs below).visits ≤ 2 ^ (length cs + j)
  unfolding tries
  tries_few above below j [] h = omega arith
  tries_few above below j (c ∷ []) h =
      one_try j (length (c ∷ []) + j) (omega arith)
      (ap length (append-nil (below (deeper_by c [] above)).visits))
      (h (record { tried = c; left = [] }) (here refl))
  tries_few above below j (c ∷ d ∷ cs) h =
      let later : List ℕ = (tries P above (d ∷ cs) below).visits in
      more_tries (length later) j (length (d ∷ cs) + j) (length (c ∷ d ∷ cs) + j) (omega arith) (omega arith)
      (length-append (below (deeper_by c (d ∷ cs) above)).visits later)
      (h (record { tried = c; left = d ∷ cs }) (here refl))
      (tries_few above below j (d ∷ cs) (λ v m. h v (there m)))

  choices_length : (i : ℕ) (os : List Placed) → length (choices i os) ≡ length (keep (λ o. has_item i o.entries) os)
  unfolding choices
  choices_length i os = length-map (keep (λ (o : Placed). has_item i o.entries) os) make
    where
      make : Placed → Choice
      make o = record { at = place_of i o.entries; option = o }

  module _ (G : Good P) where
    -- what is still open below a choice, and the choices beside it, were open before
    fewer_open : (cs : List Placed) (i : ℕ) → i < P.np → {c : Choice} → Mem c (choices i (open_options P cs))
        → length (open_options P (c.option ∷ cs)) + length (choices i (open_options P cs)) ≤ length (open_options P cs)
    unfolding open_options each
    fewer_open cs i low {c} m =
        let f = choice_facts i (open_options P cs) m in
        let before : Placed → Bool = λ o. each (λ (d : Placed). agree d.entries o.entries) cs in
        let mine : Placed → Bool = λ o. agree c.option.entries o.entries in
        let k = keep_mem before (placed P) f.0 in
        let r = parted before (λ o. each (λ (d : Placed). agree d.entries o.entries) (c.option ∷ cs))
        (λ (o : Placed). has_item i o.entries)
        (λ o t. and_right (mine o) (before o) t)
        (λ o t u. clash G k.0 o.entries i low f.1 (has-item→ i o.entries u) (and_left (mine o) (before o) t))
        (placed P) in
        omega (arith, choices_length i (open_options P cs), r)

    module _ (rule : Rule) (R : Sound P rule) where
      spread_few : (s : List Level) (r : Option ℕ) → rule (chosen s) ≡ r → (below : List Level → Trace)
          → ((t : List Level) → length (below t).visits ≤ 2 ^ length (open_options P (chosen t)))
          → 2 * length (spread P s r below).visits ≤ 2 + 2 ^ length (open_options P (chosen s))
      spread_few s None e below h = omega arith
      spread_few s (Some i) e below h =
          let os : List Placed = open_options P (chosen s) in
          let cs : List Choice = choices i os in
          let j : ℕ = length os - length cs in
          let low : i < P.np = (open_item_facts P (chosen s) (R.takes (chosen s) e)).0 in
          let few : length cs ≤ length os =
          omega (arith, choices_length i os, keep_length (λ o. has_item i o.entries) os) in
          let each_few : (v : Level) → Mem v.tried cs → length (below (v ∷ s)).visits ≤ 2 ^ j = λ v m.
          let left : ℕ = length (open_options P (chosen (v ∷ s))) in
          let l : left ≤ j = omega (arith, fewer_open (chosen s) i low m) in
          omega (arith, h (v ∷ s), pow-le-pow_right {n = 2} (omega arith) {i = left} {j = j} l) in
          let k : length cs + j ≡ length os = omega (arith, few) in
          omega (arith, rw k at (tries_few s below j cs each_few))

      tree_few : (d : ℕ) (s : List Level)
          → 2 * length (tree P rule d s).visits ≤ 2 + 2 ^ length (open_options P (chosen s))
      unfolding tree
      tree_few zero s = spread_few s (rule (chosen s)) refl (λ t. nothing) (λ t. omega arith)
      tree_few (suc d) s =
          spread_few s (rule (chosen s)) refl (λ t. tree P rule d t) (λ t.
          half (length (tree P rule d t).visits) (length (open_options P (chosen t))) (tree_few d t))

      -- so 2^64-1 visits are enough for 64 options
      pub few_visits : length P.options ≤ 64 → length (whole P rule []).visits < 18446744073709551615
      unfolding whole open_options placed
      few_visits h =
          let os : List Placed = open_options P [] in
          let agrees : Placed → Bool = λ o. each (λ (c : Placed). agree c.entries o.entries) [] in
          let kept_few = place_length P.np 0 (items P + 1) P.options in
          let k : length os ≤ 64 = omega (arith, h, keep_length agrees (placed P), kept_few) in
          let w : 2 ^ length os ≤ 18446744073709551616 =
          pow-le-pow_right {n = 2} (omega arith) {i = length os} {j = 64} k in
          omega (arith, w, tree_few P.np [])

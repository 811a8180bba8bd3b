-- The nodes of a list rise from its header on, since the options are placed one after another. So a walk down a list
-- comes
-- nearer to its end with each node, and so does a walk up it.
use Rattle.std.specs.Prelude.{◌≡◌, refl, ◌⊎◌, Bool, true, false, cond, ℕ, ◌+◌, ◌-◌, ◌<◌, eqb, length}
use Rattle.std.proofs.Common.{inl, inr, arith, eq-eqb, ne_eqb}
use mathlib.Core.Logic.{◌≢◌}
use mathlib.Core.List.{List, [], ◌∷◌, ◌++◌, map, Memᴰ as Mem}
use mathlib.Core.List.Memᴰ.{head as here}
use mathlib.Core.List.Memᴰ.{append_right as in_right}
use mathlib.Core.List.Memᴰ.{cases_cons}
use mathlib.Core.List.Memᴰ.{not-nil}
use Rattle.rules.specs.Lists.{also}
use Rattle.rules.specs.Problem.{Entry, Problem, items}
use Rattle.rules.specs.Order.{has_item, agree, Placed, kept, spacer_after, place, placed, Choice, node, place_of, choices}
use Rattle.rules.specs.Links.{linked, first_or}
use Rattle.laws.specs.Lists.{Apart, apart_nil, apart_cons, apart_keep, apart_map, apart_with}
use Rattle.tables.specs.Nodes.{linked_of, place_first}

-- option a ends before option b begins
abbrev Before : Placed → Placed → Type 0
Before a b = a.first + length a.entries < b.first

abbrev pub Below : Choice → Choice → Type 0
Below a b = node a < node b

place_rises : (np m p : ℕ) (os : List (List Entry)) → Apart Before (place np m p os)
unfolding place
place_rises np m p [] = apart_nil
place_rises np m p (o ∷ os) = step (kept np o) (λ p'. place_rises np (m + 1) p' os)
  where
    step : (b : Bool) → ((p' : ℕ) → Apart Before (place np (m + 1) p' os))
        → Apart Before
        (also b (record { number = m; first = p + 1; entries = o }) (place np (m + 1) (spacer_after b p o) os))
    step true rec = apart_cons (λ y my. omega (
      arith,
      place_first np (m + 1) (p + length o + 1) os my,
    )) (rec (p + length o + 1))
    step false rec = rec p

pub linked_rise : (P : Problem) (held : List Entry) (i : ℕ) → Apart Below (linked P held i)
unfolding linked choices placed
linked_rise P held i =
    apart_with
    (apart_map {R = Before} {S = λ (a b : Choice). Before a.option b.option} make (λ x y h. h)
    (apart_keep (λ o. has_item i o.entries)
    (apart_keep (λ o. agree held o.entries) (place_rises P.np 0 (items P + 1) P.options))))
    (λ a b ma mb h. omega (arith, (linked_of P held i ma).inside))
  where
    make : Placed → Choice
    make o = record { at = place_of i o.entries; option = o }

-- what a choice in the middle says of those around it
pub rise_after : (xs : List Choice) (c : Choice) (ys : List Choice) → Apart Below (xs ++ c ∷ ys) → (d : Choice)
    → Mem d ys → node c < node d
rise_after [] c ys (apart_cons r a) d m = r d m
rise_after (x ∷ xs) c ys (apart_cons r a) d m = rise_after xs c ys a d m

pub rise_before : (xs : List Choice) (c : Choice) (ys : List Choice) → Apart Below (xs ++ c ∷ ys) → (d : Choice)
    → Mem d xs → node d < node c
rise_before [] c ys a d m = absurd (not-nil m)
rise_before (x ∷ xs) c ys (apart_cons r a) d m = step (cases_cons m) (rise_before xs c ys a d)
  where
    step : (d ≡ x) ⊎ Mem d xs → (Mem d xs → node d < node c) → node d < node c
    step (inl e) rec = rw e (r c (in_right xs (here refl)))
    step (inr m') rec = rec m'

-- what is left of the way down a list to its header h, of which `size` is a bound
abbrev pub way_down : ℕ → ℕ → ℕ → ℕ
way_down size h p = cond (eqb p h) 0 (size - p)

pub down_less : {size h p p' : ℕ} (xs : List Choice) (c : Choice) (ys : List Choice) → Apart Below (xs ++ c ∷ ys)
    → p ≡ node c → p' ≡ first_or h (map node ys) → p ≢ h → p < size → way_down size h p' < way_down size h p
down_less {size} {h} {p} {p'} xs c ys a e e' ne k = rw (ne_eqb p h ne, e') (step ys (rise_after xs c ys a))
  where
    cut : (b : Bool) (x y : ℕ) → x < y → cond b 0 x < y
    cut true x y l = omega arith
    cut false x y l = l

    step : (ys : List Choice) → ((d : Choice) → Mem d ys → node c < node d)
        → way_down size h (first_or h (map node ys)) < size - p
    step [] r = rw (eq-eqb h h refl) (omega arith)
    step (d ∷ ys) r = let l = r d (here refl) in cut (eqb (node d) h) (size - node d) (size - p) (omega arith)

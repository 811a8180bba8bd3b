-- The choices of an item have different nodes.
use Rattle.std.specs.Prelude.{◌≡◌, refl, ◌≢◌, Bool, true, false, cond, ◌||◌, ℕ, suc, ◌+◌, ◌<◌, T, eqb, length, Some}
use mathlib.Core.List.Memᴰ.{head as here}
use mathlib.Core.List.{List, [], ◌∷◌, ◌++◌, Memᴰ as Mem}
use mathlib.Core.List.Memᴰ.{append_right as in_right}
use Rattle.std.proofs.Common.{arith, eqb→eq}
use Rattle.std.proofs.Math.Dec.{eqb_refl}
use Rattle.rules.specs.Lists.{also, keep, each, has}
use Rattle.rules.specs.Problem.{Entry, Problem, items}
use Rattle.rules.specs.Order.{has_item, agree, Placed, kept, spacer_after, place, placed, open_options, Choice, node, place_of, choices}
use Rattle.rules.specs.Walk.{Level}
use Rattle.rules.specs.Calls.{level_of}
use Rattle.laws.specs.Lists.{Apart, apart_nil, apart_cons, apart_keep, apart_map, apart_with, keep_mem}
use Rattle.tables.specs.Nodes.{place_first}
use Rattle.knuth.specs.Lists.{is_true}

-- where the option's item stands is one of its places
place_small : (i : ℕ) (es : List Entry) → T (has_item i es) → place_of i es < length es
unfolding has_item has place_of
place_small i [] t = absurd t
place_small i (e ∷ es) t = step (eqb e.item i) t (λ u. place_small i es u)
  where
    step : (b : Bool) → T (b || has_item i es) → (T (has_item i es) → place_of i es < length es) → cond b 0 (suc (place_of i es)) < suc (length es)
    step true t rec = omega arith
    step false t rec = let h = rec t in omega arith

-- the second option's nodes come after the first's
abbrev Before : Placed → Placed → Type 0
Before a b = a.first + length a.entries < b.first

place_ordered : (np m p : ℕ) (os : List (List Entry)) → Apart Before (place np m p os)
unfolding place
place_ordered np m p [] = apart_nil
place_ordered np m p (x ∷ os) = step (kept np x) (λ q. place_ordered np (m + 1) q os)
  where
    step : (b : Bool) → ((q : ℕ) → Apart Before (place np (m + 1) q os))
        → Apart Before (also b (record { number = m; first = p + 1; entries = x }) (place np (m + 1) (spacer_after b p x) os))
    step true rec = apart_cons {x = record { number = m; first = p + 1; entries = x }} (λ y k. let h = place_first np (m + 1) (p + length x + 1) os k in omega arith) (rec (p + length x + 1))
    step false rec = rec p

abbrev pub NodesApart : List Choice → Type 0
NodesApart cs = Apart (λ (c d : Choice). node c ≢ node d) cs

pub choices_nodes : (P : Problem) (i : ℕ) (cs : List Placed) → NodesApart (choices i (open_options P cs))
unfolding choices open_options placed
choices_nodes P i cs =
    apart_map {R = λ (a b : Placed). node (make a) ≢ node (make b)} make (λ a b h. h)
    (apart_with (apart_keep (λ o. has_item i o.entries) ordered) (λ a b ma mb h. differ a b (kept_mem ma) (kept_mem mb) h))
  where
    make : Placed → Choice
    make o = record { at = place_of i o.entries; option = o }

    options : List Placed
    options = keep (λ o. each (λ c. agree c.entries o.entries) cs) (place P.np 0 (items P + 1) P.options)

    ordered : Apart Before options
    ordered = apart_keep (λ o. each (λ c. agree c.entries o.entries) cs) (place_ordered P.np 0 (items P + 1) P.options)

    kept_mem : {a : Placed} → Mem a (keep (λ o. has_item i o.entries) options) → T (has_item i a.entries)
    kept_mem m = (keep_mem (λ (o : Placed). has_item i o.entries) options m).1

    differ : (a b : Placed) → T (has_item i a.entries) → T (has_item i b.entries) → Before a b → node (make a) ≢ node (make b)
    differ a b ta tb h = omega (arith, place_small i a.entries ta)

-- ---- the choice of a node

pub level_back : (xs : List Choice) (v : Level) → NodesApart (xs ++ v.tried ∷ v.left) → level_of (node v.tried) (xs ++ v.tried ∷ v.left) ≡ Some v
unfolding level_of
level_back [] v a = rw (is_true (eqb (node v.tried) (node v.tried)) (eqb_refl (node v.tried)))
level_back (x ∷ xs) v (apart_cons r a) = step (eqb (node x) (node v.tried)) refl (level_back xs v a)
  where
    step : (b : Bool) → eqb (node x) (node v.tried) ≡ b → level_of (node v.tried) (xs ++ v.tried ∷ v.left) ≡ Some v
        → cond b (Some (record { tried = x; left = xs ++ v.tried ∷ v.left })) (level_of (node v.tried) (xs ++ v.tried ∷ v.left)) ≡ Some v
    step true e rec = absurd (r v.tried (in_right xs (here refl)) (eqb→eq (node x) (node v.tried) (rw e tt)))
    step false e rec = rec

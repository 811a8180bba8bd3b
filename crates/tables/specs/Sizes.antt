-- The table of the problem that faultless words mean is as long as refusal 9 asks for.
use Rattle.std.specs.Prelude.{◌≡◌, refl, Bool, true, false, ℕ, ◌+◌, T, ltb, ℤ, pos, negsuc, length}
use Rattle.std.proofs.Common.{◌∙◌, arith, length-set}
use mathlib.Core.List.Memᴰ.{head as here}
use mathlib.Core.List.Memᴰ.{tail as there}
use mathlib.Core.List.{List, [], ◌∷◌, map, Memᴰ as Mem}
use Rattle.std.proofs.lemmas.List.{length-map}
use Rattle.rules.specs.Lists.{also, keep, has, tally, one_if}
use Rattle.rules.specs.Words.{below, nat}
use Rattle.rules.specs.Problem.{Problem, items, Pair, Cut, fault, as_entry, meant, pairs_kept, count_pairs, sizes, node_count, table_length}
use Rattle.rules.specs.Order.{kept, spacer_after, place, placed, Choice}
use Rattle.rules.specs.Links.{Event, unlink, remove, mark, fresh, apply, run_events, events, table}
use Rattle.laws.specs.Faults.{Faultless, faultless, good_meant}
use Rattle.tables.specs.Fresh.{fresh_shows}
use Rattle.tables.specs.Nodes.{span, nodes}

-- a faultless option is kept as its words say
kept_words : (C : Cut) (o : List Pair) → ((e : Pair) → Mem e o → Faultless C.np (C.np + C.ns) e) → kept C.np (map as_entry o) ≡ pairs_kept C.np o
unfolding kept pairs_kept has
kept_words C [] h = refl
kept_words C (e ∷ o) h = rw (kept_words C o (λ d m. h d (there m)), first e.item (h e (here refl)).in_range)
  where
    first : (z : ℤ) → T (below (C.np + C.ns) z) → ltb (nat z) C.np ≡ below C.np z
    first (pos k) t = refl
    first (negsuc k) t = absurd t

span_words : (C : Cut) (m p : ℕ) (os : List (List Pair)) → ((o : List Pair) → Mem o os → (e : Pair) → Mem e o → Faultless C.np (C.np + C.ns) e)
    → span (place C.np m p (map (λ o. map as_entry o) os)) ≡ count_pairs (keep (pairs_kept C.np) os) + tally (pairs_kept C.np) os
unfolding place span keep count_pairs tally
span_words C m p [] h = refl
span_words C m p (o ∷ os) h =
    rw (kept_words C o (h o (here refl))) (step (pairs_kept C.np o) (λ p'. span_words C (m + 1) p' os (λ o' m'. h o' (there m'))))
  where
    step : (b : Bool) → ((p' : ℕ) → span (place C.np (m + 1) p' (map (λ o. map as_entry o) os)) ≡ count_pairs (keep (pairs_kept C.np) os) + tally (pairs_kept C.np) os)
        → span (also b (record { number = m; first = p + 1; entries = map as_entry o }) (place C.np (m + 1) (spacer_after b p (map as_entry o)) (map (λ o. map as_entry o) os)))
        ≡ count_pairs (also b o (keep (pairs_kept C.np) os)) + (one_if b + tally (pairs_kept C.np) os)
    step true rec = omega (arith, rec (p + length (map as_entry o) + 1), length-map o as_entry)
    step false rec = rec p ∙ omega arith

pub nodes_meant : (C : Cut) → fault C ≡ 0 → nodes (meant C) ≡ node_count (sizes C)
unfolding nodes meant placed sizes
nodes_meant C h = omega (arith, span_words C 0 (C.np + C.ns + 1) C.options (λ o mo e me. faultless C h mo me))

items_meant : (C : Cut) → items (meant C) ≡ C.np + C.ns
unfolding meant
items_meant C = refl

pub fresh_size : (C : Cut) → fault C ≡ 0 → length (fresh (meant C)) ≡ table_length (sizes C)
unfolding sizes
fresh_size C h = (fresh_shows (meant C) (good_meant C h)).size ∙ omega (arith, nodes_meant C h, items_meant C)

-- ---- an event changes no length

apply_length : (n : ℕ) (t : List ℤ) (e : Event) → length (apply n t e) ≡ length t
unfolding apply
apply_length n t (unlink q) = simp length-set
apply_length n t (remove i) = simp length-set
apply_length n t (mark q c) = simp length-set

run_length : (n : ℕ) (t : List ℤ) (es : List Event) → length (run_events n t es) ≡ length t
run_length n t [] = refl
run_length n t (e ∷ es) = run_length n (apply n t e) es ∙ apply_length n t e

pub table_same : (P : Problem) (cs : List Choice) → length (table P cs) ≡ length (fresh P)
unfolding table
table_same P cs = run_length (items P) (fresh P) (events P cs)

-- so is the table where choices are made
pub table_size : (C : Cut) → fault C ≡ 0 → (cs : List Choice) → length (table (meant C) cs) ≡ table_length (sizes C)
table_size C h cs = table_same (meant C) cs ∙ fresh_size C h

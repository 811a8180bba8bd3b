-- What the cursor over the options meets, and what the code counts on its way through them.
use Rattle.std.specs.Prelude.{Bool, true, false, List, [], ◌∷◌, ◌≡◌, refl, ℕ, ◌+◌, length, Option, None, Some, IsSome}
use Rattle.rules.specs.Problem.{Pair, pairs_kept}
use Rattle.std.proofs.Common.{sym, ap, ◌∙◌}
use Rattle.laws.specs.Lists.{cannot}
use Rattle.problem.specs.declared.Sums.{Sums}

-- an option of this count, of which `keep` tells whether it is kept
abbrev pub met : Option ℕ → (ℕ → Bool) → Option (ℕ × Bool)
met (Some k) keep = Some (k, keep k)
met None keep = None

pub met_of : (o : Option ℕ) (keep : ℕ → Bool) {k : ℕ} {b : Bool} → Some (k, b) ≡ met o keep
    → (Some k ≡ o) × (b ≡ keep k)
met_of (Some j) keep {k} {b} e =
    let q : (k, b) ≡ (j, keep j) = cc in
    (ap (λ (p : ℕ × Bool). Some p.0) q, ap (λ (p : ℕ × Bool). p.1) q ∙ ap (λ (p : ℕ × Bool). keep p.0) (sym q))
met_of None keep e = cannot (cc)

pub met_missing : (o : Option ℕ) (keep : ℕ → Bool) → None ≡ met o keep → None ≡ o
met_missing (Some j) keep e = cannot (cc)
met_missing None keep e = refl

pub met_there : (o : Option ℕ) (keep : ℕ → Bool) → (None ≡ o → ⊥) → IsSome (met o keep)
met_there (Some k) keep h = refl
met_there None keep h = absurd (h refl)

abbrev pub no_sums : Sums
no_sums = record { all = 0; kept = 0; entries = 0 }

-- s, and an option of k entries, which is kept or not
abbrev pub add_option : ℕ → Bool → Sums → Sums
add_option k true s = record { all = s.all + k; kept = s.kept + 1; entries = s.entries + k }
add_option k false s = record { all = s.all + k; kept = s.kept; entries = s.entries }

unfoldable pub add_options : ℕ → List (List Pair) → Sums → Sums
add_options np [] s = s
add_options np (o ∷ os) s = add_options np os (add_option (length o) (pairs_kept np o) s)

-- what all options come to, where those ahead may be cut wrong and s is the sum of those behind
abbrev pub total : ℕ → Option (List (List Pair)) → Sums → Option Sums
total np None s = None
total np (Some os) s = Some (add_options np os s)

-- The entry of a token. Assumes nothing.
use Rattle.std.proofs.Common.{◌≡◌, ℕ, ◌≤◌, List, length, Option, None, Some, sym, ap, ◌∙◌}
use lib.Seq.{length-take-le}
use Rattle.rules.specs.Text.{Items, Written, written, tokens, place, in_primary, in_secondary, as_entered, entered}
use Rattle.text.specs.declared.names.Names.{Names}
use Rattle.text.specs.Names.{known, primary_names}
use Rattle.text.specs.Entries.{told, named_as}
use Rattle.text.proofs.Naming.{moved_long}

-- the secondary names are numbered after the primary ones
pub numbered : (n : Names) (name : List ℕ) → n.primaries ≤ length (tokens n.items.now)
    → length (known n).primary ≡ n.primaries
numbered n name h = moved_long n.front name (primary_names n) ∙ length-take-le n.primaries (tokens n.items.now) h

module _ (I : Items) (name : List ℕ) (c : ℕ) where
  pub entry_second : {k : ℕ} → place 0 name I.primary ≡ None → length I.primary ≡ k → {o : Option ℕ}
      → place k name I.secondary ≡ o → named_as I name c ≡ in_secondary c o
  entry_second e l u =
      ap (λ (o : Option ℕ). in_primary c o (in_secondary c (place (length I.primary) name I.secondary))) e
      ∙ ap (λ (m : ℕ). in_secondary c (place m name I.secondary)) l ∙ ap (in_secondary c) u

pub entered_none : (I : Items) (t : List ℕ) → written t ≡ None → None ≡ told (entered I t)
unfolding entered
entered_none I t e = sym (ap (λ (o : Option Written). told (as_entered I o)) e)

pub entered_named : (I : Items) (t : List ℕ) {name : List ℕ} {c : ℕ}
    → written t ≡ Some (record { name = name; colour = c }) → told (named_as I name c) ≡ told (entered I t)
unfolding entered
entered_named I t e = sym (ap (λ (o : Option Written). told (as_entered I o)) e)

use Rattle.std.proofs.Common.{◌≡◌, length, replicate, ℕ, List, Option, None, Some, refl, ap, sym, ◌∙◌, pos}
use Rattle.std.specs.Option.{OnSome}
use Rattle.std.proofs.lemmas.List.{length-replicate}
use Rattle.replay.proofs.lent.Lent.set_lengths.Goals as goal

full : {A : Type 0} {xs : List A} (n : ℕ) (a : A) → xs ≡ replicate n a → xs ≡ replicate (length xs) a
full n a e = e ∙ ap (λ (k : ℕ). replicate k a) (sym (length-replicate n a) ∙ ap length (sym e))

given : {A : Type 0} {X : Type 0} {o : Option A} {a : A} → o ≡ Some a → OnSome o X → X
given e h = rw e at h

kept : {A : Type 0} {X : Type 0} (o : Option A) → X → OnSome o X
kept None x = tt
kept (Some a) x = x

pub returns : goal.returns
returns c =
    let sevens = full 256 (pos 7) c.fill.ensures in
    kept c.end.result record {
      table_is = given c.in_ok-lend.was (c.lend.ensures (pos 7) sevens);
      spare_is = given c.in_ok-lend-2.was (c.lend-2.ensures (pos 7) sevens);
      path_is = given c.in_ok-lend-3.was (c.lend-3.ensures (pos 7) sevens);
      profile_is = given c.in_ok-lend-4.was (c.lend-4.ensures 7 refl);
      found_is = given c.in_ok-lend-5.was (c.lend-5.ensures (pos 7) sevens);
    }

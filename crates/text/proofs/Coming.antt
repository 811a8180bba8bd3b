-- What the iterators give, as one list. Assumes nothing.
use Rattle.std.proofs.Common.{◌≡◌, ℕ, List}
use Rattle.std.specs.Iterator.{YieldsFirstRef}
use Rattle.std.proofs.lemmas.Iterator.{YieldsList}
use Rattle.std.proofs.lemmas.Iterator.Consumers.{YieldsList-from_first}
use Rattle.rules.specs.Text.{tokens}
use Rattle.text.specs.declared.pieces.Tokens.{Tokens}

pub tokens_come : {s : Tokens} (ts : List (List ℕ)) → tokens s.rest.now ≡ ts
    → YieldsList (YieldsFirstRef (λ (s : Tokens). tokens s.rest.now)) (λ t. t.now) s ts
tokens_come {s} ts e = YieldsList-from_first (λ t. t.now) (λ (s : Tokens). tokens s.rest.now) {s = s} ts e

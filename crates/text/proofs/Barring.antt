-- The names before and after the `|`. Assumes nothing.
use Rattle.std.proofs.Common.{◌≡◌, ℕ, ◌+◌, ◌≤◌, Bool, true, false, cond, List, [], ◌∷◌, length, take, refl, sym, ap, ◌∙◌, arith}
use Rattle.rules.specs.Text.{is_bar, before_bar, after_bar, tokens, moved_names, items_of}
use Rattle.text.proofs.Cutting.{tokens_short}

module _ {all ts : List (List ℕ)} {t : List ℕ} (e : all ≡ t ∷ ts) where
  pub before_here : is_bar t ≡ true → before_bar all ≡ []
  unfolding before_bar
  before_here b = ap before_bar e ∙ rw b refl

  pub after_here : is_bar t ≡ true → after_bar all ≡ ts
  unfolding after_bar
  after_here b = ap after_bar e ∙ rw b refl

  pub before_more : is_bar t ≡ false → before_bar all ≡ t ∷ before_bar ts
  unfolding before_bar
  before_more b = ap before_bar e ∙ rw b refl

  pub after_more : is_bar t ≡ false → after_bar all ≡ after_bar ts
  unfolding after_bar
  after_more b = ap after_bar e ∙ rw b refl

pub before_none : {all : List (List ℕ)} → all ≡ [] → before_bar all ≡ []
unfolding before_bar
before_none e = rw e refl

pub after_none : {all : List (List ℕ)} → all ≡ [] → after_bar all ≡ []
unfolding after_bar
after_none e = rw e refl

pub before_taken : (ts : List (List ℕ)) → take (length (before_bar ts)) ts ≡ before_bar ts
unfolding before_bar
before_taken [] = refl
before_taken (t ∷ ts) = by (is_bar t) (before_taken ts)
  where
    by : (b : Bool) → take (length (before_bar ts)) ts ≡ before_bar ts
        → take (length (cond b [] (t ∷ before_bar ts))) (t ∷ ts) ≡ cond b [] (t ∷ before_bar ts)
    by true e = refl
    by false e = ap (λ (l : List (List ℕ)). t ∷ l) e

pub before_few : (ts : List (List ℕ)) → length (before_bar ts) ≤ length ts
unfolding before_bar
before_few [] = omega arith
before_few (t ∷ ts) = by (is_bar t) (before_few ts)
  where
    by : (b : Bool) → length (before_bar ts) ≤ length ts → length (cond b [] (t ∷ before_bar ts)) ≤ length (t ∷ ts)
    by true e = omega arith
    by false e = omega arith

pub after_few : (ts : List (List ℕ)) → length (after_bar ts) ≤ length ts
unfolding after_bar
after_few [] = omega arith
after_few (t ∷ ts) = by (is_bar t) (after_few ts)
  where
    by : (b : Bool) → length (after_bar ts) ≤ length ts → length (cond b ts (after_bar ts)) ≤ length (t ∷ ts)
    by true e = omega arith
    by false e = omega arith

-- ---- the loop: so many tokens are passed, none of them the `|`, and `rest` is ahead

pub record Seeking (items rest : List ℕ) (passed : ℕ) : Type 0 where
  pub counted : length (before_bar (tokens items)) ≡ passed + length (before_bar (tokens rest))
  pub same_after : after_bar (tokens items) ≡ after_bar (tokens rest)

-- so many names stand before the `|`, and `rest` after it
pub record Found (items rest : List ℕ) (names : ℕ) : Type 0 where
  pub counted : length (before_bar (tokens items)) ≡ names
  pub is_after : tokens rest ≡ after_bar (tokens items)

module _ {items rest : List ℕ} {k : ℕ} (S : Seeking items rest k) where
  pub seek_low : length items ≤ 65536 → k ≤ 65536
  seek_low h = omega (arith, S.counted, before_few (tokens items), tokens_short items)

  module _ {t rest' : List ℕ} (e : tokens rest ≡ t ∷ tokens rest') where
    pub seek_turn : is_bar t ≡ false → Seeking items rest' (k + 1)
    seek_turn b = record {
      counted = omega (arith, S.counted, ap length (before_more e b));
      same_after = S.same_after ∙ after_more e b;
    }

    pub seek_found : is_bar t ≡ true → Found items rest' k
    seek_found b = record {
      counted = omega (arith, S.counted, ap length (before_here e b));
      is_after = sym (S.same_after ∙ after_here e b);
    }

  pub seek_end : {rest' : List ℕ} → (tokens rest ≡ []) × (tokens rest' ≡ []) → Found items rest' k
  seek_end e = record {
    counted = omega (arith, S.counted, ap length (before_none e.0));
    is_after = e.1 ∙ sym (S.same_after ∙ after_none e.0);
  }

module _ {items rest : List ℕ} {k : ℕ} (F : Found items rest k) where
  pub found_low : k ≤ length (tokens items)
  found_low = omega (arith, F.counted, before_few (tokens items))

  pub found_few : length items ≤ 65536 → length (tokens rest) ≤ 65536
  found_few h = omega (arith, ap length F.is_after, after_few (tokens items), tokens_short items)

  pub found_items : (front : Bool) → record {
    primary = moved_names front (take k (tokens items));
    secondary =
        tokens rest;
  } ≡ items_of front (tokens items)
  found_items front =
      ap (λ (ts : List (List ℕ)). record { primary = moved_names front ts; secondary = tokens rest })
      (ap (λ (n : ℕ). take n (tokens items)) (sym F.counted) ∙ before_taken (tokens items))
      ∙ ap (λ (ts : List (List ℕ)). record { primary = moved_names front (before_bar (tokens items)); secondary = ts })
      F.is_after

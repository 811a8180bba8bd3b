-- Bytes written page by page.
use Rattle.std.specs.Prelude.{◌≡◌, refl, ◌⊎◌, List, [], ◌∷◌, ◌++◌, ℕ, ◌+◌, ◌≤◌, length, take, drop}
use Rattle.std.proofs.Common.{sym, ap, ◌∙◌, append-nil, append_assoc, take-append-drop, drop-drop}
use Rattle.std.proofs.Math.Seq.{drop-length}
use Rattle.rules.specs.Lists.{flat}
use Rattle.rules.specs.Cover.{printed}

-- the first `used` bytes of the buffer are those of `all` from place `sent` on
pub record Due (all : List ℕ) (sent : ℕ) (out : List ℕ) (used : ℕ) : Type 0 where
  pub within : used ≤ length out
  pub fits : sent + used ≤ length all
  pub is : take used out ≡ take used (drop sent all)

-- the count of bytes sent after a write that failed
abbrev pub lost : ℕ
lost = 18446744073709551615

-- a write moves the count past its bytes, or it fails
pub record Moved (sent used sent' : ℕ) : Type 0 where
  pub on : (sent' ≡ sent + used) ⊎ (sent' ≡ lost)

-- all that is printed of the text was sent; or a write failed, or 2^63 bytes were sent, as the count tells
abbrev pub Ended : List ℕ → ℕ → Type 0
Ended text sent = (sent ≡ length (printed text)) ⊎ (9223372036854775808 ≤ sent)

-- Pages that were written one after another, each due, while the count of bytes sent went from one number to another.
pub data Written (all : List ℕ) : ℕ → List (List ℕ) → ℕ → Type 0 where
  none : {sent : ℕ} → Written all sent [] sent
  page : {sent used sent' end : ℕ} {out : List ℕ} {pages : List (List ℕ)}
      → Due all sent out used → sent' ≡ sent + used
      → Written all sent' pages end → Written all sent (take used out ∷ pages) end

-- pages, and what is left after them, are what was left before them
together : (all : List ℕ) {sent end : ℕ} {pages : List (List ℕ)} → Written all sent pages end
    → flat (λ p. p) pages ++ drop end all ≡ drop sent all
unfolding flat
together all none = refl
together all (page {sent} {used} {sent'} {end} {out} {pages} d e w) =
    append_assoc (take used out) (flat (λ p. p) pages) (drop end all)
    ∙ ap (λ (l : List ℕ). take used out ++ l)
    (together all w ∙ ap (λ (k : ℕ). drop k all) e ∙ sym (drop-drop used sent all))
    ∙ ap (λ (l : List ℕ). l ++ drop used (drop sent all)) d.is ∙ take-append-drop used (drop sent all)

pub all_written : (all : List ℕ) {pages : List (List ℕ)} → Written all 0 pages (length all) → flat (λ p. p) pages ≡ all
all_written all {pages} w =
    sym (append-nil (flat (λ p. p) pages))
    ∙ ap (λ (l : List ℕ). flat (λ p. p) pages ++ l) (sym (drop-length all)) ∙ together all w

-- Faults, token by token. Assumes nothing.
use Rattle.std.proofs.Common.{◌≡◌, ℕ, Bool, true, false, not, ◌||◌, cond, List, [], ◌∷◌, refl, sym, ap, ◌∙◌}
use Rattle.rules.specs.Lists.{each, has}
use Rattle.rules.specs.Text.{Items, name_byte, same_name, is_bar, no_names, items_bad, option_bad}
use Rattle.text.specs.Names.{item_bad}
use Rattle.text.specs.Entries.{token_bad}

spread : (b : Bool) (p q r s : Bool) → cond b (p || q) (r || s) ≡ (cond b p r || cond b q s)
spread true p q r s = refl
spread false p q r s = refl

moved : (b second : Bool) (ts : List (List ℕ)) → cond b (items_bad true ts) (items_bad second ts) ≡ items_bad
    (second || b) ts
moved true true ts = refl
moved true false ts = refl
moved false true ts = refl
moved false false ts = refl

module _ {all ts : List (List ℕ)} {t : List ℕ} (e : all ≡ t ∷ ts) where
  pub item_more : (second : Bool) → items_bad second all ≡ (item_bad second t ts || items_bad (second || is_bar t) ts)
  unfolding items_bad
  item_more second =
      ap (items_bad second) e ∙ spread (is_bar t) (second || no_names ts) (items_bad true ts)
      (not (each name_byte t) || has (same_name t) ts) (items_bad second ts)
      ∙ ap (λ (x : Bool). item_bad second t ts || x) (moved (is_bar t) second ts)

  pub item_found : (second : Bool) {r : Bool} → r ≡ item_bad second t ts → r ≡ true → true ≡ items_bad second all
  item_found second u v = sym (item_more second ∙ ap (λ (x : Bool). x || items_bad (second || is_bar t) ts) (sym u ∙ v))

  pub option_more : (I : Items) → option_bad I all ≡ (token_bad I t ts || option_bad I ts)
  unfolding option_bad
  option_more I = ap (option_bad I) e

  pub option_found : (I : Items) {r : Bool} → r ≡ token_bad I t ts → r ≡ true → true ≡ option_bad I all
  option_found I u v = sym (option_more I ∙ ap (λ (x : Bool). x || option_bad I ts) (sym u ∙ v))

  pub option_passed : (I : Items) {r : Bool} → r ≡ token_bad I t ts → r ≡ false → option_bad I all ≡ option_bad I ts
  option_passed I u v = option_more I ∙ ap (λ (x : Bool). x || option_bad I ts) (sym u ∙ v)

pub no_items : (second : Bool) {all : List (List ℕ)} → all ≡ [] → items_bad second all ≡ false
unfolding items_bad
no_items second e = rw e refl

pub no_options : (I : Items) {all : List (List ℕ)} → all ≡ [] → option_bad I all ≡ false
unfolding option_bad
no_options I e = rw e refl

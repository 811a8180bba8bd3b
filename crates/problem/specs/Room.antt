-- 9's test by two numbers, the limits that the marks leave, and what is known of words that are not refused. Assumes nothing.
use Rattle.std.specs.Prelude.{◌≡◌, Bool, ◌&&◌, List, ℕ, ◌≤◌, min, T, leb, ℤ, Ok}
use Rattle.std.proofs.Common.{sym, ap, ◌∙◌}
use Rattle.std.proofs.Math.Nat.{min-eq_left}
use Rattle.rules.specs.declared.Limits.{Limits}
use Rattle.rules.specs.declared.Sizes.{Sizes}
use Rattle.rules.specs.Problem.{cut, sizes, table_length, fault, need, judged, cut_refusal, verdict, problem_refusal}
use Rattle.laws.specs.Faults.{need_holds, first_none}
use Rattle.problem.specs.Measured.{Measured, measured, Within, within}

-- tables of `tables` words and lists of `lists` are long enough
abbrev pub room : ℕ → ℕ → Sizes → Bool
room tables lists s = leb (table_length s) tables && leb s.np lists

-- the limits, where no more than this many items can be marked
abbrev pub served : Limits → ℕ → Limits
served L marks = record { items = min L.items marks; options = L.options; entries = L.entries }

pub served_all : (L : Limits) {K : Limits} (marks : ℕ) → L ≡ K → K.items ≤ marks → served L marks ≡ K
served_all L {K} marks e h = ap (λ (M : Limits). served M marks) e ∙ ap (λ (i : ℕ). record { items = i; options = K.options; entries = K.entries }) (min-eq_left h)

-- ---- words that are not refused

pub record Accepted (L : Limits) (least : ℕ) (room : Sizes → Bool) (ws : List ℤ) (s : Sizes) : Type 0 where
  pub measures : Measured ws s
  pub bounds : Within L least s
  pub has_room : T (room s)
  pub faultless : fault (cut ws) ≡ 0

pub accepted : (L : Limits) (least : ℕ) (room : Sizes → Bool) (ws : List ℤ) {s : Sizes} → problem_refusal L least room ws ≡ 0 → s ≡ sizes (cut ws) → Accepted L least room ws s
unfolding problem_refusal verdict
accepted L least room ws {s} e u =
    let (a, b) = first_none (cut_refusal L least ws) (need (room (sizes (cut ws))) 9 (fault (cut ws))) e in
    let (r, f) = need_holds (room (sizes (cut ws))) 8 (fault (cut ws)) b in
    let v : Ok s ≡ verdict L least ws = ap Ok u ∙ sym (ap (λ (k : ℕ). judged k (sizes (cut ws))) a) in
    record { measures = measured L least ws s v; bounds = within L least ws s v; has_room = rw u r; faultless = f }

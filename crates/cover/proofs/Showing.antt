-- From an accepted problem to its pages, and the lines that are printed. Assumes nothing.
use Rattle.std.specs.Prelude.{Option, None, Some, Result, Err}
use mathlib.Core.Logic.{◌⊎◌, inl, inr}
use mathlib.Core.Bool.{Bool}
use mathlib.Core.List.{List, [], ◌∷◌, ◌++◌, map, append-nil}
use mathlib.Core.Path.{◌≡◌, refl, sym, ap, ◌∙◌, subst}
use Prim.Native.Nat.{ℕ, zero, suc, ◌+◌, ◌≤◌, ◌<◌, ◌-◌}
use native.Mathlib.Omega.{arith}
use lib.IntN.{ℤ, pos}
use lib.ListN.{length, take, drop, replicate, length-append, length-drop, length-map, length-replicate}
use lib.Seq.{drop-drop, take_all, take_at, drop_at}
use Rattle.rules.specs.declared.Phase.TheVariants.{Ready}
use Rattle.rules.specs.declared.Sizes.{Sizes}
use Rattle.rules.specs.declared.State.{State}
use Rattle.rules.specs.declared.Unread.{Unread}
use Rattle.rules.specs.declared.Unread.TheVariants.{Faulty, Refused}
use Rattle.rules.specs.Lists.{flat}
use Rattle.rules.specs.Problem.{Problem, door_limits, as_entry, cut, meant, sizes}
use Rattle.rules.specs.Order.{Rule, pick}
use Rattle.rules.specs.Walk.{listed}
use Rattle.rules.specs.Links.{fresh}
use Rattle.rules.specs.Calls.{blank}
use Rattle.rules.specs.Text.{read_said}
use Rattle.rules.specs.Cover.{line, refusal_line, refused, accepted, opened, printed_of, printed}
use Rattle.laws.specs.Faults.{good_meant}
use Rattle.laws.specs.Lists.{flat_append}
use Rattle.laws.specs.Order.{pick_sound}
use Rattle.problem.specs.Measured.{table_bounds}
use Rattle.problem.specs.Room.{Accepted}
use Rattle.knuth.specs.Bounded.{few_visits}
use Rattle.knuth.specs.Trace.{to_come, rest, whole}
use Rattle.knuth.proofs.Walks.{whole_found}
use Rattle.search.specs.Meant.{top_on, top_profile}
use Rattle.cover.specs.Opening.{Opens}
use Rattle.cover.specs.Pages.{Coming, Lined, FilledMore, FilledAs, Filled}
use Rattle.knuth.specs.Written.{Due, lost, Moved, Ended}
use Rattle.cover.proofs.Printing.{line_short}

-- ---- the first page

-- at the top every solution is to come
top_comes : (P : Problem) (rule : Rule) → (to_come P rule Ready []).found ≡ listed P rule
unfolding rest
top_comes P rule = append-nil (whole P rule []).found ∙ whole_found P rule

top_visits : (P : Problem) (rule : Rule) → (to_come P rule Ready []).visits ≡ (whole P rule []).visits
unfolding rest
top_visits P rule = append-nil (whole P rule []).visits

module _ {room : Sizes → Bool} {ws : List ℤ} {s : Sizes} (A : Accepted door_limits 1 room ws s) where
  abbrev P : Problem
  P = meant (cut ws)

  few_options : length P.options ≤ 64
  unfolding meant sizes
  few_options =
      omega (
        arith,
        A.bounds.few_options,
        length-map (cut ws).options (λ o. map as_entry o),
        ap (λ (x : Sizes). x.options) A.measures.are,
      )

  pub top_coming : {t path : List ℤ} {profile : List ℕ} → t ≡ fresh P → path ≡ replicate s.np (pos 0)
      → profile ≡ replicate s.np 0 → Coming P (s.np + s.ns) (listed P (pick P)) t path profile blank
  top_coming e u p = record {
    s = [];
    begun = record {
      on = top_on ws s A.measures A.faultless (omega (arith, (table_bounds A.bounds).0)) e u;
      done_top = λ z. refl;
    };
    counts = top_profile s.np u p;
    small = omega arith;
    low = omega (arith, ap length u ∙ length-replicate s.np (pos 0), A.bounds.few_items);
    few = omega (
      arith,
      ap length (top_visits P (pick P)),
      few_visits P (good_meant (cut ws) A.faultless) (pick P) (pick_sound P) few_options,
    );
    is = sym (top_comes P (pick P));
  }

pub take_zeros : {A : Type 0} (x : A) (n k : ℕ) → k ≤ n → take k (replicate n x) ≡ replicate k x
take_zeros x n zero h = refl
take_zeros x zero (suc k) h = absurd (omega arith)
take_zeros x (suc n) (suc k) h = ap (λ (l : List _). x ∷ l) (take_zeros x n k (omega arith))

-- ---- what is sent

-- the last write: all is sent, or it failed
pub last_write : (text : List ℕ) {sent used sent' : ℕ} → Moved sent used sent'
    → sent + used ≡ length (printed text) → Ended text sent'
last_write text {sent} {used} {sent'} m e = by m.on
  where
    by : (sent' ≡ sent + used) ⊎ (sent' ≡ lost) → Ended text sent'
    by (inl w) = inl (w ∙ e)
    by (inr w) = inr (omega arith)

-- every other write brings the end nearer
pub nearer : {sent used sent' : ℕ} → Moved sent used sent' → 0 < used → sent < 9223372036854775808
    → 9223372036854775808 - sent' < 9223372036854775808 - sent
nearer {sent} {used} {sent'} m h l = by m.on
  where
    by : (sent' ≡ sent + used) ⊎ (sent' ≡ lost) → 9223372036854775808 - sent' < 9223372036854775808 - sent
    by (inl w) = omega arith
    by (inr w) = omega arith

-- `sent` bytes are written, and the lines of these solutions are the others
pub record Unsent (text : List ℕ) (sent : ℕ) (left : List (List ℕ)) : Type 0 where
  pub within : sent ≤ length (printed text)
  pub is : drop sent (printed text) ≡ flat line left

none_sent : (text : List ℕ) {ws : List ℤ} {sent : ℕ} → opened text ≡ accepted ws → sent ≡ 0
    → Unsent text sent (listed (meant (cut ws)) (pick (meant (cut ws))))
unfolding printed
none_sent text e z = record { within = omega arith; is = ap (λ (k : ℕ). drop k (printed text)) z ∙ ap printed_of e }

-- the lines in the buffer are the next to be sent, and then the others are left
module _ (text : List ℕ) {sent : ℕ} {all : List (List ℕ)} (done left : List (List ℕ)) (out : List ℕ)
    (U : Unsent text sent all) (e : all ≡ done ++ left) (L : Lined done out) where
  long : length (flat line done) ≡ length out
  long = ap length (sym L.is)

  parts : drop sent (printed text) ≡ flat line done ++ flat line left
  parts = U.is ∙ ap (flat line) e ∙ flat_append line done left

  counted : sent + (length out + length (flat line left)) ≡ length (printed text)
  counted =
      omega (
        arith,
        U.within,
        long,
        ap length parts ∙ length-append (flat line done) (flat line left),
        length-drop sent (printed text),
      )

  due : Due (printed text) sent out (length out)
  due = record {
    within = omega arith;
    fits = omega (arith, counted);
    is =
        take_all (length out) out (omega arith) ∙ L.is
        ∙ sym (ap (take (length out)) parts ∙ take_at (flat line done) (flat line left) (length out) long);
  }

  sent_on : {sent' : ℕ} → sent' ≡ sent + length out → Unsent text sent' left
  sent_on {sent'} u = record {
    within = omega (arith, counted);
    is =
        ap (λ (k : ℕ). drop k (printed text)) u ∙ sym (drop-drop (length out) sent (printed text))
        ∙ ap (drop (length out)) parts ∙ drop_at (flat line done) (flat line left) (length out) long;
  }

-- ---- the loop

-- the page in the buffer is the next of what is left to be sent
pub record Paging (text : List ℕ) (P : Problem) (n : ℕ) (t path : List ℤ) (profile out : List ℕ) (sent : ℕ)
    (page : Option State) : Type 0 where
  pub left : List (List ℕ)
  pub unsent : Unsent text sent left
  pub filled : Filled P n left t path profile out page

pub first_page : (text : List ℕ) {ws : List ℤ} {n : ℕ} {t path : List ℤ} {profile out : List ℕ} {sent : ℕ}
    {r : Option State} → opened text ≡ accepted ws → sent ≡ 0
    → Filled (meant (cut ws)) n (listed (meant (cut ws)) (pick (meant (cut ws)))) t path profile out r
    → Paging text (meant (cut ws)) n t path profile out sent r
first_page text e z f = record { left = _; unsent = none_sent text e z; filled = f }

module _ {text : List ℕ} {P : Problem} {n : ℕ} {t path : List ℤ} {profile out : List ℕ} {sent : ℕ} {r : Option State}
    (S : Paging text P n t path profile out sent r) where
  page_as : {page : Option State} → r ≡ page → FilledAs P n S.left t path profile out page
  page_as e = subst (λ (x : Option State). FilledAs P n S.left t path profile out x) e S.filled.page

  -- the last page
  module _ (e : r ≡ None) where
    pub last_short : length out ≤ 65536
    last_short = (page_as e).within

    pub last_due : Due (printed text) sent out (length out)
    last_due = due text S.left [] out S.unsent (sym (append-nil S.left)) (page_as e)

    pub last_sent : sent + length out ≡ length (printed text)
    unfolding flat
    last_sent = omega (arith, counted text S.left [] out S.unsent (sym (append-nil S.left)) (page_as e))

  -- any other
  module _ {at : State} (e : r ≡ Some at) where
    pub more : FilledMore P n S.left t path profile out at
    more = page_as e

    pub more_short : length out ≤ 65536
    more_short = more.filling.lined.within

    pub more_due : Due (printed text) sent out (length out)
    more_due = let F = more.filling in due text F.done F.left out S.unsent F.parts F.lined

    pub more_some : 0 < length out
    more_some = omega (arith, more.full)

    pub more_coming : Coming P n more.filling.left t path profile at
    more_coming = more.filling.coming

    pub more_sent : {t' path' : List ℤ} {profile' out' : List ℕ} {sent' : ℕ} {next : Option State}
        → Moved sent (length out) sent' → (sent' < lost → Filled P n more.filling.left t' path' profile' out' next)
        → sent' < 9223372036854775808 → Paging text P n t' path' profile' out' sent' next
    more_sent {t'} {path'} {profile'} {out'} {sent'} {next} m f h = by m.on
      where
        by : (sent' ≡ sent + length out) ⊎ (sent' ≡ lost) → Paging text P n t' path' profile' out' sent' next
        by (inl w) =
            let F = more.filling in
            record {
              left = F.left;
              unsent = sent_on text F.done F.left out S.unsent F.parts F.lined w;
              filled = f (omega (arith, h));
            }
        by (inr w) = absurd (omega arith)

-- ---- the text

pub opens_as : (text : List ℕ) (words : List ℤ) {r : Result (ℕ × Sizes) Unread} (x : Result (ℕ × Sizes) Unread) → Opens text words r → r ≡ x
    → Opens text words x
opens_as text words x o e = subst (λ (y : Result (ℕ × Sizes) Unread). Opens text words y) e o

-- ---- a refusal

pub unread_short : (u : Unread) → length (read_said (Err u)) ≤ 2
unread_short (Faulty line) = omega arith
unread_short (Refused k) = omega arith

-- its line is all that is printed
module _ (text ns : List ℕ) {out : List ℕ} {sent : ℕ} (e : opened text ≡ refused ns) (p : out ≡ refusal_line ns)
    (short : length ns ≤ 2) (z : sent ≡ 0) where
  all_is : printed text ≡ refusal_line ns
  unfolding printed
  all_is = ap printed_of e

  same : out ≡ drop sent (printed text)
  same = p ∙ sym (ap (λ (k : ℕ). drop k (printed text)) z ∙ all_is)

  pub refusal_sent : sent + length out ≡ length (printed text)
  refusal_sent = omega (arith, z, ap length p, ap length all_is)

  pub refusal_small : sent + length out < 18446744073709551616
  unfolding refusal_line
  refusal_small = omega (arith, z, ap length p, line_short ns)

  pub refusal_due : Due (printed text) sent out (length out)
  refusal_due = record {
    within = omega arith;
    fits = omega (arith, refusal_sent);
    is = ap (take (length out)) same;
  }

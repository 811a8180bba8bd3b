-- A path's choices made on the spare, and taken back.
use mathlib.Core.Path.{◌≡◌, refl, sym, ap, ◌∙◌}
use mathlib.Core.Logic.{◌≢◌}
use mathlib.Core.Bool.{Bool, true, false, cond}
use Rattle.std.specs.Prelude.{Option, None, Some}
use mathlib.Core.List.{List, [], ◌∷◌, ◌++◌, map, map-append, append_assoc}
use Prim.Native.Nat.{ℕ, suc, ◌+◌, ◌-◌, ◌≤◌, ◌<◌}
use native.Mathlib.Omega.{arith}
use native.Mathlib.Numerals.{add-one}
use borrow.Author.Tests.{eq-eqb, ne_eqb}
use lib.IntN.{ℤ, pos}
use lib.ListN.{length, take, drop, length-take, drop_of_length-le}
use lib.Seq.{drop-cons, get_or-take}
use Rattle.rules.specs.Lists.{got}
use Rattle.rules.specs.Words.{word}
use Rattle.rules.specs.Problem.{Problem}
use Rattle.rules.specs.Order.{Choice, node, pick, choices, open_options}
use Rattle.rules.specs.Links.{held, first_or}
use Rattle.rules.specs.Walk.{Level, made, chosen}
use Rattle.rules.specs.Calls.{level_of, taken}
use Rattle.laws.specs.Reached.{level_at}
use Rattle.words.specs.Read.{Natural, Link}
use Rattle.links.specs.Moves.{InList}
use Rattle.links.specs.Rising.{linked_rise, way_down, down_less}
use Rattle.search.specs.Begun.{level_node}
use Rattle.search.specs.Points.{At, Picked, Trying, Last}
use Rattle.search.specs.Replays.{Trailed, meant_by, Stepped, Followed, go_on, follows}
use Rattle.search.proofs.Moving.{item_list, way_reached, way_header, way_other, way_below}
use Rattle.search.proofs.Levels.{linked_is}

-- ---- `is_listed`

abbrev pub ways : Problem → List Level → ℕ → List Choice
ways P s j = choices j (open_options P (chosen s))

-- some choices are passed, the others are ahead
pub record Looking (P : Problem) (s : List Level) (j q p : ℕ) : Type 0 where
  pub passed : List Choice
  pub ahead : List Choice
  pub split : ways P s j ≡ passed ++ ahead
  pub at : p ≡ first_or (suc j) (map node ahead)
  pub same : level_of q (ways P s j) ≡ level_of q ahead

-- the choice at p
pub record Look (P : Problem) (n : ℕ) (s : List Level) (j : ℕ) (t : List ℤ) (i q p : ℕ) : Type 0 where
  pub xs : List ℕ
  pub ys : List ℕ
  pub in_list : InList P (held (made s)) n t j xs p ys
  pub near : {p' : ℕ} → p' ≡ first_or (suc j) ys → way_down (length t) i p' < way_down (length t) i p
  pub found : p ≡ q → true ≡ got (level_of q (ways P s j))
  pub next : {p' : ℕ} → p ≢ q → p' ≡ first_or (suc j) ys → Looking P s j q p'

module _ {P : Problem} {n : ℕ} {s : List Level} {j : ℕ} {t : List ℤ} {i : ℕ} (K : Picked P n s j t i) where
  pub look_start : (q : ℕ) {p : ℕ} → p ≡ first_or (suc j) (map node (ways P s j)) → Looking P s j q p
  look_start q e = record { passed = []; ahead = ways P s j; split = refl; at = e; same = refl }

  pub look : {q p : ℕ} → Looking P s j q p → p ≢ i → Look P n s j t i q p
  unfolding level_of
  look {q} {p} L ne = step L.ahead L.split L.at L.same
    where
      step : (ys : List Choice) → ways P s j ≡ L.passed ++ ys → p ≡ first_or (suc j) (map node ys)
          → level_of q (ways P s j) ≡ level_of q ys → Look P n s j t i q p
      step [] e f h = absurd (ne (f ∙ sym K.header_is))
      step (c ∷ ys) e f h = record {
        xs = suc j ∷ map node L.passed;
        ys = map node ys;
        in_list = item_list K (suc j ∷ map node L.passed) p (map node ys)
            (ap (λ (l : List Choice). suc j ∷ map node l) e ∙ ap (λ (l : List ℕ). suc j ∷ l) (map-append node L.passed (c ∷ ys)) ∙ ap (λ (x : ℕ). (suc j ∷ map node L.passed) ++ x ∷ map node ys) (sym f));
        near = λ u.
            down_less L.passed c ys (rw (
              linked_is P K.at.good K.at.reached j,
              e,
            ) at (linked_rise P (held (made s)) j)) f
            (u ∙ ap (λ (h : ℕ). first_or h (map node ys)) (sym K.header_is)) ne (way_below K L.passed c ys e f);
        found = λ u. sym (ap got (h ∙ ap (λ (b : Bool). cond b (Some (record { tried = c; left = ys })) (level_of q ys)) (eq-eqb (node c) q (sym f ∙ u))));
        next = λ {p'} u w. record {
          passed = L.passed ++ c ∷ [];
          ahead = ys;
          split = e ∙ sym (append_assoc L.passed (c ∷ []) ys);
          at = w;
          same = h ∙ ap (λ (b : Bool). cond b (Some (record { tried = c; left = ys })) (level_of q ys)) (ne_eqb (node c) q (λ z. u (f ∙ z)));
        };
      }

  pub look_none : {q p : ℕ} → Looking P s j q p → p ≡ i → false ≡ got (level_of q (ways P s j))
  unfolding level_of
  look_none {q} {p} L z = step L.ahead L.split L.at L.same
    where
      step : (ys : List Choice) → ways P s j ≡ L.passed ++ ys → p ≡ first_or (suc j) (map node ys) → level_of q (ways P s j) ≡ level_of q ys → false ≡ got (level_of q (ways P s j))
      step [] e f h = sym (ap got h)
      step (c ∷ ys) e f h = absurd (way_other K L.passed c ys e (sym f ∙ z))

-- ---- `follow`

is_got : {A : Type 0} (r : Option A) → got r ≡ true → (a : A) × (r ≡ Some a)
is_got None e = absurd (let z : ◌≡◌ {A = ℕ} 0 1 = cc in omega arith)
is_got (Some a) e = (a, refl)

module _ (P : Problem) (s : List Level) {path : List ℤ} {l q : ℕ} (k : Link path l q) where
  word_meant : meant_by P s (word path l) ≡ taken P (pick P) (pick P (chosen s)) s q
  word_meant = ap (meant_by P s) k.word_is

  module _ {n j : ℕ} {t : List ℤ} {i : ℕ} (K : Picked P n s j t i) where
    one_meant : meant_by P s (word path l) ≡ level_of q (ways P s j)
    one_meant = word_meant ∙ ap (λ (o : Option ℕ). taken P (pick P) o s q) K.picks

    -- the word's choice can be made
    pub listed : got (level_of q (ways P s j)) ≡ true → (v : Level) × (meant_by P s (word path l) ≡ Some v) × Trying P n s v t i q
    listed e =
        let r = is_got (level_of q (ways P s j)) e in
        let x = level_at q (ways P s j) r.1 in
        let g = way_reached K x.0 r.0 x.1 in
        (r.0, one_meant ∙ r.1, record { at = K.at; reached = g; header_is = way_header K r.0 g; node_is = level_node q (ways P s j) r.1 })

    pub stepped : (e : got (level_of q (ways P s j)) ≡ true) {t' : List ℤ} → At P n ((listed e).0 ∷ s) t' → Stepped P n s path l t'
    stepped e A = let r = listed e in record { v = r.0; meant = r.1; node_is = k.word_is ∙ ap pos r.2.node_is; at = A }

-- ---- `replay`

-- the choices of the path's first l words are made, and lead to the point s
pub record Replaying (P : Problem) (n depth : ℕ) (t path : List ℤ) (l : ℕ) : Type 0 where
  pub s : List Level
  pub on : Trailed P n s t path l
  pub within : l ≤ depth
  pub same : follows P (take depth path) [] ≡ follows P (drop l (take depth path)) s

next_word : (path : List ℤ) (depth l : ℕ) → depth ≤ length path → l < depth → drop l (take depth path) ≡ word path l ∷ drop (l + 1) (take depth path)
next_word path depth l h k =
    let m : l < length (take depth path) = omega (arith, length-take depth path) in
    rw (add-one l) (drop-cons (take depth path) l (pos 0) m ∙ ap (λ (z : ℤ). z ∷ drop (suc l) (take depth path)) (get_or-take depth path l (pos 0) k))

module _ {P : Problem} {n depth : ℕ} {t path : List ℤ} {l : ℕ} (R : Replaying P n depth t path l) (h : depth ≤ length path) (k : l < depth) where
  -- the levels from here on, by what the word at l means
  next_is : {o : Option Level} → meant_by P R.s (word path l) ≡ o
      → follows P (take depth path) [] ≡ go_on o R.s (λ t. follows P (drop (l + 1) (take depth path)) t)
  unfolding follows
  next_is e =
      R.same ∙ ap (λ (x : List ℤ). follows P x R.s) (next_word path depth l h k)
      ∙ ap (λ (o : Option Level). go_on o R.s (λ t. follows P (drop (l + 1) (take depth path)) t)) e

  pub replay_on : (b : Bool) (t' : List ℤ) → Followed P n R.s path l t' b → b ≡ true → Replaying P n depth t' path (l + 1)
  replay_on true t' F e =
      let f = R.on.level in
      record {
        s = F.v ∷ R.s;
        on = record { at = F.at; trail = (rw (sym f) (omega arith), rw (sym f) F.node_is, R.on.trail); level = omega arith };
        within = omega arith;
        same = next_is F.meant;
      }
  replay_on false t' F e = absurd (let z : ◌≡◌ {A = ℕ} 0 1 = cc in omega arith)

  pub replay_stop : (b : Bool) (t' : List ℤ) → Followed P n R.s path l t' b → b ≡ false
      → Trailed P n (follows P (take depth path) []) t' path l
  replay_stop true t' F e = absurd (let z : ◌≡◌ {A = ℕ} 0 1 = cc in omega arith)
  replay_stop false t' F e =
      rw (next_is F.meant) (record { at = F.at; trail = R.on.trail; level = R.on.level })

pub replay_end : {P : Problem} {n depth : ℕ} {t path : List ℤ} {l : ℕ} → Replaying P n depth t path l → depth ≤ l
    → Trailed P n (follows P (take depth path) []) t path depth
unfolding follows
replay_end {P} {n} {depth} {t} {path} {l} R h =
    let k : length (take depth path) ≤ l = omega (arith, length-take depth path) in
    let e : drop l (take depth path) ≡ [] = drop_of_length-le (take depth path) {i = l} k in
    rw (R.same ∙ ap (λ (x : List ℤ). follows P x R.s) e)
    (record { at = R.on.at; trail = R.on.trail; level = omega (arith, R.on.level, R.within, h) })

-- ---- `undo`

pub record Undoing (P : Problem) (n : ℕ) (t path : List ℤ) (l : ℕ) : Type 0 where
  pub s : List Level
  pub on : Trailed P n s t path l

-- the deepest level, v
pub record Deepest (P : Problem) (n : ℕ) (t path : List ℤ) (l : ℕ) : Type 0 where
  pub v : Level
  pub above : List Level
  pub inside : l < length path
  pub natural : Natural path l
  pub last : {x : ℕ} → Link path l x → Last P n v above t x
  pub next : {t' : List ℤ} → At P n above t' → Undoing P n t' path l

pub deepest : {P : Problem} {n : ℕ} {t path : List ℤ} {l : ℕ} → Undoing P n t path l → 0 < l
    → Deepest P n t path (l - 1)
deepest {P} {n} {t} {path} {l} U some = step U.s U.on
  where
    step : (s : List Level) → Trailed P n s t path l → Deepest P n t path (l - 1)
    step [] O = absurd (omega (arith, O.level))
    step (v ∷ above) O =
        let d : l - 1 ≡ length above = omega (arith, O.level) in
        let w : word path (l - 1) ≡ pos (node v.tried) = rw d O.trail.1 in
        record {
          v = v;
          above = above;
          inside = rw d O.trail.0;
          natural = rw w tt;
          last = λ {x} k. record { at = O.at; node_is = let z : pos x ≡ pos (node v.tried) = sym k.word_is ∙ w in cc };
          next = λ A. record { s = above; on = record { at = A; trail = O.trail.2; level = d } };
        }

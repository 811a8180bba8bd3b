-- What the link operations ask of a table, and what they do: the promises that the search sees.
use Rattle.std.specs.Prelude.{◌≡◌, not, ℕ, suc, ◌<◌, T, ℤ, length}
use mathlib.Core.List.{List, ◌∷◌, ◌++◌, Memᴰ as Mem}
use Rattle.rules.specs.Problem.{Entry, Problem, items}
use Rattle.rules.specs.Order.{has_item, placed, Choice, node}
use Rattle.rules.specs.Links.{Event, cost, own, linked, touch, try, run_events}
use Rattle.laws.specs.Faults.{Good}
use Rattle.tables.specs.Nodes.{nodes}
use Rattle.tables.specs.Shows.{view, Shows}

-- the table t of a good problem, whose nodes a word can number, shows `held`
pub record Shown (P : Problem) (held : List Entry) (t : List ℤ) : Type 0 where
  pub good : Good P
  pub small : nodes P < 2147483648
  pub shows : Shows P held t

-- ---- reading

-- p stands in the primary ring, after xs and before ys; the head 0 is the first
pub record InRing (P : Problem) (held : List Entry) (t : List ℤ) (xs : List ℕ) (p : ℕ) (ys : List ℕ) : Type 0 where
  pub shown : Shown P held t
  pub split : 0 ∷ (view P held).ring 0 ≡ xs ++ p ∷ ys

abbrev pub SomeRing : List ℤ → ℕ → Type 0
SomeRing t p = (P : Problem) × (held : List Entry) × (xs : List ℕ) × (ys : List ℕ) × InRing P held t xs p ys

-- q stands in the list of item i, after xs and before ys; the header is the first
pub record InList (P : Problem) (held : List Entry) (n : ℕ) (t : List ℤ) (i : ℕ) (xs : List ℕ) (q : ℕ) (ys : List ℕ) : Type 0 where
  pub shown : Shown P held t
  pub n_is : n ≡ items P
  pub item : i < items P
  pub split : suc i ∷ (view P held).list i ≡ xs ++ q ∷ ys

abbrev pub SomeList : ℕ → List ℤ → ℕ → Type 0
SomeList n t q = (P : Problem) × (held : List Entry) × (i : ℕ) × (xs : List ℕ) × (ys : List ℕ) × InList P held n t i xs q ys

-- i is the header of item j
pub record IsHeader (P : Problem) (held : List Entry) (n : ℕ) (t : List ℤ) (j i : ℕ) : Type 0 where
  pub shown : Shown P held t
  pub n_is : n ≡ items P
  pub item : j < items P
  pub is : i ≡ suc j

abbrev pub SomeHeader : ℕ → List ℤ → ℕ → Type 0
SomeHeader n t i = (P : Problem) × (held : List Entry) × (j : ℕ) × IsHeader P held n t j i

-- x is the node of choice c
pub record IsNode (P : Problem) (held : List Entry) (n : ℕ) (t : List ℤ) (c : Choice) (x : ℕ) : Type 0 where
  pub shown : Shown P held t
  pub n_is : n ≡ items P
  pub placed_in : Mem c.option (placed P)
  pub inside : c.at < length c.option.entries
  pub is : x ≡ node c

abbrev pub SomeNode : ℕ → List ℤ → ℕ → Type 0
SomeNode n t x = (P : Problem) × (held : List Entry) × (c : Choice) × IsNode P held n t c x

-- ---- changing

-- the events are done, and the result is their price in updates
pub record Done (n : ℕ) (t : List ℤ) (es : List Event) (t' : List ℤ) (r : ℕ) : Type 0 where
  pub is : t' ≡ run_events n t es
  pub counts : r ≡ cost es

-- the entry of an item that is covered
abbrev pub bare : ℕ → Entry
bare j = record { item = j; colour = 0 }

-- item j, whose header is i, is not held in t, so that it can be covered
pub record CanCover (P : Problem) (held : List Entry) (n : ℕ) (t : List ℤ) (j i : ℕ) : Type 0 where
  pub header : IsHeader P held n t j i
  pub free : T (not (has_item j held))

abbrev pub SomeCover : ℕ → List ℤ → ℕ → Type 0
SomeCover n t i = (P : Problem) × (held : List Entry) × (j : ℕ) × CanCover P held n t j i

-- t is the table t₁, which shows `held`, with item j covered
pub record Covered (P : Problem) (held : List Entry) (n : ℕ) (t₁ t : List ℤ) (j i : ℕ) : Type 0 where
  pub can : CanCover P held n t₁ j i
  pub is : t ≡ run_events n t₁ (touch P held (bare j))

abbrev pub SomeCovered : ℕ → List ℤ → ℕ → Type 0
SomeCovered n t i = (P : Problem) × (held : List Entry) × (t₁ : List ℤ) × (j : ℕ) × Covered P held n t₁ t j i

-- the primary item j of choice c is covered in t, c's option agreed with what held before, and x is c's node
pub record CanCommit (P : Problem) (held : List Entry) (n : ℕ) (t : List ℤ) (c : Choice) (x : ℕ) : Type 0 where
  pub shown : Shown P (own c ∷ held) t
  pub n_is : n ≡ items P
  pub primary : (own c).item < P.np
  pub listed : Mem c (linked P held (own c).item)
  pub is : x ≡ node c

abbrev pub SomeCommit : ℕ → List ℤ → ℕ → Type 0
SomeCommit n t x = (P : Problem) × (held : List Entry) × (c : Choice) × CanCommit P held n t c x

-- t is the table t₁ with choice c committed
pub record Committed (P : Problem) (held : List Entry) (n : ℕ) (t₁ t : List ℤ) (c : Choice) (x : ℕ) : Type 0 where
  pub can : CanCommit P held n t₁ c x
  pub is : t ≡ run_events n t₁ (try P held c)

abbrev pub SomeCommitted : ℕ → List ℤ → ℕ → Type 0
SomeCommitted n t x = (P : Problem) × (held : List Entry) × (t₁ : List ℤ) × (c : Choice) × Committed P held n t₁ t c x

-- What the steps inside cover and commit ask of a table, and what they do.
use Rattle.std.specs.Prelude.{◌≡◌, Bool, true, false, not, ℕ, suc, ◌+◌, ◌*◌, ◌<◌, T, ℤ, pos, length}
use mathlib.Core.List.{List, [], ◌∷◌, Memᴰ as Mem}
use Rattle.rules.specs.Words.{word}
use Rattle.rules.specs.Problem.{Entry, Problem, items}
use Rattle.rules.specs.Order.{has_item, one_colour, Placed, placed, Choice, node}
use Rattle.rules.specs.Links.{Event, unlink, Node, nodes_from, own, hide, met, touch, commit_node, left, right, top, up, down, colour_at, run_events}
use Rattle.words.specs.Read.{Natural, Link}
use Rattle.laws.specs.Faults.{Good}
use Rattle.tables.specs.Nodes.{nodes}
use Rattle.tables.specs.Views.{View, Fits, Table, shade}
use Rattle.tables.specs.Shows.{view}
use Rattle.tables.specs.Met.{Whole}
use Rattle.links.specs.Moves.{Shown}

-- the word at a is a number
abbrev pub HasLink : List ℤ → ℕ → Type 0
HasLink t a = (a < length t) × Natural t a

-- ---- one node

-- the words of node q are x, the header of its item, and its neighbours u and d
pub record Stands (n : ℕ) (t : List ℤ) (q x u d : ℕ) : Type 0 where
  pub top_is : Link t (top n q) x
  pub up_is : Link t (up n q) u
  pub down_is : Link t (down n q) d

-- node q of item i, numbered from 0, says that it stands between u and d
pub record Between (P : Problem) (n : ℕ) (t : List ℤ) (i q u d : ℕ) : Type 0 where
  pub n_is : n ≡ items P
  pub size : length t ≡ 2 * (items P + 2) + 4 * nodes P
  pub item : i < items P
  pub inside : q < nodes P
  pub top_is : word t (top (items P) q) ≡ pos (suc i)
  pub up_is : word t (up (items P) q) ≡ pos u
  pub up_in : u < nodes P
  pub down_is : word t (down (items P) q) ≡ pos d
  pub down_in : d < nodes P

-- it can leave its list, which is not empty
pub record CanUnlink (P : Problem) (n : ℕ) (t : List ℤ) (i q u d : ℕ) : Type 0 where
  pub between : Between P n t i q u d
  pub others : ℕ
  pub count_is : word t (top (items P) (suc i)) ≡ pos (suc others)

abbrev pub SomeUnlink : ℕ → List ℤ → ℕ → Type 0
SomeUnlink n t q = (P : Problem) × (i : ℕ) × (u : ℕ) × (d : ℕ) × CanUnlink P n t i q u d

-- it can come back to its list, whose length can rise
pub record CanRelink (P : Problem) (n : ℕ) (t : List ℤ) (i q u d : ℕ) : Type 0 where
  pub between : Between P n t i q u d
  pub small : nodes P < 2147483648
  pub others : ℕ
  pub count_is : word t (top (items P) (suc i)) ≡ pos others
  pub room : others < 2147483647

abbrev pub SomeRelink : ℕ → List ℤ → ℕ → Type 0
SomeRelink n t q = (P : Problem) × (i : ℕ) × (u : ℕ) × (d : ℕ) × CanRelink P n t i q u d

-- ---- one item

-- item j, whose header is i, says that it stands between l and r in its ring
pub record Ringed (P : Problem) (t : List ℤ) (j i l r : ℕ) : Type 0 where
  pub is : i ≡ suc j
  pub size : length t ≡ 2 * (items P + 2) + 4 * nodes P
  pub small : nodes P < 2147483648
  pub item : j < items P
  pub left_is : word t (left (suc j)) ≡ pos l
  pub left_in : l < items P + 2
  pub right_is : word t (right (suc j)) ≡ pos r
  pub right_in : r < items P + 2

abbrev pub SomeRinged : List ℤ → ℕ → Type 0
SomeRinged t i = (P : Problem) × (j : ℕ) × (l : ℕ) × (r : ℕ) × Ringed P t j i l r

-- ---- one option

-- node q is the node x of a kept option, in a table that W tells; if it is not marked it can leave its list
pub record OneNode (P : Problem) (W : View) (n : ℕ) (t : List ℤ) (x : Node) (q : ℕ) : Type 0 where
  pub good : Good P
  pub n_is : n ≡ items P
  pub table : Table P W t
  pub option : Placed
  pub placed_in : Mem option (placed P)
  pub node_in : Mem x (nodes_from option.first option.entries)
  pub is : q ≡ x.at
  pub fits : T (not (W.marked q)) → Fits P W (unlink q)

abbrev pub SomeOne : ℕ → List ℤ → ℕ → Type 0
SomeOne n t q = (P : Problem) × (W : View) × (x : Node) × OneNode P W n t x q

-- a node leaves its list unless it is marked
abbrev pub unless : Bool → ℕ → List Event
unless true q = []
unless false q = unlink q ∷ []

-- no list is so long that a word could not count it
abbrev pub Short : Problem → View → Type 0
Short P W = (i : ℕ) → i < items P → length (W.list i) < 2147483648

-- t is the table t₁, where node q has left its list unless it is marked
pub record OneHidden (P : Problem) (W : View) (n : ℕ) (t₁ t : List ℤ) (x : Node) (q : ℕ) : Type 0 where
  pub node : OneNode P W n t₁ x q
  pub is : t ≡ run_events (items P) t₁ (unless (W.marked q) q)
  pub small : nodes P < 2147483648
  pub short : Short P W

abbrev pub SomeOneHidden : ℕ → List ℤ → ℕ → Type 0
SomeOneHidden n t q = (P : Problem) × (W : View) × (t₁ : List ℤ) × (x : Node) × OneHidden P W n t₁ t x q

-- p is the node of choice c, whose option is whole in a table that W tells
pub record CanHide (P : Problem) (W : View) (n : ℕ) (t : List ℤ) (held : List Entry) (c : Choice) (p : ℕ) : Type 0 where
  pub good : Good P
  pub n_is : n ≡ items P
  pub table : Table P W t
  pub placed_in : Mem c.option (placed P)
  pub inside : c.at < length c.option.entries
  pub whole : Whole P W held c
  pub is : p ≡ node c

abbrev pub SomeHide : ℕ → List ℤ → ℕ → Type 0
SomeHide n t p = (P : Problem) × (W : View) × (held : List Entry) × (c : Choice) × CanHide P W n t held c p

-- t is the table t₁ with the option of choice c hidden
pub record Hidden (P : Problem) (W : View) (n : ℕ) (t₁ t : List ℤ) (held : List Entry) (c : Choice) (p : ℕ) : Type 0 where
  pub can : CanHide P W n t₁ held c p
  pub is : t ≡ run_events (items P) t₁ (hide P held c)
  pub small : nodes P < 2147483648
  pub short : Short P W

abbrev pub SomeHidden : ℕ → List ℤ → ℕ → Type 0
SomeHidden n t p = (P : Problem) × (W : View) × (t₁ : List ℤ) × (held : List Entry) × (c : Choice) × Hidden P W n t₁ t held c p

-- ---- one item's list

-- the item of the entry e is not held in t, so that it can be covered or purified
pub record CanTouch (P : Problem) (held : List Entry) (n : ℕ) (t : List ℤ) (e : Entry) : Type 0 where
  pub shown : Shown P held t
  pub n_is : n ≡ items P
  pub item : e.item < items P
  pub free : T (not (has_item e.item held))

-- q is the node of choice d in the list of an item that is covered or purified
pub record CanMeet (P : Problem) (W : View) (n : ℕ) (t : List ℤ) (held : List Entry) (d : Choice) (q : ℕ) : Type 0 where
  pub can : CanHide P W n t held d q
  pub colour_is : word t (colour_at (items P) q) ≡ pos (own d).colour

-- t is the table t₁ where the node was met while its item was covered or purified to the entry e
pub record Met (P : Problem) (W : View) (n : ℕ) (t₁ t : List ℤ) (held : List Entry) (e : Entry) (d : Choice) (q : ℕ) : Type 0 where
  pub can : CanMeet P W n t₁ held d q
  pub is : t ≡ run_events (items P) t₁ (met P (one_colour e (own d)) held d)
  pub colour_now : word t (colour_at (items P) q) ≡ shade (one_colour e (own d)) (own d).colour
  pub small : nodes P < 2147483648
  pub short : Short P W

-- what is met while an item is purified to the entry e, whose colour is `colour`
pub record Meeting (P : Problem) (W : View) (n : ℕ) (t : List ℤ) (held : List Entry) (e : Entry) (d : Choice) (q colour : ℕ) : Type 0 where
  pub can : CanMeet P W n t held d q
  pub colour_is : colour ≡ e.colour
  pub coloured : 0 < e.colour

abbrev pub SomeMeeting : ℕ → List ℤ → ℕ → ℕ → Type 0
SomeMeeting n t q colour = (P : Problem) × (W : View) × (held : List Entry) × (e : Entry) × (d : Choice) × Meeting P W n t held e d q colour

-- and what is met on the way back
pub record Parting (P : Problem) (W : View) (n : ℕ) (t₁ t : List ℤ) (held : List Entry) (e : Entry) (d : Choice) (q colour : ℕ) : Type 0 where
  pub met : Met P W n t₁ t held e d q
  pub colour_is : colour ≡ e.colour

abbrev pub SomeParting : ℕ → List ℤ → ℕ → ℕ → Type 0
SomeParting n t q colour =
    (P : Problem) × (W : View) × (t₁ : List ℤ) × (held : List Entry) × (e : Entry) × (d : Choice) × Parting P W n t₁ t held e d q colour

-- ---- one entry

-- node p says that it has the entry e
pub record Says (P : Problem) (t : List ℤ) (e : Entry) (p : ℕ) : Type 0 where
  pub inside : p < nodes P
  pub top_is : word t (top (items P) p) ≡ pos (suc e.item)
  pub colour_is : word t (colour_at (items P) p) ≡ pos e.colour

-- node p has the coloured entry e, whose item is not held in t
pub record CanPurify (P : Problem) (held : List Entry) (n : ℕ) (t : List ℤ) (e : Entry) (p : ℕ) : Type 0 where
  pub touch : CanTouch P held n t e
  pub says : Says P t e p
  pub coloured : 0 < e.colour

abbrev pub SomePurify : ℕ → List ℤ → ℕ → Type 0
SomePurify n t p = (P : Problem) × (held : List Entry) × (e : Entry) × CanPurify P held n t e p

-- t is the table t₁ with the item of e purified, and node p still has the entry
pub record Purified (P : Problem) (held : List Entry) (n : ℕ) (t₁ t : List ℤ) (e : Entry) (p : ℕ) : Type 0 where
  pub can : CanTouch P held n t₁ e
  pub says : Says P t e p
  pub coloured : 0 < e.colour
  pub is : t ≡ run_events (items P) t₁ (touch P held e)

abbrev pub SomePurified : ℕ → List ℤ → ℕ → Type 0
SomePurified n t p = (P : Problem) × (held : List Entry) × (t₁ : List ℤ) × (e : Entry) × Purified P held n t₁ t e p

-- p is the node x, in a table where it is marked just if its item is held
pub record CanCommitNode (P : Problem) (held : List Entry) (n : ℕ) (t : List ℤ) (x : Node) (p : ℕ) : Type 0 where
  pub shown : Shown P held t
  pub n_is : n ≡ items P
  pub option : Placed
  pub placed_in : Mem option (placed P)
  pub node_in : Mem x (nodes_from option.first option.entries)
  pub is : p ≡ x.at
  pub marked_is : (view P held).marked x.at ≡ has_item x.entry.item held

abbrev pub SomeCommitNode : ℕ → List ℤ → ℕ → Type 0
SomeCommitNode n t p = (P : Problem) × (held : List Entry) × (x : Node) × CanCommitNode P held n t x p

-- t is the table t₁ with node x committed, which is marked just if its item was held before
pub record CommittedNode (P : Problem) (held : List Entry) (n : ℕ) (t₁ t : List ℤ) (x : Node) (p : ℕ) : Type 0 where
  pub can : CanCommitNode P held n t₁ x p
  pub still : (view P (x.entry ∷ held)).marked x.at ≡ has_item x.entry.item held
  pub is : t ≡ run_events (items P) t₁ (commit_node P (has_item x.entry.item held) held x.entry)

abbrev pub SomeCommittedNode : ℕ → List ℤ → ℕ → Type 0
SomeCommittedNode n t p = (P : Problem) × (held : List Entry) × (t₁ : List ℤ) × (x : Node)
    × CommittedNode P held n t₁ t x p

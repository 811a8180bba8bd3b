-- The table: as set-up makes it, and what choices do to it, as a list of elementary events.
use Rattle.std.specs.Prelude.{Bool, true, false, not, cond, ℕ, zero, suc, ◌+◌, ◌-◌, ◌*◌, eqb, ℤ, pos, negsuc, length, get_or, set, take, drop}
use mathlib.Core.List.{List, [], ◌∷◌, ◌++◌, map, foldl}
use Rattle.std.proofs.Math.IntN.{pred_ℤ}
use Rattle.rules.specs.Lists.{keep, flat, run}
use Rattle.rules.specs.Words.{word, nat}
use Rattle.rules.specs.Problem.{Entry, Problem, items}
use Rattle.rules.specs.Order.{has_item, one_colour, agree, Placed, placed, Choice, node, choices}

-- ---- where the words stand; n is the number of items

-- "n+2 pairs left, right"
abbrev pub left : ℕ → ℕ
left i = 2 * i

abbrev pub right : ℕ → ℕ
right i = 2 * i + 1

-- "then N nodes of four words: top or length, up, down, colour"
abbrev pub top : ℕ → ℕ → ℕ
top n q = 2 * (n + 2) + 4 * q

abbrev pub up : ℕ → ℕ → ℕ
up n q = 2 * (n + 2) + 4 * q + 1

abbrev pub down : ℕ → ℕ → ℕ
down n q = 2 * (n + 2) + 4 * q + 2

abbrev pub colour_at : ℕ → ℕ → ℕ
colour_at n q = 2 * (n + 2) + 4 * q + 3

-- ---- the fresh table

-- a node and its entry
pub record Node : Type 0 where
  pub at : ℕ
  pub entry : Entry

unfoldable pub nodes_from : ℕ → List Entry → List Node
nodes_from p [] = []
nodes_from p (e ∷ es) = record { at = p; entry = e } ∷ nodes_from (suc p) es

-- what stands before q in the ring h, xs
unfoldable pub previous : ℕ → ℕ → List ℕ → ℕ
previous h q [] = h
previous h q (x ∷ xs) = cond (eqb x q) h (previous x q xs)

abbrev pub first_or : ℕ → List ℕ → ℕ
first_or h [] = h
first_or h (x ∷ xs) = x

-- what stands after q in the ring h, xs
unfoldable pub following : ℕ → ℕ → List ℕ → ℕ
following h q [] = h
following h q (x ∷ xs) = cond (eqb x q) (first_or h xs) (following h q xs)

unfoldable pub last_or : ℕ → List ℕ → ℕ
last_or h [] = h
last_or h (x ∷ xs) = last_or x xs

module _ (P : Problem) where
  -- the nodes of item i, which is numbered from 0
  unfoldable pub column : ℕ → List ℕ
  column i = map node (choices i (placed P))

  -- "Items are numbered from 1 here": the primary ring is 0 to np, the secondary one np+1 to n+1
  unfoldable pub left_of : ℕ → ℕ
  left_of i = cond (eqb i 0) P.np (cond (eqb i (P.np + 1)) (items P + 1) (i - 1))

  unfoldable pub right_of : ℕ → ℕ
  right_of i = cond (eqb i P.np) 0 (cond (eqb i (items P + 1)) (P.np + 1) (i + 1))

  unfoldable pub ring_words : List ℤ
  ring_words = flat (λ i. pos (left_of i) ∷ pos (right_of i) ∷ []) (run 0 (items P + 2))

  -- a header: its list's length, last node and first node
  unfoldable pub header_words : List ℤ
  header_words =
      flat (λ i. let c : List ℕ = column i in pos (length c) ∷ pos (last_or (i + 1) c) ∷ pos (first_or (i + 1) c) ∷ pos 0 ∷ []) (run 0 (items P))

  unfoldable pub node_words : Node → List ℤ
  node_words x =
      let i : ℕ = x.entry.item in
      let c : List ℕ = column i in
      pos (i + 1) ∷ pos (previous (i + 1) x.at c) ∷ pos (following (i + 1) x.at c) ∷ pos x.entry.colour ∷ []

  -- the last node of the first of the options, 0 for none
  unfoldable pub last_node : List Placed → ℕ
  last_node [] = 0
  last_node (o ∷ os) = o.first + length o.entries - 1

  -- "The spacer after option m (from zero) holds -(m+1) as its top": its up is that option's first node, its down the next one's last node
  unfoldable pub option_words : List Placed → List ℤ
  option_words [] = []
  option_words (o ∷ os) =
      flat node_words (nodes_from o.first o.entries) ++ (negsuc o.number ∷ pos o.first ∷ pos (last_node os) ∷ pos 0 ∷ option_words os)

  -- "Node 0 is unused, 1 to n are headers, n+1 the first spacer."
  unfoldable pub fresh : List ℤ
  fresh =
      ring_words ++ (pos 0 ∷ pos 0 ∷ pos 0 ∷ pos 0 ∷ []) ++ header_words ++ (pos 0 ∷ pos 0 ∷ pos (last_node (placed P)) ∷ pos 0 ∷ []) ++ option_words (placed P)

-- ---- events

pub data Event : Type 0 where
  -- node q leaves its item's list, whose length falls by one
  unlink : ℕ → Event
  -- item i, numbered from 0, leaves its ring
  remove : ℕ → Event
  -- node q's colour, which is c, becomes -1
  mark : ℕ → ℕ → Event

-- "Updates: one for each node unlinked by hiding, one for each item covered"
abbrev pub price : Event → ℕ
price (unlink q) = 1
price (remove i) = 1
price (mark q c) = 0

unfoldable pub cost : List Event → ℕ
cost [] = 0
cost (e ∷ es) = price e + cost es

-- the word at place k, as a link
abbrev pub link : List ℤ → ℕ → ℕ
link t k = nat (word t k)

-- the two neighbours of what leaves a list are joined
abbrev pub join : List ℤ → ℕ → ℤ → ℕ → ℤ → List ℤ
join t k z k' z' = set (set t k z) k' z'

-- the word at place k falls by one
abbrev pub fall : List ℤ → ℕ → List ℤ
fall t k = set t k (pred_ℤ (word t k))

-- an event on the words of a table
unfoldable pub apply : ℕ → List ℤ → Event → List ℤ
apply n t (unlink q) =
    let u : ℕ = link t (up n q) in
    let d : ℕ = link t (down n q) in
    fall (join t (down n u) (pos d) (up n d) (pos u)) (top n (link t (top n q)))
apply n t (remove i) =
    let l : ℕ = link t (left (suc i)) in
    let r : ℕ = link t (right (suc i)) in
    join t (right l) (pos r) (left r) (pos l)
apply n t (mark q c) = set t (colour_at n q) (negsuc 0)

-- the table once the events have happened, the first first
abbrev pub run_events : ℕ → List ℤ → List Event → List ℤ
run_events n t es = foldl (apply n) t es

-- ---- what a choice does

-- the option's other nodes: to the right of the choice's, and then from the left end up to it
unfoldable pub others : Choice → List Node
others c =
    let ns : List Node = nodes_from c.option.first c.option.entries in
    drop (suc c.at) ns ++ take c.at ns

-- the entry that the choice is made for
abbrev pub own : Choice → Entry
own c = get_or c.option.entries c.at (record { item = 0; colour = 0 })

-- a covered item leaves its ring, a purified one stays
abbrev pub ring_part : ℕ → ℕ → List Event
ring_part zero i = remove i ∷ []
ring_part (suc c) i = []

module _ (P : Problem) where
  -- Below, `held` are the entries that hold at the moment: those of the chosen options, as far as they are committed. An option is linked
  -- into the lists of its items outside `held` if it agrees with `held`.
  unfoldable pub linked : List Entry → ℕ → List Choice
  linked held i = choices i (keep (λ o. agree held o.entries) (placed P))

  -- hiding a node: the others of its option leave their lists, but for those whose item is held, which are marked and stay
  unfoldable pub hide : List Entry → Choice → List Event
  hide held c = map (λ x. unlink x.at) (keep (λ x. not (has_item x.entry.item held)) (others c))

  -- a node in the list of an item that is covered or purified: it is marked if it has the colour, and else hidden
  abbrev pub met : Bool → List Entry → Choice → List Event
  met true held c = mark (node c) (own c).colour ∷ []
  met false held c = hide held c

  -- Cover the entry's item, or purify it to the entry's colour. Colour 0 is no colour, so a covered item's nodes are all hidden.
  unfoldable pub touch : List Entry → Entry → List Event
  touch held e = flat (λ c. met (one_colour e (own c)) held c) (linked held e.item) ++ ring_part e.colour e.item

  -- an entry whose item is held already is a marked node: committing it does nothing
  abbrev pub commit_node : Bool → List Entry → Entry → List Event
  commit_node true held e = []
  commit_node false held e = touch held e

  unfoldable pub commit : List Entry → List Node → List Event
  commit held [] = []
  commit held (x ∷ xs) = commit_node (has_item x.entry.item held) held x.entry ++ commit (x.entry ∷ held) xs

  -- committing a choice, whose item is covered
  unfoldable pub try : List Entry → Choice → List Event
  try held c = commit (own c ∷ held) (others c)

  -- covering the item of a choice, and committing it
  unfoldable pub choose : List Entry → Choice → List Event
  choose held c = touch held (own c) ++ try held c

-- ---- choices made, the deepest first

-- what holds once these nodes' entries are committed, the last first
unfoldable pub committed : List Entry → List Node → List Entry
committed held [] = held
committed held (x ∷ xs) = committed (x.entry ∷ held) xs

-- the entries of the chosen options in the order in which they came to hold, the last first
unfoldable pub held : List Choice → List Entry
held [] = []
held (c ∷ cs) = committed (own c ∷ held cs) (others c)

unfoldable pub events : Problem → List Choice → List Event
events P [] = []
events P (c ∷ cs) = events P cs ++ choose P (held cs) c

-- "set-up with those choices made"
unfoldable pub table : Problem → List Choice → List ℤ
table P cs = run_events (items P) (fresh P) (events P cs)

-- A walk once round an option, that does something at each of its other nodes.
use Rattle.std.specs.Prelude.{◌≡◌, ℕ, ◌+◌, ◌*◌, ◌≤◌, ◌<◌, ℤ, length}
use denote.MutBor.{MutBor}
use mathlib.Core.List.{List, [], ◌∷◌, ◌++◌, Memᴰ as Mem}
use Rattle.rules.specs.Problem.{Problem, items}
use Rattle.rules.specs.Order.{placed, Choice, node}
use Rattle.rules.specs.Links.{Event, Node, others, cost, run_events}
use Rattle.tables.specs.Views.{View, Table}
use Rattle.links.specs.Moves.{Done}

-- the option of choice c, in a table that some view tells
pub record InOption (P : Problem) (c : Choice) (t : List ℤ) : Type 0 where
  pub sees : View
  pub table : Table P sees t
  pub placed_in : Mem c.option (placed P)
  pub inside : c.at < length c.option.entries

-- What is done from the table t on, round the option of choice c, whose node is p: at the nodes xs together, and at the
-- node y after them.
pub record Lap (P : Problem) (c : Choice) (n p : ℕ) (t : List ℤ) : Type 0 where
  pub n_is : n ≡ items P
  pub is : p ≡ node c
  pub done : List Node → List Event
  pub step : List Node → Node → List Event
  pub none : done [] ≡ []
  pub more : (xs : List Node) (y : Node) → done (xs ++ (y ∷ [])) ≡ done xs ++ step xs y
  -- the option can be seen all the while
  pub stage : (xs zs : List Node) → others c ≡ xs ++ zs → InOption P c (run_events (items P) t (done xs))
  pub few : (xs zs : List Node) → others c ≡ xs ++ zs → cost (done xs) ≤ length t + 2147483648 * 2147483648

-- at each node that the walk comes to, f may be called, and does what is to be done there
abbrev pub Does : {F : Type 0} → (F → MutBor (List ℤ) → ℕ → ℕ → Type 0) → (F → MutBor (List ℤ) → ℕ → ℕ → ℕ
    → MutBor (List ℤ) → Type 0) → F
    → {P : Problem} {c : Choice} {n p : ℕ} {t : List ℤ} → Lap P c n p t → Type 0
Does pre post f {P} {c} {n} {p} {t} L =
    (xs : List Node) (y : Node) (zs : List Node) → others c ≡ xs ++ y ∷ zs → (m : MutBor (List ℤ))
    → m.now ≡ run_events (items P) t (L.done xs)
    → pre f m n y.at × ((u : ℕ) (m' : MutBor (List ℤ)) → post f m n y.at u m'
    → Done (items P) m.now (L.step xs y) m'.now u)

abbrev pub SomeLap : {F : Type 0} → (F → MutBor (List ℤ) → ℕ → ℕ → Type 0) → (F → MutBor (List ℤ) → ℕ → ℕ → ℕ
    → MutBor (List ℤ) → Type 0) → F
    → ℕ → ℕ → List ℤ → Type 0
SomeLap pre post f n p t = (P : Problem) × (c : Choice) × (L : Lap P c n p t) × Does pre post f L

-- t is the table t₁ where all is done round the option
abbrev pub LapDone : {P : Problem} {c : Choice} {n p : ℕ} {t₁ : List ℤ} → Lap P c n p t₁ → List ℤ → Type 0
LapDone {P} {c} {t₁ = t₁} L t = t ≡ run_events (items P) t₁ (L.done (others c))

-- at each node that the walk back comes to, f may be called, and undoes what was done there
abbrev pub Undoes : {F : Type 0} → (F → MutBor (List ℤ) → ℕ → ℕ → Type 0) → (F → MutBor (List ℤ) → ℕ → ℕ → Unit {0}
    → MutBor (List ℤ) → Type 0)
    → F → {P : Problem} {c : Choice} {n p : ℕ} {t₁ : List ℤ} → Lap P c n p t₁ → Type 0
Undoes pre post f {P} {c} {n} {p} {t₁} L =
    (xs : List Node) (y : Node) (zs : List Node) → others c ≡ xs ++ y ∷ zs → (m : MutBor (List ℤ))
    → m.now ≡ run_events (items P) (run_events (items P) t₁ (L.done xs)) (L.step xs y)
    → pre f m n y.at × ((m' : MutBor (List ℤ)) → post f m n y.at tt m' → m'.now ≡ run_events (items P) t₁ (L.done xs))

abbrev pub SomeLapBack : {F : Type 0} → (F → MutBor (List ℤ) → ℕ → ℕ → Type 0)
    → (F → MutBor (List ℤ) → ℕ → ℕ → Unit {0} → MutBor (List ℤ) → Type 0) → F → ℕ → ℕ → List ℤ → Type 0
SomeLapBack pre post f n p t =
    (P : Problem) × (c : Choice) × (t₁ : List ℤ) × (L : Lap P c n p t₁) × LapDone L t × Undoes pre post f L

-- The problem that accepted words mean, and its search before the first visit.
use Rattle.std.specs.Prelude.{List, [], ◌≡◌, refl, ℕ, zero, suc, ◌+◌, ◌-◌, ◌<◌, ℤ, pos, length, get_or, replicate}
use Rattle.std.proofs.Math.Path.{sym, ap}
use Rattle.std.proofs.Common.{◌∙◌, arith}
use Rattle.std.proofs.lemmas.List.{length-replicate}
use Rattle.rules.specs.declared.Sizes.{Sizes}
use Rattle.rules.specs.Problem.{items, cut, meant, sizes, table_length, node_count, fault}
use Rattle.rules.specs.Walk.{in_order}
use Rattle.rules.specs.Links.{fresh}
use Rattle.rules.specs.Calls.{path_words}
use Rattle.laws.specs.Faults.{good_meant}
use Rattle.tables.specs.Nodes.{nodes}
use Rattle.tables.specs.Sizes.{nodes_meant}
use Rattle.problem.specs.Measured.{Measured}
use Rattle.search.specs.Points.{At, On, Profile}
use Rattle.search.specs.Begun.{fresh_at}

pub top_words : (np : ℕ) → path_words np [] ≡ replicate np (pos 0)
unfolding path_words in_order
top_words np = ap (λ (k : ℕ). replicate k (pos 0)) (let e : np - 0 ≡ np = omega arith in e)

module _ (ws : List ℤ) (s : Sizes) (M : Measured ws s) where
  pub np_meant : (meant (cut ws)).np ≡ s.np
  unfolding meant sizes
  np_meant = sym (ap (λ (x : Sizes). x.np) M.are)

  pub n_meant : s.np + s.ns ≡ items (meant (cut ws))
  unfolding meant sizes
  n_meant = ap (λ (x : Sizes). x.np + x.ns) M.are

  module _ (f : fault (cut ws) ≡ 0) (small : table_length s < 2147483648) where
    pub few_nodes : nodes (meant (cut ws)) < 2147483648
    few_nodes =
        let e : nodes (meant (cut ws)) ≡ node_count s = nodes_meant (cut ws) f ∙ ap (λ (x : Sizes). node_count x) (sym M.are) in
        omega arith

    -- the fresh table is that of the top
    pub fresh_top : {t : List ℤ} → t ≡ fresh (meant (cut ws)) → At (meant (cut ws)) (s.np + s.ns) [] t
    fresh_top e = rw e (fresh_at (good_meant (cut ws) f) few_nodes n_meant)

    -- with a path of zeros
    pub top_on : {t path : List ℤ} → t ≡ fresh (meant (cut ws)) → path ≡ replicate s.np (pos 0) → On (meant (cut ws)) (s.np + s.ns) [] t path 0
    top_on e u = record {
      at = fresh_top e;
      path_is = u ∙ ap (λ (i : ℕ). replicate i (pos 0)) (sym np_meant) ∙ sym (top_words (meant (cut ws)).np);
      level = refl;
    }

zero_at : (n k : ℕ) → ◌≡◌ {A = ℕ} (get_or (replicate n 0) k 0) 0
zero_at zero k = refl
zero_at (suc n) zero = refl
zero_at (suc n) (suc k) = zero_at n k

-- a profile of zeros
pub top_profile : (n : ℕ) {path : List ℤ} {profile : List ℕ} → path ≡ replicate n (pos 0) → profile ≡ replicate n 0 → Profile (length path) profile
top_profile n e u = record {
  long = ap length u ∙ length-replicate n 0 ∙ sym (ap length e ∙ length-replicate n (pos 0));
  small = λ k. omega (arith, ap (λ (l : List ℕ). get_or l k 0) u ∙ zero_at n k);
}

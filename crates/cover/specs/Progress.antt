-- A page makes progress.
use Rattle.std.specs.Prelude.{List, [], ◌∷◌, ◌++◌, ◌≡◌, ℕ, ◌+◌, ◌<◌, ℤ, length, Option, None, Some}
use Rattle.std.proofs.Common.{sym, ap, ◌∙◌, arith}
use Rattle.rules.specs.declared.State.{State}
use Rattle.rules.specs.Lists.{flat}
use Rattle.rules.specs.Problem.{Problem}
use Rattle.rules.specs.Cover.{line}
use Rattle.cover.specs.Pages.{Lined, Filled}

-- With a solution to come, the page has one: it begins with the line of the first.
pub page_some : {P : Problem} {n : ℕ} {x : List ℕ} {xs : List (List ℕ)} {t path : List ℤ} {profile out : List ℕ}
    (r : Option State) → Filled P n (x ∷ xs) t path profile out r → (rest : List ℕ) × (out ≡ line x ++ rest)
unfolding flat
page_some {xs = xs} None f = (flat line xs, f.page.is)
page_some {x = x} {xs = xs} {out = out} (Some st) f =
    let F = f.page.filling in by F.done F.left F.parts F.lined f.page.full
  where
    by : (done left : List (List ℕ)) → x ∷ xs ≡ done ++ left → Lined done out → 65536 < length out + 1345
        → (rest : List ℕ) × (out ≡ line x ++ rest)
    by [] left e l full = absurd (omega (arith, full, ap length l.is))
    by (y ∷ ys) left e l full =
        let same : x ≡ y = cc in
        (flat line ys, l.is ∙ ap (λ (z : List ℕ). line z ++ flat line ys) (sym same))

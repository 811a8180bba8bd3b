use Rattle.std.proofs.Common.{◌≡◌, length, replicate, ℕ, ◌≤◌, ◌+◌, List, ◌++◌, take, rules, refl, ap, sym, ◌∙◌}
use Rattle.std.proofs.lemmas.List.{length-replicate, replicate-append-replicate, take-replicate}
use Rattle.replay.proofs.lent.lend.Goals as goal

-- a list of sevens, and some sevens more
more_sevens : {A : Type 0} (xs ys : List A) (k : ℕ) (a : A) → k ≤ length ys → xs ≡ replicate (length xs) a
    → ys ≡ replicate (length ys) a → xs ++ take k ys ≡ replicate (length (xs ++ take k ys)) a
more_sevens xs ys k a h u v =
    let e : xs ++ take k ys ≡ replicate (length xs + k) a =
    ap (λ (z : List _). z ++ take k ys) u ∙ ap (λ (z : List _). replicate (length xs) a ++ take k z) v
    ∙ ap (λ (z : List _). replicate (length xs) a ++ z) (take-replicate k (length ys) a h)
    ∙ replicate-append-replicate (length xs) k a in
    e ∙ ap (λ (n : ℕ). replicate n a) (sym (length-replicate (length xs + k) a) ∙ ap length (sym e))

pub loop-list-init : goal.loop-list-init
loop-list-init g c = λ seven e. rw c.clear.ensures refl

pub loop-list-preserved : goal.loop-list-preserved
loop-list-preserved g c = λ seven e.
    let grown : c.try_extend_from_slice.new.self.items
    ≡ c.loop-list.list.items ++ take c.min-more.result c.args.sevens.now = search rules in
    rw grown (more_sevens c.loop-list.list.items c.args.sevens.now c.min-more.result seven (search rules)
    (c.loop-list.invariant seven e) e)

pub returns : goal.returns
returns g c = c.loop-list.invariant

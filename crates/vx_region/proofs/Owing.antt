-- The copies that a placement owes, one after the other.
use Rattle.std.proofs.Common.{◌≡◌, ◌+◌, ◌∙◌, ℕ, List, [], ◌∷◌, ◌++◌, map, refl, sym, ap, subst}
use Rattle.vx_flow.specs.declared.trace.Clustered.{Clustered}
use Rattle.vx_flow.specs.declared.trace.Homes.{Homes}
use Rattle.vx_flow.specs.declared.trace.Placed.{Placed}
use Rattle.vx_isa.specs.Numbers.{Numbers}
use Rattle.vx_dep.specs.declared.mode.Mode.TheVariants.{Barred}
use Rattle.vx_dep.specs.declared.copies.EdgeCopies.{EdgeCopies}
use Rattle.vx_dep.specs.Compensation.{word_at, drain_at, at_splits_of}
use Rattle.vx_region.specs.Growth.{copies_of}
use Rattle.vx_region.specs.Owed.{with_drains}
use Rattle.vx_region.specs.RegionPlans.{IsPlaced}
use Rattle.vx_region.proofs.Modes.{barred_owes_nothing}

pub drained_more : (machine : Numbers) (p : Placed) (xs : List EdgeCopies) (x : EdgeCopies) → with_drains machine p (xs ++ x ∷ []) ≡ with_drains machine p xs ++ (record x { drain = drain_at machine p (word_at p.words x.split + 1) }) ∷ []
drained_more machine p [] x = refl
drained_more machine p (y ∷ xs) x = ap (λ z. (record y { drain = drain_at machine p (word_at p.words y.split + 1) }) ∷ z) (drained_more machine p xs x)

same_drains : (machine : Numbers) (p : Placed) (xs : List EdgeCopies) → map (λ (x : EdgeCopies). x.drain) (with_drains machine p xs) ≡ map (λ (x : EdgeCopies). drain_at machine p (word_at p.words x.split + 1)) xs
same_drains machine p [] = refl
same_drains machine p (x ∷ xs) = ap (λ z. drain_at machine p (word_at p.words x.split + 1) ∷ z) (same_drains machine p xs)

pub drains_kept : (machine : Numbers) (p : Placed) (ys : List EdgeCopies) (ds : List ℕ) → ys ≡ with_drains machine p (at_splits_of p) → ds ≡ map (λ (x : EdgeCopies). x.drain) ys → ds ≡ map (λ (x : EdgeCopies). drain_at machine p (word_at p.words x.split + 1)) (at_splits_of p)
drains_kept machine p ys ds s e = e ∙ ap (map (λ (x : EdgeCopies). x.drain)) s ∙ same_drains machine p (at_splits_of p)

pub barred_none : (c : Clustered) (machine : Numbers) (homes : Homes) (p : Placed) → IsPlaced c machine homes Barred p → copies_of p ≡ 0
barred_none c machine homes p x = (barred_owes_nothing p machine homes (subst (λ z. IsPlaced z machine homes Barred p) (sym x.clustered) x)).many

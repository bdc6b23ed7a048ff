-- What is told to be live is live.
use Rattle.std.proofs.Common.{◌≡◌, ◌↔◌, ℕ, zero, suc, ◌+◌, true, List, [], ◌∷◌, length, slice_get, Option, Some, None, IsTrue, refl, sym, ap, subst, ◌∙◌, arith}
use Rattle.std.specs.Option.{option_map}
use Rattle.std.proofs.lemmas.Bool.{false≢true}
use Rattle.vx_flow.specs.declared.graph.Block.{Block}
use Rattle.vx_flow.specs.declared.graph.Graph.{Graph}
use Rattle.vx_flow.specs.Live.{IsLive, here, beyond}
use Rattle.vx_flow.specs.Rows.{lives}
use Rattle.vx_select.specs.Selected.{those_from, IsLiveness}
use Rattle.vx_select.specs.Values.{IsNext}
use Rattle.vx_select.specs.Known.{told, told_at}

pub always_next : (k : ℕ) → IsNext (λ v. true) k (Some k)
always_next k = (omega arith, refl, λ u l h. absurd (omega arith))

-- the numbers from k on, as many as a list has items
numbers_like : (xs : List Block) (k i : ℕ) → slice_get (those_from (λ v. true) k (length xs)) i ≡ option_map (λ x. k + i) (slice_get xs i)
numbers_like [] k i = refl
numbers_like (x ∷ xs) k zero = let e : k ≡ k + 0 = omega arith in ap Some e
numbers_like (x ∷ xs) k (suc i) = let e : suc k + i ≡ k + suc i = omega arith in numbers_like xs (suc k) i ∙ ap (λ n. option_map (λ x. n) (slice_get xs i)) e

not_there : (g : Graph) (b v : ℕ) → slice_get g.blocks b ≡ None → IsLive g b v → ⊥
not_there g b v e (here {block = block} f first) = some_none (sym f ∙ e)
  where
    some_none : Some block ≡ None → ⊥
    some_none q = cc
not_there g b v e (beyond {block = block} f untouched m later) = some_none (sym f ∙ e)
  where
    some_none : Some block ≡ None → ⊥
    some_none q = cc

pub known_is : (g : Graph) (rows : List (List ℕ)) (numbers : List ℕ) → numbers ≡ those_from (λ v. true) 0 (length g.blocks) → ((b v : ℕ) → IsTrue (lives rows b v) ↔ IsLive g b v) → IsLiveness g (told (record { rows = rows; numbers = numbers }))
known_is g rows numbers e exact b v = by (slice_get g.blocks b) refl (ap (λ l. slice_get l b) e ∙ numbers_like g.blocks 0 b)
  where
    by : (o : Option Block) → slice_get g.blocks b ≡ o → slice_get numbers b ≡ option_map (λ x. 0 + b) o → IsTrue (told_at rows v (slice_get numbers b)) ↔ IsLive g b v
    by None q r = (λ t. absurd (false≢true (subst (λ o. IsTrue (told_at rows v o)) r t)), λ l. absurd (not_there g b v q l))
    by (Some block) q r =
        let z : 0 + b ≡ b = omega arith in
        let s : slice_get numbers b ≡ Some b = r ∙ ap Some z in
        (λ t. (exact b v).0 (subst (λ o. IsTrue (told_at rows v o)) s t), λ l. subst (λ o. IsTrue (told_at rows v o)) (sym s) ((exact b v).1 l))

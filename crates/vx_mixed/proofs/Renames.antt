-- Words whose splits go to blocks of other names.
use Rattle.std.proofs.Common.{◌≡◌, ℕ, zero, suc, Bool, Some, List, [], ◌∷◌, refl, ap, ◌∙◌, inl, inr, map}
use Rattle.std.specs.Prelude.{slice_get}
use Rattle.vx_flow.specs.declared.graph.Edge.{Edge}
use Rattle.vx_flow.specs.declared.graph.Op.{Op}
use Rattle.vx_mixed.specs.declared.region.Item.{Item}
use Rattle.vx_mixed.specs.declared.region.Item.TheVariants.{Plain, Split}
use Rattle.vx_flow.specs.Effects.{IsIn}
use Rattle.vx_mixed.specs.Next.{rename}

pub old_word : (f : List Item → List Item) (ws : List (List Item)) (j : ℕ) (wd : List Item) → slice_get (map f ws) j ≡ Some wd → (o : List Item) × (slice_get ws j ≡ Some o) × (wd ≡ f o)
old_word f [] j wd e = absurd (cc)
old_word f (x ∷ ws) zero wd e = (x, refl, cc)
old_word f (x ∷ ws) (suc j) wd e = old_word f ws j wd e

pub old_split : (to : ℕ → ℕ → ℕ) (word : List Item) (p d : ℕ) (edge : Edge) (y : Bool) → IsIn (Split p y edge d) (map (rename to) word) → (other : Edge) × IsIn (Split p y other d) word × (edge.from ≡ other.from) × (edge.to ≡ to other.from other.to)
old_split to [] p d edge y h = absurd h
old_split to (Plain op cluster ∷ is) p d edge y (inl h) = absurd (cc)
old_split to (Plain op cluster ∷ is) p d edge y (inr h) = let r = old_split to is p d edge y h in (r.0, inr r.1, r.2, r.3)
old_split to (Split q u other z ∷ is) p d edge y (inl h) =
    let ep : p ≡ q = cc in
    let eu : y ≡ u = cc in
    let ee : edge ≡ record other { to = to other.from other.to } = cc in
    let ed : d ≡ z = cc in
    (other, inl (ap (λ k. Split k y other d) ep ∙ ap (λ k. Split q k other d) eu ∙ ap (λ k. Split q u other k) ed), ap (λ (k : Edge). k.from) ee, ap (λ (k : Edge). k.to) ee)
old_split to (Split q u other z ∷ is) p d edge y (inr h) = let r = old_split to is p d edge y h in (r.0, inr r.1, r.2, r.3)

pub old_op : (to : ℕ → ℕ → ℕ) (word : List Item) (op : Op) (cluster : ℕ) → IsIn (Plain op cluster) (map (rename to) word) → IsIn (Plain op cluster) word
old_op to [] op cluster h = absurd h
old_op to (Plain o k ∷ is) op cluster (inl h) = inl h
old_op to (Plain o k ∷ is) op cluster (inr h) = inr (old_op to is op cluster h)
old_op to (Split p y edge d ∷ is) op cluster (inl h) = absurd (cc)
old_op to (Split p y edge d ∷ is) op cluster (inr h) = inr (old_op to is op cluster h)

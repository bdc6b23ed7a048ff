-- A walk has one end and finds the same back edges.
use Rattle.std.proofs.Common.{◌≡◌, inl, inr, ℕ, zero, suc, ◌+◌, ◌<◌, List, [], ◌∷◌, ◌++◌, length, refl, sym, ap, subst, ◌∙◌, arith}
use Rattle.vx_flow.specs.declared.graph.Edge.{Edge}
use Rattle.vx_flow.specs.declared.graph.Graph.{Graph}
use Rattle.vx_flow.specs.Effects.{IsIn}
use Rattle.vx_flow.specs.Walk.{Walks, edge, numbers, successors}
use Rattle.vx_flow.specs.Walking.{LeadWithin}
use Rattle.vx_flow.proofs.Members.{in_either}
use Rattle.vx_motion.specs.Backs.{BackEdgesAreOne, BackEdgesGoToHeaders}
use Rattle.vx_motion.proofs.Ordering.{target_is_header}

module _ (g : Graph) where
  grows : (path todo seen after : List ℕ) (back : List Edge) → Walks g path todo seen after back → (x : ℕ) → IsIn x seen → IsIn x after
  grows path todo seen after back (Walks.done) x h = h
  grows path todo seen after back (Walks.closes {b = b} {path = p} {todo = t} {back = later} i w) x h = grows (b ∷ p) t seen after later w x h
  grows path todo seen after back (Walks.passes {todo = t} n i w) x h = grows path t seen after back w x h
  grows path todo seen after back (Walks.enters {c = c} {todo = t} {between = between} {first = first} {later = later} n w v) x h =
      grows path t between after later v x (grows (c ∷ path) (successors g c) (c ∷ seen) between first w x (inr h))

  pub unique : (path todo seen after after' : List ℕ) (back back' : List Edge) → ((x : ℕ) → IsIn x path → IsIn x seen) → Walks g path todo seen after back → Walks g path todo seen after' back' → (after ≡ after') × (back ≡ back')
  unique path todo seen after after' back back' s (Walks.done) (Walks.done) = (refl, refl)
  unique path todo seen after after' back back' s (Walks.closes {b = b} {c = c} {path = p} {todo = t} {back = later} i w) (Walks.closes {back = later'} j v) =
      let u = unique (b ∷ p) t seen after after' later later' s w v in
      (u.0, ap (λ l. edge b c ∷ l) u.1)
  unique path todo seen after after' back back' s (Walks.closes i w) (Walks.passes n j v) = absurd (n i)
  unique path todo seen after after' back back' s (Walks.closes {c = c} i w) (Walks.enters n v z) = absurd (n (s c i))
  unique path todo seen after after' back back' s (Walks.passes n i w) (Walks.closes j v) = absurd (n j)
  unique path todo seen after after' back back' s (Walks.passes {todo = t} n i w) (Walks.passes k j v) = unique path t seen after after' back back' s w v
  unique path todo seen after after' back back' s (Walks.passes n i w) (Walks.enters k v z) = absurd (k i)
  unique path todo seen after after' back back' s (Walks.enters {c = c} n w v) (Walks.closes j z) = absurd (n (s c j))
  unique path todo seen after after' back back' s (Walks.enters n w v) (Walks.passes k j z) = absurd (n j)
  unique path todo seen after after' back back' s (Walks.enters {c = c} {todo = t} {between = between} {first = first} {later = later} n w v) (Walks.enters {between = between'} {first = first'} {later = later'} k z y) =
      let u = unique (c ∷ path) (successors g c) (c ∷ seen) between between' first first' (λ x h. elim h [ inl e ↦ inl e | inr m ↦ inr (s x m) ]) w z in
      let y' : Walks g path t between after' later' = subst (λ l. Walks g path t l after' later') (sym u.0) y in
      let q = unique path t between after after' later later' (λ x h. grows (c ∷ path) (successors g c) (c ∷ seen) between first w x (inr (s x h))) v y' in
      (q.0, ap (λ l. l ++ later) u.1 ∙ ap (λ l. first' ++ l) q.1)

  within : LeadWithin g → (path todo seen after : List ℕ) (back : List Edge) → ((x : ℕ) → IsIn x todo → x < length g.blocks) → Walks g path todo seen after back → (e : Edge) → IsIn e back → e.to < length g.blocks
  within l path todo seen after back k (Walks.done) e h = absurd h
  within l path todo seen after back k (Walks.closes {b = b} {c = c} {path = p} {todo = t} {back = later} i w) e (inl q) = subst (λ x. x < length g.blocks) (sym (ap (λ (z : Edge). z.to) q)) (k c (inl refl))
  within l path todo seen after back k (Walks.closes {b = b} {c = c} {path = p} {todo = t} {back = later} i w) e (inr h) = within l (b ∷ p) t seen after later (λ x m. k x (inr m)) w e h
  within l path todo seen after back k (Walks.passes {todo = t} n i w) e h = within l path t seen after back (λ x m. k x (inr m)) w e h
  within l path todo seen after back k (Walks.enters {c = c} {todo = t} {between = between} {first = first} {later = later} n w v) e h = elim (in_either e first later h) [
    | inl m ↦ within l (c ∷ path) (successors g c) (c ∷ seen) between first (λ x j. l c x j) w e m
    | inr m ↦ within l path t between after later (λ x j. k x (inr j)) v e m
  ]

numbers_below : (n b x : ℕ) → IsIn x (numbers b n) → x < b + n
numbers_below zero b x h = absurd h
numbers_below (suc n) b x (inl e) = omega arith
numbers_below (suc n) b x (inr h) = let k = numbers_below n (b + 1) x h in omega arith

pub back_edges_are_one : BackEdgesAreOne
back_edges_are_one g back back' v w = (unique g [] (numbers 0 (length g.blocks)) [] v.after w.after back back' (λ x h. absurd h) v.walk w.walk).1

pub back_edges_go_to_headers : BackEdgesGoToHeaders
back_edges_go_to_headers g back headers l b h e i =
    let one : back ≡ h.back = back_edges_are_one g back h.back b h.edges in
    let low : e.to < length g.blocks = within g l [] (numbers 0 (length g.blocks)) [] b.after back (λ x j. let k = numbers_below (length g.blocks) 0 x j in omega arith) b.walk e i in
    subst (IsIn e.to) (sym h.targets) (target_is_header (length g.blocks) h.back e (subst (IsIn e) one i) low)

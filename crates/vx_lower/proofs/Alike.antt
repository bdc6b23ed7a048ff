-- What a run comes to does not depend on the blocks that the waiting functions called from.
use Rattle.std.proofs.Common.{◌≡◌, ℕ, zero, suc, ◌+◌, ℤ, Bool, true, false, cond, nat_le, List, [], ◌∷◌, length, Option, Some, None, refl, sym, ap, ◌∙◌, subst}
use Rattle.vx_base.specs.Outcome.{Outcome, Step, step_then, run}
use Rattle.vx_flow.specs.Effects.{State}
use Rattle.vx_flow.specs.Meaning.{Hop, Arrives, Calls, Leaves, Stops, Wrong, Body, Program, Frame, Active, deepest, spots_for, enters_with, enters, returned, waits, after_hop, body_hop, hop, next}

abbrev pub Alike : List Frame → List Frame → Type 0
Alike [] [] = Unit {0}
Alike [] (g ∷ gs) = ⊥
Alike (f ∷ fs) [] = ⊥
Alike (f ∷ fs) (g ∷ gs) = (g ≡ record f { from = g.from }) × Alike fs gs

pub alike_self : (fs : List Frame) → Alike fs fs
alike_self [] = tt
alike_self (f ∷ fs) = (refl, alike_self fs)

alike_length : (fs gs : List Frame) → Alike fs gs → length fs ≡ length gs
alike_length [] [] a = refl
alike_length [] (g ∷ gs) a = absurd a
alike_length (f ∷ fs) [] a = absurd a
alike_length (f ∷ fs) (g ∷ gs) a = ap suc (alike_length fs gs a.1)

module _ (P : Program) where
  abbrev Runs : ℕ → Step Active → Outcome
  Runs n x = step_then (run (next P) (λ r. r.state.out) n) x

  -- the same at n blocks, whatever waits
  abbrev pub SameAt : ℕ → Type 0
  SameAt n = (r : Active) (ws : List Frame) → Alike r.waiting ws → run (next P) (λ q. q.state.out) n r ≡ run (next P) (λ q. q.state.out) n (record r { waiting = ws })

  hop_same : (r : Active) (ws : List Frame) (o : Option Body) → body_hop P r o ≡ body_hop P (record r { waiting = ws }) o
  hop_same r ws None = refl
  hop_same r ws (Some body) = refl

  enters_same : (n : ℕ) → SameAt n → (g : ℕ) (o : Option Body) (args : List ℤ) (s : State) (fs gs : List Frame) → Alike fs gs → Runs n (enters g o args s fs) ≡ Runs n (enters g o args s gs)
  enters_same n same g None args s fs gs a = refl
  enters_same n same g (Some body) args s fs gs a = by (spots_for (Some body) args s)
    where
      by : (o : Option (List (Option ℕ))) → Runs n (enters_with g (Some body) args s fs o) ≡ Runs n (enters_with g (Some body) args s gs o)
      by None = refl
      by (Some passed) = same _ gs a

  depth_same : (n : ℕ) (t u : Bool) (x y z : Step Active) → t ≡ u → Runs n y ≡ Runs n z → Runs n (cond t x y) ≡ Runs n (cond u x z)
  depth_same n true u x y z e h = ap (λ b. Runs n (cond b x z)) e
  depth_same n false u x y z e h = h ∙ ap (λ b. Runs n (cond b x z)) e

  returned_same : (n : ℕ) → SameAt n → (m : ℤ) (s : State) (base : ℕ) (fs gs : List Frame) → Alike fs gs → Runs n (returned m s base fs) ≡ Runs n (returned m s base gs)
  returned_same n same m s base [] [] a = refl
  returned_same n same m s base [] (g ∷ gs) a = absurd a
  returned_same n same m s base (f ∷ fs) [] a = absurd a
  returned_same n same m s base (f ∷ fs) (g ∷ gs) a = subst (λ k. Runs n (returned m s base (f ∷ fs)) ≡ Runs n (returned m s base (k ∷ gs))) (sym a.0) (same _ gs a.1)

  after_same : (n : ℕ) → SameAt n → (r : Active) (ws : List Frame) → Alike r.waiting ws → (x : Hop) → Runs n (after_hop P r x) ≡ Runs n (after_hop P (record r { waiting = ws }) x)
  after_same n same r ws a (Arrives from to s) = same (record r { block = to; state = s }) ws a
  after_same n same r ws a (Calls g args result from to s) =
      depth_same n (nat_le deepest (length r.waiting + 1)) (nat_le deepest (length ws + 1)) _ (enters g (P.body g) args s (waits r result from to s ∷ r.waiting)) (enters g (P.body g) args s (waits r result from to s ∷ ws)) (ap (λ k. nat_le deepest (k + 1)) (alike_length r.waiting ws a)) (enters_same n same g (P.body g) args s (waits r result from to s ∷ r.waiting) (waits r result from to s ∷ ws) (refl, a))
  after_same n same r ws a (Leaves m s) = returned_same n same m s r.base r.waiting ws a
  after_same n same r ws a (Stops k s) = refl
  after_same n same r ws a Wrong = refl

  pub run_alike : (n : ℕ) → SameAt n
  run_alike zero r ws a = refl
  run_alike (suc n) r ws a = after_same n (run_alike n) r ws a (hop P r) ∙ ap (λ x. Runs n (after_hop P (record r { waiting = ws }) x)) (hop_same r ws (P.body r.function))

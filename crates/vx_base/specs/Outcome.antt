-- How a run ends, and when two families of bounded runs are the same. One outcome serves the source, the
-- graph, the mixed graph and the words, so that what one does is compared with what another does as it stands.
use Rattle.std.specs.Prelude.{◌≡◌, ◌+◌, ◌≤◌, ℕ, zero, suc, ℤ, List, ◌++◌}
use Rattle.vx_base.specs.declared.outcome.Trap.{Trap}
use Rattle.vx_base.specs.declared.outcome.Reason.{Reason}

-- what a run within a bound comes to, with all its output so far: it ended with a result, by a trap, goes on,
-- is stuck at a word, or did what has no meaning
pub data Outcome : Type 0 where
  Ends : (result : ℤ) → (out : List ℕ) → Outcome
  Traps : Trap → (out : List ℕ) → Outcome
  Goes : (out : List ℕ) → Outcome
  Stuck : Reason → (place : ℕ) → (out : List ℕ) → Outcome
  Wrong : (out : List ℕ) → Outcome

-- the output so far
abbrev pub output_of : Outcome → List ℕ
output_of (Ends r out) = out
output_of (Traps k out) = out
output_of (Goes out) = out
output_of (Stuck why p out) = out
output_of (Wrong out) = out

-- it ended with a result or by a trap
abbrev pub IsOver : Outcome → Type 0
IsOver (Ends r out) = Unit {0}
IsOver (Traps k out) = Unit {0}
IsOver (Goes out) = ⊥
IsOver (Stuck why p out) = ⊥
IsOver (Wrong out) = ⊥

-- it is stuck or without meaning
abbrev pub IsFailure : Outcome → Type 0
IsFailure (Ends r out) = ⊥
IsFailure (Traps k out) = ⊥
IsFailure (Goes out) = ⊥
IsFailure (Stuck why p out) = Unit {0}
IsFailure (Wrong out) = Unit {0}

-- the bound ran out
abbrev pub IsGoing : Outcome → Type 0
IsGoing (Ends r out) = ⊥
IsGoing (Traps k out) = ⊥
IsGoing (Goes out) = Unit {0}
IsGoing (Stuck why p out) = ⊥
IsGoing (Wrong out) = ⊥

-- xs is the front of ys
pub record Begins (xs ys : List ℕ) : Type 0 where
  pub rest : List ℕ
  pub is : ys ≡ xs ++ rest

-- a family of outcomes, by bounds: each end of f is an end of g, and each output of f begins an output of g
pub record Within (f g : ℕ → Outcome) : Type 0 where
  pub over : (n : ℕ) (o : Outcome) → IsOver o → f n ≡ o → (m : ℕ) × (g m ≡ o)
  pub output : (n : ℕ) → (m : ℕ) × Begins (output_of (f n)) (output_of (g m))

-- f and g end alike and print alike, whatever bound each needs for it
abbrev pub Same : (ℕ → Outcome) → (ℕ → Outcome) → Type 0
Same f g = Within f g × Within g f

abbrev pub NeverFails : (ℕ → Outcome) → Type 0
NeverFails f = (n : ℕ) → IsFailure (f n) → ⊥

-- with a larger bound: what does not go on stays, and the output only grows
pub record Steady (f : ℕ → Outcome) : Type 0 where
  pub stays : (n k : ℕ) → (IsGoing (f n) → ⊥) → f (n + k) ≡ f n
  pub grows : (n k : ℕ) → Begins (output_of (f n)) (output_of (f (n + k)))

-- what an outcome at bound n asks of g: to end so too, or to go as far; a failure asks what cannot be
abbrev pub FollowsAt : (ℕ → Outcome) → ℕ → Outcome → Type 0
FollowsAt g n (Ends r out) = (m : ℕ) × (g m ≡ Ends r out)
FollowsAt g n (Traps k out) = (m : ℕ) × (g m ≡ Traps k out)
FollowsAt g n (Goes out) = (m : ℕ) × (n ≤ m) × (g m ≡ Goes out)
FollowsAt g n (Stuck why p out) = ⊥
FollowsAt g n (Wrong out) = ⊥

-- a forward simulation: g follows f at every bound
abbrev pub Follows : (ℕ → Outcome) → (ℕ → Outcome) → Type 0
Follows f g = (n : ℕ) → FollowsAt g n (f n)

-- a machine that goes step by step
pub data Step (S : Type 0) : Type 0 where
  On : S → Step S
  Over : Outcome → Step S

abbrev pub step_then : {S : Type 0} → (S → Outcome) → Step S → Outcome
step_then f (On s) = f s
step_then f (Over o) = o

-- at most so many steps
abbrev pub run : {S : Type 0} → (S → Step S) → (S → List ℕ) → ℕ → S → Outcome
run next out zero s = Goes (out s)
run next out (suc n) s = step_then (run next out n) (next s)

-- the laws of Same, each the clause of a public function of this crate

abbrev pub SameIsReflexive : Type 0
SameIsReflexive = (f : ℕ → Outcome) → Same f f

abbrev pub SameIsSymmetric : Type 0
SameIsSymmetric = (f g : ℕ → Outcome) → Same f g → Same g f

abbrev pub SameIsTransitive : Type 0
SameIsTransitive = (f g h : ℕ → Outcome) → Same f g → Same g h → Same f h

-- a forward simulation by a steady family is Same, in both directions, and its right side never fails
abbrev pub SameFromFollowing : Type 0
SameFromFollowing = (f g : ℕ → Outcome) → Steady g → Follows f g → Same f g × NeverFails g

-- When two states agree on some of the values, and when two hops leave alike: what a change of a graph keeps.
use Rattle.std.specs.Prelude.{◌≡◌, ℕ, ℤ, Some}
use Rattle.vx_flow.specs.Effects.{State}
use Rattle.vx_flow.specs.Meaning.{Hop, Arrives, Calls, Leaves, Stops, Wrong}

-- the arrays, the input that is left and the output are the same
pub record SameWorld (s t : State) : Type 0 where
  pub arrays : t.arrays ≡ s.arrays
  pub input : t.input ≡ s.input
  pub out : t.out ≡ s.out

-- besides, each value that lives and is a number in s is the same number in t
pub record Agree (lives : ℕ → Type 0) (s t : State) : Type 0 where
  pub world : SameWorld s t
  pub values : (v : ℕ) (n : ℤ) → lives v → s.values v ≡ Some n → t.values v ≡ Some n

-- Both leave by an edge, a call with the same arguments, a return of the same number or the same trap, to blocks that meet
-- and with states that agree on what lives there; the result of a call is written before. Where the first has no meaning
-- nothing is said.
abbrev pub Alike : (meets : ℕ → ℕ → Type 0) → (lives : (block value : ℕ) → Type 0) → Hop → Hop → Type 0
Alike meets lives Wrong h = Unit {0}
Alike meets lives (Arrives b c s) (Arrives b' c' t) = meets c c' × Agree (lives c) s t
Alike meets lives (Calls f arguments result b next s) (Calls f' arguments' result' b' next' t) =
    (f' ≡ f) × (arguments' ≡ arguments) × (result' ≡ result) × meets next next' × Agree (λ v. lives next v × (result ≡ Some v → ⊥)) s t
Alike meets lives (Leaves n s) (Leaves n' t) = (n' ≡ n) × SameWorld s t
Alike meets lives (Stops k s) (Stops k' t) = (k' ≡ k) × SameWorld s t
Alike meets lives h k = ⊥

-- When two states agree, and when two graphs of one function have the same meaning: from each entrance that they share, to
-- the next one.
use Rattle.std.specs.Prelude.{◌≡◌, ◌≢◌, ℕ, ℤ, Bool, true, false, Option, Some, None, List, [], length}
use Rattle.vx_flow.specs.declared.graph.Op.{Op}
use Rattle.vx_flow.specs.Effects.{State, Setting, row_of}
use Rattle.vx_flow.specs.Apart.{StandApart}
use Rattle.vx_flow.specs.Meaning.{Hop, Arrives, Calls, Leaves, Stops, Wrong}
use Rattle.vx_mixed.specs.declared.mixed.MixedGraph.{MixedGraph}
use Rattle.vx_mixed.specs.Meaning.{hop}
use Rattle.vx_mixed.specs.Live.{Live}

-- Hops up to one that leaves by an edge where two graphs meet, or that leaves the function: at least one

abbrev pub EndsAt : (ℕ → ℕ → Bool) → Hop → Type 0
EndsAt meet (Arrives from to s) = meet from to ≡ true
EndsAt meet (Calls g arguments result from next s) = Unit {0}
EndsAt meet (Leaves n s) = Unit {0}
EndsAt meet (Stops k s) = Unit {0}
EndsAt meet Wrong = Unit {0}

pub data Segment (go : ℕ → State → Hop) (meet : ℕ → ℕ → Bool) : ℕ → State → Hop → Type 0 where
  last : {b : ℕ} {s : State} {h : Hop} → go b s ≡ h → EndsAt meet h → Segment go meet b s h
  on : {b from to : ℕ} {s t : State} {h : Hop} → go b s ≡ Arrives from to t → meet from to ≡ false → Segment go meet to t h → Segment go meet b s h

-- States

pub record SameWorld (s t : State) : Type 0 where
  pub arrays : t.arrays ≡ s.arrays
  pub input : t.input ≡ s.input
  pub out : t.out ≡ s.out

-- each live value that is a number in s is the same number in t
pub record Agree (Lives : ℕ → Type 0) (s t : State) : Type 0 where
  pub world : SameWorld s t
  pub values : (v : ℕ) (n : ℤ) → Lives v → s.values v ≡ Some n → t.values v ≡ Some n

abbrev pub not_the_result : Option ℕ → ℕ → Type 0
not_the_result None v = Unit {0}
not_the_result (Some r) v = v ≢ r

-- both leave alike, by a pair of entrances; where the first has no meaning nothing is said
abbrev pub Alike : MixedGraph → (ℕ → ℕ → Bool) → Hop → Hop → Type 0
Alike old pairs Wrong h = Unit {0}
Alike old pairs (Arrives from to s) (Arrives from' to' t) = (pairs to to' ≡ true) × Agree (Live old to) s t
Alike old pairs (Calls g arguments result from next s) (Calls g' arguments' result' from' next' t) =
    (g' ≡ g) × (arguments' ≡ arguments) × (result' ≡ result) × (pairs next next' ≡ true) × Agree (λ v. Live old next v × not_the_result result v) s t
Alike old pairs (Leaves n s) (Leaves n' t) = (n' ≡ n) × SameWorld s t
Alike old pairs (Stops k s) (Stops k' t) = (k' ≡ k) × SameWorld s t
Alike old pairs (Arrives from to s) h = ⊥
Alike old pairs (Calls g arguments result from next s) h = ⊥
Alike old pairs (Leaves n s) h = ⊥
Alike old pairs (Stops k s) h = ⊥

-- The entrances that two graphs share come in pairs, with the edges where each arrives at one. From each pair, wherever the
-- arrays of old stand apart and whenever the writes of each land, new does what old does where that has a meaning.
pub record SameMeaning (latency : Op → ℕ) (old new : MixedGraph) (meet_old meet_new pairs : ℕ → ℕ → Bool) : Type 0 where
  pub start : pairs 0 0 ≡ true
  -- from each shared entrance old comes to the next one
  pub ends : (setting : Setting) (times : List ℕ) (b b' : ℕ) (s : State) → pairs b b' ≡ true → (h : Hop) × Segment (hop setting times latency old) meet_old b s h
  pub leads : (setting : Setting) (times times' : List ℕ) (b b' : ℕ) (s t : State) (h : Hop) →
      StandApart old.arrays setting.spot → times ≢ [] → times' ≢ [] → pairs b b' ≡ true → Agree (Live old b) s t → Segment (hop setting times latency old) meet_old b s h → h ≢ Wrong →
      (h' : Hop) × Segment (hop setting times' latency new) meet_new b' t h' × Alike old pairs h h'

pub record SameShape (s t : State) : Type 0 where
  pub arrays : length t.arrays ≡ length s.arrays
  pub rows : (a : ℕ) → length (row_of t a) ≡ length (row_of s a)

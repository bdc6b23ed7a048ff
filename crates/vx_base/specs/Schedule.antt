-- Operations of a trace, numbered in trace order, and the words (or later times) in which they are executed. They read
-- and write locations of a state: values, words of arrays, the input, the output. What a location holds is of any type.
use Rattle.std.specs.Prelude.{◌≡◌, ℕ, ℤ, ◌+◌, ◌<◌, ◌≤◌, ◌⊎◌, Bool, true, Option, Some, None, cond, nat_le, nat_lt}

-- In trace order, where `order i` is the state after the first i operations: what operation i does not write is as before.
pub record InOrder {Loc V : Type 0} (order : ℕ → Loc → V) (Writes : ℕ → Loc → Type 0) : Type 0 where
  pub frame : (i : ℕ) (l : Loc) → (Writes i l → ⊥) → order (i + 1) l ≡ order i l

-- One word: what none of its operations writes stays, and what one writes refines what that one writes in trace order.
pub record WordDoes {Loc V : Type 0} (Refines : Loc → V → V → Type 0) (order words : ℕ → Loc → V) (Writes : ℕ → Loc → Type 0) (when : ℕ → ℕ) (w : ℕ) : Type 0 where
  pub still : (l : Loc) → ((o : ℕ) → when o ≡ w → Writes o l → ⊥) → words (w + 1) l ≡ words w l
  pub made : (o : ℕ) (l : Loc) → when o ≡ w → Writes o l → Refines l (order (o + 1) l) (words (w + 1) l)

-- each operation of word w reads what refines what it reads in trace order
abbrev pub ReadsWell : {Loc V : Type 0} → (Loc → V → V → Type 0) → (ℕ → Loc → V) → (ℕ → Loc → V) → (ℕ → Loc → Type 0) → (ℕ → ℕ) → ℕ → Type 0
ReadsWell {Loc} {V} Refines order words Reads when w = (o : ℕ) (l : Loc) → when o ≡ w → Reads o l → Refines l (order o l) (words w l)

-- The words before `end`, where `words w` is the state before word w: the states at the start are tied on the wanted
-- locations, which are at least those that an executed operation reads and none above it writes.
pub record InWords {Loc V : Type 0} (Refines : Loc → V → V → Type 0) (order words : ℕ → Loc → V) (Reads Writes : ℕ → Loc → Type 0) (when : ℕ → ℕ) (end : ℕ) (Wanted : Loc → Type 0) : Type 0 where
  pub start : (l : Loc) → Wanted l → Refines l (order 0 l) (words 0 l)
  pub wants : (o : ℕ) (l : Loc) → when o < end → Reads o l → ((k : ℕ) → k < o → Writes k l → ⊥) → Wanted l
  pub decided : (w : ℕ) (l : Loc) → w < end → ((o : ℕ) × (when o ≡ w) × Writes o l) ⊎ ((o : ℕ) → when o ≡ w → Writes o l → ⊥)
  pub word : (w : ℕ) → w < end → ReadsWell Refines order words Reads when w → WordDoes Refines order words Writes when w

-- The order is kept by all that is executed before the end: a writer, then a reader; a reader, then a writer; two writers.
pub record Ordered {Loc : Type 0} (Reads Writes : ℕ → Loc → Type 0) (when : ℕ → ℕ) (end : ℕ) : Type 0 where
  pub flow : (i o : ℕ) (l : Loc) → i < o → Writes i l → Reads o l → when o < end → when i < when o
  pub anti : (o k : ℕ) (l : Loc) → o < k → Reads o l → Writes k l → when o < end → when o ≤ when k
  pub output : (i k : ℕ) (l : Loc) → i < k → Writes i l → Writes k l → when k < end → when i < when k

-- The writers of l that are executed before word w are the first p operations' writers of l.
abbrev pub Exactly : {Loc : Type 0} → (ℕ → Loc → Type 0) → (ℕ → ℕ) → ℕ → Loc → ℕ → Type 0
Exactly Writes when w l p = (k : ℕ) → Writes k l → (when k < w → k < p) × (k < p → when k < w)

-- none of the first p operations writes l
abbrev pub NoneBefore : {Loc : Type 0} → (ℕ → Loc → Type 0) → Loc → ℕ → Type 0
NoneBefore Writes l p = (k : ℕ) → k < p → Writes k l → ⊥

-- The delays between the words of a trace: a writer, then a reader; a reader, then a writer; two writers.
pub record Delayed {Loc : Type 0} (Reads Writes : ℕ → Loc → Type 0) (word : ℕ → ℕ) : Type 0 where
  pub flow : (i o : ℕ) (l : Loc) → i < o → Writes i l → Reads o l → word i < word o
  pub anti : (o k : ℕ) (l : Loc) → o < k → Reads o l → Writes k l → word o ≤ word k
  pub output : (i k : ℕ) (l : Loc) → i < k → Writes i l → Writes k l → word i < word k

-- When operation k is done where the words are left after word w for the split that is operation e: in its word, or,
-- above the split, as a copy on the edge in trace order, or never (after w + 1 + e).
abbrev pub leaving : (ℕ → ℕ) → ℕ → ℕ → ℕ → ℕ
leaving word w e k = cond (nat_le (word k) w) (word k) (cond (nat_lt k e) (w + 1 + k) (w + 2 + e))

-- When operation k below a join is done where the join is entered by an edge, with n operations below it and rejoin
-- word r: as a copy on that edge, or else n later than where the words are left after word w for the split e.
abbrev pub through : (ℕ → ℕ) → ℕ → ℕ → ℕ → ℕ → ℕ → ℕ
through word n r w e k = cond (nat_lt (word k) r) k (n + leaving word w e k)

-- The law of schedules, each the clause of a public function of this crate, for locations that are numbered and hold
-- numbers or nothing known.

-- a number that is known in trace order is the same in the words; what is unknown may be anything
abbrev pub SameIfKnown : ℕ → Option ℤ → Option ℤ → Type 0
SameIfKnown l None b = Unit {0}
SameIfKnown l (Some x) b = b ≡ Some x

abbrev pub Passes : (ℕ → ℕ → Bool) → ℕ → ℕ → Type 0
Passes test i l = test i l ≡ true

-- where the executed writers of l are those of the first p operations, the words leave in l what those leave there
abbrev pub ScheduleLaw : Type 0
ScheduleLaw =
    (order words : ℕ → ℕ → Option ℤ) (reads writes : ℕ → ℕ → Bool) (wanted : ℕ → Bool) (when : ℕ → ℕ) (end : ℕ) →
    InOrder order (Passes writes) → InWords SameIfKnown order words (Passes reads) (Passes writes) when end (λ l. wanted l ≡ true) → Ordered (Passes reads) (Passes writes) when end →
    (l : ℕ) (p : ℕ) → Exactly (Passes writes) when end l p → (NoneBefore (Passes writes) l p → wanted l ≡ true) → SameIfKnown l (order p l) (words end l)

-- A schedule that keeps the delays keeps the order where the words are entered by a join and left by a split: what is
-- executed then, with the copies on both edges, is, for a location that none at or below the split writes in the words
-- up to it, what stands above the split.
abbrev pub ThroughLaw : Type 0
ThroughLaw =
    (reads writes : ℕ → ℕ → Bool) (word : ℕ → ℕ) (n r w e : ℕ) →
    Delayed (Passes reads) (Passes writes) word → ((k : ℕ) (l : ℕ) → Passes reads k l ⊎ Passes writes k l → k < n) → r ≤ w + 1 → e ≤ n →
    Ordered (Passes reads) (Passes writes) (through word n r w e) (n + (w + 1 + e))
    × ((l : ℕ) → ((k : ℕ) → e ≤ k → Passes writes k l → w < word k) → Exactly (Passes writes) (through word n r w e) (n + (w + 1 + e)) l e)

-- Places of a trace by the values that their operations name and by their kinds, so that those are found which a lower operation may
-- have to stand behind.
use Rattle.std.specs.Prelude.{◌≡◌, ◌<◌, ◌%◌, ◌&&◌, ◌||◌, not, ℕ, Bool, true, nat_eq, nat_lt, Some, List, slice_get}
use Rattle.vx_flow.specs.Effects.{IsIn}
use Rattle.vx_flow.specs.declared.trace.Trace.{Trace}
use Rattle.vx_isa.specs.Numbers.{Numbers}
use Rattle.vx_dep.specs.declared.earlier.Earlier.{Earlier}
use Rattle.vx_dep.specs.declared.keys.Key.{Key}
use Rattle.vx_dep.specs.declared.mode.Mode.{Mode}
use Rattle.vx_dep.specs.declared.near.Near.{Near}
use Rattle.vx_dep.specs.Chains.{IsOn, ChainsKept}
use Rattle.vx_dep.specs.Delays.{Applies, IsDelay}
use Rattle.vx_dep.specs.Earlier.{IsListed}
use Rattle.vx_dep.specs.Keys.{are_apart}
use Rattle.vx_dep.specs.Rows.{is_barred}

-- the operation at place i, of which the entry is given, is listed by what it names and by its kinds
pub record IsNoted (near : Near) (i : ℕ) (a : Key) : Type 0 where
  pub written : IsOn near.writers (a.written % 128) i
  pub first : (a.first ≡ 4294967295 → ⊥) → IsOn near.readers (a.first % 128) i
  pub second : (a.second ≡ 4294967295 → ⊥) → IsOn near.readers (a.second % 128) i
  pub third : (a.third ≡ 4294967295 → ⊥) → IsOn near.readers (a.third % 128) i
  pub split : a.leaves ≡ true → IsOn near.kinds 0 i
  pub access : a.is_access ≡ true → IsOn near.kinds 1 i
  pub store : a.is_store ≡ true → IsOn near.kinds 2 i
  pub observable : a.is_observable ≡ true → IsOn near.kinds 3 i

-- all before place k are
abbrev pub AreNoted : List Key → Near → ℕ → Type 0
AreNoted keys near k = (i : ℕ) (a : Key) → i < k → slice_get keys i ≡ Some a → IsNoted near i a

-- what is listed stays so
pub record NearKept (before after : Near) : Type 0 where
  pub writers : ChainsKept before.writers after.writers
  pub readers : ChainsKept before.readers after.readers
  pub kinds : ChainsKept before.kinds after.kinds

-- a lower operation finds all of its delays among those that are near: it stays behind none for its kind alone, but for what can be
-- seen
abbrev pub by_rows : Mode → Key → Bool
by_rows mode b = not ((nat_eq b.written 4294967295 || (b.leaves && is_barred mode)) || (nat_lt 0 b.joined && ((b.is_observable || b.leaves) || is_barred mode)))

-- of two operations, the upper one first, more counts than the kinds, or both are seen, or the upper one is and the lower one leaves
abbrev pub is_near : Key → Key → Bool
is_near a b = not (are_apart a b) || (a.is_observable && (b.is_observable || b.leaves))

-- of these places those are listed that are near to a lower operation
pub record AreCollected (keys : List Key) (b : Key) (These : ℕ → Type 0) (before after : List ℕ) : Type 0 where
  pub keeps : (i : ℕ) → IsIn i before → IsIn i after
  pub has : (i : ℕ) (a : Key) → These i → slice_get keys i ≡ Some a → is_near a b ≡ true → IsIn i after

-- those that write a value which the lower operation names
pub record WritersCollected (keys : List Key) (near : Near) (b : Key) (before after : List ℕ) : Type 0 where
  pub written : AreCollected keys b (IsOn near.writers (b.written % 128)) before after
  pub first : AreCollected keys b (IsOn near.writers (b.first % 128)) before after
  pub second : AreCollected keys b (IsOn near.writers (b.second % 128)) before after
  pub third : AreCollected keys b (IsOn near.writers (b.third % 128)) before after

-- those that its kind asks for: a store all accesses, an access all stores
pub record KindsCollected (keys : List Key) (near : Near) (b : Key) (before after : List ℕ) : Type 0 where
  pub splits : AreCollected keys b (IsOn near.kinds 0) before after
  pub accesses : AreCollected keys b (λ i. (b.is_store ≡ true) × IsOn near.kinds 1 i) before after
  pub stores : AreCollected keys b (λ i. (b.is_access ≡ true) × IsOn near.kinds 2 i) before after
  pub observables : AreCollected keys b (IsOn near.kinds 3) before after

-- all are listed that are noted and near to a lower operation
abbrev pub AllCollected : List Key → Near → Key → List ℕ → Type 0
AllCollected keys near b places = (i : ℕ) (a : Key) → slice_get keys i ≡ Some a → IsNoted near i a → is_near a b ≡ true → IsIn i places

-- the delays behind these places, of the operation at place j
pub record AreBehind (m : Numbers) (mode : Mode) (t : Trace) (j : ℕ) (places : List ℕ) (list : List Earlier) : Type 0 where
  pub sound : (e : Earlier) → IsIn e list → IsDelay m mode t e.place j (Some e.delay)
  pub whole : (i delay : ℕ) → IsIn i places → Applies m mode t i j delay → IsListed list i delay

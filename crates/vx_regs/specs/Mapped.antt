-- When a map of the values of a function keeps them apart, and when it gives no slot without need.
use Rattle.std.specs.Prelude.{◌≡◌, ◌≢◌, ◌<◌, ◌≤◌, ◌+◌, ◌*◌, ◌-◌, ℕ, Some, List, length, slice_index_or}
use Rattle.vx_flow.specs.declared.graph.Bank.{Bank}
use Rattle.vx_flow.specs.declared.graph.Bank.TheVariants.{General, Branch}
use Rattle.vx_flow.specs.declared.graph.Op.{Op}
use Rattle.vx_flow.specs.Effects.{IsIn}
use Rattle.vx_isa.specs.Numbers.{Numbers}
use Rattle.vx_mixed.specs.declared.layout.VWords.{VWords}
use Rattle.vx_mixed.specs.Settled.{NoTwice}
use Rattle.vx_mixed.specs.LaidSettled.{home_in, bank_in}
use Rattle.vx_regs.specs.declared.map.Kept.{Kept}
use Rattle.vx_regs.specs.declared.map.Kept.TheVariants.{InRegister, InSlot, Nowhere}
use Rattle.vx_regs.specs.declared.map.RegMap.{RegMap}
use Rattle.vx_regs.specs.Intervals.{IsBusy, Within}

abbrev pub kept_of : RegMap → ℕ → Kept
kept_of map v = slice_index_or map.values v Nowhere

-- Registers 0, 1 and 2 of a cluster are zero, the stack pointer and the result, the next two for each issue slot are scratch;
-- so is a branch register for each issue slot. The others are allocatable.

abbrev pub first_of : Numbers → Bank → ℕ
first_of m General = 3 + 2 * m.issue
first_of m Branch = m.issue

abbrev pub end_of : Numbers → Bank → ℕ
end_of m General = m.registers
end_of m Branch = m.branch_registers

abbrev pub allocatable : Numbers → Bank → ℕ
allocatable m bank = end_of m bank - first_of m bank

-- branch values stand on cluster 0
abbrev pub cluster_in : Bank → ℕ → ℕ
cluster_in General home = home
cluster_in Branch home = 0

-- the file in which a value may have a register: its bank on its cluster
pub record InFile (l : VWords) (v : ℕ) (bank : Bank) (cluster : ℕ) : Type 0 where
  pub bank_is : bank_in l v ≡ Some bank
  pub cluster_is : cluster_in bank (home_in l v) ≡ cluster

-- values whose intervals share a word have different registers of a file, and slots are different
pub record KeepsApart (m : Numbers) (latency : Op → ℕ) (l : VWords) (map : RegMap) : Type 0 where
  pub placed : (v p : ℕ) → IsBusy latency l p v → kept_of map v ≢ Nowhere
  pub registers : (v n cluster : ℕ) (bank : Bank) → kept_of map v ≡ InRegister n → InFile l v bank cluster → (first_of m bank ≤ n) × (n < end_of m bank)
  pub apart : (u v p n cluster : ℕ) (bank : Bank) → u ≢ v → InFile l u bank cluster → InFile l v bank cluster → Within latency l u p → Within latency l v p → kept_of map u ≡ InRegister n → kept_of map v ≢ InRegister n
  pub slots : (u v k : ℕ) → kept_of map u ≡ InSlot k → kept_of map v ≡ InSlot k → u ≡ v

-- at some word of the interval of v more intervals of its file overlap than the file has allocatable registers
pub record Crowded (m : Numbers) (latency : Op → ℕ) (l : VWords) (v : ℕ) : Type 0 where
  pub bank : Bank
  pub cluster : ℕ
  pub place : ℕ
  pub values : List ℕ
  pub file : InFile l v bank cluster
  pub at : Within latency l v place
  pub once : NoTwice values
  pub each : (u : ℕ) → IsIn u values → InFile l u bank cluster × Within latency l u place
  pub more : allocatable m bank < length values

pub record Mapped (m : Numbers) (latency : Op → ℕ) (l : VWords) (map : RegMap) : Type 0 where
  pub keeps : KeepsApart m latency l map
  pub forced : (v k : ℕ) → kept_of map v ≡ InSlot k → Crowded m latency l v

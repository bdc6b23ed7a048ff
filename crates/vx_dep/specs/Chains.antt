-- The places of chains, by their numbers.
use Rattle.std.specs.Prelude.{ℕ}
use Rattle.vx_dep.specs.declared.chains.Chains.{Chains}
use Rattle.vx_dep.specs.Links.{IsPut, PutsStay}

abbrev pub IsOn : Chains → (row i : ℕ) → Type 0
IsOn chains row i = IsPut chains.heads.items chains.links.items row i

abbrev pub ChainsKept : Chains → Chains → Type 0
ChainsKept before after = PutsStay before.heads.items before.links.items after.heads.items after.links.items

-- Whether words lead to words among so many.
use Rattle.std.specs.Prelude.{◌+◌, ◌&&◌, ℕ, Bool, true, nat_lt, List, [], ◌∷◌}
use Rattle.std.specs.List.{list_all}
use Rattle.vx_mixed.specs.declared.layout.Laid.{Laid}
use Rattle.vx_mixed.specs.declared.layout.Laid.TheVariants.{Plain, Split}
use Rattle.vx_mixed.specs.declared.layout.VirtualWord.{VirtualWord}
use Rattle.vx_mixed.specs.declared.layout.VirtualWord.TheVariants.{Planned, Drain, Transfer, Choice, Call, Return, Ends}

abbrev pub is_inside : (count : ℕ) → Laid → Bool
is_inside count (Plain op cluster) = true
is_inside count (Split test y place) = nat_lt place count

abbrev pub are_inside : (count : ℕ) → List Laid → Bool
are_inside count items = list_all (is_inside count) items

-- the word at a place leads below the count
abbrev pub leads_below : (place count : ℕ) → VirtualWord → Bool
leads_below place count (Planned r w items) = nat_lt (place + 1) count && are_inside count items
leads_below place count (Drain n) = nat_lt (place + 1) count
leads_below place count (Transfer to) = nat_lt to count
leads_below place count (Choice test to) = nat_lt (place + 1) count && nat_lt to count
leads_below place count (Call g arguments result) = nat_lt (place + 1) count
leads_below place count (Return x) = true
leads_below place count (Ends k) = true

-- the words from a place on
abbrev pub all_lead : (place count : ℕ) → List VirtualWord → Bool
all_lead place count [] = true
all_lead place count (word ∷ words) = leads_below place count word && all_lead (place + 1) count words

-- What a caller of `schedule` shows: delays that were found in a mode are those of the call, and what it gives is of that
-- mode; the room of one operation is that of its item.
use Rattle.std.proofs.Common.{◌≡◌, ℕ, Bool, List, [], ◌∷◌, ◌++◌, subst, sym, ap, ◌∙◌}
use Rattle.vx_flow.specs.declared.trace.Trace.{Trace}
use Rattle.vx_flow.specs.declared.trace.Clustered.{Clustered}
use Rattle.vx_flow.specs.declared.trace.Homes.{Homes}
use Rattle.vx_isa.specs.Numbers.{Numbers}
use Rattle.vx_room.specs.declared.items.ClusteredItem.{ClusteredItem}
use Rattle.vx_room.specs.Room.{has_room}
use Rattle.vx_dep.specs.declared.mode.Mode.{Mode}
use Rattle.vx_dep.specs.declared.deps.Deps.{Deps}
use Rattle.vx_dep.specs.Deps.{IsDeps}
use Rattle.vx_sched.specs.Placement.{items_at, PlacedBy, mode_in, AreDeps}
use Rattle.vx_sched.specs.Filling.{IsItem}

pub own_mode : (m : Numbers) (mode : Mode) (t : Trace) (deps : Deps) → IsDeps m mode t deps → AreDeps m t deps
own_mode m mode t deps is = subst (λ x. IsDeps m x t deps) (sym is.mode_is) is

pub placed_in_mode : (m : Numbers) (mode : Mode) (t : Trace) (deps : Deps) (c : Clustered) (homes : Homes) (height : ℕ → ℕ) (words : List ℕ) → IsDeps m mode t deps → PlacedBy c m homes (mode_in deps) height words → PlacedBy c m homes mode height words
placed_in_mode m mode t deps c homes height words is placed = subst (λ x. PlacedBy c m homes x height words) is.mode_is placed

pub alone_is : (m : Numbers) (homes : Homes) (c : Clustered) (o : ℕ) (item : ClusteredItem) (fits : Bool) → fits ≡ has_room m homes (item ∷ []) → IsItem c o item → fits ≡ has_room m homes (items_at c (o ∷ []))
alone_is m homes c o item fits is e = is ∙ ap (λ xs. has_room m homes (xs ++ [])) (sym e)

-- The marks of places and bases: after a pass over the operations and one over the arrays those values are marked that are either.
use Rattle.std.proofs.Common.{◌≡◌, ◌∙◌, ℕ, zero, suc, ◌<◌, arith, Bool, true, false, List, length, replicate, refl, ap}
use Rattle.std.specs.List.{list_any}
use Rattle.std.specs.Prelude.{◌||◌}
use Rattle.vx_flow.specs.declared.graph.Block.{Block}
use Rattle.vx_flow.specs.declared.graph.Graph.{Graph}
use Rattle.vx_flow.specs.Rows.{is_marked}
use Rattle.vx_flow.specs.Sound.{is_given_base}
use Rattle.vx_select.specs.Selected.{makes_address}
use Rattle.vx_select.specs.Known.{Marks, AreAddresses}

unmarked : (n v : ℕ) → is_marked (replicate n false) v ≡ false
unmarked zero zero = refl
unmarked zero (suc v) = refl
unmarked (suc n) zero = refl
unmarked (suc n) (suc v) = unmarked n v

as_many : (n : ℕ) → length (replicate n false) ≡ n
as_many zero = refl
as_many (suc n) = ap suc (as_many n)

abbrev Makes : Graph → ℕ → Bool
Makes g v = list_any (λ (block : Block). list_any (makes_address g.arrays v) block.ops) g.blocks

pub addresses_marked : (g : Graph) (none middle after : List Bool) → none ≡ replicate (length g.banks) false → Marks (Makes g) none middle → Marks (is_given_base g) middle after → AreAddresses g after
addresses_marked g none middle after zeros one two v below =
    let e : length none ≡ length g.banks = ap length zeros ∙ as_many (length g.banks) in
    let c : length middle ≡ length none = one.count in
    two.marks v (omega arith)
    ∙ ap (λ b. b || is_given_base g v) (one.marks v (omega arith))
    ∙ ap (λ b. (b || Makes g v) || is_given_base g v) (ap (λ l. is_marked l v) zeros ∙ unmarked (length g.banks) v)

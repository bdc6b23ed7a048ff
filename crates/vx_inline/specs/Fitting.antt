-- What is asked of a call by itself, as tests.
use Rattle.std.specs.Prelude.{◌&&◌, ◌+◌, ◌-◌, ℕ, Bool, true, false, not, nat_le, nat_lt, if◌then◌else◌, Option, List, [], ◌∷◌, length}
use Rattle.std.specs.List.{list_all}
use Rattle.vx_flow.specs.declared.graph.Array.{Array}
use Rattle.vx_flow.specs.declared.graph.Op.{Op}
use Rattle.vx_flow.specs.declared.graph.Op.TheVariants.{Base}
use Rattle.vx_flow.specs.declared.graph.Exit.{Exit}
use Rattle.vx_flow.specs.declared.graph.Exit.TheVariants.{Goto, Split, Call, Return, Ends}
use Rattle.vx_flow.specs.declared.graph.Block.{Block}
use Rattle.vx_flow.specs.Operands.{value_list}
use Rattle.vx_inline.specs.Counts.{is_call}
use Rattle.vx_inline.specs.Inlined.{TheCall}

abbrev pub is_calling : Block → Bool
is_calling block = is_call block.exit

abbrev pub calls_nothing : List Block → Bool
calls_nothing blocks = list_all (λ block. not (is_calling block)) blocks

abbrev pub is_base_made : Op → Bool
is_base_made (Base v a x) = true
is_base_made op = false

abbrev pub makes_no_base : List Op → Bool
makes_no_base ops = list_all (λ op. not (is_base_made op)) ops

abbrev pub make_no_bases : List Block → Bool
make_no_bases blocks = list_all (λ (block : Block). makes_no_base block.ops) blocks

abbrev pub are_global : List Array → Bool
are_global arrays = list_all (λ (array : Array). array.global) arrays

-- the block that calls, with a move for each argument
abbrev pub is_entered_short : TheCall → Bool
is_entered_short c = nat_le (length c.block.ops + length c.arguments) 512

-- a block of the callee, with a move where it returns a result
abbrev pub is_short_with : Option ℕ → (ops : ℕ) → Exit → Bool
is_short_with taker n (Goto c) = true
is_short_with taker n (Split p c d) = true
is_short_with taker n (Call f arguments result c) = true
is_short_with taker n (Return x) = nat_le (n + length (value_list taker)) 512
is_short_with taker n (Ends k) = true

abbrev pub is_left_short : Option ℕ → Block → Bool
is_left_short taker block = is_short_with taker (length block.ops) block.exit

abbrev pub are_left_short : Option ℕ → List Block → Bool
are_left_short taker blocks = list_all (is_left_short taker) blocks

-- the callee has no call and no array but globals, blocks stay short, and it makes no base
abbrev pub fits : TheCall → Bool
fits c = calls_nothing c.callee.blocks && are_global c.callee.arrays && is_entered_short c && are_left_short c.result c.callee.blocks && make_no_bases c.callee.blocks

-- blocks have at most so many operations together
abbrev pub has_few : (most : ℕ) → List Block → Bool
has_few most [] = true
has_few most (block ∷ blocks) = if nat_lt most (length block.ops) then false else has_few (most - length block.ops) blocks

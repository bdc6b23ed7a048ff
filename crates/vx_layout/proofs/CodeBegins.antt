-- A graph of blocks begins with the code of the function's graph.
use Rattle.std.proofs.Common.{◌≡◌, ℕ, ◌<◌, true, ◌&&◌, Some, List, length, slice_get, refl, sym, ap, ◌∙◌, arith}
use Rattle.std.specs.Prelude.{nat_lt}
use Rattle.std.specs.List.{list_all}
use Rattle.std.proofs.lemmas.Bool.{and_parts}
use Rattle.std.proofs.Math.Nat.{mod-eq_of_lt}
use Rattle.vx_base.specs.declared.arithmetic.Code.{Code}
use Rattle.vx_base.specs.declared.arithmetic.Code.TheVariants.{Mov, ToBranch}
use Rattle.vx_flow.specs.declared.graph.Bank.{Bank}
use Rattle.vx_flow.specs.declared.graph.Bank.TheVariants.{General, Branch}
use Rattle.vx_flow.specs.declared.graph.Block.{Block}
use Rattle.vx_flow.specs.declared.graph.Exit.{Exit}
use Rattle.vx_flow.specs.declared.graph.Exit.TheVariants.{Goto, Split as Branches, Call, Return, Ends}
use Rattle.vx_flow.specs.declared.graph.Graph.{Graph}
use Rattle.vx_flow.specs.declared.graph.Op.{Op}
use Rattle.vx_flow.specs.declared.graph.Op.TheVariants.{Compute, Select, Place, Load, Store, More, Input, Text, Decimal, Across, Base, PlaceIn}
use Rattle.vx_flow.specs.declared.graph.Operand.{Operand}
use Rattle.vx_flow.specs.declared.graph.Operand.TheVariants.{Held, Number, Stack}
use Rattle.vx_flow.specs.Effects.{IsIn, dismissed, reads, writes}
use Rattle.vx_flow.specs.Sound.{is_general, is_branch, is_operand, is_right, is_written, is_sound_operation, is_sound_exit, is_sound_in, is_sound_block, is_sound, HasOperation, HasExit, bank_written}
use Rattle.vx_flow.proofs.IndexSteps.{get_below}
use Rattle.vx_flow.proofs.SoundLaw.{sound_is}
use Rattle.vx_mixed.specs.declared.region.Node.TheVariants.{Unused}
use Rattle.vx_mixed.specs.declared.mixed.MixedGraph.{MixedGraph}
use Rattle.vx_mixed.specs.FromGraph.{OfGraph}
use Rattle.vx_layout.specs.Origins.{whole, whole_operand, whole_op, ComesFrom, graph_op, ExitComesFrom, ComesFromGraph}
use Rattle.vx_layout.specs.OriginLaws.{BeginsWithCode}
use Rattle.vx_mixed.specs.Valid.{IsOp, block_op, region_op, names_of}
use Rattle.vx_mixed.proofs.Begins.{bank_below, both_below, op_below, all_in, sound_op, sound_blocks, node_is, is_block, no_region}
use Rattle.vx_mixed.proofs.Linked.{index_in}

-- an operation that names values of the graph alone names no copies

module _ (banks : List Bank) where
  abbrev N : ℕ
  N = length banks

  value_whole : (v : ℕ) → v < N → whole N v ≡ v
  value_whole v lt = mod-eq_of_lt lt

  general_whole : (v : ℕ) → is_general banks v ≡ true → whole N v ≡ v
  general_whole v h = value_whole v (bank_below banks v General h)

  branch_whole : (v : ℕ) → is_branch banks v ≡ true → whole N v ≡ v
  branch_whole v h = value_whole v (bank_below banks v Branch h)

  operand_whole : (x : Operand) → is_operand banks x ≡ true → whole_operand N x ≡ x
  operand_whole (Held v) h = ap Held (general_whole v h)
  operand_whole (Number n) h = refl
  operand_whole Stack h = refl

  right_whole : (code : Code) (x : Operand) → is_right banks code x ≡ true → whole_operand N x ≡ x
  right_whole Mov (Held v) h = absurd (cc)
  right_whole Mov (Number n) h = refl
  right_whole Mov Stack h = refl
  right_whole code x h = operand_whole x h

  written_whole : (code : Code) (v : ℕ) → is_written banks code v ≡ true → whole N v ≡ v
  written_whole (ToBranch k) v h = branch_whole v h
  written_whole code v h = general_whole v h

  op_whole : (n : ℕ) (op : Op) → is_sound_operation banks n op ≡ true → whole_op N op ≡ op
  op_whole n (Compute code v a b) h =
      let x = and_parts (is_written banks code v && is_operand banks a) (is_right banks code b) h in
      let y = and_parts (is_written banks code v) (is_operand banks a) x.0 in
      ap (λ z. Compute code z (whole_operand N a) (whole_operand N b)) (written_whole code v y.0)
      ∙ ap (λ z. Compute code v z (whole_operand N b)) (operand_whole a y.1)
      ∙ ap (Compute code v a) (right_whole code b x.1)
  op_whole n (Select v p a b) h =
      let x = and_parts (is_general banks v && is_branch banks p && is_operand banks a) (is_operand banks b) h in
      let y = and_parts (is_general banks v && is_branch banks p) (is_operand banks a) x.0 in
      let z = and_parts (is_general banks v) (is_branch banks p) y.0 in
      ap (λ w. Select w (whole N p) (whole_operand N a) (whole_operand N b)) (general_whole v z.0)
      ∙ ap (λ w. Select v w (whole_operand N a) (whole_operand N b)) (branch_whole p z.1)
      ∙ ap (λ w. Select v p w (whole_operand N b)) (operand_whole a y.1)
      ∙ ap (Select v p a) (operand_whole b x.1)
  op_whole n (Place v a i) h =
      let x = and_parts (is_general banks v && nat_lt a n) (is_operand banks i) h in
      let y = and_parts (is_general banks v) (nat_lt a n) x.0 in
      ap (λ w. Place w a (whole_operand N i)) (general_whole v y.0) ∙ ap (Place v a) (operand_whole i x.1)
  op_whole n (Load v a p d) h =
      let x = and_parts (is_general banks v && nat_lt a n) (is_operand banks p) h in
      let y = and_parts (is_general banks v) (nat_lt a n) x.0 in
      ap (λ w. Load w a (whole_operand N p) d) (general_whole v y.0) ∙ ap (λ w. Load v a w d) (operand_whole p x.1)
  op_whole n (Store a p x) h =
      let y = and_parts (nat_lt a n && is_operand banks p) (is_operand banks x) h in
      let z = and_parts (nat_lt a n) (is_operand banks p) y.0 in
      ap (λ w. Store a w (whole_operand N x)) (operand_whole p z.1) ∙ ap (Store a p) (operand_whole x y.1)
  op_whole n (More v) h = ap More (general_whole v h)
  op_whole n (Input v) h = ap Input (general_whole v h)
  op_whole n (Text k) h = refl
  op_whole n (Decimal x) h = ap Decimal (operand_whole x h)
  op_whole n (Across v u) h = absurd (cc)
  op_whole n (Base v a x) h = ap (λ w. Base w a x) (general_whole v (and_parts (is_general banks v) (nat_lt a n) h).0)
  op_whole n (PlaceIn v a u i) h =
      let x = and_parts (is_general banks v && nat_lt a n && is_general banks u) (is_operand banks i) h in
      let y = and_parts (is_general banks v && nat_lt a n) (is_general banks u) x.0 in
      let z = and_parts (is_general banks v) (nat_lt a n) y.0 in
      ap (λ w. PlaceIn w a (whole N u) (whole_operand N i)) (general_whole v z.0) ∙ ap (λ w. PlaceIn v a w (whole_operand N i)) (general_whole u y.1) ∙ ap (PlaceIn v a u) (operand_whole i x.1)

-- an exit is one of the graph
exit_comes : (graph : Graph) (x : Exit) → HasExit graph x → ExitComesFrom graph x
exit_comes graph (Goto c) h = tt
exit_comes graph (Branches p c d) h = record { yes = c; no = d; has = h }
exit_comes graph (Call g arguments result next) h = record { next = next; has = h }
exit_comes graph (Return x) h = h
exit_comes graph (Ends k) h = h

module _ (graph : Graph) (m : MixedGraph) (sound : is_sound graph ≡ true) (is : OfGraph graph m) where
  there : (b : ℕ) (k : Block) → slice_get m.nodes b ≡ Some (Unused k) → slice_get graph.blocks b ≡ Some k
  there b k e = is_block graph m sound is (slice_get graph.blocks b) k (sym (node_is graph m sound is b) ∙ e)

  op_sound : (op : Op) → HasOperation graph op → is_sound_operation graph.banks (length graph.arrays) op ≡ true
  op_sound op h =
      let s = all_in (is_sound_block graph) graph.blocks h.block (sound_blocks graph sound) h.has in
      let ops = (and_parts (list_all (is_sound_in graph) h.block.ops) (is_sound_exit graph.banks (length graph.blocks) h.block.exit) s).0 in
      sound_op graph op (all_in (is_sound_in graph) h.block.ops op ops h.stands)

  op_comes : (op : Op) → HasOperation graph op → ComesFrom graph op
  op_comes op h =
      graph_op op h (ap dismissed (op_whole graph.banks (length graph.arrays) op (op_sound op h))) refl (λ v i. let lt = named v i in omega arith)
    where
      written : (v : ℕ) → IsIn v (writes op) → v < length graph.banks
      written v i = get_below graph.banks v (bank_written op) ((sound_is graph sound).results op v h i)

      named : (v : ℕ) → IsIn v (names_of op) → v < length graph.banks
      named = both_below graph.banks (reads op) (writes op) (op_below graph.banks (length graph.arrays) op (op_sound op h)) written

  op_from : (op : Op) → IsOp m op → HasOperation graph op
  op_from op (block_op b k at i) = record { block = k; has = index_in graph.blocks b k (there b k at); stands = i }
  op_from op (region_op r j cluster g word at in_words i) = no_region graph m is r g at

  begins : ComesFromGraph graph m
  begins = record {
    banks = is.banks;
    parameters = is.parameters;
    arrays = is.arrays;
    ops = λ op h. op_comes op (op_from op h);
    block_exits = λ b k at. exit_comes graph k.exit (record { block = k; has = index_in graph.blocks b k (there b k at); ends = refl });
    region_exits = λ r g at. no_region graph m is r g at;
    splits = λ r j test d y e g word at in_words i. no_region graph m is r g at;
  }

pub begins_with_code : BeginsWithCode
begins_with_code graph m sound from = begins graph m sound from.blocks

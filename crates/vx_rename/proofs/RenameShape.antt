-- A graph under names has the shape of the old one: its blocks are no longer, and end and lead as they did.
use Rattle.std.proofs.Common.{◌≡◌, ◌<◌, ◌≤◌, ℕ, suc, ◌+◌, ◌==◌, nat_le, true, List, [], ◌∷◌, ◌++◌, length, drop, slice_get, count_by, Option, Some, None, refl, sym, ap, ◌∙◌, subst, arith}
use Rattle.std.proofs.lemmas.Bool.{and_parts, eqb-true, leb-true}
use Rattle.std.specs.Prelude.{◌&&◌}
use Rattle.std.specs.Option.{option_map}
use Rattle.vx_base.specs.declared.outcome.Trap.{Trap}
use Rattle.vx_ast.specs.Tree.{Function, Program}
use Rattle.vx_flow.specs.declared.graph.Op.{Op}
use Rattle.vx_flow.specs.declared.graph.Exit.{Exit}
use Rattle.vx_flow.specs.declared.graph.Exit.TheVariants.{Goto, Split, Call, Return, Ends}
use Rattle.vx_flow.specs.declared.graph.Block.{Block}
use Rattle.vx_flow.specs.declared.graph.Graph.{Graph}
use Rattle.vx_flow.specs.Effects.{IsIn}
use Rattle.vx_flow.specs.Sound.{targets_of}
use Rattle.vx_lower.specs.FlowOf.{EndsBy, IsEdge, is_general, is_branch, GraphOf}
use Rattle.vx_rename.specs.declared.names.BlockNames.{BlockNames}
use Rattle.vx_rename.specs.declared.names.GraphNames.{GraphNames}
use Rattle.vx_rename.specs.Renaming.{Standing, no_name, starting, renamed_exit, first_name, renamed_one, behind_op, op_if, renamed_ops, ending, leaving, renamed_block, renamed_blocks, names_at, parameter_name, renamed, blocks_stand, has_counts, entry_stands, is_renaming}
use Rattle.vx_rename.proofs.BlocksTied.{Placed, placed}
use Rattle.vx_rename.proofs.Entered.{same_words, same_bases}

-- ---- operations and exits

one_at_most : (o : Option Op) (ops : List Op) (k : ℕ) → length ops ≤ k → length (op_if o ++ ops) ≤ suc k
one_at_most None ops k h = let g : length ops ≤ suc k = omega (arith, h) in g
one_at_most (Some op) ops k h = let g : suc (length ops) ≤ suc k = omega (arith, h) in g

no_more_ops : (n : Standing) (ws : List (Option ℕ)) (ops : List Op) → length (renamed_ops n ws ops) ≤ length ops
no_more_ops n ws [] = let g : 0 ≤ 0 = omega arith in g
no_more_ops n ws (op ∷ ops) =
    let m : Standing = behind_op n (first_name ws) op in
    one_at_most (renamed_one n (first_name ws) op) (renamed_ops m (drop 1 ws) ops) (length ops) (no_more_ops m (drop 1 ws) ops)

short_too : (i j k : ℕ) → i ≡ j → j ≤ k → k ≤ 512 → i ≤ 512
short_too i j k e h l = omega (arith, e, h, l)

none_left : (n : Standing) (ws : List (Option ℕ)) (ops : List Op) → ops ≡ [] → renamed_ops n ws ops ≡ []
none_left n ws [] e = refl
none_left n ws (op ∷ ops) e = absurd (cc)

same_targets : (name : ℕ → ℕ) (w : ℕ) (exit : Exit) → targets_of (renamed_exit name w exit) ≡ targets_of exit
same_targets name w (Goto c) = refl
same_targets name w (Split p c d) = refl
same_targets name w (Call f arguments result c) = refl
same_targets name w (Return x) = refl
same_targets name w (Ends k) = refl

ended : (name : ℕ → ℕ) (w : ℕ) (exit : Exit) (k : Trap) → renamed_exit name w exit ≡ Ends k → exit ≡ Ends k
ended name w (Goto c) k e = absurd (cc)
ended name w (Split p c d) k e = absurd (cc)
ended name w (Call f arguments result c) k e = absurd (cc)
ended name w (Return x) k e = absurd (cc)
ended name w (Ends j) k e = e

split : (name : ℕ → ℕ) (w : ℕ) (exit : Exit) (p c d : ℕ) → renamed_exit name w exit ≡ Split p c d → (q : ℕ) × (exit ≡ Split q c d)
split name w (Goto c) p x y e = absurd (cc)
split name w (Split q c d) p x y e = let a : c ≡ x = cc in let b : d ≡ y = cc in (q, ap (λ z. Exit.Split q z d) a ∙ ap (λ z. Exit.Split q x z) b)
split name w (Call f arguments result c) p x y e = absurd (cc)
split name w (Return v) p x y e = absurd (cc)
split name w (Ends j) p x y e = absurd (cc)

-- ---- blocks

module _ (at : ℕ → BlockNames) where
  as_many : (n : ℕ → ℕ) (b : ℕ) (blocks : List Block) → length (renamed_blocks at n b blocks) ≡ length blocks
  as_many n b [] = refl
  as_many n b (block ∷ blocks) = ap suc (as_many (leaving n (at b) block) (b + 1) blocks)

  -- a new block and the old one of which it was made
  record From (blocks : List Block) (b : ℕ) (new : Block) : Type 0 where
    block : Block
    before : ℕ → ℕ
    has : slice_get blocks b ≡ Some block
    is : new ≡ renamed_block before (at b) block

  from_some : (blocks : List Block) (b : ℕ) (new : Block) (before : ℕ → ℕ) (o : Option Block) → slice_get blocks b ≡ o → option_map (renamed_block before (at b)) o ≡ Some new → From blocks b new
  from_some blocks b new before None e q = absurd (cc)
  from_some blocks b new before (Some block) e q = record { block = block; before = before; has = e; is = (let r : new ≡ renamed_block before (at b) block = cc in r) }

  abbrev before : (blocks : List Block) → ℕ → ℕ → ℕ
  before blocks b = (placed at no_name 0 blocks b).from

  there : (blocks : List Block) (b : ℕ) → slice_get (renamed_blocks at no_name 0 blocks) b ≡ option_map (renamed_block (before blocks b) (at b)) (slice_get blocks b)
  there blocks b =
      let j : 0 + b ≡ b = omega arith in
      let p : Placed at no_name 0 blocks b = placed at no_name 0 blocks b in
      p.is ∙ ap (λ k. option_map (renamed_block p.from (at k)) (slice_get blocks b)) j

  from : (blocks : List Block) (b : ℕ) (new : Block) → slice_get (renamed_blocks at no_name 0 blocks) b ≡ Some new → From blocks b new
  from blocks b new e = from_some blocks b new (before blocks b) (slice_get blocks b) refl (sym (there blocks b) ∙ e)

module _ (names : GraphNames) (g : Graph) where
  abbrev new : Graph
  new = renamed names g

  old_end : (b : ℕ) (k : Trap) → EndsBy new b k → EndsBy g b k
  old_end b k e =
      let f = from (names_at names.blocks) g.blocks b e.block e.has in
      record { block = f.block; has = f.has; ends = ended _ _ f.block.exit k (sym (ap (λ (x : Block). x.exit) f.is) ∙ e.ends) }

  new_end : (b : ℕ) (k : Trap) → EndsBy g b k → EndsBy new b k
  new_end b k e = record {
    block = renamed_block (before (names_at names.blocks) g.blocks b) (names_at names.blocks b) e.block;
    has = there (names_at names.blocks) g.blocks b ∙ ap (option_map (renamed_block (before (names_at names.blocks) g.blocks b) (names_at names.blocks b))) e.has;
    ends = ap (λ (x : Exit). renamed_exit (ending (before (names_at names.blocks) g.blocks b) (names_at names.blocks b) e.block).name (names_at names.blocks b).result x) e.ends;
  }

  old_edge : (b c : ℕ) → IsEdge new b c → IsEdge g b c
  old_edge b c e =
      let f = from (names_at names.blocks) g.blocks b e.block e.has in
      record { block = f.block; has = f.has; leads = subst (IsIn c) (ap (λ (x : Block). targets_of x.exit) f.is ∙ same_targets _ _ f.block.exit) e.leads }

  pub shape_renamed : (p : Program) (function : Function) → is_renaming names g ≡ true → GraphOf p function g → GraphOf p function new
  shape_renamed p function h o =
      let counts = and_parts (has_counts names g) (entry_stands names g && blocks_stand (names_at names.blocks) no_name 0 g.blocks) h in
      let first = and_parts (length names.parameters == length g.parameters) (nat_le (count_by is_general names.banks) (count_by is_general g.banks) && nat_le (count_by is_branch names.banks) (count_by is_branch g.banks)) counts.0 in
      let banks = and_parts (nat_le (count_by is_general names.banks) (count_by is_general g.banks)) (nat_le (count_by is_branch names.banks) (count_by is_branch g.banks)) first.1 in
      let general : count_by is_general names.banks ≤ count_by is_general g.banks = leb-true _ _ banks.0 in
      let branch : count_by is_branch names.banks ≤ count_by is_branch g.banks = leb-true _ _ banks.1 in
      let most_general = o.general_values in
      let most_branch = o.branch_values in
      let at : ℕ → BlockNames = names_at names.blocks in
      record {
        parameters = eqb-true (length names.parameters) (length g.parameters) first.0 ∙ o.parameters;
        arrays = same_words (parameter_name g.parameters names.parameters) g.arrays ∙ o.arrays;
        bases = same_bases (parameter_name g.parameters names.parameters) g.arrays ∙ o.bases;
        trap_empty = λ b k e. (let f = from at g.blocks b e.block e.has in ap (λ (x : Block). x.ops) f.is ∙ none_left _ _ f.block.ops (o.trap_empty b k (record { block = f.block; has = f.has; ends = ended _ _ f.block.exit k (sym (ap (λ (x : Block). x.exit) f.is) ∙ e.ends) })));
        trap_alone = λ b c k e f. o.trap_alone b c k (old_end b k e) (old_end c k f);
        traps_last = λ b c k e l m. (let x = o.traps_last b c k (old_end b k e) l (subst (λ n. c < n) (as_many at no_name 0 g.blocks) m) in (x.0, new_end c x.0 x.1));
        short = λ b block e. (
            let f = from at g.blocks b block e in
            let n : Standing = starting f.before (at b) in
            short_too (length block.ops) (length (renamed_ops n (at b).written f.block.ops)) (length f.block.ops) (ap (λ (x : Block). length x.ops) f.is) (no_more_ops n (at b).written f.block.ops) (o.short b f.block f.has));
        apart = λ b block test yes_side no_side e q. (let f = from at g.blocks b block e in let s = split _ _ f.block.exit test yes_side no_side (sym (ap (λ (x : Block). x.exit) f.is) ∙ q) in o.apart b f.block s.0 yes_side no_side f.has s.1);
        uncritical = λ b c d e x y z w. o.uncritical b c d e (old_edge b c x) (old_edge b d y) z (old_edge e d w);
        entry = λ b e. o.entry b (old_edge b 0 e);
        general_values = omega arith;
        branch_values = omega arith;
      }

-- The graph is sound, and what the flow asks of it.
use Rattle.std.proofs.Common.{◌≡◌, ◌⊎◌, inl, inr, ℕ, ◌+◌, ◌<◌, ◌≤◌, Bool, true, false, ◌==◌, ◌&&◌, not, ℤ, pos, List, [], ◌++◌, length, map, slice_get, Option, Some, None, refl, sym, ap, ◌∙◌, subst, eq-eqb, eqb-true, arith}
use Rattle.std.proofs.lemmas.Bool.{false≢true}
use Rattle.std.proofs.lemmas.Option.{slice_get_within}
use Rattle.std.specs.List.{flat_map}
use Rattle.vx_base.specs.declared.outcome.Trap.{Trap}
use Rattle.vx_base.specs.declared.arithmetic.Code.TheVariants.{Mov}
use Rattle.vx_flow.specs.declared.graph.Operand.{Operand}
use Rattle.vx_flow.specs.declared.graph.Operand.TheVariants.{Held, Number, Stack}
use Rattle.vx_flow.specs.declared.graph.Bank.TheVariants.{General, Branch}
use Rattle.vx_flow.specs.declared.graph.Op.TheVariants.{Compute, Place, Across, Text, Base, PlaceIn}
use Rattle.vx_flow.specs.declared.graph.Bank.{Bank}
use Rattle.vx_flow.specs.declared.graph.Op.{Op}
use Rattle.vx_flow.specs.declared.graph.Exit.{Exit}
use Rattle.vx_flow.specs.declared.graph.Exit.TheVariants.{Goto, Split, Call, Return, Ends}
use Rattle.vx_flow.specs.declared.graph.Block.{Block}
use Rattle.vx_flow.specs.declared.graph.Graph.{Graph}
use Rattle.vx_flow.specs.declared.graph.Flow.{Flow}
use Rattle.vx_flow.specs.declared.graph.Edge.{Edge}
use Rattle.vx_flow.specs.Effects.{IsIn, value_in, reads, writes}
use Rattle.vx_flow.specs.Operands.{with_value_in, with_values}
use Rattle.vx_flow.specs.Sound.{HasOperation, HasExit, SoundFlow, Sound, Leads, Has, Callable, IsOperandOf, IsPlace, in_own, in_handed, IsAccess, MakesPlace, ReadAsPlace, IsBase, given, made, IsMadeFrom, base, has_base, is_own, is_local, base_of, base_at, targets_of, operands_of, tests_of, arrays_of, bank_written, operands_of_exit, results_of_exit, tests_of_exit}
use Rattle.vx_flow.proofs.Members.{in_left, in_right, in_either}
use Rattle.vx_flow.proofs.SoundBases.{array_of_base}
use Rattle.vx_inline.specs.declared.site.Site.{Site}
use Rattle.vx_inline.specs.Inlined.{CallAt, IsPermitted, IsFree, names, named_by, taken, is_plain, kind_place, placed_as, move, moves_in, moves_out, entering, copied, copied_as, critical, behind, edge_block, relinked_exit, callers_plain, all_plain, all_kinds, caller_at, callee_at, joined, inlined_blocks}
use Rattle.vx_inline.specs.Joined.{Stays, Enters}
use Rattle.vx_inline.proofs.Depth.{get_in}
use Rattle.vx_inline.proofs.Edges.{Rowed, in_there, map_from, Kept, AnEdge, ATrap, from_where, edges_within}
use Rattle.vx_inline.proofs.Numbering.{there, trap_at, IsTrap, trap_of, kind_at}
use Rattle.vx_inline.proofs.Renamed.{reads_named, writes_named, exit_reads_named, operand_read, test_read, value_renamed, reads_renamed, writes_renamed, tests_renamed, bank_renamed, arrays_renamed, base_renamed, operands_renamed, place_renamed, handed_renamed, across_renamed, text_renamed, MoveFrom, move_renamed, moves_from, out_from, access_array, SameValues, moved_same}
use Rattle.vx_inline.proofs.Taking.{taken_free, is_free}
use Rattle.vx_inline.proofs.Rests.{moved_target, copied_target}
use Rattle.vx_inline.proofs.Joining.{block_is, long as the_long, in_third as the_in_third, trap_place as the_trap_place, caller_low as the_caller_low, callee_low as the_callee_low, stays as the_stays, enters as the_enters, few_arrays as the_few_arrays}
use Rattle.vx_inline.proofs.JoinedShape.{From, FromPlain, FromTrap, of_caller, of_call, of_callee, from_row as the_from_row, tail_kind as the_tail_kind, caller_target as the_caller_target, callee_target as the_callee_target, next_there as the_next_there, callee_first as the_callee_first, rowed as the_rowed}

module _ (flow : Flow) (site : Site) (c : CallAt flow site) (free : Bank → List ℕ) (permitted : IsPermitted flow site c free) (sound : SoundFlow flow) where
  abbrev A : List Block
  A = c.parts.caller.blocks

  abbrev B : List Block
  B = c.parts.callee.blocks

  abbrev nA : ℕ
  nA = callers_plain c.parts

  abbrev m : ℕ
  m = all_plain c.parts

  abbrev kinds : List Trap
  kinds = all_kinds c.parts

  abbrev at0 : ℕ → ℕ
  at0 = caller_at c.parts

  abbrev copy0 : ℕ → ℕ
  copy0 = callee_at c.parts

  abbrev to : ℕ → ℕ
  to = taken c.parts.callee free

  abbrev moves : List Op
  moves = moves_in to c.parts.callee.parameters c.parts.arguments

  abbrev enter : Block
  enter = entering to c.parts.callee.parameters c.parts.arguments (copy0 0) c.parts.block.ops

  abbrev copy_of : Block → Block
  copy_of block = copied copy0 to c.parts.result (at0 c.parts.next) block

  abbrev Z : List Block
  Z = map trap_at kinds

  abbrev S : List Block
  S = joined c.parts site.block free

  abbrev es : List Edge
  es = critical S 0 S

  abbrev F : List Block
  F = inlined_blocks c.parts site.block free

  abbrev at : ℕ → ℕ
  at b = behind m (length es) (at0 b)

  abbrev copy : ℕ → ℕ
  copy b = behind m (length es) (copy0 b)

  long : m ≤ length S
  long = the_long flow site c free permitted sound

  in_third : (k : ℕ) (block : Block) → slice_get Z k ≡ Some block → slice_get S (m + k) ≡ Some block
  in_third = the_in_third flow site c free permitted sound

  trap_place : (first : ℕ) (blocks : List Block) (b : ℕ) (block : Block) → slice_get blocks b ≡ Some block → is_plain block ≡ false → placed_as first m kinds blocks b (slice_get blocks b) ≡ m + kind_place kinds block.exit
  trap_place = the_trap_place flow site c free permitted sound

  caller_low : (b : ℕ) (block : Block) → slice_get A b ≡ Some block → is_plain block ≡ true → at0 b < m
  caller_low = the_caller_low flow site c free permitted sound

  callee_low : (b : ℕ) (block : Block) → slice_get B b ≡ Some block → is_plain block ≡ true → copy0 b < m
  callee_low = the_callee_low flow site c free permitted sound

  stays : (b : ℕ) (block : Block) → (b ≡ site.block → ⊥) → slice_get A b ≡ Some block → Stays F at block (at b)
  stays = the_stays flow site c free permitted sound

  enters : Enters F (c.parts.block.ops ++ moves) (copy 0) (at site.block)
  enters = the_enters flow site c free permitted sound

  few_arrays : length c.parts.callee.arrays ≤ length flow.globals
  few_arrays = the_few_arrays flow site c free permitted sound

  from_row : (x : ℕ) (block : Block) → slice_get S x ≡ Some block → FromPlain flow site c free permitted sound block ⊎ FromTrap flow site c free permitted sound x block
  from_row = the_from_row flow site c free permitted sound

  tail_kind : (i : ℕ) (block : Block) → slice_get S (m + i) ≡ Some block → (k : Trap) × (slice_get kinds i ≡ Some k) × (block ≡ trap_at k)
  tail_kind = the_tail_kind flow site c free permitted sound

  caller_target : (b d : ℕ) (x : Block) → slice_get A b ≡ Some x → IsIn d (targets_of x.exit) → (z : Block) × (slice_get A d ≡ Some z)
  caller_target = the_caller_target flow site c free permitted sound

  callee_target : (b d : ℕ) (x : Block) → slice_get B b ≡ Some x → IsIn d (targets_of x.exit) → (z : Block) × (slice_get B d ≡ Some z)
  callee_target = the_callee_target flow site c free permitted sound

  next_there : IsIn c.parts.next (targets_of c.parts.block.exit)
  next_there = the_next_there flow site c free permitted sound

  callee_first : (w : Block) × (slice_get B 0 ≡ Some w)
  callee_first = the_callee_first flow site c free permitted sound

  rowed : Rowed m S
  rowed = the_rowed flow site c free permitted sound

  caller_sound : Sound c.parts.caller
  caller_sound = sound.graphs c.parts.caller (get_in flow.functions site.function c.parts.caller c.is_caller)

  callee_sound : Sound c.parts.callee
  callee_sound = sound.graphs c.parts.callee (get_in flow.functions c.parts.called c.parts.callee c.is_callee)

  -- ---- soundness

  abbrev G : Graph
  G = record c.parts.caller { blocks = F }

  row_low : (x : ℕ) (block : Block) → slice_get S x ≡ Some block → x < length S
  row_low x block e = slice_get_within S x block e

  caller_there : (d : ℕ) (w : Block) → slice_get A d ≡ Some w → at0 d < length S
  caller_there d w e = by (is_plain w) refl
    where
      by : (t : Bool) → is_plain w ≡ t → at0 d < length S
      by true p = let l : at0 d < m = caller_low d w e p in let k : m ≤ length S = long in omega (arith, l, k)
      by false p =
          let t : IsTrap w = trap_of w p in
          let q : at0 d ≡ m + kind_place kinds w.exit = trap_place 0 A d w e p in
          subst (λ v. v < length S) (sym q) (row_low (m + kind_place kinds w.exit) (trap_at t.kind) (in_third (kind_place kinds w.exit) (trap_at t.kind) (kind_at (A ++ B) w (in_left w A B (get_in A d w e)) t)))

  callee_there : (d : ℕ) (w : Block) → slice_get B d ≡ Some w → copy0 d < length S
  callee_there d w e = by (is_plain w) refl
    where
      by : (t : Bool) → is_plain w ≡ t → copy0 d < length S
      by true p = let l : copy0 d < m = callee_low d w e p in let k : m ≤ length S = long in omega (arith, l, k)
      by false p =
          let t : IsTrap w = trap_of w p in
          let q : copy0 d ≡ m + kind_place kinds w.exit = trap_place nA B d w e p in
          subst (λ v. v < length S) (sym q) (row_low (m + kind_place kinds w.exit) (trap_at t.kind) (in_third (kind_place kinds w.exit) (trap_at t.kind) (kind_at (A ++ B) w (in_right w A B (get_in B d w e)) t)))

  targets_row : (x d : ℕ) → Leads S x d → d < length S
  targets_row x d k = by (from_row x k.block k.has)
    where
      by_from : From flow site c free permitted sound k.block → d < length S
      by_from (of_caller b w h q) =
          let t = moved_target at0 w.exit d (subst (λ (v : Block). IsIn d (targets_of v.exit)) q k.leads) in
          let z = caller_target b t.0 w h t.1 in
          subst (λ v. v < length S) (sym t.2) (caller_there t.0 z.0 z.1)
      by_from (of_call q) = elim (subst (λ (v : Block). IsIn d (targets_of v.exit)) q k.leads) [ inl e ↦ subst (λ v. v < length S) (sym e) (callee_there 0 callee_first.0 callee_first.1) | inr z ↦ absurd z ]
      by_from (of_callee b w h q) = by_target (copied_target copy0 to c.parts.result (at0 c.parts.next) w d (subst (λ (v : Block). IsIn d (targets_of v.exit)) q k.leads))
        where
          by_target : ((j : ℕ) × IsIn j (targets_of w.exit) × (d ≡ copy0 j)) ⊎ (d ≡ at0 c.parts.next) → d < length S
          by_target (inl t) = let z = callee_target b t.0 w h t.1 in subst (λ v. v < length S) (sym t.2) (callee_there t.0 z.0 z.1)
          by_target (inr e) = let z = caller_target site.block c.parts.next c.parts.block c.is_block next_there in subst (λ v. v < length S) (sym e) (caller_there c.parts.next z.0 z.1)

      by : FromPlain flow site c free permitted sound k.block ⊎ FromTrap flow site c free permitted sound x k.block → d < length S
      by (inl f) = by_from f.from
      by (inr t) = let z : IsIn d (targets_of (Ends t.kind)) = subst (λ (v : Block). IsIn d (targets_of v.exit)) t.is k.leads in absurd z

  -- what an operation of the graph is
  data OpFrom (op : Op) : Type 0 where
    old_op : HasOperation c.parts.caller op → OpFrom op
    moved_op : (q : ℕ) (x : Operand) → IsIn q c.parts.callee.parameters → IsIn x c.parts.arguments → op ≡ move (to q) x → OpFrom op
    callee_op : (o : Op) → HasOperation c.parts.callee o → op ≡ with_values to o → OpFrom op
    back_op : (v : ℕ) (x : Operand) → c.parts.result ≡ Some v → HasExit c.parts.callee (Return x) → op ≡ move v (with_value_in to x) → OpFrom op

  copied_op : (w : Block) (op : Op) → IsIn w B → IsIn op (copy_of w).ops → OpFrom op
  copied_op w op i k = by w.exit refl k
    where
      plain : IsIn op (map (with_values to) w.ops) → OpFrom op
      plain n = let r = map_from (with_values to) w.ops op n in callee_op r.0 (record { block = w; has = i; stands = r.1 }) r.2

      either : (x : Operand) → w.exit ≡ Return x → IsIn op (map (with_values to) w.ops) ⊎ IsIn op (moves_out c.parts.result (with_value_in to x)) → OpFrom op
      either x e (inl n) = plain n
      either x e (inr n) = let r = out_from c.parts.result (with_value_in to x) op n in back_op r.0 x r.1 (record { block = w; has = i; ends = sym e }) r.2

      by : (exit : Exit) → w.exit ≡ exit → IsIn op (copied_as copy0 to c.parts.result (at0 c.parts.next) (map (with_values to) w.ops) exit).ops → OpFrom op
      by (Goto d) e n = plain n
      by (Split p d f) e n = plain n
      by (Call f xs v d) e n = plain n
      by (Return x) e n = either x e (in_either op (map (with_values to) w.ops) (moves_out c.parts.result (with_value_in to x)) n)
      by (Ends t) e n = plain n

  row_op : (block : Block) (op : Op) → From flow site c free permitted sound block → IsIn op block.ops → OpFrom op
  row_op block op (of_caller b w h q) k = old_op (record { block = w; has = get_in A b w h; stands = subst (λ (v : Block). IsIn op v.ops) q k })
  row_op block op (of_call q) k = by (in_either op c.parts.block.ops moves (subst (λ (v : Block). IsIn op v.ops) q k))
    where
      by : IsIn op c.parts.block.ops ⊎ IsIn op moves → OpFrom op
      by (inl n) = old_op (record { block = c.parts.block; has = get_in A site.block c.parts.block c.is_block; stands = n })
      by (inr n) = let r = moves_from to c.parts.callee.parameters c.parts.arguments op n in moved_op r.0 r.1 r.2 r.3 r.4
  row_op block op (of_callee b w h q) k = copied_op w op (get_in B b w h) (subst (λ (v : Block). IsIn op v.ops) q k)

  op_from : (op : Op) → HasOperation G op → OpFrom op
  op_from op h = by (from_where m S rowed i.0 h.block i.1)
    where
      i : (j : ℕ) × (slice_get F j ≡ Some h.block)
      i = in_there F h.block h.has

      in_row_op : (x : ℕ) (old : Block) → IsIn op old.ops → FromPlain flow site c free permitted sound old ⊎ FromTrap flow site c free permitted sound x old → OpFrom op
      in_row_op x old k (inl f) = row_op old op f.from k
      in_row_op x old k (inr t) = let z : IsIn op [] = subst (λ (v : Block). IsIn op v.ops) t.is k in absurd z

      by : Kept m S rowed i.0 h.block ⊎ (AnEdge m S rowed i.0 h.block ⊎ ATrap m S rowed i.0 h.block) → OpFrom op
      by (inl r) = in_row_op i.0 r.old (subst (λ (v : Block). IsIn op v.ops) r.is h.stands) (from_row i.0 r.old r.has)
      by (inr (inl r)) = let z : IsIn op [] = subst (λ (v : Block). IsIn op v.ops) r.is h.stands in absurd z
      by (inr (inr r)) = in_row_op (m + r.j) h.block h.stands (from_row (m + r.j) h.block r.has)

  -- and what an exit is
  data ExitFrom (exit : Exit) : Type 0 where
    old_exit : (e : Exit) → HasExit c.parts.caller e → SameValues e exit → ExitFrom exit
    split_exit : (p d f y z : ℕ) → HasExit c.parts.callee (Split p d f) → exit ≡ Split (to p) y z → ExitFrom exit
    goto_exit : (d : ℕ) → exit ≡ Goto d → ExitFrom exit
    trap_exit : (k : Trap) → exit ≡ Ends k → ExitFrom exit

  copied_exit : (i : ℕ) (w : Block) → IsIn w B → ExitFrom (relinked_exit m es i (copy_of w).exit)
  copied_exit i w k = by w.exit refl
    where
      by : (exit : Exit) → w.exit ≡ exit → ExitFrom (relinked_exit m es i (copied_as copy0 to c.parts.result (at0 c.parts.next) (map (with_values to) w.ops) exit).exit)
      by (Goto d) e = goto_exit (behind m (length es) (copy0 d)) refl
      by (Split p d f) e = split_exit p d f (edge_block i (copy0 d) m es (behind m (length es) (copy0 d))) (edge_block i (copy0 f) m es (behind m (length es) (copy0 f))) (record { block = w; has = k; ends = sym e }) refl
      by (Call f xs v d) e = absurd (permitted.calls_none f d xs v (record { block = w; has = k; ends = sym e }))
      by (Return x) e = goto_exit (behind m (length es) (at0 c.parts.next)) refl
      by (Ends t) e = trap_exit t refl

  row_exit : (i : ℕ) (block : Block) → From flow site c free permitted sound block → ExitFrom (relinked_exit m es i block.exit)
  row_exit i block (of_caller b w h q) =
      subst (λ (v : Block). ExitFrom (relinked_exit m es i v.exit)) (sym q) (old_exit w.exit (record { block = w; has = get_in A b w h; ends = refl }) (moved_same m es i at0 w.exit))
  row_exit i block (of_call q) = subst (λ (v : Block). ExitFrom (relinked_exit m es i v.exit)) (sym q) (goto_exit (copy 0) refl)
  row_exit i block (of_callee b w h q) = subst (λ (v : Block). ExitFrom (relinked_exit m es i v.exit)) (sym q) (copied_exit i w (get_in B b w h))

  exit_at : (x : ℕ) (block : Block) → slice_get F x ≡ Some block → ExitFrom block.exit
  exit_at x block e = by (from_where m S rowed x block e)
    where
      in_row_exit : (old : Block) → FromPlain flow site c free permitted sound old ⊎ FromTrap flow site c free permitted sound x old → ExitFrom (relinked_exit m es x old.exit)
      in_row_exit old (inl f) = row_exit x old f.from
      in_row_exit old (inr t) = subst (λ (v : Block). ExitFrom (relinked_exit m es x v.exit)) (sym t.is) (trap_exit t.kind refl)

      by : Kept m S rowed x block ⊎ (AnEdge m S rowed x block ⊎ ATrap m S rowed x block) → ExitFrom block.exit
      by (inl r) = subst (λ (v : Block). ExitFrom v.exit) (sym r.is) (in_row_exit r.old (from_row x r.old r.has))
      by (inr (inl r)) = goto_exit (behind m (length es) r.e.to) (ap (λ (v : Block). v.exit) r.is)
      by (inr (inr r)) = let t = tail_kind r.j block r.has in trap_exit t.0 (ap (λ (v : Block). v.exit) t.2)

  exit_from : (exit : Exit) → HasExit G exit → ExitFrom exit
  exit_from exit h = let i = in_there F h.block h.has in subst ExitFrom (sym h.ends) (exit_at i.0 h.block i.1)

  -- ---- the graph is sound

  call_there : HasExit c.parts.caller (Call c.parts.called c.parts.arguments c.parts.result c.parts.next)
  call_there = record { block = c.parts.block; has = get_in A site.block c.parts.block c.is_block; ends = sym c.ends }

  free_value : (v : ℕ) → IsIn v (names c.parts.callee) → IsFree c.parts (to v)
  free_value v k = is_free flow site c free permitted callee_sound v k

  to_has : (v : ℕ) (bank : Bank) → IsIn v (names c.parts.callee) → Has c.parts.callee v bank → Has c.parts.caller (to v) bank
  to_has v bank k h = (taken_free flow site c free permitted callee_sound v bank k h).0

  global_array : (a : ℕ) → a < length flow.globals → is_local c.parts.caller.arrays a ≡ true → ⊥
  global_array a l k =
      let g = there flow.globals a l in
      let h = sound.globals c.parts.caller a g.0 (get_in flow.functions site.function c.parts.caller c.is_caller) g.1 in
      false≢true (ap (λ t. not t && not (has_base h.array)) (sym h.global) ∙ ap is_own (sym h.is) ∙ k)

  -- a global of the flow has no base in the caller, and no array of the callee has one
  no_base_at : (a : ℕ) → a < length flow.globals → base_at c.parts.caller.arrays a ≡ None
  no_base_at a l =
      let g = there flow.globals a l in
      let h = sound.globals c.parts.caller a g.0 (get_in flow.functions site.function c.parts.caller c.is_caller) g.1 in
      ap base_of h.is ∙ h.base

  bare_array : (a u : ℕ) → a < length flow.globals → base_at c.parts.caller.arrays a ≡ Some u → ⊥
  bare_array a u l e = let q : None ≡ Some u = sym (no_base_at a l) ∙ e in cc

  none_given : (a u : ℕ) → base_at c.parts.callee.arrays a ≡ Some u → ⊥
  none_given a u e =
      let r = array_of_base c.parts.callee.arrays a u e in
      let h = callee_sound.handed a u r.0 r.1 r.2 in
      false≢true (sym h.0 ∙ permitted.globals_alone a r.0 r.1)

  callee_array : (o : Op) (a : ℕ) → HasOperation c.parts.callee o → IsIn a (arrays_of o) → a < length flow.globals
  callee_array o a h k =
      let l : a < length c.parts.callee.arrays = callee_sound.arrays o a h k in
      let f : length c.parts.callee.arrays ≤ length flow.globals = few_arrays in
      omega (arith, l, f)

  array_there : (a : ℕ) → a < length flow.globals → a < length c.parts.caller.arrays
  array_there a l =
      let g = there flow.globals a l in
      let h = sound.globals c.parts.caller a g.0 (get_in flow.functions site.function c.parts.caller c.is_caller) g.1 in
      slice_get_within c.parts.caller.arrays a h.array h.is

  renamed_operand : (x : Operand) → IsOperandOf c.parts.callee x → ((v : ℕ) → x ≡ Held v → IsIn v (names c.parts.callee)) → IsOperandOf G (with_value_in to x)
  renamed_operand (Held v) h k = to_has v General (k v refl) h
  renamed_operand (Number n) h k = tt
  renamed_operand Stack h k = h

  op_operand_named : (o : Op) (x : Operand) → HasOperation c.parts.callee o → IsIn x (operands_of o) → (v : ℕ) → x ≡ Held v → IsIn v (names c.parts.callee)
  op_operand_named o x h k v e = reads_named c.parts.callee o v h (operand_read o v (subst (λ y. IsIn y (operands_of o)) e k))

  returned_named : (x : Operand) → HasExit c.parts.callee (Return x) → (v : ℕ) → IsIn v (value_in x) → IsIn v (names c.parts.callee)
  returned_named x h v k = exit_reads_named c.parts.callee (Return x) v h k

  returned_operand : (x : Operand) → HasExit c.parts.callee (Return x) → IsOperandOf G (with_value_in to x)
  returned_operand x h = renamed_operand x (callee_sound.exit_operands (Return x) x h (inl refl)) (λ v e. returned_named x h v (subst (λ y. IsIn v (value_in y)) (sym e) (inl refl)))

  argument_operand : (x : Operand) → IsIn x c.parts.arguments → IsOperandOf G x
  argument_operand x k = caller_sound.exit_operands (Call c.parts.called c.parts.arguments c.parts.result c.parts.next) x call_there k

  operands_there : (op : Op) (x : Operand) → OpFrom op → IsIn x (operands_of op) → IsOperandOf G x
  operands_there op x (old_op h) k = caller_sound.operands op x h k
  operands_there op x (moved_op q y i j e) k = elim (subst (λ o. IsIn x (operands_of o)) e k) [ inl d ↦ subst (IsOperandOf G) (sym d) (argument_operand y j) | inr z ↦ absurd z ]
  operands_there op x (callee_op o h e) k =
      let r = operands_renamed to o x (subst (λ o. IsIn x (operands_of o)) e k) in
      subst (IsOperandOf G) (sym r.2) (renamed_operand r.0 (callee_sound.operands o r.0 h r.1) (op_operand_named o r.0 h r.1))
  operands_there op x (back_op v y p h e) k = elim (subst (λ o. IsIn x (operands_of o)) e k) [ inl d ↦ subst (IsOperandOf G) (sym d) (returned_operand y h) | inr z ↦ absurd z ]

  parameter_there : (q : ℕ) → IsIn q c.parts.callee.parameters → Has c.parts.caller (to q) General
  parameter_there q k = to_has q General (in_left q c.parts.callee.parameters (flat_map named_by c.parts.callee.blocks) k) (callee_sound.parameters q k)

  result_there : (v : ℕ) → c.parts.result ≡ Some v → Has c.parts.caller v General
  result_there v e = caller_sound.exit_results (Call c.parts.called c.parts.arguments c.parts.result c.parts.next) v call_there (subst (λ r. IsIn v (results_of_exit (Call c.parts.called c.parts.arguments r c.parts.next))) (sym e) (inl refl))

  results_there : (op : Op) (v : ℕ) → OpFrom op → IsIn v (writes op) → Has G v (bank_written op)
  results_there op v (old_op h) k = caller_sound.results op v h k
  results_there op v (moved_op q y i j e) k =
      elim (subst (λ o. IsIn v (writes o)) e k) [ inl d ↦ subst (λ o. Has G v (bank_written o)) (sym e) (subst (λ u. Has G u General) (sym d) (parameter_there q i)) | inr z ↦ absurd z ]
  results_there op v (callee_op o h e) k =
      let r = writes_renamed to o v (subst (λ o. IsIn v (writes o)) e k) in
      let there1 : Has c.parts.caller (to r.0) (bank_written o) = to_has r.0 (bank_written o) (writes_named c.parts.callee o r.0 h r.1) (callee_sound.results o r.0 h r.1) in
      subst (λ o. Has G v (bank_written o)) (sym e) (subst (λ b. Has G v b) (sym (bank_renamed to o)) (subst (λ u. Has G u (bank_written o)) (sym r.2) there1))
  results_there op v (back_op w y p h e) k =
      elim (subst (λ o. IsIn v (writes o)) e k) [ inl d ↦ subst (λ o. Has G v (bank_written o)) (sym e) (subst (λ u. Has G u General) (sym d) (result_there w p)) | inr z ↦ absurd z ]

  tests_there : (op : Op) (v : ℕ) → OpFrom op → IsIn v (tests_of op) → Has G v Branch
  tests_there op v (old_op h) k = caller_sound.tests op v h k
  tests_there op v (moved_op q y i j e) k = let z : IsIn v [] = subst (λ o. IsIn v (tests_of o)) e k in absurd z
  tests_there op v (callee_op o h e) k =
      let r = tests_renamed to o v (subst (λ o. IsIn v (tests_of o)) e k) in
      subst (λ u. Has G u Branch) (sym r.2) (to_has r.0 Branch (reads_named c.parts.callee o r.0 h (test_read o r.0 r.1)) (callee_sound.tests o r.0 h r.1))
  tests_there op v (back_op w y p h e) k = let z : IsIn v [] = subst (λ o. IsIn v (tests_of o)) e k in absurd z

  arrays_there : (op : Op) (a : ℕ) → OpFrom op → IsIn a (arrays_of op) → a < length c.parts.caller.arrays
  arrays_there op a (old_op h) k = caller_sound.arrays op a h k
  arrays_there op a (moved_op q y i j e) k = let z : IsIn a [] = subst (λ o. IsIn a (arrays_of o)) e k in absurd z
  arrays_there op a (callee_op o h e) k = array_there a (callee_array o a h (subst (IsIn a) (arrays_renamed to o) (subst (λ o. IsIn a (arrays_of o)) e k)))
  arrays_there op a (back_op w y p h e) k = let z : IsIn a [] = subst (λ o. IsIn a (arrays_of o)) e k in absurd z

  -- places of local arrays, and of those that were handed over, are those of the caller, and are not taken

  none_handed : (o : Op) (v a u : ℕ) (i : Operand) → HasOperation c.parts.callee o → PlaceIn v a u i ≡ with_values to o → ⊥
  none_handed o v a u i h e =
      let r = handed_renamed to o v a u i e in
      none_given r.1 r.2 (callee_sound.place_base r.0 r.1 r.2 r.3 (subst (HasOperation c.parts.callee) r.4 h))

  placed_in : (v a u : ℕ) (i : Operand) → OpFrom (PlaceIn v a u i) → HasOperation c.parts.caller (PlaceIn v a u i)
  placed_in v a u i (old_op h) = h
  placed_in v a u i (moved_op q y x j e) = absurd (cc)
  placed_in v a u i (callee_op o h e) = absurd (none_handed o v a u i h e)
  placed_in v a u i (back_op w y r h e) = absurd (cc)

  old_place : (v a : ℕ) → IsPlace G v a → IsPlace c.parts.caller v a
  old_place v a (in_own i h l) = by (op_from (Place v a i) h)
    where
      by : OpFrom (Place v a i) → IsPlace c.parts.caller v a
      by (old_op h) = in_own i h l
      by (moved_op q y x j e) = absurd (cc)
      by (callee_op o h e) = absurd (global_array a (callee_array o a h (place_renamed to o v a i e)) l)
      by (back_op w y r h e) = absurd (cc)
  old_place v a (in_handed u i h) = in_handed u i (placed_in v a u i (op_from (PlaceIn v a u i) h))

  untaken : (u v a : ℕ) → IsIn u (names c.parts.callee) → v ≡ to u → IsPlace c.parts.caller v a → ⊥
  untaken u v a k e (in_own i h l) = (free_value u k).place a i (subst (λ w. HasOperation c.parts.caller (Place w a i)) e h) l
  untaken u v a k e (in_handed b i h) = (free_value u k).place_by a b i (subst (λ w. HasOperation c.parts.caller (PlaceIn w a b i)) e h)

  not_argument : (x : Operand) (v a : ℕ) → IsIn x c.parts.arguments → IsIn v (value_in x) → IsPlace c.parts.caller v a → ⊥
  not_argument (Held u) v a k (inl e) p = caller_sound.place_exit v a (Call c.parts.called c.parts.arguments c.parts.result c.parts.next) p call_there (inl (subst (λ w. IsIn (Held w) c.parts.arguments) (sym e) k))
  not_argument (Held u) v a k (inr z) p = z
  not_argument (Number n) v a k z p = z
  not_argument Stack v a k z p = z

  written_place : (v a : ℕ) (op : Op) → IsPlace c.parts.caller v a → OpFrom op → IsIn v (writes op) → MakesPlace v a op
  written_place v a op p (old_op h) k = caller_sound.place_written v a op p h k
  written_place v a op p (moved_op q y i j e) k =
      elim (subst (λ o. IsIn v (writes o)) e k) [ inl d ↦ absurd (untaken q v a (in_left q c.parts.callee.parameters (flat_map named_by c.parts.callee.blocks) i) d p) | inr z ↦ absurd z ]
  written_place v a op p (callee_op o h e) k = let r = writes_renamed to o v (subst (λ o. IsIn v (writes o)) e k) in absurd (untaken r.0 v a (writes_named c.parts.callee o r.0 h r.1) r.2 p)
  written_place v a op p (back_op w y r h e) k =
      elim (subst (λ o. IsIn v (writes o)) e k) [
        | inl d ↦ absurd (caller_sound.place_exit v a (Call c.parts.called c.parts.arguments c.parts.result c.parts.next) p call_there (inr (subst (λ z. IsIn v (results_of_exit (Call c.parts.called c.parts.arguments z c.parts.next))) (sym r) (inl d))))
        | inr z ↦ absurd z
      ]

  read_place : (v a : ℕ) (op : Op) → IsPlace c.parts.caller v a → OpFrom op → IsIn v (reads op) → ReadAsPlace v a op
  read_place v a op p (old_op h) k = caller_sound.place_read v a op p h k
  read_place v a op p (moved_op q y i j e) k = absurd (not_argument y v a j (subst (λ o. IsIn v (reads o)) e k) p)
  read_place v a op p (callee_op o h e) k = let r = reads_renamed to o v (subst (λ o. IsIn v (reads o)) e k) in absurd (untaken r.0 v a (reads_named c.parts.callee o r.0 h r.1) r.2 p)
  read_place v a op p (back_op w y q h e) k =
      let r = value_renamed to y v (subst (λ o. IsIn v (reads o)) e k) in absurd (untaken r.0 v a (returned_named y h r.0 r.1) r.2 p)

  exit_place : (v a : ℕ) (exit : Exit) → IsPlace c.parts.caller v a → ExitFrom exit → IsIn (Held v) (operands_of_exit exit) ⊎ IsIn v (results_of_exit exit) → ⊥
  exit_place v a exit p (old_exit e h s) (inl k) = caller_sound.place_exit v a e p h (inl (subst (IsIn (Held v)) s.operands k))
  exit_place v a exit p (old_exit e h s) (inr k) = caller_sound.place_exit v a e p h (inr (subst (IsIn v) s.results k))
  exit_place v a exit p (split_exit t d f y z h e) (inl k) = subst (λ x. IsIn (Held v) (operands_of_exit x)) e k
  exit_place v a exit p (split_exit t d f y z h e) (inr k) = subst (λ x. IsIn v (results_of_exit x)) e k
  exit_place v a exit p (goto_exit d e) (inl k) = subst (λ x. IsIn (Held v) (operands_of_exit x)) e k
  exit_place v a exit p (goto_exit d e) (inr k) = subst (λ x. IsIn v (results_of_exit x)) e k
  exit_place v a exit p (trap_exit t e) (inl k) = subst (λ x. IsIn (Held v) (operands_of_exit x)) e k
  exit_place v a exit p (trap_exit t e) (inr k) = subst (λ x. IsIn v (results_of_exit x)) e k

  -- each operation of the caller is there still
  still_there : (op : Op) → HasOperation c.parts.caller op → HasOperation G op
  still_there op h = by (i.0 == site.block) refl
    where
      i : (j : ℕ) × (slice_get A j ≡ Some h.block)
      i = in_there A h.block h.has

      by : (t : Bool) → (i.0 == site.block) ≡ t → HasOperation G op
      by true e =
          let q : i.0 ≡ site.block = eqb-true i.0 site.block e in
          let same : h.block ≡ c.parts.block = block_is h.block c.parts.block (sym i.1 ∙ ap (slice_get A) q ∙ c.is_block) in
          let k : IsIn op c.parts.block.ops = subst (λ (b : Block). IsIn op b.ops) same h.stands in
          record { block = enters.into; has = get_in F (at site.block) enters.into enters.is; stands = subst (IsIn op) (sym enters.does) (in_left op c.parts.block.ops moves k) }
      by false e =
          let n : i.0 ≡ site.block → ⊥ = λ q. false≢true (sym e ∙ eq-eqb i.0 site.block q) in
          let s : Stays F at h.block (at i.0) = stays i.0 h.block n i.1 in
          record { block = s.into; has = get_in F (at i.0) s.into s.is; stands = subst (IsIn op) (sym s.ops) h.stands }

  still_place : (v a : ℕ) → IsPlace c.parts.caller v a → IsPlace G v a
  still_place v a (in_own i h l) = in_own i (still_there (Place v a i) h) l
  still_place v a (in_handed u i h) = in_handed u i (still_there (PlaceIn v a u i) h)

  still_base : (v : ℕ) → IsBase c.parts.caller v → IsBase G v
  still_base v (given a e) = given a e
  still_base v (made a x h) = made a x (still_there (Base v a x) h)

  placed_there : (a : ℕ) (p : Operand) (op : Op) → OpFrom op → IsAccess a p op → is_local c.parts.caller.arrays a ≡ true → ((n : ℤ) × (p ≡ Number n)) ⊎ ((v : ℕ) × (p ≡ Held v) × IsPlace G v a)
  placed_there a p op (old_op h) k l = by (caller_sound.placed a p op h k l)
    where
      by : ((n : ℤ) × (p ≡ Number n)) ⊎ ((v : ℕ) × (p ≡ Held v) × IsPlace c.parts.caller v a) → ((n : ℤ) × (p ≡ Number n)) ⊎ ((v : ℕ) × (p ≡ Held v) × IsPlace G v a)
      by (inl r) = inl r
      by (inr r) = inr (r.0, r.1, still_place r.0 a r.2)
  placed_there a p op (moved_op q y i j e) k l = let z : IsIn a [] = subst (λ o. IsIn a (arrays_of o)) e (access_array a p op k) in absurd z
  placed_there a p op (callee_op o h e) k l = absurd (global_array a (callee_array o a h (subst (IsIn a) (arrays_renamed to o) (subst (λ o. IsIn a (arrays_of o)) e (access_array a p op k)))) l)
  placed_there a p op (back_op w y r h e) k l = let z : IsIn a [] = subst (λ o. IsIn a (arrays_of o)) e (access_array a p op k) in absurd z

  moves_there : (v : ℕ) (a b : Operand) → OpFrom (Compute Mov v a b) → b ≡ Number (pos 0)
  moves_there v a b (old_op h) = caller_sound.moves v a b h
  moves_there v a b (moved_op q y i j e) = cc
  moves_there v a b (callee_op o h e) =
      let r : MoveFrom to o b = move_renamed to o v a b e in
      let zero_is : r.right ≡ Number (pos 0) = callee_sound.moves r.value r.left r.right (subst (HasOperation c.parts.callee) r.is h) in
      r.same ∙ ap (with_value_in to) zero_is
  moves_there v a b (back_op w y r h e) = cc

  across_none : (v u : ℕ) → OpFrom (Across v u) → ⊥
  across_none v u (old_op h) = caller_sound.no_across v u h
  across_none v u (moved_op q y i j e) = cc
  across_none v u (callee_op o h e) = let r = across_renamed to o v u e in callee_sound.no_across r.0 r.1 (subst (HasOperation c.parts.callee) r.2 h)
  across_none v u (back_op w y r h e) = cc

  placed_by_there : (a u : ℕ) (p : Operand) (op : Op) → OpFrom op → IsAccess a p op → base_at c.parts.caller.arrays a ≡ Some u → (v : ℕ) × (p ≡ Held v) × IsPlace G v a
  placed_by_there a u p op (old_op h) k b = let r = caller_sound.placed_by a u p op h k b in (r.0, r.1, still_place r.0 a r.2)
  placed_by_there a u p op (moved_op q y i j e) k b = let z : IsIn a [] = subst (λ o. IsIn a (arrays_of o)) e (access_array a p op k) in absurd z
  placed_by_there a u p op (callee_op o h e) k b = absurd (bare_array a u (callee_array o a h (subst (IsIn a) (arrays_renamed to o) (subst (λ o. IsIn a (arrays_of o)) e (access_array a p op k)))) b)
  placed_by_there a u p op (back_op w y r h e) k b = let z : IsIn a [] = subst (λ o. IsIn a (arrays_of o)) e (access_array a p op k) in absurd z

  -- bases are those of the caller, and are not taken

  base_from_there : (v a : ℕ) (x : Operand) → OpFrom (Base v a x) → HasOperation c.parts.caller (Base v a x)
  base_from_there v a x (old_op h) = h
  base_from_there v a x (moved_op q y i j e) = absurd (cc)
  base_from_there v a x (callee_op o h e) = let r = base_renamed to o v a x e in absurd (permitted.bases_none r.0 r.1 r.2 (subst (HasOperation c.parts.callee) r.3 h))
  base_from_there v a x (back_op w y r h e) = absurd (cc)

  pub old_base : (v : ℕ) → IsBase (record c.parts.caller { blocks = inlined_blocks c.parts site.block free }) v → IsBase c.parts.caller v
  old_base v (given a e) = given a e
  old_base v (made a x h) = made a x (base_from_there v a x (op_from (Base v a x) h))

  pub new_base : (v : ℕ) → IsBase c.parts.caller v → IsBase (record c.parts.caller { blocks = inlined_blocks c.parts site.block free }) v
  new_base v b = still_base v b

  bare_there : (v a : ℕ) (i : Operand) → OpFrom (Place v a i) → base_at c.parts.caller.arrays a ≡ None
  bare_there v a i (old_op h) = caller_sound.place_bare v a i h
  bare_there v a i (moved_op q y x j e) = absurd (cc)
  bare_there v a i (callee_op o h e) = no_base_at a (callee_array o a h (place_renamed to o v a i e))
  bare_there v a i (back_op w y r h e) = absurd (cc)

  untaken_base : (u v : ℕ) → IsIn u (names c.parts.callee) → v ≡ to u → IsBase c.parts.caller v → ⊥
  untaken_base u v k e b = (free_value u k).base (subst (IsBase c.parts.caller) e b)

  base_written_there : (v : ℕ) (op : Op) → IsBase c.parts.caller v → OpFrom op → IsIn v (writes op) → (a : ℕ) × (x : Operand) × (op ≡ Base v a x)
  base_written_there v op b (old_op h) k = caller_sound.base_written v op b h k
  base_written_there v op b (moved_op q y i j e) k =
      elim (subst (λ o. IsIn v (writes o)) e k) [ inl d ↦ absurd (untaken_base q v (in_left q c.parts.callee.parameters (flat_map named_by c.parts.callee.blocks) i) d b) | inr z ↦ absurd z ]
  base_written_there v op b (callee_op o h e) k = let r = writes_renamed to o v (subst (λ o. IsIn v (writes o)) e k) in absurd (untaken_base r.0 v (writes_named c.parts.callee o r.0 h r.1) r.2 b)
  base_written_there v op b (back_op w y r h e) k =
      elim (subst (λ o. IsIn v (writes o)) e k) [
        | inl d ↦ absurd (caller_sound.base_result v (Call c.parts.called c.parts.arguments c.parts.result c.parts.next) b call_there (subst (λ z. IsIn v (results_of_exit (Call c.parts.called c.parts.arguments z c.parts.next))) (sym r) (inl d)))
        | inr z ↦ absurd z
      ]

  -- no argument of the call is one: the parameter would be the base of an array that was handed to the callee
  no_argument : (k v : ℕ) → slice_get c.parts.arguments k ≡ Some (Held v) → IsBase c.parts.caller v → ⊥
  no_argument k v e b =
      let called = sound.calls c.parts.caller c.parts.called c.parts.next c.parts.arguments c.parts.result (get_in flow.functions site.function c.parts.caller c.is_caller) call_there in
      let same : called.graph ≡ c.parts.callee = (let q : Some called.graph ≡ Some c.parts.callee = sym called.is ∙ c.is_callee in cc) in
      let many : length c.parts.callee.parameters ≡ length c.parts.arguments = ap (λ (g : Graph). length g.parameters) (sym same) ∙ called.parameters in
      let low : k < length c.parts.arguments = slice_get_within c.parts.arguments k (Held v) e in
      let p = there c.parts.callee.parameters k (omega (arith, many, low)) in
      let g = (sound.handed c.parts.caller c.parts.callee c.parts.called c.parts.next k p.0 c.parts.arguments c.parts.result (Held v) (get_in flow.functions site.function c.parts.caller c.is_caller) call_there c.is_callee e p.1).0 (base b) in
      none_given g.array p.0 g.base

  base_unread : (x : Operand) (v : ℕ) → IsIn x c.parts.arguments → IsIn v (value_in x) → IsBase c.parts.caller v → ⊥
  base_unread (Held u) v k (inl e) b =
      let i = in_there c.parts.arguments (Held u) k in
      no_argument i.0 v (subst (λ w. slice_get c.parts.arguments i.0 ≡ Some (Held w)) (sym e) i.1) b
  base_unread (Held u) v k (inr z) b = z
  base_unread (Number n) v k z b = z
  base_unread Stack v k z b = z

  base_read_there : (v : ℕ) (op : Op) → IsBase c.parts.caller v → OpFrom op → IsIn v (reads op) → (w a : ℕ) × (i : Operand) × (op ≡ PlaceIn w a v i) × (i ≡ Held v → ⊥)
  base_read_there v op b (old_op h) k = caller_sound.base_read v op b h k
  base_read_there v op b (moved_op q y i j e) k = absurd (base_unread y v j (subst (λ o. IsIn v (reads o)) e k) b)
  base_read_there v op b (callee_op o h e) k = let r = reads_renamed to o v (subst (λ o. IsIn v (reads o)) e k) in absurd (untaken_base r.0 v (reads_named c.parts.callee o r.0 h r.1) r.2 b)
  base_read_there v op b (back_op w y q h e) k = let r = value_renamed to y v (subst (λ o. IsIn v (reads o)) e k) in absurd (untaken_base r.0 v (returned_named y h r.0 r.1) r.2 b)

  base_result_there : (v : ℕ) (exit : Exit) → IsBase c.parts.caller v → ExitFrom exit → IsIn v (results_of_exit exit) → ⊥
  base_result_there v exit b (old_exit e h s) k = caller_sound.base_result v e b h (subst (IsIn v) s.results k)
  base_result_there v exit b (split_exit t d f y z h e) k = subst (λ x. IsIn v (results_of_exit x)) e k
  base_result_there v exit b (goto_exit d e) k = subst (λ x. IsIn v (results_of_exit x)) e k
  base_result_there v exit b (trap_exit t e) k = subst (λ x. IsIn v (results_of_exit x)) e k

  base_returned_there : (v : ℕ) (x : Operand) → IsBase c.parts.caller v → ExitFrom (Return x) → x ≡ Held v → ⊥
  base_returned_there v x b (old_exit e h s) k = caller_sound.base_returned v x b (subst (HasExit c.parts.caller) (s.returns x refl) h) k
  base_returned_there v x b (split_exit t d f y z h e) k = cc
  base_returned_there v x b (goto_exit d e) k = cc
  base_returned_there v x b (trap_exit t e) k = cc

  exit_operands_there : (exit : Exit) (x : Operand) → ExitFrom exit → IsIn x (operands_of_exit exit) → IsOperandOf G x
  exit_operands_there exit x (old_exit e h s) k = caller_sound.exit_operands e x h (subst (IsIn x) s.operands k)
  exit_operands_there exit x (split_exit t d f y z h e) k = absurd (subst (λ w. IsIn x (operands_of_exit w)) e k)
  exit_operands_there exit x (goto_exit d e) k = absurd (subst (λ w. IsIn x (operands_of_exit w)) e k)
  exit_operands_there exit x (trap_exit t e) k = absurd (subst (λ w. IsIn x (operands_of_exit w)) e k)

  exit_results_there : (exit : Exit) (v : ℕ) → ExitFrom exit → IsIn v (results_of_exit exit) → Has G v General
  exit_results_there exit v (old_exit e h s) k = caller_sound.exit_results e v h (subst (IsIn v) s.results k)
  exit_results_there exit v (split_exit t d f y z h e) k = absurd (subst (λ w. IsIn v (results_of_exit w)) e k)
  exit_results_there exit v (goto_exit d e) k = absurd (subst (λ w. IsIn v (results_of_exit w)) e k)
  exit_results_there exit v (trap_exit t e) k = absurd (subst (λ w. IsIn v (results_of_exit w)) e k)

  exit_tests_there : (exit : Exit) (v : ℕ) → ExitFrom exit → IsIn v (tests_of_exit exit) → Has G v Branch
  exit_tests_there exit v (old_exit e h s) k = caller_sound.exit_tests e v h (subst (IsIn v) s.tests k)
  exit_tests_there exit v (split_exit t d f y z h e) k =
      elim (subst (λ w. IsIn v (tests_of_exit w)) e k) [
        | inl q ↦ subst (λ u. Has G u Branch) (sym q) (to_has t Branch (exit_reads_named c.parts.callee (Split t d f) t h (inl refl)) (callee_sound.exit_tests (Split t d f) t h (inl refl)))
        | inr w ↦ absurd w
      ]
  exit_tests_there exit v (goto_exit d e) k = absurd (subst (λ w. IsIn v (tests_of_exit w)) e k)
  exit_tests_there exit v (trap_exit t e) k = absurd (subst (λ w. IsIn v (tests_of_exit w)) e k)

  targets_there : (exit : Exit) (d : ℕ) → HasExit G exit → IsIn d (targets_of exit) → d < length F
  targets_there exit d h k =
      let i = in_there F h.block h.has in
      edges_within m S rowed targets_row i.0 d (record { block = h.block; has = i.1; leads = subst (λ x. IsIn d (targets_of x)) h.ends k })

  made_from : (v a : ℕ) (x : Operand) → IsMadeFrom c.parts.caller a x → IsMadeFrom G a x
  made_from v a x m = record { array = m.array; is = m.is; bare = m.bare; from = m.from }

  pub graph_sound : Sound (record c.parts.caller { blocks = inlined_blocks c.parts site.block free })
  graph_sound = record {
    parameters = caller_sound.parameters;
    operands = λ op x h k. operands_there op x (op_from op h) k;
    results = λ op v h k. results_there op v (op_from op h) k;
    tests = λ op v h k. tests_there op v (op_from op h) k;
    arrays = λ op a h k. arrays_there op a (op_from op h) k;
    exit_operands = λ exit x h k. exit_operands_there exit x (exit_from exit h) k;
    exit_results = λ exit v h k. exit_results_there exit v (exit_from exit h) k;
    exit_tests = λ exit v h k. exit_tests_there exit v (exit_from exit h) k;
    targets = targets_there;
    no_across = λ v u h. across_none v u (op_from (Across v u) h);
    base_from = λ v a x h. made_from v a x (caller_sound.base_from v a x (base_from_there v a x (op_from (Base v a x) h)));
    place_bare = λ v a i h. bare_there v a i (op_from (Place v a i) h);
    place_base = λ v a u i h. caller_sound.place_base v a u i (placed_in v a u i (op_from (PlaceIn v a u i) h));
    place_written = λ v a op p h k. written_place v a op (old_place v a p) (op_from op h) k;
    place_read = λ v a op p h k. read_place v a op (old_place v a p) (op_from op h) k;
    place_parameter = λ v a p k. caller_sound.place_parameter v a (old_place v a p) k;
    place_exit = λ v a exit p h k. exit_place v a exit (old_place v a p) (exit_from exit h) k;
    placed = λ a p op h k l. placed_there a p op (op_from op h) k l;
    placed_by = λ a u p op h k b. placed_by_there a u p op (op_from op h) k b;
    handed = caller_sound.handed;
    base_written = λ v op b h k. base_written_there v op (old_base v b) (op_from op h) k;
    base_parameter = λ v a x h k. caller_sound.base_parameter v a x (base_from_there v a x (op_from (Base v a x) h)) k;
    base_read = λ v op b h k. base_read_there v op (old_base v b) (op_from op h) k;
    base_result = λ v exit b h k. base_result_there v exit (old_base v b) (exit_from exit h) k;
    base_returned = λ v x b h k. base_returned_there v x (old_base v b) (exit_from (Return x) h) k;
    moves = λ v a b h. moves_there v a b (op_from (Compute Mov v a b) h);
  }

  -- ---- what the flow asks of it

  pub graph_some : 0 < length (inlined_blocks c.parts site.block free)
  graph_some = let l : at site.block < length F = slice_get_within F (at site.block) enters.into enters.is in omega (arith, l)

  call_from : (f next : ℕ) (arguments : List Operand) (result : Option ℕ) → ExitFrom (Call f arguments result next) → Callable flow f (length arguments)
  call_from f next arguments result (old_exit e h s) =
      let r = s.calls f next arguments result refl in
      sound.calls c.parts.caller f r.0 arguments result (get_in flow.functions site.function c.parts.caller c.is_caller) (subst (HasExit c.parts.caller) r.1 h)
  call_from f next arguments result (split_exit t d g y z h e) = absurd (cc)
  call_from f next arguments result (goto_exit d e) = absurd (cc)
  call_from f next arguments result (trap_exit t e) = absurd (cc)

  pub graph_calls : (f next : ℕ) (arguments : List Operand) (result : Option ℕ) → HasExit (record c.parts.caller { blocks = inlined_blocks c.parts site.block free }) (Call f arguments result next) → Callable flow f (length arguments)
  graph_calls f next arguments result h = call_from f next arguments result (exit_from (Call f arguments result next) h)

  -- a call of the graph is one of the caller
  pub graph_call : (f next : ℕ) (arguments : List Operand) (result : Option ℕ) → HasExit (record c.parts.caller { blocks = inlined_blocks c.parts site.block free }) (Call f arguments result next) → (n : ℕ) × HasExit c.parts.caller (Call f arguments result n)
  graph_call f next arguments result h = by (exit_from (Call f arguments result next) h)
    where
      by : ExitFrom (Call f arguments result next) → (n : ℕ) × HasExit c.parts.caller (Call f arguments result n)
      by (old_exit e k s) = let r = s.calls f next arguments result refl in (r.0, subst (HasExit c.parts.caller) r.1 k)
      by (split_exit t d g y z k e) = absurd (cc)
      by (goto_exit d e) = absurd (cc)
      by (trap_exit t e) = absurd (cc)

  text_from : (n : ℕ) → OpFrom (Text n) → n < length flow.texts
  text_from n (old_op h) = sound.texts c.parts.caller n (get_in flow.functions site.function c.parts.caller c.is_caller) h
  text_from n (moved_op q y i j e) = absurd (cc)
  text_from n (callee_op o h e) = sound.texts c.parts.callee n (get_in flow.functions c.parts.called c.parts.callee c.is_callee) (subst (HasOperation c.parts.callee) (text_renamed to o n e) h)
  text_from n (back_op w y r h e) = absurd (cc)

  pub graph_texts : (n : ℕ) → HasOperation (record c.parts.caller { blocks = inlined_blocks c.parts site.block free }) (Text n) → n < length flow.texts
  graph_texts n h = text_from n (op_from (Text n) h)

-- Where a table shows a graph sound, something is noted of an argument exactly where it is a base. So the calls hand over what is taken
-- where the table says so.
use Rattle.std.proofs.Common.{◌≡◌, inl, inr, ℕ, zero, suc, Bool, true, false, ◌&&◌, List, [], ◌∷◌, map, Option, Some, None, length, slice_get, refl, sym, ap, subst, ◌∙◌}
use Rattle.std.proofs.lemmas.Bool.{and_parts, false≢true}
use Rattle.std.specs.List.{list_all, list_any}
use Rattle.std.specs.Prelude.{not, ◌==◌}
use Rattle.vx_flow.specs.declared.graph.Operand.{Operand}
use Rattle.vx_flow.specs.declared.graph.Operand.TheVariants.{Held, Number, Stack}
use Rattle.vx_flow.specs.declared.graph.Op.{Op}
use Rattle.vx_flow.specs.declared.graph.Op.TheVariants.{Base}
use Rattle.vx_flow.specs.declared.graph.Exit.{Exit}
use Rattle.vx_flow.specs.declared.graph.Exit.TheVariants.{Goto, Split, Call, Return, Ends}
use Rattle.vx_flow.specs.declared.graph.Block.{Block}
use Rattle.vx_flow.specs.declared.graph.Graph.{Graph}
use Rattle.vx_flow.specs.declared.graph.Flow.{Flow}
use Rattle.vx_flow.specs.Sound.{base_at, makes_base, is_given_base, is_base, is_base_operand, agrees, hands_over, takes, is_text_there, is_call_there, is_block_there, are_distinct, begins_with, is_sound_function, IsBase, given, made}
use Rattle.vx_flow.proofs.SoundLists.{or_parts, or_left, or_right, all_in, all_at}
use Rattle.vx_flow.proofs.SoundBases.{that_is, array_of_base}
use Rattle.vx_flow.proofs.SoundFlowLaw.{given_base_of, tested_base}
use Rattle.vx_sound.specs.declared.origins.Origin.{Origin}
use Rattle.vx_sound.specs.declared.origins.Origin.TheVariants.{Element, Made, Given}
use Rattle.vx_sound.specs.Origins.{noted, is_free, is_free_operand, is_argument, leaves_origins, is_base_of, is_made_at, is_base_found, is_shown_base, is_shown_array, is_shown_block, is_shown, bases_taken, hands_shown, takes_shown, is_call_shown, is_block_named}
use Rattle.vx_sound.proofs.Shown.{any_at, IsBaseNoted, as_base, Shows, shows, op_in, exit_in, shown_sound}

-- ---- bases are noted

base_noted : (ts : List (Option Origin)) (g : Graph) (v : ℕ) → Shows ts g → IsBase g v → IsBaseNoted ts v
base_noted ts g v s (given a e) =
    let (array, f, b) = array_of_base g.arrays a v e in
    let shown : is_shown_base ts g array (Some v) ≡ true = subst (λ o. is_shown_base ts g array o ≡ true) b (all_at (is_shown_array ts g) g.arrays a array s.arrays f) in
    inr (and_parts _ _ (and_parts _ _ shown).0).1
base_noted ts g v s (made a x at) = inl (op_in ts g at.block (Base v a x) (all_in (is_shown_block ts g) g.blocks at.block s.blocks at.has) at.stands).keeps

-- what is found to be a base is one

made_of : (g : Graph) (v i : ℕ) (block : Block) (o : Option Op) → slice_get block.ops i ≡ o → is_base_of v o ≡ true → list_any (makes_base v) block.ops ≡ true
made_of g v i block None e h = absurd (false≢true h)
made_of g v i block (Some op) e h = any_at (makes_base v) block.ops i op e h

made_at : (g : Graph) (v i b : ℕ) (o : Option Block) → slice_get g.blocks b ≡ o → is_made_at v i o ≡ true → list_any (λ block. list_any (makes_base v) block.ops) g.blocks ≡ true
made_at g v i b None e h = absurd (false≢true h)
made_at g v i b (Some block) e h = any_at (λ (c : Block). list_any (makes_base v) c.ops) g.blocks b block e (made_of g v i block (slice_get block.ops i) refl h)

found_base : (g : Graph) (v : ℕ) (o : Option Origin) → is_base_found g v o ≡ true → is_base g v ≡ true
found_base g v None h = absurd (false≢true h)
found_base g v (Some (Element a block op)) h = absurd (false≢true h)
found_base g v (Some (Made block op)) h = or_right (is_given_base g v) (list_any (λ b. list_any (makes_base v) b.ops) g.blocks) (made_at g v op block (slice_get g.blocks block) refl h)
found_base g v (Some (Given a place)) h =
    or_left (is_given_base g v) (list_any (λ b. list_any (makes_base v) b.ops) g.blocks) (given_base_of g v (record { array = a; base = that_is v (base_at g.arrays a) (and_parts _ _ h).0 }))

-- ---- arguments

value_shown : (ts : List (Option Origin)) (g : Graph) (v : ℕ) → Shows ts g → is_argument ts g (Held v) ≡ true → not (is_free ts v) ≡ is_base g v
value_shown ts g v s h = by (is_free ts v) (is_base g v) refl refl
  where
    by : (f b : Bool) → is_free ts v ≡ f → is_base g v ≡ b → not f ≡ b
    by true true e d = absurd (as_base ts v (base_noted ts g v s (tested_base g v d)) e)
    by true false e d = refl
    by false true e d = refl
    by false false e d = elim (or_parts (is_free ts v) (is_base_found g v (noted ts v)) h) [ inl k ↦ absurd (false≢true (sym e ∙ k)) | inr k ↦ absurd (false≢true (sym d ∙ found_base g v (noted ts v) k)) ]

argument_shown : (ts : List (Option Origin)) (g : Graph) (x : Operand) → Shows ts g → is_argument ts g x ≡ true → not (is_free_operand ts x) ≡ is_base_operand g x
argument_shown ts g (Held v) s h = value_shown ts g v s h
argument_shown ts g (Number n) s h = refl
argument_shown ts g Stack s h = refl

hands : (ts : List (Option Origin)) (g h : Graph) (xs : List Operand) (ps : List ℕ) → Shows ts g → list_all (is_argument ts g) xs ≡ true → hands_shown ts xs (map (is_given_base h) ps) ≡ hands_over g h xs ps
hands ts g h [] [] s k = refl
hands ts g h [] (p ∷ ps) s k = refl
hands ts g h (x ∷ xs) [] s k = refl
hands ts g h (x ∷ xs) (p ∷ ps) s k =
    let (here, later) = and_parts _ _ k in
    ap (λ b. agrees b (is_given_base h p) && hands_shown ts xs (map (is_given_base h) ps)) (argument_shown ts g x s here)
    ∙ ap (λ b. agrees (is_base_operand g x) (is_given_base h p) && b) (hands ts g h xs ps s later)

taken_at : (ts : List (Option Origin)) (g : Graph) (xs : List Operand) (fs : List Graph) (f : ℕ) → Shows ts g → list_all (is_argument ts g) xs ≡ true → takes_shown ts xs (slice_get (map bases_taken fs) f) ≡ takes g xs (slice_get fs f)
taken_at ts g xs [] zero s k = refl
taken_at ts g xs [] (suc f) s k = refl
taken_at ts g xs (h ∷ fs) zero s k = hands ts g h xs h.parameters s k
taken_at ts g xs (h ∷ fs) (suc f) s k = taken_at ts g xs fs f s k

exit_shown : (ts : List (Option Origin)) (flow : Flow) (g : Graph) (exit : Exit) → Shows ts g → leaves_origins ts g exit ≡ true → is_call_shown ts (map bases_taken flow.functions) exit ≡ is_call_there flow g exit
exit_shown ts flow g (Call f arguments result next) s k = taken_at ts g arguments flow.functions f s (and_parts _ _ k).0
exit_shown ts flow g (Goto c) s k = refl
exit_shown ts flow g (Split p c d) s k = refl
exit_shown ts flow g (Return x) s k = refl
exit_shown ts flow g (Ends t) s k = refl

-- ---- a graph

block_shown : (ts : List (Option Origin)) (flow : Flow) (g : Graph) (block : Block) → Shows ts g → is_shown_block ts g block ≡ true → is_block_named ts (map bases_taken flow.functions) flow block ≡ is_block_there flow g block
block_shown ts flow g block s k = ap (λ b. list_all (is_text_there flow) block.ops && b) (exit_shown ts flow g block.exit s (exit_in ts g block k))

blocks_shown : (ts : List (Option Origin)) (flow : Flow) (g : Graph) (blocks : List Block) → Shows ts g → list_all (is_shown_block ts g) blocks ≡ true → list_all (is_block_named ts (map bases_taken flow.functions) flow) blocks ≡ list_all (is_block_there flow g) blocks
blocks_shown ts flow g [] s k = refl
blocks_shown ts flow g (block ∷ blocks) s k =
    let (here, later) = and_parts _ _ k in
    ap (λ b. b && list_all (is_block_named ts (map bases_taken flow.functions) flow) blocks) (block_shown ts flow g block s here)
    ∙ ap (λ b. is_block_there flow g block && b) (blocks_shown ts flow g blocks s later)

pub shown_function : (ts : List (Option Origin)) (taken : List (List Bool)) (flow : Flow) (g : Graph) → is_shown ts g ≡ true → taken ≡ map bases_taken flow.functions →
    (not (length g.blocks == 0) && are_distinct g.parameters && begins_with flow.globals g.arrays && list_all (is_block_named ts taken flow) g.blocks) ≡ is_sound_function flow g
shown_function ts taken flow g h e =
    let s = shows ts g h in
    ap (λ t. not (length g.blocks == 0) && are_distinct g.parameters && begins_with flow.globals g.arrays && list_all (is_block_named ts t flow) g.blocks) e
    ∙ ap (λ b. not (length g.blocks == 0) && are_distinct g.parameters && begins_with flow.globals g.arrays && b) (blocks_shown ts flow g g.blocks s s.blocks)
    ∙ ap (λ b. b && not (length g.blocks == 0) && are_distinct g.parameters && begins_with flow.globals g.arrays && list_all (is_block_there flow g) g.blocks) (sym (shown_sound ts g h))

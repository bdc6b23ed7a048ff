-- The test of a graph and the words for it.
use Rattle.std.proofs.Common.{◌≡◌, ◌⊎◌, ◌↔◌, inl, inr, ℕ, ℤ, pos, Bool, true, false, ◌==◌, ◌||◌, List, length, slice_get, Option, Some, None, refl, sym, ap, subst, ◌∙◌, eq-eqb}
use Rattle.std.proofs.lemmas.Bool.{and_parts, false≢true, eqb-true}
use Rattle.std.specs.Cmp.Derive.{both_true}
use Rattle.std.specs.List.{list_all, list_any}
use Rattle.std.specs.Prelude.{not}
use Rattle.vx_base.specs.declared.arithmetic.Code.TheVariants.{Mov}
use Rattle.vx_flow.specs.declared.graph.Operand.{Operand}
use Rattle.vx_flow.specs.declared.graph.Operand.TheVariants.{Held, Number, Stack}
use Rattle.vx_flow.specs.declared.graph.Bank.TheVariants.{General, Branch}
use Rattle.vx_flow.specs.declared.graph.Op.{Op}
use Rattle.vx_flow.specs.declared.graph.Op.TheVariants.{Compute, Place, Load, Store, Across, Base, PlaceIn}
use Rattle.vx_flow.specs.declared.graph.Exit.{Exit}
use Rattle.vx_flow.specs.declared.graph.Exit.TheVariants.{Goto, Split, Call, Return, Ends}
use Rattle.vx_flow.specs.declared.graph.Block.{Block}
use Rattle.vx_flow.specs.declared.graph.Array.{Array}
use Rattle.vx_flow.specs.declared.graph.Graph.{Graph}
use Rattle.vx_flow.specs.Effects.{IsIn}
use Rattle.vx_flow.specs.Sound.{is_general, is_given, is_local, base_at, is_handed, is_sound_operation, is_sound_exit, is_based, is_value, keeps_place, is_result, leaves_alone, block_keeps, is_only_place, is_kept, is_place_in, has_place_in, is_placed, is_placed_by, is_placed_in, is_access_placed, keeps_base, leaves_base, block_keeps_base, is_parameter, is_handed_well, is_array_kept, is_sound_in, is_sound_block, is_sound, HasOperation, HasExit, operands_of_exit, tests_of_exit, results_of_exit, Has, IsAccess, loads, stores, MakesPlace, by_itself, by_base, IsPlace, in_own, in_handed, IsBase, given, made, Sound}
use Rattle.vx_flow.proofs.SoundLists.{in_one, not_both, not_of, differs, differs_of, all_in, all_of, all_at, all_of_at, any_in, any_of}
use Rattle.vx_flow.proofs.SoundNames.{general_is, general_of, zero_is, Named, Led, operands_are, results_are, tests_are, arrays_are, operation_of, exit_is, exit_of}
use Rattle.vx_flow.proofs.SoundPlaces.{unheld, unheld_of, keeps_reads, keeps_writes, keeps_of}
use Rattle.vx_flow.proofs.SoundBases.{base_reads, base_writes, keeps_base_of, base_results, leaves_base_of, none_given, that_is, given_of, parameter_is, parameter_of, made_from_is, Based, based_of, array_of_base, base_of_array}

-- exits

result_kept : (v : ℕ) (result : Option ℕ) → not (is_result v result) ≡ true → (g next : ℕ) (arguments : List Operand) → IsIn v (results_of_exit (Call g arguments result next)) → ⊥
result_kept v None h g next arguments m = m
result_kept v (Some u) h g next arguments m = differs u v h (sym (in_one v u m))

exit_leaves : (v : ℕ) (exit : Exit) → leaves_alone v exit ≡ true → IsIn (Held v) (operands_of_exit exit) ⊎ IsIn v (results_of_exit exit) → ⊥
exit_leaves v (Goto c) h m = elim m [ inl a ↦ a | inr b ↦ b ]
exit_leaves v (Split p c d) h m = elim m [ inl a ↦ a | inr b ↦ b ]
exit_leaves v (Call g arguments result next) h (inl m) = unheld v (Held v) (all_in (λ x. not (is_value v x)) arguments (Held v) (and_parts _ _ h).0 m) refl
exit_leaves v (Call g arguments result next) h (inr m) = result_kept v result (and_parts _ _ h).1 g next arguments m
exit_leaves v (Return x) h (inl m) = unheld v x h (sym (in_one (Held v) x m))
exit_leaves v (Return x) h (inr m) = m
exit_leaves v (Ends k) h m = elim m [ inl a ↦ a | inr b ↦ b ]

result_kept_of : (v : ℕ) (result : Option ℕ) (g next : ℕ) (arguments : List Operand) → (IsIn v (results_of_exit (Call g arguments result next)) → ⊥) → not (is_result v result) ≡ true
result_kept_of v None g next arguments f = refl
result_kept_of v (Some u) g next arguments f = differs_of u v (λ e. f (inl (sym e)))

unheld_in : (v : ℕ) (xs : List Operand) → (IsIn (Held v) xs → ⊥) → list_all (λ x. not (is_value v x)) xs ≡ true
unheld_in v xs f = all_of (λ x. not (is_value v x)) xs (λ x m. unheld_of v x (λ e. f (subst (λ y. IsIn y xs) e m)))

leaves_of : (v : ℕ) (exit : Exit) → (IsIn v (tests_of_exit exit) → ⊥) → (IsIn (Held v) (operands_of_exit exit) ⊎ IsIn v (results_of_exit exit) → ⊥) → leaves_alone v exit ≡ true
leaves_of v (Goto c) t f = refl
leaves_of v (Split p c d) t f = differs_of p v (λ e. t (inl (sym e)))
leaves_of v (Call g arguments result next) t f = both_true (unheld_in v arguments (λ m. f (inl m))) (result_kept_of v result g next arguments (λ m. f (inr m)))
leaves_of v (Return x) t f = unheld_of v x (λ e. f (inl (inl (sym e))))
leaves_of v (Ends k) t f = refl

-- places and accesses

place_in : (v a : ℕ) (op : Op) → is_place_in v a op ≡ true → MakesPlace v a op
place_in v a (Place u b i) h =
    let (k, l) = and_parts (u == v) (b == a) h in
    subst (λ w. MakesPlace v a (Place w b i)) (sym (eqb-true u v k)) (subst (λ c. MakesPlace v a (Place v c i)) (sym (eqb-true b a l)) by_itself)
place_in v a (PlaceIn u b w i) h =
    let (k, l) = and_parts (u == v) (b == a) h in
    subst (λ x. MakesPlace v a (PlaceIn x b w i)) (sym (eqb-true u v k)) (subst (λ c. MakesPlace v a (PlaceIn v c w i)) (sym (eqb-true b a l)) by_base)
place_in v a op h = absurd (false≢true h)

place_in_of : (v a : ℕ) (op : Op) → MakesPlace v a op → is_place_in v a op ≡ true
place_in_of v a op by_itself = both_true (eq-eqb v v refl) (eq-eqb a a refl)
place_in_of v a op by_base = both_true (eq-eqb v v refl) (eq-eqb a a refl)

-- an operation of the graph that makes value v a place of array a
record Made (g : Graph) (v a : ℕ) : Type 0 where
  operation : Op
  has : HasOperation g operation
  makes : MakesPlace v a operation

made_in : (g : Graph) (v a : ℕ) → list_any (has_place_in v a) g.blocks ≡ true → Made g v a
made_in g v a h =
    let block = any_in (has_place_in v a) g.blocks h in
    let found = any_in (is_place_in v a) block.item.ops block.holds in
    record { operation = found.item; has = record { block = block.item; has = block.has; stands = found.has }; makes = place_in v a found.item found.holds }

made_in_of : (g : Graph) (v a : ℕ) (op : Op) → HasOperation g op → MakesPlace v a op → list_any (has_place_in v a) g.blocks ≡ true
made_in_of g v a op at makes = any_of (has_place_in v a) g.blocks at.block at.has (any_of (is_place_in v a) at.block.ops op at.stands (place_in_of v a op makes))

is_made : (g : Graph) (v a : ℕ) → IsPlace g v a → list_any (has_place_in v a) g.blocks ≡ true
is_made g v a (in_own i at own) = made_in_of g v a (Place v a i) at by_itself
is_made g v a (in_handed u i at) = made_in_of g v a (PlaceIn v a u i) at by_base

own_place : (g : Graph) (v a : ℕ) (op : Op) → is_local g.arrays a ≡ true → HasOperation g op → MakesPlace v a op → IsPlace g v a
own_place g v a op own at (by_itself {i}) = in_own i at own
own_place g v a op own at (by_base {u} {i}) = in_handed u i at

-- where the array was handed over its places are made by its base
handed_place : (g : Graph) (v a : ℕ) (op : Op) → is_handed g.arrays a ≡ true → is_based g.arrays op ≡ true → HasOperation g op → MakesPlace v a op → IsPlace g v a
handed_place g v a op is based at (by_itself {i}) = absurd (not_both (is_handed g.arrays a) is based)
handed_place g v a op is based at (by_base {u} {i}) = in_handed u i at

abbrev IsPlaced : Graph → ℕ → Operand → Type 0
IsPlaced g a p = ((n : ℤ) × (p ≡ Number n)) ⊎ ((v : ℕ) × (p ≡ Held v) × IsPlace g v a)

abbrev IsPlacedBy : Graph → ℕ → Operand → Type 0
IsPlacedBy g a p = (v : ℕ) × (p ≡ Held v) × IsPlace g v a

placed_is : (g : Graph) (a : ℕ) (p : Operand) → is_local g.arrays a ≡ true → is_placed g a p ≡ true → IsPlaced g a p
placed_is g a (Held v) own h = let m = made_in g v a h in inr (v, refl, own_place g v a m.operation own m.has m.makes)
placed_is g a (Number n) own h = inl (n, refl)
placed_is g a Stack own h = absurd (false≢true h)

placed_by_is : (g : Graph) (a : ℕ) (p : Operand) → is_handed g.arrays a ≡ true → ((op : Op) → HasOperation g op → is_based g.arrays op ≡ true) → is_placed_by g a p ≡ true → IsPlacedBy g a p
placed_by_is g a (Held v) is based h = let m = made_in g v a h in (v, refl, handed_place g v a m.operation is (based m.operation m.has) m.has m.makes)
placed_by_is g a (Number n) is based h = absurd (false≢true h)
placed_by_is g a Stack is based h = absurd (false≢true h)

placed_by_of : (g : Graph) (a : ℕ) (p : Operand) → IsPlacedBy g a p → is_placed_by g a p ≡ true
placed_by_of g a p q = let (v, e, place) = q in subst (λ x. is_placed_by g a x ≡ true) (sym e) (is_made g v a place)

placed_of : (g : Graph) (a : ℕ) (p : Operand) → IsPlaced g a p → is_placed g a p ≡ true
placed_of g a p (inl q) = let (n, e) = q in subst (λ x. is_placed g a x ≡ true) (sym e) refl
placed_of g a p (inr q) = let (v, e, place) = q in subst (λ x. is_placed g a x ≡ true) (sym e) (is_made g v a place)

-- where an access is to a local array, or else
not_or : (a b : Bool) → a ≡ true → (not a || b) ≡ true → b ≡ true
not_or true b e h = h
not_or false b e h = absurd (false≢true e)

not_or_of : (a b : Bool) → (a ≡ true → b ≡ true) → (not a || b) ≡ true
not_or_of true b f = f refl
not_or_of false b f = refl

-- the place of an access
accessed_at : (g : Graph) (a : ℕ) (p : Operand) (op : Op) → is_access_placed g op ≡ true → IsAccess a p op → is_placed_in g a p ≡ true
accessed_at g a p op h loads = h
accessed_at g a p op h stores = h

access_is : (g : Graph) (a : ℕ) (p : Operand) (op : Op) → is_access_placed g op ≡ true → IsAccess a p op → is_local g.arrays a ≡ true → IsPlaced g a p
access_is g a p op h access own = placed_is g a p own (not_or (is_local g.arrays a) (is_placed g a p) own (and_parts _ _ (accessed_at g a p op h access)).0)

access_by : (g : Graph) (a u : ℕ) (p : Operand) (op : Op) → ((op : Op) → HasOperation g op → is_based g.arrays op ≡ true) → is_access_placed g op ≡ true → IsAccess a p op → base_at g.arrays a ≡ Some u → IsPlacedBy g a p
access_by g a u p op based h access e =
    let is : is_handed g.arrays a ≡ true = given_of (base_at g.arrays a) u e in
    placed_by_is g a p is based (not_or (is_handed g.arrays a) (is_placed_by g a p) is (and_parts _ _ (accessed_at g a p op h access)).1)

-- what the words say of an access
record Accesses (g : Graph) (op : Op) : Type 0 where
  own : (a : ℕ) (p : Operand) → IsAccess a p op → is_local g.arrays a ≡ true → IsPlaced g a p
  handed : (a u : ℕ) (p : Operand) → IsAccess a p op → base_at g.arrays a ≡ Some u → IsPlacedBy g a p

by_given : (o : Option ℕ) → is_given o ≡ true → (v : ℕ) × (o ≡ Some v)
by_given None h = absurd (false≢true h)
by_given (Some v) h = (v, refl)

placed_in_of : (g : Graph) (a : ℕ) (p : Operand) (op : Op) → Accesses g op → IsAccess a p op → is_placed_in g a p ≡ true
placed_in_of g a p op x access = both_true
    (not_or_of (is_local g.arrays a) (is_placed g a p) (λ own. placed_of g a p (x.own a p access own)))
    (not_or_of (is_handed g.arrays a) (is_placed_by g a p) (λ is. let (u, e) = by_given (base_at g.arrays a) is in placed_by_of g a p (x.handed a u p access e)))

access_of : (g : Graph) (op : Op) → Accesses g op → is_access_placed g op ≡ true
access_of g (Load v a p dismissible) x = placed_in_of g a p (Load v a p dismissible) x loads
access_of g (Store a p y) x = placed_in_of g a p (Store a p y) x stores
access_of g op x = refl

-- from the test

tested : (g : Graph) → is_sound g ≡ true → (block : Block) → IsIn block g.blocks → is_sound_block g block ≡ true
tested g h block m = all_in (is_sound_block g) g.blocks block (and_parts _ _ (and_parts _ _ h).0).1 m

-- what the test of an operation tells
record Tested (g : Graph) (op : Op) : Type 0 where
  named : is_sound_operation g.banks (length g.arrays) op ≡ true
  based : is_based g.arrays op ≡ true
  kept : is_kept g op ≡ true
  placed : is_access_placed g op ≡ true

operation_tested : (g : Graph) (op : Op) → is_sound g ≡ true → HasOperation g op → Tested g op
operation_tested g op h at =
    let block = and_parts _ _ (tested g h at.block at.has) in
    let (abc, d) = and_parts _ _ (all_in (is_sound_in g) at.block.ops op block.0 at.stands) in
    let (ab, c) = and_parts _ _ abc in
    record { named = (and_parts _ _ ab).0; based = (and_parts _ _ ab).1; kept = c; placed = d }

exit_tested : (g : Graph) (exit : Exit) → is_sound g ≡ true → HasExit g exit → Led g exit
exit_tested g exit h at =
    let k : is_sound_exit g.banks (length g.blocks) at.block.exit ≡ true = (and_parts _ _ (tested g h at.block at.has)).1 in
    exit_is g exit (subst (λ x. is_sound_exit g.banks (length g.blocks) x ≡ true) (sym at.ends) k)

-- what it tells of a value that is a place of a local array, or of one that was handed over
record Kept (g : Graph) (v a : ℕ) : Type 0 where
  parameters : list_all (λ p. not (p == v)) g.parameters ≡ true
  blocks : list_all (block_keeps v a) g.blocks ≡ true

only_place : (g : Graph) (v a : ℕ) → is_only_place g v a ≡ true → Kept g v a
only_place g v a h = let k = and_parts _ _ h in record { parameters = k.0; blocks = k.1 }

kept_is : (g : Graph) (v a : ℕ) → is_sound g ≡ true → IsPlace g v a → Kept g v a
kept_is g v a h (in_own i at own) = only_place g v a (not_or (is_local g.arrays a) (is_only_place g v a) own (operation_tested g (Place v a i) h at).kept)
kept_is g v a h (in_handed u i at) = only_place g v a (operation_tested g (PlaceIn v a u i) h at).kept

operation_kept : (g : Graph) (v a : ℕ) (op : Op) → Kept g v a → HasOperation g op → keeps_place v a op ≡ true
operation_kept g v a op k at = all_in (keeps_place v a) at.block.ops op (and_parts _ _ (all_in (block_keeps v a) g.blocks at.block k.blocks at.has)).0 at.stands

exit_kept : (g : Graph) (v a : ℕ) (exit : Exit) → Kept g v a → HasExit g exit → leaves_alone v exit ≡ true
exit_kept g v a exit k at = subst (λ x. leaves_alone v x ≡ true) (sym at.ends) (and_parts _ _ (all_in (block_keeps v a) g.blocks at.block k.blocks at.has)).1

-- what it tells of an array that was handed over
record Handed (g : Graph) (array : Array) (v : ℕ) : Type 0 where
  global : array.global ≡ false
  words : array.words ≡ 0
  parameter : IsIn v g.parameters
  blocks : list_all (block_keeps_base v) g.blocks ≡ true

unset : (b : Bool) → not b ≡ true → b ≡ false
unset true h = absurd (false≢true h)
unset false h = refl

handed_is : (g : Graph) (a : ℕ) (array : Array) (v : ℕ) → is_sound g ≡ true → slice_get g.arrays a ≡ Some array → array.base ≡ Some v → Handed g array v
handed_is g a array v h e b =
    let k : is_handed_well g array (Some v) ≡ true = subst (λ o. is_handed_well g array o ≡ true) b (all_at (is_array_kept g) g.arrays a array (and_parts _ _ h).1 e) in
    let (xyz, w) = and_parts _ _ k in
    let (xy, z) = and_parts _ _ xyz in
    let (x, y) = and_parts _ _ xy in
    record { global = unset array.global x; words = eqb-true array.words 0 y; parameter = parameter_is g v z; blocks = w }

-- and of a value that is a base
bases_kept : (g : Graph) (v : ℕ) → is_sound g ≡ true → IsBase g v → list_all (block_keeps_base v) g.blocks ≡ true
bases_kept g v h (given a e) = let (array, f, b) = array_of_base g.arrays a v e in (handed_is g a array v h f b).blocks
bases_kept g v h (made a x at) = (and_parts _ _ (operation_tested g (Base v a x) h at).kept).1

operation_keeps_base : (g : Graph) (v : ℕ) (op : Op) → is_sound g ≡ true → IsBase g v → HasOperation g op → keeps_base v op ≡ true
operation_keeps_base g v op h b at = all_in (keeps_base v) at.block.ops op (and_parts _ _ (all_in (block_keeps_base v) g.blocks at.block (bases_kept g v h b) at.has)).0 at.stands

exit_leaves_base : (g : Graph) (v : ℕ) (exit : Exit) → is_sound g ≡ true → IsBase g v → HasExit g exit → leaves_base v exit ≡ true
exit_leaves_base g v exit h b at = subst (λ x. leaves_base v x ≡ true) (sym at.ends) (and_parts _ _ (all_in (block_keeps_base v) g.blocks at.block (bases_kept g v h b) at.has)).1

no_parameter : (g : Graph) (v a : ℕ) (x : Operand) → is_sound g ≡ true → HasOperation g (Base v a x) → IsIn v g.parameters → ⊥
no_parameter g v a x h at m = not_both (is_parameter g v) (parameter_of g v m) (and_parts _ _ (operation_tested g (Base v a x) h at).kept).0

move_is : (g : Graph) (v : ℕ) (a b : Operand) → is_sound_operation g.banks (length g.arrays) (Compute Mov v a b) ≡ true → b ≡ Number (pos 0)
move_is g v a b h = zero_is b (and_parts _ _ h).1

pub sound_is : (g : Graph) → is_sound g ≡ true → Sound g
sound_is g h = record {
  parameters = λ v m. general_is g v (all_in (is_general g.banks) g.parameters v (and_parts _ _ (and_parts _ _ h).0).0 m);
  operands = λ op x at m. operands_are g op x (operation_tested g op h at).named m;
  results = λ op v at m. results_are g op v (operation_tested g op h at).named m;
  tests = λ op v at m. tests_are g op v (operation_tested g op h at).named m;
  arrays = λ op a at m. arrays_are g op a (operation_tested g op h at).named m;
  exit_operands = λ exit x at m. (exit_tested g exit h at).operands x m;
  exit_results = λ exit v at m. (exit_tested g exit h at).results v m;
  exit_tests = λ exit v at m. (exit_tested g exit h at).tests v m;
  targets = λ exit c at m. (exit_tested g exit h at).targets c m;
  no_across = λ v u at. false≢true (operation_tested g (Across v u) h at).named;
  base_from = λ v a x at. made_from_is g a x (operation_tested g (Base v a x) h at).based;
  place_bare = λ v a i at. none_given (base_at g.arrays a) (operation_tested g (Place v a i) h at).based;
  place_base = λ v a u i at. that_is u (base_at g.arrays a) (operation_tested g (PlaceIn v a u i) h at).based;
  place_written = λ v a op place at m. keeps_writes v a op (operation_kept g v a op (kept_is g v a h place) at) m;
  place_read = λ v a op place at m. keeps_reads v a op (operation_kept g v a op (kept_is g v a h place) at) m;
  place_parameter = λ v a place m. differs v v (all_in (λ p. not (p == v)) g.parameters v (kept_is g v a h place).parameters m) refl;
  place_exit = λ v a exit place at m. exit_leaves v exit (exit_kept g v a exit (kept_is g v a h place) at) m;
  placed = λ a p op at access own. access_is g a p op (operation_tested g op h at).placed access own;
  placed_by = λ a u p op at access e. access_by g a u p op (λ o there. (operation_tested g o h there).based) (operation_tested g op h at).placed access e;
  handed = λ a v array e b. let k = handed_is g a array v h e b in (k.global, k.words, k.parameter);
  base_written = λ v op base at m. base_writes v op (operation_keeps_base g v op h base at) m;
  base_parameter = λ v a x at m. no_parameter g v a x h at m;
  base_read = λ v op base at m. base_reads v op (operation_keeps_base g v op h base at) m;
  base_result = λ v exit base at m. base_results v exit (exit_leaves_base g v exit h base at) m;
  base_returned = λ v x base at e. unheld v x (exit_leaves_base g v (Return x) h base at) e;
  moves = λ v a b at. move_is g v a b (operation_tested g (Compute Mov v a b) h at).named;
}

-- and back

named_of : (g : Graph) (op : Op) → Sound g → HasOperation g op → Named g op
named_of g op s at = record {
  operands = λ x m. s.operands op x at m;
  results = λ v m. s.results op v at m;
  tests = λ v m. s.tests op v at m;
  arrays = λ a m. s.arrays op a at m;
  no_across = λ v u e. s.no_across v u (subst (HasOperation g) e at);
  moves = λ v a b e. s.moves v a b (subst (HasOperation g) e at);
}

led_of : (g : Graph) (exit : Exit) → Sound g → HasExit g exit → Led g exit
led_of g exit s at = record {
  operands = λ x m. s.exit_operands exit x at m;
  results = λ v m. s.exit_results exit v at m;
  tests = λ v m. s.exit_tests exit v at m;
  targets = λ c m. s.targets exit c at m;
}

based_by : (g : Graph) (op : Op) → Sound g → HasOperation g op → Based g op
based_by g op s at = record {
  bare = λ v a i e. s.place_bare v a i (subst (HasOperation g) e at);
  from = λ v a x e. s.base_from v a x (subst (HasOperation g) e at);
  by = λ v a u i e. s.place_base v a u i (subst (HasOperation g) e at);
}

-- a place is a general value, and so is a base; what is tested is a branch value

pub place_general : (g : Graph) (v a : ℕ) → Sound g → IsPlace g v a → Has g v General
place_general g v a s (in_own i at own) = s.results (Place v a i) v at (inl refl)
place_general g v a s (in_handed u i at) = s.results (PlaceIn v a u i) v at (inl refl)

pub base_general : (g : Graph) (v : ℕ) → Sound g → IsBase g v → Has g v General
base_general g v s (given a e) = let (array, f, b) = array_of_base g.arrays a v e in s.parameters v (s.handed a v array f b).2
base_general g v s (made a x at) = s.results (Base v a x) v at (inl refl)

untested : (g : Graph) (v : ℕ) (exit : Exit) → Sound g → Has g v General → HasExit g exit → IsIn v (tests_of_exit exit) → ⊥
untested g v exit s general at m =
    let branch : slice_get g.banks v ≡ Some Branch = s.exit_tests exit v at m in
    cc

block_keeps_of : (g : Graph) (v a : ℕ) (block : Block) → Sound g → IsPlace g v a → IsIn block g.blocks → block_keeps v a block ≡ true
block_keeps_of g v a block s place m =
    let exit : HasExit g block.exit = record { block = block; has = m; ends = refl } in
    both_true
    (all_of (keeps_place v a) block.ops (λ op n. let at : HasOperation g op = record { block = block; has = m; stands = n } in keeps_of v a op (s.place_written v a op place at) (s.place_read v a op place at)))
    (leaves_of v block.exit (untested g v block.exit s (place_general g v a s place) exit) (s.place_exit v a block.exit place exit))

only_place_of : (g : Graph) (v a : ℕ) → Sound g → IsPlace g v a → is_only_place g v a ≡ true
only_place_of g v a s place = both_true
    (all_of (λ p. not (p == v)) g.parameters (λ p m. differs_of p v (λ e. s.place_parameter v a place (subst (λ q. IsIn q g.parameters) e m))))
    (all_of (block_keeps v a) g.blocks (λ block m. block_keeps_of g v a block s place m))

block_keeps_base_of : (g : Graph) (v : ℕ) (block : Block) → Sound g → IsBase g v → IsIn block g.blocks → block_keeps_base v block ≡ true
block_keeps_base_of g v block s base m =
    let exit : HasExit g block.exit = record { block = block; has = m; ends = refl } in
    both_true
    (all_of (keeps_base v) block.ops (λ op n. let at : HasOperation g op = record { block = block; has = m; stands = n } in keeps_base_of v op (s.base_written v op base at) (s.base_read v op base at)))
    (leaves_base_of v block.exit (untested g v block.exit s (base_general g v s base) exit) (s.base_result v block.exit base exit) (λ x e held. s.base_returned v x base (record { block = block; has = m; ends = e }) held))

kept_of : (g : Graph) (op : Op) → Sound g → HasOperation g op → is_kept g op ≡ true
kept_of g (Place v a i) s at = not_or_of (is_local g.arrays a) (is_only_place g v a) (λ own. only_place_of g v a s (in_own i at own))
kept_of g (PlaceIn v a u i) s at = only_place_of g v a s (in_handed u i at)
kept_of g (Base v a x) s at = both_true
    (not_of (is_parameter g v) (λ p. s.base_parameter v a x at (parameter_is g v p)))
    (all_of (block_keeps_base v) g.blocks (λ block m. block_keeps_base_of g v block s (made a x at) m))
kept_of g op s at = refl

in_of : (g : Graph) (op : Op) → Sound g → HasOperation g op → is_sound_in g op ≡ true
in_of g op s at = both_true (both_true (both_true (operation_of g op (named_of g op s at)) (based_of g op (based_by g op s at))) (kept_of g op s at))
    (access_of g op (record { own = λ a p access own. s.placed a p op at access own; handed = λ a u p access e. s.placed_by a u p op at access e }))

block_of : (g : Graph) (block : Block) → Sound g → IsIn block g.blocks → is_sound_block g block ≡ true
block_of g block s m = both_true
    (all_of (is_sound_in g) block.ops (λ op n. in_of g op s (record { block = block; has = m; stands = n })))
    (exit_of g block.exit (led_of g block.exit s (record { block = block; has = m; ends = refl })))

array_of : (g : Graph) (a : ℕ) (array : Array) (o : Option ℕ) → Sound g → slice_get g.arrays a ≡ Some array → array.base ≡ o → is_handed_well g array o ≡ true
array_of g a array None s e b = refl
array_of g a array (Some v) s e b =
    let k = s.handed a v array e b in
    let base : IsBase g v = given a (base_of_array g.arrays a array v e b) in
    both_true (both_true (both_true (ap not k.0) (eq-eqb array.words 0 k.1)) (parameter_of g v k.2))
    (all_of (block_keeps_base v) g.blocks (λ block m. block_keeps_base_of g v block s base m))

pub sound_of : (g : Graph) → Sound g → is_sound g ≡ true
sound_of g s = both_true (both_true
    (all_of (is_general g.banks) g.parameters (λ v m. general_of g v (s.parameters v m)))
    (all_of (is_sound_block g) g.blocks (λ block m. block_of g block s m)))
    (all_of_at (is_array_kept g) g.arrays (λ a array e. array_of g a array array.base s e refl))

-- a test that comes to what the test of the graph does
pub told : (g : Graph) (t : Bool) → t ≡ is_sound g → (t ≡ true) ↔ Sound g
told g t e = (λ h. sound_is g (sym e ∙ h), λ s. e ∙ sound_of g s)

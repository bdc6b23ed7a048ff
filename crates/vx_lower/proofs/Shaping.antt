-- From a graph that is being made to the shape of the finished one.
use Rattle.std.proofs.Common.{◌≡◌, ◌⊎◌, ℕ, zero, suc, ◌+◌, ◌<◌, ◌≤◌, ℤ, pos, Bool, true, false, List, [], ◌∷◌, length, Option, Some, None, refl, sym, ap, ◌∙◌, subst, inl, inr, arith}
use Rattle.std.specs.Prelude.{slice_get, option_map}
use Rattle.std.proofs.lemmas.Bool.{cases_lt}
use Rattle.std.proofs.lemmas.Option.{slice_get-map, get_or_from_slice_get}
use Rattle.vx_base.specs.declared.arithmetic.Code.{Code}
use Rattle.vx_base.specs.declared.arithmetic.Code.TheVariants.{Mov, ToBranch}
use Rattle.vx_base.specs.declared.outcome.Trap.{Trap}
use Rattle.vx_flow.specs.declared.graph.Bank.TheVariants.{General, Branch}
use Rattle.vx_flow.specs.declared.graph.Operand.{Operand}
use Rattle.vx_flow.specs.declared.graph.Operand.TheVariants.{Held, Number, Stack}
use Rattle.vx_flow.specs.declared.graph.Op.{Op}
use Rattle.vx_flow.specs.declared.graph.Op.TheVariants.{Compute, Select, Place, Load, Store, More, Input, Text, Decimal, Across, Base, PlaceIn}
use Rattle.vx_flow.specs.declared.graph.Exit.{Exit}
use Rattle.vx_flow.specs.declared.graph.Exit.TheVariants.{Goto, Split, Call, Return, Ends}
use Rattle.vx_flow.specs.declared.graph.Block.{Block}
use Rattle.vx_flow.specs.declared.graph.Graph.{Graph}
use Rattle.vx_flow.specs.Effects.{IsIn, value_in, reads, writes}
use Rattle.vx_flow.specs.Sound.{HasOperation, HasExit, operands_of, operands_of_exit, tests_of, tests_of_exit, bank_written, results_of_exit, targets_of, arrays_of, base_of, base_at, IsAccess, loads, stores, is_local, is_base, is_base_operand, IsOperandOf, MakesPlace, by_itself, by_base, IsPlace, in_own, in_handed, IsBase, given, made, IsMadeFrom, ReadAsPlace, Sound}
use Rattle.vx_flow.proofs.Members.{in_either}
use Rattle.vx_flow.proofs.SoundLaw.{sound_of}
use Rattle.vx_flow.specs.declared.graph.Array.{Array}
use Rattle.vx_flow.proofs.SoundFlowLaw.{tested_base, base_tested}
use Rattle.vx_lower.specs.declared.seen.Seen.{Seen}
use Rattle.vx_lower.specs.declared.seen.Seen.TheVariants.{GlobalArray, OwnArray, Handed}
use Rattle.vx_lower.specs.Seen.{Sees, seen_at, array_for, arrays_from}
use Rattle.vx_lower.proofs.Passing.{there_is}
use Rattle.vx_lower.proofs.Bodies.{length_arrays, array_at, get_array}
use Rattle.vx_lower.specs.FlowOf.{IsEdge}
use Rattle.vx_lower.specs.Holds.{ends, jump}
use Rattle.vx_lower.specs.Named.{Known, TakesArguments}
use Rattle.vx_ast.specs.declared.tree.Takes.{Takes as Kind}
use Rattle.vx_ast.specs.declared.tree.Takes.TheVariants.{Number as TakesNumber, Array as TakesArray}
use Rattle.vx_lower.specs.Fits.{Role, Scalar, Test, PlaceOf, Stand, bank_of_role, HasRole, OperandFits, PlaceFits, NotHanded, FromFits, BaseFits, IsHandedBase, StandFits, ArgumentsFit, role_written, OpFits, Has, opened, finished, TargetFits, ExitFits, split_targets, Fits, Shaped}
use Rattle.vx_lower.specs.Shape.{Settled, finally, HandsOver, ArePassed, WellShaped}
use Rattle.vx_lower.specs.declared.builder.Builder.{Builder}
use Rattle.vx_lower.proofs.Fitting.{target_fits, split_is_target, fits_closed}

-- lists

pub in_at : {A : Type 0} (xs : List A) (x : A) → IsIn x xs → (i : ℕ) × (slice_get xs i ≡ Some x)
in_at [] x m = absurd m
in_at (y ∷ xs) x (inl e) = (0, ap Some (sym e))
in_at (y ∷ xs) x (inr m) = let w = in_at xs x m in (suc w.0, w.1)

at_in : {A : Type 0} (xs : List A) (i : ℕ) (x : A) → slice_get xs i ≡ Some x → IsIn x xs
at_in [] i x e = absurd (cc)
at_in (y ∷ xs) zero x e = inl (cc)
at_in (y ∷ xs) (suc i) x e = inr (at_in xs i x e)

pub get_there : {A : Type 0} (xs : List A) (i : ℕ) → i < length xs → (x : A) × (slice_get xs i ≡ Some x)
get_there [] i h = absurd (omega arith)
get_there (y ∷ xs) zero h = (y, refl)
get_there (y ∷ xs) (suc i) h = get_there xs i (omega arith)

-- exits

traps_or : (exit : Exit) → ((trap : Trap) × (exit ≡ Ends trap)) ⊎ ((trap : Trap) → exit ≡ Ends trap → ⊥)
traps_or (Goto c) = inr (λ trap e. cc)
traps_or (Split test c d) = inr (λ trap e. cc)
traps_or (Call f os result c) = inr (λ trap e. cc)
traps_or (Return o) = inr (λ trap e. cc)
traps_or (Ends trap) = inl (trap, refl)

two_targets : (exit : Exit) (c d : ℕ) → IsIn c (targets_of exit) → IsIn d (targets_of exit) → (c ≡ d → ⊥) → IsIn d (split_targets exit)
two_targets (Goto x) c d (inl e) (inl f) n = absurd (n (e ∙ sym f))
two_targets (Goto x) c d (inl e) (inr m) n = m
two_targets (Goto x) c d (inr m) k n = absurd m
two_targets (Split test x y) c d m k n = k
two_targets (Call f os result x) c d (inl e) (inl h) n = absurd (n (e ∙ sym h))
two_targets (Call f os result x) c d (inl e) (inr m) n = m
two_targets (Call f os result x) c d (inr m) k n = absurd m
two_targets (Return o) c d m k n = absurd m
two_targets (Ends trap) c d m k n = absurd m

-- what a finished block is
data Origin (slots : List (Option Block)) (count i : ℕ) (block : Block) : Type 0 where
  stands : (x : Block) → slice_get slots i ≡ Some (Some x) → block ≡ x → Origin slots count i block
  jumps : (c : ℕ) → length slots ≤ c → c < count → block ≡ jump c → Origin slots count i block
  returns : block ≡ ends (Return (Number (pos 0))) → Origin slots count i block
  stops : (trap : Trap) → block ≡ ends (Ends trap) → Origin slots count i block

same_item : {A : Type 0} (x y : A) (o : Option A) → o ≡ Some x → o ≡ Some y → x ≡ y
same_item x y o e f = let h : Some x ≡ Some y = sym e ∙ f in cc

origin : (slots : List (Option Block)) (blocks : List Block) → Settled slots blocks → (i : ℕ) (block : Block) → slice_get blocks i ≡ Some block → Origin slots (length blocks) i block
origin slots blocks s i block e = elim (cases_lt i (length slots)) [ inl h ↦ let w = get_there slots i h in made w.0 w.1 | inr h ↦ let w = s.behind i block h e in stops w.0 w.1 ]
  where
    made : (o : Option Block) → slice_get slots i ≡ Some o → Origin slots (length blocks) i block
    made None f = returns (same_item block (ends (Return (Number (pos 0)))) (slice_get blocks i) e (s.waits i f))
    made (Some x) f = elim (traps_or x.exit) [
      | inl w ↦ let c = s.stops i x w.0 f w.1 in jumps c.0 c.1 c.2 (same_item block (jump c.0) (slice_get blocks i) e c.3)
      | inr n ↦ stands x f (same_item block x (slice_get blocks i) e (s.stays i x f n))
    ]

-- roles and banks

role_is : (roles : List Role) (v : ℕ) (a b : Role) → HasRole roles v a → HasRole roles v b → a ≡ b
role_is roles v a b h k = same_item a b (slice_get roles v) h k

written_is : (code : Code) (v : ℕ) (a b : Operand) → bank_of_role (role_written code) ≡ bank_written (Compute code v a b)
written_is (ToBranch compare) v a b = refl
written_is code v a b = refl

written_no_place : (code : Code) (a : ℕ) → role_written code ≡ PlaceOf a → ⊥
written_no_place (ToBranch compare) a e = cc
written_no_place code a e = cc

in_value : (v : ℕ) (o : Operand) → IsIn v (value_in o) → o ≡ Held v
in_value v (Held u) (inl e) = ap Held (sym e)
in_value v (Held u) (inr m) = absurd m
in_value v (Number n) m = absurd m
in_value v Stack m = absurd m

-- a place is no operand
no_operand : (roles : List Role) (v a : ℕ) (o : Operand) → HasRole roles v (PlaceOf a) → OperandFits roles o → IsIn v (value_in o) → ⊥
no_operand roles v a o p f m =
    let g : HasRole roles v Scalar = subst (OperandFits roles) (in_value v o m) f in
    let e : PlaceOf a ≡ Scalar = role_is roles v (PlaceOf a) Scalar p g in
    cc

-- nor is what holds where an array stands
no_number : (roles : List Role) (v : ℕ) (o : Operand) → HasRole roles v Stand → OperandFits roles o → IsIn v (value_in o) → ⊥
no_number roles v o p f m =
    let g : HasRole roles v Scalar = subst (OperandFits roles) (in_value v o m) f in
    let e : Stand ≡ Scalar = role_is roles v Stand Scalar p g in
    cc

written_no_stand : (code : Code) → role_written code ≡ Stand → ⊥
written_no_stand (ToBranch compare) e = cc
written_no_stand code e = cc

in_one : {A : Type 0} (x y : A) → IsIn x (y ∷ []) → x ≡ y
in_one x y (inl e) = e
in_one x y (inr m) = absurd m

no_some : {A : Type 0} {x : A} → None ≡ Some x → ⊥
no_some e = cc

module _ {words : Sees} (k : Known words) (texts : ℕ) (roles : List Role) (b : Builder) (g : Graph) (f : Fits k texts roles b) (none : b.ops ≡ []) (s : Settled b.blocks g.blocks) (banks : g.banks ≡ b.banks) (arrays : g.arrays ≡ arrays_from 0 words.arrays) (passed : ArePassed words g.parameters) where
  -- the array of a graph that is seen
  array_is_there : (a : ℕ) (x : Seen) → slice_get words.arrays a ≡ Some x → slice_get g.arrays a ≡ Some (array_for a x)
  array_is_there a x e = let z : 0 + a ≡ a = omega arith in ap (λ r. slice_get r a) arrays ∙ get_array 0 words.arrays a x e ∙ ap (λ n. Some (array_for n x)) z

  seen_there : (a : ℕ) → a < length words.arrays → slice_get words.arrays a ≡ Some (seen_at words a)
  seen_there a l = there_is words.arrays a (OwnArray 0) l

  many_arrays : length g.arrays ≡ length words.arrays
  many_arrays = ap length arrays ∙ length_arrays 0 words.arrays

  base_seen : (a v : ℕ) → base_at g.arrays a ≡ Some v → (size : ℕ) × (slice_get words.arrays a ≡ Some (Handed v size))
  base_seen a v e = one (slice_get g.arrays a) refl
    where
      by : (x : Seen) → slice_get words.arrays a ≡ Some x → (array_for a x).base ≡ Some v → (size : ℕ) × (slice_get words.arrays a ≡ Some (Handed v size))
      by (GlobalArray n) q r = absurd (no_some r)
      by (OwnArray n) q r = absurd (no_some r)
      by (Handed base size) q r = let is : base ≡ v = cc in (size, q ∙ ap (λ z. Some (Handed z size)) is)

      one : (o : Option Array) → slice_get g.arrays a ≡ o → (size : ℕ) × (slice_get words.arrays a ≡ Some (Handed v size))
      one None q = absurd (no_some (sym (ap base_of q) ∙ e))
      one (Some array) q =
          let y = array_at 0 words.arrays a array (ap (λ r. slice_get r a) (sym arrays) ∙ q) in
          let z : 0 + a ≡ a = omega arith in
          by y.0 y.1 (sym (ap (λ n. (array_for n y.0).base) z) ∙ sym (ap (λ r. r.base) y.2) ∙ sym (ap base_of q) ∙ e)

  stand_of : (a v size : ℕ) → slice_get words.arrays a ≡ Some (Handed v size) → HasRole roles v Stand
  stand_of a v size e = (f.handed a v size (get_or_from_slice_get words.arrays a (Handed v size) (OwnArray 0) e)).0

  size_of_role : (a v size : ℕ) → slice_get words.arrays a ≡ Some (Handed v size) → HasRole roles size Scalar
  size_of_role a v size e = (f.handed a v size (get_or_from_slice_get words.arrays a (Handed v size) (OwnArray 0) e)).1

  has_bank : (v : ℕ) (role : Role) → HasRole roles v role → slice_get g.banks v ≡ Some (bank_of_role role)
  has_bank v role h = ap (λ z. slice_get z v) (banks ∙ f.banks) ∙ slice_get-map bank_of_role roles v ∙ ap (option_map bank_of_role) h

  op_fits : (op : Op) → HasOperation g op → OpFits k texts roles op
  op_fits op h =
      let at = in_at g.blocks h.block h.has in
      one at.0 (origin b.blocks g.blocks s at.0 h.block at.1)
    where
      one : (i : ℕ) → Origin b.blocks (length g.blocks) i h.block → OpFits k texts roles op
      one i (stands x e q) = f.ops op (finished i x e (subst (λ z. IsIn op z.ops) q h.stands))
      one i (jumps c l w q) = absurd (subst (λ z. IsIn op z.ops) q h.stands)
      one i (returns q) = absurd (subst (λ z. IsIn op z.ops) q h.stands)
      one i (stops trap q) = absurd (subst (λ z. IsIn op z.ops) q h.stands)

  -- an operation that was made is one of the graph
  is_there : (op : Op) → Has b.blocks b.ops op → HasOperation g op
  is_there op (opened m) = absurd (subst (IsIn op) none m)
  is_there op (finished i x e m) = elim (traps_or x.exit) [
    | inl w ↦ absurd (subst (IsIn op) (f.traps i x e w.0 w.1) m)
    | inr n ↦ record { block = x; has = at_in g.blocks i x (s.stays i x e n); stands = m }
  ]

  -- what is said of an exit
  data ExitIs (exit : Exit) : Type 0 where
    fitting : ExitFits k roles (length b.blocks) exit → ExitIs exit
    jumping : (c : ℕ) → length b.blocks ≤ c → c < length g.blocks → exit ≡ Goto c → ExitIs exit
    returning : exit ≡ Return (Number (pos 0)) → ExitIs exit
    stopping : (trap : Trap) → exit ≡ Ends trap → ExitIs exit

  exit_at : (i : ℕ) (block : Block) → slice_get g.blocks i ≡ Some block → ExitIs block.exit
  exit_at i block e = one (origin b.blocks g.blocks s i block e)
    where
      one : Origin b.blocks (length g.blocks) i block → ExitIs block.exit
      one (stands x q w) = fitting (subst (λ z. ExitFits k roles (length b.blocks) z.exit) (sym w) (f.exits i x q))
      one (jumps c l h w) = jumping c l h (ap (λ z. z.exit) w)
      one (returns w) = returning (ap (λ z. z.exit) w)
      one (stops trap w) = stopping trap (ap (λ z. z.exit) w)

  exit_fits : (exit : Exit) → HasExit g exit → ExitIs exit
  exit_fits exit h = let at = in_at g.blocks h.block h.has in subst ExitIs (sym h.ends) (exit_at at.0 h.block at.1)

  operand_of : (o : Operand) → OperandFits roles o → IsOperandOf g o
  operand_of (Held v) h = has_bank v Scalar h
  operand_of (Number n) h = h
  operand_of Stack h = h

  place_of : (a : ℕ) (o : Operand) → PlaceFits k roles a o → IsOperandOf g o
  place_of a (Held v) h = has_bank v (PlaceOf a) h
  place_of a (Number n) h = tt
  place_of a Stack h = h

  first_of_two : (x y z : Operand) → IsOperandOf g y → IsOperandOf g z → IsIn x (y ∷ z ∷ []) → IsOperandOf g x
  first_of_two x y z p q (inl e) = subst (IsOperandOf g) (sym e) p
  first_of_two x y z p q (inr (inl e)) = subst (IsOperandOf g) (sym e) q
  first_of_two x y z p q (inr (inr m)) = absurd m

  only : (x y : Operand) → IsOperandOf g y → IsIn x (y ∷ []) → IsOperandOf g x
  only x y p (inl e) = subst (IsOperandOf g) (sym e) p
  only x y p (inr m) = absurd m

  computes : (code : Code) (t : ℕ) (l r x : Operand) → OpFits k texts roles (Compute code t l r) → IsIn x (operands_of (Compute code t l r)) → IsOperandOf g x
  computes Mov t l r x h m = only x l (operand_of l h.1) m
  computes code t l r x h m = first_of_two x l r (operand_of l h.1) (operand_of r h.2) m

  base_fits_role : (a u : ℕ) → a < length words.arrays → BaseFits (seen_at words a) u → HasRole roles u Stand
  base_fits_role a u l h = by (seen_at words a) refl h
    where
      by : (x : Seen) → seen_at words a ≡ x → BaseFits x u → HasRole roles u Stand
      by (GlobalArray n) e h = absurd h
      by (OwnArray n) e h = absurd h
      by (Handed base size) e h = subst (λ z. HasRole roles z Stand) (sym h) (f.handed a base size e).0

  operands : (op : Op) (x : Operand) → OpFits k texts roles op → IsIn x (operands_of op) → IsOperandOf g x
  operands (Compute code t l r) x h m = computes code t l r x h m
  operands (Select t test l r) x h m = absurd h
  operands (Place t a i) x h m = only x i (operand_of i h.2) m
  operands (Load t a p dismissible) x h m = only x p (place_of a p h.2) m
  operands (Store a p o) x h m = first_of_two x p o (place_of a p h.1) (operand_of o h.2) m
  operands (Decimal o) x h m = only x o (operand_of o h) m
  operands (Across t v) x h m = absurd h
  operands (PlaceIn t a u i) x h m = first_of_two x i (Held u) (operand_of i h.3) (has_bank u Stand (base_fits_role a u h.1 h.2)) m
  operands op x h m = absurd m

  one_value : (u v : ℕ) (role : Role) → HasRole roles v role → IsIn u (v ∷ []) → slice_get g.banks u ≡ Some (bank_of_role role)
  one_value u v role h (inl e) = subst (λ z. slice_get g.banks z ≡ Some (bank_of_role role)) (sym e) (has_bank v role h)
  one_value u v role h (inr m) = absurd m

  results : (op : Op) (v : ℕ) → OpFits k texts roles op → IsIn v (writes op) → slice_get g.banks v ≡ Some (bank_written op)
  results (Compute code t l r) v h m = subst (λ z. slice_get g.banks v ≡ Some z) (written_is code t l r) (one_value v t (role_written code) h.0 m)
  results (Select t test l r) v h m = absurd h
  results (Place t a i) v h m = one_value v t (PlaceOf a) h.0 m
  results (Load t a p dismissible) v h m = one_value v t Scalar h.0 m
  results (More t) v h m = one_value v t Scalar h m
  results (Input t) v h m = one_value v t Scalar h m
  results (Across t u) v h m = absurd h
  results (Base t a x) v h m = one_value v t Stand h.0 m
  results (PlaceIn t a u i) v h m = one_value v t (PlaceOf a) h.0 m
  results op v h m = absurd m

  tests : (op : Op) (v : ℕ) → OpFits k texts roles op → IsIn v (tests_of op) → ⊥
  tests (Select t test l r) v h m = h
  tests op v h m = m

  array_there : (a c : ℕ) → c < length words.arrays → IsIn a (c ∷ []) → a < length g.arrays
  array_there a c l (inl e) = let q = many_arrays in omega arith
  array_there a c l (inr m) = absurd m

  arrays_there : (op : Op) (a : ℕ) → OpFits k texts roles op → IsIn a (arrays_of op) → a < length g.arrays
  arrays_there (Place t c i) a h m = array_there a c h.1 m
  arrays_there (Load t c p dismissible) a h m = array_there a c h.1 m
  arrays_there (Store c p o) a h m = array_there a c h.0 m
  arrays_there (Base t c x) a h m = array_there a c h.1 m
  arrays_there (PlaceIn t c u i) a h m = array_there a c h.1 m
  arrays_there op a h m = absurd m

  -- exits

  -- what an exit reads is a number, or where an array stands
  abbrev Passes : Operand → Type 0
  Passes x = OperandFits roles x ⊎ StandFits roles x

  argument_passes : (takes : List Kind) (os : List Operand) (x : Operand) → ArgumentsFit roles takes os → IsIn x os → Passes x
  argument_passes [] [] x h m = absurd m
  argument_passes [] (o ∷ os) x h m = absurd h
  argument_passes (TakesNumber ∷ takes) [] x h m = absurd m
  argument_passes (TakesNumber ∷ takes) (o ∷ os) x h (inl e) = inl (subst (OperandFits roles) (sym e) h.0)
  argument_passes (TakesNumber ∷ takes) (o ∷ os) x h (inr m) = argument_passes takes os x h.1 m
  argument_passes (TakesArray ∷ takes) [] x h m = absurd m
  argument_passes (TakesArray ∷ takes) (o ∷ []) x h m = absurd h
  argument_passes (TakesArray ∷ takes) (o ∷ n ∷ os) x h (inl e) = inr (subst (StandFits roles) (sym e) h.0)
  argument_passes (TakesArray ∷ takes) (o ∷ n ∷ os) x h (inr (inl e)) = inl (subst (OperandFits roles) (sym e) h.1)
  argument_passes (TakesArray ∷ takes) (o ∷ n ∷ os) x h (inr (inr m)) = argument_passes takes os x h.2 m

  passes_of : (x : Operand) → Passes x → IsOperandOf g x
  passes_of x (inl h) = operand_of x h
  passes_of (Held v) (inr h) = has_bank v Stand h
  passes_of (Number n) (inr h) = tt
  passes_of Stack (inr h) = absurd h

  exit_operands : (exit : Exit) (x : Operand) → ExitFits k roles (length b.blocks) exit → IsIn x (operands_of_exit exit) → Passes x
  exit_operands (Goto c) x h m = absurd m
  exit_operands (Split test c d) x h m = absurd m
  exit_operands (Call n os result c) x h m = argument_passes h.0.0 os x h.0.2 m
  exit_operands (Return o) x h (inl e) = inl (subst (OperandFits roles) (sym e) h)
  exit_operands (Return o) x h (inr m) = absurd m
  exit_operands (Ends trap) x h m = absurd m

  exit_operands_of : (exit : Exit) (x : Operand) → ExitIs exit → IsIn x (operands_of_exit exit) → Passes x
  exit_operands_of exit x (fitting h) m = exit_operands exit x h m
  exit_operands_of exit x (jumping c l w e) m = absurd (subst (λ z. IsIn x (operands_of_exit z)) e m)
  exit_operands_of exit x (returning e) m = exit_operands (Return (Number (pos 0))) x tt (subst (λ z. IsIn x (operands_of_exit z)) e m)
  exit_operands_of exit x (stopping trap e) m = absurd (subst (λ z. IsIn x (operands_of_exit z)) e m)

  call_results : (n c v : ℕ) (os : List Operand) (result : Option ℕ) → ExitFits k roles (length b.blocks) (Call n os result c) → IsIn v (results_of_exit (Call n os result c)) → HasRole roles v Scalar
  call_results n c v os None h m = absurd m
  call_results n c v os (Some u) h (inl e) = subst (λ z. HasRole roles z Scalar) (sym e) h.1
  call_results n c v os (Some u) h (inr m) = absurd m

  exit_results : (exit : Exit) (v : ℕ) → ExitFits k roles (length b.blocks) exit → IsIn v (results_of_exit exit) → HasRole roles v Scalar
  exit_results (Goto c) v h m = absurd m
  exit_results (Split test c d) v h m = absurd m
  exit_results (Call n os result c) v h m = call_results n c v os result h m
  exit_results (Return o) v h m = absurd m
  exit_results (Ends trap) v h m = absurd m

  exit_results_of : (exit : Exit) (v : ℕ) → ExitIs exit → IsIn v (results_of_exit exit) → HasRole roles v Scalar
  exit_results_of exit v (fitting h) m = exit_results exit v h m
  exit_results_of exit v (jumping c l w e) m = absurd (subst (λ z. IsIn v (results_of_exit z)) e m)
  exit_results_of exit v (returning e) m = absurd (subst (λ z. IsIn v (results_of_exit z)) e m)
  exit_results_of exit v (stopping trap e) m = absurd (subst (λ z. IsIn v (results_of_exit z)) e m)

  exit_tests : (exit : Exit) (v : ℕ) → ExitFits k roles (length b.blocks) exit → IsIn v (tests_of_exit exit) → slice_get g.banks v ≡ Some Branch
  exit_tests (Goto c) v h m = absurd m
  exit_tests (Split test c d) v h m = one_value v test Test h.0 m
  exit_tests (Call n os result c) v h m = absurd m
  exit_tests (Return o) v h m = absurd m
  exit_tests (Ends trap) v h m = absurd m

  exit_tests_of : (exit : Exit) (v : ℕ) → ExitIs exit → IsIn v (tests_of_exit exit) → slice_get g.banks v ≡ Some Branch
  exit_tests_of exit v (fitting h) m = exit_tests exit v h m
  exit_tests_of exit v (jumping c l w e) m = absurd (subst (λ z. IsIn v (tests_of_exit z)) e m)
  exit_tests_of exit v (returning e) m = absurd (subst (λ z. IsIn v (tests_of_exit z)) e m)
  exit_tests_of exit v (stopping trap e) m = absurd (subst (λ z. IsIn v (tests_of_exit z)) e m)

  -- a target is above 0 and below the number of blocks
  targets_fit : (exit : Exit) (c : ℕ) → ExitIs exit → IsIn c (targets_of exit) → TargetFits (length g.blocks) c
  targets_fit exit c (fitting h) m = let t = target_fits k roles (length b.blocks) exit c h m in let l = s.longer in let w = t.1 in (t.0, omega arith)
  targets_fit exit c (jumping d l w e) m = let some = f.some in one (subst (λ z. IsIn c (targets_of z)) e m)
    where
      one : IsIn c (d ∷ []) → TargetFits (length g.blocks) c
      one (inl q) = let h = f.some in (omega arith, omega arith)
      one (inr q) = absurd q
  targets_fit exit c (returning e) m = absurd (subst (λ z. IsIn c (targets_of z)) e m)
  targets_fit exit c (stopping trap e) m = absurd (subst (λ z. IsIn c (targets_of z)) e m)

  -- places

  role_of_place : (v a : ℕ) → IsPlace g v a → HasRole roles v (PlaceOf a)
  role_of_place v a (in_own i at own) = (op_fits (Place v a i) at).0
  role_of_place v a (in_handed u i at) = (op_fits (PlaceIn v a u i) at).0

  same_role : (v a t : ℕ) (role : Role) → HasRole roles v (PlaceOf a) → HasRole roles t role → IsIn v (t ∷ []) → PlaceOf a ≡ role
  same_role v a t role p h (inl e) = role_is roles v (PlaceOf a) role p (subst (λ z. HasRole roles z role) (sym e) h)
  same_role v a t role p h (inr m) = absurd m

  no_scalar : (v a t : ℕ) → HasRole roles v (PlaceOf a) → HasRole roles t Scalar → IsIn v (t ∷ []) → ⊥
  no_scalar v a t p h m = let e : PlaceOf a ≡ Scalar = same_role v a t Scalar p h m in cc

  place_written : (v a : ℕ) (op : Op) → HasRole roles v (PlaceOf a) → OpFits k texts roles op → IsIn v (writes op) → MakesPlace v a op
  place_written v a (Compute code t l r) p h m = absurd (written_no_place code a (sym (same_role v a t (role_written code) p h.0 m)))
  place_written v a (Select t test l r) p h m = absurd h
  place_written v a (Place t c i) p h m =
      let e : PlaceOf a ≡ PlaceOf c = same_role v a t (PlaceOf c) p h.0 m in
      let q : a ≡ c = cc in
      subst (λ z. MakesPlace v a (Place z c i)) (in_one v t m) (subst (λ z. MakesPlace v a (Place v z i)) q by_itself)
  place_written v a (Load t c o dismissible) p h m = absurd (no_scalar v a t p h.0 m)
  place_written v a (More t) p h m = absurd (no_scalar v a t p h m)
  place_written v a (Input t) p h m = absurd (no_scalar v a t p h m)
  place_written v a (Across t u) p h m = absurd h
  place_written v a (Base t c x) p h m = let e : PlaceOf a ≡ Stand = same_role v a t Stand p h.0 m in absurd (cc)
  place_written v a (PlaceIn t c u i) p h m =
      let e : PlaceOf a ≡ PlaceOf c = same_role v a t (PlaceOf c) p h.0 m in
      let q : a ≡ c = cc in
      subst (λ z. MakesPlace v a (PlaceIn z c u i)) (in_one v t m) (subst (λ z. MakesPlace v a (PlaceIn v z u i)) q by_base)
  place_written v a op p h m = absurd m

  computed : (v a : ℕ) (code : Code) (t : ℕ) (l r : Operand) → HasRole roles v (PlaceOf a) → OpFits k texts roles (Compute code t l r) → IsIn v (reads (Compute code t l r)) → ⊥
  computed v a Mov t l r p h m = no_operand roles v a l p h.1 m
  computed v a code t l r p h m = elim (in_either v (value_in l) (value_in r) m) [ inl w ↦ no_operand roles v a l p h.1 w | inr w ↦ no_operand roles v a r p h.2 w ]

  -- a value that is a place is read as a place of its own array
  array_is : (v a c : ℕ) (o : Operand) → HasRole roles v (PlaceOf a) → PlaceFits k roles c o → o ≡ Held v → c ≡ a
  array_is v a c o p h e = let q : PlaceOf c ≡ PlaceOf a = role_is roles v (PlaceOf c) (PlaceOf a) (subst (PlaceFits k roles c) e h) p in cc

  place_read : (v a : ℕ) (op : Op) → HasRole roles v (PlaceOf a) → OpFits k texts roles op → IsIn v (reads op) → ReadAsPlace v a op
  place_read v a (Compute code t l r) p h m = absurd (computed v a code t l r p h m)
  place_read v a (Select t test l r) p h m = absurd h
  place_read v a (Place t c i) p h m = absurd (no_operand roles v a i p h.2 m)
  place_read v a (Load t c o dismissible) p h m =
      let e = in_value v o m in
      let q = array_is v a c o p h.2 e in
      record {
        access = subst (λ z. IsAccess a (Held v) (Load t z o dismissible)) (sym q) (subst (λ z. IsAccess a (Held v) (Load t a z dismissible)) (sym e) loads);
        unstored = λ x d n. cc;
      }
  place_read v a (Store c o u) p h m = elim (in_either v (value_in o) (value_in u) m) [ inl w ↦ stored (in_value v o w) | inr w ↦ absurd (no_operand roles v a u p h.2 w) ]
    where
      stored : o ≡ Held v → ReadAsPlace v a (Store c o u)
      stored e =
          let q = array_is v a c o p h.1 e in
          record {
            access = subst (λ z. IsAccess a (Held v) (Store z o u)) (sym q) (subst (λ z. IsAccess a (Held v) (Store a z u)) (sym e) stores);
            unstored = λ x d n. let w : u ≡ Held v = cc in no_operand roles v a u p h.2 (subst (λ z. IsIn v (value_in z)) (sym w) (inl refl));
          }
  place_read v a (Decimal o) p h m = absurd (no_operand roles v a o p h m)
  place_read v a (Across t u) p h m = absurd h
  place_read v a (PlaceIn t c u i) p h m = elim (in_either v (value_in i) (u ∷ []) m) [
    | inl w ↦ absurd (no_operand roles v a i p h.3 w)
    | inr w ↦ let e : PlaceOf a ≡ Stand = role_is roles v (PlaceOf a) Stand p (subst (λ z. HasRole roles z Stand) (sym (in_one v u w)) (base_fits_role c u h.1 h.2)) in absurd (cc)
  ]
  place_read v a op p h m = absurd m

  no_passes : (v a : ℕ) (x : Operand) → HasRole roles v (PlaceOf a) → x ≡ Held v → Passes x → ⊥
  no_passes v a x p e (inl h) = no_operand roles v a (Held v) p (subst (OperandFits roles) e h) (inl refl)
  no_passes v a x p e (inr h) = let q : PlaceOf a ≡ Stand = role_is roles v (PlaceOf a) Stand p (subst (StandFits roles) e h) in cc

  no_exit : (v a : ℕ) (exit : Exit) → HasRole roles v (PlaceOf a) → ExitIs exit → IsIn (Held v) (operands_of_exit exit) ⊎ IsIn v (results_of_exit exit) → ⊥
  no_exit v a exit p x (inl m) = no_passes v a (Held v) p refl (exit_operands_of exit (Held v) x m)
  no_exit v a exit p x (inr m) = let e : PlaceOf a ≡ Scalar = role_is roles v (PlaceOf a) Scalar p (exit_results_of exit v x m) in cc

  accessed : (a : ℕ) (p : Operand) (op : Op) → IsAccess a p op → OpFits k texts roles op → PlaceFits k roles a p
  accessed a p op loads h = h.2
  accessed a p op stores h = h.1

  -- a place that was made is one
  placed_there : (v a : ℕ) (op : Op) → MakesPlace v a op → HasOperation g op → is_local g.arrays a ≡ true → IsPlace g v a
  placed_there v a op (by_itself {i = i}) at own = in_own i at own
  placed_there v a op (by_base {u = u} {i = i}) at own = in_handed u i at

  placed : (a : ℕ) (p : Operand) → PlaceFits k roles a p → is_local g.arrays a ≡ true → ((n : ℤ) × (p ≡ Number n)) ⊎ ((v : ℕ) × (p ≡ Held v) × IsPlace g v a)
  placed a (Held v) h own = let m = f.made v a h in inr (v, refl, placed_there v a m.0 m.1 (is_there m.0 m.2) own)
  placed a (Number n) h own = inl (n, refl)
  placed a Stack h own = absurd h

  -- arrays that are handed over

  bare_of : (a : ℕ) → a < length words.arrays → NotHanded (seen_at words a) → base_at g.arrays a ≡ None
  bare_of a l h = by (seen_at words a) refl h
    where
      by : (x : Seen) → seen_at words a ≡ x → NotHanded x → base_at g.arrays a ≡ None
      by (GlobalArray n) e h = ap base_of (array_is_there a (GlobalArray n) (seen_there a l ∙ ap Some e))
      by (OwnArray n) e h = ap base_of (array_is_there a (OwnArray n) (seen_there a l ∙ ap Some e))
      by (Handed base size) e h = absurd h

  based_of : (a u : ℕ) → a < length words.arrays → BaseFits (seen_at words a) u → base_at g.arrays a ≡ Some u
  based_of a u l h = by (seen_at words a) refl h
    where
      by : (x : Seen) → seen_at words a ≡ x → BaseFits x u → base_at g.arrays a ≡ Some u
      by (GlobalArray n) e h = absurd h
      by (OwnArray n) e h = absurd h
      by (Handed base size) e h = ap base_of (array_is_there a (Handed base size) (seen_there a l ∙ ap Some e)) ∙ ap Some (sym h)

  from_of : (a : ℕ) (x : Operand) → a < length words.arrays → FromFits (seen_at words a) x → IsMadeFrom g a x
  from_of a x l h = by (seen_at words a) refl h
    where
      by : (y : Seen) → seen_at words a ≡ y → FromFits y x → IsMadeFrom g a x
      by (GlobalArray n) e h = record { array = array_for a (GlobalArray n); is = array_is_there a (GlobalArray n) (seen_there a l ∙ ap Some e); bare = refl; from = h }
      by (OwnArray n) e h = record { array = array_for a (OwnArray n); is = array_is_there a (OwnArray n) (seen_there a l ∙ ap Some e); bare = refl; from = h }
      by (Handed base size) e h = absurd h

  placed_by : (a u : ℕ) (p : Operand) → PlaceFits k roles a p → base_at g.arrays a ≡ Some u → (v : ℕ) × (p ≡ Held v) × IsPlace g v a
  placed_by a u (Held v) h e = let m = f.made v a h in (v, refl, by m.0 m.1 (is_there m.0 m.2))
    where
      by : (op : Op) → MakesPlace v a op → HasOperation g op → IsPlace g v a
      by op (by_base {u = w} {i = i}) at = in_handed w i at
      by op (by_itself {i = i}) at = let fit = op_fits (Place v a i) at in absurd (no_some (sym (bare_of a fit.1 fit.3) ∙ e))
  placed_by a u (Number n) h e =
      let y = base_seen a u e in
      let same : Some (Handed u y.0) ≡ Some (GlobalArray h.0) = sym y.1 ∙ h.1 in
      absurd (no_global same)
    where
      no_global : {c m : ℕ} → Some (Handed u c) ≡ Some (GlobalArray m) → ⊥
      no_global r = cc
  placed_by a u Stack h e = absurd h

  handed : (a v : ℕ) (array : Array) → slice_get g.arrays a ≡ Some array → array.base ≡ Some v → (array.global ≡ false) × (array.words ≡ 0) × IsIn v g.parameters
  handed a v array at e =
      let y = base_seen a v (ap base_of at ∙ e) in
      let same : array ≡ array_for a (Handed v y.0) = same_item array (array_for a (Handed v y.0)) (slice_get g.arrays a) at (array_is_there a (Handed v y.0) y.1) in
      (ap (λ z. z.global) same, ap (λ z. z.words) same, passed.bases a v y.0 y.1)

  -- bases

  role_of_base : (v : ℕ) → IsBase g v → HasRole roles v Stand
  role_of_base v (given a e) = let y = base_seen a v e in stand_of a v y.0 y.1
  role_of_base v (made a x at) = (op_fits (Base v a x) at).0

  same_stand : (v t : ℕ) (role : Role) → HasRole roles v Stand → HasRole roles t role → IsIn v (t ∷ []) → Stand ≡ role
  same_stand v t role p h m = role_is roles v Stand role p (subst (λ z. HasRole roles z role) (sym (in_one v t m)) h)

  no_scalar_stand : (v t : ℕ) → HasRole roles v Stand → HasRole roles t Scalar → IsIn v (t ∷ []) → ⊥
  no_scalar_stand v t p h m = let e : Stand ≡ Scalar = same_stand v t Scalar p h m in cc

  base_written : (v : ℕ) (op : Op) → HasRole roles v Stand → OpFits k texts roles op → IsIn v (writes op) → (a : ℕ) × (x : Operand) × (op ≡ Base v a x)
  base_written v (Compute code t l r) p h m = absurd (written_no_stand code (sym (same_stand v t (role_written code) p h.0 m)))
  base_written v (Select t test l r) p h m = absurd h
  base_written v (Place t c i) p h m = let e : Stand ≡ PlaceOf c = same_stand v t (PlaceOf c) p h.0 m in absurd (cc)
  base_written v (Load t c o dismissible) p h m = absurd (no_scalar_stand v t p h.0 m)
  base_written v (More t) p h m = absurd (no_scalar_stand v t p h m)
  base_written v (Input t) p h m = absurd (no_scalar_stand v t p h m)
  base_written v (Across t u) p h m = absurd h
  base_written v (Base t c x) p h m = (c, x, ap (λ z. Base z c x) (sym (in_one v t m)))
  base_written v (PlaceIn t c u i) p h m = let e : Stand ≡ PlaceOf c = same_stand v t (PlaceOf c) p h.0 m in absurd (cc)
  base_written v op p h m = absurd m

  no_place_stand : (v a : ℕ) (o : Operand) → HasRole roles v Stand → PlaceFits k roles a o → IsIn v (value_in o) → ⊥
  no_place_stand v a o p h m = let e : Stand ≡ PlaceOf a = role_is roles v Stand (PlaceOf a) p (subst (PlaceFits k roles a) (in_value v o m) h) in cc

  computes_no_base : (v : ℕ) (code : Code) (t : ℕ) (l r : Operand) → HasRole roles v Stand → OpFits k texts roles (Compute code t l r) → IsIn v (reads (Compute code t l r)) → ⊥
  computes_no_base v Mov t l r p h m = no_number roles v l p h.1 m
  computes_no_base v code t l r p h m = elim (in_either v (value_in l) (value_in r) m) [ inl w ↦ no_number roles v l p h.1 w | inr w ↦ no_number roles v r p h.2 w ]

  base_read : (v : ℕ) (op : Op) → HasRole roles v Stand → OpFits k texts roles op → IsIn v (reads op) → (w a : ℕ) × (i : Operand) × (op ≡ PlaceIn w a v i) × (i ≡ Held v → ⊥)
  base_read v (Compute code t l r) p h m = absurd (computes_no_base v code t l r p h m)
  base_read v (Select t test l r) p h m = absurd h
  base_read v (Place t c i) p h m = absurd (no_number roles v i p h.2 m)
  base_read v (Load t c o dismissible) p h m = absurd (no_place_stand v c o p h.2 m)
  base_read v (Store c o u) p h m = elim (in_either v (value_in o) (value_in u) m) [ inl w ↦ absurd (no_place_stand v c o p h.1 w) | inr w ↦ absurd (no_number roles v u p h.2 w) ]
  base_read v (Decimal o) p h m = absurd (no_number roles v o p h m)
  base_read v (Across t u) p h m = absurd h
  base_read v (PlaceIn t c u i) p h m = elim (in_either v (value_in i) (u ∷ []) m) [
    | inl w ↦ absurd (no_number roles v i p h.3 w)
    | inr w ↦ (t, c, i, ap (λ z. PlaceIn t c z i) (sym (in_one v u w)), λ e. no_number roles v i p h.3 (subst (λ z. IsIn v (value_in z)) (sym e) (inl refl)))
  ]
  base_read v op p h m = absurd m

  -- the roles of parameters
  role_of_parameter : (v : ℕ) → IsIn v g.parameters → HasRole roles v Scalar ⊎ IsHandedBase words v
  role_of_parameter v m = elim (passed.known v m) [
    | inl l ↦ inl (f.scalars v l)
    | inr y ↦ elim y.4 [
      | inl e ↦ inr (y.0, y.2, y.3 ∙ ap (λ z. Some (Handed z y.2)) (sym e))
      | inr e ↦ inl (subst (λ z. HasRole roles z Scalar) (sym e) (size_of_role y.0 y.1 y.2 y.3))
    ]
  ]

  parameter_general : (v : ℕ) → IsIn v g.parameters → slice_get g.banks v ≡ Some General
  parameter_general v m = elim (role_of_parameter v m) [ inl h ↦ has_bank v Scalar h | inr y ↦ has_bank v Stand (stand_of y.0 v y.1 y.2) ]

  place_no_parameter : (v a : ℕ) → HasRole roles v (PlaceOf a) → IsIn v g.parameters → ⊥
  place_no_parameter v a p m = elim (role_of_parameter v m) [
    | inl h ↦ let e : PlaceOf a ≡ Scalar = role_is roles v (PlaceOf a) Scalar p h in cc
    | inr y ↦ let e : PlaceOf a ≡ Stand = role_is roles v (PlaceOf a) Stand p (stand_of y.0 v y.1 y.2) in cc
  ]

  base_no_parameter : (v a : ℕ) (x : Operand) → HasOperation g (Base v a x) → IsIn v g.parameters → ⊥
  base_no_parameter v a x at m = let h = op_fits (Base v a x) at in elim (role_of_parameter v m) [
    | inl r ↦ let e : Stand ≡ Scalar = role_is roles v Stand Scalar h.0 r in cc
    | inr y ↦ h.3 y
  ]

  returned_no_base : (v : ℕ) (x : Operand) → HasRole roles v Stand → x ≡ Held v → ExitIs (Return x) → ⊥
  returned_no_base v x p e (fitting h) = no_number roles v (Held v) p (subst (OperandFits roles) e h) (inl refl)
  returned_no_base v x p e (jumping c l w q) = cc
  returned_no_base v x p e (returning q) = let is : Number (pos 0) ≡ Held v = let r : Return x ≡ Return (Number (pos 0)) = q in let y : x ≡ Number (pos 0) = cc in sym y ∙ e in cc
  returned_no_base v x p e (stopping trap q) = cc

  is_sound : Sound g
  is_sound = record {
    parameters = parameter_general;
    operands = λ op x at m. operands op x (op_fits op at) m;
    results = λ op v at m. results op v (op_fits op at) m;
    tests = λ op v at m. absurd (tests op v (op_fits op at) m);
    arrays = λ op a at m. arrays_there op a (op_fits op at) m;
    exit_operands = λ exit x at m. passes_of x (exit_operands_of exit x (exit_fits exit at) m);
    exit_results = λ exit v at m. has_bank v Scalar (exit_results_of exit v (exit_fits exit at) m);
    exit_tests = λ exit v at m. exit_tests_of exit v (exit_fits exit at) m;
    targets = λ exit c at m. (targets_fit exit c (exit_fits exit at) m).1;
    no_across = λ v u at. op_fits (Across v u) at;
    base_from = λ v a x at. let h = op_fits (Base v a x) at in from_of a x h.1 h.2;
    place_bare = λ v a i at. let h = op_fits (Place v a i) at in bare_of a h.1 h.3;
    place_base = λ v a u i at. let h = op_fits (PlaceIn v a u i) at in based_of a u h.1 h.2;
    place_written = λ v a op p at m. place_written v a op (role_of_place v a p) (op_fits op at) m;
    place_read = λ v a op p at m. place_read v a op (role_of_place v a p) (op_fits op at) m;
    place_parameter = λ v a p m. place_no_parameter v a (role_of_place v a p) m;
    place_exit = λ v a exit p at m. no_exit v a exit (role_of_place v a p) (exit_fits exit at) m;
    placed = λ a p op at access own. placed a p (accessed a p op access (op_fits op at)) own;
    placed_by = λ a u p op at access e. placed_by a u p (accessed a p op access (op_fits op at)) e;
    handed = handed;
    base_written = λ v op p at m. base_written v op (role_of_base v p) (op_fits op at) m;
    base_parameter = base_no_parameter;
    base_read = λ v op p at m. base_read v op (role_of_base v p) (op_fits op at) m;
    base_result = λ v exit p at m. (let e : Stand ≡ Scalar = role_is roles v Stand Scalar (role_of_base v p) (exit_results_of exit v (exit_fits exit at) m) in cc);
    base_returned = λ v x p at e. returned_no_base v x (role_of_base v p) e (exit_fits (Return x) at);
    moves = λ v x y at. (op_fits (Compute Mov v x y) at).2;
  }

  -- edges

  apart : (test y z : ℕ) (exit : Exit) → ExitIs exit → exit ≡ Split test y z → y ≡ z → ⊥
  apart test y z exit (fitting h) e = (subst (ExitFits k roles (length b.blocks)) e h).3
  apart test y z exit (jumping c l w q) e = λ d. cc
  apart test y z exit (returning q) e = λ d. cc
  apart test y z exit (stopping trap q) e = λ d. cc

  -- what leads to d, which a split leads to
  leads_alone : (i j d : ℕ) (x block : Block) → slice_get b.blocks i ≡ Some (Some x) → IsIn d (split_targets x.exit) → Origin b.blocks (length g.blocks) j block → IsIn d (targets_of block.exit) → j ≡ i
  leads_alone i j d x block e m (stands y q w) n = sym (f.single i j x y d e q m (subst (λ z. IsIn d (targets_of z.exit)) w n))
  leads_alone i j d x block e m (jumps c l h w) n = absurd (far (subst (λ z. IsIn d (targets_of z.exit)) w n))
    where
      far : IsIn d (c ∷ []) → ⊥
      far (inl q) = let t = target_fits k roles (length b.blocks) x.exit d (f.exits i x e) (split_is_target x.exit d m) in let u = t.1 in omega arith
      far (inr z) = z
  leads_alone i j d x block e m (returns w) n = absurd (subst (λ z. IsIn d (targets_of z.exit)) w n)
  leads_alone i j d x block e m (stops trap w) n = absurd (subst (λ z. IsIn d (targets_of z.exit)) w n)

  split_origin : (i j d : ℕ) (one other : Block) → Origin b.blocks (length g.blocks) i one → IsIn d (split_targets one.exit) → Origin b.blocks (length g.blocks) j other → IsIn d (targets_of other.exit) → j ≡ i
  split_origin i j d one other (stands x q w) m o n = leads_alone i j d x other q (subst (λ z. IsIn d (split_targets z.exit)) w m) o n
  split_origin i j d one other (jumps c l h w) m o n = absurd (subst (λ z. IsIn d (split_targets z.exit)) w m)
  split_origin i j d one other (returns w) m o n = absurd (subst (λ z. IsIn d (split_targets z.exit)) w m)
  split_origin i j d one other (stops trap w) m o n = absurd (subst (λ z. IsIn d (split_targets z.exit)) w m)

  uncritical : (i c d j : ℕ) → IsEdge g i c → IsEdge g i d → (c ≡ d → ⊥) → IsEdge g j d → j ≡ i
  uncritical i c d j x y n z =
      let same = same_item y.block x.block (slice_get g.blocks i) y.has x.has in
      let split = two_targets x.block.exit c d x.leads (subst (λ q. IsIn d (targets_of q.exit)) same y.leads) n in
      split_origin i j d x.block z.block (origin b.blocks g.blocks s i x.block x.has) split (origin b.blocks g.blocks s j z.block z.has) z.leads

  -- what is passed

  number_is_none : (o : Operand) → OperandFits roles o → is_base_operand g o ≡ false
  number_is_none (Held v) h = by (is_base g v) refl
    where
      by : (t : Bool) → is_base g v ≡ t → is_base g v ≡ false
      by false e = e
      by true e = let q : Stand ≡ Scalar = role_is roles v Stand Scalar (role_of_base v (tested_base g v e)) h in absurd (cc)
  number_is_none (Number n) h = refl
  number_is_none Stack h = absurd h

  stand_is_one : (o : Operand) → StandFits roles o → is_base_operand g o ≡ true
  stand_is_one (Held v) h = elim (f.stands v h) [
    | inl y ↦ base_tested g v (given y.0 (ap base_of (array_is_there y.0 (Handed v y.1) y.2)))
    | inr m ↦ base_tested g v (made m.1.0 m.1.1 (subst (HasOperation g) m.1.2 (is_there m.0 m.2)))
  ]
  stand_is_one (Number n) h = absurd h
  stand_is_one Stack h = absurd h

  hands : (takes : List Kind) (os : List Operand) → ArgumentsFit roles takes os → HandsOver g takes os
  hands [] [] h = tt
  hands [] (o ∷ os) h = h
  hands (TakesNumber ∷ takes) [] h = h
  hands (TakesNumber ∷ takes) (o ∷ os) h = (number_is_none o h.0, hands takes os h.1)
  hands (TakesArray ∷ takes) [] h = h
  hands (TakesArray ∷ takes) (o ∷ []) h = h
  hands (TakesArray ∷ takes) (o ∷ n ∷ os) h = (stand_is_one o h.0, number_is_none n h.1, hands takes os h.2)

  called : (exit : Exit) (n : ℕ) (os : List Operand) (result : Option ℕ) (next : ℕ) → ExitIs exit → exit ≡ Call n os result next → (takes : List Kind) × TakesArguments k n takes × HandsOver g takes os
  called exit n os result next (fitting h) e = let w = (subst (ExitFits k roles (length b.blocks)) e h).0 in (w.0, w.1, hands w.0 os w.2)
  called exit n os result next (jumping c l w q) e = absurd (cc)
  called exit n os result next (returning q) e = absurd (cc)
  called exit n os result next (stopping trap q) e = absurd (cc)

  well_shaped : WellShaped k texts g
  well_shaped = let l = s.longer in let h = f.some in record {
    sound = sound_of g is_sound;
    some = omega arith;
    loads = λ v a p dismissible at. (op_fits (Load v a p dismissible) at).3;
    texts_there = λ n at. op_fits (Text n) at;
    calls = λ n os result next at. called (Call n os result next) n os result next (exit_fits (Call n os result next) at) refl;
    apart = λ i block test y z e q. apart test y z block.exit (exit_at i block e) q;
    uncritical = uncritical;
    entry = λ i x. let t = targets_fit x.block.exit 0 (exit_at i x.block x.has) x.leads in let u = t.0 in omega arith;
  }

-- from the last graph that is being made
pub shape : (words : Sees) (k : Known words) (texts : ℕ) (roles : List Role) (b : Builder) (g : Graph) → Shaped k texts roles b → Settled (finally b).blocks g.blocks → g.banks ≡ b.banks → g.arrays ≡ arrays_from 0 words.arrays → ArePassed words g.parameters → WellShaped k texts g
shape words k texts roles b g h s banks arrays passed =
    let f = fits_closed k texts roles b (Return (Number (pos 0))) b.current h.fits h.ready tt (λ trap e. cc) (record { unsplit = λ c m. absurd m; untouched = λ c m. absurd m }) in
    well_shaped k texts roles (finally b) g f refl s banks arrays passed

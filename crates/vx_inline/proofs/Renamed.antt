-- What an operation with other values names, and what an exit that was linked anew has of the old one.
use Rattle.std.proofs.Common.{◌≡◌, ◌⊎◌, inl, inr, ℕ, Bool, true, false, cond, List, [], ◌∷◌, ◌++◌, Option, Some, None, refl, sym, ap, subst}
use Rattle.std.specs.List.{flat_map}
use Rattle.vx_base.specs.declared.arithmetic.Code.{Code}
use Rattle.vx_base.specs.declared.arithmetic.Code.TheVariants.{Mov, ToBranch}
use Rattle.vx_flow.specs.declared.graph.Operand.{Operand}
use Rattle.vx_flow.specs.declared.graph.Operand.TheVariants.{Held, Number, Stack}
use Rattle.vx_flow.specs.declared.graph.Op.{Op}
use Rattle.vx_flow.specs.declared.graph.Op.TheVariants.{Compute, Select, Place, Load, Store, More, Input, Text, Decimal, Across, Base, PlaceIn}
use Rattle.vx_flow.specs.declared.graph.Exit.{Exit}
use Rattle.vx_flow.specs.declared.graph.Exit.TheVariants.{Goto, Split, Call, Return, Ends}
use Rattle.vx_flow.specs.declared.graph.Block.{Block}
use Rattle.vx_flow.specs.declared.graph.Edge.{Edge}
use Rattle.vx_flow.specs.declared.graph.Graph.{Graph}
use Rattle.vx_flow.specs.Effects.{IsIn, is_unary, value_in, reads, writes}
use Rattle.vx_flow.specs.Live.{reads_of_exit}
use Rattle.vx_flow.specs.Operands.{with_value_in, with_values}
use Rattle.vx_flow.specs.Sound.{HasOperation, HasExit, IsAccess, loads, stores, operands_of, operands_of_exit, tests_of, tests_of_exit, bank_written, results_of_exit, arrays_of}
use Rattle.vx_flow.proofs.Members.{in_left, in_right, in_either}
use Rattle.vx_inline.specs.Inlined.{names, named_by, moved, moves_in, moves_out, move, relinked_exit}

-- ---- what a graph names

pub into_flat : {A B : Type 0} (f : A → List B) (xs : List A) (x : A) (y : B) → IsIn x xs → IsIn y (f x) → IsIn y (flat_map f xs)
into_flat f [] x y m n = absurd m
into_flat f (z ∷ xs) x y (inl e) n = in_left y (f z) (flat_map f xs) (subst (λ w. IsIn y (f w)) e n)
into_flat f (z ∷ xs) x y (inr m) n = in_right y (f z) (flat_map f xs) (into_flat f xs x y m n)

block_names : (g : Graph) (block : Block) (v : ℕ) → IsIn block g.blocks → IsIn v (named_by block) → IsIn v (names g)
block_names g block v m k = in_right v g.parameters (flat_map named_by g.blocks) (into_flat named_by g.blocks block v m k)

op_names : (g : Graph) (op : Op) (v : ℕ) → HasOperation g op → IsIn v (reads op ++ writes op) → IsIn v (names g)
op_names g op v h k =
    block_names g h.block v h.has (in_left v (flat_map (λ o. reads o ++ writes o) h.block.ops) (reads_of_exit h.block.exit ++ results_of_exit h.block.exit) (into_flat (λ o. reads o ++ writes o) h.block.ops op v h.stands k))

pub reads_named : (g : Graph) (op : Op) (v : ℕ) → HasOperation g op → IsIn v (reads op) → IsIn v (names g)
reads_named g op v h k = op_names g op v h (in_left v (reads op) (writes op) k)

pub writes_named : (g : Graph) (op : Op) (v : ℕ) → HasOperation g op → IsIn v (writes op) → IsIn v (names g)
writes_named g op v h k = op_names g op v h (in_right v (reads op) (writes op) k)

pub exit_reads_named : (g : Graph) (exit : Exit) (v : ℕ) → HasExit g exit → IsIn v (reads_of_exit exit) → IsIn v (names g)
exit_reads_named g exit v h k =
    block_names g h.block v h.has (in_right v (flat_map (λ o. reads o ++ writes o) h.block.ops) (reads_of_exit h.block.exit ++ results_of_exit h.block.exit)
    (in_left v (reads_of_exit h.block.exit) (results_of_exit h.block.exit) (subst (λ x. IsIn v (reads_of_exit x)) h.ends k)))

held_in : (v : ℕ) (x : Operand) → Held v ≡ x → IsIn v (value_in x)
held_in v x e = subst (λ y. IsIn v (value_in y)) e (inl refl)

one_read : (a : Operand) (v : ℕ) → IsIn (Held v) (a ∷ []) → IsIn v (value_in a)
one_read a v (inl e) = held_in v a e
one_read a v (inr z) = absurd z

two_read : (a b : Operand) (v : ℕ) → IsIn (Held v) (a ∷ b ∷ []) → IsIn v (value_in a ++ value_in b)
two_read a b v (inl e) = in_left v (value_in a) (value_in b) (held_in v a e)
two_read a b v (inr (inl e)) = in_right v (value_in a) (value_in b) (held_in v b e)
two_read a b v (inr (inr z)) = absurd z

compute_read : (code : Code) (u : ℕ) (a b : Operand) (v : ℕ) → IsIn (Held v) (operands_of (Compute code u a b)) → IsIn v (reads (Compute code u a b))
compute_read Mov u a b v m = one_read a v m
compute_read code u a b v m = two_read a b v m

-- an operand that holds a value is read
pub operand_read : (op : Op) (v : ℕ) → IsIn (Held v) (operands_of op) → IsIn v (reads op)
operand_read (Compute code u a b) v m = compute_read code u a b v m
operand_read (Select u p a b) v (inl e) = inr (in_left v (value_in a) (value_in b) (held_in v a e))
operand_read (Select u p a b) v (inr (inl e)) = inr (in_right v (value_in a) (value_in b) (held_in v b e))
operand_read (Select u p a b) v (inr (inr z)) = absurd z
operand_read (Place u a i) v (inl e) = held_in v i e
operand_read (Place u a i) v (inr z) = absurd z
operand_read (Load u a p d) v (inl e) = held_in v p e
operand_read (Load u a p d) v (inr z) = absurd z
operand_read (Store a p x) v (inl e) = in_left v (value_in p) (value_in x) (held_in v p e)
operand_read (Store a p x) v (inr (inl e)) = in_right v (value_in p) (value_in x) (held_in v x e)
operand_read (Store a p x) v (inr (inr z)) = absurd z
operand_read (More u) v m = absurd m
operand_read (Input u) v m = absurd m
operand_read (Text n) v m = absurd m
operand_read (Decimal x) v (inl e) = held_in v x e
operand_read (Decimal x) v (inr z) = absurd z
operand_read (Across u w) v m = absurd m
operand_read (Base u a x) v m = absurd m
operand_read (PlaceIn u a w i) v m = two_read i (Held w) v m

pub test_read : (op : Op) (v : ℕ) → IsIn v (tests_of op) → IsIn v (reads op)
test_read (Compute code u a b) v m = absurd m
test_read (Select u p a b) v (inl e) = inl e
test_read (Select u p a b) v (inr z) = absurd z
test_read (Place u a i) v m = absurd m
test_read (Load u a p d) v m = absurd m
test_read (Store a p x) v m = absurd m
test_read (More u) v m = absurd m
test_read (Input u) v m = absurd m
test_read (Text n) v m = absurd m
test_read (Decimal x) v m = absurd m
test_read (Across u w) v m = absurd m
test_read (Base u a x) v m = absurd m
test_read (PlaceIn u a w i) v m = absurd m

-- ---- with other values

module _ (to : ℕ → ℕ) where
  -- an item of the one list is what the function makes of one of the other
  abbrev pub FromOne : {X : Type 0} → (X → X) → List X → X → Type 0
  FromOne {X} f xs y = (x : X) × IsIn x xs × (y ≡ f x)

  value_from : (x : Operand) (v : ℕ) → IsIn v (value_in (with_value_in to x)) → FromOne to (value_in x) v
  value_from (Held u) v (inl e) = (u, inl refl, e)
  value_from (Held u) v (inr z) = absurd z
  value_from (Number n) v m = absurd m
  value_from Stack v m = absurd m

  pub value_renamed : (x : Operand) (v : ℕ) → IsIn v (value_in (with_value_in to x)) → (u : ℕ) × IsIn u (value_in x) × (v ≡ to u)
  value_renamed x v m = value_from x v m

  two_values : (x y : Operand) (v : ℕ) → IsIn v (value_in (with_value_in to x) ++ value_in (with_value_in to y)) → FromOne to (value_in x ++ value_in y) v
  two_values x y v m = by (in_either v (value_in (with_value_in to x)) (value_in (with_value_in to y)) m)
    where
      by : IsIn v (value_in (with_value_in to x)) ⊎ IsIn v (value_in (with_value_in to y)) → FromOne to (value_in x ++ value_in y) v
      by (inl k) = let r = value_from x v k in (r.0, in_left r.0 (value_in x) (value_in y) r.1, r.2)
      by (inr k) = let r = value_from y v k in (r.0, in_right r.0 (value_in x) (value_in y) r.1, r.2)

  pub reads_renamed : (op : Op) (v : ℕ) → IsIn v (reads (with_values to op)) → (u : ℕ) × IsIn u (reads op) × (v ≡ to u)
  reads_renamed (Compute code w a b) v m = by (is_unary code) m
    where
      by : (t : Bool) → IsIn v (cond t (value_in (with_value_in to a)) (value_in (with_value_in to a) ++ value_in (with_value_in to b))) → FromOne to (cond t (value_in a) (value_in a ++ value_in b)) v
      by true k = value_from a v k
      by false k = two_values a b v k
  reads_renamed (Select w p a b) v (inl e) = (p, inl refl, e)
  reads_renamed (Select w p a b) v (inr m) = let r = two_values a b v m in (r.0, inr r.1, r.2)
  reads_renamed (Place w a i) v m = value_from i v m
  reads_renamed (Load w a p d) v m = value_from p v m
  reads_renamed (Store a p x) v m = two_values p x v m
  reads_renamed (More w) v m = absurd m
  reads_renamed (Input w) v m = absurd m
  reads_renamed (Text n) v m = absurd m
  reads_renamed (Decimal x) v m = value_from x v m
  reads_renamed (Across w u) v (inl e) = (u, inl refl, e)
  reads_renamed (Across w u) v (inr z) = absurd z
  reads_renamed (Base w a x) v m = absurd m
  reads_renamed (PlaceIn w a u i) v m = two_values i (Held u) v m

  one_written : (w v : ℕ) → IsIn v (to w ∷ []) → FromOne to (w ∷ []) v
  one_written w v (inl e) = (w, inl refl, e)
  one_written w v (inr z) = absurd z

  pub writes_renamed : (op : Op) (v : ℕ) → IsIn v (writes (with_values to op)) → (u : ℕ) × IsIn u (writes op) × (v ≡ to u)
  writes_renamed (Compute code w a b) v m = one_written w v m
  writes_renamed (Select w p a b) v m = one_written w v m
  writes_renamed (Place w a i) v m = one_written w v m
  writes_renamed (Load w a p d) v m = one_written w v m
  writes_renamed (Store a p x) v m = absurd m
  writes_renamed (More w) v m = one_written w v m
  writes_renamed (Input w) v m = one_written w v m
  writes_renamed (Text n) v m = absurd m
  writes_renamed (Decimal x) v m = absurd m
  writes_renamed (Across w u) v m = one_written w v m
  writes_renamed (Base w a x) v m = one_written w v m
  writes_renamed (PlaceIn w a u i) v m = one_written w v m

  pub tests_renamed : (op : Op) (v : ℕ) → IsIn v (tests_of (with_values to op)) → (u : ℕ) × IsIn u (tests_of op) × (v ≡ to u)
  tests_renamed (Compute code w a b) v m = absurd m
  tests_renamed (Select w p a b) v m = one_written p v m
  tests_renamed (Place w a i) v m = absurd m
  tests_renamed (Load w a p d) v m = absurd m
  tests_renamed (Store a p x) v m = absurd m
  tests_renamed (More w) v m = absurd m
  tests_renamed (Input w) v m = absurd m
  tests_renamed (Text n) v m = absurd m
  tests_renamed (Decimal x) v m = absurd m
  tests_renamed (Across w u) v m = absurd m
  tests_renamed (Base w a x) v m = absurd m
  tests_renamed (PlaceIn w a u i) v m = absurd m

  bank_compute : (code : Code) (w : ℕ) (a b : Operand) → bank_written (Compute code (to w) (with_value_in to a) (with_value_in to b)) ≡ bank_written (Compute code w a b)
  bank_compute (ToBranch compare) w a b = refl
  bank_compute code w a b = refl

  pub bank_renamed : (op : Op) → bank_written (with_values to op) ≡ bank_written op
  bank_renamed (Compute code w a b) = bank_compute code w a b
  bank_renamed (Select w p a b) = refl
  bank_renamed (Place w a i) = refl
  bank_renamed (Load w a p d) = refl
  bank_renamed (Store a p x) = refl
  bank_renamed (More w) = refl
  bank_renamed (Input w) = refl
  bank_renamed (Text n) = refl
  bank_renamed (Decimal x) = refl
  bank_renamed (Across w u) = refl
  bank_renamed (Base w a x) = refl
  bank_renamed (PlaceIn w a u i) = refl

  pub arrays_renamed : (op : Op) → arrays_of (with_values to op) ≡ arrays_of op
  arrays_renamed (Compute code w a b) = refl
  arrays_renamed (Select w p a b) = refl
  arrays_renamed (Place w a i) = refl
  arrays_renamed (Load w a p d) = refl
  arrays_renamed (Store a p x) = refl
  arrays_renamed (More w) = refl
  arrays_renamed (Input w) = refl
  arrays_renamed (Text n) = refl
  arrays_renamed (Decimal x) = refl
  arrays_renamed (Across w u) = refl
  arrays_renamed (Base w a x) = refl
  arrays_renamed (PlaceIn w a u i) = refl

  abbrev OperandFrom : List Operand → Operand → Type 0
  OperandFrom xs y = (x : Operand) × IsIn x xs × (y ≡ with_value_in to x)

  one_operand : (a y : Operand) → IsIn y (with_value_in to a ∷ []) → OperandFrom (a ∷ []) y
  one_operand a y (inl e) = (a, inl refl, e)
  one_operand a y (inr z) = absurd z

  two_operands : (a b y : Operand) → IsIn y (with_value_in to a ∷ with_value_in to b ∷ []) → OperandFrom (a ∷ b ∷ []) y
  two_operands a b y (inl e) = (a, inl refl, e)
  two_operands a b y (inr (inl e)) = (b, inr (inl refl), e)
  two_operands a b y (inr (inr z)) = absurd z

  compute_operands : (code : Code) (w : ℕ) (a b y : Operand) → IsIn y (operands_of (Compute code (to w) (with_value_in to a) (with_value_in to b))) → OperandFrom (operands_of (Compute code w a b)) y
  compute_operands Mov w a b y m = one_operand a y m
  compute_operands code w a b y m = two_operands a b y m

  pub operands_renamed : (op : Op) (y : Operand) → IsIn y (operands_of (with_values to op)) → (x : Operand) × IsIn x (operands_of op) × (y ≡ with_value_in to x)
  operands_renamed (Compute code w a b) y m = compute_operands code w a b y m
  operands_renamed (Select w p a b) y m = two_operands a b y m
  operands_renamed (Place w a i) y m = one_operand i y m
  operands_renamed (Load w a p d) y m = one_operand p y m
  operands_renamed (Store a p x) y m = two_operands p x y m
  operands_renamed (More w) y m = absurd m
  operands_renamed (Input w) y m = absurd m
  operands_renamed (Text n) y m = absurd m
  operands_renamed (Decimal x) y m = one_operand x y m
  operands_renamed (Across w u) y m = absurd m
  operands_renamed (Base w a x) y m = absurd m
  operands_renamed (PlaceIn w a u i) y m = two_operands i (Held u) y m

  -- which operations become these

  pub place_renamed : (op : Op) (v a : ℕ) (i : Operand) → Place v a i ≡ with_values to op → IsIn a (arrays_of op)
  place_renamed (Compute code w x y) v a i e = absurd (cc)
  place_renamed (Select w p x y) v a i e = absurd (cc)
  place_renamed (Place w b j) v a i e = let q : a ≡ b = cc in inl q
  place_renamed (Load w b p d) v a i e = absurd (cc)
  place_renamed (Store b p x) v a i e = absurd (cc)
  place_renamed (More w) v a i e = absurd (cc)
  place_renamed (Input w) v a i e = absurd (cc)
  place_renamed (Text n) v a i e = absurd (cc)
  place_renamed (Decimal x) v a i e = absurd (cc)
  place_renamed (Across w u) v a i e = absurd (cc)
  place_renamed (Base w b x) v a i e = absurd (cc)
  place_renamed (PlaceIn w b u j) v a i e = absurd (cc)

  pub base_renamed : (op : Op) (v a : ℕ) (x : Operand) → Base v a x ≡ with_values to op → (w b : ℕ) × (y : Operand) × (op ≡ Base w b y)
  base_renamed (Compute code w x y) v a z e = absurd (cc)
  base_renamed (Select w p x y) v a z e = absurd (cc)
  base_renamed (Place w b j) v a z e = absurd (cc)
  base_renamed (Load w b p d) v a z e = absurd (cc)
  base_renamed (Store b p x) v a z e = absurd (cc)
  base_renamed (More w) v a z e = absurd (cc)
  base_renamed (Input w) v a z e = absurd (cc)
  base_renamed (Text k) v a z e = absurd (cc)
  base_renamed (Decimal x) v a z e = absurd (cc)
  base_renamed (Across w c) v a z e = absurd (cc)
  base_renamed (Base w b y) v a z e = (w, b, y, refl)
  base_renamed (PlaceIn w b u j) v a z e = absurd (cc)

  pub handed_renamed : (op : Op) (v a u : ℕ) (i : Operand) → PlaceIn v a u i ≡ with_values to op → (w b t : ℕ) × (j : Operand) × (op ≡ PlaceIn w b t j)
  handed_renamed (Compute code w x y) v a u i e = absurd (cc)
  handed_renamed (Select w p x y) v a u i e = absurd (cc)
  handed_renamed (Place w b j) v a u i e = absurd (cc)
  handed_renamed (Load w b p d) v a u i e = absurd (cc)
  handed_renamed (Store b p x) v a u i e = absurd (cc)
  handed_renamed (More w) v a u i e = absurd (cc)
  handed_renamed (Input w) v a u i e = absurd (cc)
  handed_renamed (Text k) v a u i e = absurd (cc)
  handed_renamed (Decimal x) v a u i e = absurd (cc)
  handed_renamed (Across w c) v a u i e = absurd (cc)
  handed_renamed (Base w b y) v a u i e = absurd (cc)
  handed_renamed (PlaceIn w b t j) v a u i e = (w, b, t, j, refl)

  pub text_renamed : (op : Op) (n : ℕ) → Text n ≡ with_values to op → op ≡ Text n
  text_renamed (Compute code w x y) n e = absurd (cc)
  text_renamed (Select w p x y) n e = absurd (cc)
  text_renamed (Place w b j) n e = absurd (cc)
  text_renamed (Load w b p d) n e = absurd (cc)
  text_renamed (Store b p x) n e = absurd (cc)
  text_renamed (More w) n e = absurd (cc)
  text_renamed (Input w) n e = absurd (cc)
  text_renamed (Text k) n e = sym e
  text_renamed (Decimal x) n e = absurd (cc)
  text_renamed (Across w u) n e = absurd (cc)
  text_renamed (Base w a x) n e = absurd (cc)
  text_renamed (PlaceIn w b u j) n e = absurd (cc)

  pub across_renamed : (op : Op) (v u : ℕ) → Across v u ≡ with_values to op → (w : ℕ) × (x : ℕ) × (op ≡ Across w x)
  across_renamed (Compute code w x y) v u e = absurd (cc)
  across_renamed (Select w p x y) v u e = absurd (cc)
  across_renamed (Place w b j) v u e = absurd (cc)
  across_renamed (Load w b p d) v u e = absurd (cc)
  across_renamed (Store b p x) v u e = absurd (cc)
  across_renamed (More w) v u e = absurd (cc)
  across_renamed (Input w) v u e = absurd (cc)
  across_renamed (Text k) v u e = absurd (cc)
  across_renamed (Decimal x) v u e = absurd (cc)
  across_renamed (Across w x) v u e = (w, x, refl)
  across_renamed (Base w a x) v u e = absurd (cc)
  across_renamed (PlaceIn w b u0 j) v u e = absurd (cc)

  pub record MoveFrom (op : Op) (b : Operand) : Type 0 where
    pub value : ℕ
    pub left : Operand
    pub right : Operand
    pub is : op ≡ Compute Mov value left right
    pub same : b ≡ with_value_in to right

  pub move_renamed : (op : Op) (v : ℕ) (a b : Operand) → Compute Mov v a b ≡ with_values to op → MoveFrom op b
  move_renamed (Compute code w x y) v a b e =
      let q : Mov ≡ code = cc in
      record { value = w; left = x; right = y; is = ap (λ k. Compute k w x y) (sym q); same = cc }
  move_renamed (Select w p x y) v a b e = absurd (cc)
  move_renamed (Place w c j) v a b e = absurd (cc)
  move_renamed (Load w c p d) v a b e = absurd (cc)
  move_renamed (Store c p x) v a b e = absurd (cc)
  move_renamed (More w) v a b e = absurd (cc)
  move_renamed (Input w) v a b e = absurd (cc)
  move_renamed (Text k) v a b e = absurd (cc)
  move_renamed (Decimal x) v a b e = absurd (cc)
  move_renamed (Across w x) v a b e = absurd (cc)
  move_renamed (Base w a1 x) v a b e = absurd (cc)
  move_renamed (PlaceIn w c u j) v a b e = absurd (cc)

  -- moves

  pub moves_from : (qs : List ℕ) (xs : List Operand) (op : Op) → IsIn op (moves_in to qs xs) → (q : ℕ) × (x : Operand) × IsIn q qs × IsIn x xs × (op ≡ move (to q) x)
  moves_from [] xs op m = absurd m
  moves_from (q ∷ qs) [] op m = absurd m
  moves_from (q ∷ qs) (x ∷ xs) op (inl e) = (q, x, inl refl, inl refl, e)
  moves_from (q ∷ qs) (x ∷ xs) op (inr m) = let r = moves_from qs xs op m in (r.0, r.1, inr r.2, inr r.3, r.4)

pub out_from : (result : Option ℕ) (x : Operand) (op : Op) → IsIn op (moves_out result x) → (v : ℕ) × (result ≡ Some v) × (op ≡ move v x)
out_from None x op m = absurd m
out_from (Some v) x op (inl e) = (v, refl, e)
out_from (Some v) x op (inr z) = absurd z

pub access_array : (a : ℕ) (p : Operand) (op : Op) → IsAccess a p op → IsIn a (arrays_of op)
access_array a p op loads = inl refl
access_array a p op stores = inl refl

-- ---- exits that were moved and linked anew

pub record SameValues (old new : Exit) : Type 0 where
  pub operands : operands_of_exit new ≡ operands_of_exit old
  pub results : results_of_exit new ≡ results_of_exit old
  pub tests : tests_of_exit new ≡ tests_of_exit old
  pub calls : (f next : ℕ) (arguments : List Operand) (result : Option ℕ) → new ≡ Call f arguments result next → (n : ℕ) × (old ≡ Call f arguments result n)
  pub returns : (x : Operand) → new ≡ Return x → old ≡ Return x

pub moved_same : (m : ℕ) (es : List Edge) (i : ℕ) (at : ℕ → ℕ) (exit : Exit) → SameValues exit (relinked_exit m es i (moved at exit))
moved_same m es i at (Goto d) = record { operands = refl; results = refl; tests = refl; calls = λ f n xs r e. absurd (cc); returns = λ y e. absurd (cc) }
moved_same m es i at (Split p d f) = record { operands = refl; results = refl; tests = refl; calls = λ g n xs r e. absurd (cc); returns = λ y e. absurd (cc) }
moved_same m es i at (Call f xs (Some v) d) = record { operands = refl; results = refl; tests = refl; calls = λ g n ys r e. (d, again f xs (Some v) d g ys r n _ e); returns = λ y e. absurd (cc) }
  where
    again : (f : ℕ) (xs : List Operand) (v : Option ℕ) (d g : ℕ) (ys : List Operand) (r : Option ℕ) (n k : ℕ) → Call f xs v k ≡ Call g ys r n → Call f xs v d ≡ Call g ys r d
    again f xs v d g ys r n k e = let a : f ≡ g = cc in let b : xs ≡ ys = cc in let c : v ≡ r = cc in cc
moved_same m es i at (Call f xs None d) = record { operands = refl; results = refl; tests = refl; calls = λ g n ys r e. (d, again f xs None d g ys r n _ e); returns = λ y e. absurd (cc) }
  where
    again : (f : ℕ) (xs : List Operand) (v : Option ℕ) (d g : ℕ) (ys : List Operand) (r : Option ℕ) (n k : ℕ) → Call f xs v k ≡ Call g ys r n → Call f xs v d ≡ Call g ys r d
    again f xs v d g ys r n k e = let a : f ≡ g = cc in let b : xs ≡ ys = cc in let c : v ≡ r = cc in cc
moved_same m es i at (Return x) = record { operands = refl; results = refl; tests = refl; calls = λ g n xs r e. absurd (cc); returns = λ y e. e }
moved_same m es i at (Ends k) = record { operands = refl; results = refl; tests = refl; calls = λ g n xs r e. absurd (cc); returns = λ y e. absurd (cc) }

-- A graph that is being made fits after each of its steps.
use Rattle.std.proofs.Common.{◌≡◌, ◌⊎◌, ℕ, zero, suc, ◌≤◌, List, [], ◌∷◌, ◌++◌, length, map, Option, Some, None, refl, sym, ap, ◌∙◌, subst, inl, inr, arith}
use Rattle.std.specs.Prelude.{slice_get, slice_set}
use Rattle.std.proofs.lemmas.List.{map-append, length-map}
use Rattle.std.proofs.lemmas.Option.{slice_get_within}
use Rattle.vx_base.specs.declared.arithmetic.Code.{Code}
use Rattle.vx_base.specs.declared.arithmetic.Code.TheVariants.{Mov}
use Rattle.vx_base.specs.declared.outcome.Trap.{Trap}
use Rattle.vx_flow.specs.declared.graph.Operand.{Operand}
use Rattle.vx_flow.specs.declared.graph.Operand.TheVariants.{Held, Number, Stack}
use Rattle.vx_flow.specs.declared.graph.Op.{Op}
use Rattle.vx_flow.specs.declared.graph.Op.TheVariants.{Compute, Place, Load, Store, More, Input, Decimal, Base, PlaceIn}
use Rattle.vx_flow.specs.declared.graph.Exit.{Exit}
use Rattle.vx_flow.specs.declared.graph.Exit.TheVariants.{Goto, Split, Call, Return, Ends}
use Rattle.vx_flow.specs.declared.graph.Block.{Block}
use Rattle.vx_flow.specs.Effects.{IsIn}
use Rattle.vx_flow.specs.Sound.{MakesPlace, targets_of}
use Rattle.vx_flow.proofs.Members.{in_left, in_front_or_last, in_last}
use Rattle.vx_lower.specs.Seen.{Sees}
use Rattle.vx_lower.specs.Builds.{reserved, closed, filled, turned_to, with_value, with_op, Ready}
use Rattle.vx_lower.specs.Named.{Known}
use Rattle.vx_ast.specs.declared.tree.Takes.{Takes as Kind}
use Rattle.vx_ast.specs.declared.tree.Takes.TheVariants.{Number as TakesNumber, Array as TakesArray}
use Rattle.vx_lower.specs.Fits.{Role, Scalar, Test, PlaceOf, Stand, bank_of_role, HasRole, OperandFits, PlaceFits, RightFits, role_written, OpFits, Has, opened, finished, TargetFits, ResultFits, AllFit, StandFits, ArgumentsFit, ExitFits, split_targets, IsHandedBase, MakesStand, Fits}
use Rattle.vx_lower.specs.declared.builder.Builder.{Builder}
use Rattle.vx_lower.proofs.Places.{get_front, get_last, length_more, set_same, set_length}

-- lists of slots

pub get_waiting : (xs : List (Option Block)) (i : ℕ) (x : Block) → slice_get (xs ++ None ∷ []) i ≡ Some (Some x) → slice_get xs i ≡ Some (Some x)
get_waiting [] zero x e = absurd (cc)
get_waiting [] (suc i) x e = absurd (cc)
get_waiting (y ∷ xs) zero x e = e
get_waiting (y ∷ xs) (suc i) x e = get_waiting xs i x e

pub get_set : (xs : List (Option Block)) (p : ℕ) (z : Block) (i : ℕ) (x : Block) → slice_get (slice_set xs p (Some z)) i ≡ Some (Some x) → ((i ≡ p) × (z ≡ x)) ⊎ (slice_get xs i ≡ Some (Some x))
get_set [] p z i x e = inr e
get_set (y ∷ xs) zero z zero x e = inl (refl, cc)
get_set (y ∷ xs) zero z (suc i) x e = inr e
get_set (y ∷ xs) (suc p) z zero x e = inr e
get_set (y ∷ xs) (suc p) z (suc i) x e = elim (get_set xs p z i x e) [ inl w ↦ inl (ap suc w.0, w.1) | inr w ↦ inr w ]

pub set_keeps : (xs : List (Option Block)) (p : ℕ) (z : Block) (i : ℕ) (x : Block) → slice_get xs p ≡ Some None → slice_get xs i ≡ Some (Some x) → slice_get (slice_set xs p (Some z)) i ≡ Some (Some x)
set_keeps [] p z i x n e = absurd (cc)
set_keeps (y ∷ xs) zero z zero x n e = absurd (cc)
set_keeps (y ∷ xs) zero z (suc i) x n e = e
set_keeps (y ∷ xs) (suc p) z zero x n e = e
set_keeps (y ∷ xs) (suc p) z (suc i) x n e = set_keeps xs p z i x n e

pub get_more : {A : Type 0} (xs : List A) (y : A) (i : ℕ) (z : A) → slice_get (xs ++ y ∷ []) i ≡ Some z → (slice_get xs i ≡ Some z) ⊎ ((i ≡ length xs) × (y ≡ z))
get_more [] y zero z e = inr (refl, cc)
get_more [] y (suc i) z e = absurd (cc)
get_more (x ∷ xs) y zero z e = inl e
get_more (x ∷ xs) y (suc i) z e = elim (get_more xs y i z e) [ inl w ↦ inl w | inr w ↦ inr (ap suc w.0, w.1) ]

-- what an operation of the graph is

pub has_waiting : (xs : List (Option Block)) (ops : List Op) (op : Op) → Has (xs ++ None ∷ []) ops op → Has xs ops op
has_waiting xs ops op (opened m) = opened m
has_waiting xs ops op (finished i x e m) = finished i x (get_waiting xs i x e) m

has_front : (xs : List (Option Block)) (ops : List Op) (op : Op) → Has xs ops op → Has (xs ++ None ∷ []) ops op
has_front xs ops op (opened m) = opened m
has_front xs ops op (finished i x e m) = finished i x (get_front xs (None ∷ []) i (slice_get_within xs i (Some x) e) ∙ e) m

has_set : (xs : List (Option Block)) (p : ℕ) (z : Block) (ops : List Op) (op : Op) → Has (slice_set xs p (Some z)) ops op → IsIn op z.ops ⊎ Has xs ops op
has_set xs p z ops op (opened m) = inr (opened m)
has_set xs p z ops op (finished i x e m) = elim (get_set xs p z i x e) [ inl w ↦ inl (subst (λ y. IsIn op y.ops) (sym w.1) m) | inr w ↦ inr (finished i x w m) ]

has_kept : (xs : List (Option Block)) (p : ℕ) (z : Block) (ops : List Op) (op : Op) → slice_get xs p ≡ Some None → Has xs ops op → Has (slice_set xs p (Some z)) ops op
has_kept xs p z ops op n (opened m) = opened m
has_kept xs p z ops op n (finished i x e m) = finished i x (set_keeps xs p z i x n e) m

has_more : (xs : List (Option Block)) (ops : List Op) (new op : Op) → Has xs (ops ++ new ∷ []) op → Has xs ops op ⊎ (op ≡ new)
has_more xs ops new op (opened m) = elim (in_front_or_last op new ops m) [ inl w ↦ inl (opened w) | inr w ↦ inr w ]
has_more xs ops new op (finished i x e m) = inl (finished i x e m)

has_still : (xs : List (Option Block)) (ops : List Op) (new op : Op) → Has xs ops op → Has xs (ops ++ new ∷ []) op
has_still xs ops new op (opened m) = opened (in_left op ops (new ∷ []) m)
has_still xs ops new op (finished i x e m) = finished i x e m

-- more roles

abbrev pub Kept : List Role → List Role → Type 0
Kept roles later = (v : ℕ) (role : Role) → HasRole roles v role → HasRole later v role

pub operand_on : (roles later : List Role) → Kept roles later → (o : Operand) → OperandFits roles o → OperandFits later o
operand_on roles later kept (Held v) h = kept v Scalar h
operand_on roles later kept (Number n) h = h
operand_on roles later kept Stack h = h

pub place_on : {words : Sees} (k : Known words) (roles later : List Role) → Kept roles later → (a : ℕ) (o : Operand) → PlaceFits k roles a o → PlaceFits k later a o
place_on k roles later kept a (Held v) h = kept v (PlaceOf a) h
place_on k roles later kept a (Number n) h = h
place_on k roles later kept a Stack h = h

pub right_on : (roles later : List Role) → Kept roles later → (code : Code) (o : Operand) → RightFits roles code o → RightFits later code o
right_on roles later kept Mov o h = h
right_on roles later kept code o h = operand_on roles later kept o h

pub all_on : (roles later : List Role) → Kept roles later → (os : List Operand) → AllFit roles os → AllFit later os
all_on roles later kept os h o m = operand_on roles later kept o (h o m)

stand_on : (roles later : List Role) → Kept roles later → (o : Operand) → StandFits roles o → StandFits later o
stand_on roles later kept (Held v) h = kept v Stand h
stand_on roles later kept (Number n) h = h
stand_on roles later kept Stack h = h

pub arguments_on : (roles later : List Role) → Kept roles later → (takes : List Kind) (os : List Operand) → ArgumentsFit roles takes os → ArgumentsFit later takes os
arguments_on roles later kept [] [] h = h
arguments_on roles later kept [] (o ∷ os) h = h
arguments_on roles later kept (TakesNumber ∷ takes) [] h = h
arguments_on roles later kept (TakesNumber ∷ takes) (o ∷ os) h = (operand_on roles later kept o h.0, arguments_on roles later kept takes os h.1)
arguments_on roles later kept (TakesArray ∷ takes) [] h = h
arguments_on roles later kept (TakesArray ∷ takes) (o ∷ []) h = h
arguments_on roles later kept (TakesArray ∷ takes) (b ∷ o ∷ os) h = (stand_on roles later kept b h.0, operand_on roles later kept o h.1, arguments_on roles later kept takes os h.2)

result_on : (roles later : List Role) → Kept roles later → (result : Option ℕ) → ResultFits roles result → ResultFits later result
result_on roles later kept None h = h
result_on roles later kept (Some v) h = kept v Scalar h

module _ {words : Sees} (k : Known words) (texts : ℕ) where
  pub op_on : (roles later : List Role) → Kept roles later → (op : Op) → OpFits k texts roles op → OpFits k texts later op
  op_on roles later kept (Compute code t a b) h = (kept t (role_written code) h.0, operand_on roles later kept a h.1, right_on roles later kept code b h.2)
  op_on roles later kept (Place t a i) h = (kept t (PlaceOf a) h.0, h.1, operand_on roles later kept i h.2, h.3)
  op_on roles later kept (Load t a p dismissible) h = (kept t Scalar h.0, h.1, place_on k roles later kept a p h.2, h.3)
  op_on roles later kept (Store a p o) h = (h.0, place_on k roles later kept a p h.1, operand_on roles later kept o h.2)
  op_on roles later kept (More t) h = kept t Scalar h
  op_on roles later kept (Input t) h = kept t Scalar h
  op_on roles later kept (Decimal o) h = operand_on roles later kept o h
  op_on roles later kept (Base t a x) h = (kept t Stand h.0, h.1, h.2, h.3)
  op_on roles later kept (PlaceIn t a u i) h = (kept t (PlaceOf a) h.0, h.1, h.2, operand_on roles later kept i h.3)
  op_on roles later kept op h = h

target_on : (m n c : ℕ) → m ≤ n → TargetFits m c → TargetFits n c
target_on m n c le h = let l = h.1 in (h.0, omega arith)

pub exit_on : {words : Sees} (k : Known words) (roles later : List Role) (m n : ℕ) → Kept roles later → m ≤ n → (exit : Exit) → ExitFits k roles m exit → ExitFits k later n exit
exit_on k roles later m n kept le (Goto c) h = target_on m n c le h
exit_on k roles later m n kept le (Split test y z) h = (kept test Test h.0, target_on m n y le h.1, target_on m n z le h.2, h.3)
exit_on k roles later m n kept le (Call f os result c) h = ((h.0.0, h.0.1, arguments_on roles later kept h.0.0 os h.0.2), result_on roles later kept result h.1, target_on m n c le h.2)
exit_on k roles later m n kept le (Return o) h = operand_on roles later kept o h
exit_on k roles later m n kept le (Ends trap) h = h

-- targets

pub split_is_target : (exit : Exit) (c : ℕ) → IsIn c (split_targets exit) → IsIn c (targets_of exit)
split_is_target (Goto d) c m = absurd m
split_is_target (Split test y z) c m = m
split_is_target (Call f os result d) c m = absurd m
split_is_target (Return o) c m = absurd m
split_is_target (Ends trap) c m = absurd m

one_target : (n c d : ℕ) → TargetFits n d → IsIn c (d ∷ []) → TargetFits n c
one_target n c d h (inl e) = subst (TargetFits n) (sym e) h
one_target n c d h (inr z) = absurd z

pub target_fits : {words : Sees} (k : Known words) (roles : List Role) (n : ℕ) (exit : Exit) (c : ℕ) → ExitFits k roles n exit → IsIn c (targets_of exit) → TargetFits n c
target_fits k roles n (Goto d) c h m = one_target n c d h m
target_fits k roles n (Split test y z) c h (inl e) = subst (TargetFits n) (sym e) h.1
target_fits k roles n (Split test y z) c h (inr m) = one_target n c z h.2 m
target_fits k roles n (Call f os result d) c h m = one_target n c d h.2 m
target_fits k roles n (Return o) c h m = absurd m
target_fits k roles n (Ends trap) c h m = absurd m

-- the steps

module _ {words : Sees} (k : Known words) (texts : ℕ) where
  pub fits_reserved : (roles : List Role) (b : Builder) → Fits k texts roles b → Fits k texts roles (reserved b)
  fits_reserved roles b f = let l = length_more b.blocks None in let s = f.some in record {
    banks = f.banks;
    scalars = f.scalars;
    handed = f.handed;
    some = omega arith;
    ops = λ op h. f.ops op (has_waiting b.blocks b.ops op h);
    exits = λ i x e. exit_on k roles roles (length b.blocks) (length (reserved b).blocks) (λ v role h. h) (omega arith) x.exit (f.exits i x (get_waiting b.blocks i x e));
    traps = λ i x e. f.traps i x (get_waiting b.blocks i x e);
    single = λ i j x y c ei ej. f.single i j x y c (get_waiting b.blocks i x ei) (get_waiting b.blocks j y ej);
    made = λ v a h. let m = f.made v a h in (m.0, m.1, has_front b.blocks b.ops m.0 m.2);
    stands = λ v h. elim (f.stands v h) [ inl w ↦ inl w | inr m ↦ inr (m.0, m.1, has_front b.blocks b.ops m.0 m.2) ];
  }

  -- where a block that is finished leads
  pub record Leads (b : Builder) (exit : Exit) : Type 0 where
    pub unsplit : (c : ℕ) → IsIn c (targets_of exit) → (i : ℕ) (x : Block) → slice_get b.blocks i ≡ Some (Some x) → IsIn c (split_targets x.exit) → ⊥
    pub untouched : (c : ℕ) → IsIn c (split_targets exit) → (i : ℕ) (x : Block) → slice_get b.blocks i ≡ Some (Some x) → IsIn c (targets_of x.exit) → ⊥

  -- a block that waits is finished
  pub fits_filled : (roles : List Role) (b : Builder) (p : ℕ) (z : Block) → Fits k texts roles b → slice_get b.blocks p ≡ Some None → ((op : Op) → IsIn op z.ops → OpFits k texts roles op) → ExitFits k roles (length b.blocks) z.exit → ((trap : Trap) → z.exit ≡ Ends trap → z.ops ≡ []) → Leads b z.exit → Fits k texts roles (filled b p z)
  fits_filled roles b p z f waits ops exit traps leads = let l = set_length b.blocks p (Some z) in let s = f.some in record {
    banks = f.banks;
    scalars = f.scalars;
    handed = f.handed;
    some = omega arith;
    ops = λ op h. elim (has_set b.blocks p z b.ops op h) [ inl m ↦ ops op m | inr w ↦ f.ops op w ];
    exits = λ i x e. subst (λ n. ExitFits k roles n x.exit) (sym l) (elim (get_set b.blocks p z i x e) [ inl w ↦ subst (λ y. ExitFits k roles (length b.blocks) y.exit) w.1 exit | inr w ↦ f.exits i x w ]);
    traps = λ i x e. elim (get_set b.blocks p z i x e) [ inl w ↦ subst (λ y. (trap : Trap) → y.exit ≡ Ends trap → y.ops ≡ []) w.1 traps | inr w ↦ f.traps i x w ];
    single = λ i j x y c ei ej. one i j x y c (get_set b.blocks p z i x ei) (get_set b.blocks p z j y ej);
    made = λ v a h. let m = f.made v a h in (m.0, m.1, has_kept b.blocks p z b.ops m.0 waits m.2);
    stands = λ v h. elim (f.stands v h) [ inl w ↦ inl w | inr m ↦ inr (m.0, m.1, has_kept b.blocks p z b.ops m.0 waits m.2) ];
  }
    where
      one : (i j : ℕ) (x y : Block) (c : ℕ) → ((i ≡ p) × (z ≡ x)) ⊎ (slice_get b.blocks i ≡ Some (Some x)) → ((j ≡ p) × (z ≡ y)) ⊎ (slice_get b.blocks j ≡ Some (Some y)) → IsIn c (split_targets x.exit) → IsIn c (targets_of y.exit) → i ≡ j
      one i j x y c (inl u) (inl w) mi mj = u.0 ∙ sym w.0
      one i j x y c (inl u) (inr w) mi mj = absurd (leads.untouched c (subst (λ q. IsIn c (split_targets q.exit)) (sym u.1) mi) j y w mj)
      one i j x y c (inr u) (inl w) mi mj = absurd (leads.unsplit c (subst (λ q. IsIn c (targets_of q.exit)) (sym w.1) mj) i x u mi)
      one i j x y c (inr u) (inr w) mi mj = f.single i j x y c u w mi mj

  -- the open block is finished
  pub fits_closed : (roles : List Role) (b : Builder) (exit : Exit) (n : ℕ) → Fits k texts roles b → Ready b → ExitFits k roles (length b.blocks) exit → ((trap : Trap) → exit ≡ Ends trap → ⊥) → Leads b exit → Fits k texts roles (closed b exit n)
  fits_closed roles b exit n f r fit free leads =
      let z : Block = record { ops = b.ops; exit = exit } in
      let g = fits_filled roles b b.current z f r.is (λ op m. f.ops op (opened m)) fit (λ trap e. absurd (free trap e)) leads in
      record {
        banks = g.banks;
        scalars = g.scalars;
        handed = g.handed;
        some = g.some;
        ops = λ op h. g.ops op (there op h);
        exits = g.exits;
        traps = g.traps;
        single = g.single;
        made = λ v a h. let m = g.made v a h in (m.0, m.1, here m.0 m.2);
        stands = λ v h. elim (g.stands v h) [ inl w ↦ inl w | inr m ↦ inr (m.0, m.1, here m.0 m.2) ];
      }
    where
      there : (op : Op) → Has (slice_set b.blocks b.current (Some (record { ops = b.ops; exit = exit }))) [] op → Has (slice_set b.blocks b.current (Some (record { ops = b.ops; exit = exit }))) b.ops op
      there op (opened m) = absurd m
      there op (finished i x e m) = finished i x e m

      here : (op : Op) → Has (slice_set b.blocks b.current (Some (record { ops = b.ops; exit = exit }))) b.ops op → Has (slice_set b.blocks b.current (Some (record { ops = b.ops; exit = exit }))) [] op
      here op (opened m) = finished b.current (record { ops = b.ops; exit = exit }) (set_same b.blocks b.current (Some (record { ops = b.ops; exit = exit })) (slice_get_within b.blocks b.current None r.is)) m
      here op (finished i x e m) = finished i x e m

  pub fits_turned : (roles : List Role) (b : Builder) (n : ℕ) → Fits k texts roles b → Fits k texts roles (turned_to b n)
  fits_turned roles b n f = record { banks = f.banks; scalars = f.scalars; handed = f.handed; some = f.some; ops = f.ops; exits = f.exits; traps = f.traps; single = f.single; made = f.made; stands = f.stands }

  pub fits_op : (roles : List Role) (b : Builder) (op : Op) → Fits k texts roles b → OpFits k texts roles op → Fits k texts roles (with_op b op)
  fits_op roles b op f h = record {
    banks = f.banks;
    scalars = f.scalars;
    handed = f.handed;
    some = f.some;
    ops = λ o m. elim (has_more b.blocks b.ops op o m) [ inl w ↦ f.ops o w | inr e ↦ subst (OpFits k texts roles) (sym e) h ];
    exits = f.exits;
    traps = f.traps;
    single = f.single;
    made = λ v a w. let m = f.made v a w in (m.0, m.1, has_still b.blocks b.ops op m.0 m.2);
    stands = λ v w. elim (f.stands v w) [ inl w ↦ inl w | inr m ↦ inr (m.0, m.1, has_still b.blocks b.ops op m.0 m.2) ];
  }

  pub role_front : (roles : List Role) (role : Role) → Kept roles (roles ++ role ∷ [])
  role_front roles role v r h = get_front roles (role ∷ []) v (slice_get_within roles v r h) ∙ h

  pub role_last : (roles : List Role) (role : Role) (b : Builder) → Fits k texts roles b → HasRole (roles ++ role ∷ []) (length b.banks) role
  role_last roles role b f = ap (slice_get (roles ++ role ∷ [])) (ap length f.banks ∙ length-map roles bank_of_role) ∙ get_last roles role

  banks_more : (roles : List Role) (role : Role) (b : Builder) → Fits k texts roles b → b.banks ++ bank_of_role role ∷ [] ≡ map bank_of_role (roles ++ role ∷ [])
  banks_more roles role b f = ap (λ z. z ++ bank_of_role role ∷ []) f.banks ∙ sym (map-append bank_of_role roles (role ∷ []))

  -- a value is taken, which neither is a place nor holds where an array stands
  pub fits_value : (roles : List Role) (b : Builder) (role : Role) → Fits k texts roles b → ((a : ℕ) → role ≡ PlaceOf a → ⊥) → (role ≡ Stand → ⊥) → Fits k texts (roles ++ role ∷ []) (with_value b (bank_of_role role))
  fits_value roles b role f other stand = record {
    banks = banks_more roles role b f;
    scalars = λ v l. role_front roles role v Scalar (f.scalars v l);
    handed = λ a base size e. let h = f.handed a base size e in (role_front roles role base Stand h.0, role_front roles role size Scalar h.1);
    some = f.some;
    ops = λ op h. op_on k texts roles (roles ++ role ∷ []) (role_front roles role) op (f.ops op h);
    exits = λ i x e. exit_on k roles (roles ++ role ∷ []) (length b.blocks) (length b.blocks) (role_front roles role) (omega arith) x.exit (f.exits i x e);
    traps = f.traps;
    single = f.single;
    made = λ v a h. elim (get_more roles role v (PlaceOf a) h) [ inl w ↦ f.made v a w | inr w ↦ absurd (other a w.1) ];
    stands = λ v h. elim (get_more roles role v Stand h) [ inl w ↦ f.stands v w | inr w ↦ absurd (stand w.1) ];
  }

  -- a value is taken, and made a place or a base at once
  pub fits_made : (roles : List Role) (b : Builder) (role : Role) (op : Op) → Fits k texts roles b → OpFits k texts (roles ++ role ∷ []) op → ((a : ℕ) → role ≡ PlaceOf a → MakesPlace (length b.banks) a op) → (role ≡ Stand → MakesStand (length b.banks) op) → Fits k texts (roles ++ role ∷ []) (with_op (with_value b (bank_of_role role)) op)
  fits_made roles b role op f new place stand =
      let later = roles ++ role ∷ [] in
      let front = role_front roles role in
      record {
        banks = banks_more roles role b f;
        scalars = λ v l. front v Scalar (f.scalars v l);
        handed = λ a base size e. let h = f.handed a base size e in (front base Stand h.0, front size Scalar h.1);
        some = f.some;
        ops = λ o m. elim (has_more b.blocks b.ops op o m) [ inl w ↦ op_on k texts roles later front o (f.ops o w) | inr e ↦ subst (OpFits k texts later) (sym e) new ];
        exits = λ j x e. exit_on k roles later (length b.blocks) (length b.blocks) front (omega arith) x.exit (f.exits j x e);
        traps = f.traps;
        single = f.single;
        made = λ v a w. one v a (get_more roles role v (PlaceOf a) w);
        stands = λ v w. base v (get_more roles role v Stand w);
      }
    where
      at : (v : ℕ) → v ≡ length roles → length b.banks ≡ v
      at v e = ap length f.banks ∙ length-map roles bank_of_role ∙ sym e

      one : (v a : ℕ) → (slice_get roles v ≡ Some (PlaceOf a)) ⊎ ((v ≡ length roles) × (role ≡ PlaceOf a)) → (o : Op) × MakesPlace v a o × Has b.blocks (b.ops ++ op ∷ []) o
      one v a (inl w) = let m = f.made v a w in (m.0, m.1, has_still b.blocks b.ops op m.0 m.2)
      one v a (inr w) = (op, subst (λ z. MakesPlace z a op) (at v w.0) (place a w.1), opened (in_last op b.ops))

      base : (v : ℕ) → (slice_get roles v ≡ Some Stand) ⊎ ((v ≡ length roles) × (role ≡ Stand)) → IsHandedBase words v ⊎ ((o : Op) × MakesStand v o × Has b.blocks (b.ops ++ op ∷ []) o)
      base v (inl w) = elim (f.stands v w) [ inl h ↦ inl h | inr m ↦ inr (m.0, m.1, has_still b.blocks b.ops op m.0 m.2) ]
      base v (inr w) = inr (op, subst (λ z. MakesStand z op) (at v w.0) (stand w.1), opened (in_last op b.ops))

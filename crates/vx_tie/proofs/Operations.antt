-- What the operations of a planned word read and write, where they lead, and how long their results may take.
use Rattle.std.proofs.Common.{◌≡◌, ◌≢◌, ◌⊎◌, inl, inr, ⊎_elim, ℕ, pos, Bool, true, false, eqb, cond, Option, Some, None, List, [], ◌∷◌, ◌++◌, map, refl, sym, ap, ◌∙◌, subst, arith}
use Rattle.std.specs.Prelude.{if◌then◌else◌}
use Rattle.std.specs.List.{flat_map, list_any}
use Rattle.std.proofs.lemmas.Bool.{ne_eqb, false≢true}
use Rattle.std.proofs.lemmas.Bool.Decides.{nat_tests}
use Rattle.vx_base.specs.declared.arithmetic.Code.{Code}
use Rattle.vx_base.specs.declared.arithmetic.Code.TheVariants.{Add, Mov, ToBranch}
use Rattle.vx_base.proofs.Pieces.{Hit}
use Rattle.vx_flow.specs.declared.graph.Operand.{Operand}
use Rattle.vx_flow.specs.declared.graph.Operand.TheVariants.{Held as HeldValue, Number as AsNumber, Stack}
use Rattle.vx_flow.specs.declared.graph.Op.{Op}
use Rattle.vx_flow.specs.declared.graph.Op.TheVariants.{Compute as Computes, Select as Selects, Place, Load as Loads, Store as Stores, More as Asks, Input as Takes, Text, Decimal, Across, Base, PlaceIn}
use Rattle.vx_flow.specs.Effects.{IsIn, is_unary, value_in, reads, writes}
use Rattle.vx_flow.proofs.Members.{in_left, in_right}
use Rattle.vx_isa.specs.declared.operation.GeneralRegister.{GeneralRegister}
use Rattle.vx_isa.specs.declared.operation.Register.{Register}
use Rattle.vx_isa.specs.declared.operation.Register.TheVariants.{General, Branch}
use Rattle.vx_isa.specs.declared.operation.Source.{Source}
use Rattle.vx_isa.specs.declared.operation.Source.TheVariants.{Held, Number}
use Rattle.vx_isa.specs.declared.operation.Operation.{Operation}
use Rattle.vx_isa.specs.declared.operation.Operation.TheVariants.{Compute, Move, Goto, BranchOn}
use Rattle.vx_isa.specs.Numbers.{Numbers}
use Rattle.vx_isa.specs.Operations.{is_zero, read_of, reads_of, list_of, destination_of, is_call, comes_from, latency_of_code, latency_of}
use Rattle.vx_isa.specs.Paths.{Among}
use Rattle.vx_room.specs.Items.{latency_of_op}
use Rattle.vx_mixed.specs.declared.layout.Laid.{Laid}
use Rattle.vx_mixed.specs.declared.layout.Laid.TheVariants.{Plain, Split}
use Rattle.vx_mixed.specs.Settled.{read_there}
use Rattle.vx_target.specs.Target.{Target, home, holds_branch, is_own, general_of, branch_of, register_of, slotted, stack_on, zero_on, bytes, source_of, access_base, computes, carried, carried_items, leads, is_split}
use Rattle.vx_target.proofs.Forms.{to_branch}
use Rattle.vx_target.proofs.Proper.{PlainOperand, IsPlacedIn, ProperOp, ProperItems}
use Rattle.vx_tie.proofs.Early.{falls, Jumps, hit_of, hits}
use Rattle.vx_tie.proofs.Heats.{HitIn, hit_either}

-- registers among those of some operations

among_either : {A : Type 0} (x : A) (xs ys : List A) → Among x (xs ++ ys) → Among x xs ⊎ Among x ys
among_either x [] ys i = inr i
among_either x (y ∷ xs) ys i = ⊎_elim (λ e. inl (inl e)) (λ k. ⊎_elim (λ a. inl (inr a)) (λ b. inr b) (among_either x xs ys k)) i

pub record FromOperation (g : Operation → List Register) (ops : List Operation) (r : Register) : Type 0 where
  pub op : Operation
  pub among : Among op ops
  pub has : Among r (g op)

pub from_operation : (g : Operation → List Register) (ops : List Operation) (r : Register) → Among r (flat_map g ops) → FromOperation g ops r
from_operation g [] r i = absurd i
from_operation g (o ∷ ops) r i = ⊎_elim
    (λ a. record { op = o; among = inl refl; has = a })
    (λ k. let x = from_operation g ops r k in record { op = x.op; among = inr x.among; has = x.has })
    (among_either r (g o) (flat_map g ops) i)

-- a hit is the write of one of some operations
pub record FromHit (m : Numbers) (ops : List Operation) (x : Hit Register) : Type 0 where
  pub op : Operation
  pub among : Among op ops
  pub to : Among x.to (list_of (destination_of op))
  pub latency : x.latency ≡ latency_of m op

hit_case : (m : Numbers) (op : Operation) (d : Option Register) (x : Hit Register) → HitIn x (hit_of m op d) → Among x.to (list_of d) × (x.latency ≡ latency_of m op)
hit_case m op None x i = absurd i
hit_case m op (Some r) x i = by (is_call op) i
  where
    by : (b : Bool) → HitIn x (cond b [] (record { to = r; latency = latency_of m op } ∷ [])) → Among x.to (r ∷ []) × (x.latency ≡ latency_of m op)
    by true j = absurd j
    by false j = ⊎_elim (λ e. (inl (ap (λ (h : Hit Register). h.to) e), ap (λ (h : Hit Register). h.latency) e)) (λ k. absurd k) j

pub from_hit : (m : Numbers) (ops : List Operation) (x : Hit Register) → HitIn x (hits m ops) → FromHit m ops x
from_hit m [] x i = absurd i
from_hit m (o ∷ ops) x i = ⊎_elim
    (λ k. let a = hit_case m o (destination_of o) x k in record { op = o; among = inl refl; to = a.0; latency = a.1 })
    (λ k. let a = from_hit m ops x k in record { op = a.op; among = inr a.among; to = a.to; latency = a.latency })
    (hit_either x (hit_of m o (destination_of o)) (hits m ops) i)

-- computations, where a move has its own form

record Computing (m : Numbers) (k : ℕ) (code : Code) (to : Register) (g : GeneralRegister) (a b : Source) (o : Operation) : Type 0 where
  reads_are : reads_of o ≡ (if is_unary code then read_of a else read_of a ++ read_of b)
  to_is : destination_of o ≡ Some (if is_unary code then General g else to)
  unary : is_unary code ≡ true → to_branch code ≡ false
  latency : comes_from k a ≡ true → latency_of m o ≡ latency_of_code m code
  falls_on : (ops : List Operation) → falls (o ∷ ops) ≡ falls ops
  jumps_on : (ops : List Operation) (q : ℕ) → Jumps (o ∷ ops) q → Jumps ops q

computing : (m : Numbers) (k : ℕ) (code : Code) (to : Register) (g : GeneralRegister) (a b : Source) → Computing m k code to g a b (computes k code to g a b)
computing m k Mov to g a b = record { reads_are = refl; to_is = refl; unary = λ e. refl; latency = λ e. ap (λ t. if t then m.latency_alu else m.latency_copy) e; falls_on = λ ops. refl; jumps_on = λ ops q j. j }
computing m k (ToBranch c) to g a b = record { reads_are = refl; to_is = refl; unary = λ e. absurd (cc); latency = λ e. refl; falls_on = λ ops. refl; jumps_on = λ ops q j. j }
computing m k code to g a b = record { reads_are = refl; to_is = refl; unary = λ e. refl; latency = λ e. refl; falls_on = λ ops. refl; jumps_on = λ ops q j. j }

-- a register that is read: it names one of some values, or is a register 0, or a stack pointer
pub data ReadBy (T : Target) (f : ℕ) (names vs : List ℕ) (r : Register) : Type 0 where
  of_value : (y : ℕ) → IsIn y vs → r ≡ register_of T f names y → ReadBy T f names vs r
  of_zero : is_zero r ≡ true → ReadBy T f names vs r
  of_pointer : (k : ℕ) → r ≡ General (stack_on k) → ReadBy T f names vs r

-- an operation of a word is that of one of its items
pub data OfItem (T : Target) (f p : ℕ) (rs ws : List ℕ) (items : List Laid) (o : Operation) : Type 0 where
  of_op : (op : Op) (k : ℕ) → IsIn (Plain op k) items → o ≡ carried T f rs ws k op → OfItem T f p rs ws items o
  of_split : (test q : ℕ) (y : Bool) → IsIn (Split test y q) items → o ≡ BranchOn (branch_of T f rs test) y (leads T f p (slotted T f ws) q) → OfItem T f p rs ws items o

same_eqb : (a b : ℕ) → a ≡ b → eqb a b ≡ true
same_eqb a b e = grind (arith, nat_tests)

module _ (T : Target) (f : ℕ) (IsArray : ℕ → Type 0) where
  pub proper_op : (op : Op) (k : ℕ) (xs : List Laid) → ProperItems T f IsArray xs → IsIn (Plain op k) xs → ProperOp T f IsArray op k
  proper_op op k [] h i = absurd i
  proper_op op k (Plain o j ∷ xs) h i = ⊎_elim (λ e. let a : op ≡ o = cc in let b : k ≡ j = cc in subst (λ z. ProperOp T f IsArray z k) (sym a) (subst (λ z. ProperOp T f IsArray o z) (sym b) h.0)) (λ m. proper_op op k xs h.1 m) i
  proper_op op k (Split test y q ∷ xs) h i = ⊎_elim (λ e. absurd (cc)) (λ m. proper_op op k xs h.1 m) i

  pub general_name : (names : List ℕ) (v : ℕ) → holds_branch T f v ≡ false → General (general_of T f names v) ≡ register_of T f names v
  general_name names v e = sym (ap (λ b. if b then Branch (record { cluster = 0; number = branch_of T f names v }) else General (general_of T f names v)) e)

  pub branch_name : (names : List ℕ) (v : ℕ) → holds_branch T f v ≡ true → Branch (record { cluster = 0; number = branch_of T f names v }) ≡ register_of T f names v
  branch_name names v e = sym (ap (λ b. if b then Branch (record { cluster = 0; number = branch_of T f names v }) else General (general_of T f names v)) e)

  abbrev AllGeneral : List ℕ → Type 0
  AllGeneral vs = (y : ℕ) → IsIn y vs → holds_branch T f y ≡ false

  plain_general : (x : Operand) → PlainOperand T f IsArray x → AllGeneral (value_in x)
  plain_general (HeldValue v) h y i = ⊎_elim (λ e. ap (holds_branch T f) e ∙ h.1) (λ j. absurd j) i
  plain_general (AsNumber n) h y i = absurd i
  plain_general Stack h y i = absurd i

  place_general : (a : ℕ) (x : Operand) → IsPlacedIn T f IsArray a x → AllGeneral (value_in x)
  place_general a (HeldValue v) h y i = ⊎_elim (λ e. ap (holds_branch T f) e ∙ h.1) (λ j. absurd j) i
  place_general a (AsNumber n) h y i = absurd i
  place_general a Stack h y i = absurd i

  module _ (Rs Ws : List ℕ) where
    abbrev N : ℕ → GeneralRegister
    N = general_of T f Rs

    abbrev Reads : List ℕ → Register → Type 0
    Reads vs r = ReadBy T f Rs vs r

    more_values : (vs us : List ℕ) (r : Register) → ((y : ℕ) → IsIn y vs → IsIn y us) → Reads vs r → Reads us r
    more_values vs us r h (of_value y i e) = of_value y (h y i) e
    more_values vs us r h (of_zero e) = of_zero e
    more_values vs us r h (of_pointer k e) = of_pointer k e

    left_values : (vs us : List ℕ) (r : Register) → Reads vs r → Reads (vs ++ us) r
    left_values vs us r h = more_values vs (vs ++ us) r (λ y i. in_left y vs us i) h

    right_values : (vs us : List ℕ) (r : Register) → Reads us r → Reads (vs ++ us) r
    right_values vs us r h = more_values us (vs ++ us) r (λ y i. in_right y vs us i) h

    operand_reads : (a : Operand) → AllGeneral (value_in a) → (r : Register) → Among r (read_of (source_of N a)) → Reads (value_in a) r
    operand_reads (HeldValue y) h r i = ⊎_elim (λ e. of_value y (inl refl) (e ∙ general_name Rs y (h y (inl refl)))) (λ z. absurd z) i
    operand_reads (AsNumber n) h r i = absurd i
    operand_reads Stack h r i = absurd i

    two_read : (a b : Operand) → AllGeneral (value_in a) → AllGeneral (value_in b) → (r : Register) → Among r (read_of (source_of N a) ++ read_of (source_of N b)) → Reads (value_in a ++ value_in b) r
    two_read a b ha hb r i = ⊎_elim
        (λ j. left_values (value_in a) (value_in b) r (operand_reads a ha r j))
        (λ j. right_values (value_in a) (value_in b) r (operand_reads b hb r j))
        (among_either r (read_of (source_of N a)) (read_of (source_of N b)) i)

    pointer_reads : (k : ℕ) (vs : List ℕ) (b : Bool) (r : Register) → Among r (General (if b then stack_on k else zero_on k) ∷ []) → Reads vs r
    pointer_reads k vs true r i = ⊎_elim (λ e. of_pointer k e) (λ z. absurd z) i
    pointer_reads k vs false r i = ⊎_elim (λ e. of_zero (ap is_zero e)) (λ z. absurd z) i

    base_reads : (k a : ℕ) (q : Operand) → AllGeneral (value_in q) → (r : Register) → Among r (General (access_base T f N k a q) ∷ []) → Reads (value_in q) r
    base_reads k a (HeldValue y) h r i = ⊎_elim (λ e. of_value y (inl refl) (e ∙ general_name Rs y (h y (inl refl)))) (λ z. absurd z) i
    base_reads k a (AsNumber n) h r i = pointer_reads k [] (is_own T f a) r i
    base_reads k a Stack h r i = pointer_reads k [] (is_own T f a) r i

    index_reads : (k : ℕ) (vs : List ℕ) (b : Bool) (r : Register) → Among r (read_of (if b then Held (stack_on k) else Number (pos 0))) → Reads vs r
    index_reads k vs true r i = ⊎_elim (λ e. of_pointer k e) (λ z. absurd z) i
    index_reads k vs false r i = absurd i

    -- what it reads

    pub op_reads : (op : Op) (k : ℕ) → ProperOp T f IsArray op k → (r : Register) → Among r (reads_of (carried T f Rs Ws k op)) → Reads (reads op) r
    op_reads (Computes code v a b) k h r i =
        let form = computing T.machine k code (register_of T f Ws v) (general_of T f Ws v) (source_of N a) (source_of N b) in
        by (is_unary code) refl (subst (Among r) form.reads_are i)
      where
        by : (c : Bool) → is_unary code ≡ c → Among r (if c then read_of (source_of N a) else read_of (source_of N a) ++ read_of (source_of N b)) → Reads (if c then value_in a else value_in a ++ value_in b) r
        by true e j = operand_reads a (plain_general a h.2) r j
        by false e j = two_read a b (plain_general a h.2) (plain_general b (h.3 e)) r j
    op_reads (Selects v t a b) k h r i = ⊎_elim
        (λ e. of_value t (inl refl) (e ∙ branch_name Rs t h.1.1))
        (λ j. more_values (value_in a ++ value_in b) (t ∷ (value_in a ++ value_in b)) r (λ y l. inr l) (two_read a b (plain_general a h.2) (plain_general b h.3) r j))
        i
    op_reads (Place v a x) k h r i = ⊎_elim
        (λ j. operand_reads x (plain_general x h.1) r j)
        (λ j. index_reads k (value_in x) (is_own T f a) r j)
        (among_either r (read_of (source_of N x)) (read_of (if is_own T f a then Held (stack_on k) else Number (pos 0))) i)
    op_reads (Loads v a q d) k h r i = base_reads k a q (place_general a q h.1) r i
    op_reads (Stores a q x) k h r i = ⊎_elim
        (λ j. left_values (value_in q) (value_in x) r (base_reads k a q (place_general a q h.0) r j))
        (λ j. right_values (value_in q) (value_in x) r (operand_reads x (plain_general x h.1) r j))
        (among_either r (General (access_base T f N k a q) ∷ []) (read_of (source_of N x)) i)
    op_reads (Asks v) k h r i = absurd i
    op_reads (Takes v) k h r i = absurd i
    op_reads (Text n) k h r i = absurd i
    op_reads (Decimal x) k h r i = operand_reads x (plain_general x h) r i
    op_reads (Across v u) k h r i = ⊎_elim (λ e. of_value u (inl refl) (e ∙ general_name Rs u h.2)) (λ z. absurd z) i
    op_reads (Base v a x) k h r i = by (is_own T f a) i
      where
        by : (own : Bool) → Among r (reads_of (if own then Compute k Add (General (general_of T f Ws v)) (Held (stack_on k)) (Number (bytes (T.array_at f a))) else Move k (general_of T f Ws v) (Number (bytes (T.array_at f a))))) → Reads [] r
        by true j = ⊎_elim (λ e. of_pointer k e) (λ z. absurd z) j
        by false j = absurd j
    op_reads (PlaceIn v a u x) k h r i = ⊎_elim
        (λ j. left_values (value_in x) (u ∷ []) r (operand_reads x (plain_general x h.index) r j))
        (λ j. right_values (value_in x) (u ∷ []) r (⊎_elim (λ e. of_value u (inl refl) (e ∙ general_name Rs u h.base_general)) (λ z. absurd z) j))
        (among_either r (read_of (source_of N x)) (General (N u) ∷ []) i)

    -- what it writes

    general_to : (v : ℕ) → holds_branch T f v ≡ false → (General (general_of T f Ws v) ∷ []) ≡ (register_of T f Ws v ∷ [])
    general_to v e = ap (λ r. r ∷ []) (general_name Ws v e)

    pub op_writes : (op : Op) (k : ℕ) → ProperOp T f IsArray op k → list_of (destination_of (carried T f Rs Ws k op)) ≡ map (register_of T f Ws) (writes op)
    op_writes (Computes code v a b) k h =
        let form = computing T.machine k code (register_of T f Ws v) (general_of T f Ws v) (source_of N a) (source_of N b) in
        ap list_of form.to_is ∙ ap (λ r. r ∷ []) (by (is_unary code) refl)
      where
        by : (c : Bool) → is_unary code ≡ c → (if c then General (general_of T f Ws v) else register_of T f Ws v) ≡ register_of T f Ws v
        by true e = general_name Ws v (h.1 ∙ (computing T.machine k code (register_of T f Ws v) (general_of T f Ws v) (source_of N a) (source_of N b)).unary e)
        by false e = refl
    op_writes (Selects v t a b) k h = general_to v h.0.1
    op_writes (Place v a x) k h = general_to v h.0.1
    op_writes (Loads v a q d) k h = general_to v h.0.1
    op_writes (Stores a q x) k h = refl
    op_writes (Asks v) k h = general_to v h.1
    op_writes (Takes v) k h = general_to v h.1
    op_writes (Text n) k h = refl
    op_writes (Decimal x) k h = refl
    op_writes (Across v u) k h = general_to v h.1
    op_writes (Base v a x) k h = by (is_own T f a)
      where
        by : (own : Bool) → list_of (destination_of (if own then Compute k Add (General (general_of T f Ws v)) (Held (stack_on k)) (Number (bytes (T.array_at f a))) else Move k (general_of T f Ws v) (Number (bytes (T.array_at f a))))) ≡ register_of T f Ws v ∷ []
        by true = general_to v h.general
        by false = general_to v h.general
    op_writes (PlaceIn v a u x) k h = general_to v h.general

    -- and how long that takes: a copy across comes from another cluster, what else is read stands on its own

    source_comes : (k : ℕ) (a : Operand) → ((y : ℕ) → IsIn y (value_in a) → home T f y ≡ k) → comes_from k (source_of N a) ≡ true
    source_comes k (HeldValue y) h = same_eqb (home T f y) k (h y (inl refl))
    source_comes k (AsNumber n) h = refl
    source_comes k Stack h = refl

    pub op_latency : (op : Op) (k : ℕ) → ProperOp T f IsArray op k → ((y : ℕ) → IsIn y (read_there op) → holds_branch T f y ≡ false → home T f y ≡ k) → ((v u : ℕ) → op ≡ Across v u → home T f u ≢ k) → latency_of T.machine (carried T f Rs Ws k op) ≡ latency_of_op T.machine op
    op_latency (Computes code v a b) k h here away =
        let form = computing T.machine k code (register_of T f Ws v) (general_of T f Ws v) (source_of N a) (source_of N b) in
        form.latency (source_comes k a (λ y i. here y (first y i) (plain_general a h.2 y i)))
      where
        first : (y : ℕ) → IsIn y (value_in a) → IsIn y (if is_unary code then value_in a else value_in a ++ value_in b)
        first y i = by (is_unary code)
          where
            by : (c : Bool) → IsIn y (if c then value_in a else value_in a ++ value_in b)
            by true = i
            by false = in_left y (value_in a) (value_in b) i
    op_latency (Across v u) k h here away = ap (λ t. if t then T.machine.latency_alu else T.machine.latency_copy) (ne_eqb (home T f u) k (away v u refl))
    op_latency (Base v a x) k h here away = by (is_own T f a)
      where
        by : (own : Bool) → latency_of T.machine (if own then Compute k Add (General (general_of T f Ws v)) (Held (stack_on k)) (Number (bytes (T.array_at f a))) else Move k (general_of T f Ws v) (Number (bytes (T.array_at f a)))) ≡ T.machine.latency_alu
        by true = refl
        by false = refl
    op_latency op k h here away = refl

    -- the next word may follow, and splits alone lead elsewhere

    op_falls : (op : Op) (k : ℕ) (ops : List Operation) → falls (carried T f Rs Ws k op ∷ ops) ≡ falls ops
    op_falls (Computes code v a b) k ops = (computing T.machine k code (register_of T f Ws v) (general_of T f Ws v) (source_of N a) (source_of N b)).falls_on ops
    op_falls (Base v a x) k ops = by (is_own T f a)
      where
        by : (own : Bool) → falls ((if own then Compute k Add (General (general_of T f Ws v)) (Held (stack_on k)) (Number (bytes (T.array_at f a))) else Move k (general_of T f Ws v) (Number (bytes (T.array_at f a)))) ∷ ops) ≡ falls ops
        by true = refl
        by false = refl
    op_falls op k ops = refl

    op_jumps : (op : Op) (k : ℕ) (ops : List Operation) (q : ℕ) → Jumps (carried T f Rs Ws k op ∷ ops) q → Jumps ops q
    op_jumps (Computes code v a b) k ops q j = (computing T.machine k code (register_of T f Ws v) (general_of T f Ws v) (source_of N a) (source_of N b)).jumps_on ops q j
    op_jumps (Base v a x) k ops q j = by (is_own T f a) j
      where
        by : (own : Bool) → Jumps ((if own then Compute k Add (General (general_of T f Ws v)) (Held (stack_on k)) (Number (bytes (T.array_at f a))) else Move k (general_of T f Ws v) (Number (bytes (T.array_at f a)))) ∷ ops) q → Jumps ops q
        by true l = l
        by false l = l
    op_jumps op k ops q j = j

    module _ (p : ℕ) where
      pub items_fall : (xs : List Laid) → falls (carried_items T f p Rs Ws xs) ≡ true
      items_fall [] = refl
      items_fall (Plain op k ∷ xs) = op_falls op k (carried_items T f p Rs Ws xs) ∙ items_fall xs
      items_fall (Split test y q ∷ xs) = items_fall xs

      -- a split that is taken
      pub record Taken (xs : List Laid) (q : ℕ) : Type 0 where
        pub test : ℕ
        pub when : Bool
        pub to : ℕ
        pub split : IsIn (Split test when to) xs
        pub leads_there : q ≡ leads T f p (slotted T f Ws) to

      pub items_jump : (q : ℕ) (xs : List Laid) → Jumps (carried_items T f p Rs Ws xs) q → Taken xs q
      items_jump q [] j = absurd j
      items_jump q (Plain op k ∷ xs) j = let a = items_jump q xs (op_jumps op k (carried_items T f p Rs Ws xs) q j) in record { test = a.test; when = a.when; to = a.to; split = inr a.split; leads_there = a.leads_there }
      items_jump q (Split test y to ∷ xs) j = ⊎_elim
          (λ e. record { test = test; when = y; to = to; split = inl refl; leads_there = e })
          (λ k. let a = items_jump q xs k in record { test = a.test; when = a.when; to = a.to; split = inr a.split; leads_there = a.leads_there })
          j

      -- without a split a goto behind the operations is the only way elsewhere
      pub goto_jumps : (to q : ℕ) (xs : List Laid) → list_any is_split xs ≡ false → Jumps (carried_items T f p Rs Ws xs ++ Goto to ∷ []) q → q ≡ to
      goto_jumps to q [] h j = j
      goto_jumps to q (Plain op k ∷ xs) h j = goto_jumps to q xs h (op_jumps op k (carried_items T f p Rs Ws xs ++ Goto to ∷ []) q j)
      goto_jumps to q (Split test y d ∷ xs) h j = absurd (false≢true (sym h))

      more_items : (x : Laid) (xs : List Laid) (o : Operation) → OfItem T f p Rs Ws xs o → OfItem T f p Rs Ws (x ∷ xs) o
      more_items x xs o (of_op op k i e) = of_op op k (inr i) e
      more_items x xs o (of_split test q y i e) = of_split test q y (inr i) e

      pub of_item : (o : Operation) (xs : List Laid) → Among o (carried_items T f p Rs Ws xs) → OfItem T f p Rs Ws xs o
      of_item o [] i = absurd i
      of_item o (Plain op k ∷ xs) i = ⊎_elim (λ e. of_op op k (inl refl) e) (λ j. more_items (Plain op k) xs o (of_item o xs j)) i
      of_item o (Split test y q ∷ xs) i = ⊎_elim (λ e. of_split test q y (inl refl) e) (λ j. more_items (Split test y q) xs o (of_item o xs j)) i

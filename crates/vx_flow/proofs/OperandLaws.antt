-- What is noted of an operation are the values that it reads and writes, and so is what is added to lists of them.
use Rattle.std.proofs.Common.{◌≡◌, inl, inr, ℕ, refl, sym, ◌∙◌, ap, append_assoc, Bool, true, false, if◌then◌else◌, Option, Some, None, List, [], ◌∷◌, ◌++◌}
use Rattle.std.proofs.lemmas.List.{map-append}
use Rattle.vx_base.specs.declared.arithmetic.Code.{Code}
use Rattle.vx_base.specs.declared.arithmetic.Code.TheVariants.{Add, Mov}
use Rattle.vx_flow.specs.declared.graph.Operand.{Operand}
use Rattle.vx_flow.specs.declared.graph.Operand.TheVariants.{Held, Number, Stack}
use Rattle.vx_flow.specs.declared.graph.Op.{Op}
use Rattle.vx_flow.specs.declared.graph.Op.TheVariants.{Compute, Select, Store, Across, PlaceIn}
use Rattle.vx_flow.specs.declared.operands.Reads.{Reads}
use Rattle.vx_flow.specs.declared.routes.Touch.{Touch}
use Rattle.vx_flow.specs.Effects.{IsIn, is_unary, value_in, reads, writes}
use Rattle.vx_flow.specs.Sound.{operands_of}
use Rattle.vx_flow.specs.Live.{touch, reading, writing}
use Rattle.vx_flow.specs.Operands.{written_by, held_by, reads_three, read_by, value_list, values_read, first_operand}

pub held_is : (x : Operand) → value_list (held_by x) ≡ value_in x
held_is (Held v) = refl
held_is (Number n) = refl
held_is Stack = refl

both_held : (x y : Operand) → value_list (held_by x) ++ value_list (held_by y) ≡ value_in x ++ value_in y
both_held x y = ap (λ vs. vs ++ value_list (held_by y)) (held_is x) ∙ ap (λ vs. value_in x ++ vs) (held_is y)

one_read : (x : Operand) → values_read (reads_three (held_by x) None None) ≡ value_in x
one_read (Held v) = refl
one_read (Number n) = refl
one_read Stack = refl

two_read : (x y : Operand) → values_read (reads_three (held_by x) (held_by y) None) ≡ value_in x ++ value_in y
two_read x y = ap (λ vs. value_list (held_by x) ++ vs) (last y) ∙ ap (λ vs. vs ++ value_in y) (held_is x)
  where
    last : (y : Operand) → value_list (held_by y) ++ [] ≡ value_in y
    last (Held v) = refl
    last (Number n) = refl
    last Stack = refl

computed_read : (unary : Bool) (x y : Operand) → values_read (if unary then reads_three (held_by x) None None else reads_three (held_by x) (held_by y) None) ≡ (if unary then value_in x else value_in x ++ value_in y)
computed_read true x y = one_read x
computed_read false x y = two_read x y

placed_read : (x : Operand) (u : ℕ) → values_read (reads_three (held_by x) (Some u) None) ≡ value_in x ++ u ∷ []
placed_read (Held v) u = refl
placed_read (Number n) u = refl
placed_read Stack u = refl

pub reads_are : (op : Op) → values_read (read_by op) ≡ reads op
reads_are (Compute code v a b) = computed_read (is_unary code) a b
reads_are (Select v p a b) = ap (λ vs. p ∷ vs) (both_held a b)
reads_are (Store a p x) = two_read p x
reads_are (Across v u) = refl
reads_are (PlaceIn v a u i) = placed_read i u
reads_are op = one_read (first_operand op)

pub writes_are : (op : Op) → value_list (written_by op) ≡ writes op
writes_are (Compute code v a b) = refl
writes_are op = refl

-- what a call answers about an operation, as lists

pub reads_listed : (op : Op) (r : Reads) → r ≡ read_by op → values_read r ≡ reads op
reads_listed op r e = ap values_read e ∙ reads_are op

pub writes_listed : (op : Op) (w : Option ℕ) → w ≡ written_by op → value_list w ≡ writes op
writes_listed op w e = ap value_list e ∙ writes_are op

pub held_listed : (x : Operand) (w : Option ℕ) → w ≡ held_by x → value_list w ≡ value_in x
held_listed x w e = ap value_list e ∙ held_is x

-- lists to which it is added

three_added : {A : Type 0} (old one two new a b c : List A) → one ≡ old ++ a → two ≡ one ++ b → new ≡ two ++ c → new ≡ old ++ (a ++ (b ++ c))
three_added old one two new a b c p q r =
    r ∙ ap (λ l. l ++ c) (q ∙ ap (λ l. l ++ b) p) ∙ append_assoc (old ++ a) b c ∙ append_assoc old a (b ++ c)

pub held_added : (x : Operand) (w : Option ℕ) (old new : List ℕ) → w ≡ held_by x → new ≡ old ++ value_list w → new ≡ old ++ value_in x
held_added x w old new e p = p ∙ ap (λ l. old ++ l) (held_listed x w e)

pub reads_added : (op : Op) (r : Reads) (old one two new : List ℕ) → r ≡ read_by op → one ≡ old ++ value_list r.first → two ≡ one ++ value_list r.second → new ≡ two ++ value_list r.third → new ≡ old ++ reads op
reads_added op r old one two new e p q s =
    three_added old one two new (value_list r.first) (value_list r.second) (value_list r.third) p q s ∙ ap (λ l. old ++ l) (reads_listed op r e)

pub held_touched : (x : Operand) (w : Option ℕ) (old new : List Touch) → w ≡ held_by x → new ≡ old ++ reading (value_list w) → new ≡ old ++ reading (value_in x)
held_touched x w old new e p = p ∙ ap (λ l. old ++ reading l) (held_listed x w e)

pub writes_touched : (op : Op) (w : Option ℕ) (old new : List Touch) → w ≡ written_by op → new ≡ old ++ writing (value_list w) → new ≡ old ++ writing (writes op)
writes_touched op w old new e p = p ∙ ap (λ l. old ++ writing l) (writes_listed op w e)

pub reads_touched : (op : Op) (r : Reads) (old one two new : List Touch) → r ≡ read_by op → one ≡ old ++ reading (value_list r.first) → two ≡ one ++ reading (value_list r.second) → new ≡ two ++ reading (value_list r.third) → new ≡ old ++ reading (reads op)
reads_touched op r old one two new e p q s =
    let a : List ℕ = value_list r.first in
    let b : List ℕ = value_list r.second in
    let c : List ℕ = value_list r.third in
    three_added old one two new (reading a) (reading b) (reading c) p q s
    ∙ ap (λ l. old ++ (reading a ++ l)) (sym (map-append (touch true) b c))
    ∙ ap (λ l. old ++ l) (sym (map-append (touch true) a (b ++ c)))
    ∙ ap (λ l. old ++ reading l) (reads_listed op r e)

-- the operands of a computation

pub first_operand_in : (code : Code) (v : ℕ) (a b : Operand) → IsIn a (operands_of (Compute code v a b))
first_operand_in Add v a b = inl refl
first_operand_in code v a b = inl refl

pub second_operand_in : (code : Code) (v : ℕ) (a b : Operand) → is_unary code ≡ false → IsIn b (operands_of (Compute code v a b))
second_operand_in Mov v a b e = absurd (cc)
second_operand_in code v a b e = inr (inl refl)

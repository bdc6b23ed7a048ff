-- An operation that is written is read again.
use Rattle.std.proofs.Common.{◌≡◌, ℕ, ◌+◌, ◌≤◌, ℤ, Bool, true, false, ◌&&◌, List, [], ◌∷◌, ◌++◌, length, take, drop, Option, Some, Ok, refl, sym, ap, ◌∙◌, append_assoc, arith}
use Rattle.std.specs.Prelude.{decimal, nat_eq, nat_lt, nat_le, codes}
use Rattle.std.specs.Fmt.{signed_decimal}
use Rattle.std.specs.List.{prefix_len, starts_with}
use Rattle.std.specs.Str.{bytes_eq}
use Rattle.std.proofs.lemmas.Slice.Eq.{bytes_eq-Decides, starts_is}
use Rattle.std.proofs.lemmas.Bool.Decides.{Decides-eqb}
use Rattle.std.proofs.lemmas.List.{append-nil, drop_at}
use Rattle.std.proofs.lemmas.Bool.{lt-ltb}
use borrow.Author.Tests.{leb-true}
use Rattle.vx_base.specs.declared.arithmetic.Compare.TheVariants.{Eq, Ne, Lt, Le, Gt, Ge, Ltu, Geu}
use Rattle.vx_base.specs.declared.arithmetic.Code.{Code}
use Rattle.vx_base.specs.declared.arithmetic.Code.TheVariants.{Mov, ToGeneral, ToBranch}
use Rattle.vx_base.specs.declared.outcome.Trap.{Trap}
use Rattle.vx_base.specs.declared.outcome.Trap.TheVariants.{Divide, Index, Input as NoInput, Depth}
use Rattle.vx_isa.specs.declared.operation.GeneralRegister.{GeneralRegister}
use Rattle.vx_isa.specs.declared.operation.BranchRegister.{BranchRegister}
use Rattle.vx_isa.specs.declared.operation.Register.{Register}
use Rattle.vx_isa.specs.declared.operation.Register.TheVariants.{General, Branch, Link}
use Rattle.vx_isa.specs.declared.operation.Source.{Source}
use Rattle.vx_isa.specs.declared.operation.Operation.{Operation}
use Rattle.vx_isa.specs.declared.operation.Operation.TheVariants.{Compute, Move, Select, Load, Store, Input, More, OutText, OutDecimal, OutByte, Goto, BranchOn, Call, Return, FromLink as ReadLink, ToLink as WriteLink, EndByTrap, Halt}
use Rattle.vx_isa.specs.Operations.{cluster_of}
use Rattle.vx_isa.specs.Sound.{can_name, can_name_branch, can_name_cluster, can_spell, is_destination, is_sound_operation}
use Rattle.vx_reader.specs.declared.form.Form.{Form}
use Rattle.vx_reader.specs.declared.form.Form.TheVariants.{Computes, Moves, Selects, Loads, Stores, TakesInput, AsksInput, PrintsText, PrintsDecimal, PrintsByte, Goes, Branches, Calls, Returns, FromLink, ToLink, Traps, Halts}
use Rattle.vx_words.specs.Spelling.{general_text, branch_text, register_text, source_text, address_text, code_name, trap_number, compute_text, body_text}
use Rattle.vx_reader.specs.Fields.{number_at, general_at, register_at, source_at}
use Rattle.vx_reader.specs.Forms.{form_of, code_to, trap_of, candidate, compute_of, move_of, select_of, load_of, store_of, branch_on_of}
use Rattle.vx_isa.specs.Range.{fits_signed, fits_unsigned, fits_source, fits_operation}
use Rattle.vx_reader.specs.Reading.{is_numbered, branch_front, has_form, has_operands, is_field, operation_by, operation_of}
use Rattle.vx_reader.proofs.Numbers.{both_true, IsNoDigitFirst}
use Rattle.vx_reader.proofs.FieldsAgain.{number_read, signed_read, general_read, branch_read, register_general_read, register_branch_read, source_read, decimal_is_number}

abbrev operands : List ℕ → List ℕ
operands text = drop (prefix_len is_field text + 1) text

abbrev field : List ℕ → List ℕ
field text = take (prefix_len is_field text) text

pub same_text : (xs : List ℕ) → bytes_eq xs xs ≡ true
same_text xs = (bytes_eq-Decides xs xs).1 refl

from_form : (k : ℕ) (form : Form) (text : List ℕ) (op : Operation) → form_of (field text) ≡ Some form → candidate k form (operands text) ≡ op → has_form op text ≡ true → has_operands op ≡ true
    → operation_of k text ≡ Ok op
unfolding operation_of operation_by
from_form k form text op named can formed named_operands = rw (named, can, formed, named_operands) refl

-- with what follows regrouped

general_then : (r : GeneralRegister) (rest more : List ℕ) → can_name r ≡ true → IsNoDigitFirst (rest ++ more) → general_at ((general_text r ++ rest) ++ more) ≡ (r, rest ++ more)
general_then r rest more e stop = ap general_at (append_assoc (general_text r) rest more) ∙ general_read r (rest ++ more) e stop

source_end : (a : Source) → can_spell a ≡ true → fits_source a ≡ true → source_at (source_text a) ≡ (a, [])
source_end a e fits = ap source_at (sym (append-nil (source_text a))) ∙ source_read a [] e fits tt

general_end : (r : GeneralRegister) → can_name r ≡ true → general_at (general_text r) ≡ (r, [])
general_end r e = ap general_at (sym (append-nil (general_text r))) ∙ general_read r [] e tt

number_end : (n : ℕ) → n ≤ 4294967295 → number_at (decimal n) ≡ (n, [])
number_end n le = ap number_at (sym (append-nil (decimal n))) ∙ number_read n [] le tt

abbrev source_pair : Source → List ℕ → Source × List ℕ
source_pair a rest = (a, rest)

-- the sources of two-source forms
pair_read : (a b : Source) → can_spell a ≡ true → can_spell b ≡ true → fits_source a ≡ true → fits_source b ≡ true
    → (source_at (source_text a ++ (codes ", " ++ source_text b)) ≡ source_pair a (codes ", " ++ source_text b)) × (source_at (source_text b) ≡ source_pair b [])
pair_read a b ea eb fa fb = (source_read a (codes ", " ++ source_text b) ea fa refl, source_end b eb fb)

-- the names of computing codes

abbrev general_code : Code → Code
general_code (ToBranch compare) = ToGeneral compare
general_code code = code

abbrev some_form : Form → Option Form
some_form form = Some form

name_found : (code : Code) (to : Register) (rest : List ℕ) → is_destination code to ≡ true
    → (form_of (field (code_name code ++ 32 ∷ rest)) ≡ some_form (Computes (general_code code))) × (operands (code_name code ++ 32 ∷ rest) ≡ rest)
unfolding form_of
name_found Mov to rest e = absurd (let no : false ≡ true = e in cc)
name_found (ToGeneral Eq) to rest e = (refl, refl)
name_found (ToGeneral Ne) to rest e = (refl, refl)
name_found (ToGeneral Lt) to rest e = (refl, refl)
name_found (ToGeneral Le) to rest e = (refl, refl)
name_found (ToGeneral Gt) to rest e = (refl, refl)
name_found (ToGeneral Ge) to rest e = (refl, refl)
name_found (ToGeneral Ltu) to rest e = (refl, refl)
name_found (ToGeneral Geu) to rest e = (refl, refl)
name_found (ToBranch Eq) to rest e = (refl, refl)
name_found (ToBranch Ne) to rest e = (refl, refl)
name_found (ToBranch Lt) to rest e = (refl, refl)
name_found (ToBranch Le) to rest e = (refl, refl)
name_found (ToBranch Gt) to rest e = (refl, refl)
name_found (ToBranch Ge) to rest e = (refl, refl)
name_found (ToBranch Ltu) to rest e = (refl, refl)
name_found (ToBranch Geu) to rest e = (refl, refl)
name_found code to rest e = (refl, refl)

-- the destination of a code is read, and tells the code
pub record Destination (code : Code) (to : Register) (rest : List ℕ) : Type 0 where
  pub register : register_at (register_text to ++ rest) ≡ (to, rest)
  pub code_is : code_to (general_code code) to ≡ code

destination_read : (code : Code) (to : Register) (rest : List ℕ) → is_destination code to ≡ true → IsNoDigitFirst rest → Destination code to rest
destination_read Mov to rest e stop = absurd (let no : false ≡ true = e in cc)
destination_read (ToBranch compare) (Branch r) rest e stop = record { register = register_branch_read r rest e stop; code_is = refl }
destination_read (ToBranch compare) (General r) rest e stop = absurd (let no : false ≡ true = e in cc)
destination_read (ToBranch compare) Link rest e stop = absurd (let no : false ≡ true = e in cc)
destination_read code (General r) rest e stop = record { register = register_general_read r rest e stop; code_is = refl }
destination_read code (Branch r) rest e stop = absurd (let no : false ≡ true = e in cc)
destination_read code Link rest e stop = absurd (let no : false ≡ true = e in cc)

regroup_compute : (N R S T : List ℕ) → ((((((N ++ codes " ") ++ R) ++ codes " = ") ++ S) ++ codes ", ") ++ T) ≡ N ++ (32 ∷ (R ++ (codes " = " ++ (S ++ (codes ", " ++ T)))))
regroup_compute N R S T = simp append_assoc

compute_again : (k : ℕ) (code : Code) (to : Register) (a b : Source) → is_destination code to ≡ true → can_spell a ≡ true → can_spell b ≡ true → fits_source a ≡ true → fits_source b ≡ true
    → compute_of k (general_code code) (register_text to ++ (codes " = " ++ (source_text a ++ (codes ", " ++ source_text b)))) ≡ Compute k code to a b
unfolding compute_of
compute_again k code to a b e ea eb fa fb =
    let d = destination_read code to (codes " = " ++ (source_text a ++ (codes ", " ++ source_text b))) e refl in
    let p = pair_read a b ea eb fa fb in
    rw (d.register, p.0, p.1, d.code_is) refl

-- each operation

pub operands_again : (total texts : ℕ) (op : Operation) → is_sound_operation total texts op ≡ true → has_operands op ≡ true
unfolding has_operands
operands_again total texts (Compute k code to a b) e = e
operands_again total texts (Move k to a) e = e
operands_again total texts (Select k to t a b) e = e
operands_again total texts (Load k to o r d) e = e
operands_again total texts (Store k o r a) e = e
operands_again total texts (Input to) e = e
operands_again total texts (More to) e = e
operands_again total texts (OutText n) e = lt-ltb _ _ (omega arith)
operands_again total texts (OutDecimal a) e = e
operands_again total texts (OutByte a) e = e
operands_again total texts (Goto p) e = lt-ltb _ _ (omega arith)
operands_again total texts (BranchOn t at_one p) e = rw ((both_true (nat_le t 7) (nat_lt p total) e).0) (lt-ltb _ _ (omega arith))
operands_again total texts (Call p) e = lt-ltb _ _ (omega arith)
operands_again total texts Return e = e
operands_again total texts (ReadLink to) e = e
operands_again total texts (WriteLink a) e = e
operands_again total texts (EndByTrap k) e = e
operands_again total texts (Halt a) e = e

move_can : (k : ℕ) (to : GeneralRegister) (a : Source) → can_name to ≡ true → can_spell a ≡ true → fits_source a ≡ true
    → move_of k ((general_text to ++ codes " = ") ++ source_text a) ≡ Move k to a
unfolding move_of
move_can k to a e ea fa = rw (general_then to (codes " = ") (source_text a) e refl, source_end a ea fa) refl

regroup_select : (G B S T : List ℕ) → (((((G ++ codes " = ") ++ B) ++ codes ", ") ++ S) ++ codes ", ") ++ T ≡ G ++ (codes " = " ++ (B ++ (codes ", " ++ (S ++ (codes ", " ++ T)))))
regroup_select G B S T = simp append_assoc

select_can : (k : ℕ) (to : GeneralRegister) (t : BranchRegister) (a b : Source) → can_name to ≡ true → can_name_branch t ≡ true → can_spell a ≡ true → can_spell b ≡ true → fits_source a ≡ true → fits_source b ≡ true
    → select_of k ((((((general_text to ++ codes " = ") ++ branch_text t) ++ codes ", ") ++ source_text a) ++ codes ", ") ++ source_text b) ≡ Select k to t a b
unfolding select_of
select_can k to t a b e f ea eb fa fb =
    let p = pair_read a b ea eb fa fb in
    let tail = codes ", " ++ (source_text a ++ (codes ", " ++ source_text b)) in
    let one = general_read to (codes " = " ++ (branch_text t ++ tail)) e refl in
    let two = branch_read t tail f refl in
    ap (select_of k) (regroup_select (general_text to) (branch_text t) (source_text a) (source_text b)) ∙ rw (one, two, p.0, p.1) refl

regroup_address : (G O R : List ℕ) → (G ++ codes " = ") ++ (((O ++ codes "[") ++ R) ++ codes "]") ≡ G ++ (codes " = " ++ (O ++ (codes "[" ++ (R ++ codes "]"))))
regroup_address G O R = simp append_assoc

load_can : (k : ℕ) (to : GeneralRegister) (o : ℤ) (r : GeneralRegister) (d : Bool) → can_name to ≡ true → can_name r ≡ true → fits_signed o ≡ true
    → load_of k d ((general_text to ++ codes " = ") ++ address_text o r) ≡ Load k to o r d
unfolding load_of
load_can k to o r d e f fo =
    let one = general_read to (codes " = " ++ (signed_decimal o ++ (codes "[" ++ (general_text r ++ codes "]")))) e refl in
    let two = signed_read o (codes "[" ++ (general_text r ++ codes "]")) fo refl in
    let three = general_read r (codes "]") f refl in
    ap (load_of k d) (regroup_address (general_text to) (signed_decimal o) (general_text r)) ∙ rw (one, two, three) refl

regroup_store : (O R S : List ℕ) → ((((O ++ codes "[") ++ R) ++ codes "]") ++ codes " = ") ++ S ≡ O ++ (codes "[" ++ (R ++ (codes "] = " ++ S)))
regroup_store O R S = simp append_assoc

store_can : (k : ℕ) (o : ℤ) (r : GeneralRegister) (a : Source) → can_name r ≡ true → can_spell a ≡ true → fits_signed o ≡ true → fits_source a ≡ true
    → store_of k ((address_text o r ++ codes " = ") ++ source_text a) ≡ Store k o r a
unfolding store_of
store_can k o r a f ea fo fa =
    let one = signed_read o (codes "[" ++ (general_text r ++ (codes "] = " ++ source_text a))) fo refl in
    let two = general_read r (codes "] = " ++ source_text a) f refl in
    ap (store_of k) (regroup_store (signed_decimal o) (general_text r) (source_text a)) ∙ rw (one, two, source_end a ea fa) refl

branch_on_can : (at_one : Bool) (t p : ℕ) → t ≤ 7 → p ≤ 4294967295 → branch_on_of at_one (codes "$b0." ++ ((decimal t ++ codes ", ") ++ (codes "L" ++ decimal p))) ≡ BranchOn t at_one p
unfolding branch_on_of
branch_on_can at_one t p te pe =
    let one : number_at ((decimal t ++ codes ", ") ++ (codes "L" ++ decimal p)) ≡ (t, codes ", L" ++ decimal p) =
    ap number_at (append_assoc (decimal t) (codes ", ") (codes "L" ++ decimal p)) ∙ number_read t (codes ", L" ++ decimal p) (omega arith) refl in
    rw (one, number_end p pe) refl

-- a front and a number
numbered : (front : List ℕ) (p : ℕ) (text : List ℕ) → p ≤ 4294967295 → text ≡ front ++ decimal p → is_numbered front text ≡ true
numbered front p text le e =
    let begins : starts_with nat_eq text front ≡ true = (starts_is Decides-eqb text front (starts_with nat_eq text front) refl).1 (decimal p) e in
    let rest : drop (length front) text ≡ decimal p = ap (drop (length front)) e ∙ drop_at front (decimal p) (length front) refl in
    rw (begins, rest) (decimal_is_number p (omega arith))

regroup_front : (N D P : List ℕ) → ((N ++ D) ++ codes ", ") ++ (codes "L" ++ P) ≡ ((N ++ D) ++ codes ", L") ++ P
regroup_front N D P = append_assoc (N ++ D) (codes ", ") (codes "L" ++ P) ∙ sym (append_assoc (N ++ D) (codes ", L") P)

trap_is : (k : Trap) → trap_of (trap_number k) ≡ k
trap_is Divide = refl
trap_is Index = refl
trap_is NoInput = refl
trap_is Depth = refl

trap_small : (k : Trap) → trap_number k ≤ 4294967295
trap_small Divide = omega arith
trap_small Index = omega arith
trap_small NoInput = omega arith
trap_small Depth = omega arith

trap_can : (k : Trap) → EndByTrap (trap_of (number_at (decimal (trap_number k))).0) ≡ EndByTrap k
trap_can k = rw (number_end (trap_number k) (trap_small k)) (ap EndByTrap (trap_is k))

unsigned_bound : (n : ℕ) → fits_unsigned n ≡ true → n ≤ 4294967295
unsigned_bound n e = leb-true _ _ e

pub operation_again : (total texts : ℕ) (op : Operation) → is_sound_operation total texts op ≡ true → fits_operation op ≡ true → operation_of (cluster_of op) (body_text op) ≡ Ok op
unfolding candidate has_form form_of
operation_again total texts (Compute k code to a b) e f =
    let x = both_true (can_name_cluster k && is_destination code to && can_spell a) (can_spell b) e in
    let y = both_true (can_name_cluster k && is_destination code to) (can_spell a) x.0 in
    let z = both_true (can_name_cluster k) (is_destination code to) y.0 in
    let g = both_true (fits_source a) (fits_source b) f in
    let rest = register_text to ++ (codes " = " ++ (source_text a ++ (codes ", " ++ source_text b))) in
    let text = compute_text code to a b in
    let whole : text ≡ code_name code ++ (32 ∷ rest) = regroup_compute (code_name code) (register_text to) (source_text a) (source_text b) in
    let name = name_found code to rest z.1 in
    from_form k (Computes (general_code code)) text (Compute k code to a b)
    (ap (λ t. form_of (field t)) whole ∙ name.0)
    (ap (λ t. compute_of k (general_code code) (operands t)) whole ∙ ap (compute_of k (general_code code)) name.1 ∙ compute_again k code to a b z.1 y.1 x.1 g.0 g.1)
    (same_text text) (operands_again total texts (Compute k code to a b) e)
operation_again total texts (Move k to a) e f =
    let x = both_true (can_name_cluster k && can_name to) (can_spell a) e in
    let y = both_true (can_name_cluster k) (can_name to) x.0 in
    from_form k Moves (body_text (Move k to a)) (Move k to a) refl (move_can k to a y.1 x.1 f) (same_text (body_text (Move k to a))) (operands_again total texts (Move k to a) e)
operation_again total texts (Select k to t a b) e f =
    let x = both_true (can_name_cluster k && can_name to && can_name_branch t && can_spell a) (can_spell b) e in
    let y = both_true (can_name_cluster k && can_name to && can_name_branch t) (can_spell a) x.0 in
    let z = both_true (can_name_cluster k && can_name to) (can_name_branch t) y.0 in
    let v = both_true (can_name_cluster k) (can_name to) z.0 in
    let g = both_true (fits_source a) (fits_source b) f in
    from_form k Selects (body_text (Select k to t a b)) (Select k to t a b) refl (select_can k to t a b v.1 z.1 y.1 x.1 g.0 g.1) (same_text (body_text (Select k to t a b))) (operands_again total texts (Select k to t a b) e)
operation_again total texts (Load k to o r true) e f =
    let x = both_true (can_name_cluster k && can_name to) (can_name r) e in
    let y = both_true (can_name_cluster k) (can_name to) x.0 in
    from_form k (Loads true) (body_text (Load k to o r true)) (Load k to o r true) refl (load_can k to o r true y.1 x.1 f) (same_text (body_text (Load k to o r true))) (operands_again total texts (Load k to o r true) e)
operation_again total texts (Load k to o r false) e f =
    let x = both_true (can_name_cluster k && can_name to) (can_name r) e in
    let y = both_true (can_name_cluster k) (can_name to) x.0 in
    from_form k (Loads false) (body_text (Load k to o r false)) (Load k to o r false) refl (load_can k to o r false y.1 x.1 f) (same_text (body_text (Load k to o r false))) (operands_again total texts (Load k to o r false) e)
operation_again total texts (Store k o r a) e f =
    let x = both_true (can_name_cluster k && can_name r) (can_spell a) e in
    let y = both_true (can_name_cluster k) (can_name r) x.0 in
    let g = both_true (fits_signed o) (fits_source a) f in
    from_form k Stores (body_text (Store k o r a)) (Store k o r a) refl (store_can k o r a y.1 x.1 g.0 g.1) (same_text (body_text (Store k o r a))) (operands_again total texts (Store k o r a) e)
operation_again total texts (Input to) e f =
    from_form 0 TakesInput (body_text (Input to)) (Input to) refl (ap (λ (x : GeneralRegister × List ℕ). Input x.0) (general_end to e)) (same_text (body_text (Input to))) (operands_again total texts (Input to) e)
operation_again total texts (More to) e f =
    from_form 0 AsksInput (body_text (More to)) (More to) refl (ap (λ (x : GeneralRegister × List ℕ). More x.0) (general_end to e)) (same_text (body_text (More to))) (operands_again total texts (More to) e)
operation_again total texts (OutText n) e f =
    from_form 0 PrintsText (body_text (OutText n)) (OutText n) refl (ap (λ (x : ℕ × List ℕ). OutText x.0) (number_end n (unsigned_bound n f))) (same_text (body_text (OutText n))) (operands_again total texts (OutText n) e)
operation_again total texts (OutDecimal a) e f =
    from_form 0 PrintsDecimal (body_text (OutDecimal a)) (OutDecimal a) refl (ap (λ (x : Source × List ℕ). OutDecimal x.0) (source_end a e f)) (same_text (body_text (OutDecimal a))) (operands_again total texts (OutDecimal a) e)
operation_again total texts (OutByte a) e f =
    from_form 0 PrintsByte (body_text (OutByte a)) (OutByte a) refl (ap (λ (x : Source × List ℕ). OutByte x.0) (source_end a e f)) (same_text (body_text (OutByte a))) (operands_again total texts (OutByte a) e)
operation_again total texts (Goto p) e f =
    from_form 0 Goes (body_text (Goto p)) (Goto p) refl (ap (λ (x : ℕ × List ℕ). Goto x.0) (number_end p (unsigned_bound p f)))
    (numbered (codes "goto L") p (body_text (Goto p)) (unsigned_bound p f) refl) (operands_again total texts (Goto p) e)
operation_again total texts (BranchOn t true p) e f =
    let low : t ≤ 7 = leb-true _ _ (both_true (nat_le t 7) (nat_lt p total) e).0 in
    from_form 0 (Branches true) (body_text (BranchOn t true p)) (BranchOn t true p) refl (branch_on_can true t p low (unsigned_bound p f))
    (numbered (branch_front t true) p (body_text (BranchOn t true p)) (unsigned_bound p f) (regroup_front (codes "br $b0.") (decimal t) (decimal p))) (operands_again total texts (BranchOn t true p) e)
operation_again total texts (BranchOn t false p) e f =
    let low : t ≤ 7 = leb-true _ _ (both_true (nat_le t 7) (nat_lt p total) e).0 in
    from_form 0 (Branches false) (body_text (BranchOn t false p)) (BranchOn t false p) refl (branch_on_can false t p low (unsigned_bound p f))
    (numbered (branch_front t false) p (body_text (BranchOn t false p)) (unsigned_bound p f) (regroup_front (codes "brf $b0.") (decimal t) (decimal p))) (operands_again total texts (BranchOn t false p) e)
operation_again total texts (Call p) e f =
    from_form 0 Calls (body_text (Call p)) (Call p) refl (ap (λ (x : ℕ × List ℕ). Call x.0) (number_end p (unsigned_bound p f)))
    (numbered (codes "call $l0.0 = L") p (body_text (Call p)) (unsigned_bound p f) refl) (operands_again total texts (Call p) e)
operation_again total texts Return e f = from_form 0 Returns (body_text Return) Return refl refl refl (operands_again total texts Return e)
operation_again total texts (ReadLink to) e f =
    from_form 0 FromLink (body_text (ReadLink to)) (ReadLink to) refl (ap (λ (x : GeneralRegister × List ℕ). ReadLink x.0) (general_read to (codes " = $l0.0") e refl)) (same_text (body_text (ReadLink to))) (operands_again total texts (ReadLink to) e)
operation_again total texts (WriteLink a) e f =
    from_form 0 ToLink (body_text (WriteLink a)) (WriteLink a) refl (ap (λ (x : Source × List ℕ). WriteLink x.0) (source_end a e f)) (same_text (body_text (WriteLink a))) (operands_again total texts (WriteLink a) e)
operation_again total texts (EndByTrap k) e f =
    from_form 0 Traps (body_text (EndByTrap k)) (EndByTrap k) refl (trap_can k) (same_text (body_text (EndByTrap k))) (operands_again total texts (EndByTrap k) e)
operation_again total texts (Halt a) e f =
    from_form 0 Halts (body_text (Halt a)) (Halt a) refl (ap (λ (x : Source × List ℕ). Halt x.0) (source_end a e f)) (same_text (body_text (Halt a))) (operands_again total texts (Halt a) e)

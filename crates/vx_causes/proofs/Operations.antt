-- The operation of a line: what a reader takes it for, and what the line says of itself.
use Rattle.std.proofs.Common.{◌≡◌, inl, inr, ℕ, zero, suc, ◌+◌, ◌-◌, ◌*◌, ◌≤◌, min, Bool, true, false, ◌&&◌, List, [], ◌∷◌, ◌++◌, length, get_or, drop, Option, Some, None, Result, Ok, Err, refl, sym, ap, subst, ◌∙◌, arith}
use Rattle.std.specs.Prelude.{codes, decimal, nat_eq, nat_lt, nat_le, find, unwrap_or}
use Rattle.std.specs.Option.{option_map_or}
use Rattle.std.specs.List.{prefix_len, starts_with}
use Rattle.std.specs.Str.{bytes_eq}
use Rattle.std.specs.Str.Parse.{digits_value}
use Rattle.std.proofs.lemmas.Slice.Eq.{starts_is}
use Rattle.std.proofs.lemmas.Bool.Decides.{Decides-eqb}
use Rattle.std.proofs.lemmas.Bool.{le-leb, lt-ltb, and_from, cases_lt}
use Rattle.std.proofs.lemmas.List.{drop_at}
use Rattle.std.proofs.lemmas.Fmt.{decimal_digit}
use borrow.Author.Tests.{leb-true}
use Rattle.vx_base.specs.declared.arithmetic.Compare.TheVariants.{Eq, Ne, Lt, Le, Gt, Ge, Ltu, Geu}
use Rattle.vx_base.specs.declared.arithmetic.Code.TheVariants.{ToGeneral, ToBranch}
use Rattle.vx_isa.specs.declared.operation.Operation.{Operation}
use Rattle.vx_isa.specs.declared.operation.Operation.TheVariants.{Compute, Move, Select, Load, Store, Goto, BranchOn, Call}
use Rattle.vx_isa.specs.Operations.{cluster_of}
use Rattle.vx_isa.specs.Range.{fits_signed, fits_source, fits_operation}
use Rattle.vx_isa.specs.Sound.{can_name, can_name_branch, can_name_cluster, can_spell, is_destination}
use Rattle.vx_reader.specs.declared.form.Form.{Form}
use Rattle.vx_reader.specs.declared.form.Form.TheVariants.{Computes, Moves, Selects, Loads, Stores, TakesInput, AsksInput, PrintsText, PrintsDecimal, PrintsByte, Goes, Branches, Calls, Returns, FromLink, ToLink, Traps, Halts}
use Rattle.vx_words.specs.Spelling.{target_of, body_text}
use Rattle.vx_reader.specs.Fields.{is_digit, number_from, number_at, signed_at, negative, general_at, branch_at, register_at, source_at}
use Rattle.vx_reader.specs.Forms.{form_name, forms, form_of, candidate, compute_of, move_of, select_of, load_of, store_of, branch_on_of}
use Rattle.vx_reader.specs.Reading.{is_number, is_numbered, branch_front, has_form, has_operands, texts_named, operation_by, operation_of}
use Rattle.vx_reader.specs.Steps.{is_operation_line, line_cluster, value_from}
use Rattle.vx_reader.proofs.Numbers.{own, both_true, number_exact, number_below, is_number_digits}
use Rattle.vx_reader.proofs.OperationLemmas.{three_bytes, numbered_parts, branch_number, kept, cluster_range}
use Rattle.vx_reader.proofs.OperationsAgain.{operation_again}
use Rattle.vx_causes.specs.Lines.{first_field, is_no_blank}
use Rattle.vx_causes.specs.Causes.{OnCluster, IsKnown, IsOperation, IsJump, goes, branches, calls, NamesPlace, HasForm, operates, jumps}
use Rattle.vx_causes.proofs.Sorts.{same_bytes, on_cluster_bytes}

-- numbers that are read have 32 bits

number_from_le_by : (most n c : ℕ) (cs : List ℕ) (b : Bool) → is_digit c ≡ b → n ≤ most → ((m : ℕ) → m ≤ most → (number_from most m cs).0 ≤ most) → (number_from most n (c ∷ cs)).0 ≤ most
number_from_le_by most n c cs true e le again = rw e (again (min most (10 * n + (c - 48))) (omega arith))
number_from_le_by most n c cs false e le again = rw e le

number_from_le : (most n : ℕ) (ds : List ℕ) → n ≤ most → (number_from most n ds).0 ≤ most
number_from_le most n [] le = le
number_from_le most n (c ∷ cs) le = number_from_le_by most n c cs (is_digit c) refl le (λ m h. number_from_le most m cs h)

unsigned_fits : (text : List ℕ) → nat_le (number_at text).0 4294967295 ≡ true
unfolding number_at
unsigned_fits text = le-leb _ _ (number_from_le 4294967295 0 text (omega arith))

negative_fits : (n : ℕ) → n ≤ 2147483648 → fits_signed (negative n) ≡ true
negative_fits zero le = refl
negative_fits (suc n) le = le-leb _ _ (omega arith)

pub signed_fits : (text : List ℕ) → fits_signed (signed_at text).0 ≡ true
unfolding signed_at
signed_fits text = signed_by (nat_eq (get_or text 0 0) 45) refl
  where
    signed_by : (b : Bool) → nat_eq (get_or text 0 0) 45 ≡ b → fits_signed (signed_at text).0 ≡ true
    signed_by true e = rw e (negative_fits (number_from 2147483648 0 (drop 1 text)).0 (number_from_le 2147483648 0 (drop 1 text) (omega arith)))
    signed_by false e = rw e (le-leb _ _ (number_from_le 2147483647 0 text (omega arith)))

source_fits : (text : List ℕ) → fits_source (source_at text).0 ≡ true
unfolding source_at
source_fits text = source_by (nat_eq (get_or text 0 0) 36) refl
  where
    source_by : (b : Bool) → nat_eq (get_or text 0 0) 36 ≡ b → fits_source (source_at text).0 ≡ true
    source_by true e = rw e refl
    source_by false e = rw e (signed_fits text)

sources_fit : (a b : List ℕ) → (fits_source (source_at a).0 && fits_source (source_at b).0) ≡ true
sources_fit a b = rw (source_fits a, source_fits b) refl

candidate_fits : (k : ℕ) (form : Form) (text : List ℕ) → fits_operation (candidate k form text) ≡ true
unfolding candidate compute_of move_of select_of load_of store_of branch_on_of
candidate_fits k (Computes code) text = sources_fit (drop 3 (register_at text).1) (drop 2 (source_at (drop 3 (register_at text).1)).1)
candidate_fits k Moves text = source_fits (drop 3 (general_at text).1)
candidate_fits k Selects text =
    let t = drop 2 (branch_at (drop 3 (general_at text).1)).1 in
    sources_fit t (drop 2 (source_at t).1)
candidate_fits k (Loads dismissible) text = signed_fits (drop 3 (general_at text).1)
candidate_fits k Stores text = rw (signed_fits text) (source_fits (drop 4 (general_at (drop 1 (signed_at text).1)).1))
candidate_fits k TakesInput text = refl
candidate_fits k AsksInput text = refl
candidate_fits k PrintsText text = unsigned_fits (drop 1 text)
candidate_fits k PrintsDecimal text = source_fits text
candidate_fits k PrintsByte text = source_fits text
candidate_fits k Goes text = unsigned_fits (drop 1 text)
candidate_fits k (Branches at_one) text = unsigned_fits (drop 3 (number_at (drop 4 text)).1)
candidate_fits k Calls text = unsigned_fits (drop 9 text)
candidate_fits k Returns text = refl
candidate_fits k FromLink text = refl
candidate_fits k ToLink text = source_fits (drop 8 text)
candidate_fits k Traps text = refl
candidate_fits k Halts text = source_fits text

-- the same operation on another cluster

abbrev pub moved : ℕ → Operation → Operation
moved k (Compute c code to a b) = Compute k code to a b
moved k (Move c to a) = Move k to a
moved k (Select c to t a b) = Select k to t a b
moved k (Load c to o r d) = Load k to o r d
moved k (Store c o r a) = Store k o r a
moved k op = op

moved_candidate : (j k : ℕ) (form : Form) (text : List ℕ) → moved k (candidate j form text) ≡ candidate k form text
unfolding candidate compute_of move_of select_of load_of store_of branch_on_of
moved_candidate j k (Computes code) text = refl
moved_candidate j k Moves text = refl
moved_candidate j k Selects text = refl
moved_candidate j k (Loads dismissible) text = refl
moved_candidate j k Stores text = refl
moved_candidate j k form text = refl

moved_form : (k : ℕ) (op : Operation) (text : List ℕ) → has_form (moved k op) text ≡ has_form op text
unfolding has_form
moved_form k (Compute c code to a b) text = refl
moved_form k (Move c to a) text = refl
moved_form k (Select c to t a b) text = refl
moved_form k (Load c to o r d) text = refl
moved_form k (Store c o r a) text = refl
moved_form k op text = refl

moved_operands : (k : ℕ) (op : Operation) → k ≤ 3 → has_operands op ≡ true → has_operands (moved k op) ≡ true
unfolding has_operands
moved_operands k (Compute c code to a b) le e =
    let x = both_true (can_name_cluster c && is_destination code to && can_spell a) (can_spell b) e in
    let y = both_true (can_name_cluster c && is_destination code to) (can_spell a) x.0 in
    let z = both_true (can_name_cluster c) (is_destination code to) y.0 in
    rw (le-leb k 3 le, z.1, y.1, x.1) refl
moved_operands k (Move c to a) le e =
    let x = both_true (can_name_cluster c && can_name to) (can_spell a) e in
    let y = both_true (can_name_cluster c) (can_name to) x.0 in
    and_from _ _ (and_from _ _ (le-leb k 3 le) y.1) x.1
moved_operands k (Select c to t a b) le e =
    let x = both_true (can_name_cluster c && can_name to && can_name_branch t && can_spell a) (can_spell b) e in
    let y = both_true (can_name_cluster c && can_name to && can_name_branch t) (can_spell a) x.0 in
    let z = both_true (can_name_cluster c && can_name to) (can_name_branch t) y.0 in
    let v = both_true (can_name_cluster c) (can_name to) z.0 in
    and_from _ _ (and_from _ _ (and_from _ _ (and_from _ _ (le-leb k 3 le) v.1) z.1) y.1) x.1
moved_operands k (Load c to o r d) le e =
    let x = both_true (can_name_cluster c && can_name to) (can_name r) e in
    let y = both_true (can_name_cluster c) (can_name to) x.0 in
    and_from _ _ (and_from _ _ (le-leb k 3 le) y.1) x.1
moved_operands k (Store c o r a) le e =
    let x = both_true (can_name_cluster c && can_name r) (can_spell a) e in
    let y = both_true (can_name_cluster c) (can_name r) x.0 in
    and_from _ _ (and_from _ _ (le-leb k 3 le) y.1) x.1
moved_operands k op le e = e

abbrev found : Operation → Result Operation ℕ
found op = Ok op

abbrev lost : ℕ → Result Operation ℕ
lost code = Err code

abbrev operands : List ℕ → List ℕ
operands text = drop (prefix_len is_no_blank text + 1) text

abbrev operation_from : ℕ → Option Form → List ℕ → Result Operation ℕ
operation_from k o text = operation_by (option_map_or (λ form. Some (candidate k form (operands text))) o None) text

operation_from_is : (k : ℕ) (text : List ℕ) → operation_of k text ≡ operation_from k (form_of (first_field text)) text
unfolding operation_of
operation_from_is k text = refl

on_by : (j k : ℕ) (o : Option Form) (text : List ℕ) (op : Operation) → k ≤ 3 → operation_from j o text ≡ found op → operation_from k o text ≡ found (moved k op)
unfolding operation_by
on_by j k None text op le e = absurd (let h : lost 2 ≡ found op = e in cc)
on_by j k (Some form) text op le e =
    let x = candidate j form (operands text) in
    let a = kept (has_form x text && has_operands x) x op e in
    let b = both_true (has_form x text) (has_operands x) a.0 in
    let c = candidate k form (operands text) in
    let same : moved k x ≡ c = moved_candidate j k form (operands text) in
    let formed : has_form c text ≡ true = ap (λ y. has_form y text) (sym same) ∙ moved_form k x text ∙ b.0 in
    let fit : has_operands c ≡ true = ap has_operands (sym same) ∙ moved_operands k x le b.1 in
    rw (formed, fit) (ap found (sym same ∙ ap (moved k) a.1))

-- what a line on one cluster is read as is read on another
operation_on : (j k : ℕ) (text : List ℕ) (op : Operation) → k ≤ 3 → operation_of j text ≡ Ok op → operation_of k text ≡ Ok (moved k op)
operation_on j k text op le e =
    operation_from_is k text ∙ on_by j k (form_of (first_field text)) text op le (sym (operation_from_is j text) ∙ e)

-- names of operations

find_passes : (p : Form → Bool) (xs : List Form) (form : Form) → find p xs ≡ Some form → p form ≡ true
find_passes p [] form e = absurd cc
find_passes p (x ∷ xs) form e = pass_by (p x) refl e (find_passes p xs form)
  where
    pass_by : (b : Bool) → p x ≡ b → find p (x ∷ xs) ≡ Some form → (find p xs ≡ Some form → p form ≡ true) → p form ≡ true
    pass_by true t h again = let same : x ≡ form = (let k = rw t at h in cc) in ap p (sym same) ∙ t
    pass_by false t h again = again (rw t at h)

abbrev is_some : Option Form → Bool
is_some (Some form) = true
is_some None = false

named_is_some : (form : Form) → is_some (form_of (form_name form)) ≡ true
unfolding form_of
named_is_some (Computes (ToGeneral Eq)) = refl
named_is_some (Computes (ToGeneral Ne)) = refl
named_is_some (Computes (ToGeneral Lt)) = refl
named_is_some (Computes (ToGeneral Le)) = refl
named_is_some (Computes (ToGeneral Gt)) = refl
named_is_some (Computes (ToGeneral Ge)) = refl
named_is_some (Computes (ToGeneral Ltu)) = refl
named_is_some (Computes (ToGeneral Geu)) = refl
named_is_some (Computes (ToBranch Eq)) = refl
named_is_some (Computes (ToBranch Ne)) = refl
named_is_some (Computes (ToBranch Lt)) = refl
named_is_some (Computes (ToBranch Le)) = refl
named_is_some (Computes (ToBranch Gt)) = refl
named_is_some (Computes (ToBranch Ge)) = refl
named_is_some (Computes (ToBranch Ltu)) = refl
named_is_some (Computes (ToBranch Geu)) = refl
named_is_some (Computes code) = refl
named_is_some (Loads true) = refl
named_is_some (Loads false) = refl
named_is_some (Branches true) = refl
named_is_some (Branches false) = refl
named_is_some form = refl

abbrev some_form : Form → Option Form
some_form form = Some form

known_of : (rest : List ℕ) (form : Form) → form_of (first_field rest) ≡ some_form form → IsKnown rest
unfolding form_of
known_of rest form e = record { form = form; named = same_bytes (form_name form) (first_field rest) (find_passes (λ f. bytes_eq (form_name f) (first_field rest)) forms form e) }

pub unknown_of : (rest : List ℕ) → form_of (first_field rest) ≡ None → IsKnown rest → ⊥
unknown_of rest e x = let h : true ≡ false = sym (named_is_some x.form) ∙ ap (λ y. is_some (form_of y)) x.named ∙ ap is_some e in cc

-- what a reader takes a line for

pub data Read (k : ℕ) (rest : List ℕ) : Type 0 where
  unknown : (IsKnown rest → ⊥) → operation_of k rest ≡ Err 2 → Read k rest
  unfit : IsKnown rest → operation_of k rest ≡ Err 3 → Read k rest
  reads : IsKnown rest → (op : Operation) → operation_of k rest ≡ Ok op → Read k rest

read_form : (k : ℕ) (rest : List ℕ) (form : Form) (b : Bool) → form_of (first_field rest) ≡ some_form form
    → (has_form (candidate k form (operands rest)) rest && has_operands (candidate k form (operands rest))) ≡ b → Read k rest
unfolding operation_of operation_by
read_form k rest form true e t = reads (known_of rest form e) (candidate k form (operands rest)) (rw (e, t) refl)
read_form k rest form false e t = unfit (known_of rest form e) (rw (e, t) refl)

read_by : (k : ℕ) (rest : List ℕ) (o : Option Form) → form_of (first_field rest) ≡ o → Read k rest
unfolding operation_of operation_by
read_by k rest None e = unknown (unknown_of rest e) (rw e refl)
read_by k rest (Some form) e = read_form k rest form (has_form (candidate k form (operands rest)) rest && has_operands (candidate k form (operands rest))) e refl

pub read_cases : (k : ℕ) (rest : List ℕ) → Read k rest
read_cases k rest = read_by k rest (form_of (first_field rest)) refl

-- a front and a number

numbered : (front digits text : List ℕ) → text ≡ front ++ digits → is_number digits ≡ true → is_numbered front text ≡ true
numbered front digits text e number =
    let begins : starts_with nat_eq text front ≡ true = (starts_is Decides-eqb text front (starts_with nat_eq text front) refl).1 digits e in
    let rest : drop (length front) text ≡ digits = ap (drop (length front)) e ∙ drop_at front digits (length front) refl in
    rw (begins, rest) number

abbrev test_of : List ℕ → ℕ
test_of text = (number_at (drop 4 (operands text))).0

abbrev branch_target : List ℕ → ℕ
branch_target text = (number_at (drop 3 (number_at (drop 4 (operands text))).1)).0

branch_reads : (at_one : Bool) (t : ℕ) (text ds : List ℕ) → t ≤ 7 → text ≡ branch_front t at_one ++ ds → (test_of text ≡ t) × (branch_target text ≡ (number_at ds).0)
branch_reads true t text ds le e =
    let n = branch_number t ds le in
    (ap test_of e ∙ ap (λ (x : ℕ × List ℕ). x.0) n, ap branch_target e ∙ ap (λ (x : ℕ × List ℕ). (number_at (drop 3 x.1)).0) n)
branch_reads false t text ds le e =
    let n = branch_number t ds le in
    (ap test_of e ∙ ap (λ (x : ℕ × List ℕ). x.0) n, ap branch_target e ∙ ap (λ (x : ℕ × List ℕ). (number_at (drop 3 x.1)).0) n)

-- what a line that is read says of itself

pub data Shape (rest : List ℕ) (op : Operation) : Type 0 where
  plain : target_of op ≡ None → IsOperation rest op → Shape rest op
  jump : (place : ℕ) (n : NamesPlace rest place) → target_of op ≡ Some (number_at n.digits).0 → Shape rest op

plain_shape : (rest : List ℕ) (op : Operation) → target_of op ≡ None → fits_operation op ≡ true → bytes_eq (body_text op) rest ≡ true → has_operands op ≡ true → Shape rest op
plain_shape rest op none fits same fit = plain none (record { spellable = record { operands = fit; numbers = fits }; is = sym (same_bytes (body_text op) rest same) })

some_place : ℕ → Option ℕ
some_place p = Some p

form_shape : (k : ℕ) (form : Form) (text : List ℕ) → has_form (candidate k form (operands text)) text ≡ true → has_operands (candidate k form (operands text)) ≡ true
    → Shape text (candidate k form (operands text))
unfolding has_form has_operands candidate compute_of move_of select_of load_of store_of branch_on_of
form_shape k (Computes code) text e f = plain_shape text (candidate k (Computes code) (operands text)) refl (candidate_fits k (Computes code) (operands text)) e f
form_shape k Moves text e f = plain_shape text (candidate k Moves (operands text)) refl (candidate_fits k Moves (operands text)) e f
form_shape k Selects text e f = plain_shape text (candidate k Selects (operands text)) refl (candidate_fits k Selects (operands text)) e f
form_shape k (Loads d) text e f = plain_shape text (candidate k (Loads d) (operands text)) refl (candidate_fits k (Loads d) (operands text)) e f
form_shape k Stores text e f = plain_shape text (candidate k Stores (operands text)) refl (candidate_fits k Stores (operands text)) e f
form_shape k Goes text e f =
    let parts = numbered_parts (codes "goto L") text e in
    jump (digits_value 10 (drop 6 text)) (record { front = codes "goto L"; digits = drop 6 text; is = parts.0; jump = goes refl; number = parts.1; value = refl })
    (ap (λ x. Some (number_at (drop 1 (operands x))).0) parts.0)
form_shape k (Branches at_one) text e f = branch_shape at_one text e f
  where
    branch_shape : (at_one : Bool) (text : List ℕ) → has_form (candidate k (Branches at_one) (operands text)) text ≡ true → has_operands (candidate k (Branches at_one) (operands text)) ≡ true
        → Shape text (candidate k (Branches at_one) (operands text))
    branch_shape at_one text e f =
        let t = test_of text in
        let parts = numbered_parts (branch_front t at_one) text e in
        let test : t ≤ 7 = leb-true _ _ (both_true (nat_le t 7) (nat_lt (branch_target text) (branch_target text + 1)) f).0 in
        let digits = drop (length (branch_front t at_one)) text in
        jump (digits_value 10 digits) (record { front = branch_front t at_one; digits = digits; is = parts.0; jump = branches t at_one test refl; number = parts.1; value = refl })
        (ap (λ p. Some p) (branch_reads at_one t text digits test parts.0).1)
form_shape k Calls text e f =
    let parts = numbered_parts (codes "call $l0.0 = L") text e in
    jump (digits_value 10 (drop 14 text)) (record { front = codes "call $l0.0 = L"; digits = drop 14 text; is = parts.0; jump = calls refl; number = parts.1; value = refl })
    (ap (λ x. Some (number_at (drop 9 (operands x))).0) parts.0)
form_shape k TakesInput text e f = plain_shape text (candidate k TakesInput (operands text)) refl (candidate_fits k TakesInput (operands text)) e f
form_shape k AsksInput text e f = plain_shape text (candidate k AsksInput (operands text)) refl (candidate_fits k AsksInput (operands text)) e f
form_shape k PrintsText text e f = plain_shape text (candidate k PrintsText (operands text)) refl (candidate_fits k PrintsText (operands text)) e f
form_shape k PrintsDecimal text e f = plain_shape text (candidate k PrintsDecimal (operands text)) refl (candidate_fits k PrintsDecimal (operands text)) e f
form_shape k PrintsByte text e f = plain_shape text (candidate k PrintsByte (operands text)) refl (candidate_fits k PrintsByte (operands text)) e f
form_shape k Returns text e f = plain_shape text (candidate k Returns (operands text)) refl (candidate_fits k Returns (operands text)) e f
form_shape k FromLink text e f = plain_shape text (candidate k FromLink (operands text)) refl (candidate_fits k FromLink (operands text)) e f
form_shape k ToLink text e f = plain_shape text (candidate k ToLink (operands text)) refl (candidate_fits k ToLink (operands text)) e f
form_shape k Traps text e f = plain_shape text (candidate k Traps (operands text)) refl (candidate_fits k Traps (operands text)) e f
form_shape k Halts text e f = plain_shape text (candidate k Halts (operands text)) refl (candidate_fits k Halts (operands text)) e f

-- and its operands and numbers are those that a text can name
pub record Taken (rest : List ℕ) (op : Operation) : Type 0 where
  pub shape : Shape rest op
  pub operands : has_operands op ≡ true
  pub fits : fits_operation op ≡ true

taken_by : (k : ℕ) (o : Option Form) (text : List ℕ) (op : Operation) → operation_from k o text ≡ found op → Taken text op
unfolding operation_by
taken_by k None text op e = absurd (let h : lost 2 ≡ found op = e in cc)
taken_by k (Some form) text op e =
    let x = candidate k form (operands text) in
    let a = kept (has_form x text && has_operands x) x op e in
    let b = both_true (has_form x text) (has_operands x) a.0 in
    subst (Taken text) a.1 (record { shape = form_shape k form text b.0 b.1; operands = b.1; fits = candidate_fits k form (operands text) })

pub taken_of : (k : ℕ) (text : List ℕ) (op : Operation) → operation_of k text ≡ Ok op → Taken text op
taken_of k text op e = taken_by k (form_of (first_field text)) text op (sym (operation_from_is k text) ∙ e)

pub shape_form : (rest : List ℕ) (op : Operation) → Shape rest op → HasForm rest
shape_form rest op (plain none x) = operates op x
shape_form rest op (jump place n e) = jumps place n

-- what a line says of itself is read so

pub spelled_read : (k : ℕ) (rest : List ℕ) (op : Operation) → k ≤ 3 → IsOperation rest op → operation_of k rest ≡ Ok (moved k op)
unfolding has_operands
spelled_read k rest op le x =
    let again : operation_of (cluster_of op) rest ≡ Ok op =
    ap (operation_of (cluster_of op)) x.is ∙ operation_again (unwrap_or (target_of op) 0 + 1) (texts_named op) op x.spellable.operands x.spellable.numbers in
    operation_on (cluster_of op) k rest op le again

from_form : (k : ℕ) (form : Form) (text : List ℕ) (op : Operation) → form_of (first_field text) ≡ some_form form → candidate k form (operands text) ≡ op → has_form op text ≡ true → has_operands op ≡ true
    → operation_of k text ≡ Ok op
unfolding operation_of operation_by
from_form k form text op named can formed fit = rw (named, can, formed, fit) refl

-- an operation that is read and names the place of these digits
pub record JumpRead (k : ℕ) (rest digits : List ℕ) : Type 0 where
  pub op : Operation
  pub read : operation_of k rest ≡ Ok op
  pub target : target_of op ≡ Some (number_at digits).0

below_more : (n : ℕ) → nat_lt n (n + 1) ≡ true
below_more n = lt-ltb _ _ (omega arith)

jump_read : (k : ℕ) (rest front digits : List ℕ) → rest ≡ front ++ digits → is_number digits ≡ true → IsJump front → JumpRead k rest digits
unfolding form_of candidate has_form has_operands branch_on_of
jump_read k rest front digits e number (goes f) =
    let is : rest ≡ codes "goto L" ++ digits = e ∙ ap (λ x. x ++ digits) f in
    let n = (number_at digits).0 in
    record {
      op = Goto n;
      read = from_form k Goes rest (Goto n) (ap (λ x. form_of (first_field x)) is) (ap (λ x. Goto (number_at (drop 1 (operands x))).0) is) (numbered (codes "goto L") digits rest is number) (below_more n);
      target = refl;
    }
jump_read k rest front digits e number (branches t true le f) =
    let is : rest ≡ branch_front t true ++ digits = e ∙ ap (λ x. x ++ digits) f in
    let n = (number_at digits).0 in
    let b = branch_reads true t rest digits le is in
    record {
      op = BranchOn t true n;
      read = from_form k (Branches true) rest (BranchOn t true n) (ap (λ x. form_of (first_field x)) is) (λ i. BranchOn (b.0 i) true (b.1 i)) (numbered (branch_front t true) digits rest is number) (rw (le-leb t 7 le) (below_more n));
      target = refl;
    }
jump_read k rest front digits e number (branches t false le f) =
    let is : rest ≡ branch_front t false ++ digits = e ∙ ap (λ x. x ++ digits) f in
    let n = (number_at digits).0 in
    let b = branch_reads false t rest digits le is in
    record {
      op = BranchOn t false n;
      read = from_form k (Branches false) rest (BranchOn t false n) (ap (λ x. form_of (first_field x)) is) (λ i. BranchOn (b.0 i) false (b.1 i)) (numbered (branch_front t false) digits rest is number) (rw (le-leb t 7 le) (below_more n));
      target = refl;
    }
jump_read k rest front digits e number (calls f) =
    let is : rest ≡ codes "call $l0.0 = L" ++ digits = e ∙ ap (λ x. x ++ digits) f in
    let n = (number_at digits).0 in
    record {
      op = Call n;
      read = from_form k Calls rest (Call n) (ap (λ x. form_of (first_field x)) is) (ap (λ x. Call (number_at (drop 9 (operands x))).0) is) (numbered (codes "call $l0.0 = L") digits rest is number) (below_more n);
      target = refl;
    }

pub place_read : (k : ℕ) (rest : List ℕ) (place : ℕ) → (n : NamesPlace rest place) → JumpRead k rest n.digits
place_read k rest place n = jump_read k rest n.front n.digits n.is n.number n.jump

pub form_read : (k : ℕ) (rest : List ℕ) → k ≤ 3 → HasForm rest → (op : Operation) × (operation_of k rest ≡ Ok op)
form_read k rest le (operates op x) = (moved k op, spelled_read k rest op le x)
form_read k rest le (jumps place n) = let r = place_read k rest place n in (r.op, r.read)

-- a number that is cut at 32 bits is beyond whatever its value is beyond

pub value_is : (ds : List ℕ) → is_number ds ≡ true → value_from 0 ds ≡ digits_value 10 ds
value_is ds e = own.same ds (own.to ds (is_number_digits ds e))

pub beyond_value : (total : ℕ) (ds : List ℕ) → is_number ds ≡ true → total ≤ 4294967295 → total ≤ (number_at ds).0 → total ≤ digits_value 10 ds
unfolding number_at
beyond_value total ds e small le =
    let all = is_number_digits ds e in
    let value = value_is ds e in
    elim (cases_lt 4294967295 (value_from 0 ds)) [
      | inl far ↦ omega (arith, far, small, value)
      | inr near ↦ (let exact = number_exact 4294967295 0 ds all near in omega (arith, exact, le, value))
    ]

pub value_beyond : (total : ℕ) (ds : List ℕ) → is_number ds ≡ true → total ≤ 4294967295 → total ≤ digits_value 10 ds → total ≤ (number_at ds).0
unfolding number_at
value_beyond total ds e small le =
    let all = is_number_digits ds e in
    let value = value_is ds e in
    elim (cases_lt (number_from 4294967295 0 ds).0 4294967295) [
      | inl near ↦ (let exact = number_below 4294967295 0 ds all (omega arith) near in omega (arith, exact, le, value))
      | inr far ↦ omega (arith, far, small)
    ]

-- the cluster of a line

pub line_cluster_small : (text : List ℕ) → is_operation_line text ≡ true → line_cluster text ≤ 3
line_cluster_small text e = let r = cluster_range text e in let high = r.1 in omega (arith, high)

pub on_cluster : (text : List ℕ) → is_operation_line text ≡ true → OnCluster text (drop 3 text)
on_cluster text e =
    let r = cluster_range text e in
    let low = r.0 in
    let high = r.1 in
    let digit : decimal (line_cluster text) ≡ get_or text 1 0 ∷ [] =
    decimal_digit (line_cluster text) (omega (arith, low, high)) ∙ ap (λ d. d ∷ []) (let h : 48 + (get_or text 1 0 - 48) ≡ get_or text 1 0 = omega (arith, low) in h) in
    record { cluster = line_cluster text; small = line_cluster_small text e; is = three_bytes text e ∙ ap (λ x. codes "c" ++ x ++ codes " " ++ drop 3 text) (sym digit) }

pub on_cluster_rest : (text rest : List ℕ) → OnCluster text rest → rest ≡ drop 3 text
on_cluster_rest text rest on = ap (drop 3) (sym (on_cluster_bytes text rest on))

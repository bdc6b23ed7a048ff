-- The line of an operation that is read is the text of that operation.
use Rattle.std.proofs.Common.{◌≡◌, ℕ, ◌+◌, ◌-◌, ◌<◌, ◌≤◌, Bool, true, false, ◌&&◌, List, [], ◌∷◌, ◌++◌, length, get_or, take, drop, Option, Some, None, Result, Ok, Err, refl, sym, ap, subst, ◌∙◌, append_assoc, arith}
use Rattle.std.specs.Prelude.{decimal, nat_eq, nat_lt, nat_le, codes, if◌then◌else◌}
use Rattle.std.specs.List.{starts_with, prefix_len}
use Rattle.std.specs.Option.{option_map_or}
use Rattle.std.specs.Str.{bytes_eq}
use Rattle.std.proofs.lemmas.Slice.Eq.{bytes_eq-Decides, starts_is}
use Rattle.std.proofs.lemmas.Bool.Decides.{Decides-eqb}
use Rattle.std.proofs.lemmas.Fmt.{decimal_digit}
use Rattle.std.proofs.lemmas.Bool.{ltb-false, lt-ltb}
use borrow.Author.Tests.{leb-true, leb-false, eqb-true}
use Rattle.vx_isa.specs.declared.operation.Operation.{Operation}
use Rattle.vx_isa.specs.declared.operation.Operation.TheVariants.{Compute, Move, Select, Load, Store, Input, More, OutText, OutDecimal, OutByte, Goto, BranchOn, Call, Return, FromLink as ReadLink, ToLink as WriteLink, EndByTrap, Halt}
use Rattle.vx_isa.specs.Operations.{cluster_of}
use Rattle.vx_isa.specs.Sound.{is_sound_operation}
use Rattle.vx_reader.specs.declared.form.Form.{Form}
use Rattle.vx_reader.specs.declared.form.Form.TheVariants.{Computes, Moves, Selects, Loads, Stores, TakesInput, AsksInput, PrintsText, PrintsDecimal, PrintsByte, Goes, Branches, Calls, Returns, FromLink, ToLink, Traps, Halts}
use Rattle.vx_words.specs.Spelling.{body_text, operation_text}
use Rattle.vx_reader.specs.Fields.{number_from, number_at}
use Rattle.vx_reader.specs.Forms.{form_of, candidate, compute_of, move_of, select_of, load_of, store_of, branch_on_of}
use Rattle.vx_reader.specs.Reading.{is_number, is_numbered, branch_front, has_form, has_operands, texts_named, is_field, operation_by, operation_of}
use Rattle.vx_reader.specs.Steps.{is_beyond, is_operation_line, line_cluster}
use Rattle.vx_reader.proofs.Numbers.{both_true, number_again, number_is_written}

abbrev most : ℕ
most = 4294967295

is_same_text : (xs ys : List ℕ) → bytes_eq xs ys ≡ true → xs ≡ ys
is_same_text xs ys e = (bytes_eq-Decides xs ys).0 e

-- a front and a number
pub numbered_parts : (front text : List ℕ) → is_numbered front text ≡ true → (text ≡ front ++ drop (length front) text) × (is_number (drop (length front) text) ≡ true)
numbered_parts front text e =
    let b = both_true (starts_with nat_eq text front) (is_number (drop (length front) text)) e in
    ((starts_is Decides-eqb text front (starts_with nat_eq text front) refl).0 b.0, b.1)

written_below : (ds : List ℕ) → is_number ds ≡ true → (number_at ds).0 < most → decimal (number_at ds).0 ≡ ds
unfolding number_at
written_below ds number lt = number_is_written most ds (omega arith) number lt

abbrev operands : List ℕ → List ℕ
operands text = drop (prefix_len is_field text + 1) text

goes_spelled : (text ds : List ℕ) → text ≡ codes "goto L" ++ ds → is_number ds ≡ true → (number_at (drop 1 (operands text))).0 < most
    → body_text (Goto (number_at (drop 1 (operands text))).0) ≡ text
goes_spelled text ds e number lt =
    subst (λ x. (number_at (drop 1 (operands x))).0 < most → body_text (Goto (number_at (drop 1 (operands x))).0) ≡ x) (sym e)
    (λ h. ap (λ d. codes "goto L" ++ d) (written_below ds number h)) lt

calls_spelled : (text ds : List ℕ) → text ≡ codes "call $l0.0 = L" ++ ds → is_number ds ≡ true → (number_at (drop 9 (operands text))).0 < most
    → body_text (Call (number_at (drop 9 (operands text))).0) ≡ text
calls_spelled text ds e number lt =
    subst (λ x. (number_at (drop 9 (operands x))).0 < most → body_text (Call (number_at (drop 9 (operands x))).0) ≡ x) (sym e)
    (λ h. ap (λ d. codes "call $l0.0 = L" ++ d) (written_below ds number h)) lt

pub branch_number : (t : ℕ) (ds : List ℕ) → t ≤ 7 → number_at ((decimal t ++ codes ", L") ++ ds) ≡ (t, codes ", L" ++ ds)
unfolding number_at
branch_number t ds le = ap (number_from most 0) (append_assoc (decimal t) (codes ", L") ds) ∙ number_again most t (codes ", L" ++ ds) (omega arith) (omega arith) refl

abbrev branch_target : List ℕ → ℕ
branch_target text = (number_at (drop 3 (number_at (drop 4 (operands text))).1)).0

regroup_label : (X ds : List ℕ) → (X ++ codes ", ") ++ (codes "L" ++ ds) ≡ (X ++ codes ", L") ++ ds
regroup_label X ds = append_assoc X (codes ", ") (codes "L" ++ ds) ∙ sym (append_assoc X (codes ", L") ds)

branches_spelled : (at_one : Bool) (t : ℕ) (text ds : List ℕ) → text ≡ branch_front t at_one ++ ds → t ≤ 7 → is_number ds ≡ true → branch_target text < most
    → body_text (BranchOn t at_one (branch_target text)) ≡ text
branches_spelled true t text ds e le number lt =
    subst (λ x. branch_target x < most → body_text (BranchOn t true (branch_target x)) ≡ x) (sym e)
    (λ h. let n = branch_number t ds le in
    let target : branch_target (branch_front t true ++ ds) ≡ (number_at ds).0 = ap (λ (x : ℕ × List ℕ). (number_at (drop 3 x.1)).0) n in
    let below : (number_at ds).0 < most = subst (λ v. v < most) target h in
    rw (target, written_below ds number below) (regroup_label (codes "br $b0." ++ decimal t) ds)) lt
branches_spelled false t text ds e le number lt =
    subst (λ x. branch_target x < most → body_text (BranchOn t false (branch_target x)) ≡ x) (sym e)
    (λ h. let n = branch_number t ds le in
    let target : branch_target (branch_front t false ++ ds) ≡ (number_at ds).0 = ap (λ (x : ℕ × List ℕ). (number_at (drop 3 x.1)).0) n in
    let below : (number_at ds).0 < most = subst (λ v. v < most) target h in
    rw (target, written_below ds number below) (regroup_label (codes "brf $b0." ++ decimal t) ds)) lt

-- below the number of words, and so below the cap
below_most : (total p : ℕ) → nat_le total p ≡ false → total ≤ most → p < most
below_most total p e le = let h = leb-false total p e in omega (arith, h)

form_spelled : (total k : ℕ) (form : Form) (text : List ℕ) → has_form (candidate k form (operands text)) text ≡ true → has_operands (candidate k form (operands text)) ≡ true
    → is_beyond total (candidate k form (operands text)) ≡ false → total ≤ most → body_text (candidate k form (operands text)) ≡ text
unfolding has_form has_operands candidate compute_of move_of select_of load_of store_of branch_on_of
form_spelled total k (Computes code) text e f b le = is_same_text _ text e
form_spelled total k Moves text e f b le = is_same_text _ text e
form_spelled total k Selects text e f b le = is_same_text _ text e
form_spelled total k (Loads dismissible) text e f b le = is_same_text _ text e
form_spelled total k Stores text e f b le = is_same_text _ text e
form_spelled total k TakesInput text e f b le = is_same_text _ text e
form_spelled total k AsksInput text e f b le = is_same_text _ text e
form_spelled total k PrintsText text e f b le = is_same_text _ text e
form_spelled total k PrintsDecimal text e f b le = is_same_text _ text e
form_spelled total k PrintsByte text e f b le = is_same_text _ text e
form_spelled total k Goes text e f b le =
    let parts = numbered_parts (codes "goto L") text e in
    goes_spelled text (drop 6 text) parts.0 parts.1 (below_most total (number_at (drop 1 (operands text))).0 b le)
form_spelled total k (Branches at_one) text e f b le =
    let t = (number_at (drop 4 (operands text))).0 in
    let parts = numbered_parts (branch_front t at_one) text e in
    let test : t ≤ 7 = leb-true _ _ (both_true (nat_le t 7) (nat_lt (branch_target text) (branch_target text + 1)) f).0 in
    branches_spelled at_one t text (drop (length (branch_front t at_one)) text) parts.0 test parts.1 (below_most total (branch_target text) b le)
form_spelled total k Calls text e f b le =
    let parts = numbered_parts (codes "call $l0.0 = L") text e in
    calls_spelled text (drop 14 text) parts.0 parts.1 (below_most total (number_at (drop 9 (operands text))).0 b le)
form_spelled total k Returns text e f b le = is_same_text _ text e
form_spelled total k FromLink text e f b le = is_same_text _ text e
form_spelled total k ToLink text e f b le = is_same_text _ text e
form_spelled total k Traps text e f b le = is_same_text _ text e
form_spelled total k Halts text e f b le = is_same_text _ text e

abbrev found : Operation → Result Operation ℕ
found op = Ok op

abbrev lost : ℕ → Result Operation ℕ
lost code = Err code

pub kept : (b : Bool) (x op : Operation) → (if b then found x else lost 3) ≡ found op → (b ≡ true) × (x ≡ op)
kept true x op e = (refl, cc)
kept false x op e = absurd cc

body_by : (total k : ℕ) (o : Option Form) (text : List ℕ) (op : Operation)
    → operation_by (option_map_or (λ form. Some (candidate k form (operands text))) o None) text ≡ Ok op
    → is_beyond total op ≡ false → total ≤ most → (body_text op ≡ text) × (has_operands op ≡ true)
unfolding operation_by
body_by total k None text op e b le = absurd (let h : lost 2 ≡ found op = e in cc)
body_by total k (Some form) text op e b le =
    let x = candidate k form (operands text) in
    let a = kept (has_form x text && has_operands x) x op e in
    let both = both_true (has_form x text) (has_operands x) a.0 in
    subst (λ y. is_beyond total y ≡ false → (body_text y ≡ text) × (has_operands y ≡ true)) a.1
    (λ h. (form_spelled total k form text both.0 both.1 h le, both.1)) b

pub body_spelled : (total k : ℕ) (text : List ℕ) (op : Operation) → operation_of k text ≡ Ok op → is_beyond total op ≡ false → total ≤ 4294967295
    → (body_text op ≡ text) × (has_operands op ≡ true)
unfolding operation_of
body_spelled total k text op e b le = body_by total k (form_of (take (prefix_len is_field text) text)) text op e b le

-- a line that begins with a cluster and a blank

pub three_bytes : (text : List ℕ) → is_operation_line text ≡ true → text ≡ 99 ∷ get_or text 1 0 ∷ 32 ∷ drop 3 text
three_bytes [] e = absurd (let b = both_true (nat_eq 0 99 && nat_le 48 0 && nat_le 0 51) (nat_eq 0 32) e in let no : false ≡ true = b.1 in cc)
three_bytes (x ∷ []) e = absurd (let b = both_true (nat_eq x 99 && nat_le 48 0 && nat_le 0 51) (nat_eq 0 32) e in let no : false ≡ true = b.1 in cc)
three_bytes (x ∷ y ∷ []) e = absurd (let b = both_true (nat_eq x 99 && nat_le 48 y && nat_le y 51) (nat_eq 0 32) e in let no : false ≡ true = b.1 in cc)
three_bytes (x ∷ y ∷ z ∷ rest) e =
    let b = both_true (nat_eq x 99 && nat_le 48 y && nat_le y 51) (nat_eq z 32) e in
    let c = both_true (nat_eq x 99 && nat_le 48 y) (nat_le y 51) b.0 in
    let d = both_true (nat_eq x 99) (nat_le 48 y) c.0 in
    let x-is : x ≡ 99 = eqb-true _ _ d.0 in
    let z-is : z ≡ 32 = eqb-true _ _ b.1 in
    cc

pub cluster_range : (text : List ℕ) → is_operation_line text ≡ true → (48 ≤ get_or text 1 0) × (get_or text 1 0 ≤ 51)
cluster_range text e =
    let b = both_true (nat_eq (get_or text 0 0) 99 && nat_le 48 (get_or text 1 0) && nat_le (get_or text 1 0) 51) (nat_eq (get_or text 2 0) 32) e in
    let c = both_true (nat_eq (get_or text 0 0) 99 && nat_le 48 (get_or text 1 0)) (nat_le (get_or text 1 0) 51) b.0 in
    let d = both_true (nat_eq (get_or text 0 0) 99) (nat_le 48 (get_or text 1 0)) c.0 in
    (leb-true _ _ d.1, leb-true _ _ c.1)

pub operation_spelled : (total : ℕ) (text : List ℕ) (op : Operation) → is_operation_line text ≡ true → operation_of (line_cluster text) (drop 3 text) ≡ Ok op
    → nat_eq (line_cluster text) (cluster_of op) ≡ true → is_beyond total op ≡ false → total ≤ 4294967295 → operation_text op ≡ text
operation_spelled total text op e found same beyond le =
    let body = (body_spelled total (line_cluster text) (drop 3 text) op found beyond le).0 in
    let range = cluster_range text e in
    let cluster : cluster_of op ≡ line_cluster text = sym (eqb-true _ _ same) in
    let digit : decimal (line_cluster text) ≡ get_or text 1 0 ∷ [] =
    decimal_digit (line_cluster text) (omega (arith, range.0, range.1)) ∙ ap (λ d. d ∷ []) (let h : 48 + (get_or text 1 0 - 48) ≡ get_or text 1 0 = omega (arith, range.0) in h) in
    rw (cluster, digit, body) (sym (three_bytes text e))

-- the operation is sound where its texts and its place are there
pub sound_operation : (total texts : ℕ) (op : Operation) → has_operands op ≡ true → nat_lt texts (texts_named op) ≡ false → is_beyond total op ≡ false
    → is_sound_operation total texts op ≡ true
unfolding has_operands
sound_operation total texts (Compute k code to a b) e f g = e
sound_operation total texts (Move k to a) e f g = e
sound_operation total texts (Select k to t a b) e f g = e
sound_operation total texts (Load k to o r d) e f g = e
sound_operation total texts (Store k o r a) e f g = e
sound_operation total texts (Input to) e f g = e
sound_operation total texts (More to) e f g = e
sound_operation total texts (OutText n) e f g = lt-ltb _ _ (let h = ltb-false texts (n + 1) f in omega (arith, h))
sound_operation total texts (OutDecimal a) e f g = e
sound_operation total texts (OutByte a) e f g = e
sound_operation total texts (Goto p) e f g = lt-ltb _ _ (leb-false total p g)
sound_operation total texts (BranchOn t at_one p) e f g =
    let b = both_true (nat_le t 7) (nat_lt p (p + 1)) e in
    rw (b.0) (lt-ltb _ _ (leb-false total p g))
sound_operation total texts (Call p) e f g = lt-ltb _ _ (leb-false total p g)
sound_operation total texts Return e f g = e
sound_operation total texts (ReadLink to) e f g = e
sound_operation total texts (WriteLink a) e f g = e
sound_operation total texts (EndByTrap k) e f g = e
sound_operation total texts (Halt a) e f g = e

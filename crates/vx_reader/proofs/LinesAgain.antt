-- The lines of a program that is written: none holds a line feed, so they are the lines of its text.
use Rattle.std.proofs.Common.{◌≡◌, ℕ, suc, ◌+◌, ◌-◌, ◌*◌, ◌/◌, ◌%◌, ◌^◌, ◌<◌, ◌≤◌, ℤ, pos, negsuc, Bool, true, false, ◌&&◌, List, [], ◌∷◌, ◌++◌, length, take, refl, ap, ◌∙◌, inl, inr, append_assoc, arith}
use Rattle.std.specs.Prelude.{decimal, nat_eq, nat_lt, nat_le, codes, not}
use Rattle.std.specs.Fmt.{signed_decimal}
use Rattle.std.specs.List.{list_all, flat_map}
use Rattle.std.proofs.lemmas.Fmt.{digits_decimal}
use Rattle.std.proofs.lemmas.List.{length-append, take_at}
use Rattle.std.proofs.lemmas.List.Folds.{list_all-append}
use Rattle.std.proofs.lemmas.Bool.Decides.{nat_tests}
use Rattle.std.proofs.lemmas.Bool.{lt-ltb, cases_lt}
use borrow.Author.Tests.{leb-true, ltb-true, eqb-true}
use Rattle.vx_base.specs.declared.arithmetic.Compare.TheVariants.{Eq, Ne, Lt, Le, Gt, Ge, Ltu, Geu}
use Rattle.vx_base.specs.declared.arithmetic.Code.{Code}
use Rattle.vx_base.specs.declared.arithmetic.Code.TheVariants.{Mov, ToGeneral, ToBranch}
use Rattle.vx_base.specs.declared.outcome.Trap.{Trap}
use Rattle.vx_base.specs.declared.outcome.Trap.TheVariants.{Divide, Index, Input as NoInput, Depth}
use Rattle.vx_isa.specs.declared.operation.GeneralRegister.{GeneralRegister}
use Rattle.vx_isa.specs.declared.operation.BranchRegister.{BranchRegister}
use Rattle.vx_isa.specs.declared.operation.Register.{Register}
use Rattle.vx_isa.specs.declared.operation.Register.TheVariants.{General, Branch, Link}
use Rattle.vx_isa.specs.declared.operation.Source.{Source}
use Rattle.vx_isa.specs.declared.operation.Source.TheVariants.{Held, Number}
use Rattle.vx_isa.specs.declared.operation.Operation.{Operation}
use Rattle.vx_isa.specs.declared.operation.Operation.TheVariants.{Compute, Move, Select, Load, Store, Input, More, OutText, OutDecimal, OutByte, Goto, BranchOn, Call, Return, FromLink as ReadLink, ToLink as WriteLink, EndByTrap, Halt}
use Rattle.vx_isa.specs.Operations.{cluster_of}
use Rattle.vx_isa.specs.Sound.{can_name, can_name_branch, can_name_cluster, can_spell, is_destination, is_sound_operation}
use Rattle.vx_reader.specs.declared.quoted.Escape.TheVariants.{Plain}
use Rattle.vx_words.specs.Spelling.{general_text, branch_text, register_text, source_text, address_text, code_name, trap_number, body_text, operation_text, is_plain, hexadecimal_digit, byte_text, quoted_text, version_text, start_text, place_text, idle_text}
use Rattle.vx_reader.specs.Fields.{is_digit}
use Rattle.vx_isa.specs.Range.{fits_signed, fits_source, fits_operation}
use Rattle.vx_reader.specs.Steps.{hexadecimal_value, unquoted_from, unquoted}
use Rattle.vx_reader.specs.Text.{lines, cons_first, is_not_feed}
use Rattle.vx_reader.proofs.Numbers.{own, both_true}
use Rattle.vx_reader.proofs.LineLemmas.{unlines}

abbrev pub IsLine : List ℕ → Type 0
IsLine l = list_all is_not_feed l ≡ true

join : (xs ys : List ℕ) → IsLine xs → IsLine ys → IsLine (xs ++ ys)
join xs ys x y = list_all-append is_not_feed xs ys ∙ rw (x, y) refl

digit_is_plain : (c : ℕ) → is_digit c ≡ true → is_not_feed c ≡ true
digit_is_plain c e = let low : 48 ≤ c = leb-true _ _ (both_true (nat_le 48 c) (nat_le c 57) e).0 in let apart : nat_eq c 10 ≡ false = grind (arith, nat_tests) in rw apart refl

digits_line : (ds : List ℕ) → list_all is_digit ds ≡ true → IsLine ds
digits_line [] e = refl
digits_line (c ∷ cs) e = let b = both_true (is_digit c) (list_all is_digit cs) e in rw (digit_is_plain c b.0) (digits_line cs b.1)

number_line : (n : ℕ) → n < 2 ^ 64 → IsLine (decimal n)
number_line n small = digits_line (decimal n) (digits_decimal own n small)

signed_line : (z : ℤ) → fits_signed z ≡ true → IsLine (signed_decimal z)
signed_line (pos n) e = let le : n ≤ 2147483647 = leb-true _ _ e in number_line n (omega arith)
signed_line (negsuc n) e = let le : n ≤ 2147483647 = leb-true _ _ e in number_line (suc n) (omega arith)

general_line : (r : GeneralRegister) → can_name r ≡ true → IsLine (general_text r)
general_line r e =
    let b = both_true (nat_le r.cluster 3) (nat_le r.number 63) e in
    let k : r.cluster ≤ 3 = leb-true _ _ b.0 in
    let n : r.number ≤ 63 = leb-true _ _ b.1 in
    join ((codes "$r" ++ decimal r.cluster) ++ codes ".") (decimal r.number) (join (codes "$r" ++ decimal r.cluster) (codes ".") (join (codes "$r") (decimal r.cluster) refl (number_line r.cluster (omega arith))) refl) (number_line r.number (omega arith))

branch_line : (r : BranchRegister) → can_name_branch r ≡ true → IsLine (branch_text r)
branch_line r e =
    let b = both_true (nat_le r.cluster 3) (nat_le r.number 7) e in
    let k : r.cluster ≤ 3 = leb-true _ _ b.0 in
    let n : r.number ≤ 7 = leb-true _ _ b.1 in
    join ((codes "$b" ++ decimal r.cluster) ++ codes ".") (decimal r.number) (join (codes "$b" ++ decimal r.cluster) (codes ".") (join (codes "$b") (decimal r.cluster) refl (number_line r.cluster (omega arith))) refl) (number_line r.number (omega arith))

source_line : (a : Source) → can_spell a ≡ true → fits_source a ≡ true → IsLine (source_text a)
source_line (Held r) e f = general_line r e
source_line (Number z) e f = signed_line z f

code_line : (code : Code) → IsLine (code_name code)
code_line (ToGeneral Eq) = refl
code_line (ToGeneral Ne) = refl
code_line (ToGeneral Lt) = refl
code_line (ToGeneral Le) = refl
code_line (ToGeneral Gt) = refl
code_line (ToGeneral Ge) = refl
code_line (ToGeneral Ltu) = refl
code_line (ToGeneral Geu) = refl
code_line (ToBranch Eq) = refl
code_line (ToBranch Ne) = refl
code_line (ToBranch Lt) = refl
code_line (ToBranch Le) = refl
code_line (ToBranch Gt) = refl
code_line (ToBranch Ge) = refl
code_line (ToBranch Ltu) = refl
code_line (ToBranch Geu) = refl
code_line code = refl

destination_line : (code : Code) (to : Register) → is_destination code to ≡ true → IsLine (register_text to)
destination_line Mov to e = absurd (let no : false ≡ true = e in cc)
destination_line (ToBranch compare) (Branch r) e = branch_line r e
destination_line (ToBranch compare) (General r) e = absurd (let no : false ≡ true = e in cc)
destination_line (ToBranch compare) Link e = absurd (let no : false ≡ true = e in cc)
destination_line code (General r) e = general_line r e
destination_line code (Branch r) e = absurd (let no : false ≡ true = e in cc)
destination_line code Link e = absurd (let no : false ≡ true = e in cc)

pair_line : (A : List ℕ) (a b : Source) → IsLine A → IsLine (source_text a) → IsLine (source_text b) → IsLine (((A ++ source_text a) ++ codes ", ") ++ source_text b)
pair_line A a b x y z = join ((A ++ source_text a) ++ codes ", ") (source_text b) (join (A ++ source_text a) (codes ", ") (join A (source_text a) x y) refl) z

address_line : (o : ℤ) (r : GeneralRegister) → fits_signed o ≡ true → can_name r ≡ true → IsLine (address_text o r)
address_line o r f e = join ((signed_decimal o ++ codes "[") ++ general_text r) (codes "]") (join (signed_decimal o ++ codes "[") (general_text r) (join (signed_decimal o) (codes "[") (signed_line o f) refl) (general_line r e)) refl

body_line : (total texts : ℕ) (op : Operation) → is_sound_operation total texts op ≡ true → fits_operation op ≡ true → IsLine (body_text op)
body_line total texts (Compute k code to a b) e f =
    let x = both_true (can_name_cluster k && is_destination code to && can_spell a) (can_spell b) e in
    let y = both_true (can_name_cluster k && is_destination code to) (can_spell a) x.0 in
    let z = both_true (can_name_cluster k) (is_destination code to) y.0 in
    let g = both_true (fits_source a) (fits_source b) f in
    let front = join ((code_name code ++ codes " ") ++ register_text to) (codes " = ") (join (code_name code ++ codes " ") (register_text to) (join (code_name code) (codes " ") (code_line code) refl) (destination_line code to z.1)) refl in
    pair_line (((code_name code ++ codes " ") ++ register_text to) ++ codes " = ") a b front (source_line a y.1 g.0) (source_line b x.1 g.1)
body_line total texts (Move k to a) e f =
    let x = both_true (can_name_cluster k && can_name to) (can_spell a) e in
    let y = both_true (can_name_cluster k) (can_name to) x.0 in
    join ((codes "mov " ++ general_text to) ++ codes " = ") (source_text a) (join (codes "mov " ++ general_text to) (codes " = ") (join (codes "mov ") (general_text to) refl (general_line to y.1)) refl) (source_line a x.1 f)
body_line total texts (Select k to t a b) e f =
    let x = both_true (can_name_cluster k && can_name to && can_name_branch t && can_spell a) (can_spell b) e in
    let y = both_true (can_name_cluster k && can_name to && can_name_branch t) (can_spell a) x.0 in
    let z = both_true (can_name_cluster k && can_name to) (can_name_branch t) y.0 in
    let v = both_true (can_name_cluster k) (can_name to) z.0 in
    let g = both_true (fits_source a) (fits_source b) f in
    let front = join (((codes "slct " ++ general_text to) ++ codes " = ") ++ branch_text t) (codes ", ") (join ((codes "slct " ++ general_text to) ++ codes " = ") (branch_text t) (join (codes "slct " ++ general_text to) (codes " = ") (join (codes "slct ") (general_text to) refl (general_line to v.1)) refl) (branch_line t z.1)) refl in
    pair_line ((((codes "slct " ++ general_text to) ++ codes " = ") ++ branch_text t) ++ codes ", ") a b front (source_line a y.1 g.0) (source_line b x.1 g.1)
body_line total texts (Load k to o r true) e f =
    let x = both_true (can_name_cluster k && can_name to) (can_name r) e in
    let y = both_true (can_name_cluster k) (can_name to) x.0 in
    join ((codes "ldw.d " ++ general_text to) ++ codes " = ") (address_text o r) (join (codes "ldw.d " ++ general_text to) (codes " = ") (join (codes "ldw.d ") (general_text to) refl (general_line to y.1)) refl) (address_line o r f x.1)
body_line total texts (Load k to o r false) e f =
    let x = both_true (can_name_cluster k && can_name to) (can_name r) e in
    let y = both_true (can_name_cluster k) (can_name to) x.0 in
    join ((codes "ldw " ++ general_text to) ++ codes " = ") (address_text o r) (join (codes "ldw " ++ general_text to) (codes " = ") (join (codes "ldw ") (general_text to) refl (general_line to y.1)) refl) (address_line o r f x.1)
body_line total texts (Store k o r a) e f =
    let x = both_true (can_name_cluster k && can_name r) (can_spell a) e in
    let y = both_true (can_name_cluster k) (can_name r) x.0 in
    let g = both_true (fits_signed o) (fits_source a) f in
    join ((codes "stw " ++ address_text o r) ++ codes " = ") (source_text a) (join (codes "stw " ++ address_text o r) (codes " = ") (join (codes "stw ") (address_text o r) refl (address_line o r g.0 y.1)) refl) (source_line a x.1 g.1)
body_line total texts (Input to) e f = join (codes "in ") (general_text to) refl (general_line to e)
body_line total texts (More to) e f = join (codes "more ") (general_text to) refl (general_line to e)
body_line total texts (OutText n) e f = let le : n ≤ 4294967295 = leb-true _ _ f in join (codes "outs T") (decimal n) refl (number_line n (omega arith))
body_line total texts (OutDecimal a) e f = join (codes "outd ") (source_text a) refl (source_line a e f)
body_line total texts (OutByte a) e f = join (codes "outb ") (source_text a) refl (source_line a e f)
body_line total texts (Goto p) e f = let le : p ≤ 4294967295 = leb-true _ _ f in join (codes "goto L") (decimal p) refl (number_line p (omega arith))
body_line total texts (BranchOn t true p) e f =
    let le : p ≤ 4294967295 = leb-true _ _ f in
    let low : t ≤ 7 = leb-true _ _ (both_true (nat_le t 7) (nat_lt p total) e).0 in
    join ((codes "br $b0." ++ decimal t) ++ codes ", ") (codes "L" ++ decimal p) (join (codes "br $b0." ++ decimal t) (codes ", ") (join (codes "br $b0.") (decimal t) refl (number_line t (omega arith))) refl) (join (codes "L") (decimal p) refl (number_line p (omega arith)))
body_line total texts (BranchOn t false p) e f =
    let le : p ≤ 4294967295 = leb-true _ _ f in
    let low : t ≤ 7 = leb-true _ _ (both_true (nat_le t 7) (nat_lt p total) e).0 in
    join ((codes "brf $b0." ++ decimal t) ++ codes ", ") (codes "L" ++ decimal p) (join (codes "brf $b0." ++ decimal t) (codes ", ") (join (codes "brf $b0.") (decimal t) refl (number_line t (omega arith))) refl) (join (codes "L") (decimal p) refl (number_line p (omega arith)))
body_line total texts (Call p) e f = let le : p ≤ 4294967295 = leb-true _ _ f in join (codes "call $l0.0 = L") (decimal p) refl (number_line p (omega arith))
body_line total texts Return e f = refl
body_line total texts (ReadLink to) e f = join (codes "mfl " ++ general_text to) (codes " = $l0.0") (join (codes "mfl ") (general_text to) refl (general_line to e)) refl
body_line total texts (WriteLink a) e f = join (codes "mtl $l0.0 = ") (source_text a) refl (source_line a e f)
body_line total texts (EndByTrap k) e f = trap_line k
  where
    trap_line : (k : Trap) → IsLine (codes "trap " ++ decimal (trap_number k))
    trap_line Divide = join (codes "trap ") (decimal 1) refl (number_line 1 (omega arith))
    trap_line Index = join (codes "trap ") (decimal 2) refl (number_line 2 (omega arith))
    trap_line NoInput = join (codes "trap ") (decimal 3) refl (number_line 3 (omega arith))
    trap_line Depth = join (codes "trap ") (decimal 4) refl (number_line 4 (omega arith))
body_line total texts (Halt a) e f = join (codes "halt ") (source_text a) refl (source_line a e f)

pub cluster_bound : (total texts : ℕ) (op : Operation) → is_sound_operation total texts op ≡ true → cluster_of op ≤ 3
cluster_bound total texts (Compute k code to a b) e = leb-true _ _ (both_true (can_name_cluster k) (is_destination code to) (both_true (can_name_cluster k && is_destination code to) (can_spell a) (both_true (can_name_cluster k && is_destination code to && can_spell a) (can_spell b) e).0).0).0
cluster_bound total texts (Move k to a) e = leb-true _ _ (both_true (can_name_cluster k) (can_name to) (both_true (can_name_cluster k && can_name to) (can_spell a) e).0).0
cluster_bound total texts (Select k to t a b) e = leb-true _ _ (both_true (can_name_cluster k) (can_name to) (both_true (can_name_cluster k && can_name to) (can_name_branch t) (both_true (can_name_cluster k && can_name to && can_name_branch t) (can_spell a) (both_true (can_name_cluster k && can_name to && can_name_branch t && can_spell a) (can_spell b) e).0).0).0).0
cluster_bound total texts (Load k to o r d) e = leb-true _ _ (both_true (can_name_cluster k) (can_name to) (both_true (can_name_cluster k && can_name to) (can_name r) e).0).0
cluster_bound total texts (Store k o r a) e = leb-true _ _ (both_true (can_name_cluster k) (can_name r) (both_true (can_name_cluster k && can_name r) (can_spell a) e).0).0
cluster_bound total texts op e = omega arith

pub operation_is_line : (total texts : ℕ) (op : Operation) → is_sound_operation total texts op ≡ true → fits_operation op ≡ true → IsLine (operation_text op)
operation_is_line total texts op e f =
    let k = cluster_bound total texts op e in
    join ((codes "c" ++ decimal (cluster_of op)) ++ codes " ") (body_text op) (join (codes "c" ++ decimal (cluster_of op)) (codes " ") (join (codes "c") (decimal (cluster_of op)) refl (number_line (cluster_of op) (omega arith))) refl) (body_line total texts op e f)

-- the other lines

pub start_is_line : (e : ℕ × ℤ) → e.0 < 2 ^ 64 → fits_signed e.1 ≡ true → IsLine (start_text e)
start_is_line e small f = join ((codes ".word " ++ decimal e.0) ++ codes " = ") (signed_decimal e.1) (join (codes ".word " ++ decimal e.0) (codes " = ") (join (codes ".word ") (decimal e.0) refl (number_line e.0 small)) refl) (signed_line e.1 f)

pub version_is_line : (v : ℕ) → v < 2 ^ 64 → IsLine (version_text v)
version_is_line v small = join (codes ".vexwords ") (decimal v) refl (number_line v small)

pub memory_is_line : (m : ℕ) → m < 2 ^ 64 → IsLine (codes ".memory " ++ decimal m)
memory_is_line m small = join (codes ".memory ") (decimal m) refl (number_line m small)

pub place_is_line : (p : ℕ) → p < 2 ^ 64 → IsLine (place_text p)
place_is_line p small = join (codes "L" ++ decimal p) (codes ":") (join (codes "L") (decimal p) refl (number_line p small)) refl

pub idle_is_line : (n : ℕ) → n < 2 ^ 64 → IsLine (idle_text n)
idle_is_line n small = join (codes "xnop ") (decimal n) refl (number_line n small)

apart_from : (c d : ℕ) → (c ≡ d → ⊥) → nat_eq c d ≡ false
apart_from c d h = apart_by (nat_eq c d) refl
  where
    apart_by : (b : Bool) → nat_eq c d ≡ b → nat_eq c d ≡ false
    apart_by true e = absurd (h (eqb-true _ _ e))
    apart_by false e = e

low_digit : (d : ℕ) → d < 10 → hexadecimal_digit d ≡ 48 + d
low_digit d lt = rw (lt-ltb _ _ lt) refl

high_digit : (d : ℕ) → 10 ≤ d → hexadecimal_digit d ≡ 87 + d
high_digit d le = let no : nat_lt d 10 ≡ false = grind (arith, nat_tests) in rw no refl

digit_value_is : (d : ℕ) → d < 16 → hexadecimal_value (hexadecimal_digit d) ≡ d
digit_value_is d lt =
    elim (cases_lt d 10) [
      | inl low ↦ (let test : nat_lt (48 + d) 58 ≡ true = lt-ltb _ _ (omega arith) in ap hexadecimal_value (low_digit d low) ∙ rw test (let e : (48 + d - 48) % 16 ≡ d = omega arith in e))
      | inr high ↦ (let test : nat_lt (87 + d) 58 ≡ false = grind (arith, nat_tests) in ap hexadecimal_value (high_digit d high) ∙ rw test (let e : (87 + d - 87) % 16 ≡ d = omega arith in e))
    ]

digit_no_feed : (d : ℕ) → d < 16 → is_not_feed (hexadecimal_digit d) ≡ true
digit_no_feed d lt =
    elim (cases_lt d 10) [
      | inl low ↦ (let apart : nat_eq (48 + d) 10 ≡ false = apart_from (48 + d) 10 (λ e. omega (arith, e)) in ap is_not_feed (low_digit d low) ∙ rw apart refl)
      | inr high ↦ (let apart : nat_eq (87 + d) 10 ≡ false = apart_from (87 + d) 10 (λ e. omega (arith, e)) in ap is_not_feed (high_digit d high) ∙ rw apart refl)
    ]

plain_low : (b : ℕ) → is_plain b ≡ true → (32 ≤ b) × (nat_eq b 92 ≡ false)
plain_low b e =
    let x = both_true (nat_le 32 b && nat_le b 126 && not (nat_eq b 34)) (not (nat_eq b 92)) e in
    let y = both_true (nat_le 32 b && nat_le b 126) (not (nat_eq b 34)) x.0 in
    let z = both_true (nat_le 32 b) (nat_le b 126) y.0 in
    (leb-true _ _ z.0, no_true (nat_eq b 92) x.1)
  where
    no_true : (c : Bool) → not c ≡ true → c ≡ false
    no_true true e = absurd cc
    no_true false e = refl

byte_is_line : (b : ℕ) → b < 256 → IsLine (byte_text b)
byte_is_line b lt = byte_by (is_plain b) refl
  where
    byte_by : (c : Bool) → is_plain b ≡ c → IsLine (byte_text b)
    byte_by true e = let low = (plain_low b e).0 in let apart : nat_eq b 10 ≡ false = apart_from b 10 (λ h. omega (arith, h)) in rw e (rw apart refl)
    byte_by false e = rw e (rw (digit_no_feed (b / 16) (omega arith), digit_no_feed (b % 16) (omega arith)) refl)

bytes_are_line : (bs : List ℕ) → list_all (λ b. nat_lt b 256) bs ≡ true → IsLine (flat_map byte_text bs)
bytes_are_line [] e = refl
bytes_are_line (b ∷ bs) e =
    let x = both_true (nat_lt b 256) (list_all (λ b. nat_lt b 256) bs) e in
    join (byte_text b) (flat_map byte_text bs) (byte_is_line b (ltb-true _ _ x.0)) (bytes_are_line bs x.1)

pub quoted_is_line : (bs : List ℕ) → list_all (λ b. nat_lt b 256) bs ≡ true → IsLine (quoted_text bs)
quoted_is_line bs e = join (codes ".text \"" ++ flat_map byte_text bs) (codes "\"") (join (codes ".text \"") (flat_map byte_text bs) refl (bytes_are_line bs e)) refl

-- a quoted text is read again

unquoted_byte : (b : ℕ) (rest : List ℕ) → b < 256 → unquoted_from Plain (byte_text b ++ rest) ≡ b ∷ unquoted_from Plain rest
unquoted_byte b rest lt = unquoted_by (is_plain b) refl
  where
    unquoted_by : (c : Bool) → is_plain b ≡ c → unquoted_from Plain (byte_text b ++ rest) ≡ b ∷ unquoted_from Plain rest
    unquoted_by true e = rw e (rw ((plain_low b e).1) refl)
    unquoted_by false e =
        let whole : 16 * (b / 16) + b % 16 ≡ b = omega arith in
        rw e (rw (digit_value_is (b / 16) (omega arith), digit_value_is (b % 16) (omega arith), whole) refl)

unquoted_bytes : (bs : List ℕ) → list_all (λ b. nat_lt b 256) bs ≡ true → unquoted_from Plain (flat_map byte_text bs) ≡ bs
unquoted_bytes [] e = refl
unquoted_bytes (b ∷ bs) e =
    let x = both_true (nat_lt b 256) (list_all (λ b. nat_lt b 256) bs) e in
    unquoted_byte b (flat_map byte_text bs) (ltb-true _ _ x.0) ∙ ap (λ t. b ∷ t) (unquoted_bytes bs x.1)

pub quoted_again : (bs : List ℕ) → list_all (λ b. nat_lt b 256) bs ≡ true → unquoted (quoted_text bs) ≡ bs
unfolding unquoted
quoted_again bs e =
    let Q = flat_map byte_text bs in
    let long : length (Q ++ codes "\"") - 1 ≡ length Q = omega (arith, length-append Q (codes "\"")) in
    let inner : take (length (Q ++ codes "\"") - 1) (Q ++ codes "\"") ≡ Q = ap (λ n. take n (Q ++ codes "\"")) long ∙ take_at Q (codes "\"") (length Q) refl in
    ap (unquoted_from Plain) inner ∙ unquoted_bytes bs e

-- lines without line feeds are the lines of their text

lines_then : (l rest : List ℕ) → IsLine l → lines (l ++ (10 ∷ rest)) ≡ l ∷ lines rest
lines_then [] rest e = refl
lines_then (c ∷ cs) rest e =
    let b = both_true (is_not_feed c) (list_all is_not_feed cs) e in
    let apart : nat_eq c 10 ≡ false = no_feed c b.0 in
    rw apart (ap (cons_first c) (lines_then cs rest b.1))
  where
    no_feed : (c : ℕ) → is_not_feed c ≡ true → nat_eq c 10 ≡ false
    no_feed c e = no_true (nat_eq c 10) e
      where
        no_true : (c : Bool) → not c ≡ true → c ≡ false
        no_true true e = absurd cc
        no_true false e = refl

pub lines_again : (ls : List (List ℕ)) → list_all (list_all is_not_feed) ls ≡ true → lines (unlines ls) ≡ ls
lines_again [] e = refl
lines_again (l ∷ ls) e =
    let b = both_true (list_all is_not_feed l) (list_all (list_all is_not_feed) ls) e in
    ap lines (append_assoc l (10 ∷ []) (unlines ls)) ∙ lines_then l (unlines ls) b.0 ∙ ap (λ t. l ∷ t) (lines_again ls b.1)

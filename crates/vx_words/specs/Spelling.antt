-- The text of a program of words, in the program's version, which the first line says. Every line ends with one line feed;
-- fields stand apart by one blank; numbers are decimal without leading zeros. There is one spelling for each program.
use Rattle.std.specs.Prelude.{◌≡◌, ℕ, ◌+◌, ◌/◌, ◌%◌, ℤ, Bool, true, false, ◌&&◌, ◌==◌, nat_lt, nat_le, if◌then◌else◌, not, List, [], ◌∷◌, ◌++◌, Option, Some, None, codes, decimal}
use Rattle.std.specs.List.{flat_map, list_any}
use Rattle.std.specs.Fmt.{signed_decimal}
use Rattle.std.specs.Option.{option_map_or}
use Rattle.vx_base.specs.declared.arithmetic.Compare.{Compare}
use Rattle.vx_base.specs.declared.arithmetic.Compare.TheVariants.{Eq, Ne, Lt, Le, Gt, Ge, Ltu, Geu}
use Rattle.vx_base.specs.declared.arithmetic.Code.{Code}
use Rattle.vx_base.specs.declared.arithmetic.Code.TheVariants.{Add, Sub, And, Or, Xor, Shl, Shr, Shru, Sh2add, Max, Min, Mov, ToGeneral, ToBranch, Mpylu, Mpyhs, Div, Rem}
use Rattle.vx_base.specs.declared.outcome.Trap.{Trap}
use Rattle.vx_base.specs.declared.outcome.Trap.TheVariants.{Divide, Index, Input as NoInput, Depth}
use Rattle.vx_isa.specs.declared.operation.GeneralRegister.{GeneralRegister}
use Rattle.vx_isa.specs.declared.operation.BranchRegister.{BranchRegister}
use Rattle.vx_isa.specs.declared.operation.Register.{Register}
use Rattle.vx_isa.specs.declared.operation.Register.TheVariants.{General, Branch, Link}
use Rattle.vx_isa.specs.declared.operation.Source.{Source}
use Rattle.vx_isa.specs.declared.operation.Source.TheVariants.{Held, Number}
use Rattle.vx_isa.specs.declared.operation.Operation.{Operation}
use Rattle.vx_isa.specs.declared.operation.Operation.TheVariants.{Compute, Move, Select, Load, Store, Input, More, OutText, OutDecimal, OutByte, Goto, BranchOn, Call, Return, FromLink, ToLink, EndByTrap, Halt}
use Rattle.vx_isa.specs.declared.program.Word.{Word}
use Rattle.vx_isa.specs.declared.program.WordProgram.{WordProgram}
use Rattle.vx_isa.specs.Operations.{cluster_of}
use Rattle.vx_isa.specs.Sound.{is_sound}

-- registers and sources

abbrev pub general_text : GeneralRegister → List ℕ
general_text r = codes "$r" ++ decimal r.cluster ++ codes "." ++ decimal r.number

abbrev pub branch_text : BranchRegister → List ℕ
branch_text r = codes "$b" ++ decimal r.cluster ++ codes "." ++ decimal r.number

abbrev pub register_text : Register → List ℕ
register_text (General r) = general_text r
register_text (Branch r) = branch_text r
register_text Link = codes "$l0.0"

abbrev pub source_text : Source → List ℕ
source_text (Held r) = general_text r
source_text (Number z) = signed_decimal z

abbrev pub label_text : ℕ → List ℕ
label_text p = codes "L" ++ decimal p

-- o[$rK.n]
abbrev pub address_text : ℤ → GeneralRegister → List ℕ
address_text o r = signed_decimal o ++ codes "[" ++ general_text r ++ codes "]"

-- the names of the operations

abbrev pub compare_name : Compare → List ℕ
compare_name Eq = codes "cmpeq"
compare_name Ne = codes "cmpne"
compare_name Lt = codes "cmplt"
compare_name Le = codes "cmple"
compare_name Gt = codes "cmpgt"
compare_name Ge = codes "cmpge"
compare_name Ltu = codes "cmpltu"
compare_name Geu = codes "cmpgeu"

abbrev pub code_name : Code → List ℕ
code_name Add = codes "add"
code_name Sub = codes "sub"
code_name And = codes "and"
code_name Or = codes "or"
code_name Xor = codes "xor"
code_name Shl = codes "shl"
code_name Shr = codes "shr"
code_name Shru = codes "shru"
code_name Sh2add = codes "sh2add"
code_name Max = codes "max"
code_name Min = codes "min"
code_name Mov = codes "mov"
code_name (ToGeneral compare) = compare_name compare
code_name (ToBranch compare) = compare_name compare
code_name Mpylu = codes "mpylu"
code_name Mpyhs = codes "mpyhs"
code_name Div = codes "div"
code_name Rem = codes "rem"

abbrev pub trap_number : Trap → ℕ
trap_number Divide = 1
trap_number Index = 2
trap_number NoInput = 3
trap_number Depth = 4

-- operations

-- the place that an operation names
abbrev pub target_of : Operation → Option ℕ
target_of (Goto p) = Some p
target_of (BranchOn t w p) = Some p
target_of (Call p) = Some p
target_of op = None

abbrev pub compute_text : Code → Register → Source → Source → List ℕ
compute_text code to a b = code_name code ++ codes " " ++ register_text to ++ codes " = " ++ source_text a ++ codes ", " ++ source_text b

abbrev pub select_text : GeneralRegister → BranchRegister → Source → Source → List ℕ
select_text to t a b = codes "slct " ++ general_text to ++ codes " = " ++ branch_text t ++ codes ", " ++ source_text a ++ codes ", " ++ source_text b

abbrev pub load_text : GeneralRegister → ℤ → GeneralRegister → (dismissible : Bool) → List ℕ
load_text to o r dismissible = (if dismissible then codes "ldw.d " else codes "ldw ") ++ general_text to ++ codes " = " ++ address_text o r

abbrev pub store_text : ℤ → GeneralRegister → Source → List ℕ
store_text o r a = codes "stw " ++ address_text o r ++ codes " = " ++ source_text a

abbrev pub branch_on_text : ℕ → (taken_at_one : Bool) → ℕ → List ℕ
branch_on_text t at_one p = (if at_one then codes "br $b0." else codes "brf $b0.") ++ decimal t ++ codes ", " ++ label_text p

-- what stands behind the cluster and its blank
abbrev pub body_text : Operation → List ℕ
body_text (Compute k code to a b) = compute_text code to a b
body_text (Move k to a) = codes "mov " ++ general_text to ++ codes " = " ++ source_text a
body_text (Select k to t a b) = select_text to t a b
body_text (Load k to o r d) = load_text to o r d
body_text (Store k o r a) = store_text o r a
body_text (Input to) = codes "in " ++ general_text to
body_text (More to) = codes "more " ++ general_text to
body_text (OutText n) = codes "outs T" ++ decimal n
body_text (OutDecimal a) = codes "outd " ++ source_text a
body_text (OutByte a) = codes "outb " ++ source_text a
body_text (Goto p) = codes "goto " ++ label_text p
body_text (BranchOn t at_one p) = branch_on_text t at_one p
body_text (Call p) = codes "call $l0.0 = " ++ label_text p
body_text Return = codes "return $l0.0"
body_text (FromLink to) = codes "mfl " ++ general_text to ++ codes " = $l0.0"
body_text (ToLink a) = codes "mtl $l0.0 = " ++ source_text a
body_text (EndByTrap k) = codes "trap " ++ decimal (trap_number k)
body_text (Halt a) = codes "halt " ++ source_text a

abbrev pub operation_text : Operation → List ℕ
operation_text op = codes "c" ++ decimal (cluster_of op) ++ codes " " ++ body_text op

-- lines

abbrev pub line : List ℕ → List ℕ
line text = text ++ 10 ∷ []

-- a word of the memory that does not start as 0
abbrev pub start_text : ℕ × ℤ → List ℕ
start_text entry = codes ".word " ++ decimal entry.0 ++ codes " = " ++ signed_decimal entry.1

abbrev pub start_line : ℕ × ℤ → List ℕ
start_line entry = line (start_text entry)

-- the printable bytes but the quote and the backslash stand for themselves
abbrev pub is_plain : ℕ → Bool
is_plain b = nat_le 32 b && nat_le b 126 && not (b == 34) && not (b == 92)

abbrev pub hexadecimal_digit : ℕ → ℕ
hexadecimal_digit d = if nat_lt d 10 then 48 + d else 87 + d

abbrev pub byte_text : ℕ → List ℕ
byte_text b = if is_plain b then b ∷ [] else 92 ∷ 120 ∷ hexadecimal_digit (b / 16) ∷ hexadecimal_digit (b % 16) ∷ []

abbrev pub quoted_text : List ℕ → List ℕ
quoted_text bytes = codes ".text \"" ++ flat_map byte_text bytes ++ codes "\""

abbrev pub text_line : List ℕ → List ℕ
text_line bytes = line (quoted_text bytes)

abbrev pub operation_line : Operation → List ℕ
operation_line op = line (operation_text op)

abbrev pub idle_text : ℕ → List ℕ
idle_text n = codes "xnop " ++ decimal n

-- a word's own lines, its label aside
abbrev pub word_lines : Word → List ℕ
word_lines w =
    (if w.idle == 0 then flat_map operation_line w.ops else line (idle_text w.idle)) ++ line (codes ";;")

-- some operation of the words names the place
abbrev pub names : ℕ → Operation → Bool
names p op = option_map_or (λ q. q == p) (target_of op) false

abbrev pub is_named : List Word → ℕ → Bool
is_named words p = list_any (λ w. list_any (names p) w.ops) words

abbrev pub place_text : ℕ → List ℕ
place_text p = label_text p ++ codes ":"

abbrev pub label_line : ℕ → List ℕ
label_line p = line (place_text p)

-- the words from place p on; a label line stands exactly where an operation of the whole program names the place
abbrev pub words_from : List Word → ℕ → List Word → List ℕ
words_from all p [] = []
words_from all p (w ∷ ws) = (if is_named all p then label_line p else []) ++ word_lines w ++ words_from all (p + 1) ws

-- the first line is the version of the text
abbrev pub version_text : ℕ → List ℕ
version_text version = codes ".vexwords " ++ decimal version

abbrev pub header : (version memory : ℕ) → List ℕ
header version memory = line (version_text version) ++ line (codes ".memory " ++ decimal memory)

abbrev pub spelling : WordProgram → List ℕ
spelling w =
    header w.version w.memory ++ flat_map start_line w.start ++ flat_map text_line w.texts ++ words_from w.words 0 w.words ++ line (codes ".end")

-- the bytes are the text of the program
abbrev pub Spells : List ℕ → WordProgram → Type 0
Spells bytes w = (is_sound w ≡ true) × (bytes ≡ spelling w)

-- The forms of operations: the name of each, and the one operation that a text of it can be.
use Rattle.std.specs.Prelude.{ℕ, ◌==◌, Bool, true, false, if◌then◌else◌, List, [], ◌∷◌, drop, Option, find, codes}
use Rattle.std.specs.Str.{bytes_eq}
use Rattle.vx_base.specs.declared.arithmetic.Compare.TheVariants.{Eq, Ne, Lt, Le, Gt, Ge, Ltu, Geu}
use Rattle.vx_base.specs.declared.arithmetic.Code.{Code}
use Rattle.vx_base.specs.declared.arithmetic.Code.TheVariants.{Add, Sub, And, Or, Xor, Shl, Shr, Shru, Sh2add, Max, Min, ToGeneral, ToBranch, Mpylu, Mpyhs, Div, Rem}
use Rattle.vx_base.specs.declared.outcome.Trap.{Trap}
use Rattle.vx_base.specs.declared.outcome.Trap.TheVariants.{Divide, Index, Input as NoInput, Depth}
use Rattle.vx_isa.specs.declared.operation.Register.{Register}
use Rattle.vx_isa.specs.declared.operation.Register.TheVariants.{Branch}
use Rattle.vx_isa.specs.declared.operation.Operation.{Operation}
use Rattle.vx_isa.specs.declared.operation.Operation.TheVariants.{Compute, Move, Select, Load, Store, Input, More, OutText, OutDecimal, OutByte, Goto, BranchOn, Call, Return, FromLink as ReadLink, ToLink as WriteLink, EndByTrap, Halt}
use Rattle.vx_reader.specs.declared.form.Form.{Form}
use Rattle.vx_reader.specs.declared.form.Form.TheVariants.{Computes, Moves, Selects, Loads, Stores, TakesInput, AsksInput, PrintsText, PrintsDecimal, PrintsByte, Goes, Branches, Calls, Returns, FromLink, ToLink, Traps, Halts}
use Rattle.vx_words.specs.Spelling.{code_name}
use Rattle.vx_reader.specs.Fields.{number_at, signed_at, general_at, branch_at, register_at, source_at}

abbrev pub form_name : Form → List ℕ
form_name (Computes code) = code_name code
form_name Moves = codes "mov"
form_name Selects = codes "slct"
form_name (Loads dismissible) = if dismissible then codes "ldw.d" else codes "ldw"
form_name Stores = codes "stw"
form_name TakesInput = codes "in"
form_name AsksInput = codes "more"
form_name PrintsText = codes "outs"
form_name PrintsDecimal = codes "outd"
form_name PrintsByte = codes "outb"
form_name Goes = codes "goto"
form_name (Branches at_one) = if at_one then codes "br" else codes "brf"
form_name Calls = codes "call"
form_name Returns = codes "return"
form_name FromLink = codes "mfl"
form_name ToLink = codes "mtl"
form_name Traps = codes "trap"
form_name Halts = codes "halt"

abbrev pub forms : List Form
forms =
    Computes Add ∷ Computes Sub ∷ Computes And ∷ Computes Or ∷ Computes Xor ∷ Computes Shl ∷ Computes Shr ∷ Computes Shru ∷ Computes Sh2add
    ∷ Computes Max ∷ Computes Min ∷ Computes Mpylu ∷ Computes Mpyhs ∷ Computes Div ∷ Computes Rem
    ∷ Computes (ToGeneral Eq) ∷ Computes (ToGeneral Ne) ∷ Computes (ToGeneral Lt) ∷ Computes (ToGeneral Le) ∷ Computes (ToGeneral Gt)
    ∷ Computes (ToGeneral Ge) ∷ Computes (ToGeneral Ltu) ∷ Computes (ToGeneral Geu)
    ∷ Moves ∷ Selects ∷ Loads false ∷ Loads true ∷ Stores ∷ TakesInput ∷ AsksInput ∷ PrintsText ∷ PrintsDecimal ∷ PrintsByte
    ∷ Goes ∷ Branches true ∷ Branches false ∷ Calls ∷ Returns ∷ FromLink ∷ ToLink ∷ Traps ∷ Halts ∷ []

unfoldable pub form_of : List ℕ → Option Form
form_of name = find (λ form. bytes_eq (form_name form) name) forms

-- a compare is to a branch register where its destination is one
abbrev pub code_to : Code → Register → Code
code_to (ToGeneral compare) (Branch r) = ToBranch compare
code_to code to = code

abbrev pub trap_of : ℕ → Trap
trap_of n = if n == 1 then Divide else (if n == 2 then Index else (if n == 3 then NoInput else Depth))

unfoldable pub compute_of : ℕ → Code → List ℕ → Operation
compute_of k code text =
    let to = register_at text in
    let a = source_at (drop 3 to.1) in
    let b = source_at (drop 2 a.1) in
    Compute k (code_to code to.0) to.0 a.0 b.0

unfoldable pub move_of : ℕ → List ℕ → Operation
move_of k text = let to = general_at text in Move k to.0 (source_at (drop 3 to.1)).0

unfoldable pub select_of : ℕ → List ℕ → Operation
select_of k text =
    let to = general_at text in
    let t = branch_at (drop 3 to.1) in
    let a = source_at (drop 2 t.1) in
    let b = source_at (drop 2 a.1) in
    Select k to.0 t.0 a.0 b.0

unfoldable pub load_of : ℕ → (dismissible : Bool) → List ℕ → Operation
load_of k dismissible text =
    let to = general_at text in
    let o = signed_at (drop 3 to.1) in
    Load k to.0 o.0 (general_at (drop 1 o.1)).0 dismissible

unfoldable pub store_of : ℕ → List ℕ → Operation
store_of k text =
    let o = signed_at text in
    let r = general_at (drop 1 o.1) in
    Store k o.0 r.0 (source_at (drop 4 r.1)).0

unfoldable pub branch_on_of : (at_one : Bool) → List ℕ → Operation
branch_on_of at_one text = let t = number_at (drop 4 text) in BranchOn t.0 at_one (number_at (drop 3 t.1)).0

-- the one operation of a form, on a cluster, that a text can be
unfoldable pub candidate : ℕ → Form → List ℕ → Operation
candidate k (Computes code) text = compute_of k code text
candidate k Moves text = move_of k text
candidate k Selects text = select_of k text
candidate k (Loads dismissible) text = load_of k dismissible text
candidate k Stores text = store_of k text
candidate k TakesInput text = Input (general_at text).0
candidate k AsksInput text = More (general_at text).0
candidate k PrintsText text = OutText (number_at (drop 1 text)).0
candidate k PrintsDecimal text = OutDecimal (source_at text).0
candidate k PrintsByte text = OutByte (source_at text).0
candidate k Goes text = Goto (number_at (drop 1 text)).0
candidate k (Branches at_one) text = branch_on_of at_one text
candidate k Calls text = Call (number_at (drop 9 text)).0
candidate k Returns text = Return
candidate k FromLink text = ReadLink (general_at text).0
candidate k ToLink text = WriteLink (source_at (drop 8 text)).0
candidate k Traps text = EndByTrap (trap_of (number_at text).0)
candidate k Halts text = Halt (source_at text).0

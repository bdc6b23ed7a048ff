-- The operation of a line: its name, and then its operands, which must be spelled as the operation spells them.
use Rattle.std.specs.Prelude.{◌≡◌, ℕ, ◌+◌, Bool, ◌&&◌, ◌||◌, ◌==◌, nat_lt, slice_index, not, if◌then◌else◌, List, ◌++◌, length, take, drop, Option, Some, None, unwrap_or, Result, Ok, Err, codes, decimal}
use Rattle.std.specs.List.{list_all, starts_with, prefix_len}
use Rattle.std.specs.Option.{option_map_or}
use Rattle.std.specs.Prelude.{nat_eq}
use Rattle.std.specs.Str.{bytes_eq}
use Rattle.vx_isa.specs.declared.operation.Operation.{Operation}
use Rattle.vx_isa.specs.declared.operation.Operation.TheVariants.{OutText, Goto, BranchOn, Call}
use Rattle.vx_isa.specs.Sound.{is_sound_operation}
use Rattle.vx_reader.specs.declared.fault.LineFault.{LineFault}
use Rattle.vx_reader.specs.declared.fault.LineFault.TheVariants.{Code, Memory}
use Rattle.vx_words.specs.Spelling.{target_of, body_text}
use Rattle.vx_reader.specs.Fields.{is_digit}
use Rattle.vx_reader.specs.Forms.{form_of, candidate}

-- What a function returned, seen by view, is what reading gives, unless memory ran out.
abbrev pub Fails : {Y : Type 0} → LineFault → Result Y ℕ → Type 0
Fails Memory read = Unit {0}
Fails (Code code) read = read ≡ Err code

abbrev pub Gives : {X Y : Type 0} → (X → Y) → Result X LineFault → Result Y ℕ → Type 0
Gives view (Ok x) read = read ≡ Ok (view x)
Gives view (Err e) read = Fails e read

-- decimal digits without a leading zero
abbrev pub is_number : List ℕ → Bool
is_number ds = list_all is_digit ds && nat_lt 0 (length ds) && (not (slice_index ds 0 == 48) || (length ds == 1))

-- a front, and then a number of any length
abbrev pub is_numbered : (front text : List ℕ) → Bool
is_numbered front text = starts_with nat_eq text front && is_number (drop (length front) text)

abbrev pub branch_front : ℕ → (taken_at_one : Bool) → List ℕ
branch_front t at_one = (if at_one then codes "br $b0." else codes "brf $b0.") ++ decimal t ++ codes ", L"

-- the text, behind the cluster, is of the operation's form; the number of a place may have any length
unfoldable pub has_form : Operation → List ℕ → Bool
has_form (Goto p) text = is_numbered (codes "goto L") text
has_form (BranchOn t at_one p) text = is_numbered (branch_front t at_one) text
has_form (Call p) text = is_numbered (codes "call $l0.0 = L") text
has_form op text = bytes_eq (body_text op) text

-- how many texts there are at least where an operation's text is there
abbrev pub texts_named : Operation → ℕ
texts_named (OutText n) = n + 1
texts_named op = 0

-- the registers, clusters and branch registers of the operation can be named
unfoldable pub has_operands : Operation → Bool
has_operands op = is_sound_operation (unwrap_or (target_of op) 0 + 1) (texts_named op) op

abbrev pub is_field : ℕ → Bool
is_field c = not (c == 32)

-- the operation of a form that a text, behind the cluster, is; else the operands are not of their form
unfoldable pub operation_by : Option Operation → List ℕ → Result Operation ℕ
operation_by None text = Err 2
operation_by (Some op) text = if has_form op text && has_operands op then Ok op else Err 3

-- the operation that a text behind a cluster and its blank is, or the code of its fault
unfoldable pub operation_of : ℕ → List ℕ → Result Operation ℕ
operation_of k text =
    let name = prefix_len is_field text in
    operation_by (option_map_or (λ form. Some (candidate k form (drop (name + 1) text))) (form_of (take name text)) None) text

-- What a program of words does: one word a step, writes that land within their latencies at times that a list
-- of numbers picks, and the reasons for which a word cannot be issued.
use Rattle.std.specs.Prelude.{ℕ, zero, suc, ◌+◌, ◌%◌, ℤ, pos, Bool, true, false, ◌&&◌, not, ◌==◌, if◌then◌else◌, nat_le, max, List, [], ◌∷◌, ◌++◌, Option, Some, None, slice_get, drop, count_by, is_some, unwrap_or}
use Rattle.std.specs.List.{list_any, flat_map}
use Rattle.std.specs.Fmt.{signed_decimal}
use Rattle.vx_base.specs.Arithmetic.{value_of, sum_of, unsigned, wrap}
pub use Rattle.vx_base.specs.Flight.{landing_time}
use Rattle.vx_base.specs.Flight.{Write as InFlight, landed as lands_at, flying}
use Rattle.vx_base.specs.Outcome.{Outcome, Ends, Traps, Stuck, Step, On, Over, run}
use Rattle.vx_base.specs.declared.outcome.Trap.{Trap}
use Rattle.vx_base.specs.declared.outcome.Reason.{Reason}
use Rattle.vx_base.specs.declared.outcome.Reason.TheVariants.{BadTarget, BadWord, Overfull, BadAddress, NoInputLeft}
use Rattle.vx_isa.specs.declared.operation.GeneralRegister.{GeneralRegister}
use Rattle.vx_isa.specs.declared.operation.Register.{Register}
use Rattle.vx_isa.specs.declared.operation.Register.TheVariants.{General, Branch, Link}
use Rattle.vx_isa.specs.declared.operation.Source.{Source}
use Rattle.vx_isa.specs.declared.operation.Source.TheVariants.{Held, Number}
use Rattle.vx_isa.specs.declared.operation.Operation.{Operation}
use Rattle.vx_isa.specs.declared.operation.Operation.TheVariants.{Compute, Move, Select, Load, Store, Input, More, OutText, OutDecimal, OutByte, Goto, BranchOn, Call, Return, FromLink, ToLink, EndByTrap, Halt}
use Rattle.vx_isa.specs.declared.program.Word.{Word}
use Rattle.vx_isa.specs.declared.program.WordProgram.{WordProgram}
use Rattle.vx_isa.specs.Numbers.{Numbers}
use Rattle.vx_isa.specs.Operations.{same, is_zero, destination_of, is_call, latency_of}
use Rattle.vx_isa.specs.Fits.{is_bad_word, fits}

-- a write in flight, and the cycles until it lands, at least 1
abbrev pub Write : Type 0
Write = InFlight Register ℤ

pub record State : Type 0 where
  pub place : ℕ
  pub cycle : ℕ
  pub registers : Register → ℤ
  -- the writes in flight, in the order of their issue
  pub flying : List Write
  -- the word at each address that is a multiple of 4
  pub memory : ℕ → ℤ
  pub input : List ℤ
  pub out : List ℕ
  -- how many landing times were asked for so far
  pub asked : ℕ

-- what is read

abbrev pub register : State → Register → ℤ
register s r = if is_zero r then pos 0 else s.registers r

abbrev pub source : State → Source → ℤ
source s (Held r) = register s (General r)
source s (Number z) = z

-- base and offset modulo 2^32, read unsigned
abbrev pub address : State → GeneralRegister → ℤ → ℕ
address s base offset = unsigned (sum_of (register s (General base)) offset)

-- an address is an aligned word of a memory of so many bytes
abbrev pub is_word_of : ℕ → ℕ → Bool
is_word_of size a = (a % 4 == 0) && nat_le (a + 4) size

abbrev pub loaded : ℕ → State → ℕ → ℤ
loaded size s a = if is_word_of size a then s.memory a else pos 0

abbrev pub is_one : ℤ → Bool
is_one (pos (suc zero)) = true
is_one z = false

abbrev pub first_of : List ℤ → ℤ
first_of [] = pos 0
first_of (x ∷ xs) = x

abbrev pub is_left : List ℤ → Bool
is_left [] = false
is_left (x ∷ xs) = true

abbrev pub flag : Bool → ℤ
flag b = if b then pos 1 else pos 0

-- the number that an operation leaves in its destination
abbrev pub number_of : ℕ → State → Operation → ℤ
number_of size s (Compute k code to a b) = value_of code (source s a) (source s b)
number_of size s (Move k to a) = source s a
number_of size s (Select k to t a b) = if is_one (register s (Branch t)) then source s a else source s b
number_of size s (Load k to o r d) = loaded size s (address s r o)
number_of size s (Input to) = first_of s.input
number_of size s (More to) = flag (is_left s.input)
number_of size s (Call p) = wrap (pos (s.place + 1))
number_of size s (FromLink to) = s.registers Link
number_of size s (ToLink a) = source s a
number_of size s op = pos 0

-- writes, and when they land

-- a landing time is asked for each operation that names a destination register, register 0 included, but for
-- the link that a call writes, which is there at the next word
abbrev pub is_asked : Operation → Bool
is_asked op = not (is_call op) && is_some (destination_of op)

abbrev pub asked_by : List Operation → ℕ
asked_by ops = count_by is_asked ops

abbrev pub write_to : Option Register → ℤ → ℕ → List Write
write_to None z left = []
write_to (Some r) z left = if is_zero r then [] else record { to = r; number = z; left = left } ∷ []

abbrev pub time_of : Numbers → List ℕ → ℕ → Operation → ℕ
time_of m times i op = if is_call op then 1 else landing_time times i (latency_of m op)

-- the writes of a word, from the i-th landing time on
abbrev pub writes_of : Numbers → List ℕ → ℕ → State → ℕ → List Operation → List Write
writes_of m times size s i [] = []
writes_of m times size s i (op ∷ ops) =
    write_to (destination_of op) (number_of size s op) (time_of m times i op) ++ writes_of m times size s (if is_asked op then i + 1 else i) ops

-- one cycle: the writes with one cycle left land in the order of their issue, the others have one less
abbrev pub landed : (Register → ℤ) → List Write → Register → ℤ
landed registers ws = lands_at same registers ws

abbrev pub still_flying : List Write → List Write
still_flying ws = flying ws

abbrev pub after_cycles : ℕ → State → State
after_cycles zero s = s
after_cycles (suc n) s = after_cycles n (record s { cycle = s.cycle + 1; registers = landed s.registers s.flying; flying = still_flying s.flying })

-- memory, input and output

abbrev pub stored : (ℕ → ℤ) → ℕ → ℤ → ℕ → ℤ
stored memory a z q = if q == a then z else memory q

-- the stores of a word, in the order of its list
abbrev pub memory_after : State → List Operation → (ℕ → ℤ) → ℕ → ℤ
memory_after s [] memory = memory
memory_after s (Store k o r a ∷ ops) memory = memory_after s ops (stored memory (address s r o) (source s a))
memory_after s (op ∷ ops) memory = memory_after s ops memory

abbrev pub takes_input : Operation → Bool
takes_input (Input to) = true
takes_input op = false

abbrev pub text_at : WordProgram → ℕ → List ℕ
text_at w n = unwrap_or (slice_get w.texts n) []

abbrev pub print_of : WordProgram → State → Operation → List ℕ
print_of w s (OutText n) = text_at w n
print_of w s (OutDecimal a) = signed_decimal (source s a)
print_of w s (OutByte a) = unsigned (source s a) % 256 ∷ []
print_of w s op = []

-- where a word leads: by the first control operation of its list that is taken

pub data Lead : Type 0 where
  To : ℕ → Lead
  Halts : ℤ → Lead
  TrapsBy : Trap → Lead

abbrev pub is_taken : Bool → ℤ → Bool
is_taken taken_at_one z = if taken_at_one then is_one z else not (is_one z)

abbrev pub lead_of : State → List Operation → Lead
lead_of s [] = To (s.place + 1)
lead_of s (Goto p ∷ ops) = To p
lead_of s (BranchOn t w p ∷ ops) = if is_taken w (register s (Branch (record { cluster = 0; number = t }))) then To p else lead_of s ops
lead_of s (Call p ∷ ops) = To p
lead_of s (Return ∷ ops) = To (unsigned (s.registers Link))
lead_of s (EndByTrap k ∷ ops) = TrapsBy k
lead_of s (Halt a ∷ ops) = Halts (source s a)
lead_of s (op ∷ ops) = lead_of s ops

-- a word is stuck

abbrev pub has_bad_address : ℕ → State → Operation → Bool
has_bad_address size s (Load k to o r dismissible) = not dismissible && not (is_word_of size (address s r o))
has_bad_address size s (Store k o r a) = not (is_word_of size (address s r o))
has_bad_address size s op = false

abbrev pub stuck_by : Numbers → WordProgram → State → List Operation → Option Reason
stuck_by m w s ops =
    if is_bad_word m ops then Some BadWord
    else if not (fits m ops) then Some Overfull
    else if list_any (has_bad_address w.memory s) ops then Some BadAddress
    else if list_any takes_input ops && not (is_left s.input) then Some NoInputLeft
    else None

-- one step issues one word

abbrev pub cycles_of : Word → ℕ
cycles_of word = max 1 word.idle

-- everything but the place after a word has taken effect
abbrev pub effect : Numbers → List ℕ → WordProgram → State → Word → State
effect m times w s word =
    after_cycles (cycles_of word) (record s {
      flying = s.flying ++ writes_of m times w.memory s s.asked word.ops;
      memory = memory_after s word.ops s.memory;
      input = drop (count_by takes_input word.ops) s.input;
      out = s.out ++ flat_map (print_of w s) word.ops;
      asked = s.asked + asked_by word.ops;
    })

abbrev pub leads_to : Lead → State → Step State
leads_to (To p) s = On (record s { place = p })
leads_to (Halts z) s = Over (Ends z s.out)
leads_to (TrapsBy k) s = Over (Traps k s.out)

abbrev pub unless_stuck : Option Reason → State → Step State → Step State
unless_stuck (Some why) s go = Over (Stuck why s.place s.out)
unless_stuck None s go = go

abbrev pub issue : Numbers → List ℕ → WordProgram → State → Option Word → Step State
issue m times w s None = Over (Stuck BadTarget s.place s.out)
issue m times w s (Some word) = unless_stuck (stuck_by m w s word.ops) s (leads_to (lead_of s word.ops) (effect m times w s word))

abbrev pub step : Numbers → List ℕ → WordProgram → State → Step State
step m times w s = issue m times w s (slice_get w.words s.place)

-- the memory at the start: the words that are written, else 0
abbrev pub memory_at_start : List (ℕ × ℤ) → ℕ → ℤ
memory_at_start [] a = pos 0
memory_at_start (p ∷ ps) a = if a == p.0 then p.1 else memory_at_start ps a

abbrev pub start : WordProgram → List ℤ → State
start w input = record {
  place = 0;
  cycle = 0;
  registers = λ r. pos 0;
  flying = [];
  memory = memory_at_start w.start;
  input = input;
  out = [];
  asked = 0;
}

-- the machine that a program's words are issued by: words of version 1 have at most one branch each, on every machine
abbrev pub branches_of : (version branches : ℕ) → ℕ
branches_of version branches = if version == 1 then 1 else branches

abbrev pub issuing_machine : WordProgram → Numbers → Numbers
issuing_machine w m = record m { branches = branches_of w.version m.branches }

-- at most so many words, from a state and from the start
abbrev pub words_from : Numbers → List ℕ → WordProgram → ℕ → State → Outcome
words_from m times w n s = run (step m times w) (λ t. t.out) n s

abbrev pub words_run : Numbers → List ℕ → WordProgram → List ℤ → ℕ → Outcome
words_run m times w input n = words_from (issuing_machine w m) times w n (start w input)

-- What a word does depends on the registers that it reads, the memory, the input and the place alone.
use Rattle.std.proofs.Common.{◌≡◌, ℕ, ◌+◌, ℤ, pos, Bool, true, false, Option, Some, None, List, [], ◌∷◌, ◌++◌, refl, ap, ◌∙◌}
use Rattle.std.specs.Prelude.{◌&&◌, not, if◌then◌else◌}
use Rattle.std.specs.List.{list_any, flat_map}
use Rattle.vx_base.specs.Arithmetic.{value_of, unsigned, sum_of}
use Rattle.vx_base.specs.Flight.{Write}
use Rattle.vx_base.proofs.TwoTimings.{SameWrites}
use Rattle.vx_isa.specs.declared.operation.GeneralRegister.{GeneralRegister}
use Rattle.vx_isa.specs.declared.operation.Register.{Register}
use Rattle.vx_isa.specs.declared.operation.Register.TheVariants.{General, Branch}
use Rattle.vx_isa.specs.declared.operation.Source.{Source}
use Rattle.vx_isa.specs.declared.operation.Source.TheVariants.{Held, Number}
use Rattle.vx_isa.specs.declared.operation.Operation.{Operation}
use Rattle.vx_isa.specs.declared.operation.Operation.TheVariants.{Compute, Move, Select, Load, Store, Input, More, OutText, OutDecimal, OutByte, Goto, BranchOn, Call, Return, FromLink, ToLink, EndByTrap, Halt}
use Rattle.vx_isa.specs.declared.program.WordProgram.{WordProgram}
use Rattle.vx_isa.specs.Numbers.{Numbers}
use Rattle.vx_isa.specs.Operations.{is_zero, read_of, reads_of, destination_of}
use Rattle.vx_isa.specs.Fits.{operands}
use Rattle.vx_isa.specs.Machine.{State, register, source, address, number_of, write_to, time_of, writes_of, is_asked, memory_after, stored, print_of, lead_of, is_taken, To, has_bad_address, is_word_of, stuck_by}

-- the states agree on registers
abbrev pub AllAgree : State → State → List Register → Type 0
AllAgree s t [] = Unit {0}
AllAgree s t (r ∷ rs) = (is_zero r ≡ false → s.registers r ≡ t.registers r) × AllAgree s t rs

pub agree_left : (s t : State) (xs ys : List Register) → AllAgree s t (xs ++ ys) → AllAgree s t xs
agree_left s t [] ys a = tt
agree_left s t (x ∷ xs) ys a = (a.0, agree_left s t xs ys a.1)

pub agree_right : (s t : State) (xs ys : List Register) → AllAgree s t (xs ++ ys) → AllAgree s t ys
agree_right s t [] ys a = a
agree_right s t (x ∷ xs) ys a = agree_right s t xs ys a.1

pub record SameRest (s t : State) : Type 0 where
  pub place : s.place ≡ t.place
  pub memory : s.memory ≡ t.memory
  pub input : s.input ≡ t.input
  pub out : s.out ≡ t.out

module _ (s t : State) (rest : SameRest s t) where
  register_alike : (r : Register) → (is_zero r ≡ false → s.registers r ≡ t.registers r) → register s r ≡ register t r
  register_alike r h = by (is_zero r) h
    where
      by : (b : Bool) → (b ≡ false → s.registers r ≡ t.registers r) → (if b then pos 0 else s.registers r) ≡ (if b then pos 0 else t.registers r)
      by true h = refl
      by false h = h refl

  source_alike : (a : Source) → AllAgree s t (read_of a) → source s a ≡ source t a
  source_alike (Held r) h = register_alike (General r) h.0
  source_alike (Number z) h = refl

  address_alike : (r : GeneralRegister) (o : ℤ) → (is_zero (General r) ≡ false → s.registers (General r) ≡ t.registers (General r)) → address s r o ≡ address t r o
  address_alike r o h = ap (λ z. unsigned (sum_of z o)) (register_alike (General r) h)

  number_alike : (size : ℕ) (op : Operation) → AllAgree s t (reads_of op) → number_of size s op ≡ number_of size t op
  number_alike size (Compute k code to a b) h =
      ap (λ z. value_of code z (source s b)) (source_alike a (agree_left s t (read_of a) (read_of b) h)) ∙ ap (λ z. value_of code (source t a) z) (source_alike b (agree_right s t (read_of a) (read_of b) h))
  number_alike size (Move k to a) h = source_alike a h
  number_alike size (Select k to u a b) h =
      let x = register_alike (Branch u) h.0 in
      let y = source_alike a (agree_left s t (read_of a) (read_of b) h.1) in
      let z = source_alike b (agree_right s t (read_of a) (read_of b) h.1) in
      cc
  number_alike size (Load k to o r d) h =
      let x = address_alike r o h.0 in
      let y = rest.memory in
      ap (λ a. if is_word_of size a then s.memory a else pos 0) x ∙ ap (λ f. if is_word_of size (address t r o) then f (address t r o) else pos 0) y
  number_alike size (Store k o r a) h = refl
  number_alike size (Input to) h = let x = rest.input in cc
  number_alike size (More to) h = let x = rest.input in cc
  number_alike size (OutText n) h = refl
  number_alike size (OutDecimal a) h = refl
  number_alike size (OutByte a) h = refl
  number_alike size (Goto p) h = refl
  number_alike size (BranchOn u w p) h = refl
  number_alike size (Call p) h = let x = rest.place in cc
  number_alike size Return h = refl
  number_alike size (FromLink to) h = h.0 refl
  number_alike size (ToLink a) h = source_alike a h
  number_alike size (EndByTrap k) h = refl
  number_alike size (Halt a) h = refl

  bad_alike : (size : ℕ) (op : Operation) → AllAgree s t (reads_of op) → has_bad_address size s op ≡ has_bad_address size t op
  bad_alike size (Load k to o r d) h = ap (λ a. not d && not (is_word_of size a)) (address_alike r o h.0)
  bad_alike size (Store k o r a) h = ap (λ a. not (is_word_of size a)) (address_alike r o h.0)
  bad_alike size op h = refl

  bads_alike : (size : ℕ) (ops : List Operation) → AllAgree s t (operands ops) → list_any (has_bad_address size s) ops ≡ list_any (has_bad_address size t) ops
  bads_alike size [] h = refl
  bads_alike size (op ∷ ops) h =
      let a = bad_alike size op (agree_left s t (reads_of op) (operands ops) h) in
      let b = bads_alike size ops (agree_right s t (reads_of op) (operands ops) h) in
      cc

  print_alike : (w : WordProgram) (op : Operation) → AllAgree s t (reads_of op) → print_of w s op ≡ print_of w t op
  print_alike w (OutDecimal a) h = let x = source_alike a h in cc
  print_alike w (OutByte a) h = let x = source_alike a h in cc
  print_alike w op h = refl

  pub prints_alike : (w : WordProgram) (ops : List Operation) → AllAgree s t (operands ops) → flat_map (print_of w s) ops ≡ flat_map (print_of w t) ops
  prints_alike w [] h = refl
  prints_alike w (op ∷ ops) h =
      let a = print_alike w op (agree_left s t (reads_of op) (operands ops) h) in
      let b = prints_alike w ops (agree_right s t (reads_of op) (operands ops) h) in
      cc

  pub lead_alike : (ops : List Operation) → AllAgree s t (operands ops) → lead_of s ops ≡ lead_of t ops
  lead_alike [] h = let x = rest.place in cc
  lead_alike (Compute k code to a b ∷ ops) h = lead_alike ops (agree_right s t (read_of a ++ read_of b) (operands ops) h)
  lead_alike (Move k to a ∷ ops) h = lead_alike ops (agree_right s t (read_of a) (operands ops) h)
  lead_alike (Select k to u a b ∷ ops) h = lead_alike ops (agree_right s t (Branch u ∷ (read_of a ++ read_of b)) (operands ops) h)
  lead_alike (Load k to o r d ∷ ops) h = lead_alike ops h.1
  lead_alike (Store k o r a ∷ ops) h = lead_alike ops (agree_right s t (General r ∷ read_of a) (operands ops) h)
  lead_alike (Input to ∷ ops) h = lead_alike ops h
  lead_alike (More to ∷ ops) h = lead_alike ops h
  lead_alike (OutText n ∷ ops) h = lead_alike ops h
  lead_alike (OutDecimal a ∷ ops) h = lead_alike ops (agree_right s t (read_of a) (operands ops) h)
  lead_alike (OutByte a ∷ ops) h = lead_alike ops (agree_right s t (read_of a) (operands ops) h)
  lead_alike (Goto p ∷ ops) h = refl
  lead_alike (BranchOn u w p ∷ ops) h =
      let b : Register = Branch (record { cluster = 0; number = u }) in
      ap (λ z. if is_taken w z then To p else lead_of s ops) (register_alike b h.0) ∙ ap (λ l. if is_taken w (register t b) then To p else l) (lead_alike ops h.1)
  lead_alike (Call p ∷ ops) h = refl
  lead_alike (Return ∷ ops) h = ap (λ z. To (unsigned z)) (h.0 refl)
  lead_alike (FromLink to ∷ ops) h = lead_alike ops h.1
  lead_alike (ToLink a ∷ ops) h = lead_alike ops (agree_right s t (read_of a) (operands ops) h)
  lead_alike (EndByTrap k ∷ ops) h = refl
  lead_alike (Halt a ∷ ops) h = let x = source_alike a (agree_left s t (read_of a) (operands ops) h) in cc

  pub memory_alike : (ops : List Operation) (m : ℕ → ℤ) → AllAgree s t (operands ops) → memory_after s ops m ≡ memory_after t ops m
  memory_alike [] m h = refl
  memory_alike (Compute k code to a b ∷ ops) m h = memory_alike ops m (agree_right s t (read_of a ++ read_of b) (operands ops) h)
  memory_alike (Move k to a ∷ ops) m h = memory_alike ops m (agree_right s t (read_of a) (operands ops) h)
  memory_alike (Select k to u a b ∷ ops) m h = memory_alike ops m (agree_right s t (Branch u ∷ (read_of a ++ read_of b)) (operands ops) h)
  memory_alike (Load k to o r d ∷ ops) m h = memory_alike ops m h.1
  memory_alike (Store k o r a ∷ ops) m h =
      ap (λ q. memory_after s ops (stored m q (source s a))) (address_alike r o h.0)
      ∙ ap (λ z. memory_after s ops (stored m (address t r o) z)) (source_alike a (agree_left s t (read_of a) (operands ops) h.1))
      ∙ memory_alike ops (stored m (address t r o) (source t a)) (agree_right s t (General r ∷ read_of a) (operands ops) h)
  memory_alike (Input to ∷ ops) m h = memory_alike ops m h
  memory_alike (More to ∷ ops) m h = memory_alike ops m h
  memory_alike (OutText n ∷ ops) m h = memory_alike ops m h
  memory_alike (OutDecimal a ∷ ops) m h = memory_alike ops m (agree_right s t (read_of a) (operands ops) h)
  memory_alike (OutByte a ∷ ops) m h = memory_alike ops m (agree_right s t (read_of a) (operands ops) h)
  memory_alike (Goto p ∷ ops) m h = memory_alike ops m h
  memory_alike (BranchOn u w p ∷ ops) m h = memory_alike ops m h.1
  memory_alike (Call p ∷ ops) m h = memory_alike ops m h
  memory_alike (Return ∷ ops) m h = memory_alike ops m h.1
  memory_alike (FromLink to ∷ ops) m h = memory_alike ops m h.1
  memory_alike (ToLink a ∷ ops) m h = memory_alike ops m (agree_right s t (read_of a) (operands ops) h)
  memory_alike (EndByTrap k ∷ ops) m h = memory_alike ops m h
  memory_alike (Halt a ∷ ops) m h = memory_alike ops m (agree_right s t (read_of a) (operands ops) h)

  pub stuck_alike : (m : Numbers) (w : WordProgram) (ops : List Operation) → AllAgree s t (operands ops) → stuck_by m w s ops ≡ stuck_by m w t ops
  stuck_alike m w ops h =
      let a = bads_alike w.memory ops h in
      let b = rest.input in
      cc

  one_write : (d : Option Register) (x y : ℤ) (i j : ℕ) (us vs : List (Write Register ℤ)) → x ≡ y → SameWrites us vs → SameWrites (write_to d x i ++ us) (write_to d y j ++ vs)
  one_write None x y i j us vs e h = h
  one_write (Some r) x y i j us vs e h = by (is_zero r)
    where
      by : (b : Bool) → SameWrites ((if b then [] else record { to = r; number = x; left = i } ∷ []) ++ us) ((if b then [] else record { to = r; number = y; left = j } ∷ []) ++ vs)
      by true = h
      by false = (refl, e, h)

  pub writes_alike : (m : Numbers) (times times' : List ℕ) (size i j : ℕ) (ops : List Operation) → AllAgree s t (operands ops) → SameWrites (writes_of m times size s i ops) (writes_of m times' size t j ops)
  writes_alike m times times' size i j [] h = tt
  writes_alike m times times' size i j (op ∷ ops) h =
      one_write (destination_of op) (number_of size s op) (number_of size t op) (time_of m times i op) (time_of m times' j op) _ _ (number_alike size op (agree_left s t (reads_of op) (operands ops) h))
      (writes_alike m times times' size (if is_asked op then i + 1 else i) (if is_asked op then j + 1 else j) ops (agree_right s t (reads_of op) (operands ops) h))

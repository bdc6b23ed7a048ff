-- What a word does depends on the place, the registers, the memory and the input of the state alone.
use Rattle.std.proofs.Common.{◌≡◌, ℕ, ◌+◌, ℤ, List, [], ◌∷◌, ◌++◌, refl, ap, ◌∙◌}
use Rattle.std.specs.Prelude.{if◌then◌else◌}
use Rattle.std.specs.List.{list_any, flat_map}
use Rattle.vx_isa.specs.declared.operation.Register.TheVariants.{Branch}
use Rattle.vx_isa.specs.declared.operation.Source.{Source}
use Rattle.vx_isa.specs.declared.operation.Source.TheVariants.{Held, Number}
use Rattle.vx_isa.specs.declared.operation.Operation.{Operation}
use Rattle.vx_isa.specs.declared.operation.Operation.TheVariants.{Compute, Move, Select, Load, Store, Input, More, OutText, OutDecimal, OutByte, Goto, BranchOn, Call, Return, FromLink, ToLink, EndByTrap, Halt}
use Rattle.vx_isa.specs.declared.program.WordProgram.{WordProgram}
use Rattle.vx_isa.specs.Numbers.{Numbers}
use Rattle.vx_isa.specs.Operations.{destination_of}
use Rattle.vx_isa.specs.Machine.{State, Write, Lead, To, register, source, address, number_of, write_to, time_of, writes_of, is_asked, memory_after, stored, print_of, lead_of, is_taken, has_bad_address, stuck_by}

module _ (s : State) (cycle : ℕ) (flying : List Write) (out : List ℕ) (asked : ℕ) where
  abbrev pub elsewhere : State
  elsewhere = record s { cycle = cycle; flying = flying; out = out; asked = asked }

  source_same : (a : Source) → source elsewhere a ≡ source s a
  source_same (Held r) = refl
  source_same (Number z) = refl

  number_same : (size : ℕ) (op : Operation) → number_of size elsewhere op ≡ number_of size s op
  number_same size (Compute k code to a b) = let x = source_same a in let y = source_same b in cc
  number_same size (Move k to a) = source_same a
  number_same size (Select k to u a b) = let x = source_same a in let y = source_same b in cc
  number_same size (Load k to o r d) = refl
  number_same size (Store k o r a) = refl
  number_same size (Input to) = refl
  number_same size (More to) = refl
  number_same size (OutText n) = refl
  number_same size (OutDecimal a) = refl
  number_same size (OutByte a) = refl
  number_same size (Goto p) = refl
  number_same size (BranchOn u w p) = refl
  number_same size (Call p) = refl
  number_same size Return = refl
  number_same size (FromLink to) = refl
  number_same size (ToLink a) = source_same a
  number_same size (EndByTrap k) = refl
  number_same size (Halt a) = refl

  bad_same : (size : ℕ) (op : Operation) → has_bad_address size elsewhere op ≡ has_bad_address size s op
  bad_same size (Load k to o r d) = refl
  bad_same size (Store k o r a) = refl
  bad_same size op = refl

  bads_same : (size : ℕ) (ops : List Operation) → list_any (has_bad_address size elsewhere) ops ≡ list_any (has_bad_address size s) ops
  bads_same size [] = refl
  bads_same size (op ∷ ops) = let a = bad_same size op in let b = bads_same size ops in cc

  pub stuck_same : (m : Numbers) (w : WordProgram) (ops : List Operation) → stuck_by m w elsewhere ops ≡ stuck_by m w s ops
  stuck_same m w ops = let a = bads_same w.memory ops in cc

  print_same : (w : WordProgram) (op : Operation) → print_of w elsewhere op ≡ print_of w s op
  print_same w (OutDecimal a) = let x = source_same a in cc
  print_same w (OutByte a) = let x = source_same a in cc
  print_same w op = refl

  pub prints_same : (w : WordProgram) (ops : List Operation) → flat_map (print_of w elsewhere) ops ≡ flat_map (print_of w s) ops
  prints_same w [] = refl
  prints_same w (op ∷ ops) = let a = print_same w op in let b = prints_same w ops in cc

  pub lead_same : (ops : List Operation) → lead_of elsewhere ops ≡ lead_of s ops
  lead_same [] = refl
  lead_same (Compute k code to a b ∷ ops) = lead_same ops
  lead_same (Move k to a ∷ ops) = lead_same ops
  lead_same (Select k to u a b ∷ ops) = lead_same ops
  lead_same (Load k to o r d ∷ ops) = lead_same ops
  lead_same (Store k o r a ∷ ops) = lead_same ops
  lead_same (Input to ∷ ops) = lead_same ops
  lead_same (More to ∷ ops) = lead_same ops
  lead_same (OutText n ∷ ops) = lead_same ops
  lead_same (OutDecimal a ∷ ops) = lead_same ops
  lead_same (OutByte a ∷ ops) = lead_same ops
  lead_same (Goto p ∷ ops) = refl
  lead_same (BranchOn u w p ∷ ops) = ap (λ (l : Lead). if is_taken w (register s (Branch (record { cluster = 0; number = u }))) then To p else l) (lead_same ops)
  lead_same (Call p ∷ ops) = refl
  lead_same (Return ∷ ops) = refl
  lead_same (FromLink to ∷ ops) = lead_same ops
  lead_same (ToLink a ∷ ops) = lead_same ops
  lead_same (EndByTrap k ∷ ops) = refl
  lead_same (Halt a ∷ ops) = let x = source_same a in cc

  pub memory_same : (ops : List Operation) (m : ℕ → ℤ) → memory_after elsewhere ops m ≡ memory_after s ops m
  memory_same [] m = refl
  memory_same (Compute k code to a b ∷ ops) m = memory_same ops m
  memory_same (Move k to a ∷ ops) m = memory_same ops m
  memory_same (Select k to u a b ∷ ops) m = memory_same ops m
  memory_same (Load k to o r d ∷ ops) m = memory_same ops m
  memory_same (Store k o r a ∷ ops) m = ap (λ z. memory_after elsewhere ops (stored m (address s r o) z)) (source_same a) ∙ memory_same ops (stored m (address s r o) (source s a))
  memory_same (Input to ∷ ops) m = memory_same ops m
  memory_same (More to ∷ ops) m = memory_same ops m
  memory_same (OutText n ∷ ops) m = memory_same ops m
  memory_same (OutDecimal a ∷ ops) m = memory_same ops m
  memory_same (OutByte a ∷ ops) m = memory_same ops m
  memory_same (Goto p ∷ ops) m = memory_same ops m
  memory_same (BranchOn u w p ∷ ops) m = memory_same ops m
  memory_same (Call p ∷ ops) m = memory_same ops m
  memory_same (Return ∷ ops) m = memory_same ops m
  memory_same (FromLink to ∷ ops) m = memory_same ops m
  memory_same (ToLink a ∷ ops) m = memory_same ops m
  memory_same (EndByTrap k ∷ ops) m = memory_same ops m
  memory_same (Halt a ∷ ops) m = memory_same ops m

  pub writes_same : (m : Numbers) (times : List ℕ) (size i : ℕ) (ops : List Operation) → writes_of m times size elsewhere i ops ≡ writes_of m times size s i ops
  writes_same m times size i [] = refl
  writes_same m times size i (op ∷ ops) =
      ap (λ z. write_to (destination_of op) z (time_of m times i op) ++ writes_of m times size elsewhere (if is_asked op then i + 1 else i) ops) (number_same size op)
      ∙ ap (λ (ws : List Write). write_to (destination_of op) (number_of size s op) (time_of m times i op) ++ ws) (writes_same m times size (if is_asked op then i + 1 else i) ops)

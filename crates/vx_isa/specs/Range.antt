-- The numbers of a program fit the types that hold them. Every program of words in memory is so.
use Rattle.std.specs.Prelude.{ℕ, ℤ, pos, negsuc, Bool, true, ◌&&◌, nat_le, nat_lt}
use Rattle.std.specs.List.{list_all}
use Rattle.vx_isa.specs.declared.operation.Source.{Source}
use Rattle.vx_isa.specs.declared.operation.Source.TheVariants.{Held, Number}
use Rattle.vx_isa.specs.declared.operation.Operation.{Operation}
use Rattle.vx_isa.specs.declared.operation.Operation.TheVariants.{Compute, Move, Select, Load, Store, Input, More, OutText, OutDecimal, OutByte, Goto, BranchOn, Call, Return, FromLink, ToLink, EndByTrap, Halt}
use Rattle.vx_isa.specs.declared.program.Word.{Word}
use Rattle.vx_isa.specs.declared.program.WordProgram.{WordProgram}

-- a signed number of 32 bits
abbrev pub fits_signed : ℤ → Bool
fits_signed (pos n) = nat_le n 2147483647
fits_signed (negsuc n) = nat_le n 2147483647

abbrev pub fits_unsigned : ℕ → Bool
fits_unsigned n = nat_le n 4294967295

abbrev pub fits_source : Source → Bool
fits_source (Held r) = true
fits_source (Number z) = fits_signed z

abbrev pub fits_operation : Operation → Bool
fits_operation (Compute k code to a b) = fits_source a && fits_source b
fits_operation (Move k to a) = fits_source a
fits_operation (Select k to t a b) = fits_source a && fits_source b
fits_operation (Load k to o r d) = fits_signed o
fits_operation (Store k o r a) = fits_signed o && fits_source a
fits_operation (Input to) = true
fits_operation (More to) = true
fits_operation (OutText n) = fits_unsigned n
fits_operation (OutDecimal a) = fits_source a
fits_operation (OutByte a) = fits_source a
fits_operation (Goto p) = fits_unsigned p
fits_operation (BranchOn t at_one p) = fits_unsigned p
fits_operation (Call p) = fits_unsigned p
fits_operation Return = true
fits_operation (FromLink to) = true
fits_operation (ToLink a) = fits_source a
fits_operation (EndByTrap k) = true
fits_operation (Halt a) = fits_source a

abbrev pub is_in_range : WordProgram → Bool
is_in_range w =
    list_all (λ (e : ℕ × ℤ). fits_signed e.1) w.start && list_all (list_all (λ b. nat_lt b 256)) w.texts
    && list_all (λ (v : Word). list_all fits_operation v.ops) w.words

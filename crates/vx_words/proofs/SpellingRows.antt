-- Worked texts of programs, by computation.
use Rattle.std.proofs.Common.{◌≡◌, ℕ, pos, negsuc, true, false, [], ◌∷◌, codes, refl}
use Rattle.std.specs.Fmt.{digits}
use Rattle.vx_base.specs.declared.arithmetic.Compare.TheVariants.{Lt}
use Rattle.vx_base.specs.declared.arithmetic.Code.TheVariants.{ToBranch, Mpylu}
use Rattle.vx_base.specs.declared.outcome.Trap.TheVariants.{Index}
use Rattle.vx_isa.specs.declared.operation.GeneralRegister.{GeneralRegister}
use Rattle.vx_isa.specs.declared.operation.Register.TheVariants.{General, Branch}
use Rattle.vx_isa.specs.declared.operation.Source.TheVariants.{Held, Number}
use Rattle.vx_isa.specs.declared.operation.Operation.{Operation}
use Rattle.vx_isa.specs.declared.operation.Operation.TheVariants.{Compute, Move, Select, Load, Store, OutDecimal, Goto, BranchOn, EndByTrap, Halt}
use Rattle.vx_isa.specs.declared.program.Word.{Word}
use Rattle.vx_isa.specs.declared.program.WordProgram.{WordProgram}
use Rattle.vx_words.specs.Spelling.{operation_text, text_line, start_line, word_lines, spelling}

abbrev r : ℕ → GeneralRegister
r n = record { cluster = 0; number = n }

abbrev alone : Operation → Word
alone op = record { ops = op ∷ []; idle = 0 }

-- seven times five, printed
abbrev thirty_five : WordProgram
thirty_five = record {
  version = 1;
  memory = 0;
  start = [];
  texts = [];
  words = alone (Move 0 (r 4) (Number (pos 7))) ∷ alone (Compute 0 Mpylu (General (r 3)) (Held (r 4)) (Number (pos 5))) ∷ alone (OutDecimal (Held (r 3))) ∷ alone (Halt (Number (pos 0))) ∷ [];
}

thirty_five_text : spelling thirty_five ≡ codes ".vexwords 1\n.memory 0\nc0 mov $r0.4 = 7\n;;\nc0 mpylu $r0.3 = $r0.4, 5\n;;\nc0 outd $r0.3\n;;\nc0 halt 0\n;;\n.end\n"
unfolding digits
thirty_five_text = refl

-- the same in the second version
second_version_text : spelling (record thirty_five { version = 2 }) ≡ codes ".vexwords 2\n.memory 0\nc0 mov $r0.4 = 7\n;;\nc0 mpylu $r0.3 = $r0.4, 5\n;;\nc0 outd $r0.3\n;;\nc0 halt 0\n;;\n.end\n"
unfolding digits
second_version_text = refl

-- two branches of a word, each with the label of its place
branches_text : spelling (record {
  version = 2;
  memory = 0;
  start = [];
  texts = [];
  words =
      record { ops = BranchOn 0 true 1 ∷ BranchOn 1 false 2 ∷ []; idle = 0 } ∷ alone (Halt (Number (pos 1))) ∷ alone (Halt (Number (pos 2))) ∷ [];
}) ≡ codes ".vexwords 2\n.memory 0\nc0 br $b0.0, L1\nc0 brf $b0.1, L2\n;;\nL1:\nc0 halt 1\n;;\nL2:\nc0 halt 2\n;;\n.end\n"
unfolding digits
branches_text = refl

-- no word at all
empty_text : spelling (record { version = 1; memory = 0; start = []; texts = []; words = [] }) ≡ codes ".vexwords 1\n.memory 0\n.end\n"
unfolding digits
empty_text = refl

-- a label stands at the one place that is named, words without operations beside it
labelled_text : spelling (record { version = 1; memory = 0; start = []; texts = []; words = record { ops = []; idle = 0 } ∷ record { ops = []; idle = 255 } ∷ alone (Goto 1) ∷ [] })
    ≡ codes ".vexwords 1\n.memory 0\n;;\nL1:\nxnop 255\n;;\nc0 goto L1\n;;\n.end\n"
unfolding digits
labelled_text = refl

-- the memory's first words, and a text
memory_text : spelling (record { version = 1; memory = 16; start = (4, pos 7) ∷ (12, negsuc 0) ∷ []; texts = (72 ∷ 105 ∷ []) ∷ []; words = [] })
    ≡ codes ".vexwords 1\n.memory 16\n.word 4 = 7\n.word 12 = -1\n.text \"Hi\"\n.end\n"
unfolding digits
memory_text = refl

-- a quote, a line feed, a backslash, a byte past ASCII, and a tilde
escaped_text : text_line (34 ∷ 10 ∷ 92 ∷ 255 ∷ 126 ∷ []) ≡ codes ".text \"\\x22\\x0a\\x5c\\xff~\"\n"
escaped_text = refl

least_number : start_line (8, negsuc 2147483647) ≡ codes ".word 8 = -2147483648\n"
unfolding digits
least_number = refl

compare_row : operation_text (Compute 2 (ToBranch Lt) (Branch (record { cluster = 2; number = 7 })) (Held (record { cluster = 2; number = 63 })) (Number (negsuc 9))) ≡ codes "c2 cmplt $b2.7 = $r2.63, -10"
unfolding digits
compare_row = refl

select_row : operation_text (Select 1 (r 5) (record { cluster = 1; number = 0 }) (Number (pos 1)) (Held (r 2))) ≡ codes "c1 slct $r0.5 = $b1.0, 1, $r0.2"
unfolding digits
select_row = refl

load_rows : word_lines (record { ops = Load 0 (r 3) (negsuc 3) (r 1) false ∷ Load 0 (r 4) (pos 8) (r 1) true ∷ Store 0 (pos 0) (r 1) (Held (r 3)) ∷ []; idle = 0 })
    ≡ codes "c0 ldw $r0.3 = -4[$r0.1]\nc0 ldw.d $r0.4 = 8[$r0.1]\nc0 stw 0[$r0.1] = $r0.3\n;;\n"
unfolding digits
load_rows = refl

control_rows : word_lines (record { ops = BranchOn 3 false 12 ∷ EndByTrap Index ∷ []; idle = 0 }) ≡ codes "c0 brf $b0.3, L12\nc0 trap 2\n;;\n"
unfolding digits
control_rows = refl

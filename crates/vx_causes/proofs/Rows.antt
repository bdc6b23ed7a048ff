-- Worked causes of lines, by computation.
use Rattle.std.proofs.Common.{◌≡◌, inl, inr, ℕ, List, [], ◌∷◌, Some, refl, arith}
use Rattle.std.specs.Prelude.{codes}
use Rattle.std.specs.Fmt.{digits}
use Rattle.vx_isa.specs.declared.operation.Operation.TheVariants.{Goto}
use Rattle.vx_reader.specs.declared.form.Form.TheVariants.{PrintsText}
use Rattle.vx_reader.specs.Fields.{number_at, signed_at, numbers_at, general_at, branch_at, register_at, source_at}
use Rattle.vx_reader.specs.Forms.{form_of, candidate, compute_of, move_of, select_of, load_of, store_of, branch_on_of}
use Rattle.vx_reader.specs.Reading.{operation_of, operation_by, has_form, has_operands}
use Rattle.vx_reader.specs.Steps.{version_step, memory_step, start_step, entry_at, text_step, unquoted, label_step, label_by, idle_step, word_end_step, operation_by_stage, operation_step, step}
use Rattle.vx_reader.specs.Text.{Fault, line_operation, reading, text_fault}
use Rattle.vx_causes.specs.Lines.{Version, Memory, Label, MayStand, behind_size, behind_memory, behind_texts}
use Rattle.vx_causes.specs.Causes.{Repeated, MemoryTooLarge, UnknownOperation, BadOperand, UnknownLabel, Applies, FirstCause, version, memory, label, goes, IsFault}
use Rattle.vx_causes.proofs.Sorts.{first_repeated}
use Rattle.vx_causes.proofs.Operations.{unknown_of}
use Rattle.vx_causes.proofs.Refused.{found_is_fault, every_fault_found}

abbrev header : List (List ℕ)
header = codes ".vexwords 1" ∷ codes ".memory 8" ∷ []

-- a second size of the memory, whatever stands behind the field
second_memory : (all : List (List ℕ)) → FirstCause all header (codes ".memory x") Repeated
second_memory all = first_repeated all header (codes ".memory x") (memory refl (record { other = codes ".memory 8"; stood = inr (inl refl); same = refl }))

-- a second label of the same number
second_label : (all : List (List ℕ)) → Applies Repeated all (codes "L0:" ∷ []) (codes "L0:")
unfolding digits
second_label all = label 0 refl (inl refl)

large_memory : (all : List (List ℕ)) → Applies MemoryTooLarge all [] (codes ".memory 134217732")
large_memory all = record { digits = codes "134217732"; is = refl; number = refl; multiple = refl; large = omega arith }

-- a size of seventy digits
long_memory : (all : List (List ℕ)) → Applies MemoryTooLarge all [] (codes ".memory 4000000000000000000000000000000000000000000000000000000000000000000000")
long_memory all = record { digits = codes "4000000000000000000000000000000000000000000000000000000000000000000000"; is = refl; number = refl; multiple = refl; large = omega arith }

no_operation : (all : List (List ℕ)) → Applies UnknownOperation all header (codes "c3 jump L0")
unfolding digits form_of
no_operation all = (codes "jump L0", record { cluster = 3; small = omega arith; is = refl }, unknown_of (codes "jump L0") refl)

-- a text that does not stand before it
no_text : (all : List (List ℕ)) → Applies BadOperand all header (codes "c0 outs T0")
unfolding digits has_operands
no_text all = (
  codes "outs T0",
  record { cluster = 0; small = omega arith; is = refl },
  record { form = PrintsText; named = refl },
  inr (record { number = 0; is = record { spellable = record { operands = refl; numbers = refl }; is = refl }; missing = omega arith }),
)

-- a place that is no word of the text, of any length
no_place : Applies UnknownLabel (codes ";;" ∷ codes ".end" ∷ []) header (codes "c0 goto L100000000000000000000000000000000000000000000000000000000000000000000000")
unfolding digits
no_place = (
  codes "goto L100000000000000000000000000000000000000000000000000000000000000000000000",
  record { cluster = 0; small = omega arith; is = refl },
  record {
    place = 100000000000000000000000000000000000000000000000000000000000000000000000;
    names = record { front = codes "goto L"; digits = codes "100000000000000000000000000000000000000000000000000000000000000000000000"; is = refl; jump = goes refl; number = refl; value = refl };
    missing = omega arith;
  },
)

-- a label that an operation names, in its place
label_stands : MayStand (codes ".vexwords 1" ∷ codes ".memory 8" ∷ codes "L0:" ∷ codes "c0 goto L0" ∷ codes ";;" ∷ codes ".end" ∷ []) header (Label 0)
unfolding digits has_operands
label_stands = (
  behind_texts (behind_memory (behind_size 8 (record { front = codes ".vexwords 1" ∷ []; is = refl }))),
  refl,
  record { op = Goto 0; spellable = record { operands = refl; numbers = refl }; stands = inr (inr (inr (inl refl))); names = refl },
)

-- each version may stand first, and no other number

first_version : (all : List (List ℕ)) → MayStand all [] (Version 1)
first_version all = (refl, inl refl)

second_version : (all : List (List ℕ)) → MayStand all [] (Version 2)
second_version all = (refl, inr refl)

third_version : (all : List (List ℕ)) → MayStand all [] (Version 3) → ⊥
third_version all x = elim x.1 [ inl e ↦ omega (arith, e) | inr e ↦ omega (arith, e) ]

-- the memory behind the second version
memory_behind : (all : List (List ℕ)) → MayStand all (codes ".vexwords 2" ∷ []) (Memory 8)
unfolding digits
memory_behind all = (record { number = 2; known = inr refl; is = refl }, refl, omega arith)

-- the second version a second time, and behind the first
second_second_version : (all : List (List ℕ)) → FirstCause all (codes ".vexwords 2" ∷ []) (codes ".vexwords 2") Repeated
second_second_version all =
    first_repeated all (codes ".vexwords 2" ∷ []) (codes ".vexwords 2") (version refl (record { other = codes ".vexwords 2"; stood = inl refl; same = refl }))

second_behind_first : (all : List (List ℕ)) → FirstCause all (codes ".vexwords 1" ∷ []) (codes ".vexwords 2") Repeated
second_behind_first all =
    first_repeated all (codes ".vexwords 1" ∷ []) (codes ".vexwords 2") (version refl (record { other = codes ".vexwords 1"; stood = inl refl; same = refl }))

-- whole texts

-- a text of the second version has no fault
faultless_second : (fault : Fault) → IsFault (codes ".vexwords 2\n.memory 0\n.end\n") fault → ⊥
unfolding reading line_operation step operation_step operation_of operation_by operation_by_stage has_form has_operands form_of candidate compute_of move_of select_of load_of store_of branch_on_of number_at signed_at numbers_at general_at branch_at register_at source_at version_step memory_step start_step entry_at text_step unquoted label_step label_by idle_step word_end_step digits
faultless_second fault x = let h : text_fault (codes ".vexwords 2\n.memory 0\n.end\n") ≡ Some fault = every_fault_found (codes ".vexwords 2\n.memory 0\n.end\n") (omega arith) fault x in cc

-- another version, before a line that is faulty too
bad_version : IsFault (codes ".vexwords 3\n.memory 2\n.end\n") (record { code = 1; line = 1 })
unfolding reading line_operation step operation_step operation_of operation_by operation_by_stage has_form has_operands form_of candidate compute_of move_of select_of load_of store_of branch_on_of number_at signed_at numbers_at general_at branch_at register_at source_at version_step memory_step start_step entry_at text_step unquoted label_step label_by idle_step word_end_step digits
bad_version = found_is_fault (codes ".vexwords 3\n.memory 2\n.end\n") (omega arith) (record { code = 1; line = 1 }) refl

-- the second version hides no later fault
odd_memory : IsFault (codes ".vexwords 2\n.memory 2\n.end\n") (record { code = 1; line = 2 })
unfolding reading line_operation step operation_step operation_of operation_by operation_by_stage has_form has_operands form_of candidate compute_of move_of select_of load_of store_of branch_on_of number_at signed_at numbers_at general_at branch_at register_at source_at version_step memory_step start_step entry_at text_step unquoted label_step label_by idle_step word_end_step digits
odd_memory = found_is_fault (codes ".vexwords 2\n.memory 2\n.end\n") (omega arith) (record { code = 1; line = 2 }) refl

-- a label that nothing names
unused_label : IsFault (codes ".vexwords 1\n.memory 0\nL0:\n;;\n.end\n") (record { code = 1; line = 3 })
unfolding reading line_operation step operation_step operation_of operation_by operation_by_stage has_form has_operands form_of candidate compute_of move_of select_of load_of store_of branch_on_of number_at signed_at numbers_at general_at branch_at register_at source_at version_step memory_step start_step entry_at text_step unquoted label_step label_by idle_step word_end_step digits
unused_label = found_is_fault (codes ".vexwords 1\n.memory 0\nL0:\n;;\n.end\n") (omega arith) (record { code = 1; line = 3 }) refl

-- a register that no text can name
large_register : IsFault (codes ".vexwords 1\n.memory 0\nc0 mov $r0.64 = 1\n;;\n.end\n") (record { code = 3; line = 3 })
unfolding reading line_operation step operation_step operation_of operation_by operation_by_stage has_form has_operands form_of candidate compute_of move_of select_of load_of store_of branch_on_of number_at signed_at numbers_at general_at branch_at register_at source_at version_step memory_step start_step entry_at text_step unquoted label_step label_by idle_step word_end_step digits
large_register = found_is_fault (codes ".vexwords 1\n.memory 0\nc0 mov $r0.64 = 1\n;;\n.end\n") (omega arith) (record { code = 3; line = 3 }) refl

-- no last line
missing_end : IsFault (codes ".vexwords 1\n.memory 0\n;;\n") (record { code = 7; line = 0 })
unfolding reading line_operation step operation_step operation_of operation_by operation_by_stage has_form has_operands form_of candidate compute_of move_of select_of load_of store_of branch_on_of number_at signed_at numbers_at general_at branch_at register_at source_at version_step memory_step start_step entry_at text_step unquoted label_step label_by idle_step word_end_step digits
missing_end = found_is_fault (codes ".vexwords 1\n.memory 0\n;;\n") (omega arith) (record { code = 7; line = 0 }) refl

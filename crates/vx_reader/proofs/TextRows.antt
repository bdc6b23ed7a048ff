-- Worked faults of texts, by computation.
use Rattle.std.proofs.Common.{◌≡◌, ℕ, [], ◌∷◌, Some, None, Ok, codes, refl}
use Rattle.std.specs.Fmt.{digits}
use Rattle.vx_base.specs.declared.outcome.Trap.TheVariants.{Divide}
use Rattle.vx_isa.specs.declared.operation.Operation.TheVariants.{EndByTrap}
use Rattle.vx_isa.specs.declared.program.WordProgram.{WordProgram}
use Rattle.vx_reader.specs.Fields.{number_at, signed_at, numbers_at, general_at, branch_at, register_at, source_at}
use Rattle.vx_reader.specs.Forms.{form_of, candidate, compute_of, move_of, select_of, load_of, store_of, branch_on_of}
use Rattle.vx_reader.specs.Reading.{operation_of, operation_by, has_form, has_operands}
use Rattle.vx_reader.specs.Steps.{version_step, memory_step, start_step, entry_at, text_step, unquoted, label_step, label_by, idle_step, word_end_step, operation_by_stage, operation_step, step}
use Rattle.vx_reader.specs.Text.{line_operation, reading, text_fault}

-- row 17 without its last line
no_end : text_fault (codes ".vexwords 1\n.memory 0\nc0 mov $r0.4 = 7\n;;\nc0 mpylu $r0.3 = $r0.4, 5\n;;\nc0 outd $r0.3\n;;\nc0 halt 0\n;;\n") ≡ Some (record { code = 7; line = 0 })
unfolding reading line_operation step operation_step operation_of operation_by operation_by_stage has_form has_operands form_of candidate compute_of move_of select_of load_of store_of branch_on_of number_at signed_at numbers_at general_at branch_at register_at source_at version_step memory_step start_step entry_at text_step unquoted label_step label_by idle_step word_end_step digits
no_end = refl

-- a leading zero in a register
leading_zero : text_fault (codes ".vexwords 1\n.memory 0\nc0 mov $r00.3 = 1\n;;\n.end\n") ≡ Some (record { code = 3; line = 3 })
unfolding reading line_operation step operation_step operation_of operation_by operation_by_stage has_form has_operands form_of candidate compute_of move_of select_of load_of store_of branch_on_of number_at signed_at numbers_at general_at branch_at register_at source_at version_step memory_step start_step entry_at text_step unquoted label_step label_by idle_step word_end_step digits
leading_zero = refl

-- no operation of this name
unknown_operation : text_fault (codes ".vexwords 1\n.memory 0\nc0 jump L0\n;;\n.end\n") ≡ Some (record { code = 2; line = 3 })
unfolding reading line_operation step operation_step operation_of operation_by operation_by_stage has_form has_operands form_of candidate compute_of move_of select_of load_of store_of branch_on_of number_at signed_at numbers_at general_at branch_at register_at source_at version_step memory_step start_step entry_at text_step unquoted label_step label_by idle_step word_end_step digits
unknown_operation = refl

-- a second blank behind the cluster
no_name : text_fault (codes ".vexwords 1\n.memory 0\nc0  mov $r0.3 = 1\n;;\n.end\n") ≡ Some (record { code = 2; line = 3 })
unfolding reading line_operation step operation_step operation_of operation_by operation_by_stage has_form has_operands form_of candidate compute_of move_of select_of load_of store_of branch_on_of number_at signed_at numbers_at general_at branch_at register_at source_at version_step memory_step start_step entry_at text_step unquoted label_step label_by idle_step word_end_step digits
no_name = refl

-- a place that is no word, of any length
unknown_label : text_fault (codes ".vexwords 1\n.memory 0\nc0 goto L99999999999999999999\n;;\n.end\n") ≡ Some (record { code = 4; line = 3 })
unfolding reading line_operation step operation_step operation_of operation_by operation_by_stage has_form has_operands form_of candidate compute_of move_of select_of load_of store_of branch_on_of number_at signed_at numbers_at general_at branch_at register_at source_at version_step memory_step start_step entry_at text_step unquoted label_step label_by idle_step word_end_step digits
unknown_label = refl

-- a text that is not there
text_is_not_there : text_fault (codes ".vexwords 1\n.memory 0\n.text \"\"\nc0 outs T1\n;;\n.end\n") ≡ Some (record { code = 3; line = 4 })
unfolding reading line_operation step operation_step operation_of operation_by operation_by_stage has_form has_operands form_of candidate compute_of move_of select_of load_of store_of branch_on_of number_at signed_at numbers_at general_at branch_at register_at source_at version_step memory_step start_step entry_at text_step unquoted label_step label_by idle_step word_end_step digits
text_is_not_there = refl

-- a second size of the memory, known by its first field
second_memory : text_fault (codes ".vexwords 1\n.memory 0\n.memory x\n.end\n") ≡ Some (record { code = 5; line = 3 })
unfolding reading line_operation step operation_step operation_of operation_by operation_by_stage has_form has_operands form_of candidate compute_of move_of select_of load_of store_of branch_on_of number_at signed_at numbers_at general_at branch_at register_at source_at version_step memory_step start_step entry_at text_step unquoted label_step label_by idle_step word_end_step digits
second_memory = refl

-- a label twice
second_label : text_fault (codes ".vexwords 1\n.memory 0\nL0:\nc0 goto L0\nL0:\n;;\n.end\n") ≡ Some (record { code = 5; line = 5 })
unfolding reading line_operation step operation_step operation_of operation_by operation_by_stage has_form has_operands form_of candidate compute_of move_of select_of load_of store_of branch_on_of number_at signed_at numbers_at general_at branch_at register_at source_at version_step memory_step start_step entry_at text_step unquoted label_step label_by idle_step word_end_step digits
second_label = refl

-- a memory that is too large
large_memory : text_fault (codes ".vexwords 1\n.memory 134217732\n.end\n") ≡ Some (record { code = 6; line = 2 })
unfolding reading line_operation step operation_step operation_of operation_by operation_by_stage has_form has_operands form_of candidate compute_of move_of select_of load_of store_of branch_on_of number_at signed_at numbers_at general_at branch_at register_at source_at version_step memory_step start_step entry_at text_step unquoted label_step label_by idle_step word_end_step digits
large_memory = refl

-- a memory of no whole words
odd_memory : text_fault (codes ".vexwords 1\n.memory 134217733\n.end\n") ≡ Some (record { code = 1; line = 2 })
unfolding reading line_operation step operation_step operation_of operation_by operation_by_stage has_form has_operands form_of candidate compute_of move_of select_of load_of store_of branch_on_of number_at signed_at numbers_at general_at branch_at register_at source_at version_step memory_step start_step entry_at text_step unquoted label_step label_by idle_step word_end_step digits
odd_memory = refl

-- a label that nothing names
unused_label : text_fault (codes ".vexwords 1\n.memory 0\nL0:\n;;\n.end\n") ≡ Some (record { code = 1; line = 3 })
unfolding reading line_operation step operation_step operation_of operation_by operation_by_stage has_form has_operands form_of candidate compute_of move_of select_of load_of store_of branch_on_of number_at signed_at numbers_at general_at branch_at register_at source_at version_step memory_step start_step entry_at text_step unquoted label_step label_by idle_step word_end_step digits
unused_label = refl

-- a label that is missing
missing_label : text_fault (codes ".vexwords 1\n.memory 0\nc0 goto L0\n;;\n.end\n") ≡ Some (record { code = 1; line = 3 })
unfolding reading line_operation step operation_step operation_of operation_by operation_by_stage has_form has_operands form_of candidate compute_of move_of select_of load_of store_of branch_on_of number_at signed_at numbers_at general_at branch_at register_at source_at version_step memory_step start_step entry_at text_step unquoted label_step label_by idle_step word_end_step digits
missing_label = refl

-- an early end
early_end : text_fault (codes ".vexwords 1\n.memory 0\n.end\n;;\n.end\n") ≡ Some (record { code = 1; line = 3 })
unfolding reading line_operation step operation_step operation_of operation_by operation_by_stage has_form has_operands form_of candidate compute_of move_of select_of load_of store_of branch_on_of number_at signed_at numbers_at general_at branch_at register_at source_at version_step memory_step start_step entry_at text_step unquoted label_step label_by idle_step word_end_step digits
early_end = refl

-- a form of cluster 0 on another cluster
wrong_cluster : text_fault (codes ".vexwords 1\n.memory 0\nc1 trap 1\n;;\n.end\n") ≡ Some (record { code = 1; line = 3 })
unfolding reading line_operation step operation_step operation_of operation_by operation_by_stage has_form has_operands form_of candidate compute_of move_of select_of load_of store_of branch_on_of number_at signed_at numbers_at general_at branch_at register_at source_at version_step memory_step start_step entry_at text_step unquoted label_step label_by idle_step word_end_step digits
wrong_cluster = refl

-- a word of the memory that is not below its end
far_start : text_fault (codes ".vexwords 1\n.memory 8\n.word 8 = 1\n.end\n") ≡ Some (record { code = 1; line = 3 })
unfolding reading line_operation step operation_step operation_of operation_by operation_by_stage has_form has_operands form_of candidate compute_of move_of select_of load_of store_of branch_on_of number_at signed_at numbers_at general_at branch_at register_at source_at version_step memory_step start_step entry_at text_step unquoted label_step label_by idle_step word_end_step digits
far_start = refl

-- a third version
third_version : text_fault (codes ".vexwords 3\n.memory 0\n.end\n") ≡ Some (record { code = 1; line = 1 })
unfolding reading line_operation step operation_step operation_of operation_by operation_by_stage has_form has_operands form_of candidate compute_of move_of select_of load_of store_of branch_on_of number_at signed_at numbers_at general_at branch_at register_at source_at version_step memory_step start_step entry_at text_step unquoted label_step label_by idle_step word_end_step digits
third_version = refl

-- a version with a leading zero
leading_zero_version : text_fault (codes ".vexwords 01\n.memory 0\n.end\n") ≡ Some (record { code = 1; line = 1 })
unfolding reading line_operation step operation_step operation_of operation_by operation_by_stage has_form has_operands form_of candidate compute_of move_of select_of load_of store_of branch_on_of number_at signed_at numbers_at general_at branch_at register_at source_at version_step memory_step start_step entry_at text_step unquoted label_step label_by idle_step word_end_step digits
leading_zero_version = refl

-- a version of two digits
long_version : text_fault (codes ".vexwords 12\n.memory 0\n.end\n") ≡ Some (record { code = 1; line = 1 })
unfolding reading line_operation step operation_step operation_of operation_by operation_by_stage has_form has_operands form_of candidate compute_of move_of select_of load_of store_of branch_on_of number_at signed_at numbers_at general_at branch_at register_at source_at version_step memory_step start_step entry_at text_step unquoted label_step label_by idle_step word_end_step digits
long_version = refl

-- the second version stands a second time
second_second_version : text_fault (codes ".vexwords 2\n.memory 0\n.vexwords 2\n.end\n") ≡ Some (record { code = 5; line = 3 })
unfolding reading line_operation step operation_step operation_of operation_by operation_by_stage has_form has_operands form_of candidate compute_of move_of select_of load_of store_of branch_on_of number_at signed_at numbers_at general_at branch_at register_at source_at version_step memory_step start_step entry_at text_step unquoted label_step label_by idle_step word_end_step digits
second_second_version = refl

-- one version behind the other is repeated too
other_version_behind : text_fault (codes ".vexwords 1\n.vexwords 2\n.memory 0\n.end\n") ≡ Some (record { code = 5; line = 2 })
unfolding reading line_operation step operation_step operation_of operation_by operation_by_stage has_form has_operands form_of candidate compute_of move_of select_of load_of store_of branch_on_of number_at signed_at numbers_at general_at branch_at register_at source_at version_step memory_step start_step entry_at text_step unquoted label_step label_by idle_step word_end_step digits
other_version_behind = refl

-- the second version hides no later fault
large_memory_of_second_version : text_fault (codes ".vexwords 2\n.memory 134217732\n.end\n") ≡ Some (record { code = 6; line = 2 })
unfolding reading line_operation step operation_step operation_of operation_by operation_by_stage has_form has_operands form_of candidate compute_of move_of select_of load_of store_of branch_on_of number_at signed_at numbers_at general_at branch_at register_at source_at version_step memory_step start_step entry_at text_step unquoted label_step label_by idle_step word_end_step digits
large_memory_of_second_version = refl

-- the program has the version of its text

abbrev trap_of_version : ℕ → WordProgram
trap_of_version version = record { version = version; memory = 0; start = []; texts = []; words = record { ops = EndByTrap Divide ∷ []; idle = 0 } ∷ [] }

first_version_read : reading (codes ".vexwords 1\n.memory 0\nc0 trap 1\n;;\n.end\n") ≡ Ok (trap_of_version 1)
unfolding reading line_operation step operation_step operation_of operation_by operation_by_stage has_form has_operands form_of candidate compute_of move_of select_of load_of store_of branch_on_of number_at signed_at numbers_at general_at branch_at register_at source_at version_step memory_step start_step entry_at text_step unquoted label_step label_by idle_step word_end_step digits
first_version_read = refl

second_version_read : reading (codes ".vexwords 2\n.memory 0\nc0 trap 1\n;;\n.end\n") ≡ Ok (trap_of_version 2)
unfolding reading line_operation step operation_step operation_of operation_by operation_by_stage has_form has_operands form_of candidate compute_of move_of select_of load_of store_of branch_on_of number_at signed_at numbers_at general_at branch_at register_at source_at version_step memory_step start_step entry_at text_step unquoted label_step label_by idle_step word_end_step digits
second_version_read = refl

-- no fault: a text with each part
whole_text : text_fault (codes ".vexwords 1\n.memory 16\n.word 4 = 7\n.word 12 = -1\n.text \"\\x0a~\"\nc0 outs T0\n;;\nL1:\nxnop 255\n;;\n;;\nc0 cmplt $b0.7 = $r0.63, -10\nc0 add $r0.3 = $r0.4, $r0.5\n;;\nc0 brf $b0.7, L1\nc2 ldw.d $r2.3 = -4[$r2.1]\n;;\n.end\n") ≡ None
unfolding reading line_operation step operation_step operation_of operation_by operation_by_stage has_form has_operands form_of candidate compute_of move_of select_of load_of store_of branch_on_of number_at signed_at numbers_at general_at branch_at register_at source_at version_step memory_step start_step entry_at text_step unquoted label_step label_by idle_step word_end_step digits
whole_text = refl

-- What a word is whatever the state: why it is stuck wherever it is issued, how many operations of each kind it has, and how
-- many can write.
use Rattle.std.specs.Prelude.{ℕ, not, ◌&&◌, if◌then◌else◌, List, length, count_by, Option, Some, None}
use Rattle.std.specs.List.{list_any}
use Rattle.vx_base.specs.declared.outcome.Reason.{Reason}
use Rattle.vx_base.specs.declared.outcome.Reason.TheVariants.{BadWord, Overfull, BadAddress, NoInputLeft}
use Rattle.vx_isa.specs.declared.operation.Operation.{Operation}
use Rattle.vx_isa.specs.declared.operation.UnitKind.TheVariants.{Alu, Multiply, Memory, Copies}
use Rattle.vx_isa.specs.declared.program.Word.{Word}
use Rattle.vx_isa.specs.declared.program.WordProgram.{WordProgram}
use Rattle.vx_isa.specs.Numbers.{Numbers}
use Rattle.vx_isa.specs.Operations.{is_control}
use Rattle.vx_isa.specs.Machine.{State, has_bad_address, takes_input, is_left}
use Rattle.vx_isa.specs.Fits.{is_of, is_bad_word, fits}
use Rattle.vx_sim.specs.declared.shape.Shape.{Shape}
use Rattle.vx_sim.specs.declared.shape.UnitCounts.{UnitCounts}

abbrev pub unfit_of : Numbers → List Operation → Option Reason
unfit_of m ops = if is_bad_word m ops then Some BadWord else if not (fits m ops) then Some Overfull else None

abbrev pub counts_of : List Operation → UnitCounts
counts_of ops = record {
  alu = count_by (is_of Alu) ops;
  multiply = count_by (is_of Multiply) ops;
  memory = count_by (is_of Memory) ops;
  copy = count_by (is_of Copies) ops;
  control = count_by is_control ops;
}

-- an unfit word has no effect
abbrev pub width_by : Option Reason → List Operation → ℕ
width_by (Some why) ops = 0
width_by None ops = length ops

abbrev pub shape_of : Numbers → Word → Shape
shape_of m word = record { unfit = unfit_of m word.ops; counts = counts_of word.ops; width = width_by (unfit_of m word.ops) word.ops }

-- the reasons that depend on the state
abbrev pub stuck_here : WordProgram → State → List Operation → Option Reason
stuck_here w s ops =
    if list_any (has_bad_address w.memory s) ops then Some BadAddress
    else if list_any takes_input ops && not (is_left s.input) then Some NoInputLeft
    else None

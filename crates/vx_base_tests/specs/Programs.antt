-- Programs of words with a little memory and one text.
use Rattle.std.specs.Prelude.{pos, List, [], ◌∷◌, map}
use Rattle.vx_isa.specs.declared.operation.Operation.{Operation}
use Rattle.vx_isa.specs.declared.program.Word.{Word}
use Rattle.vx_isa.specs.declared.program.WordProgram.{WordProgram}

abbrev pub word_of : (ops : List Operation) → Word
word_of ops = record { ops = ops; idle = 0 }

-- 8 bytes of memory, of which the second word starts as 7, and a line feed
abbrev pub program_of : (words : List (List Operation)) → WordProgram
program_of words = record { version = 1; memory = 8; start = (4, pos 7) ∷ []; texts = (10 ∷ []) ∷ []; words = map word_of words }

-- The spans of the values of a layout, with the file in which each may have a register.
use Rattle.std.specs.Prelude.{◌+◌, ◌*◌, ℕ, Option, Some, None, List, [], ◌∷◌, ◌++◌}
use Rattle.vx_flow.specs.declared.graph.Bank.{Bank}
use Rattle.vx_flow.specs.declared.graph.Bank.TheVariants.{General, Branch}
use Rattle.vx_mixed.specs.declared.layout.VWords.{VWords}
use Rattle.vx_mixed.specs.LaidSettled.{home_in, bank_in}
use Rattle.vx_regs.specs.declared.hulls.Hull.{Hull}
use Rattle.vx_regs.specs.declared.map.Kept.{Kept}
use Rattle.vx_regs.specs.declared.map.Kept.TheVariants.{InRegister, Nowhere}
use Rattle.vx_regs.specs.declared.spans.Span.{Span}

abbrev pub file_number : Option Bank → ℕ → ℕ
file_number None home = 0
file_number (Some General) home = home + 1
file_number (Some Branch) home = 0

abbrev pub file_in : VWords → ℕ → ℕ
file_in l v = file_number (bank_in l v) (home_in l v)

abbrev pub span_list : VWords → ℕ → Option Hull → List Span
span_list l v None = []
span_list l v (Some h) = record { file = file_in l v; from = h.from; to = h.to; value = v } ∷ []

-- of the values from a number on
abbrev pub spans_from : VWords → ℕ → List (Option Hull) → List Span
spans_from l v [] = []
spans_from l v (h ∷ hs) = span_list l v h ++ spans_from l (v + 1) hs

-- spans are sorted by their files, and in a file by their first places
abbrev pub span_key : Span → ℕ
span_key s = s.file * 4294967296 + s.from

-- where no value has a bank, there is no file
abbrev pub first_register : Option Hull → Kept
first_register None = Nowhere
first_register (Some h) = InRegister 0

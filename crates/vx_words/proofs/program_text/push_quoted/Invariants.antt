use Rattle.std.proofs.Common.{◌≡◌, ◌++◌, take, codes}
use Rattle.std.specs.List.{flat_map}
use Rattle.vx_words.specs.Spelling.{byte_text}
use Rattle.vx_words.proofs.program_text.push_quoted.Given as goal

abbrev pub invariant-loop-byte : goal.invariant-loop-byte
invariant-loop-byte l = l.out.items ≡ l.fn.out.items ++ codes ".text \"" ++ flat_map byte_text (take l.byte-index l.bytes)

use Rattle.std.proofs.Common.{◌≡◌, true, take}
use Rattle.std.specs.List.{list_all}
use Rattle.vx_flow.specs.Sound.{is_text_there}
use Rattle.vx_sound.proofs.program_names.are_texts_there.Given as goal

abbrev pub invariant-loop-op : goal.invariant-loop-op
invariant-loop-op l = list_all (is_text_there l.flow) (take l.op-index l.ops) ≡ true

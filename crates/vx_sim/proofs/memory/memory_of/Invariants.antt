use Rattle.std.proofs.Common.{◌≡◌, ◌*◌, ℕ, true, drop, length}
use Rattle.vx_isa.specs.Sound.{is_start}
use Rattle.vx_isa.specs.Machine.{memory_at_start}
use Rattle.vx_sim.specs.Held.{word_of}
use Rattle.vx_sim.proofs.Starting.{started}
use Rattle.vx_sim.proofs.memory.memory_of.Given as goal

abbrev pub invariant-loop-word : goal.invariant-loop-word
invariant-loop-word l = record {
  least : ℕ;
  ascends : is_start l.program.memory least (drop l.word-index l.word-items) ≡ true;
  words : started (drop l.word-index l.word-items) (word_of l.memory.items) ≡ memory_at_start l.program.start;
  size : l.program.memory ≡ 4 * length l.memory.items;
}

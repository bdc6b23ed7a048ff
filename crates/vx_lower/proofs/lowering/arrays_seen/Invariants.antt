use Rattle.std.proofs.Common.{◌≡◌, ◌++◌, map, take}
use Rattle.vx_lower.specs.declared.seen.Seen.TheVariants.{OwnArray}
use Rattle.vx_lower.specs.Lowered.{global_seen, handed_from}
use Rattle.vx_lower.proofs.lowering.arrays_seen.Given as goal

abbrev pub invariant-loop-global : goal.invariant-loop-global
invariant-loop-global l = l.arrays.items ≡ map global_seen (take l.global-index l.fn.globals)

abbrev pub invariant-loop-words : goal.invariant-loop-words
invariant-loop-words l = l.arrays.items ≡ map global_seen l.fn.globals ++ handed_from l.fn.first l.fn.count ++ map OwnArray (take l.words-index l.fn.own)

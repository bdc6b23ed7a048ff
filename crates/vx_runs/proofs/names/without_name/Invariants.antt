use Rattle.std.proofs.Common.{◌≡◌, ◌∷◌, map, string_bytes, take}
use Rattle.vx_runs.proofs.names.without_name.Given as goal

-- the program's name, and the words so far
abbrev pub invariant-loop-other : goal.invariant-loop-other
invariant-loop-other l = map (λ w. w.now) l.words.items ≡ string_bytes l.program ∷ map string_bytes (take l.other-index l.others)

use Rattle.std.proofs.Common.{◌≤◌, List, ap, arith, length, sym}
use Rattle.std.proofs.lemmas.List.{set_past}
use Rattle.vx_flow.specs.Effects.{Content, State}
use Rattle.vx_tally.specs.Storage.{state_of}
use Rattle.vx_tally.proofs.storage.Storage.set_word.Goals as goal

pub returns-else-spot-len : goal.returns-else-spot-len
returns-else-spot-len c =
    let s : State = state_of c.args.self.now in
    let past : length s.arrays ≤ c.args.spot = omega (arith, c.args.self.now.arrays.ok.0) in
    ap (λ (rows : List (List Content)). record s { arrays = rows }) (sym (set_past s.arrays c.args.spot _ past))

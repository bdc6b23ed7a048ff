use Rattle.std.proofs.Common.{◌∷◌, []}
use Rattle.std.proofs.lemmas.Result.{IfOk-equal}
use Rattle.vx_target.specs.Target.{one}
use Rattle.vx_slots.proofs.Settling.{onto}
use Rattle.vx_slots.proofs.transfers.push_both.Goals as goal

pub returns : goal.returns
returns c = IfOk-equal _ _ _ _ c.push_one-2.ensures (onto c.args.words.now c.push_one.new.words (one c.args.first ∷ []) (one c.args.second ∷ []) c.in_ok-push_one.ensures)

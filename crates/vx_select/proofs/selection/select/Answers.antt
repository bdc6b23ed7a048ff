use Rattle.std.proofs.lemmas.Result.{IfOk-weaker}
use Rattle.vx_select.proofs.Flows.{selected_sound, selected_stays}
use Rattle.vx_select.proofs.selection.select.Goals as goal

pub returns-clause-selected : goal.returns-clause-selected
returns-clause-selected c = c.selected_flow-new.ensures

pub returns-clause-flow : goal.returns-clause-flow
returns-clause-flow c = IfOk-weaker c.selected_flow-new.result _ _ (λ new s p o. selected_stays p c.args.flow new c.args.most s o) c.selected_flow-new.ensures

pub returns-clause-sound : goal.returns-clause-sound
returns-clause-sound c = IfOk-weaker c.selected_flow-new.result _ _ (λ new s. selected_sound c.args.flow new c.args.most s c.requires.sound) c.selected_flow-new.ensures

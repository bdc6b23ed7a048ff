use Rattle.std.proofs.lemmas.Result.{IfOk-weaker}
use Rattle.vx_select.proofs.Exactly.{flow_padded, flow_stays, flow_sound}
use Rattle.vx_select.proofs.padding.padded.Goals as goal

pub returns-clause-padded : goal.returns-clause-padded
returns-clause-padded c = IfOk-weaker c.padded_flow-new.result _ _ (λ new e. flow_padded c.args.flow new c.args.sizes.now c.requires e) c.padded_flow-new.ensures

pub returns-clause-flow : goal.returns-clause-flow
returns-clause-flow c = IfOk-weaker c.padded_flow-new.result _ _ (λ new e p s o. flow_stays c.args.flow new c.args.sizes.now c.requires e p s o) c.padded_flow-new.ensures

pub returns-clause-sound : goal.returns-clause-sound
returns-clause-sound c = IfOk-weaker c.padded_flow-new.result _ _ (λ new e s. flow_sound c.args.flow new c.args.sizes.now c.requires e s) c.padded_flow-new.ensures

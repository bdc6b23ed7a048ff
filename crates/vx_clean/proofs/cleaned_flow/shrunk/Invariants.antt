use Rattle.std.proofs.Common.{◌≡◌, true}
use Rattle.vx_flow.specs.Sound.{is_sound_flow}
use Rattle.vx_shape.specs.Flows.{FlowStays}
use Rattle.vx_clean.proofs.cleaned_flow.shrunk.Given as goal

abbrev pub invariant-loop-round : goal.invariant-loop-round
invariant-loop-round l = record { sound : is_sound_flow l.current ≡ true; flow : FlowStays l.fn.flow l.current }

use Rattle.std.proofs.Common.{◌≡◌, IfSome, subst, true}
use Rattle.vx_flow.specs.Sound.{is_sound_flow}
use Rattle.vx_shape.specs.Flows.{FlowStays}
use Rattle.vx_clean.proofs.cleaned_flow.shrunk.Goals as goal

pub loop-round-preserved : goal.loop-round-preserved
loop-round-preserved c =
    let now = c.loop-round.current in
    let next : FlowStays now c.in-Some.cleaned = subst (λ found. IfSome found (λ cleaned. FlowStays now cleaned)) c.in-Some.is c.in_ok-cleaned.ensures.flow in
    record {
      sound = subst (λ found. IfSome found (λ cleaned. is_sound_flow cleaned ≡ true)) c.in-Some.is c.in_ok-cleaned.ensures.sound;
      flow = λ p of. next p (c.loop-round.invariant.flow p of);
    }

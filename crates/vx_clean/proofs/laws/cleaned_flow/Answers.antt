use Rattle.vx_clean.proofs.CleanFlow.{cleaned_flow}
use Rattle.vx_clean.proofs.laws.cleaned_flow.Goals as goal

pub returns : goal.returns
returns c = cleaned_flow

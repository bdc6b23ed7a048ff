use Rattle.vx_clean.proofs.Cleans.{cleaned_runs}
use Rattle.vx_clean.proofs.laws.cleaned_runs.Goals as goal

pub returns : goal.returns
returns c = cleaned_runs

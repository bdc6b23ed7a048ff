-- The law of the words that carry layouts, from those that words fit, that no path is early, and that whole runs are alike.
use Rattle.vx_target.specs.Carried.{FrameLaw}
use Rattle.vx_tie.specs.Fitted.{FitLaw, NeverEarlyLaw}
use Rattle.vx_tie.specs.Whole.{WholeLaw}

pub frame_law : FitLaw → NeverEarlyLaw → WholeLaw → FrameLaw
frame_law fit early whole T flow ls w sound carries =
    let fits = fit T flow ls w sound carries in
    let never = early T flow ls w sound carries in (
      record { fit = λ p word at. (fits p word at).1; never_reads_early = never.0; never_writes_early = never.1 },
      λ input safe. whole T flow ls w sound carries fits input safe,
    )

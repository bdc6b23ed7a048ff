-- The line of the run of the words that were made.
use Rattle.vx_command.specs.Asked.{soaking_of}
use Rattle.vx_runs.specs.Ending.{loaded_of}
use Rattle.vx_commands.proofs.SoakLaws.{ran}
use Rattle.vx_commands.proofs.soak.soaked.Goals as goal

pub words_made-requires : goal.words_made-requires
words_made-requires g c = record { some = c.args.asked.now.some; small = c.args.asked.now.small }

pub returns : goal.returns
returns g c = λ no_fault.
    ran (soaking_of c.args.asked.now) _ c.in_ok-summed.summed.end.ended c.in_ok-summed.summed.end.issued c.in_ok-summed.summed.sum (loaded_of c.in_ok-made.made.loaded) c.in_ok-made.made.sizes c.in_ok-line.line.items
    c.in_ok-made.ensures (c.in_ok-summed.ensures no_fault) c.in_ok-line.ensures

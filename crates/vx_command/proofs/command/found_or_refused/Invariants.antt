-- The command so far has the words so far.
use Rattle.std.proofs.Common.{◌≡◌, take}
use Rattle.clap.specs.Words.{app_of, new_app}
use Rattle.vx_command.specs.Words.{with_words}
use Rattle.vx_command.proofs.command.found_or_refused.Given as goal

abbrev pub invariant-loop-word : goal.invariant-loop-word
invariant-loop-word l = app_of l.command ≡ with_words (new_app l.name) (take l.word-index l.options)

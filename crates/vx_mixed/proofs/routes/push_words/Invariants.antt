use Rattle.std.proofs.Common.{◌≡◌, ◌++◌, drop}
use Rattle.vx_flow.specs.declared.graph.Exit.{Exit}
use Rattle.vx_mixed.specs.Routes.{word_routes}
use Rattle.vx_mixed.proofs.routes.push_words.Given as goal

abbrev pub invariant-loop-word : goal.invariant-loop-word
invariant-loop-word l = (exit : Exit) → l.routes ++ word_routes l.node exit (drop l.word-index l.words) ≡ l.initial.routes ++ word_routes l.first exit l.words

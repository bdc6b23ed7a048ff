use Rattle.std.proofs.Common.{◌≡◌, drop, true, map}
use Rattle.std.specs.List.{list_all}
use Rattle.vx_ast.specs.Accepted.{over, function_nodes}
use Rattle.vx_ast.specs.View.{function_of}
use Rattle.vx_limits.specs.Words.{function_words}
use Rattle.vx_limits.proofs.limits.over_nodes.Given as goal

abbrev pub invariant-loop-function : goal.invariant-loop-function
invariant-loop-function l = record {
  limit : over 5 4000 (map function_nodes (map function_of (drop l.function-index l.fn.functions))) ≡ over 5 4000 (map function_nodes (map function_of l.fn.functions));
  words : list_all function_words (map function_of (drop l.function-index l.fn.functions)) ≡ true → list_all function_words (map function_of l.fn.functions) ≡ true;
}

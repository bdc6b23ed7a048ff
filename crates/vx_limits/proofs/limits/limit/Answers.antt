use Rattle.std.proofs.Common.{ap, sym, ◌∙◌, map, List}
use Rattle.std.specs.Prelude.{option_map}
use Rattle.std.specs.List.{list_all}
use Rattle.vx_ast.specs.declared.tree.Function.{Function}
use Rattle.vx_ast.specs.declared.tree.GlobalVariable.{GlobalVariable}
use Rattle.vx_ast.specs.Accepted.{or_else, limit_of}
use Rattle.vx_ast.specs.View.{function_of}
use Rattle.vx_limits.specs.Capped.{over_of, over_is}
use Rattle.vx_limits.specs.Words as words
use Rattle.vx_limits.specs.Words.{function_words}
use Rattle.vx_limits.proofs.Limited.{limit_is}
use Rattle.std.proofs.lemmas.Bool.{and_from}
use Rattle.vx_limits.proofs.limits.limit.Goals as goal

pub returns-clause-limit : goal.returns-clause-limit
returns-clause-limit c =
    limit_is c.as_slice.result.now (map function_of c.as_slice-functions.result.now) c.args.program.now.main
    (option_map (over_of 3) c.over_functions.result) (option_map (over_of 4) c.over_parameters.result) (option_map (over_of 5) c.in_ok-nodes.nodes) (option_map (over_of 6) c.in_ok-words.words) (option_map (over_of 7) c.in_ok-globals.globals) (option_map (over_of 8) c.over_formats.result) (option_map over_is c.first_over-by_functions.result)
    c.over_functions.ensures c.over_parameters.ensures c.in_ok-nodes.ensures.limit c.in_ok-words.ensures c.in_ok-globals.ensures.limit c.over_formats.ensures
    (c.first_over-by_functions.ensures.over
    ∙ ap (λ z. or_else (option_map (over_of 3) c.over_functions.result) z) (c.first_over-by_parameters.ensures.over
    ∙ ap (λ z. or_else (option_map (over_of 4) c.over_parameters.result) z) (c.first_over-by_nodes.ensures.over
    ∙ ap (λ z. or_else (option_map (over_of 5) c.in_ok-nodes.nodes) z) (c.first_over-by_words.ensures.over
    ∙ ap (λ z. or_else (option_map (over_of 6) c.in_ok-words.words) z) (c.first_over-by_globals.ensures.over
    ∙ ap (λ z. or_else (option_map (over_of 7) c.in_ok-globals.globals) z) c.over_of-formats.ensures)))))
    ∙ ap (λ (z : List GlobalVariable). limit_of (record { globals = z; functions = map function_of c.as_slice-functions.result.now; main = c.args.program.now.main })) c.as_slice.ensures
    ∙ ap (λ (z : List Function). limit_of (record { globals = c.args.program.now.globals; functions = map function_of z; main = c.args.program.now.main })) c.as_slice-functions.ensures.value

pub returns-clause-words : goal.returns-clause-words
returns-clause-words c = λ h.
    let a = c.first_over-by_functions.ensures.none h in
    let b = c.first_over-by_parameters.ensures.none a.1 in
    let d = c.first_over-by_nodes.ensures.none b.1 in
    and_from (list_all function_words (map function_of c.args.program.now.functions.items)) (list_all words.global_words c.args.program.now.globals)
    (ap (λ (z : List Function). list_all function_words (map function_of z)) (sym c.as_slice-functions.ensures.value) ∙ c.in_ok-nodes.ensures.words d.0)
    (ap (λ (z : List GlobalVariable). list_all words.global_words z) (sym c.as_slice.ensures) ∙ c.in_ok-globals.ensures.words)

use Rattle.std.proofs.Common.{◌≡◌, ◌++◌, length, map, ap, sym, ◌∙◌, arith}
use Rattle.vx_flow.specs.Meaning.{words_at_start}
use Rattle.vx_tally.specs.Storage.{value_at}
use Rattle.vx_tally.specs.Machine.{undefined_all}
use Rattle.vx_tally.proofs.Running.{begin_is}
use Rattle.vx_tally.proofs.machine.begin.Goals as goal

pub returns : goal.returns
returns c =
    let base : c.len-base.result ≡ length c.in_ok-arrays.arrays.items = omega (arith, c.in_ok-arrays.arrays.ok.0) in
    begin_is c.args.flow.now c.args.input.now (value_at c.new-2.result.items) c.in_ok-arrays.arrays.items c.add_arrays.new.arrays.items c.new.result.items c.len-base.result c.in_ok-numbers.numbers.items c.new-3.result.items c.new-4.result.items
    c.new.ensures.items (λ v. ap (λ l. value_at l v) c.new-2.ensures.items) (c.in_ok-arrays.ensures ∙ ap (map words_at_start) c.as_slice.ensures) (c.in_ok-add_arrays.ensures ∙ ap (λ own. c.in_ok-arrays.arrays.items ++ undefined_all own) c.main_arrays-own.ensures) base c.in_ok-numbers.ensures.items c.new-3.ensures.items c.new-4.ensures.items

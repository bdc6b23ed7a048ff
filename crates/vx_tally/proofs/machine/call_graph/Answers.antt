use Rattle.std.proofs.Common.{◌≡◌, ℕ, length, ap, sym, ◌∙◌, arith}
use Rattle.vx_flow.specs.Meaning.{at_entry, bases_in, spots_held}
use Rattle.vx_tally.specs.Storage.{value_at}
use Rattle.vx_tally.specs.Machine.{active_of, spots_of}
use Rattle.vx_tally.proofs.Running.{enters_is, enters_wrong}
use Rattle.vx_tally.proofs.machine.call_graph.Goals as goal

pub returns-in_ok-enter-in-Some : goal.returns-in_ok-enter-in-Some
returns-in_ok-enter-in-Some c =
    let m = c.args.machine.now in
    let f = value_at c.in_ok-values.values.items in
    let bases = bases_in c.own_arrays-own.result.now in
    let count : c.len.result ≡ length m.storage.arrays.items = omega (arith, m.storage.arrays.ok.0) in
    enters_is c.args.globals (active_of m) c.args.function c.args.graph.now c.args.arguments.now c.args.result_to c.args.next f c.in-Some.passed.items c.own_arrays-own.result.now (active_of c.enter.new.machine)
    (λ v. c.in_ok-values.ensures v ∙ ap (λ qs. at_entry qs c.args.arguments.now v) c.as_slice.ensures) c.own_arrays-own.ensures
    (ap (λ n. spots_held n f bases) (sym count) ∙ ap (λ l. spots_held c.len.result (value_at l) bases) (sym c.as_slice-2.ensures.value) ∙ c.in_ok-passed.ensures ∙ ap spots_of c.in-Some.is) c.in_ok-enter-in-Some.ensures

pub returns-in-None : goal.returns-in-None
returns-in-None c =
    let m = c.args.machine.now in
    let f = value_at c.in_ok-values.values.items in
    let bases = bases_in c.own_arrays-own.result.now in
    let count : c.len.result ≡ length m.storage.arrays.items = omega (arith, m.storage.arrays.ok.0) in (
      m.storage.out.items,
      enters_wrong c.args.globals (active_of m) c.args.function c.args.graph.now c.args.arguments.now c.args.result_to c.args.next f c.own_arrays-own.result.now
          (λ v. c.in_ok-values.ensures v ∙ ap (λ qs. at_entry qs c.args.arguments.now v) c.as_slice.ensures) c.own_arrays-own.ensures
          (ap (λ n. spots_held n f bases) (sym count) ∙ ap (λ l. spots_held c.len.result (value_at l) bases) (sym c.as_slice-2.ensures.value) ∙ c.in_ok-passed.ensures ∙ ap spots_of c.in-None.is),
    )

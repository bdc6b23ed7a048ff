-- The layouts can be finished, so they are.
use Rattle.std.proofs.Common.{◌≡◌, sym, subst}
use Rattle.vx_target.specs.Finish.{AllCanFinish, Finishes}
use Rattle.vx_compiled.specs.Compiled.{all_in_slots}
use Rattle.vx_calls.specs.Bounds.{FitsMemory}
use Rattle.vx_compile.proofs.Chain.{all_inside, all_can_finish}
use Rattle.vx_compile.proofs.SmallFrames.{fits_memory}
use Rattle.vx_compile.proofs.words.finished_of.Goals as goal

pub maps_of-requires : goal.maps_of-requires
maps_of-requires c = all_inside c.stages_do_the_same.ensures c.args.machine.now c.args.flow.now.functions c.args.layouts.now c.keeps_ranges.ensures c.requires.layouts

pub finish-requires-clause-functions : goal.finish-requires-clause-functions
finish-requires-clause-functions c =
    let machine = c.args.machine.now in
    let flow = c.args.flow.now in
    let layouts = c.args.layouts.now in
    let maps = c.in_ok-maps.maps in
    let all : AllCanFinish machine flow layouts maps = all_can_finish c.stages_do_the_same.ensures machine flow layouts maps c.keeps_ranges.ensures c.requires.layouts c.in_ok-maps.ensures in
    subst (AllCanFinish machine flow layouts) (sym c.as_slice-2.ensures) all

pub finish-requires-clause-fits : goal.finish-requires-clause-fits
finish-requires-clause-fits c =
    subst (FitsMemory c.args.flow.now c.args.layouts.now) (sym c.as_slice-2.ensures)
    (fits_memory c.stages_do_the_same.ensures c.args.machine.now c.args.flow.now c.args.layouts.now c.in_ok-maps.maps c.keeps_ranges.ensures c.requires.small c.requires.layouts c.in_ok-maps.ensures)

pub finish-requires-clause-sound : goal.finish-requires-clause-sound
finish-requires-clause-sound c = c.requires.sound

pub returns : goal.returns
returns c =
    let machine = c.args.machine.now in
    let flow = c.args.flow.now in
    let layouts = c.args.layouts.now in
    let maps = c.in_ok-maps.maps in
    record {
      maps = maps;
      kept = c.in_ok-maps.ensures;
      spilled_is = subst (λ z. c.in_ok-spilled.spilled ≡ all_in_slots z) c.as_slice.ensures c.in_ok-spilled.ensures;
      finished = subst (λ z. Finishes machine flow layouts z c.in_ok-finished.finished) c.as_slice-2.ensures c.in_ok-finished.ensures;
      in_range = c.numbers_fit.ensures;
    }

use Rattle.std.proofs.Common.{List, subst}
use Rattle.vx_mixed.specs.declared.layout.VirtualWord.{VirtualWord}
use Rattle.vx_frame.proofs.RegionPlaces.{Notes, notes_are, notes_first, notes_next}
use Rattle.vx_frame.proofs.Shorter.{shorter}
use Rattle.vx_frame.proofs.regions.region_rows.Goals as goal

pub words-init : goal.words-init
words-init c = notes_first c.args.marks.now c.args.layout.now c.in_ok-rows.rows.items c.as_slice-rest.result.now c.in_ok-rows.ensures c.as_slice-rest.ensures

-- one word more
pub words-preserved : goal.words-preserved
words-preserved c =
    let marks = c.args.marks.now in
    let layout = c.args.layout.now in
    let place = c.words.place in
    let rows = c.words.rows.items in
    notes_next marks layout place c.in_ok-place-in-Some.place c.number_at.result c.in-Some.word.now c.in-Some.others.now rows c.note.new.rows.items
    (subst (λ (z : List VirtualWord). Notes marks layout place z rows) c.in-Some.ensures.cases.0 c.words.invariant)
    c.number_at.ensures c.in_ok-note-in-Some.ensures c.in_ok-place-in-Some.ensures

-- nothing is left
pub returns-in-None : goal.returns-in-None
returns-in-None c = notes_are c.args.marks.now c.args.layout.now c.words.place c.words.rest.now c.words.rows.items c.in-None.ensures.cases c.words.invariant

pub words-smaller : goal.words-smaller
words-smaller c = shorter c.words.rest.now c.in-Some.others.now c.in-Some.word.now c.in-Some.ensures.cases.0

use Rattle.std.proofs.Common.{◌≡◌, ◌++◌, ◌∷◌, [], subst, sym, ◌∙◌, ap}
use Rattle.std.proofs.lemmas.List.{get_or_read}
use Rattle.vx_room.specs.Room.{has_room}
use Rattle.vx_sched.specs.Filling.{row_of}
use Rattle.vx_sched.proofs.RowSteps.{NoneUpTo, one_more, found, past_all}
use Rattle.vx_sched.proofs.rows.first_word.Goals as goal

pub seek-preserved : goal.seek-preserved
seek-preserved c =
    let m = c.args.machine.now in
    let homes = c.args.homes.now in
    let rows = c.args.rows.now in
    let row : c.index-rows-word.result ≡ row_of rows c.seek.word = get_or_read rows c.seek.word c.index-rows-word.result c.seek-test.true c.index-rows-word.is [] in
    let is : c.in_ok-fits.field-0 ≡ has_room m homes (row_of rows c.seek.word ++ c.args.item ∷ []) = c.in_ok-fits.ensures ∙ ap (λ r. has_room m homes (r ++ c.args.item ∷ [])) (c.as_slice.ensures ∙ row) in
    subst (NoneUpTo m homes rows c.args.item c.args.ready) (sym c.in_ok-word.ensures) (one_more m homes rows c.args.item c.args.ready c.seek.word c.in_ok-fits.field-0 c.seek.invariant is c.if-branch.false)

pub returns-then-branch : goal.returns-then-branch
returns-then-branch c =
    let m = c.args.machine.now in
    let homes = c.args.homes.now in
    let rows = c.args.rows.now in
    let row : c.index-rows-word.result ≡ row_of rows c.seek.word = get_or_read rows c.seek.word c.index-rows-word.result c.seek-test.true c.index-rows-word.is [] in
    let is : c.in_ok-fits.field-0 ≡ has_room m homes (row_of rows c.seek.word ++ c.args.item ∷ []) = c.in_ok-fits.ensures ∙ ap (λ r. has_room m homes (r ++ c.args.item ∷ [])) (c.as_slice.ensures ∙ row) in
    found m homes rows c.args.item c.args.ready c.seek.word c.in_ok-fits.field-0 c.seek.invariant is c.if-branch.true

pub returns : goal.returns
returns c = past_all c.args.machine.now c.args.homes.now c.args.rows.now c.args.item c.args.ready c.seek.word c.seek.invariant c.seek-test.false c.requires.alone

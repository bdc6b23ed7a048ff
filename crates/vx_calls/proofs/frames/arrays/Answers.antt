use Rattle.std.proofs.Common.{◌<◌, ◌≤◌, ◌∙◌, ◌++◌, List, None, false, length, drop, sym}
use Rattle.std.proofs.lemmas.List.{append-nil, at_drop_all}
use Rattle.std.proofs.lemmas.Bool.{ltb-false, ltb-true}
use Rattle.vx_flow.specs.declared.graph.Array.{Array}
use Rattle.vx_calls.specs.Slots.{arrays_end, arrays_from}
use Rattle.vx_calls.proofs.Offsets.{global_end, global_placed, own_end, own_placed}
use Rattle.vx_calls.proofs.frames.arrays.Goals as goal
use Rattle.vx_calls.proofs.frames.arrays.Goals.{in-Some+in_ok-push-in-Some, in-None+in_ok-push-in-None+in_ok-next-in-None}

-- a global at its address, or the next one of the function's own
pub loop-place-preserved : goal.loop-place-preserved
loop-place-preserved c =
    let xs = c.args.arrays.now in
    let addresses = c.args.addresses.now in
    let i = c.loop-place.place in
    let n = c.loop-place.next in
    let m = c.match-get.next in
    let h = c.loop-place.invariant in
    let l = c.loop-place-test.true in
    let none : Array = record { words = 0; global = false; named = 0; base = None } in
    let all = arrays_from c.args.from xs addresses in
    let end = arrays_end c.args.from xs addresses in
    elim c.match-get.branch [
      | in-Some+in_ok-push-in-Some w ↦
          (let a = w.in-Some.ensures.lookup in
          let k : i < length addresses = ltb-true i (length addresses) (sym a.0) in
          record {
            words = global_placed n m i w.in-Some.address.now xs addresses c.loop-place.words c.match-get.words all none l k a.1 w.next-is h.words (w.words-is ∙ w.in_ok-push-in-Some.ensures.ok);
            next = global_end n m i end xs addresses none l k w.next-is h.next;
          })
      | in-None+in_ok-push-in-None+in_ok-next-in-None w ↦
          (let k : length addresses ≤ i = ltb-false i (length addresses) (sym w.in-None.ensures.lookup.0) in
          record {
            words = own_placed n m i xs addresses c.loop-place.words c.match-get.words all none l k (w.next-is ∙ w.in_ok-next-in-None.ensures) h.words (w.words-is ∙ w.in_ok-push-in-None.ensures.ok);
            next = own_end n m i end xs addresses none l k (w.next-is ∙ w.in_ok-next-in-None.ensures) h.next;
          })
    ]

pub returns-clause-words : goal.returns-clause-words
returns-clause-words c =
    let words = c.loop-place.words in
    let place = c.loop-place.place in
    sym (append-nil words) ∙ sym (at_drop_all (λ (z : List Array). words ++ arrays_from c.loop-place.next z (drop place c.args.addresses.now)) c.args.arrays.now place c.loop-place-test.false) ∙ c.loop-place.invariant.words

pub returns-clause-next : goal.returns-clause-next
returns-clause-next c =
    let place = c.loop-place.place in
    sym (at_drop_all (λ (z : List Array). arrays_end c.loop-place.next z (drop place c.args.addresses.now)) c.args.arrays.now place c.loop-place-test.false) ∙ c.loop-place.invariant.next

use Rattle.std.proofs.Common.{◌≡◌, [], List, Option, subst, length, rules}
use Rattle.vx_room.specs.Items.{latency_of_op}
use Rattle.vx_mixed.specs.declared.layout.VirtualWord.{VirtualWord}
use Rattle.vx_regs.specs.declared.hulls.Hull.{Hull}
use Rattle.vx_regs.specs.BusyPlaces.{NamedBelow, LiveNear, WroteBelow}
use Rattle.vx_regs.specs.Hulls.{Notes}
use Rattle.vx_regs.proofs.BusyHulls.{are_hulls}
use Rattle.vx_regs.proofs.busy.hulls_with.Goals as goal

pub returns : goal.returns
returns c =
    let l = c.args.layout.now in
    let latency = latency_of_op c.args.machine.now in
    let words : c.as_slice-words.result.now ≡ l.words = c.as_slice-words.ensures in
    let living = c.args.living.now in
    let a = c.note_names.new.hulls.items in
    let b = c.note_lives.new.hulls.items in
    let d = c.note_pending.new.hulls.items in
    let count : c.in_ok-count.count ≡ length a = search rules in
    let empty : c.new-hulls.result.items ≡ [] = search rules in
    let names : Notes (NamedBelow l.words (length l.words)) [] a =
    subst (λ (z : List (Option Hull)). Notes (NamedBelow l.words (length l.words)) z a) empty
    (subst (λ (z : List VirtualWord). Notes (NamedBelow z (length z)) c.new-hulls.result.items a) words c.in_ok-note_names.ensures) in
    let lively : Notes (LiveNear living.live living.nodes.numbers l.words c.in_ok-count.count (length l.words)) a b =
    subst (λ (z : List VirtualWord). Notes (LiveNear living.live living.nodes.numbers z c.in_ok-count.count (length z)) a b) words c.in_ok-note_lives.ensures in
    let pending : Notes (WroteBelow latency l.words (length l.words)) b d =
    subst (λ (z : List VirtualWord). Notes (WroteBelow latency z (length z)) b d) words c.in_ok-note_pending.ensures in
    are_hulls latency l living c.requires.living c.requires.inside a b d c.in_ok-count.count count names lively pending

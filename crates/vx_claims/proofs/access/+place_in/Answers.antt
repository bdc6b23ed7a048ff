use Rattle.std.proofs.Common.{◌≡◌, ◌==◌, ◌&&◌, sym, ◌∙◌}
use Rattle.vx_claims.specs.Facts.{same_operand}
use Rattle.vx_claims.proofs.Fronts.{front, other_test, place_behind, place_here, same_test}
use Rattle.vx_claims.proofs.access.+place_in.Goals as goal
use Rattle.vx_claims.proofs.access.+place_in.Goals.{then-other-array, else-other-array}

pub returns-in-Some : goal.returns-in-Some
returns-in-Some t c =
    let e = front c.args.known.now _ _ c.in-len1-up.len_at_least c.in-Placed.is in
    sym (place_behind _ _ _ _ c.args.array _ c.args.index c.in-Some.place e (sym c.place_in.ensures ∙ c.in-Some.is))

pub returns-after-other-array : goal.returns-after-other-array
returns-after-other-array t c =
    let b = c.in-Placed.other in
    let i = c.args.array in
    let e = front c.args.known.now _ _ c.in-len1-up.len_at_least c.in-Placed.is in
    let h : c.if-other-array.value_if ≡ ((b == i) && same_operand c.in-Placed.there c.args.index) = elim c.if-other-array.branch [
      | then-other-array w ↦ same_test b i _ _ w.if-other-array.true (w.value_if-is ∙ w.same_operand.ensures)
      | else-other-array w ↦ other_test b i _ _ w.if-other-array.false w.value_if-is
    ] in
    c.value_if.ensures ∙ place_here _ _ _ _ i _ c.args.index _ e (sym c.place_in.ensures ∙ c.in-None.is) h

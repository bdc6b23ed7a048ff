use Rattle.std.proofs.Common.{◌≡◌, ◌∙◌, ◌++◌, ◌∷◌, ◌<◌, ◌≤◌, [], ℕ, Bool, Vec, Global, ap, sym, length, arith}
use Rattle.vx_select.specs.Known.{told, whole}
use Rattle.vx_select.specs.Selected.{is_free}
use Rattle.vx_select.proofs.Listings.{taking_begun, taking_put, taking_skip, taking_full, taking_ended}
use Rattle.vx_select.proofs.values.free_up_to.Goals as goal
use Rattle.vx_select.proofs.values.free_up_to.Goals.{then-is_free+in_ok-push, else-is_free}

pub loop-value-init : goal.loop-value-init
loop-value-init c = taking_begun (is_free (told c.args.known.now) c.args.graph.now (whole c.args.graph.now c.args.corners.now)) (length c.args.graph.now.banks) c.args.most c.new-free.result.items c.new-free.ensures.items

pub returns-then-len-most : goal.returns-then-len-most
returns-then-len-most c =
    let p : ℕ → Bool = is_free (told c.args.known.now) c.args.graph.now (whole c.args.graph.now c.args.corners.now) in
    let h : c.args.most ≤ length c.loop-value.free.items = (let a = c.len.ensures in let b = c.if-len-most.true in omega arith) in
    taking_full p (length c.args.graph.now.banks) c.args.most c.loop-value.value c.loop-value.free.items c.loop-value.invariant h

pub loop-value-preserved : goal.loop-value-preserved
loop-value-preserved c =
    let p : ℕ → Bool = is_free (told c.args.known.now) c.args.graph.now (whole c.args.graph.now c.args.corners.now) in
    let more : length c.loop-value.free.items < c.args.most = (let a = c.len.ensures in let b = c.if-len-most.false in omega arith) in
    let there : c.loop-value.value < length c.args.graph.now.banks = (let a = c.loop-value-test.true in let b = c.len-value-end.ensures.len in omega arith) in
    elim c.if-is_free.branch [
      | then-is_free+in_ok-push w ↦
          let q : c.if-is_free.free.items ≡ c.loop-value.free.items ++ c.loop-value.value ∷ [] = ap (λ (v : Vec ℕ Global). v.items) w.free-is ∙ w.in_ok-push.ensures.items in
          taking_put p (length c.args.graph.now.banks) c.args.most c.loop-value.value c.loop-value.free.items c.loop-value.invariant c.if-is_free.free.items there more (sym c.is_free.ensures ∙ w.if-is_free.true) q
      | else-is_free w ↦
          let q : c.if-is_free.free.items ≡ c.loop-value.free.items = ap (λ (v : Vec ℕ Global). v.items) w.free-is in
          taking_skip p (length c.args.graph.now.banks) c.args.most c.loop-value.value c.loop-value.free.items c.loop-value.invariant c.if-is_free.free.items there (sym c.is_free.ensures ∙ w.if-is_free.false) q
    ]

pub returns : goal.returns
returns c =
    let h : length c.args.graph.now.banks ≤ c.loop-value.value = (let a = c.loop-value-test.false in let b = c.len-value-end.ensures.len in omega arith) in
    taking_ended (is_free (told c.args.known.now) c.args.graph.now (whole c.args.graph.now c.args.corners.now)) (length c.args.graph.now.banks) c.args.most c.loop-value.value c.loop-value.free.items c.loop-value.invariant h

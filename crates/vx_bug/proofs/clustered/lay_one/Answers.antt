use Rattle.std.proofs.Common.{◌≡◌, ◌<◌, ◌∙◌, [], ℕ, Option, Some, None, List, Result, Ok, Err, OnOk, if◌then◌else◌, length, slice_get, slice_index_or, sym, ap, subst}
use Rattle.std.proofs.lemmas.Option.{slice_get-get_or}
use Rattle.vx_flow.specs.declared.trace.TraceOp.{TraceOp}
use Rattle.vx_flow.specs.declared.trace.Trace.{Trace}
use Rattle.vx_dep.specs.Delays.{Stands}
use Rattle.vx_bug.specs.declared.cluster_copies.Standings.{Standings}
use Rattle.vx_bug.specs.declared.served.Served.{Served}
use Rattle.vx_bug.specs.Copies.{with_its_copies, served_behind}
use Rattle.vx_bug.specs.Laying.{Adds, served_at, IsLaidOne}
use Rattle.vx_bug.specs.Ledgers.{homes_in}
use Rattle.vx_bug.proofs.clustered.lay_one.Goals as goal

laid_one : {A E : Type 0} (result : Result A E) (t : Trace) (homes : ℕ → Option ℕ) (chosen : List ℕ) (fixed : List (Option ℕ)) (i : ℕ) (served passed behind : List Served) (old new : Standings) (op : TraceOp) →
    slice_get t.ops i ≡ Some op → fixed ≡ t.fixed → passed ≡ served_at t i served →
    OnOk result (Adds old new (with_its_copies t.values homes passed op (slice_index_or chosen i 0) (slice_index_or fixed i None))) →
    OnOk result (behind ≡ served_behind homes passed op (slice_index_or chosen i 0) (slice_index_or fixed i None)) →
    OnOk result (IsLaidOne t homes chosen i served behind old new)
laid_one (Err e) t homes chosen fixed i served passed behind old new op at f p a b = tt
laid_one (Ok x) t homes chosen fixed i served passed behind old new op at f p a b =
    let k = slice_index_or chosen i 0 in
    let same : (x : TraceOp) → Stands t i x → op ≡ x = λ x s. let e : Some op ≡ Some x = sym at ∙ s in cc in
    record {
      adds = λ x s. subst (λ z. Adds old new (with_its_copies t.values homes (served_at t i served) z k (slice_index_or t.fixed i None))) (same x s)
          (subst (λ z. Adds old new (with_its_copies t.values homes z op k (slice_index_or t.fixed i None))) p
          (subst (λ (z : List (Option ℕ)). Adds old new (with_its_copies t.values homes passed op k (slice_index_or z i None))) f a));
      serves = λ x s. b ∙ ap (λ (z : List (Option ℕ)). served_behind homes passed op k (slice_index_or z i None)) f ∙ ap (λ z. served_behind homes z op k (slice_index_or t.fixed i None)) p
          ∙ ap (λ z. served_behind homes (served_at t i served) z k (slice_index_or t.fixed i None)) (same x s);
    }

pub returns : goal.returns
returns c =
    let i = c.args.place in
    let op = c.index-as_slice-place.result in
    let ops = c.as_slice.result.now in
    let inside : i < length ops = subst (λ (z : List TraceOp). i < length z) (sym c.as_slice.ensures) c.requires.place in
    let at : slice_get c.args.trace.now.ops i ≡ Some op = ap (λ (z : List TraceOp). slice_get z i) (sym c.as_slice.ensures) ∙ slice_get-get_or ops i op inside ∙ ap Some (sym c.index-as_slice-place.is) in
    laid_one c.stand.result c.args.trace.now (homes_in c.args.homes.now) c.args.chosen.now c.as_slice-2.result.now i c.args.served.now.items c.pass_join.new.served.items c.stand.new.served.items c.args.out.now c.stand.new.out op
    at c.as_slice-2.ensures (c.pass_join.ensures ∙ ap (λ b. if b then [] else c.args.served.now.items) c.is_join.ensures) c.stand.ensures.adds c.stand.ensures.served

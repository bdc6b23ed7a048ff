use Rattle.std.proofs.Common.{◌≡◌, ◌∙◌, ℕ, Option, Some, None, List, Result, Ok, Err, IfOk, slice_get, slice_index_or, sym, ap, subst}
use Rattle.std.proofs.lemmas.Bool.{ltb-true, ltb-false}
use Rattle.std.proofs.lemmas.Option.{slice_get-get_or, slice_get_past}
use Rattle.vx_flow.specs.declared.trace.TraceOp.{TraceOp}
use Rattle.vx_flow.specs.declared.trace.Trace.{Trace}
use Rattle.vx_isa.specs.Numbers.{Numbers}
use Rattle.vx_dep.specs.Delays.{Stands}
use Rattle.vx_bug.specs.declared.cluster_choice.Chosen.{Chosen}
use Rattle.vx_bug.specs.Clusters.{Books, IsBest, after_turn, estimate_of}
use Rattle.vx_bug.specs.Choices.{TurnTaken}
use Rattle.vx_bug.specs.Ledgers.{books_of}
use Rattle.vx_bug.proofs.cluster_choice.turn_at.Goals as goal

no_turn : (m : Numbers) (t : Trace) (before : Books) (i : ℕ) → slice_get t.ops i ≡ None → TurnTaken m t before i 0 0 before
no_turn m t before i at = record {
  best = λ op s. absurd (let e : None ≡ Some op = sym at ∙ s in cc);
  expected = λ op s. absurd (let e : None ≡ Some op = sym at ∙ s in cc);
  books = ap (λ o. after_turn m t before i o 0) (sym at);
}

one_turn : {E : Type 0} (result : Result Chosen E) (m : Numbers) (t : Trace) (before behind : Books) (i : ℕ) (fixed : Option ℕ) (op : TraceOp) → slice_get t.ops i ≡ Some op → fixed ≡ slice_index_or t.fixed i None →
    IfOk result (λ chosen. IsBest m t before i fixed op chosen.cluster) → IfOk result (λ chosen. chosen.estimate ≡ estimate_of m t before i op chosen.cluster) →
    IfOk result (λ chosen. behind ≡ after_turn m t before i (Some op) chosen.cluster) → IfOk result (λ chosen. TurnTaken m t before i chosen.cluster chosen.estimate behind)
one_turn (Err e) m t before behind i fixed op at f best expected books = tt
one_turn (Ok x) m t before behind i fixed op at f best expected books =
    let same : (y : TraceOp) → Stands t i y → op ≡ y = λ y s. let e : Some op ≡ Some y = sym at ∙ s in cc in
    record {
      best = λ y s. subst (λ z. IsBest m t before i (slice_index_or t.fixed i None) z x.cluster) (same y s) (subst (λ z. IsBest m t before i z op x.cluster) f best);
      expected = λ y s. expected ∙ ap (λ z. estimate_of m t before i z x.cluster) (same y s);
      books = books ∙ ap (λ o. after_turn m t before i o x.cluster) (sym at);
    }

pub returns-in-None : goal.returns-in-None
returns-in-None c =
    let i = c.args.place in
    no_turn c.args.machine.now c.args.trace.now (books_of c.args.ledger.now) i
    (ap (λ (z : List TraceOp). slice_get z i) (sym c.as_slice.ensures) ∙ slice_get_past c.as_slice.result.now i (ltb-false _ _ (sym c.in-None.ensures.lookup.0)))

pub returns-in-Some : goal.returns-in-Some
returns-in-Some c =
    let i = c.args.place in
    let op = c.in-Some.op.now in
    let l = c.in-Some.ensures.lookup in
    one_turn c.choose.result c.args.machine.now c.args.trace.now (books_of c.args.ledger.now) (books_of c.choose.new.ledger) i c.fixed_at.result op
    (ap (λ (z : List TraceOp). slice_get z i) (sym c.as_slice.ensures) ∙ slice_get-get_or c.as_slice.result.now i op (ltb-true _ _ (sym l.0)) ∙ ap Some (sym l.1))
    c.fixed_at.ensures c.choose.ensures.best c.choose.ensures.expected c.choose.ensures.books

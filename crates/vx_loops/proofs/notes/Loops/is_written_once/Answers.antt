use Rattle.std.proofs.Common.{◌≡◌, ◌∙◌, ℕ, Bool, true, false, ltb-false, ltb-true, sym, ap, arith, eqb-true, refl}
use Rattle.std.specs.Prelude.{◌&&◌, ◌==◌}
use Rattle.std.proofs.lemmas.Option.{slice_get_past}
use Rattle.vx_flow.proofs.IndexSteps.{get_some}
use Rattle.vx_loops.specs.Noted.{is_written}
use Rattle.vx_loops.proofs.Notings.{stands_past, stands_there}
use Rattle.vx_loops.proofs.notes.Loops.is_written_once.Goals as goal

pub returns-then-times-eq1 : goal.returns-then-times-eq1
returns-then-times-eq1 c =
    let row : c.deref.result.now ≡ c.args.self.now.times.items = search in
    let l = c.in-Some.ensures.lookup in
    let one : c.in-Some.times.now ≡ 1 = omega (arith, c.if-times-eq1.true) in
    let there = stands_there false c.args.self.now.times.items c.deref.result.now c.args.value c.in-Some.times.now 1 row (get_some c.deref.result.now c.args.value c.in-Some.times.now (ltb-true _ _ (sym l.0)) l.1) in
    c.is_written.ensures ∙ ap (λ z. z && is_written c.args.self.now c.args.value) (sym (ap (λ z. z == 1) one) ∙ there)

pub returns-in-None : goal.returns-in-None
returns-in-None c =
    let row : c.deref.result.now ≡ c.args.self.now.times.items = search in
    ap (λ z. z && is_written c.args.self.now c.args.value) (stands_past false c.args.self.now.times.items c.deref.result.now c.args.value 1 row (slice_get_past c.deref.result.now c.args.value (ltb-false _ _ (sym c.in-None.ensures.lookup.0))))

not_one : (x : ℕ) → (x ≡ 1 → ⊥) → (x == 1) ≡ false
not_one x other = by (x == 1) refl
  where
    by : (test : Bool) → (x == 1) ≡ test → (x == 1) ≡ false
    by false e = e
    by true e = absurd (other (eqb-true x 1 e))

pub returns-else-times-eq1 : goal.returns-else-times-eq1
returns-else-times-eq1 c =
    let row : c.deref.result.now ≡ c.args.self.now.times.items = search in
    let l = c.in-Some.ensures.lookup in
    let there = stands_there false c.args.self.now.times.items c.deref.result.now c.args.value c.in-Some.times.now 1 row (get_some c.deref.result.now c.args.value c.in-Some.times.now (ltb-true _ _ (sym l.0)) l.1) in
    let other = not_one c.in-Some.times.now (λ e. absurd (omega (arith, e, c.if-times-eq1.false))) in
    other ∙ ap (λ z. z && is_written c.args.self.now c.args.value) (sym other ∙ there)

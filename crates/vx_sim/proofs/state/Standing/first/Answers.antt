use Rattle.std.proofs.Common.{◌≡◌, ◌∙◌, to_z, of_z, w32, rules, ltb-true, ltb-false, drop, sym, ap}
use Rattle.vx_isa.specs.Machine.{first_of}
use Rattle.vx_sim.proofs.Inputs.{first_at, no_first}
use Rattle.vx_sim.proofs.state.Standing.first.Goals as goal

pub returns-in-Some : goal.returns-in-Some
returns-in-Some c =
    let row : c.deref.result.now ≡ c.args.self.now.input.items = search in
    let l = c.in-Some.ensures.lookup in
    let fit : to_z w32 (of_z w32 c.in-Some.number.now) ≡ c.in-Some.number.now = search rules in
    fit ∙ l.1 ∙ first_at c.args.self.now.taken c.deref.result.now c.in-Some.number.now (ltb-true _ _ (sym l.0)) ∙ ap (λ xs. first_of (drop c.args.self.now.taken xs)) row

pub returns-in-None : goal.returns-in-None
returns-in-None c =
    let row : c.deref.result.now ≡ c.args.self.now.input.items = search in
    no_first c.args.self.now.taken c.deref.result.now (ltb-false _ _ (sym c.in-None.ensures.lookup.0)) ∙ ap (λ xs. first_of (drop c.args.self.now.taken xs)) row

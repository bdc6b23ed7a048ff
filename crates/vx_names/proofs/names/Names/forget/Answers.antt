use Rattle.std.proofs.Common.{ap, ◌∙◌, ◌≡◌, ◌++◌, ◌∷◌, [], ◌-◌, ◌<◌, if◌then◌else◌, List, ℕ, length, drop, reverse, arith}
use Rattle.std.specs.Vec.{vec_len}
use Rattle.vx_ast.specs.Scopes.{Environment, Known, same_name, predeclared, known_of}
use Rattle.vx_names.specs.Agrees.{known_in}
use Rattle.vx_names.specs.Entries.{entry_of}
use Rattle.vx_names.proofs.Agreeing.{agrees_along, agrees_popped, known_count, known_rest}
use Rattle.vx_names.proofs.Lists.{last_item}
use Rattle.vx_names.proofs.names.Names.forget.Goals as goal

last_is : (c : goal.Joined-pop) → c.self.inside.locals.items ≡ c.pop.new.self.items ++ c.index-last.result.now ∷ []
last_is c =
    let n : vec_len c.self.inside.locals ≡ length c.self.inside.locals.items = c.self.inside.locals.ok.0 in
    let some : 0 < length c.self.inside.locals.items = omega (arith, c.requires, ap (λ (e : Environment). length e.locals) c.self.view_is, known_count c.self.inside.locals.items) in
    last_item c.self.inside.locals.items c.pop.new.self.items c.index-last.result.now (c.len.result - 1) (vec_len c.self.inside.locals - 1) some (omega (arith, c.len.ensures)) (omega (arith, n)) c.index-last.ensures c.pop.ensures.rest

pub invariant_of-self-2 : goal.invariant_of-self-2
invariant_of-self-2 c = (
  agrees_popped _ _ c.self.inside.locals.items c.pop.new.self.items c.index-last.result.now _ (last_is c) c.self.invariant.0
      (λ x. c.in_ok-put.ensures.ok x ∙ ap (λ (z : List ℕ). if same_name x z then c.index-last.result.now.before else entry_of x c.self.inside.table.entries.entries) c.as_slice.ensures),
  c.self.invariant.1,
)

-- one name fewer
fewer_known : (env now : Environment) (ks : List Known) → env ≡ now → ks ≡ drop 1 env.locals → record env { locals = ks } ≡ record now { locals = drop 1 now.locals }
fewer_known env now ks e h = ap (λ (z : List Known). record env { locals = z }) h ∙ ap (λ (z : Environment). record z { locals = drop 1 z.locals }) e

pub returns : goal.returns
returns c = fewer_known _ c.args.self.now (known_in (reverse c.pop.new.self.items)) c.self.view_is (known_rest c.self.inside.locals.items c.pop.new.self.items c.index-last.result.now (last_is c))

pub invariant_of-self : goal.invariant_of-self
invariant_of-self c = (
  agrees_along (λ x. entry_of x c.self.inside.table.entries.entries) (λ x. entry_of x c.put.new.self.entries.entries) (reverse c.self.inside.locals.items) (predeclared ++ known_of c.self.inside.above c.self.inside.names) c.self.invariant.0 c.in_err-put.ensures.err,
  c.self.invariant.1,
)

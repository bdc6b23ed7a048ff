use Rattle.std.proofs.Common.{◌≡◌, ◌<◌, ◌+◌, ap, sym, subst, ◌∙◌, ◌++◌, List, ℕ, length, take}
use Rattle.vx_ast.specs.declared.names.FileName.{FileName}
use Rattle.vx_ast.specs.Scopes.{Environment, Known, find, predeclared, known_of}
use Rattle.vx_names.specs.Agrees.{Sees}
use Rattle.vx_names.specs.Entries.{entry_of}
use Rattle.vx_names.proofs.Agreeing.{agrees_alone, sees_along}
use Rattle.vx_names.proofs.names.Names.pass.Goals as goal

pub invariant_of-result : goal.invariant_of-result
invariant_of-result c =
    let n : c.in_ok-more.more ≡ c.self.inside.above + 1 = c.in_ok-more.ensures.more in (
      agrees_alone _ c.self.inside.locals.items _ (ap (λ (e : Environment). e.locals) c.self.view_is ∙ c.requires.empty)
          (λ x. c.in_ok-more.ensures.known x ∙ ap (λ (z : List FileName). find x (predeclared ++ known_of (c.self.inside.above + 1) z)) c.as_slice.ensures ∙ ap (λ (k : ℕ). find x (predeclared ++ known_of k c.self.inside.names)) (sym n)),
      sees_along _ _ _ (ap (λ (z : List FileName). take (c.self.inside.above + 1) z) c.as_slice.ensures ∙ ap (λ (k : ℕ). take k c.self.inside.names) (sym n)) c.in_ok-more.ensures.sees,
    )

pub pass_name-requires-clause-there : goal.pass_name-requires-clause-there
pass_name-requires-clause-there c =
    subst (λ (z : List FileName). c.self.inside.above < length z) (sym c.as_slice.ensures)
    (subst (λ (e : Environment). e.above < length e.names) (sym c.self.view_is) c.requires.there)

pub pass_name-requires-clause-known : goal.pass_name-requires-clause-known
pass_name-requires-clause-known c =
    let file = predeclared ++ known_of c.self.inside.above c.self.inside.names in
    λ x. c.self.invariant.0.table_says x
    ∙ ap (λ (k : List Known). find x (k ++ file)) (ap (λ (e : Environment). e.locals) c.self.view_is ∙ c.requires.empty)
    ∙ ap (λ (z : List FileName). find x (predeclared ++ known_of c.self.inside.above z)) (sym c.as_slice.ensures)

pub pass_name-requires-clause-sees : goal.pass_name-requires-clause-sees
pass_name-requires-clause-sees c =
    subst (λ (z : List FileName). Sees (λ x. entry_of x c.self.inside.seen.entries.entries) (take c.self.inside.above z)) (sym c.as_slice.ensures) c.self.invariant.1

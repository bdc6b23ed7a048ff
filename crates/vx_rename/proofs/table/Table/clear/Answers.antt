use Rattle.std.proofs.Common.{◌∙◌, ◌+◌, List, ℕ, ap, subst, sym}
use Rattle.vx_rename.specs.Renaming.{nowhere}
use Rattle.vx_rename.specs.Making.{Numbered, AreNumbers, name_in, standing}
use Rattle.vx_rename.proofs.Making.{cleared_by, numbers_cleared}
use Rattle.vx_rename.proofs.table.Table.clear.Goals as goal

pub invariant_of-self : goal.invariant_of-self
invariant_of-self c =
    let last : ℕ = c.self.inside.last in
    subst (λ (given : List ℕ). AreNumbers c.self.inside.had.items given (last + 1)) (sym (c.in_ok-given.ensures.items_if_clones_equal (λ y e. e)))
    (numbers_cleared c.self.inside.had.items c.self.inside.given.items last c.args.new_values c.self.invariant)

pub returns : goal.returns
returns c _ =
    let names : List ℕ = c.self.inside.names.items in
    let had : List ℕ = c.self.inside.had.items in
    let last : ℕ = c.self.inside.last in
    ap (λ (given : List ℕ). standing (record { names = names; had = had; given = given; last = last + 1 })) (c.in_ok-given.ensures.items_if_clones_equal (λ y e. e))
    ∙ cleared_by names had c.self.inside.given.items last c.args.new_values c.self.invariant
    ∙ ap (λ (r : Numbered). nowhere (name_in r.names)) c.self.view_is

use Rattle.std.proofs.Common.{◌≡◌, ◌++◌, ◌∷◌, [], None, ◌∙◌, ap, rules}
use Rattle.vx_bug.specs.Ledgers.{homes_in}
use Rattle.vx_bug.proofs.Giving.{longer}
use Rattle.vx_bug.proofs.homes.lengthen.Goals as goal

pub grow-preserved : goal.grow-preserved
grow-preserved c =
    let e : c.push.new.self.items ≡ c.grow.homes.items ++ None ∷ [] = search rules in
    ap homes_in e ∙ longer c.grow.homes.items ∙ c.grow.invariant

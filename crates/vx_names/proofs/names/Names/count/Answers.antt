use Rattle.std.proofs.Common.{length, ap, sym, ◌∙◌, List}
use Rattle.vx_ast.specs.Scopes.{Environment}
use Rattle.vx_names.specs.declared.local.Local.{Local}
use Rattle.vx_names.proofs.Agreeing.{known_count}
use Rattle.vx_names.proofs.names.Names.count.Goals as goal

pub returns : goal.returns
returns c =
    let e = known_count c.self.inside.locals.items in
    let v = ap (λ (e : Environment). length e.locals) c.self.view_is in
    let s = ap (λ (z : List Local). length z) c.as_slice.ensures.value in
    s ∙ sym e ∙ v

use Rattle.std.proofs.Common.{◌≡◌, ℕ, List, subst}
use Rattle.std.specs.Prelude.{OnOk}
use Rattle.vx_gen.proofs.Pieces.{whole_call}
use Rattle.vx_gen.proofs.source.push_call.Goals as goal

pub returns : goal.returns
returns c = subst (λ (l : List ℕ). OnOk c.push_bytes.result (c.push_bytes.new.out.items ≡ l)) (whole_call c.args.number _ _ _ _ c.in_ok-push_printed.ensures c.in_ok-push_number.ensures c.in_ok-push_arguments.ensures) c.push_bytes.ensures

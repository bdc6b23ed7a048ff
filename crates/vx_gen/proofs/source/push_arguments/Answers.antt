use Rattle.std.proofs.Common.{◌≡◌, ℕ, List, subst}
use Rattle.std.specs.Prelude.{OnOk}
use Rattle.vx_gen.proofs.Pieces.{all_arguments}
use Rattle.vx_gen.proofs.source.push_arguments.Goals as goal

pub returns : goal.returns
returns c = subst (λ (l : List ℕ). OnOk c.push_bytes-3.result (c.push_bytes-3.new.out.items ≡ l)) (all_arguments c.args.number _ _ _ _ _ c.in_ok-push_bytes.ensures c.in_ok-push_number.ensures c.in_ok-push_bytes-2.ensures c.in_ok-push_number-2.ensures) c.push_bytes-3.ensures

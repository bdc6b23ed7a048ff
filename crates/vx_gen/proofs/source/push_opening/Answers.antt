use Rattle.std.proofs.Common.{◌≡◌, ℕ, List, subst}
use Rattle.std.specs.Prelude.{OnOk}
use Rattle.vx_gen.proofs.Pieces.{opened}
use Rattle.vx_gen.proofs.source.push_opening.Goals as goal

pub returns : goal.returns
returns c = subst (λ (l : List ℕ). OnOk c.push_bytes-2.result (c.push_bytes-2.new.out.items ≡ l)) (opened c.args.number _ _ _ c.in_ok-push_bytes.ensures c.in_ok-push_number.ensures) c.push_bytes-2.ensures

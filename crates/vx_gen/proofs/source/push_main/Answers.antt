use Rattle.std.proofs.Common.{◌≡◌, ℕ, List, subst}
use Rattle.std.specs.Prelude.{OnOk}
use Rattle.vx_gen.proofs.Pieces.{whole_main}
use Rattle.vx_gen.proofs.source.push_main.Goals as goal

pub returns : goal.returns
returns c = subst (λ (l : List ℕ). OnOk c.push_bytes.result (c.push_bytes.new.out.items ≡ l)) (whole_main c.args.size _ _ _ _ c.in_ok-push_main_opening.ensures c.in_ok-push_calls.ensures c.count_of_functions.ensures.number) c.push_bytes.ensures

use Rattle.std.proofs.Common.{rules}
use Rattle.std.proofs.lemmas.List.Sorted.{IsNonDecreasingBy-from_sort_by_key}
use Rattle.vx_sched.specs.declared.height_order.Ranked.{Ranked}
use Rattle.vx_sched.proofs.height_order.sort_ranks.Goals as goal

pub returns : goal.returns
returns c = record { sorted = IsNonDecreasingBy-from_sort_by_key (λ (r : Ranked). r.rank) _ c.sort_unstable_by_key.ensures.sorted (λ a r q k. search rules); same = search rules }

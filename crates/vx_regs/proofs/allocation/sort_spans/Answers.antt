use Rattle.std.proofs.Common.{rules}
use Rattle.std.proofs.lemmas.List.Sorted.{IsNonDecreasingBy-from_sort_by_key}
use Rattle.vx_regs.specs.Filed.{span_key}
use Rattle.vx_regs.proofs.allocation.sort_spans.Goals as goal

pub returns : goal.returns
returns c = record { sorted = IsNonDecreasingBy-from_sort_by_key span_key _ c.sort_unstable_by_key.ensures.sorted (λ a r q k. search rules); same = search rules }

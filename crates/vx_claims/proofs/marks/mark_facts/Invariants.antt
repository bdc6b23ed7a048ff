use Rattle.std.proofs.Common.{◌≡◌, drop}
use Rattle.vx_claims.specs.Marking.{all_marked, name_marked, read_marked, link_marked}
use Rattle.vx_claims.proofs.marks.mark_facts.Given as goal

abbrev pub invariant-loop-fact : goal.invariant-loop-fact
invariant-loop-fact l = record {
  named : all_marked name_marked (drop l.fact-index l.facts) l.marks.named.items ≡ all_marked name_marked l.facts l.initial.marks.named.items;
  read : all_marked read_marked (drop l.fact-index l.facts) l.marks.read.items ≡ all_marked read_marked l.facts l.initial.marks.read.items;
  linked : all_marked link_marked (drop l.fact-index l.facts) l.marks.linked.items ≡ all_marked link_marked l.facts l.initial.marks.linked.items;
}

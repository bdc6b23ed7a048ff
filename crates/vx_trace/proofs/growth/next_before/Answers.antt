use Rattle.std.proofs.Common.{◌≡◌, subst}
use Rattle.vx_flow.specs.Walk.{edge}
use Rattle.vx_trace.specs.Growing.{IsFree, Linked}
use Rattle.vx_trace.proofs.Unique.{greatest_one}
use Rattle.vx_trace.proofs.growth.next_before.Goals.{else-is_free-via-then-is_free+else-is_linked_back, else-is_free-via-else-is_free}
use Rattle.vx_trace.proofs.growth.next_before.Goals as goal

pub returns-in-None : goal.returns-in-None
returns-in-None c = λ b h. c.in-None.ensures b h.1.into

pub returns-then-is_linked_back : goal.returns-then-is_linked_back
returns-then-is_linked_back c = (
  (c.is_free.ensures.holds c.if-is_free.true, c.is_linked_back.ensures.holds c.if-is_linked_back.true),
  λ b h. greatest_one (edge b c.args.first) (edge c.in-Some.next c.args.first) h.1.into c.in-Some.ensures,
)

pub returns-else-is_free : goal.returns-else-is_free
returns-else-is_free c = λ b h.
    let same : b ≡ c.in-Some.next = greatest_one (edge b c.args.first) (edge c.in-Some.next c.args.first) h.1.into c.in-Some.ensures in
    elim c.else-is_free.branch [
      | else-is_free-via-then-is_free+else-is_linked_back w ↦ w.is_linked_back.ensures.fails w.if-is_linked_back.false (subst (λ z. Linked c.args.mixed.now c.args.counts.now (edge z c.args.first)) same h.1)
      | else-is_free-via-else-is_free w ↦ c.is_free.ensures.fails w.if-is_free.false (subst (IsFree c.args.mixed.now c.args.blocks.now) same h.0)
    ]

use Rattle.std.proofs.Common.{None, subst, sym}
use Rattle.vx_flow.specs.declared.graph.Flow.{Flow}
use Rattle.vx_inline.specs.declared.site.Site.{Site}
use Rattle.vx_inline.specs.Repeating.{InlinesAll}
use Rattle.vx_inline.specs.Choosing.{Chosen, IsCandidate, IsChosen}
use Rattle.vx_inline.proofs.FlowSound.{inlined_sound}
use Rattle.vx_inline.proofs.Stepping.{chosen_permitted, kept_last, kept_next}
use Rattle.vx_inline.proofs.inlined_flow.inlined_all.Goals as goal

pub next_state-requires-clause-permitted : goal.next_state-requires-clause-permitted
next_state-requires-clause-permitted c =
    let first : IsChosen c.sites.now.flow c.args.counts.now c.args.most c.in-Some.site = subst (Chosen c.sites.now.flow c.args.counts.now c.args.most) c.in-Some.is c.in_ok-site.ensures.chosen in
    chosen_permitted c.sites.now.flow c.args.counts.now c.args.most c.in-Some.site first

pub sites-preserved : goal.sites-preserved
sites-preserved c =
    let first : IsChosen c.sites.now.flow c.args.counts.now c.args.most c.in-Some.site = subst (Chosen c.sites.now.flow c.args.counts.now c.args.most) c.in-Some.is c.in_ok-site.ensures.chosen in
    let sound = inlined_sound c.sites.now.flow c.in_ok-now-in-Some.now.flow c.in-Some.site c.sites.invariant.kept.sound c.in_ok-now-in-Some.ensures.inlined in
    record {
      kept = kept_next c.args.counts.now c.args.most c.args.flow c.sites.now.flow c.in_ok-now-in-Some.now.flow c.in-Some.site c.sites.invariant.kept first c.in_ok-now-in-Some.ensures.inlined sound;
      known = c.in_ok-now-in-Some.ensures.known;
      calls = c.in_ok-now-in-Some.ensures.calls;
    }

pub returns-in-None-clause-all : goal.returns-in-None-clause-all
returns-in-None-clause-all c =
    let none : Chosen c.sites.now.flow c.args.counts.now c.args.most None = subst (Chosen c.sites.now.flow c.args.counts.now c.args.most) c.in-None.is c.in_ok-site.ensures.chosen in
    subst (InlinesAll c.args.counts.now c.args.most c.args.flow) (sym c.flow_of.ensures) (kept_last c.args.counts.now c.args.most c.args.flow c.sites.now.flow c.sites.invariant.kept none)

pub returns-in-None-clause-none : goal.returns-in-None-clause-none
returns-in-None-clause-none c =
    let none : Chosen c.sites.now.flow c.args.counts.now c.args.most None = subst (Chosen c.sites.now.flow c.args.counts.now c.args.most) c.in-None.is c.in_ok-site.ensures.chosen in
    subst (λ (flow : Flow). (site : Site) → IsCandidate flow c.args.most site → ⊥) (sym c.flow_of.ensures) none

use Rattle.std.proofs.Common.{ap, ◌∙◌}
use Rattle.vx_flow.specs.declared.graph.Block.{Block}
use Rattle.vx_flow.specs.declared.graph.Exit.TheVariants.{Ends}
use Rattle.vx_lower.specs.Builds.{filled}
use Rattle.vx_lower.proofs.Building.{guards_is}
use Rattle.vx_lower.proofs.builder.Builder.guard.Goals as goal

pub returns-clause-code : goal.returns-clause-code
returns-clause-code c = guards_is c.args.self.now c.branch-self.new.self c.fill.new.self c.args.op c.args.test c.args.trap c.in_ok-no.no c.in_ok-no.ensures.code (c.fill.ensures ∙ ap (λ ops. let o : Block = record { ops = ops; exit = Ends c.args.trap } in filled c.branch-self.new.self c.in_ok-no.no o) c.new.ensures)

pub returns-clause-steps : goal.returns-clause-steps
returns-clause-steps c = record {
  n = c.in_ok-no.no;
  middle = c.branch-self.new.self;
  forked = c.in_ok-no.ensures.steps;
  is = c.fill.ensures ∙ ap (λ ops. let o : Block = record { ops = ops; exit = Ends c.args.trap } in filled c.branch-self.new.self c.in_ok-no.no o) c.new.ensures;
}

use Rattle.std.proofs.Common.{◌≡◌, ◌<◌, ◌++◌, ◌∷◌, [], sym, ◌∙◌, ap, arith, rules, nat_eq, false}
use Rattle.std.specs.List.{list_any}
use Rattle.vx_bug.specs.Tasks.{all_done}
use Rattle.vx_bug.specs.declared.order.Task.TheVariants.{Leave}
use Rattle.vx_bug.proofs.Visiting.{visit_none, visit_listed}
use Rattle.vx_bug.proofs.Tasks.{entered, entered_fewer, fewer}
use Rattle.vx_bug.proofs.order.enter.Goals as goal

pub returns-then-depth-eq0 : goal.returns-then-depth-eq0
returns-then-depth-eq0 c = record {
  done = ap (all_done c.args.trace.now c.args.tasks.now.items) (sym (visit_none c.args.trace.now c.args.depth c.args.place c.args.order.now c.if-depth-eq0.true));
  fewer = fewer c.args.depth _;
}

pub returns-then-is_listed : goal.returns-then-is_listed
returns-then-is_listed c = record {
  done = ap (all_done c.args.trace.now c.args.tasks.now.items) (sym (visit_listed c.args.trace.now c.args.depth c.args.place c.args.order.now (sym c.is_listed.ensures ∙ c.if-is_listed.true)));
  fewer = fewer c.args.depth _;
}

pub returns : goal.returns
returns c =
    let new : list_any (nat_eq c.args.place) c.args.order.now ≡ false = sym c.is_listed.ensures ∙ c.if-is_listed.false in
    let some : 0 < c.args.depth = omega arith in
    let pushed : c.push.new.self.items ≡ c.args.tasks.now.items ++ Leave c.args.place ∷ [] = search rules in
    record {
      done = entered c.args.trace.now c.args.depth c.args.place c.args.order.now c.args.tasks.now.items c.push.new.self.items c.enter_writers.new.tasks.items some new pushed c.in_ok-enter_writers.ensures.tasks;
      fewer = entered_fewer c.args.depth c.args.place c.args.tasks.now.items c.push.new.self.items c.enter_writers.new.tasks.items some pushed c.in_ok-enter_writers.ensures.few;
    }

use Rattle.vx_dep.proofs.Nearby.{one_near}
use Rattle.vx_dep.proofs.near.collect_one.Goals as goal

pub returns-in_ok-push-in-Some : goal.returns-in_ok-push-in-Some
returns-in_ok-push-in-Some c = one_near c.args.sight.now.keys c.args.b.now c.args.place c.args.places.now.items c.push.new.self.items c.in_ok-push-in-Some.ensures.items

use Rattle.vx_profile.proofs.Pushing.{edge_pushed}
use Rattle.vx_profile.proofs.count_writer.push_edge.Goals as goal

pub returns : goal.returns
returns c =
    edge_pushed c.args.out.now.items c.extend_from_slice.new.self.items c.push_name.new.out.items c.push_name-2.new.out.items c.push_name-3.new.out.items c.push_number.new.out.items c.extend_from_slice-2.new.self.items c.args.function c.args.from c.args.to c.args.count
    c.in_ok-extend_from_slice.ensures.items c.in_ok-push_name.ensures c.in_ok-push_name-2.ensures c.in_ok-push_name-3.ensures c.in_ok-push_number.ensures c.in_ok-extend_from_slice-2.ensures.items

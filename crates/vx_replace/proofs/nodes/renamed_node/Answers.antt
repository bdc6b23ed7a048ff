use Rattle.std.proofs.Common.{◌≡◌, ◌∙◌, ℕ, List, sym, ap}
use Rattle.vx_flow.specs.declared.graph.Block.{Block}
use Rattle.vx_flow.specs.declared.graph.Exit.{Exit}
use Rattle.vx_flow.specs.declared.graph.Op.{Op}
use Rattle.vx_mixed.specs.declared.region.Node.{Node}
use Rattle.vx_mixed.specs.declared.region.Node.TheVariants.{Unused}
use Rattle.vx_mixed.specs.Next.{new_end, renamed_exit, renamed_node}
use Rattle.vx_replace.proofs.nodes.renamed_node.Goals as goal

unused_is : (to : ℕ → ℕ → ℕ) (b : ℕ) (node : Node) (block : Block) (ops : List Op) (exit : Exit) → node ≡ Unused block → ops ≡ block.ops → exit ≡ renamed_exit (to b) block.exit → Unused (record { ops = ops; exit = exit }) ≡ renamed_node to b node
unused_is to b node block ops exit n o x = ap (λ z. Unused (record { ops = z; exit = exit })) o ∙ ap (λ z. Unused (record block { exit = z })) x ∙ ap (renamed_node to b) (sym n)

pub returns-in_ok-exit-in-Unused : goal.returns-in_ok-exit-in-Unused
returns-in_ok-exit-in-Unused c =
    unused_is (new_end c.args.graph.now c.args.replacement.now.made) c.args.block c.args.node.now c.in-Unused.unused c.in_ok-ops-in-Unused.ops c.in_ok-exit-in-Unused.exit c.in-Unused.is (c.in_ok-ops-in-Unused.ensures ∙ c.as_slice.ensures) c.in_ok-exit-in-Unused.ensures

pub returns-in-Enters : goal.returns-in-Enters
returns-in-Enters c = ap (renamed_node (new_end c.args.graph.now c.args.replacement.now.made) c.args.block) (sym c.in-Enters.is)

pub returns-in-Inner : goal.returns-in-Inner
returns-in-Inner c = ap (renamed_node (new_end c.args.graph.now c.args.replacement.now.made) c.args.block) (sym c.in-Inner.is)

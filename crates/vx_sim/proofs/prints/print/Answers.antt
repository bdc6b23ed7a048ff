use Rattle.std.proofs.Common.{◌≡◌, List, ℕ, OnOk, OnErr, [], subst}
use Rattle.vx_io.specs.Outside.{with_bytes, PutsFront}
use Rattle.vx_sim.specs.Standing.{state_of}
use Rattle.vx_sim.proofs.Touching.{no_text}
use Rattle.vx_sim.proofs.prints.print.Goals as goal

pub returns-then-memory-eq0-clause-all : goal.returns-then-memory-eq0-clause-all
returns-then-memory-eq0-clause-all g c =
    subst (λ (bytes : List ℕ). OnOk c.put_all.result (g.K.Sink.told c.put_all.new.out ≡ with_bytes (g.K.Sink.told c.args.out.now) bytes)) (no_text c.args.memory c.args.program.now (state_of c.args.now.now []) c.args.ops.now c.requires c.if-memory-eq0.true) c.put_all.ensures.all

pub returns-then-memory-eq0-clause-front : goal.returns-then-memory-eq0-clause-front
returns-then-memory-eq0-clause-front g c =
    subst (λ (bytes : List ℕ). OnErr c.put_all.result (PutsFront (g.K.Sink.told c.args.out.now) (g.K.Sink.told c.put_all.new.out) bytes)) (no_text c.args.memory c.args.program.now (state_of c.args.now.now []) c.args.ops.now c.requires c.if-memory-eq0.true) c.put_all.ensures.front

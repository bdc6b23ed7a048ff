use Rattle.std.proofs.Common.{◌≡◌, List, ℕ, OnOk, OnErr, [], sym, subst}
use Rattle.vx_io.specs.Outside.{with_bytes, PutsFront}
use Rattle.vx_sim.specs.Standing.{state_of}
use Rattle.vx_sim.proofs.Printing.{text_named, no_text_named}
use Rattle.vx_sim.proofs.prints.print_one.Goals as goal

pub returns-in-Some-clause-all : goal.returns-in-Some-clause-all
returns-in-Some-clause-all g c =
    let l = c.in-Some.ensures.lookup in
    let text = text_named c.args.program.now (state_of c.args.now.now []) c.args.op.now c.in-OutText.text c.as_slice.result.now c.in-OutText.is c.as_slice.ensures c.in-Some.bytes.now c.as_slice-in-Some.result.now (sym l.0) l.1 c.as_slice-in-Some.ensures in
    subst (λ (bytes : List ℕ). OnOk c.put_all.result (g.K.Sink.told c.put_all.new.out ≡ with_bytes (g.K.Sink.told c.args.out.now) bytes)) text c.put_all.ensures.all

pub returns-in-Some-clause-front : goal.returns-in-Some-clause-front
returns-in-Some-clause-front g c =
    let l = c.in-Some.ensures.lookup in
    let text = text_named c.args.program.now (state_of c.args.now.now []) c.args.op.now c.in-OutText.text c.as_slice.result.now c.in-OutText.is c.as_slice.ensures c.in-Some.bytes.now c.as_slice-in-Some.result.now (sym l.0) l.1 c.as_slice-in-Some.ensures in
    subst (λ (bytes : List ℕ). OnErr c.put_all.result (PutsFront (g.K.Sink.told c.args.out.now) (g.K.Sink.told c.put_all.new.out) bytes)) text c.put_all.ensures.front

pub returns-in-None-clause-all : goal.returns-in-None-clause-all
returns-in-None-clause-all g c =
    let text = no_text_named c.args.program.now (state_of c.args.now.now []) c.args.op.now c.in-OutText.text c.as_slice.result.now c.in-OutText.is c.as_slice.ensures (sym c.in-None.ensures.lookup.0) in
    subst (λ (bytes : List ℕ). OnOk c.put_all-in-None.result (g.K.Sink.told c.put_all-in-None.new.out ≡ with_bytes (g.K.Sink.told c.args.out.now) bytes)) text c.put_all-in-None.ensures.all

pub returns-in-None-clause-front : goal.returns-in-None-clause-front
returns-in-None-clause-front g c =
    let text = no_text_named c.args.program.now (state_of c.args.now.now []) c.args.op.now c.in-OutText.text c.as_slice.result.now c.in-OutText.is c.as_slice.ensures (sym c.in-None.ensures.lookup.0) in
    subst (λ (bytes : List ℕ). OnErr c.put_all-in-None.result (PutsFront (g.K.Sink.told c.args.out.now) (g.K.Sink.told c.put_all-in-None.new.out) bytes)) text c.put_all-in-None.ensures.front

pub returns-in-Some-clause-failed : goal.returns-in-Some-clause-failed
returns-in-Some-clause-failed g c = c.put_all.ensures.failed

pub returns-in-Some-clause-faults_never_fall : goal.returns-in-Some-clause-faults_never_fall
returns-in-Some-clause-faults_never_fall g c = c.put_all.ensures.faults_never_fall

pub returns-in-None-clause-failed : goal.returns-in-None-clause-failed
returns-in-None-clause-failed g c = c.put_all-in-None.ensures.failed

pub returns-in-None-clause-faults_never_fall : goal.returns-in-None-clause-faults_never_fall
returns-in-None-clause-faults_never_fall g c = c.put_all-in-None.ensures.faults_never_fall

pub returns-in-OutDecimal-clause-failed : goal.returns-in-OutDecimal-clause-failed
returns-in-OutDecimal-clause-failed g c = c.put_all-in-OutDecimal.ensures.failed

pub returns-in-OutDecimal-clause-faults_never_fall : goal.returns-in-OutDecimal-clause-faults_never_fall
returns-in-OutDecimal-clause-faults_never_fall g c = c.put_all-in-OutDecimal.ensures.faults_never_fall

pub returns-in-OutByte-clause-failed : goal.returns-in-OutByte-clause-failed
returns-in-OutByte-clause-failed g c = c.put_all-in-OutByte.ensures.failed

pub returns-in-OutByte-clause-faults_never_fall : goal.returns-in-OutByte-clause-faults_never_fall
returns-in-OutByte-clause-faults_never_fall g c = c.put_all-in-OutByte.ensures.faults_never_fall

use Rattle.std.proofs.Common.{◌≤◌, ◌<◌, ◌∙◌, length, arith, sym}
use Rattle.std.proofs.lemmas.List.{length-set}
use Rattle.vx_loops.proofs.Notings.{again_is, past_put, write_noted, write_past}
use Rattle.vx_loops.proofs.notes.Loops.write.Goals as goal

pub returns-then-place-len-clause-notes : goal.returns-then-place-len-clause-notes
returns-then-place-len-clause-notes c = λ m w s called h.
    let there : c.args.value < length c.args.self.now.writers.items = omega (arith, c.if-place-len.true, c.len.ensures, c.args.self.now.writers.ok.0) in
    write_noted h c.args.value c.once_more.result c.args.self.now.timed there
    (again_is c.args.self.now.writers.items c.args.self.now.times.items c.args.self.now.number c.args.value c.index.result.now c.index-then-place-len.result.now c.once_more.result there c.args.self.now.timed c.index.ensures c.index-then-place-len.ensures c.once_more.ensures)

pub returns-else-place-len-clause-notes : goal.returns-else-place-len-clause-notes
returns-else-place-len-clause-notes c = λ m w s called h. let past : length c.args.self.now.writers.items ≤ c.args.value = omega (arith, c.if-place-len.false, c.len.ensures, c.args.self.now.writers.ok.0) in write_past h c.args.value past

pub returns-then-place-len-clause-tables : goal.returns-then-place-len-clause-tables
returns-then-place-len-clause-tables c = λ g t. record { members = t.members; values = length-set c.args.self.now.writers.items c.args.value c.args.self.now.number ∙ t.values; arrays = t.arrays; edges = t.edges; leads = t.leads }

pub invariant_of-self : goal.invariant_of-self
invariant_of-self c =
    let there : c.args.value < length c.args.self.now.writers.items = omega (arith, c.if-place-len.true, c.len.ensures, c.args.self.now.writers.ok.0) in
    record {
      timed = length-set c.args.self.now.times.items c.args.value c.once_more.result ∙ c.args.self.now.timed ∙ sym (length-set c.args.self.now.writers.items c.args.value c.args.self.now.number);
      members_past = c.args.self.now.members_past;
      writers_past = past_put c.args.self.now.number c.args.value c.args.self.now.writers.items there c.args.self.now.writers_past;
      stores_past = c.args.self.now.stores_past;
      calls_past = c.args.self.now.calls_past;
    }

-- none before this one has the name
use Rattle.std.proofs.Common.{◌≡◌, bytes_eq, drop, find}
use Rattle.vx_reader.specs.Forms.{form_name}
use Rattle.vx_reader.proofs.form.form_in.Given as goal

abbrev pub invariant-loop-form : goal.invariant-loop-form
invariant-loop-form l = find (λ form. bytes_eq (form_name form) l.name) (drop l.form-index l.forms) ≡ find (λ form. bytes_eq (form_name form) l.name) l.forms

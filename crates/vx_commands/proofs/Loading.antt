-- What is read and compiled for an execution, step by step.
use Rattle.std.proofs.Common.{◌≡◌, ℕ, ℤ, List, Option, Ok, IfSome, refl, sym, subst}
use Rattle.vx_io.specs.Outside.{Files}
use Rattle.vx_isa.specs.Numbers.{Numbers}
use Rattle.vx_ast.specs.Tree.{Program}
use Rattle.vx_profile.specs.declared.counts.Counts.{Counts}
use Rattle.vx_files.specs.Held.{AreCounts, DefaultUnless, EmptyUnless, Is, input_found, machine_found}
use Rattle.vx_files.proofs.ProfileFile.{stands}
use Rattle.vx_runs.specs.Simulated.{Loaded}
use Rattle.vx_commands.specs.Loading.{LoadedInput, LoadedMachine, LoadedProfile, LoadedWords}

module _ (p : Program) (counts : Counts) (growth : ℕ) (inline select : Option ℕ) (x : Loaded) where
  pub input_loaded : (machine : Numbers) (told : Option Files) (input : Option (List ℕ)) (numbers : List ℤ) → IfSome told (λ held. input_found held input ≡ Ok numbers) → EmptyUnless input numbers →
      LoadedWords p counts growth inline select machine numbers x → LoadedInput p counts growth inline select machine told input x
  input_loaded machine told input numbers found unnamed l = record {
    machine_is = l.machine_is;
    input_is = subst (λ zs. IfSome told (λ held. input_found held input ≡ Ok zs)) (sym l.input_is) found;
    unnamed = subst (EmptyUnless input) (sym l.input_is) unnamed;
    compiled = l.compiled;
  }

  pub machine_loaded : (told later : Option Files) (machine input : Option (List ℕ)) (m : Numbers) → later ≡ told → IfSome told (λ held. machine_found held machine ≡ Is m) → DefaultUnless machine m →
      LoadedInput p counts growth inline select m later input x → LoadedMachine p counts growth inline select told machine input x
  machine_loaded told later machine input m same found unnamed l = record {
    machine_is = subst (λ n. IfSome told (λ held. machine_found held machine ≡ Is n)) (sym l.machine_is) found;
    input_is = subst (λ b. IfSome b (λ held. input_found held input ≡ Ok x.input)) same l.input_is;
    defaults = record { machine_is = subst (DefaultUnless machine) (sym l.machine_is) unnamed; input_is = l.unnamed };
    compiled = l.compiled;
  }

  pub profile_loaded : (told later : Option Files) (profile machine input : Option (List ℕ)) → later ≡ told → IfSome told (λ held. AreCounts held profile counts) →
      LoadedMachine p counts growth inline select later machine input x → LoadedProfile p growth inline select told profile machine input x
  profile_loaded told later profile machine input same counted l = record {
    profiled = stands profile told counts counted;
    machine_is = subst (λ b. IfSome b (λ held. machine_found held machine ≡ Is x.machine)) same l.machine_is;
    input_is = subst (λ b. IfSome b (λ held. input_found held input ≡ Ok x.input)) same l.input_is;
    defaults = l.defaults;
    by = record { counts = counts; counted = counted; unrolled = p; turns = refl; plan = l.compiled.plan; compiled = l.compiled.compiled.compiled; rewritten = l.compiled.compiled.rewritten; faithful = l.compiled.compiled.compiled.faithful };
  }

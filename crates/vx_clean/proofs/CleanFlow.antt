-- A flow of a program stays one.
use Rattle.std.proofs.Common.{ℤ, List}
use Rattle.vx_base.specs.Outcome.{Same, NeverFails}
use Rattle.vx_base.proofs.Same.{same_on}
use Rattle.vx_ast.specs.Meaning.{source}
use Rattle.vx_flow.specs.Meaning.{graph_run}
use Rattle.vx_lower.specs.FlowOf.{AreNumbers}
use Rattle.vx_shape.specs.Flows.{with_graphs}
use Rattle.vx_clean.specs.Cleaning.{CleanedFlow}
use Rattle.vx_clean.proofs.Cleans.{cleaned_runs}

pub cleaned_flow : CleanedFlow
cleaned_flow p flow graphs at cleaned o sound count shape =
    let both : (input : List ℤ) → AreNumbers input → Same (graph_run flow input) (graph_run (with_graphs flow graphs) input) × NeverFails (graph_run (with_graphs flow graphs) input) =
    λ input numbers. cleaned_runs flow graphs at cleaned input (o.runs.never_wrong input numbers) in
    record {
      sound = sound;
      count = count;
      graphs = shape;
      globals = o.globals;
      main = o.main;
      runs = record {
        same = λ input numbers. let b = both input numbers in same_on (source p input) (graph_run flow input) (graph_run (with_graphs flow graphs) input) (o.runs.same input numbers) b.0;
        never_wrong = λ input numbers. let b = both input numbers in b.1;
      };
    }

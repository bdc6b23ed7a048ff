-- The counts are those of the graphs of the program.
use Rattle.vx_runs.proofs.counts.counted.Goals as goal

pub returns : goal.returns
returns g c = record {
  run = record { flow = c.in_ok-flow.flow; flow_of = c.in_ok-flow.ensures.flow; rewritten = c.in_ok-flow.ensures.rewritten; counts = c.in_ok-counted.counted.counts; counts_of = c.in_ok-counted.ensures.counts; ascending = c.in_ok-text.ensures.ascending };
  text_is = c.in_ok-text.ensures.text;
  ended = c.in_ok-counted.ensures.complete;
}

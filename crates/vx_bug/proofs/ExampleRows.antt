-- The worked rows, by computation.
use Rattle.std.proofs.Common.{refl}
use Rattle.vx_bug.specs.Clusters.{visit}
use Rattle.vx_bug.specs.ClustersExample.{ClustersExample}

pub example : ClustersExample
unfolding visit
example = record {
  order = refl;
  left_on_0 = refl;
  left_on_1 = refl;
  right_on_0 = refl;
  right_on_1 = refl;
  both_on_0 = refl;
  both_on_1 = refl;
  free_left_on_1 = refl;
  free_right_on_0 = refl;
  free_right_on_1 = refl;
  home_of_left = refl;
  home_of_right = refl;
  ops = refl;
  clusters = refl;
  one_copy = refl;
  two_copies = refl;
  join_moved = refl;
}

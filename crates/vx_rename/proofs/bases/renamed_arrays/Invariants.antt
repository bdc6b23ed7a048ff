-- the arrays so far and those of what is left
use Rattle.std.proofs.Common.{◌≡◌, ◌++◌, map, length}
use Rattle.vx_rename.specs.Renaming.{parameter_name, renamed_array}
use Rattle.vx_rename.proofs.bases.renamed_arrays.Given as goal

abbrev pub invariant-name : goal.invariant-name
invariant-name l = l.made ++ map (renamed_array (parameter_name l.fn.old l.fn.new)) l.rest ≡ map (renamed_array (parameter_name l.fn.old l.fn.new)) l.fn.arrays

abbrev pub decreases-name : goal.decreases-name
decreases-name l = length l.rest

-- What a running program holds, as lists, and the store of the meaning that it stands for.
use Rattle.std.specs.Prelude.{ℕ, ℤ, pos, List, slice_index_or}
use Rattle.vx_ast.specs.Meaning.{Store}

pub record Kept : Type 0 where
  -- the scalars of the active function, as many as were written
  pub scalars : List ℤ
  pub arrays : List (List ℤ)
  pub input : List ℤ
  pub out : List ℕ

-- a scalar that was never written is 0
abbrev pub scalars_of : List ℤ → ℕ → ℤ
scalars_of xs x = slice_index_or xs x (pos 0)

abbrev pub store_of : Kept → Store
store_of k = record { scalars = scalars_of k.scalars; arrays = k.arrays; input = k.input; out = k.out }

-- The lowest diamond that was found, converted, is one step; where none was found, nothing is left to do.
use Rattle.std.proofs.Common.{◌≡◌, ℕ, Bool, Option, Some, None, sym, subst}
use Rattle.vx_flow.specs.declared.graph.Graph.{Graph}
use Rattle.vx_select.specs.declared.corners.Corners.{Corners}
use Rattle.vx_select.specs.Selected.{IsLiveness, none_left, converts, converted}
use Rattle.vx_select.specs.Search.{first_diamond, IsFirst}
use Rattle.vx_select.specs.Known.{whole}
use Rattle.vx_select.specs.Step.{Step}
use Rattle.vx_select.proofs.Searched.{first_is_first}
use Rattle.vx_select.proofs.Once.{converted_shorter}

module _ (live : ℕ → ℕ → Bool) (most : ℕ) (g : Graph) (l : IsLiveness g live) where
  pub step_none : Option.None ≡ first_diamond live most g → Step most g None
  step_none e = none_left live l (subst (IsFirst live most g) (sym e) (first_is_first live most g))

  pub step_some : (c : Corners) (h : Graph) → Some (whole g c) ≡ first_diamond live most g → h ≡ converted live g (whole g c) → Step most g (Some h)
  step_some c h e q = subst (λ x. Step most g (Some x)) (sym q) (λ k s. converts live (whole g c) l first.0 first.1 s, converted_shorter live most g (whole g c) first.0)
    where
      first : IsFirst live most g (Some (whole g c))
      first = subst (IsFirst live most g) (sym e) (first_is_first live most g)

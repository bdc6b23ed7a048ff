-- The seed of a picked trace has the greatest count of its blocks.
use Rattle.std.proofs.Common.{◌≡◌, ◌≤◌, inl, inr, ℕ, List, [], ◌∷◌, refl, sym, subst, arith}
use Rattle.std.specs.Prelude.{max}
use Rattle.vx_flow.specs.Effects.{IsIn}
use Rattle.vx_flow.proofs.Members.{in_right}
use Rattle.vx_mixed.specs.declared.mixed.MixedGraph.{MixedGraph}
use Rattle.vx_profile.specs.declared.counts.Counts.{Counts}
use Rattle.vx_trace.specs.Picked.{Picked, count_of_block, greatest_count}

module _ (m : MixedGraph) (counts : Counts) where
  below : (n : ℕ) (bs : List ℕ) → ((b : ℕ) → IsIn b bs → count_of_block m counts b ≤ n) → greatest_count m counts bs ≤ n
  below n [] h = omega arith
  below n (b ∷ bs) h =
      let x : count_of_block m counts b ≤ n = h b (inl refl) in
      let y : greatest_count m counts bs ≤ n = below n bs (λ c i. h c (inr i)) in
      omega (arith, x, y)

  above : (bs : List ℕ) (b : ℕ) → IsIn b bs → count_of_block m counts b ≤ greatest_count m counts bs
  above [] b h = absurd h
  above (x ∷ bs) b (inl e) =
      let y : count_of_block m counts x ≤ max (count_of_block m counts x) (greatest_count m counts bs) = omega arith in
      subst (λ z. count_of_block m counts z ≤ greatest_count m counts (x ∷ bs)) (sym e) y
  above (x ∷ bs) b (inr h) = let y : count_of_block m counts b ≤ greatest_count m counts bs = above bs b h in omega (arith, y)

  pub seed_is_greatest : (t : List ℕ) (picked : Picked m counts t) → greatest_count m counts t ≡ count_of_block m counts picked.seed
  seed_is_greatest t picked =
      let there : IsIn picked.seed t = subst (IsIn picked.seed) (sym picked.parts) (in_right picked.seed picked.before (picked.seed ∷ picked.after) (inl refl)) in
      let low : count_of_block m counts picked.seed ≤ greatest_count m counts t = above t picked.seed there in
      let high : greatest_count m counts t ≤ count_of_block m counts picked.seed = below (count_of_block m counts picked.seed) t each in
      omega (arith, low, high)
    where
      each : (b : ℕ) → IsIn b t → count_of_block m counts b ≤ count_of_block m counts picked.seed
      each b i = elim (picked.greatest.others b (picked.path.unused b i)) [ inl lt ↦ omega (arith, lt) | inr x ↦ (let e = x.0 in omega (arith, e)) ]

-- Chains that pass the test are linked.
use Rattle.std.proofs.Common.{◌≡◌, ◌⊎◌, inl, inr, ℕ, ◌==◌, Bool, true, false, ◌&&◌, ◌||◌, List, [], ◌∷◌, slice_get, Option, Some, None, refl, sym, ap, ◌∙◌, subst}
use Rattle.std.proofs.lemmas.Bool.{eqb-true}
use Rattle.vx_flow.specs.declared.graph.Exit.{Exit}
use Rattle.vx_flow.specs.declared.graph.Exit.TheVariants.{Goto, Split, Call, Return, Ends}
use Rattle.vx_flow.specs.declared.graph.Block.{Block}
use Rattle.vx_flow.specs.Effects.{IsIn}
use Rattle.vx_flow.specs.Sound.{targets_of}
use Rattle.vx_clean.specs.Laying.{ops_at, Near, Begun, ExitLinked, Linked}
use Rattle.vx_shape.specs.ShapeTest.{is_none_left}
use Rattle.vx_clean.specs.LinkTest.{is_near, is_near_in, are_begun, is_exit_linked, is_linked_at, is_linked, LinkedWhereTested}
use Rattle.vx_shape.proofs.ShapeTests.{none_left}

both_true : (a b : Bool) → (a && b) ≡ true → (a ≡ true) × (b ≡ true)
both_true true b e = (refl, e)
both_true false b e = let d : false ≡ true = e in absurd (cc)

either_true : (a b : Bool) → (a || b) ≡ true → (a ≡ true) ⊎ (b ≡ true)
either_true true b e = inl refl
either_true false b e = inr e

never : {A : Type 0} → false ≡ true → A
never e = let d : false ≡ true = e in absurd (cc)

module _ (to : ℕ → ℕ) (blocks : List Block) (chains : List (List ℕ)) where
  near_if : (c : ℕ) (bs : List ℕ) → is_near blocks c bs ≡ true → Near blocks c bs
  near_if c [] e = never e
  near_if c (b ∷ bs) e = by (either_true (b == c) (is_none_left (ops_at (slice_get blocks b)) && is_near blocks c bs) e) (near_if c bs)
    where
      by : ((b == c) ≡ true) ⊎ ((is_none_left (ops_at (slice_get blocks b)) && is_near blocks c bs) ≡ true) → (is_near blocks c bs ≡ true → Near blocks c bs) → Near blocks c (b ∷ bs)
      by (inl h) rec = inl (eqb-true b c h)
      by (inr h) rec = let x = both_true (is_none_left (ops_at (slice_get blocks b))) (is_near blocks c bs) h in inr (none_left (ops_at (slice_get blocks b)) x.0, rec x.1)

  pub begun_if : (c : ℕ) (o : Option (List ℕ)) → slice_get chains (to c) ≡ o → is_near_in blocks c o ≡ true → Begun to blocks chains c
  begun_if c None q e = never e
  begun_if c (Some chain) q e = (chain, q, near_if c chain e)

  all_begun_if : (cs : List ℕ) → are_begun to blocks chains cs ≡ true → (c : ℕ) → IsIn c cs → Begun to blocks chains c
  all_begun_if [] e c m = absurd m
  all_begun_if (d ∷ ds) e c (inl q) = let x = both_true (is_near_in blocks d (slice_get chains (to d))) (are_begun to blocks chains ds) e in subst (Begun to blocks chains) (sym q) (begun_if d (slice_get chains (to d)) refl x.0)
  all_begun_if (d ∷ ds) e c (inr m) = let x = both_true (is_near_in blocks d (slice_get chains (to d))) (are_begun to blocks chains ds) e in all_begun_if ds x.1 c m

  exit_if : (exit : Exit) (bs : List ℕ) → is_exit_linked to blocks chains exit bs ≡ true → ExitLinked to blocks chains exit bs
  exit_if exit [] e = all_begun_if (targets_of exit) e
  exit_if (Goto c) (b ∷ bs) e = near_if c (b ∷ bs) e
  exit_if (Split p c d) (b ∷ bs) e = let x = both_true (is_near blocks c (b ∷ bs)) (is_near blocks d (b ∷ bs)) e in (near_if c (b ∷ bs) x.0, near_if d (b ∷ bs) x.1)
  exit_if (Call f arguments result c) (b ∷ bs) e = never e
  exit_if (Return x) (b ∷ bs) e = never e
  exit_if (Ends k) (b ∷ bs) e = never e

  pub linked_if : (chain : List ℕ) → is_linked to blocks chains chain ≡ true → Linked to blocks chains chain
  linked_if [] e = tt
  linked_if (b ∷ bs) e =
      let x = both_true (is_linked_at to blocks chains (slice_get blocks b) bs) (is_linked to blocks chains bs) e in
      (λ block q. exit_if block.exit bs (sym (ap (λ o. is_linked_at to blocks chains o bs) q) ∙ x.0), linked_if bs x.1)

pub linked_where_tested : LinkedWhereTested
linked_where_tested to blocks chains chain e = linked_if to blocks chains chain e

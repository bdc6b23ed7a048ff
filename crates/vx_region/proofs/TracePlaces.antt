-- What stands at a place of a trace, and the cluster that it has there before clusters are assigned.
use Rattle.std.proofs.Common.{◌≡◌, inl, inr, refl, sym, ◌∙◌, ap, subst, ℕ, zero, suc, ◌+◌, ◌<◌, Option, Some, None, List, [], ◌∷◌, ◌++◌, length, map, slice_get, slice_index_or}
use Rattle.std.specs.Prelude.{replicate}
use Rattle.std.proofs.lemmas.List.{append_assoc, length-append}
use Rattle.vx_flow.specs.declared.graph.Op.{Op}
use Rattle.vx_flow.specs.declared.trace.TraceOp.{TraceOp}
use Rattle.vx_flow.specs.declared.trace.TraceOp.TheVariants.{Plain}
use Rattle.vx_flow.specs.Effects.{IsIn}
use Rattle.vx_mixed.specs.declared.mixed.MixedGraph.{MixedGraph}
use Rattle.vx_mixed.specs.TraceOf.{block_at, split_behind, block_ops, trace_ops, clusters_of, trace_fixed}
use Rattle.vx_mixed.proofs.Linked.{index_in}
use Rattle.vx_region.proofs.Tidied.{InPart, in_first, in_second, in_part, entry_first, entry_second, length_none, length_map}

-- an operation of a list
at_plain : (ops : List Op) (j : ℕ) (op : TraceOp) → slice_get (map Plain ops) j ≡ Some op → (o : Op) × (slice_get ops j ≡ Some o) × (op ≡ Plain o)
at_plain [] j op e = absurd cc
at_plain (o ∷ ops) zero op e = let q : op ≡ Plain o = cc in (o, refl, q)
at_plain (o ∷ ops) (suc j) op e = at_plain ops j op e

pub none_there : (n j : ℕ) → slice_index_or {A = Option ℕ} (replicate n None) j None ≡ None
none_there zero j = refl
none_there (suc n) zero = refl
none_there (suc n) (suc j) = none_there n j

module _ (m : MixedGraph) (live : ℕ → List ℕ) where
  -- an operation of a block, with the cluster that it has if the block was made; or a split, which has none
  pub data PlaceIn (blocks : List ℕ) (op : TraceOp) (fixed : Option ℕ) : Type 0 where
    of_block : (b j : ℕ) (o : Op) → IsIn b blocks → op ≡ Plain o → slice_get (block_at m b).ops j ≡ Some o → fixed ≡ slice_index_or (clusters_of (length (block_at m b).ops) (slice_get m.origins b)) j None → PlaceIn blocks op fixed
    of_split : (b : ℕ) (bs : List ℕ) → IsIn b blocks → IsIn op (split_behind live b (block_at m b).exit bs) → fixed ≡ None → PlaceIn blocks op fixed

  later : (b : ℕ) (bs : List ℕ) (op : TraceOp) (fixed : Option ℕ) → PlaceIn bs op fixed → PlaceIn (b ∷ bs) op fixed
  later b bs op fixed (of_block c j o h q at f) = of_block c j o (inr h) q at f
  later b bs op fixed (of_split c cs h s f) = of_split c cs (inr h) s f

  abbrev Long : ℕ → Type 0
  Long b = length (clusters_of (length (block_at m b).ops) (slice_get m.origins b)) ≡ length (block_at m b).ops

  pub place_in : (blocks : List ℕ) (i : ℕ) (op : TraceOp) → ((b : ℕ) → IsIn b blocks → Long b) → slice_get (trace_ops m live blocks) i ≡ Some op → PlaceIn blocks op (slice_index_or (trace_fixed m live blocks) i None)
  place_in [] i op long at = absurd cc
  place_in (b ∷ bs) i op long at = by (in_part (block_ops m live b bs) (trace_ops m live bs) i op at) (λ j q. place_in bs j op (λ c h. long c (inr h)) q)
    where
      ops : List Op
      ops = (block_at m b).ops

      split : List TraceOp
      split = split_behind live b (block_at m b).exit bs

      cl : List (Option ℕ)
      cl = clusters_of (length ops) (slice_get m.origins b)

      rep : List (Option ℕ)
      rep = replicate (length split) None

      fx : List (Option ℕ)
      fx = trace_fixed m live bs

      many : length cl ≡ length (map Plain ops)
      many = long b (inl refl) ∙ sym (length_map Plain ops)

      both_long : length (cl ++ rep) ≡ length (block_ops m live b bs)
      both_long = length-append cl rep ∙ ap (λ z. length cl + z) (length_none (length split) None) ∙ ap (λ z. z + length split) many ∙ sym (length-append (map Plain ops) split)

      here : InPart (map Plain ops) split i op → i < length (block_ops m live b bs) → PlaceIn (b ∷ bs) op (slice_index_or (cl ++ (rep ++ fx)) i None)
      here (in_first l q) lt =
          let p = at_plain ops i op q in
          of_block b i p.0 (inl refl) p.2 p.1 (entry_first cl (rep ++ fx) i (subst (λ z. i < z) (sym many) l))
      here (in_second j p q) lt =
          of_split b bs (inl refl) (index_in split j op q)
          (ap (λ z. slice_index_or z i None) (sym (append_assoc cl rep fx)) ∙ entry_first (cl ++ rep) fx i (subst (λ z. i < z) (sym both_long) lt)
          ∙ ap (λ z. slice_index_or (cl ++ rep) z None) (p ∙ ap (λ z. z + j) (sym many)) ∙ entry_second cl rep j ∙ none_there (length split) j)

      by : InPart (block_ops m live b bs) (trace_ops m live bs) i op → ((j : ℕ) → slice_get (trace_ops m live bs) j ≡ Some op → PlaceIn bs op (slice_index_or fx j None)) → PlaceIn (b ∷ bs) op (slice_index_or (trace_fixed m live (b ∷ bs)) i None)
      by (in_first l q) more = here (in_part (map Plain ops) split i op q) l
      by (in_second j p q) more =
          let rest : PlaceIn bs op (slice_index_or fx j None) = more j q in
          let same : slice_index_or (cl ++ (rep ++ fx)) i None ≡ slice_index_or fx j None =
          ap (λ z. slice_index_or z i None) (sym (append_assoc cl rep fx)) ∙ ap (λ z. slice_index_or ((cl ++ rep) ++ fx) z None) (p ∙ ap (λ z. z + j) (sym both_long)) ∙ entry_second (cl ++ rep) fx j in
          subst (PlaceIn (b ∷ bs) op) (sym same) (later b bs op (slice_index_or fx j None) rest)

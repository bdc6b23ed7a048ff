-- A loop whose first round is made of copies, with empty blocks skipped: linked chains, by hand.
use Rattle.std.proofs.Common.{◌≡◌, inl, inr, ℕ, zero, suc, List, [], ◌∷◌, slice_get, Some, refl, sym, subst}
use Rattle.vx_flow.specs.declared.graph.Op.{Op}
use Rattle.vx_flow.specs.declared.graph.Op.TheVariants.{Text}
use Rattle.vx_flow.specs.declared.graph.Exit.{Exit}
use Rattle.vx_flow.specs.declared.graph.Exit.TheVariants.{Goto}
use Rattle.vx_flow.specs.declared.graph.Block.{Block}
use Rattle.vx_flow.specs.declared.graph.Graph.{Graph}
use Rattle.vx_flow.specs.Effects.{IsIn}
use Rattle.vx_clean.specs.Cleaning.{GraphCleaned}
use Rattle.vx_clean.specs.Laying.{laid, Begun, ExitLinked, Linked, places_from}
use Rattle.vx_clean.proofs.Lays.{laid_cleaned}

abbrev block : List Op → Exit → Block
block ops exit = record { ops = ops; exit = exit }

abbrev loop : Graph
loop = record {
  blocks = block (Text 0 ∷ []) (Goto 1) ∷ block [] (Goto 2) ∷ block (Text 1 ∷ []) (Goto 3) ∷ block [] (Goto 1) ∷ [];
  banks = [];
  parameters = [];
  arrays = [];
}

-- 0: texts 0 and 1, to 1; 1: text 1, to 1
abbrev chains : List (List ℕ)
chains = (0 ∷ 1 ∷ 2 ∷ 3 ∷ []) ∷ (1 ∷ 2 ∷ 3 ∷ []) ∷ []

abbrev to : ℕ → ℕ
to zero = 0
to (suc c) = 1

made : laid to chains loop ≡ record loop { blocks = block (Text 0 ∷ Text 1 ∷ []) (Goto 1) ∷ block (Text 1 ∷ []) (Goto 1) ∷ [] }
made = refl

linked_at : (bs : List ℕ) (k : Block) → ExitLinked to loop.blocks chains k.exit bs → (b : Block) → Some k ≡ Some b → ExitLinked to loop.blocks chains b.exit bs
linked_at bs k h b e = let q : k ≡ b = cc in subst (λ (x : Block). ExitLinked to loop.blocks chains x.exit bs) q h

back : (c : ℕ) → IsIn c (1 ∷ []) → Begun to loop.blocks chains c
back c (inl e) = subst (Begun to loop.blocks chains) (sym e) (1 ∷ 2 ∷ 3 ∷ [], refl, inl refl)
back c (inr m) = absurd m

round : Linked to loop.blocks chains (1 ∷ 2 ∷ 3 ∷ [])
round = (linked_at (2 ∷ 3 ∷ []) (block [] (Goto 2)) (inl refl), (linked_at (3 ∷ []) (block (Text 1 ∷ []) (Goto 3)) (inl refl), (linked_at [] (block [] (Goto 1)) back, tt)))

first : Linked to loop.blocks chains (0 ∷ 1 ∷ 2 ∷ 3 ∷ [])
first = (linked_at (1 ∷ 2 ∷ 3 ∷ []) (block (Text 0 ∷ []) (Goto 1)) (inl refl), round)

all : (i : ℕ) (chain : List ℕ) → slice_get chains i ≡ Some chain → Linked to loop.blocks chains chain
unfolding first round
all zero chain e = let q : 0 ∷ 1 ∷ 2 ∷ 3 ∷ [] ≡ chain = cc in subst (Linked to loop.blocks chains) q first
all (suc zero) chain e = let q : 1 ∷ 2 ∷ 3 ∷ [] ≡ chain = cc in subst (Linked to loop.blocks chains) q round
all (suc (suc i)) chain e = absurd (cc)

pub peeled : GraphCleaned (places_from loop.blocks 0 chains) loop (laid to chains loop)
peeled = laid_cleaned to chains loop refl (0 ∷ 1 ∷ 2 ∷ 3 ∷ [], refl, inl refl) all

-- That a callee reads only parameters at its entry, and that it returns, as it is tested.
use Rattle.std.proofs.Common.{◌≡◌, ◌⊎◌, ◌↔◌, inl, inr, ℕ, zero, suc, ◌<◌, length, get_or, arith, Bool, true, false, List, [], ◌∷◌, slice_get, slice_set, Some, refl, sym, ap, ◌∙◌, subst, IsTrue}
use Rattle.std.proofs.lemmas.Bool.{false≢true}
use Rattle.std.specs.Prelude.{replicate}
use Rattle.std.specs.List.{list_all}
use Rattle.vx_flow.specs.declared.graph.Exit.{Exit}
use Rattle.vx_flow.specs.declared.graph.Exit.TheVariants.{Goto, Split, Call, Return, Ends}
use Rattle.vx_flow.specs.declared.graph.Block.{Block}
use Rattle.vx_flow.specs.declared.graph.Graph.{Graph}
use Rattle.vx_flow.specs.Effects.{IsIn}
use Rattle.vx_flow.specs.Live.{IsLive}
use Rattle.vx_flow.specs.Rows.{is_marked, lives, row_at}
use Rattle.vx_flow.specs.Sound.{targets_of}
use Rattle.vx_flow.proofs.SoundLists.{all_in}
use Rattle.vx_flow.proofs.ClosingSteps.{any_in}
use Rattle.vx_inline.specs.Inlined.{is_among}
use Rattle.vx_inline.specs.Keeping.{Returns, LeadHere, is_return}
use Rattle.vx_inline.specs.Values.{marked_all}

pub closed_by : (g : Graph) (rows : List (List ℕ)) (closed : Bool) → ((b v : ℕ) → IsTrue (lives rows b v) ↔ IsLive g b v) → closed ≡ list_all (λ v. is_among g.parameters v) (row_at rows 0) → closed ≡ true → (v : ℕ) → IsLive g 0 v → IsIn v g.parameters
closed_by g rows closed exact e t v l =
    any_in v g.parameters (all_in (λ u. is_among g.parameters u) (row_at rows 0) v (sym e ∙ t) (any_in v (row_at rows 0) ((exact 0 v).1 l)))

-- ---- marks

-- a place that is marked was marked before, or is the one that is marked now
marked_or : (marks : List Bool) (u v : ℕ) → is_marked (slice_set marks u true) v ≡ true → (v ≡ u) ⊎ (is_marked marks v ≡ true)
marked_or [] u v e = inr e
marked_or (t ∷ ts) zero zero e = inl refl
marked_or (t ∷ ts) zero (suc v) e = inr e
marked_or (t ∷ ts) (suc u) zero e = inr e
marked_or (t ∷ ts) (suc u) (suc v) e = by (marked_or ts u v e)
  where
    by : (v ≡ u) ⊎ (is_marked ts v ≡ true) → (suc v ≡ suc u) ⊎ (is_marked ts v ≡ true)
    by (inl q) = inl (ap suc q)
    by (inr h) = inr h

all_or : (vs : List ℕ) (marks : List Bool) (v : ℕ) → is_marked (marked_all vs marks) v ≡ true → IsIn v vs ⊎ (is_marked marks v ≡ true)
all_or [] marks v e = inr e
all_or (u ∷ us) marks v e = by (all_or us (slice_set marks u true) v e)
  where
    first : (v ≡ u) ⊎ (is_marked marks v ≡ true) → IsIn v (u ∷ us) ⊎ (is_marked marks v ≡ true)
    first (inl q) = inl (inl q)
    first (inr h) = inr h

    by : IsIn v us ⊎ (is_marked (slice_set marks u true) v ≡ true) → IsIn v (u ∷ us) ⊎ (is_marked marks v ≡ true)
    by (inl m) = inl (inr m)
    by (inr h) = first (marked_or marks u v h)

none_marked : (n v : ℕ) → is_marked (replicate n false) v ≡ true → ⊥
none_marked zero v e = false≢true e
none_marked (suc n) zero e = false≢true e
none_marked (suc n) (suc v) e = none_marked n v e

pub lead_first : (g : Graph) (n : ℕ) (before after : List Bool) → before ≡ replicate n false → after ≡ slice_set before 0 true → LeadHere g after
lead_first g n before after e q = record { lead = λ b h r. by b r (marked_or before 0 b (subst (λ m. is_marked m b ≡ true) q h)) }
  where
    by : (b : ℕ) → Returns g b → (b ≡ 0) ⊎ (is_marked before b ≡ true) → Returns g 0
    by b r (inl z) = subst (Returns g) z r
    by b r (inr k) = absurd (none_marked n b (subst (λ m. is_marked m b ≡ true) e k))

there : {X : Type 0} (xs : List X) (i : ℕ) (x : X) → i < length xs → x ≡ get_or xs i x → slice_get xs i ≡ Some x
there [] i x l e = absurd (omega (arith, l))
there (y ∷ ys) zero x l e = ap Some (sym e)
there (y ∷ ys) (suc i) x l e = there ys i x (omega (arith, l)) e

pub marked_on : (g : Graph) (marks new : List Bool) (b : ℕ) (block : Block) → LeadHere g marks → b < length g.blocks → block ≡ get_or g.blocks b block → is_marked marks b ≡ true → new ≡ marked_all (targets_of block.exit) marks → LeadHere g new
marked_on g marks new b block k l e h q = record { lead = λ c t r. by c r (all_or (targets_of block.exit) marks c (subst (λ m. is_marked m c ≡ true) q t)) }
  where
    by : (c : ℕ) → Returns g c → IsIn c (targets_of block.exit) ⊎ (is_marked marks c ≡ true) → Returns g 0
    by c r (inl m) = k.lead b h (Returns.beyond (there g.blocks b block l e) m r)
    by c r (inr n) = k.lead c n r

pub returns_here : (g : Graph) (marks : List Bool) (b : ℕ) (block : Block) → LeadHere g marks → b < length g.blocks → block ≡ get_or g.blocks b block → is_marked marks b ≡ true → is_return block.exit ≡ true → Returns g 0
returns_here g marks b block k l e h t = k.lead b h (by block.exit refl t)
  where
    by : (exit : Exit) → block.exit ≡ exit → is_return exit ≡ true → Returns g b
    by (Goto c) q k = absurd (false≢true k)
    by (Split p c d) q k = absurd (false≢true k)
    by (Call f xs r c) q k = absurd (false≢true k)
    by (Return x) q k = Returns.here (there g.blocks b block l e) q
    by (Ends j) q k = absurd (false≢true k)

-- The word that carries a planned one is the word of its items.
use Rattle.std.proofs.Common.{◌≡◌, inl, ◌+◌, ℕ, suc, Bool, Some, List, [], ◌∷◌, refl, sym, subst, arith}
use Rattle.std.specs.Prelude.{slice_get}
use Rattle.vx_flow.specs.Effects.{IsIn}
use Rattle.vx_isa.specs.declared.operation.Operation.{Operation}
use Rattle.vx_isa.specs.declared.operation.Operation.TheVariants.{BranchOn}
use Rattle.vx_mixed.specs.declared.layout.Laid.{Laid}
use Rattle.vx_mixed.specs.declared.layout.Laid.TheVariants.{Plain, Split}
use Rattle.vx_mixed.specs.declared.layout.VirtualWord.TheVariants.{Transfer}
use Rattle.vx_mixed.specs.LaidSettled.{laid_reads, laid_writes}
use Rattle.vx_target.specs.Target.{Target, branch_of, slotted, most_transfers, past, leads, carried_items, plan_ops, plan_word}
use Rattle.vx_target.proofs.Beside.{Beside, alone, going, beside}
use Rattle.vx_target.proofs.Frames.{past_keeps}
use Rattle.vx_tie.specs.Plans.{LeadsOn, no_further, further, CarriesItem, plain, leaves, lands, CarryItems, by_itself, and_goes, IsPlanWord}

module _ (T : Target) (f p : ℕ) where
  leads_on : (q : ℕ) → LeadsOn (T.layout f) q (past T f q)
  leads_on q = past_keeps (T.layout f).words (LeadsOn (T.layout f) q) (λ d to e h. further d to h e) most_transfers q no_further

  module _ (reads writes : List ℕ) where
    split_carried : (test q : ℕ) (y : Bool) (xs : List ℕ) → slotted T f writes ≡ xs → CarriesItem T f p reads writes (Split test y q) (BranchOn (branch_of T f reads test) y (leads T f p xs q))
    split_carried test q y [] e = leaves test q (past T f q) y e (leads_on q)
    split_carried test q y (v ∷ vs) e = lands test q v y (subst (IsIn v) (sym e) (inl refl))

    are_carried : (items : List Laid) → CarryItems T f p reads writes items (carried_items T f p reads writes items)
    are_carried [] = tt
    are_carried (Plain op k ∷ items) = (plain op k, are_carried items)
    are_carried (Split test y q ∷ items) = (split_carried test q y (slotted T f writes) refl, are_carried items)

  pub plan_word_is : (items : List Laid) → IsPlanWord T f p items (plan_word T f p items)
  plan_word_is items = by (plan_ops T f p items) (beside T f p items)
    where
      all : CarryItems T f p (laid_reads items) (laid_writes items) items (carried_items T f p (laid_reads items) (laid_writes items) items)
      all = are_carried (laid_reads items) (laid_writes items) items

      by : (ops : List Operation) → Beside T f p items ops → IsPlanWord T f p items (record { ops = ops; idle = 0 })
      by ops alone = by_itself (carried_items T f p (laid_reads items) (laid_writes items) items) all
      by ops (going q g) =
          let next : p + 1 ≡ suc p = omega arith in
          and_goes (carried_items T f p (laid_reads items) (laid_writes items) items) g.to q all g.no_split g.no_slot (subst (λ n. slice_get (T.layout f).words n ≡ Some (Transfer g.to)) next g.transfer) (subst (LeadsOn (T.layout f) g.to) (sym g.is) (leads_on g.to))

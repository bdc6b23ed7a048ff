-- The registers by which words name values are in the files of the machine.
use Rattle.std.proofs.Common.{◌≡◌, ◌<◌, ◌≤◌, ◌+◌, ℕ, Bool, true, false, cond, Some, List, [], ◌∷◌, length, refl, sym, ap, ◌∙◌, subst, arith}
use Rattle.std.specs.List.{filter}
use Rattle.std.specs.Cmp.Derive.{both_true}
use Rattle.std.proofs.lemmas.Bool.{lt-ltb}
use Rattle.vx_flow.specs.declared.graph.Bank.{Bank}
use Rattle.vx_flow.specs.declared.graph.Bank.TheVariants.{General as GeneralBank, Branch as BranchBank}
use Rattle.vx_flow.specs.Effects.{IsIn}
use Rattle.vx_isa.specs.declared.operation.Register.TheVariants.{General, Branch}
use Rattle.vx_isa.specs.Fits.{is_in_file}
use Rattle.vx_mixed.specs.LaidSettled.{bank_in}
use Rattle.vx_mixed.specs.Settled.{stands_for}
use Rattle.vx_regs.specs.declared.map.Kept.{Kept}
use Rattle.vx_regs.specs.declared.map.Kept.TheVariants.{InRegister, InSlot, Nowhere}
use Rattle.vx_target.specs.Target.{Target, is_branch, kept, is_slotted, home, holds_branch, general_of, branch_of, number_by, scratch, same_file}
use Rattle.vx_target.specs.Carried.{IsMapped}
use Rattle.vx_target.proofs.Limits.{Limits}
use Rattle.vx_target.proofs.Names.{Few, HasBank, Filed, filed, index_below, file_general, file_branch}

at_most_one : (t q : ℕ → Bool) (v : ℕ) → length (filter t (filter q (v ∷ []))) ≤ 1
at_most_one t q v = by (q v)
  where
    two : (b : Bool) → length (cond b (v ∷ []) []) ≤ 1
    two true = omega arith
    two false = omega arith

    by : (b : Bool) → length (filter t (cond b (v ∷ []) [])) ≤ 1
    by true = two (t v)
    by false = omega arith

module _ (T : Target) (f : ℕ) (mapped : IsMapped T f) (l : Limits T.machine) where
  -- the scratch registers are enough for one value, and for values that are all in registers
  pub few_single : (v : ℕ) → Few T f mapped (v ∷ [])
  few_single v = record {
    general = λ u i s e. (let a = first u i s in let b = l.issue in omega arith);
    branch = λ u i s e. (let a = first u i s in let b = l.issue in omega arith);
  }
    where
      first : (u : ℕ) → IsIn u (v ∷ []) → is_slotted (kept T f u) ≡ true → scratch T f (v ∷ []) u < 1
      first u i s =
          let a = index_below u (Filed T f mapped (v ∷ []) u) (filed T f mapped (v ∷ []) u i s) in
          let b = at_most_one (λ x. same_file T f x u) (λ x. is_slotted (kept T f x)) v in omega arith

  pub few_kept : (vs : List ℕ) → ((v : ℕ) → IsIn v vs → is_slotted (kept T f v) ≡ false) → Few T f mapped vs
  few_kept vs h = record {
    general = λ u i s e. absurd (let z : true ≡ false = sym s ∙ h u i in cc);
    branch = λ u i s e. absurd (let z : true ≡ false = sym s ∙ h u i in cc);
  }

  pub general_filed : (names : List ℕ) (v : ℕ) → Few T f mapped names → IsIn v names → HasBank T f mapped v → home T f v < T.machine.clusters → holds_branch T f v ≡ false → is_in_file T.machine (General (general_of T f names v)) ≡ true
  general_filed names v few i bank lt e = both_true (lt-ltb (home T f v) T.machine.clusters lt) (lt-ltb (number_by (kept T f v) (3 + scratch T f names v)) T.machine.registers (by (kept T f v) refl))
    where
      by : (k : Kept) → kept T f v ≡ k → number_by k (3 + scratch T f names v) < T.machine.registers
      by (InRegister n) q = (mapped.apart.registers v n (home T f v) GeneralBank q (file_general T f mapped v bank e)).1
      by (InSlot n) q = let a = few.general v i (ap is_slotted q) e in let b = l.few in let c = l.registers in omega arith
      by Nowhere q = let a = few.general v i (ap is_slotted q) e in let b = l.few in let c = l.registers in omega arith

  pub branch_filed : (names : List ℕ) (v : ℕ) → Few T f mapped names → IsIn v names → HasBank T f mapped v → holds_branch T f v ≡ true → is_in_file T.machine (Branch (record { cluster = 0; number = branch_of T f names v })) ≡ true
  branch_filed names v few i bank e = both_true (lt-ltb 0 T.machine.clusters (let c = l.clusters in omega arith)) (lt-ltb (number_by (kept T f v) (scratch T f names v)) T.machine.branch_registers (by (kept T f v) refl))
    where
      by : (k : Kept) → kept T f v ≡ k → number_by k (scratch T f names v) < T.machine.branch_registers
      by (InRegister n) q = (mapped.apart.registers v n 0 BranchBank q (file_branch T f mapped v bank e)).1
      by (InSlot n) q = let a = few.branch v i (ap is_slotted q) e in let b = l.branches in omega arith
      by Nowhere q = let a = few.branch v i (ap is_slotted q) e in let b = l.branches in omega arith

  -- the cluster of an operation is that of the values that it names there

  pub general_there : (v c : ℕ) → HasBank T f mapped v → holds_branch T f v ≡ false → stands_for (bank_in (T.layout f) v) (Some (home T f v)) c → home T f v ≡ c
  general_there v c b e s = by b.0 b.1 s
    where
      by : (x : Bank) → bank_in (T.layout f) v ≡ Some x → stands_for (bank_in (T.layout f) v) (Some (home T f v)) c → home T f v ≡ c
      by GeneralBank q k = let z : Some (home T f v) ≡ Some c = subst (λ o. stands_for o (Some (home T f v)) c) q k in cc
      by BranchBank q k = absurd (let z : true ≡ false = sym (ap is_branch q) ∙ e in cc)

  pub branch_there : (v c : ℕ) → HasBank T f mapped v → holds_branch T f v ≡ true → stands_for (bank_in (T.layout f) v) (Some (home T f v)) c → c ≡ 0
  branch_there v c b e s = by b.0 b.1 s
    where
      by : (x : Bank) → bank_in (T.layout f) v ≡ Some x → stands_for (bank_in (T.layout f) v) (Some (home T f v)) c → c ≡ 0
      by BranchBank q k = subst (λ o. stands_for o (Some (home T f v)) c) q k
      by GeneralBank q k = absurd (let z : false ≡ true = sym (ap is_branch q) ∙ e in cc)

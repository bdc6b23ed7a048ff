-- A word without a control operation leads to the following word.
use Rattle.std.proofs.Common.{◌≡◌, ℕ, ◌+◌, Bool, true, false, cond, List, [], ◌∷◌, count_by, refl, sym, ap, ◌∙◌, arith}
use Rattle.vx_isa.specs.declared.operation.Operation.{Operation}
use Rattle.vx_isa.specs.declared.operation.Operation.TheVariants.{Compute, Move, Select, Load, Store, Input, More, OutText, OutDecimal, OutByte, Goto, BranchOn, Call, Return, FromLink, ToLink, EndByTrap, Halt}
use Rattle.vx_isa.specs.Operations.{is_control}
use Rattle.vx_isa.specs.Machine.{State, To, lead_of}
use Rattle.vx_isa.proofs.Lists.{count_by-cons}

leads_on : (s : State) (op : Operation) (ops : List Operation) → is_control op ≡ false → lead_of s (op ∷ ops) ≡ lead_of s ops
leads_on s (Compute k code to a b) ops e = refl
leads_on s (Move k to a) ops e = refl
leads_on s (Select k to u a b) ops e = refl
leads_on s (Load k to o r d) ops e = refl
leads_on s (Store k o r a) ops e = refl
leads_on s (Input to) ops e = refl
leads_on s (More to) ops e = refl
leads_on s (OutText n) ops e = refl
leads_on s (OutDecimal a) ops e = refl
leads_on s (OutByte a) ops e = refl
leads_on s (Goto p) ops e = absurd (cc)
leads_on s (BranchOn u w p) ops e = absurd (cc)
leads_on s (Call p) ops e = absurd (cc)
leads_on s Return ops e = absurd (cc)
leads_on s (FromLink to) ops e = refl
leads_on s (ToLink a) ops e = refl
leads_on s (EndByTrap k) ops e = absurd (cc)
leads_on s (Halt a) ops e = absurd (cc)

leads_to_next : (s : State) (ops : List Operation) → count_by is_control ops ≡ 0 → lead_of s ops ≡ To (s.place + 1)
leads_to_next s [] e = refl
leads_to_next s (op ∷ ops) e = by (is_control op) refl (leads_to_next s ops)
  where
    more : count_by is_control (op ∷ ops) ≡ cond (is_control op) 1 0 + count_by is_control ops
    more = count_by-cons is_control op ops

    by : (b : Bool) → is_control op ≡ b → (count_by is_control ops ≡ 0 → lead_of s ops ≡ To (s.place + 1)) → lead_of s (op ∷ ops) ≡ To (s.place + 1)
    by true h rest = let n : count_by is_control (op ∷ ops) ≡ 1 + count_by is_control ops = more ∙ ap (λ (t : Bool). cond t 1 0 + count_by is_control ops) h in absurd (omega (arith, n, e))
    by false h rest =
        let n : count_by is_control (op ∷ ops) ≡ 0 + count_by is_control ops = more ∙ ap (λ (t : Bool). cond t 1 0 + count_by is_control ops) h in
        leads_on s op ops h ∙ rest (omega (arith, n, e))

-- the count of the control operations, as it is found of a word
pub no_lead : (control : ℕ) (s : State) (ops : List Operation) → control ≡ count_by is_control ops → control ≡ 0 → To (s.place + 1) ≡ lead_of s ops
no_lead control s ops is none = sym (leads_to_next s ops (sym is ∙ none))

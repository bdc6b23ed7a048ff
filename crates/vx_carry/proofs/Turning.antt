-- The steps by which a goto is put beside the operations of a planned word.
use Rattle.std.proofs.Common.{◌≡◌, ℕ, ◌==◌, ◌++◌, [], ◌∷◌, Bool, true, false, List, Some, length, refl, sym, ap, ◌∙◌}
use Rattle.std.specs.Prelude.{if◌then◌else◌}
use Rattle.std.proofs.Math.Dec.{eqb-suc-zero}
use Rattle.vx_isa.specs.declared.operation.Operation.{Operation}
use Rattle.vx_isa.specs.declared.operation.Operation.TheVariants.{Goto}
use Rattle.vx_isa.specs.declared.program.Word.{Word}
use Rattle.vx_mixed.specs.declared.layout.Laid.{Laid}
use Rattle.vx_target.specs.Target.{Target, goes_beside, is_none, with_goto}

-- nothing is left for slots
is_none_by_length : (vs : List ℕ) → (length vs == 0) ≡ is_none vs
is_none_by_length [] = refl
is_none_by_length (v ∷ vs) = eqb-suc-zero (length vs)

pub nothing_left : (vs ws : List ℕ) → vs ≡ ws → (length vs == 0) ≡ is_none ws
nothing_left vs ws e = is_none_by_length vs ∙ ap is_none e

-- the word with the goto is taken
pub goes_on : (T : Target) (f q : ℕ) (items : List Laid) (ops : List Operation) (word : Word) → word ≡ record { ops = ops ++ Goto (T.starts f q) ∷ []; idle = 0 } → goes_beside T f items word.ops ≡ true → word ≡ record { ops = with_goto T f items ops (Some q); idle = 0 }
goes_on T f q items ops word is goes =
    let longer : List Operation = ops ++ Goto (T.starts f q) ∷ [] in
    let test : goes_beside T f items longer ≡ true = ap (λ (w : Word). goes_beside T f items w.ops) (sym is) ∙ goes in
    is ∙ ap (λ (b : Bool). record { ops = if b then longer else ops; idle = 0 }) (sym test)

-- the word without it stays
pub stays : (T : Target) (f q : ℕ) (items : List Laid) (ops : List Operation) (word : Word) → word ≡ record { ops = ops ++ Goto (T.starts f q) ∷ []; idle = 0 } → goes_beside T f items word.ops ≡ false → with_goto T f items ops (Some q) ≡ ops
stays T f q items ops word is goes =
    let longer : List Operation = ops ++ Goto (T.starts f q) ∷ [] in
    let test : goes_beside T f items longer ≡ false = ap (λ (w : Word). goes_beside T f items w.ops) (sym is) ∙ goes in
    ap (λ (b : Bool). if b then longer else ops) test

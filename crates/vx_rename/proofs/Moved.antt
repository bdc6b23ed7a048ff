-- A list that is made of another one, item after item: what is done and what is left are the whole.
use Rattle.std.proofs.Common.{◌≡◌, ◌∙◌, List, [], ◌∷◌, ◌++◌, length, append_assoc, append-nil, ap, sym, arith}

-- one more item is done
pub moved : {X Y : Type 0} (F : List X → List Y) (whole done next : List Y) (left rest : List X) (y : Y) → done ++ F left ≡ whole → F left ≡ y ∷ F rest → next ≡ done ++ y ∷ [] → next ++ F rest ≡ whole
moved F whole done next left rest y so e n = ap (λ l. l ++ F rest) n ∙ append_assoc done (y ∷ []) (F rest) ∙ ap (λ l. done ++ l) (sym e) ∙ so

-- nothing is left
pub all_moved : {X Y : Type 0} (F : List X → List Y) (whole done : List Y) (left : List X) → F [] ≡ [] → length left ≡ 0 → done ++ F left ≡ whole → done ≡ whole
all_moved F whole done [] none h so = sym (append-nil done) ∙ ap (λ l. done ++ l) (sym none) ∙ so
all_moved F whole done (x ∷ xs) none h so = absurd (omega arith)

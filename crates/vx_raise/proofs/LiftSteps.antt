-- Steps of the tests and of what is made.
use Rattle.std.proofs.Common.{◌≡◌, ℕ, zero, suc, ◌-◌, ◌==◌, ◌&&◌, Bool, true, false, List, [], ◌∷◌, ◌++◌, Option, Some, None, refl, sym, ap, ◌∙◌, arith}
use Rattle.std.specs.List.{list_all}
use Rattle.std.specs.Prelude.{not}
use Rattle.std.specs.Option.{is_some}
use Rattle.vx_flow.specs.declared.graph.Array.{Array}
use Rattle.vx_flow.specs.declared.graph.Op.{Op}
use Rattle.vx_flow.specs.Effects.{reads, writes}
use Rattle.vx_flow.specs.Operands.{value_list, written_by}
use Rattle.vx_flow.proofs.OperandLaws.{writes_are}
use Rattle.vx_raise.specs.Raising.{result_of}
use Rattle.vx_raise.specs.Exchanging.{are_apart, loaded_from, stored_to, meet, may_pass}
use Rattle.vx_raise.specs.Lifting.{passes}
use Rattle.vx_raise.proofs.Passing.{result_written}

and_assoc : (a b c : Bool) → (a && (b && c)) ≡ ((a && b) && c)
and_assoc true b c = refl
and_assoc false b c = refl

all_both : {A : Type 0} (p : A → Bool) (xs ys : List A) → list_all p (xs ++ ys) ≡ (list_all p xs && list_all p ys)
all_both p [] ys = refl
all_both p (x ∷ xs) ys = ap (λ q. p x && q) (all_both p xs ys) ∙ and_assoc (p x) (list_all p xs) (list_all p ys)

pub all_three : (p : ℕ → Bool) (a b c : Option ℕ) → ((list_all p (value_list a) && list_all p (value_list b)) && list_all p (value_list c)) ≡ list_all p (value_list a ++ (value_list b ++ value_list c))
all_three p a b c =
    sym (and_assoc (list_all p (value_list a)) (list_all p (value_list b)) (list_all p (value_list c))) ∙
    (ap (λ q. list_all p (value_list a) && q) (sym (all_both p (value_list b) (value_list c))) ∙ sym (all_both p (value_list a) (value_list b ++ value_list c)))

and_true : (a : Bool) → (a && true) ≡ a
and_true true = refl
and_true false = refl

-- of a value that is written alone, that it is not among others
pub apart_one : (first : Op) (v : ℕ) (ws : List ℕ) → written_by first ≡ Some v → are_apart (writes first) ws ≡ list_all (λ w. not (w == v)) ws
apart_one first v ws e = ap (λ l. are_apart l ws) (sym (writes_are first) ∙ ap value_list e) ∙ and_true (list_all (λ w. not (w == v)) ws)

pub apart_none : (first : Op) (ws : List ℕ) → written_by first ≡ None → are_apart (writes first) ws ≡ true
apart_none first ws e = ap (λ l. are_apart l ws) (sym (writes_are first) ∙ ap value_list e)

pub passes_one : (arrays : List Array) (first second : Op) (v : ℕ) → result_of second ≡ Some v →
    may_pass arrays first second ≡ (list_all (λ w. not (w == v)) (reads first) && list_all (λ w. not (w == v)) (writes first) && are_apart (writes first) (reads second) && not (meet arrays (loaded_from second) (stored_to first)))
passes_one arrays first second v e =
    let own : writes second ≡ v ∷ [] = result_written second v e in
    let unread : are_apart (writes second) (reads first) ≡ list_all (λ w. not (w == v)) (reads first) = ap (λ l. are_apart l (reads first)) own ∙ and_true (list_all (λ w. not (w == v)) (reads first)) in
    let unwritten : are_apart (writes second) (writes first) ≡ list_all (λ w. not (w == v)) (writes first) = ap (λ l. are_apart l (writes first)) own ∙ and_true (list_all (λ w. not (w == v)) (writes first)) in
    ap (λ o. is_some o && are_apart (writes second) (reads first) && are_apart (writes second) (writes first) && are_apart (writes first) (reads second) && not (meet arrays (loaded_from second) (stored_to first))) e ∙
    (ap (λ q. q && are_apart (writes second) (writes first) && are_apart (writes first) (reads second) && not (meet arrays (loaded_from second) (stored_to first))) unread ∙
    ap (λ q. list_all (λ w. not (w == v)) (reads first) && q && are_apart (writes first) (reads second) && not (meet arrays (loaded_from second) (stored_to first))) unwritten)

pub passes_none : (arrays : List Array) (first second : Op) → result_of second ≡ None → may_pass arrays first second ≡ false
passes_none arrays first second e = ap (λ o. is_some o && are_apart (writes second) (reads first) && are_apart (writes second) (writes first) && are_apart (writes first) (reads second) && not (meet arrays (loaded_from second) (stored_to first))) e

pub passes_more : (arrays : List Array) (op first : Op) (place : ℕ) (ops rest : List Op) → (place ≡ 0 → ⊥) → ops ≡ first ∷ rest → may_pass arrays first op ≡ true → passes arrays op (place - 1) rest ≡ passes arrays op place ops
passes_more arrays op first zero ops rest n e h = absurd (n refl)
passes_more arrays op first (suc p) ops rest n e h =
    let less : suc p - 1 ≡ p = omega arith in
    ap (λ k. passes arrays op k rest) less ∙ (sym (ap (λ q. q && passes arrays op p rest) h) ∙ sym (ap (passes arrays op (suc p)) e))

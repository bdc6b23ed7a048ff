-- How far the texts of the operations of a word are put.
use Rattle.std.proofs.Common.{◌≡◌, ℕ, ◌+◌, ◌<◌, true, false, List, [], ◌++◌, length, drop, Option, Result, Ok, Err, OnErr, nat_lt, get_or, unwrap_or, sym, ap, subst, ◌∙◌, append_assoc}
use Rattle.std.specs.List.{flat_map}
use Rattle.vx_isa.specs.declared.operation.Operation.{Operation}
use Rattle.vx_isa.specs.declared.operation.Operation.TheVariants.{OutText}
use Rattle.vx_isa.specs.declared.program.WordProgram.{WordProgram}
use Rattle.vx_isa.specs.Machine.{State, print_of}
use Rattle.vx_sim.proofs.Naming.{item_here, none_here}
use Rattle.vx_sim.proofs.Operations.{operation_here}
use Rattle.vx_io.specs.Outside.{with_bytes, PutsFront}
use Rattle.vx_io.proofs.OutsideLaws.{pieces_join}
use Rattle.vx_io.proofs.PutSoFar.{PutSoFar}

pub put_more : (before middle after : Option (List ℕ)) (bytes piece later : List ℕ) → PutSoFar before middle bytes (piece ++ later) → after ≡ with_bytes middle piece → PutSoFar before after bytes later
put_more before middle after bytes piece later so_far put = record {
  front = so_far.front ++ piece;
  is = so_far.is ∙ sym (append_assoc so_far.front piece later);
  put = put ∙ ap (λ (told : Option (List ℕ)). with_bytes told piece) so_far.put ∙ pieces_join before so_far.front piece;
}

pub put_front : (before middle after : Option (List ℕ)) (bytes piece later : List ℕ) → PutSoFar before middle bytes (piece ++ later) → PutsFront middle after piece → PutsFront before after bytes
put_front before middle after bytes piece later so_far last = record {
  front = so_far.front ++ last.front;
  begins = record {
    rest = last.begins.rest ++ later;
    is = so_far.is ∙ ap (λ (xs : List ℕ). so_far.front ++ (xs ++ later)) last.begins.is ∙ ap (λ (xs : List ℕ). so_far.front ++ xs) (append_assoc last.front last.begins.rest later) ∙ sym (append_assoc so_far.front last.front (last.begins.rest ++ later));
  };
  put = last.put ∙ ap (λ (told : Option (List ℕ)). with_bytes told last.front) so_far.put ∙ pieces_join before so_far.front last.front;
}

-- one operation more

pub text_here : (text : Operation → List ℕ) (ops : List Operation) (i : ℕ) (d : Operation) → i < length ops → flat_map text (drop i ops) ≡ text (get_or ops i d) ++ flat_map text (drop (i + 1) ops)
text_here text ops i d lt = ap (flat_map text) (operation_here ops i d lt)

pub put_operation : (before middle after : Option (List ℕ)) (text : Operation → List ℕ) (ops : List Operation) (i : ℕ) (d : Operation) → i < length ops → PutSoFar before middle (flat_map text ops) (flat_map text (drop i ops))
    → after ≡ with_bytes middle (text (get_or ops i d)) → PutSoFar before after (flat_map text ops) (flat_map text (drop (i + 1) ops))
put_operation before middle after text ops i d lt so_far put =
    put_more before middle after (flat_map text ops) (text (get_or ops i d)) (flat_map text (drop (i + 1) ops)) (subst (PutSoFar before middle (flat_map text ops)) (text_here text ops i d lt) so_far) put

pub put_operation_front : (before middle after : Option (List ℕ)) (text : Operation → List ℕ) (ops : List Operation) (i : ℕ) (d : Operation) → i < length ops → PutSoFar before middle (flat_map text ops) (flat_map text (drop i ops))
    → PutsFront middle after (text (get_or ops i d)) → PutsFront before after (flat_map text ops)
put_operation_front before middle after text ops i d lt so_far put =
    put_front before middle after (flat_map text ops) (text (get_or ops i d)) (flat_map text (drop (i + 1) ops)) (subst (PutSoFar before middle (flat_map text ops)) (text_here text ops i d lt) so_far) put

pub on_err : {A E : Type 0} (P : Type 0) (r : Result A E) → P → OnErr r P
on_err P (Ok x) p = tt
on_err P (Err e) p = p

-- the text that an operation names, where it is there, and where it is not
module _ (w : WordProgram) (s : State) (op : Operation) (n : ℕ) (texts : List (List ℕ)) (is : op ≡ OutText n) (same : texts ≡ w.texts) where
  pub text_named : (text bytes : List ℕ) → nat_lt n (length texts) ≡ true → text ≡ get_or texts n text → bytes ≡ text → bytes ≡ print_of w s op
  text_named text bytes there at e = e ∙ sym (ap (λ (o : Option (List ℕ)). unwrap_or o []) (item_here w.texts texts n text same there at)) ∙ ap (print_of w s) (sym is)

  pub no_text_named : nat_lt n (length texts) ≡ false → [] ≡ print_of w s op
  no_text_named past = sym (ap (λ (o : Option (List ℕ)). unwrap_or o []) (none_here w.texts texts n same past)) ∙ ap (print_of w s) (sym is)

-- The writes of a word, operation by operation, with a timing that moves on at each that asks.
use Rattle.std.proofs.Common.{◌≡◌, ℕ, suc, ◌+◌, ◌%◌, Bool, true, false, ◌&&◌, cond, if◌then◌else◌, List, [], ◌∷◌, ◌++◌, length, min, max, refl, sym, ap, ◌∙◌, arith, append_assoc, slice_index}
use Rattle.std.proofs.Math.Nat.{mod-mod, add-mod}
use Rattle.std.specs.List.{list_all}
use Rattle.vx_isa.specs.declared.operation.Operation.{Operation}
use Rattle.vx_isa.specs.Numbers.{Numbers}
use Rattle.vx_isa.specs.Operations.{destination_of, is_call, latency_of}
use Rattle.vx_isa.specs.Machine.{State, Write, number_of, write_to, time_of, writes_of, is_asked, asked_by}
use Rattle.vx_isa.proofs.Lists.{count_by-cons}
use Rattle.vx_probe.specs.Times.{Times, list_of, moved_by}
use Rattle.vx_sim.specs.Moved.{moved_if}

time_mod : (m : Numbers) (times : List ℕ) (i j : ℕ) (op : Operation) → i % length times ≡ j % length times → time_of m times i op ≡ time_of m times j op
time_mod m times i j op e = ap (λ k. if is_call op then 1 else min (latency_of m op) (max 1 (slice_index times k))) e

next_mod : (b : Bool) (n i j : ℕ) → i % n ≡ j % n → (if b then i + 1 else i) % n ≡ (if b then j + 1 else j) % n
next_mod true n i j e = add-mod i 1 n ∙ ap (λ k. (k + 1 % n) % n) e ∙ sym (add-mod j 1 n)
next_mod false n i j e = e

-- only the place in the list of the timing counts
pub writes_mod : (m : Numbers) (times : List ℕ) (size : ℕ) (s : State) (i j : ℕ) (ops : List Operation) → i % length times ≡ j % length times → writes_of m times size s i ops ≡ writes_of m times size s j ops
writes_mod m times size s i j [] e = refl
writes_mod m times size s i j (op ∷ ops) e =
    ap (λ t. write_to (destination_of op) (number_of size s op) t ++ writes_of m times size s (if is_asked op then i + 1 else i) ops) (time_mod m times i j op e)
    ∙ ap (λ (ws : List Write). write_to (destination_of op) (number_of size s op) (time_of m times j op) ++ ws) (writes_mod m times size s (if is_asked op then i + 1 else i) (if is_asked op then j + 1 else j) ops (next_mod (is_asked op) (length times) i j e))

moved_place : (b : Bool) (t : Times) → (if b then t.place + 1 else t.place) % length (list_of t) ≡ (moved_if b t).place % length (list_of t)
moved_place true t = sym (mod-mod (t.place + 1) (length (list_of t)))
moved_place false t = refl

moved_list : (b : Bool) (t : Times) → list_of (moved_if b t) ≡ list_of t
moved_list true t = refl
moved_list false t = refl

-- one operation of a word
pub issued_more : (m : Numbers) (size : ℕ) (s : State) (times : List ℕ) (t t' : Times) (op : Operation) (ops : List Operation) (ws ws' all : List Write) → list_of t ≡ times → t' ≡ moved_if (is_asked op) t
    → ws' ≡ ws ++ write_to (destination_of op) (number_of size s op) (time_of m (list_of t) t.place op)
    → ws ++ writes_of m times size s t.place (op ∷ ops) ≡ all → ws' ++ writes_of m times size s t'.place ops ≡ all
issued_more m size s times t t' op ops ws ws' all l moves new so_far =
    ap (λ (us : List Write). us ++ writes_of m times size s t'.place ops) new
    ∙ append_assoc ws (write_to (destination_of op) (number_of size s op) (time_of m (list_of t) t.place op)) (writes_of m times size s t'.place ops)
    ∙ ap (λ (ts : List ℕ). ws ++ (write_to (destination_of op) (number_of size s op) (time_of m ts t.place op) ++ writes_of m times size s t'.place ops)) l
    ∙ ap (λ (us : List Write). ws ++ (write_to (destination_of op) (number_of size s op) (time_of m times t.place op) ++ us)) (writes_mod m times size s t'.place (if is_asked op then t.place + 1 else t.place) ops
    (ap (λ (u : Times). u.place % length times) moves ∙ ap (λ (ts : List ℕ). (moved_if (is_asked op) t).place % length ts) (sym l) ∙ sym (moved_place (is_asked op) t) ∙ ap (λ (ts : List ℕ). (if is_asked op then t.place + 1 else t.place) % length ts) l))
    ∙ so_far

pub moved_along : (t t' : Times) (times : List ℕ) (b : Bool) → t' ≡ moved_if b t → list_of t ≡ times → list_of t' ≡ times
moved_along t t' times b e l = ap list_of e ∙ moved_list b t ∙ l

moved_first : (b : Bool) (n : ℕ) (t : Times) → moved_by (cond b 1 0 + n) t ≡ moved_by n (moved_if b t)
moved_first true n t = let e : 1 + n ≡ suc n = omega arith in ap (λ k. moved_by k t) e
moved_first false n t = let e : 0 + n ≡ n = omega arith in ap (λ k. moved_by k t) e

pub moved_more : (t t' all : Times) (op : Operation) (ops : List Operation) → t' ≡ moved_if (is_asked op) t → moved_by (asked_by (op ∷ ops)) t ≡ all → moved_by (asked_by ops) t' ≡ all
moved_more t t' all op ops moves so_far =
    ap (moved_by (asked_by ops)) moves ∙ sym (moved_first (is_asked op) (asked_by ops) t) ∙ ap (λ k. moved_by k t) (sym (count_by-cons is_asked op ops)) ∙ so_far

pub rest_named : (p : Operation → Bool) (op : Operation) (ops : List Operation) → list_all p (op ∷ ops) ≡ true → list_all p ops ≡ true
rest_named p op ops e = by (p op) e
  where
    by : (b : Bool) → (b && list_all p ops) ≡ true → list_all p ops ≡ true
    by true e = e
    by false e = absurd (cc)

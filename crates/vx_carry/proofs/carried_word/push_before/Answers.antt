use Rattle.std.proofs.Common.{◌≡◌, ◌++◌, ◌==◌, ℕ, Bool, List, false, length, ap, sym, ◌∙◌, [], true, append-nil}
use Rattle.std.proofs.lemmas.Bool.{eqb-true}
use Rattle.std.proofs.lemmas.List.{nil_from_length}
use Rattle.std.proofs.lemmas.Result.{IfOk-equal}
use Rattle.vx_isa.specs.declared.program.Word.{Word}
use Rattle.vx_target.specs.Target.{Target, before, if_some, load_slots, once, settled, slotted}
use Rattle.vx_slots.specs.Seen.{seen}
use Rattle.vx_slots.proofs.Settling.{begins_within, settles, some_there}
use Rattle.vx_carry.proofs.carried_word.push_before.Goals as goal

-- where some are in slots, these are loaded, each once
loads : (T : Target) (f : ℕ) (reads found : List ℕ) (empty : Bool) → found ≡ slotted T f reads → empty ≡ (length found == 0) → empty ≡ false → settled T (load_slots T f reads (once found)) ≡ before T f reads
loads T f reads found empty is test e =
    some_there found (settled T (load_slots T f reads (once found))) (sym test ∙ e)
    ∙ ap (λ (xs : List ℕ). if_some xs (settled T (load_slots T f reads (once xs)))) is

pub push_wait-requires : goal.push_wait-requires
push_wait-requires c = begins_within c.len-begin.result c.args.words.now c.load_slots.new.words _ c.len-begin.ensures.len c.in_ok-load_slots.ensures

pub returns : goal.returns
returns c =
    let T = seen c.args.whole.now in
    let f = c.args.function in
    let reads = c.args.reads.now in
    let old = c.args.words.now in
    IfOk-equal _ _ _ _ c.push_wait.ensures
    (settles T c.len-begin.result old c.load_slots.new.words _ c.len-begin.ensures.len c.in_ok-load_slots.ensures
    ∙ ap (λ (xs : List ℕ). old ++ settled T (load_slots T f reads xs)) (c.as_slice-2.ensures ∙ c.in_ok-loaded.ensures ∙ ap once c.as_slice.ensures)
    ∙ ap (λ (z : List Word). old ++ z) (loads T f reads c.in_ok-found.found c.is_empty.result c.in_ok-found.ensures c.is_empty.ensures c.if-is_empty.false))

none_there : (xs : List ℕ) (words : List Word) → (length xs == 0) ≡ true → [] ≡ if_some xs words
none_there xs words e = ap (λ (z : List ℕ). if_some z words) (sym (nil_from_length xs (eqb-true (length xs) 0 e)))

pub returns-then-is_empty : goal.returns-then-is_empty
returns-then-is_empty c =
    let T = seen c.args.whole.now in
    let f = c.args.function in
    let reads = c.args.reads.now in
    let old = c.args.words.now in
    let found = c.in_ok-found.found in
    sym (append-nil old)
    ∙ ap (λ (z : List Word). old ++ z)
    (none_there found (settled T (load_slots T f reads (once found))) (sym c.is_empty.ensures ∙ c.if-is_empty.true)
    ∙ ap (λ (xs : List ℕ). if_some xs (settled T (load_slots T f reads (once xs)))) c.in_ok-found.ensures)

use Rattle.std.proofs.Common.{◌≡◌, ◌++◌, ◌==◌, ℕ, Bool, List, false, length, ap, sym, ◌∙◌}
use Rattle.std.proofs.lemmas.Result.{IfOk-equal}
use Rattle.vx_isa.specs.declared.program.Word.{Word}
use Rattle.vx_mixed.specs.declared.layout.Laid.{Laid}
use Rattle.vx_mixed.specs.LaidSettled.{laid_writes}
use Rattle.vx_target.specs.Target.{Target, behind, if_some, pause, slots_in_flight, slotted, store_slots}
use Rattle.vx_slots.specs.Seen.{seen}
use Rattle.vx_slots.proofs.Settling.{onto, some_there}
use Rattle.vx_carry.proofs.carried_word.push_behind.Goals as goal

module _ (T : Target) (f : ℕ) (items : List Laid) where
  -- where some are left in slots, they are stored behind a pause
  stored : (n : ℕ) (writes left given : List ℕ) (empty : Bool) → n ≡ slots_in_flight T f items → writes ≡ laid_writes items → left ≡ slotted T f (laid_writes items) → given ≡ left → empty ≡ (length left == 0) → empty ≡ false → pause n ++ store_slots T f writes given ≡ behind T f items
  stored n writes left given empty many w l g is test =
      ap (λ (k : ℕ). pause k ++ store_slots T f writes given) many
      ∙ ap (λ (z : List ℕ). pause (slots_in_flight T f items) ++ store_slots T f z given) w
      ∙ ap (λ (z : List ℕ). pause (slots_in_flight T f items) ++ store_slots T f (laid_writes items) z) g
      ∙ some_there left (pause (slots_in_flight T f items) ++ store_slots T f (laid_writes items) left) (sym is ∙ test)
      ∙ ap (λ (z : List ℕ). if_some z (pause (slots_in_flight T f items) ++ store_slots T f (laid_writes items) z)) l

pub returns : goal.returns
returns c =
    let T = seen c.args.whole.now in
    let plan = c.args.plan.now in
    let f = plan.function in
    let old = c.args.words.now in
    let writes = c.as_slice.result.now in
    let left = c.as_slice-2.result.now in
    IfOk-equal _ _ _ _ c.store_slots.ensures
    (onto old c.push_pause.new.words (pause plan.pause) (store_slots T f writes left) c.in_ok-push_pause.ensures
    ∙ ap (λ (z : List Word). old ++ z) (stored T f plan.items.now plan.pause writes plan.left left c.is_empty.result c.requires.pause (c.as_slice.ensures ∙ c.requires.writes) c.requires.left c.as_slice-2.ensures c.is_empty.ensures c.if-is_empty.false))

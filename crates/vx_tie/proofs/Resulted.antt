-- The result of a call comes from the answer's register to where it is kept.
use Rattle.std.proofs.Common.{◌≡◌, ◌≢◌, ◌<◌, ◌+◌, ◌*◌, ◌^◌, ℕ, ℤ, pos, Bool, true, false, Option, Some, None, List, [], ◌∷◌, length, refl, sym, ap, ◌∙◌, subst, arith}
use Rattle.std.specs.Prelude.{if◌then◌else◌}
use Rattle.vx_isa.specs.declared.operation.Register.{Register}
use Rattle.vx_isa.specs.declared.operation.Register.TheVariants.{General, Branch}
use Rattle.vx_isa.specs.declared.operation.Source.TheVariants.{Held}
use Rattle.vx_isa.specs.declared.operation.Operation.TheVariants.{Move, Store}
use Rattle.vx_isa.specs.declared.program.Word.{Word}
use Rattle.vx_isa.specs.declared.program.WordProgram.{WordProgram}
use Rattle.vx_isa.specs.Numbers.{Numbers}
use Rattle.vx_isa.specs.Operations.{is_zero}
use Rattle.vx_isa.specs.Machine.{State, register}
use Rattle.vx_target.specs.Target.{Target, answer, stack_on, kept, is_slotted, home, holds_branch, general_of, branch_of, register_of, one, pause, in_flight, settled, bytes, result_words, memory_words}
use Rattle.vx_target.specs.Tied.{IsResult, holds, word_at}
use Rattle.vx_target.proofs.Calm.{seen, AllFit}
use Rattle.vx_target.proofs.Steps.{Stands, Quiet, quiet_on, Comes, stay, comes_on, forth_comes, set_step, pause_step, store_step}

module _ (m : Numbers) (w : WordProgram) (fit : AllFit m w) (T : Target) (f sp : ℕ) (size : w.memory ≡ 4 * memory_words T) (small : 4 * memory_words T < 2 ^ 32) where
  -- a general value that can be given a result
  pub record CanGet (v : ℕ) : Type 0 where
    pub general : holds_branch T f v ≡ false
    pub not_zero : is_zero (register_of T f (v ∷ []) v) ≡ false
    pub inside : is_slotted (kept T f v) ≡ true → sp + T.slot f v < memory_words T

  pub record Resulted (u : State) (result : Option ℕ) (n : ℤ) (taken : ℕ) : Type 0 where
    pub to : State
    pub comes : Comes m w fit u to
    pub place : to.place ≡ u.place + taken
    pub quiet : Quiet u to
    pub others : (q : Register) → ((v : ℕ) → IsResult result v → q ≢ register_of T f (v ∷ []) v) → seen to.registers q ≡ seen u.registers q
    pub is : (v : ℕ) → IsResult result v → holds T to sp f v ≡ n
    pub elsewhere : (x : ℕ) → ((v : ℕ) → IsResult result v → is_slotted (kept T f v) ≡ true → x ≢ sp + T.slot f v) → word_at to.memory x ≡ word_at u.memory x

  as_general : (v : ℕ) → holds_branch T f v ≡ false → register_of T f (v ∷ []) v ≡ General (general_of T f (v ∷ []) v)
  as_general v e = ap (λ b. if b then Branch (record { cluster = 0; number = branch_of T f (v ∷ []) v }) else General (general_of T f (v ∷ []) v)) e

  abbrev words_if : Bool → ℕ → List Word
  words_if b v =
      if b
      then one (Store 0 (bytes (T.slot f v)) (stack_on 0) (Held answer)) ∷ []
      else settled T (one (Move (home T f v) (general_of T f (v ∷ []) v) (Held answer)) ∷ [])

  result_case : (v : ℕ) (n : ℤ) (u : State) → u.flying ≡ [] → register u (General (stack_on 0)) ≡ pos (4 * sp) → register u (General answer) ≡ n → CanGet v → (b : Bool) → is_slotted (kept T f v) ≡ b → Stands w.words u.place (words_if b v) → Resulted u (Some v) n (length (words_if b v))
  result_case v n u calm stack from can true e st =
      let a = store_step m w fit (memory_words T) size small u 0 (stack_on 0) (Held answer) sp (T.slot f v) calm st.0 stack (can.inside e) in
      record {
        to = a.to;
        comes = forth_comes m w fit u a.to a.forth;
        place = a.place;
        quiet = a.quiet;
        others = λ q h. ap (λ g. seen g q) a.registers;
        is = λ x q. ap (λ y. holds T a.to sp f y) q ∙ ap (λ b. if b then word_at a.to.memory (sp + T.slot f v) else register a.to (register_of T f (v ∷ []) v)) e ∙ a.at (sp + T.slot f v) refl ∙ from;
        elsewhere = λ x h. a.elsewhere x (h v refl e);
      }
  result_case v n u calm stack from can false e st =
      let g : Register = General (general_of T f (v ∷ []) v) in
      let name : register_of T f (v ∷ []) v ≡ g = as_general v can.general in
      let not_zero : is_zero g ≡ false = ap is_zero (sym name) ∙ can.not_zero in
      let a = set_step m w fit u (Move (home T f v) (general_of T f (v ∷ []) v) (Held answer)) g n calm st.0 (record { bad = refl; takes = refl; prints = refl; stores = λ y. refl; leads = λ ops. refl }) refl not_zero from in
      let late : ℕ = in_flight T.machine 0 (one (Move (home T f v) (general_of T f (v ∷ []) v) (Held answer)) ∷ []) in
      let b = pause_step m w fit a.to late a.quiet.calm (subst (λ q. Stands w.words q (pause late)) (sym a.place) st.1) in
      let pa = a.place in
      let pb = b.place in
      record {
        to = b.to;
        comes = comes_on m w fit u a.to b.to (forth_comes m w fit u a.to a.forth) b.comes;
        place = omega arith;
        quiet = quiet_on u a.to b.to a.quiet b.quiet;
        others = λ q h. ap (λ y. seen y q) b.registers ∙ a.others q (λ z. h v refl (z ∙ sym name));
        is = λ x q. ap (λ y. holds T b.to sp f y) q ∙ ap (λ c. if c then word_at b.to.memory (sp + T.slot f v) else register b.to (register_of T f (v ∷ []) v)) e ∙ ap (register b.to) name ∙ ap (λ y. seen y g) b.registers ∙ a.at;
        elsewhere = λ x h. ap (λ y. word_at y x) (b.memory ∙ a.memory);
      }

  pub result_run : (result : Option ℕ) (n : ℤ) (u : State) → u.flying ≡ [] → register u (General (stack_on 0)) ≡ pos (4 * sp) → register u (General answer) ≡ n → ((v : ℕ) → IsResult result v → CanGet v) → Stands w.words u.place (result_words T f result) → Resulted u result n (length (result_words T f result))
  result_run None n u calm stack from can st = record { to = u; comes = stay m w fit u; place = omega arith; quiet = record { calm = calm; input = refl; out = refl }; others = λ q h. refl; is = λ v i. absurd i; elsewhere = λ x h. refl }
  result_run (Some v) n u calm stack from can st = result_case v n u calm stack from (can v refl) (is_slotted (kept T f v)) refl st

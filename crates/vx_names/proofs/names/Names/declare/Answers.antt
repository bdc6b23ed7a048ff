use Rattle.std.proofs.Common.{ap, sym, ◌∙◌, ◌≡◌, ◌++◌, ◌∷◌, [], ◌+◌, ◌-◌, if◌then◌else◌, List, ℕ, Some, reverse, length, take, subst, arith, length-append}
use Rattle.std.proofs.Math.Seq.{take-append_seam}
use Rattle.std.specs.Vec.{vec_len}
use Rattle.vx_ast.specs.Scopes.{find, is_at, look, same_name, predeclared, known_of}
use Rattle.vx_names.specs.declared.local.Local.{Local}
use Rattle.vx_names.specs.Agrees.{Agrees, known_in}
use Rattle.vx_names.specs.Entries.{entry_of}
use Rattle.vx_names.proofs.Agreeing.{agrees_along, agrees_pushed, latest_first}
use Rattle.vx_names.proofs.Declaring.{declared_pushed, declared_still}
use Rattle.vx_names.proofs.names.Names.declare.Goals as goal

-- one more that is taken away again
unpushed : (ls pushed popped : List Local) (l : Local) (n : ℕ) → pushed ≡ ls ++ l ∷ [] → n ≡ length pushed → popped ≡ take (n - 1) pushed → popped ≡ ls
unpushed ls pushed popped l n p w r =
    let m : length (ls ++ l ∷ []) ≡ length ls + 1 = length-append ls (l ∷ []) in
    let k : n - 1 ≡ length ls = omega (arith, w, ap (λ (z : List Local). length z) p, m) in
    r ∙ ap (λ (z : List Local). take (n - 1) z) p ∙ ap (λ (z : ℕ). take z (ls ++ l ∷ [])) k ∙ take-append_seam ls (l ∷ [])

pub invariant_of-self-in-Ok : goal.invariant_of-self-in-Ok
invariant_of-self-in-Ok c =
    let file = predeclared ++ known_of c.self.inside.above c.self.inside.names in
    let ls = c.self.inside.locals.items in
    let before = c.look-before.ensures ∙ c.self.invariant.0.table_says c.args.name.now ∙ ap (λ (z : List ℕ). find z (known_in (reverse ls) ++ file)) (sym c.in_ok-bytes.ensures) in (
      agrees_pushed _ _ ls c.push.new.self.items _ _ c.in_ok-push.ensures.items c.self.invariant.0 before
          (λ x. c.in-Ok.ensures.ok x ∙ ap (λ (z : List ℕ). if same_name x z then Some (record { depth = c.self.inside.depth; named = c.args.named }) else entry_of x c.self.inside.table.entries.entries) (sym c.in_ok-bytes.ensures)),
      c.self.invariant.1,
    )

pub returns-in-Ok : goal.returns-in-Ok
unfolding look
returns-in-Ok c =
    let ls = c.self.inside.locals.items in
    let other = ap (λ m. is_at c.self.inside.depth m) (sym (c.look-before.ensures ∙ c.self.invariant.0.table_says c.args.name.now)) ∙ sym c.is_at.ensures ∙ c.if-is_at.false in
    declared_pushed c.args.name.now c.in_ok-bytes.bytes c.args.named _ c.args.self.now (known_in (reverse c.push.new.self.items)) c.self.view_is c.in_ok-bytes.ensures
    (ap (λ (z : List Local). known_in (reverse z)) c.in_ok-push.ensures.items ∙ ap (λ (z : List Local). known_in z) (latest_first ls _)) other

pub returns-then-is_at : goal.returns-then-is_at
unfolding look
returns-then-is_at c =
    let here = ap (λ m. is_at c.self.inside.depth m) (sym (c.look-before.ensures ∙ c.self.invariant.0.table_says c.args.name.now)) ∙ sym c.is_at.ensures ∙ c.if-is_at.true in
    sym c.self.view_is ∙ declared_still c.args.name.now c.args.named _ c.args.self.now c.self.view_is here

pub invariant_of-self : goal.invariant_of-self
invariant_of-self c = (
  subst (λ (z : List Local). Agrees (λ x. entry_of x c.self.inside.table.entries.entries) (reverse z) (predeclared ++ known_of c.self.inside.above c.self.inside.names)) (sym c.in_err-push.ensures.items) c.self.invariant.0,
  c.self.invariant.1,
)

pub invariant_of-self-in-Err : goal.invariant_of-self-in-Err
invariant_of-self-in-Err c =
    let file = predeclared ++ known_of c.self.inside.above c.self.inside.names in
    let ls = c.self.inside.locals.items in
    let n : vec_len c.push.new.self ≡ length c.push.new.self.items = c.push.new.self.ok.0 in
    let same : c.pop.new.self.items ≡ ls = unpushed ls c.push.new.self.items c.pop.new.self.items _ (vec_len c.push.new.self) c.in_ok-push.ensures.items n c.pop.ensures.rest in (
      subst (λ (z : List Local). Agrees (λ x. entry_of x c.put.new.self.entries.entries) (reverse z) file) (sym same)
          (agrees_along (λ x. entry_of x c.self.inside.table.entries.entries) (λ x. entry_of x c.put.new.self.entries.entries) (reverse ls) file c.self.invariant.0 c.in-Err.ensures.err),
      c.self.invariant.1,
    )

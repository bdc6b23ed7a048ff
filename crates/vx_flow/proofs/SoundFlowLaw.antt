-- The test of the graphs of a program and the words for it.
use Rattle.std.proofs.Common.{◌≡◌, ◌↔◌, inl, inr, ℕ, zero, suc, ◌<◌, ◌≤◌, Bool, true, false, ◌==◌, List, [], ◌∷◌, length, slice_get, Option, Some, None, refl, sym, ap, subst, ◌∙◌, eq-eqb, arith}
use Rattle.std.proofs.lemmas.Bool.{and_parts, false≢true, eqb-true, ltb-true, lt-ltb}
use Rattle.std.specs.Cmp.Derive.{both_true}
use Rattle.std.specs.List.{list_all, list_any}
use Rattle.std.specs.Prelude.{not}
use Rattle.vx_flow.specs.declared.graph.Operand.{Operand}
use Rattle.vx_flow.specs.declared.graph.Operand.TheVariants.{Held, Number, Stack}
use Rattle.vx_flow.specs.declared.graph.Op.{Op}
use Rattle.vx_flow.specs.declared.graph.Op.TheVariants.{Text, Base}
use Rattle.vx_flow.specs.declared.graph.Exit.{Exit}
use Rattle.vx_flow.specs.declared.graph.Exit.TheVariants.{Goto, Split, Call, Return, Ends}
use Rattle.vx_flow.specs.declared.graph.Block.{Block}
use Rattle.vx_flow.specs.declared.graph.Array.{Array}
use Rattle.vx_flow.specs.declared.graph.Graph.{Graph}
use Rattle.vx_flow.specs.declared.graph.Global.{Global}
use Rattle.vx_flow.specs.declared.graph.Flow.{Flow}
use Rattle.vx_flow.specs.Effects.{IsIn}
use Rattle.vx_flow.specs.Sound.{is_given, is_no_global, is_sound, are_distinct, begins_with, has_parameters, is_text_there, is_that, is_given_base, makes_base, is_base, is_base_operand, agrees, hands_over, takes, is_call_there, is_block_there, is_sound_function, is_sound_flow, HasOperation, HasExit, IsBase, given, made, Callable, IsBaseOperand, base, IsGivenBase, HasGlobal, SoundFlow}
use Rattle.vx_flow.proofs.SoundLists.{or_parts, or_left, or_right, differs, differs_of, all_in, all_of, all_at, all_of_at, any_in, any_of, distinct_at, distinct_of}
use Rattle.vx_flow.proofs.SoundBases.{none_given, that_is, that_of, array_of_base, base_of_array}
use Rattle.vx_flow.proofs.SoundLaw.{sound_is, sound_of}

-- what is called

callable_is : (flow : Flow) (f count : ℕ) (o : Option Graph) → slice_get flow.functions f ≡ o → has_parameters count o ≡ true → Callable flow f count
callable_is flow f count None e h = absurd (false≢true h)
callable_is flow f count (Some g) e h = record { graph = g; is = e; parameters = eqb-true (length g.parameters) count h }

callable_of : (flow : Flow) (f count : ℕ) → Callable flow f count → has_parameters count (slice_get flow.functions f) ≡ true
callable_of flow f count c = subst (λ o. has_parameters count o ≡ true) (sym c.is) (eq-eqb (length c.graph.parameters) count c.parameters)

-- bases

found_at : {A : Type 0} (xs : List A) (x : A) → IsIn x xs → (i : ℕ) × (slice_get xs i ≡ Some x)
found_at [] x m = absurd m
found_at (y ∷ ys) x (inl e) = (zero, ap Some (sym e))
found_at (y ∷ ys) x (inr m) = let (i, e) = found_at ys x m in (suc i, e)

in_at : {A : Type 0} (xs : List A) (i : ℕ) (x : A) → slice_get xs i ≡ Some x → IsIn x xs
in_at [] i x e = absurd (cc)
in_at (y ∷ ys) zero x e = inl (let q : y ≡ x = cc in sym q)
in_at (y ∷ ys) (suc i) x e = inr (in_at ys i x e)

pub given_base_is : (g : Graph) (v : ℕ) → is_given_base g v ≡ true → IsGivenBase g v
given_base_is g v h =
    let found = any_in (λ array. is_that v array.base) g.arrays h in
    let (a, e) = found_at g.arrays found.item found.has in
    record { array = a; base = base_of_array g.arrays a found.item v e (that_is v found.item.base found.holds) }

pub given_base_of : (g : Graph) (v : ℕ) → IsGivenBase g v → is_given_base g v ≡ true
given_base_of g v b =
    let (array, e, f) = array_of_base g.arrays b.array v b.base in any_of (λ array. is_that v array.base) g.arrays array (in_at g.arrays b.array array e) (that_of v array.base f)

made_base : (v : ℕ) (op : Op) → makes_base v op ≡ true → (a : ℕ) × (x : Operand) × (op ≡ Base v a x)
made_base v (Base u a x) h = (a, x, ap (λ w. Base w a x) (eqb-true u v h))
made_base v op h = absurd (false≢true h)

pub tested_base : (g : Graph) (v : ℕ) → is_base g v ≡ true → IsBase g v
tested_base g v h = elim (or_parts (is_given_base g v) (list_any (λ block. list_any (makes_base v) block.ops) g.blocks) h) [
  | inl k ↦ let b = given_base_is g v k in given b.array b.base
  | inr k ↦ (let block = any_in (λ block. list_any (makes_base v) block.ops) g.blocks k in
      let found = any_in (makes_base v) block.item.ops block.holds in
      let (a, x, e) = made_base v found.item found.holds in
      made a x (record { block = block.item; has = block.has; stands = subst (λ op. IsIn op block.item.ops) e found.has }))
]

pub base_tested : (g : Graph) (v : ℕ) → IsBase g v → is_base g v ≡ true
base_tested g v (given a e) = or_left (is_given_base g v) (list_any (λ block. list_any (makes_base v) block.ops) g.blocks) (given_base_of g v (record { array = a; base = e }))
base_tested g v (made a x at) = or_right (is_given_base g v) (list_any (λ block. list_any (makes_base v) block.ops) g.blocks)
    (any_of (λ block. list_any (makes_base v) block.ops) g.blocks at.block at.has (any_of (makes_base v) at.block.ops (Base v a x) at.stands (eq-eqb v v refl)))

base_operand_is : (g : Graph) (x : Operand) → is_base_operand g x ≡ true → IsBaseOperand g x
base_operand_is g (Held v) h = base (tested_base g v h)
base_operand_is g (Number n) h = absurd (false≢true h)
base_operand_is g Stack h = absurd (false≢true h)

base_operand_of : (g : Graph) (x : Operand) → IsBaseOperand g x → is_base_operand g x ≡ true
base_operand_of g x (base {v} b) = base_tested g v b

-- arguments

agree_left : (a b : Bool) → agrees a b ≡ true → a ≡ true → b ≡ true
agree_left true b h e = h
agree_left false b h e = absurd (false≢true e)

agree_right : (a b : Bool) → agrees a b ≡ true → b ≡ true → a ≡ true
agree_right true b h e = refl
agree_right false true h e = absurd (false≢true h)
agree_right false false h e = absurd (false≢true e)

agree_of : (a b : Bool) → (a ≡ true → b ≡ true) → (b ≡ true → a ≡ true) → agrees a b ≡ true
agree_of true b f k = f refl
agree_of false true f k = absurd (false≢true (k refl))
agree_of false false f k = refl

abbrev AgreesAt : Graph → Graph → Operand → ℕ → Type 0
AgreesAt g h x p = (IsBaseOperand g x → IsGivenBase h p) × (IsGivenBase h p → IsBaseOperand g x)

agrees_at : (g h : Graph) (x : Operand) (p : ℕ) → agrees (is_base_operand g x) (is_given_base h p) ≡ true → AgreesAt g h x p
agrees_at g h x p k = (
  λ b. given_base_is h p (agree_left (is_base_operand g x) (is_given_base h p) k (base_operand_of g x b)),
  λ b. base_operand_is g x (agree_right (is_base_operand g x) (is_given_base h p) k (given_base_of h p b)),
)

agrees_of : (g h : Graph) (x : Operand) (p : ℕ) → AgreesAt g h x p → agrees (is_base_operand g x) (is_given_base h p) ≡ true
agrees_of g h x p k = agree_of (is_base_operand g x) (is_given_base h p) (λ b. given_base_of h p (k.0 (base_operand_is g x b))) (λ b. base_operand_of g x (k.1 (given_base_is h p b)))

one_for_each : (g h : Graph) (xs : List Operand) (ps : List ℕ) → hands_over g h xs ps ≡ true → length ps ≡ length xs
one_for_each g h [] [] k = refl
one_for_each g h [] (p ∷ ps) k = absurd (false≢true k)
one_for_each g h (x ∷ xs) [] k = absurd (false≢true k)
one_for_each g h (x ∷ xs) (p ∷ ps) k = ap suc (one_for_each g h xs ps (and_parts _ _ k).1)

handed_at : (g h : Graph) (xs : List Operand) (ps : List ℕ) (i : ℕ) (x : Operand) (p : ℕ) → hands_over g h xs ps ≡ true → slice_get xs i ≡ Some x → slice_get ps i ≡ Some p → AgreesAt g h x p
handed_at g h [] ps i x p k e f = absurd (cc)
handed_at g h (y ∷ xs) [] i x p k e f = absurd (false≢true k)
handed_at g h (y ∷ xs) (q ∷ ps) zero x p k e f =
    let d : y ≡ x = cc in
    let r : q ≡ p = cc in
    subst (AgreesAt g h x) r (subst (λ z. AgreesAt g h z q) d (agrees_at g h y q (and_parts _ _ k).0))
handed_at g h (y ∷ xs) (q ∷ ps) (suc i) x p k e f = handed_at g h xs ps i x p (and_parts _ _ k).1 e f

hands_of : (g h : Graph) (xs : List Operand) (ps : List ℕ) → length ps ≡ length xs → ((i : ℕ) (x : Operand) (p : ℕ) → slice_get xs i ≡ Some x → slice_get ps i ≡ Some p → AgreesAt g h x p) → hands_over g h xs ps ≡ true
hands_of g h [] [] e f = refl
hands_of g h [] (p ∷ ps) e f = absurd (cc)
hands_of g h (x ∷ xs) [] e f = absurd (cc)
hands_of g h (x ∷ xs) (p ∷ ps) e f = both_true (agrees_of g h x p (f zero x p refl refl)) (hands_of g h xs ps (omega arith) (λ i y q d r. f (suc i) y q d r))

-- the function that is called, with what it takes
record Taken (flow : Flow) (g : Graph) (f : ℕ) (arguments : List Operand) : Type 0 where
  graph : Graph
  is : slice_get flow.functions f ≡ Some graph
  hands : hands_over g graph arguments graph.parameters ≡ true

taken_by : (flow : Flow) (g : Graph) (f : ℕ) (arguments : List Operand) (o : Option Graph) → slice_get flow.functions f ≡ o → takes g arguments o ≡ true → Taken flow g f arguments
taken_by flow g f arguments None e h = absurd (false≢true h)
taken_by flow g f arguments (Some graph) e h = record { graph = graph; is = e; hands = h }

call_is : (flow : Flow) (g : Graph) (exit : Exit) (f next : ℕ) (arguments : List Operand) (result : Option ℕ) → is_call_there flow g exit ≡ true → Call f arguments result next ≡ exit → Taken flow g f arguments
call_is flow g exit f next arguments result h e =
    let k : takes g arguments (slice_get flow.functions f) ≡ true = subst (λ x. is_call_there flow g x ≡ true) (sym e) h in
    taken_by flow g f arguments (slice_get flow.functions f) refl k

call_of : (flow : Flow) (g : Graph) (exit : Exit) → ((f next : ℕ) (arguments : List Operand) (result : Option ℕ) → Call f arguments result next ≡ exit → Taken flow g f arguments) → is_call_there flow g exit ≡ true
call_of flow g (Call f arguments result next) k = let t = k f next arguments result refl in subst (λ o. takes g arguments o ≡ true) (sym t.is) t.hands
call_of flow g (Goto c) k = refl
call_of flow g (Split p c d) k = refl
call_of flow g (Return x) k = refl
call_of flow g (Ends t) k = refl

pub text_of : (flow : Flow) (op : Op) → ((n : ℕ) → op ≡ Text n → n < length flow.texts) → is_text_there flow op ≡ true
text_of flow (Text n) k = lt-ltb n (length flow.texts) (k n refl)
text_of flow op k = refl

-- globals

global_is : (gs : List Global) (arrays : List Array) (i : ℕ) (x : Global) → begins_with gs arrays ≡ true → slice_get gs i ≡ Some x → HasGlobal arrays i x.words
global_is [] arrays i x h e = absurd (cc)
global_is (g ∷ gs) [] i x h e = absurd (false≢true h)
global_is (g ∷ gs) (array ∷ arrays) zero x h e =
    let q : g ≡ x = cc in
    let k = and_parts _ _ (and_parts _ _ h).0 in
    let l = and_parts _ _ k.0 in
    record { array = array; is = refl; global = l.0; size = eqb-true array.words g.words l.1 ∙ ap (λ y. y.words) q; base = none_given array.base k.1 }
global_is (g ∷ gs) (array ∷ arrays) (suc i) x h e =
    let later = global_is gs arrays i x (and_parts _ _ h).1 e in
    record { array = later.array; is = later.is; global = later.global; size = later.size; base = later.base }

unset : (b : Bool) → not b ≡ true → b ≡ false
unset true h = absurd (false≢true h)
unset false h = refl

own_is : (gs : List Global) (arrays : List Array) (i : ℕ) (array : Array) → begins_with gs arrays ≡ true → slice_get arrays i ≡ Some array → length gs ≤ i → array.global ≡ false
own_is [] arrays i array h e far = unset array.global (all_at is_no_global arrays i array h e)
own_is (g ∷ gs) [] i array h e far = absurd (cc)
own_is (g ∷ gs) (a ∷ arrays) zero array h e far = absurd (omega arith)
own_is (g ∷ gs) (a ∷ arrays) (suc i) array h e far = own_is gs arrays i array (and_parts _ _ h).1 e (omega arith)

begins_of : (gs : List Global) (arrays : List Array) → ((i : ℕ) (x : Global) → slice_get gs i ≡ Some x → HasGlobal arrays i x.words) → ((i : ℕ) (array : Array) → slice_get arrays i ≡ Some array → length gs ≤ i → array.global ≡ false) → begins_with gs arrays ≡ true
begins_of [] arrays f k = all_of_at is_no_global arrays (λ i a e. ap not (k i a e (omega arith)))
begins_of (g ∷ gs) [] f k = let there = f zero g refl in let e = there.is in absurd (cc)
begins_of (g ∷ gs) (array ∷ arrays) f k =
    let there = f zero g refl in
    let e = there.is in
    let q : there.array ≡ array = cc in
    let global : array.global ≡ true = ap (λ a. a.global) (sym q) ∙ there.global in
    let words : array.words ≡ g.words = ap (λ a. a.words) (sym q) ∙ there.size in
    let bare : array.base ≡ None = ap (λ a. a.base) (sym q) ∙ there.base in
    both_true (both_true (both_true global (eq-eqb array.words g.words words)) (ap (λ o. not (is_given o)) bare))
    (begins_of gs arrays
    (λ i x e. let later = f (suc i) x e in record { array = later.array; is = later.is; global = later.global; size = later.size; base = later.base })
    (λ i a e far. k (suc i) a e (omega arith)))

-- functions

record Tested (flow : Flow) (g : Graph) : Type 0 where
  graph : is_sound g ≡ true
  blocks : not (length g.blocks == 0) ≡ true
  parameters : are_distinct g.parameters ≡ true
  globals : begins_with flow.globals g.arrays ≡ true
  there : list_all (is_block_there flow g) g.blocks ≡ true

tested : (flow : Flow) (g : Graph) → is_sound_flow flow ≡ true → IsIn g flow.functions → Tested flow g
tested flow g h m =
    let (abcd, e) = and_parts _ _ (all_in (is_sound_function flow) flow.functions g (and_parts _ _ h).1 m) in
    let (abc, d) = and_parts _ _ abcd in
    let (ab, c) = and_parts _ _ abc in
    let (a, b) = and_parts _ _ ab in
    record { graph = a; blocks = b; parameters = c; globals = d; there = e }

positive : (n : ℕ) → not (n == 0) ≡ true → 0 < n
positive zero h = absurd (differs zero zero h refl)
positive (suc n) h = omega arith

text_is : (flow : Flow) (g : Graph) (n : ℕ) → Tested flow g → HasOperation g (Text n) → n < length flow.texts
text_is flow g n t at =
    let k : is_text_there flow (Text n) ≡ true = all_in (is_text_there flow) at.block.ops (Text n) (and_parts _ _ (all_in (is_block_there flow g) g.blocks at.block t.there at.has)).0 at.stands in
    ltb-true n (length flow.texts) k

-- what the test of a call tells
call_tested : (flow : Flow) (g : Graph) (f next : ℕ) (arguments : List Operand) (result : Option ℕ) → Tested flow g → HasExit g (Call f arguments result next) → Taken flow g f arguments
call_tested flow g f next arguments result t at =
    call_is flow g at.block.exit f next arguments result (and_parts _ _ (all_in (is_block_there flow g) g.blocks at.block t.there at.has)).1 at.ends

called_one : (flow : Flow) (g h : Graph) (f k p : ℕ) (arguments : List Operand) (x : Operand) (t : Taken flow g f arguments) → slice_get flow.functions f ≡ Some h → slice_get arguments k ≡ Some x → slice_get h.parameters k ≡ Some p → AgreesAt g h x p
called_one flow g h f k p arguments x t e d q =
    let same : t.graph ≡ h = (let s = t.is in cc) in
    handed_at g h arguments h.parameters k x p (subst (λ y. hands_over g y arguments y.parameters ≡ true) same t.hands) d q

pub flow_is : (flow : Flow) → is_sound_flow flow ≡ true → SoundFlow flow
flow_is flow h = record {
  graphs = λ g m. sound_is g (tested flow g h m).graph;
  blocks = λ g m. positive (length g.blocks) (tested flow g h m).blocks;
  parameters = λ g i j v m below e f. distinct_at g.parameters i j v (tested flow g h m).parameters below e f;
  main = callable_is flow flow.main 0 (slice_get flow.functions flow.main) refl (and_parts _ _ h).0;
  calls = λ g f next arguments result m at. let t = call_tested flow g f next arguments result (tested flow g h m) at in
      record { graph = t.graph; is = t.is; parameters = one_for_each g t.graph arguments t.graph.parameters t.hands };
  handed = λ g y f next k p arguments result x m at e d q. called_one flow g y f k p arguments x (call_tested flow g f next arguments result (tested flow g h m) at) e d q;
  texts = λ g n m at. text_is flow g n (tested flow g h m) at;
  globals = λ g i x m e. global_is flow.globals g.arrays i x (tested flow g h m).globals e;
  own = λ g i array m e far. own_is flow.globals g.arrays i array (tested flow g h m).globals e far;
}

taken_of : (flow : Flow) (g : Graph) (f next : ℕ) (arguments : List Operand) (result : Option ℕ) → SoundFlow flow → IsIn g flow.functions → HasExit g (Call f arguments result next) → Taken flow g f arguments
taken_of flow g f next arguments result s m at =
    let c = s.calls g f next arguments result m at in
    record { graph = c.graph; is = c.is; hands = hands_of g c.graph arguments c.graph.parameters c.parameters (λ k x p d q. s.handed g c.graph f next k p arguments result x m at c.is d q) }

block_of : (flow : Flow) (g : Graph) (block : Block) → SoundFlow flow → IsIn g flow.functions → IsIn block g.blocks → is_block_there flow g block ≡ true
block_of flow g block s m n = both_true
    (all_of (is_text_there flow) block.ops (λ op o. text_of flow op (λ number e. s.texts g number m (record { block = block; has = n; stands = subst (λ x. IsIn x block.ops) e o }))))
    (call_of flow g block.exit (λ f next arguments result e. taken_of flow g f next arguments result s m (record { block = block; has = n; ends = e })))

function_of : (flow : Flow) (g : Graph) → SoundFlow flow → IsIn g flow.functions → is_sound_function flow g ≡ true
function_of flow g s m =
    let some : 0 < length g.blocks = s.blocks g m in
    both_true (both_true (both_true (both_true
    (sound_of g (s.graphs g m))
    (differs_of (length g.blocks) 0 (λ e. omega arith)))
    (distinct_of g.parameters (λ i j v below e f. s.parameters g i j v m below e f)))
    (begins_of flow.globals g.arrays (λ i x e. s.globals g i x m e) (λ i array e far. s.own g i array m e far)))
    (all_of (is_block_there flow g) g.blocks (λ block n. block_of flow g block s m n))

pub flow_of : (flow : Flow) → SoundFlow flow → is_sound_flow flow ≡ true
flow_of flow s = both_true (callable_of flow flow.main 0 s.main) (all_of (is_sound_function flow) flow.functions (λ g m. function_of flow g s m))

-- a test that comes to what the test of the graphs does
pub told : (flow : Flow) (t : Bool) → t ≡ is_sound_flow flow → (t ≡ true) ↔ SoundFlow flow
told flow t e = (λ h. flow_is flow (sym e ∙ h), λ s. e ∙ flow_of flow s)

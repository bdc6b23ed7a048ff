-- Where the words of frames are: within the memory, apart from each other and from the globals.
use Rattle.std.proofs.Common.{◌≡◌, ◌<◌, ◌≤◌, ◌⊎◌, inl, inr, ◌+◌, ◌-◌, ◌*◌, ℕ, zero, suc, ℤ, Bool, true, false, not, ◌&&◌, ◌||◌, Option, Some, None, List, [], ◌∷◌, length, refl, sym, ap, ◌∙◌, subst, arith, ltb}
use Rattle.std.specs.Prelude.{if◌then◌else◌, slice_get}
use Rattle.std.specs.List.{list_any}
use Rattle.std.proofs.lemmas.Bool.{ltb-true, ltb-false}
use Rattle.vx_flow.specs.declared.graph.Array.{Array}
use Rattle.vx_flow.specs.declared.graph.Global.{Global}
use Rattle.vx_flow.specs.declared.graph.Flow.{Flow}
use Rattle.vx_flow.specs.Effects.{IsIn}
use Rattle.vx_flow.specs.Meaning.{Frame, spot_behind, spot_in, deepest}
use Rattle.vx_flow.specs.Sound.{is_given, has_base, is_own as is_own_or_none, SoundFlow}
use Rattle.vx_flow.specs.declared.graph.Operand.{Operand}
use Rattle.vx_isa.specs.declared.operation.Register.TheVariants.{Link}
use Rattle.vx_isa.specs.Machine.{State}
use Rattle.vx_mixed.specs.declared.layout.VirtualWord.{VirtualWord}
use Rattle.vx_mixed.specs.declared.layout.VirtualWord.TheVariants.{Planned, Drain, Transfer, Choice, Call, Return, Ends}
use Rattle.vx_mixed.specs.declared.layout.VWords.{VWords}
use Rattle.vx_mixed.specs.LaidSettled.{LeadsTo}
use Rattle.vx_regs.specs.Intervals.{IsLive, is_live}
use Rattle.vx_target.specs.Target.{Target, is_own, is_call_word, is_caller, is_slotted, kept, past_there, past_from, most_transfers, past, memory_words}
use Rattle.vx_target.specs.Tied.{Stacked, waiting_at, waiting_above, there_of, Shows, begins_at, words_before, IsFunction, IsResult, Below, Deep, word_at, link_in}
use Rattle.vx_target.specs.Frames.{CallsAt, IsSaved, NeedsSlot, is_saved, is_spilled, IsFramed}
use Rattle.vx_target.specs.Seats.{Framed, is_link, is_slot}
use Rattle.vx_target.proofs.Names.{in_register}

pub get_below : {A : Type 0} (xs : List A) (i : ℕ) (x : A) → slice_get xs i ≡ Some x → i < length xs
get_below [] i x e = absurd (cc)
get_below (y ∷ ys) zero x e = omega arith
get_below (y ∷ ys) (suc i) x e = let h = get_below ys i x e in omega arith

pub get_some : {A : Type 0} (xs : List A) (i : ℕ) → i < length xs → (x : A) × (slice_get xs i ≡ Some x)
get_some [] i h = absurd (omega arith)
get_some (y ∷ ys) zero h = (y, refl)
get_some (y ∷ ys) (suc i) h = get_some ys i (omega arith)

pub get_beyond : {A : Type 0} (xs : List A) (i : ℕ) → length xs ≤ i → slice_get xs i ≡ None
get_beyond [] i le = refl
get_beyond (x ∷ xs) zero le = absurd (omega arith)
get_beyond (x ∷ xs) (suc i) le = get_beyond xs i (omega arith)

-- what holds at a place, and where a transfer leads if it holds at the transfer, holds past transfers
pub past_keeps : (words : List VirtualWord) (Holds : ℕ → Type 0) → ((q to : ℕ) → slice_get words q ≡ Some (Transfer to) → Holds q → Holds to) → (n q : ℕ) → Holds q → Holds (past_from words n q)
past_keeps words Holds passes zero q h = h
past_keeps words Holds passes (suc n) q h = past_keeps words Holds passes n (past_there q (slice_get words q)) (by (slice_get words q) refl)
  where
    by : (o : Option VirtualWord) → slice_get words q ≡ o → Holds (past_there q o)
    by None e = h
    by (Some (Planned r w items)) e = h
    by (Some (Drain n)) e = h
    by (Some (Transfer to)) e = passes q to e h
    by (Some (Choice test to)) e = h
    by (Some (Call g arguments result)) e = h
    by (Some (Return x)) e = h
    by (Some (Ends k)) e = h

-- a place past transfers is in the layout
pub past_below : (T : Target) (f : ℕ) → ((p q : ℕ) (word : VirtualWord) → slice_get (T.layout f).words p ≡ Some word → LeadsTo p word q → q < length (T.layout f).words) → (q : ℕ) → q < length (T.layout f).words → past T f q < length (T.layout f).words
past_below T f inside q below = past_keeps (T.layout f).words (λ d. d < length (T.layout f).words) (λ d to e h. inside d to (Transfer to) e refl) most_transfers q below

pub get_in : {A : Type 0} (xs : List A) (i : ℕ) (x : A) → slice_get xs i ≡ Some x → IsIn x xs
get_in [] i x e = absurd (cc)
get_in (y ∷ ys) zero x e = inl (cc)
get_in (y ∷ ys) (suc i) x e = inr (get_in ys i x e)

-- where the link is

any_call : (xs : List VirtualWord) (i : ℕ) (x : VirtualWord) → slice_get xs i ≡ Some x → is_call_word x ≡ true → list_any is_call_word xs ≡ true
any_call [] i x e h = absurd (cc)
any_call (y ∷ ys) zero x e h = let s : y ≡ x = cc in ap (λ b. b || list_any is_call_word ys) (ap is_call_word s ∙ h)
any_call (y ∷ ys) (suc i) x e h = ap (λ b. is_call_word y || b) (any_call ys i x e h) ∙ or_true (is_call_word y)
  where
    or_true : (b : Bool) → (b || true) ≡ true
    or_true true = refl
    or_true false = refl

-- a function that calls keeps it in its frame
pub link_in_frame : (T : Target) (u : State) (sp f p g : ℕ) (arguments : List Operand) (result : Option ℕ) → slice_get (T.layout f).words p ≡ Some (Call g arguments result) → link_in T u sp f ≡ word_at u.memory sp
link_in_frame T u sp f p g arguments result e = ap (λ b. if b then word_at u.memory sp else u.registers Link) (any_call (T.layout f).words p (Call g arguments result) e refl)

pub link_stays : (T : Target) (u v : State) (sp f : ℕ) → word_at v.memory sp ≡ word_at u.memory sp → v.registers Link ≡ u.registers Link → link_in T v sp f ≡ link_in T u sp f
link_stays T u v sp f memory register = by (is_caller T f)
  where
    by : (b : Bool) → (if b then word_at v.memory sp else v.registers Link) ≡ (if b then word_at u.memory sp else u.registers Link)
    by true = memory
    by false = register

-- the globals stand one after the other

pub before_all : (gs : List Global) (a i : ℕ) (x : Global) → slice_get gs a ≡ Some x → i < x.words → words_before gs a + i < words_before gs (length gs)
before_all [] a i x e h = absurd (cc)
before_all (g ∷ gs) zero i x e h = let q : g.words ≡ x.words = (let z : g ≡ x = cc in ap (λ y. y.words) z) in omega arith
before_all (g ∷ gs) (suc a) i x e h = let k = before_all gs a i x e h in omega arith

pub before_le : (gs : List Global) (a : ℕ) → a ≤ length gs → words_before gs a ≤ words_before gs (length gs)
before_le [] a h = omega arith
before_le (g ∷ gs) zero h = omega arith
before_le (g ∷ gs) (suc a) h = let k = before_le gs a (omega arith) in omega arith

pub before_apart : (gs : List Global) (a b i j : ℕ) (x y : Global) → slice_get gs a ≡ Some x → slice_get gs b ≡ Some y → i < x.words → j < y.words → words_before gs a + i ≡ words_before gs b + j → (a ≡ b) × (i ≡ j)
before_apart [] a b i j x y ea eb hi hj e = absurd (cc)
before_apart (g ∷ gs) zero zero i j x y ea eb hi hj e = (refl, omega arith)
before_apart (g ∷ gs) zero (suc b) i j x y ea eb hi hj e = absurd (let q : g.words ≡ x.words = (let z : g ≡ x = cc in ap (λ y. y.words) z) in omega arith)
before_apart (g ∷ gs) (suc a) zero i j x y ea eb hi hj e = absurd (let q : g.words ≡ y.words = (let z : g ≡ y = cc in ap (λ y. y.words) z) in omega arith)
before_apart (g ∷ gs) (suc a) (suc b) i j x y ea eb hi hj e = let k = before_apart gs a b i j x y ea eb hi hj (omega arith) in (ap suc k.0, k.1)

no_own : (global given : Bool) → global ≡ true → (not global && not given) ≡ false
no_own true given e = refl
no_own false given e = absurd (cc)

is_owned : (global : Bool) (base : Option ℕ) → global ≡ false → base ≡ None → (not global && not (is_given base)) ≡ true
is_owned global base e f = ap (λ t. not t && not (is_given base)) e ∙ ap (λ o. not (is_given o)) f

module _ (T : Target) (flow : Flow) (some_frame : 1 ≤ T.frame) (globals_are : T.globals ≡ words_before flow.globals (length flow.globals)) (sound : SoundFlow flow) where
  abbrev pub Globals : ℕ
  Globals = length flow.globals

  abbrev pub HasArray : ℕ → ℕ → Array → Type 0
  HasArray f a array = slice_get (T.graph f).arrays a ≡ Some array

  -- the frame of the active function is within the memory and above the globals
  pub frame_room : (sp k : ℕ) → Deep T sp (suc k) → sp + T.frame ≤ memory_words T
  frame_room sp k d = let e = d.is in let m : T.frame * suc k ≡ T.frame * k + T.frame = grind arith in omega arith

  pub above_globals : (sp k : ℕ) → Deep T sp (suc k) → T.globals ≤ sp
  above_globals sp k d =
      let e = d.is in
      let most = d.most in
      let j : ℕ = deepest - suc k in
      let q : deepest ≡ suc k + j = omega arith in
      let m : T.frame * deepest ≡ T.frame * suc k + T.frame * j = ap (λ x. T.frame * x) q ∙ grind arith in
      omega arith

  module _ (f : ℕ) (ls : List VWords) (is : IsFunction T flow ls f) (framed : IsFramed T flow f) where
    graph_in : IsIn (T.graph f) flow.functions
    graph_in = get_in flow.functions f (T.graph f) is.graph

    pub record IsGlobal (a : ℕ) (array : Array) : Type 0 where
      pub below : a < Globals
      pub item : Global
      pub has : slice_get flow.globals a ≡ Some item
      pub words : array.words ≡ item.words
      pub begins : (sp : ℕ) → begins_at T sp f a ≡ words_before flow.globals a
      pub spot : (passed : List (Option ℕ)) (base : ℕ) → spot_in Globals passed base a ≡ a

    -- an array of its own
    pub record IsLocal (a : ℕ) (array : Array) : Type 0 where
      pub from : Globals ≤ a
      pub bare : array.base ≡ None
      pub begins : (sp : ℕ) → begins_at T sp f a ≡ sp + T.array_at f a

    -- one that was handed over
    pub record IsHanded (a : ℕ) (array : Array) : Type 0 where
      pub from : Globals ≤ a
      pub value : ℕ
      pub base : array.base ≡ Some value

    pub array_kind : (a : ℕ) (array : Array) → HasArray f a array → IsGlobal a array ⊎ (IsLocal a array ⊎ IsHanded a array)
    array_kind a array has = by (ltb a Globals) refl
      where
        behind : Globals ≤ a → (base : Option ℕ) → array.base ≡ base → IsLocal a array ⊎ IsHanded a array
        behind ge None bare =
            let own : is_own T f a ≡ true = ap is_own_or_none has ∙ is_owned array.global array.base (sound.own (T.graph f) a array graph_in has ge) bare in
            inl (record { from = ge; bare = bare; begins = λ sp. ap (λ b. if b then sp + T.array_at f a else T.array_at f a) own })
        behind ge (Some v) e = inr (record { from = ge; value = v; base = e })

        by : (b : Bool) → ltb a Globals ≡ b → IsGlobal a array ⊎ (IsLocal a array ⊎ IsHanded a array)
        by true e =
            let lt = ltb-true a Globals e in
            let x = get_some flow.globals a lt in
            let g = sound.globals (T.graph f) a x.0 graph_in x.1 in
            let same : g.array ≡ array = (let z : Some g.array ≡ Some array = sym g.is ∙ has in cc) in
            let own : is_own T f a ≡ false = ap is_own_or_none has ∙ no_own array.global (has_base array) (ap (λ y. y.global) (sym same) ∙ g.global) in
            inl (record {
              below = lt;
              item = x.0;
              has = x.1;
              words = ap (λ y. y.words) (sym same) ∙ g.size;
              begins = λ sp. ap (λ b. if b then sp + T.array_at f a else T.array_at f a) own ∙ framed.globals a lt;
              spot = λ passed base. ap (λ b. if b then a else spot_behind passed base (a - Globals)) e;
            })
        by false e = inr (behind (ltb-false a Globals e) array.base refl)

-- functions that wait

-- a value that is live behind a call and not its result has a slot
pub waiting_needs : (T : Target) (f p g v : ℕ) (arguments : List Operand) (result : Option ℕ) → IsSaved T f → CallsAt T f p g arguments result → IsLive (T.layout f) (suc p) v → (IsResult result v → ⊥) → NeedsSlot T f v
waiting_needs T f p g v arguments result saved calls live other = by (is_slotted (kept T f v)) refl
  where
    by : (b : Bool) → is_slotted (kept T f v) ≡ b → NeedsSlot T f v
    by true e = is_spilled (suc p) (is_live live) e
    by false e = let number = in_register (kept T f v) e in is_saved p g arguments result calls (saved.saves p g v arguments result calls (record { live = live; other = other; number = number.0; register = number.1 }))

-- what changes no link and no slot of theirs keeps them
pub below_keep : (T : Target) (flow : Flow) (ls : List VWords) (saved : (f : ℕ) → IsFunction T flow ls f → IsSaved T f) (frs : List Frame) (memory memory' : ℕ → ℤ) (sp : ℕ) →
    ((x : Stacked) (word : ℕ) → IsIn x (waiting_above T sp frs) → Framed T x word → word_at memory' word ≡ word_at memory word) → Below T flow ls memory sp frs → Below T flow ls memory' sp frs
below_keep T flow ls saved [] memory memory' sp same b = tt
below_keep T flow ls saved (fr ∷ frs) memory memory' sp same b =
    let here : Stacked = waiting_at (sp + T.frame) fr in (
      record {
        is = b.0.is;
        caller = b.0.caller;
        callee = b.0.callee;
        arguments = b.0.arguments;
        called = b.0.called;
        from = b.0.from;
        next = b.0.next;
        values = λ v n live other e. (let s = b.0.values v n live other e in
            let needs = waiting_needs T fr.function b.0.caller b.0.callee v b.0.arguments fr.result (saved fr.function b.0.is) b.0.called live other in
            subst (λ x. Shows T (there_of T flow.globals (sp + T.frame) fr frs) fr.function v n x) (sym (same here (sp + T.frame + T.slot fr.function v) (inl refl) (is_slot v needs refl))) s);
        link = same here (sp + T.frame) (inl refl) (is_link refl) ∙ b.0.link;
      },
      below_keep T flow ls saved frs memory memory' (sp + T.frame) (λ x word i framed. same x word (inr i) framed) b.1,
    )

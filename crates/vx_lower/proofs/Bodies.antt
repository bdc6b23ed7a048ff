-- A body that was made is the body of its function, and a program's functions have their graphs.
use Rattle.std.proofs.Common.{◌≡◌, ◌⊎◌, ℕ, zero, suc, ◌+◌, ◌<◌, ◌≤◌, ◌*◌, Bool, true, false, List, [], ◌∷◌, ◌++◌, length, map, take, replicate, get_or, Option, Some, None, refl, sym, ap, ◌∙◌, subst, inl, inr, arith}
use Rattle.std.specs.Prelude.{slice_get, slice_set, nat_eq}
use Rattle.std.proofs.lemmas.Bool.{cases_lt}
use Rattle.std.proofs.lemmas.Bool.Decides.{eqb_tells}
use Rattle.std.proofs.lemmas.List.{map_push, map-append}
use Rattle.std.proofs.lemmas.Option.{slice_get_within}
use Rattle.vx_base.specs.declared.outcome.Trap.{Trap}
use Rattle.vx_ast.specs.declared.tree.GlobalVariable.{GlobalVariable}
use Rattle.vx_ast.specs.declared.tree.Takes.{Takes}
use Rattle.vx_ast.specs.declared.tree.Takes.TheVariants.{Number as TakesNumber, Array as TakesArray}
use Rattle.vx_ast.specs.Accepted.{global_words, arrays_taken}
use Rattle.vx_ast.specs.Tree.{Function, Program}
use Rattle.vx_flow.specs.Sound.{has_base}
use Rattle.vx_flow.specs.declared.graph.Bank.TheVariants.{General}
use Rattle.vx_flow.specs.declared.graph.Op.{Op}
use Rattle.vx_flow.specs.declared.graph.Exit.{Exit}
use Rattle.vx_flow.specs.declared.graph.Block.{Block}
use Rattle.vx_flow.specs.declared.graph.Array.{Array}
use Rattle.vx_flow.specs.declared.graph.Graph.{Graph}
use Rattle.vx_lower.specs.declared.seen.Seen.{Seen}
use Rattle.vx_lower.specs.declared.seen.Seen.TheVariants.{GlobalArray, OwnArray, Handed}
use Rattle.vx_lower.specs.Seen.{Sees, array_for, arrays_from}
use Rattle.vx_lower.specs.FlowOf.{EndsBy, values_taken, words_of, bases_of}
use Rattle.vx_lower.specs.Holds.{same, ends}
use Rattle.vx_lower.specs.Builds.{closed, Ready, Limited, Stands, Finishes}
use Rattle.vx_lower.specs.Makes.{Begins, Makes}
use Rattle.vx_lower.specs.Finished.{TrapsAt, TrapsLast, AreShort, WereShort}
use Rattle.vx_lower.specs.Graphs.{beginning, back_with_zero, FunctionWithin, Built, ShapeOf, Graphed, AllGraphed}
use Rattle.vx_lower.specs.Lowered.{values_for, handed_from, global_seen, arrays_seen, sees_of, first_value, Lowered}
use Rattle.vx_lower.specs.declared.builder.Builder.{Builder}
use Rattle.vx_lower.proofs.Places.{get_front, get_last, length_more, set_same, set_other, set_length, take_next}
use Rattle.vx_lower.proofs.Building.{before_closed, closed_stands, opens_closed}
use Rattle.vx_lower.proofs.Facts.{length_replicate}
use Rattle.vx_lower.proofs.PrintMaking.{begins_self, begins_on}

-- lists that grow by a loop

pub arrays_more : (place : ℕ) (xs : List Seen) (x : Seen) → arrays_from place (xs ++ x ∷ []) ≡ arrays_from place xs ++ array_for (place + length xs) x ∷ []
arrays_more place [] x = let e : place ≡ place + 0 = omega arith in ap (λ m. array_for m x ∷ []) e
arrays_more place (y ∷ xs) x =
    let e : suc place + length xs ≡ place + suc (length xs) = omega arith in
    ap (λ z. array_for place y ∷ z) (arrays_more (suc place) xs x ∙ ap (λ k. arrays_from (suc place) xs ++ array_for k x ∷ []) e)

pub length_arrays : (place : ℕ) (xs : List Seen) → length (arrays_from place xs) ≡ length xs
length_arrays place [] = refl
length_arrays place (x ∷ xs) = ap suc (length_arrays (suc place) xs)

name_is : (place : ℕ) (x : Seen) → (array_for place x).named ≡ place
name_is place (GlobalArray n) = refl
name_is place (OwnArray n) = refl
name_is place (Handed base size) = refl

pub array_at : (place : ℕ) (xs : List Seen) (a : ℕ) (array : Array) → slice_get (arrays_from place xs) a ≡ Some array → (x : Seen) × (slice_get xs a ≡ Some x) × (array ≡ array_for (place + a) x)
array_at place [] a array e = absurd (cc)
array_at place (x ∷ xs) zero array e =
    let first : Array = array_for place x in
    let is : Some first ≡ Some array = e in
    let same : first ≡ array = cc in
    let h : place ≡ place + 0 = omega arith in
    (x, refl, sym same ∙ ap (λ k. array_for k x) h)
array_at place (x ∷ xs) (suc a) array e =
    let h : suc place + a ≡ place + suc a = omega arith in
    let y = array_at (suc place) xs a array e in
    (y.0, y.1, y.2 ∙ ap (λ k. array_for k y.0) h)

pub get_array : (place : ℕ) (xs : List Seen) (a : ℕ) (x : Seen) → slice_get xs a ≡ Some x → slice_get (arrays_from place xs) a ≡ Some (array_for (place + a) x)
get_array place [] a x e = absurd (cc)
get_array place (y ∷ xs) zero x e =
    let is : Some y ≡ Some x = e in
    let same : y ≡ x = cc in
    let h : place ≡ place + 0 = omega arith in
    ap (λ z. Some (array_for place z)) same ∙ ap (λ k. Some (array_for k x)) h
get_array place (y ∷ xs) (suc a) x e =
    let h : suc place + a ≡ place + suc a = omega arith in
    get_array (suc place) xs a x e ∙ ap (λ k. Some (array_for k x)) h

pub arrays_named : (place : ℕ) (xs : List Seen) (a : ℕ) (array : Array) → slice_get (arrays_from place xs) a ≡ Some array → array.named ≡ place + a
arrays_named place xs a array e = let y = array_at place xs a array e in ap (λ z. z.named) y.2 ∙ name_is (place + a) y.0

abbrev pub words_for : Seen → ℕ
words_for (GlobalArray n) = n
words_for (OwnArray n) = n
words_for (Handed base size) = 0

abbrev pub is_handed_seen : Seen → Bool
is_handed_seen (GlobalArray n) = false
is_handed_seen (OwnArray n) = false
is_handed_seen (Handed base size) = true

words_of_array : (place : ℕ) (x : Seen) → (array_for place x).words ≡ words_for x
words_of_array place (GlobalArray n) = refl
words_of_array place (OwnArray n) = refl
words_of_array place (Handed base size) = refl

base_of_array : (place : ℕ) (x : Seen) → has_base (array_for place x) ≡ is_handed_seen x
base_of_array place (GlobalArray n) = refl
base_of_array place (OwnArray n) = refl
base_of_array place (Handed base size) = refl

arrays_words : (place : ℕ) (xs : List Seen) → map (λ a. a.words) (arrays_from place xs) ≡ map words_for xs
arrays_words place [] = refl
arrays_words place (x ∷ xs) = ap (λ w. w ∷ map (λ a. a.words) (arrays_from (suc place) xs)) (words_of_array place x) ∙ ap (λ z. words_for x ∷ z) (arrays_words (suc place) xs)

arrays_bases : (place : ℕ) (xs : List Seen) → map has_base (arrays_from place xs) ≡ map is_handed_seen xs
arrays_bases place [] = refl
arrays_bases place (x ∷ xs) = ap (λ w. w ∷ map has_base (arrays_from (suc place) xs)) (base_of_array place x) ∙ ap (λ z. is_handed_seen x ∷ z) (arrays_bases (suc place) xs)

globals_words : (gs : List GlobalVariable) → map words_for (map global_seen gs) ≡ map global_words gs
globals_words [] = refl
globals_words (g ∷ gs) = ap (λ z. global_words g ∷ z) (globals_words gs)

globals_bases : (gs : List GlobalVariable) → map is_handed_seen (map global_seen gs) ≡ replicate (length gs) false
globals_bases [] = refl
globals_bases (g ∷ gs) = ap (λ z. false ∷ z) (globals_bases gs)

handed_words : (v n : ℕ) → map words_for (handed_from v n) ≡ replicate n 0
handed_words v zero = refl
handed_words v (suc n) = ap (λ z. 0 ∷ z) (handed_words (suc (suc v)) n)

handed_have : (v n : ℕ) → map is_handed_seen (handed_from v n) ≡ replicate n true
handed_have v zero = refl
handed_have v (suc n) = ap (λ z. true ∷ z) (handed_have (suc (suc v)) n)

own_words : (ns : List ℕ) → map words_for (map OwnArray ns) ≡ ns
own_words [] = refl
own_words (n ∷ ns) = ap (λ z. n ∷ z) (own_words ns)

own_bases : (ns : List ℕ) → map is_handed_seen (map OwnArray ns) ≡ replicate (length ns) false
own_bases [] = refl
own_bases (n ∷ ns) = ap (λ z. false ∷ z) (own_bases ns)

pub seen_words : (p : Program) (f : Function) → map (λ a. a.words) (arrays_from 0 (arrays_seen p f)) ≡ words_of p f
seen_words p f =
    arrays_words 0 (arrays_seen p f)
    ∙ map-append words_for (map global_seen p.globals ++ handed_from f.scalars (arrays_taken f)) (map OwnArray f.arrays)
    ∙ ap (λ z. z ++ map words_for (map OwnArray f.arrays)) (map-append words_for (map global_seen p.globals) (handed_from f.scalars (arrays_taken f)) ∙ ap (λ z. z ++ map words_for (handed_from f.scalars (arrays_taken f))) (globals_words p.globals) ∙ ap (λ z. map global_words p.globals ++ z) (handed_words f.scalars (arrays_taken f)))
    ∙ ap (λ z. (map global_words p.globals ++ replicate (arrays_taken f) 0) ++ z) (own_words f.arrays)

pub seen_bases : (p : Program) (f : Function) → map has_base (arrays_from 0 (arrays_seen p f)) ≡ bases_of p f
seen_bases p f =
    arrays_bases 0 (arrays_seen p f)
    ∙ map-append is_handed_seen (map global_seen p.globals ++ handed_from f.scalars (arrays_taken f)) (map OwnArray f.arrays)
    ∙ ap (λ z. z ++ map is_handed_seen (map OwnArray f.arrays)) (map-append is_handed_seen (map global_seen p.globals) (handed_from f.scalars (arrays_taken f)) ∙ ap (λ z. z ++ map is_handed_seen (handed_from f.scalars (arrays_taken f))) (globals_bases p.globals) ∙ ap (λ z. replicate (length p.globals) false ++ z) (handed_have f.scalars (arrays_taken f)))
    ∙ ap (λ z. (replicate (length p.globals) false ++ replicate (arrays_taken f) true) ++ z) (own_bases f.arrays)

pub count_values : (x v : ℕ) (takes : List Takes) → length (values_for x v takes) ≡ values_taken takes
count_values x v [] = refl
count_values x v (TakesNumber ∷ takes) = ap suc (count_values (suc x) v takes)
count_values x v (TakesArray ∷ takes) = ap (λ n. suc (suc n)) (count_values x (suc (suc v)) takes)

any_default : {A : Type 0} (ns : List A) (i : ℕ) (d e : A) → i < length ns → get_or ns i d ≡ get_or ns i e
any_default [] i d e h = absurd (omega arith)
any_default (n ∷ ns) zero d e h = refl
any_default (n ∷ ns) (suc i) d e h = any_default ns i d e (omega arith)

pub arrays_step : (place : ℕ) (xs : List Seen) (i : ℕ) (d : Seen) (array : Array) (arrays more : List Array) → i < length xs → arrays ≡ arrays_from 0 (take i xs) → place ≡ length arrays → array ≡ array_for place (get_or xs i d) → more ≡ arrays ++ array ∷ [] → more ≡ arrays_from 0 (take (i + 1) xs)
arrays_step place xs i d array arrays more h ea ep er em =
    let x = get_or xs i d in
    let k = length_arrays 0 (take i xs) in
    let l = ap length ea in
    let at : place ≡ 0 + length (take i xs) = omega arith in
    em
    ∙ ap (λ z. arrays ++ z ∷ []) er
    ∙ ap (λ z. z ++ array_for place x ∷ []) ea
    ∙ ap (λ m. arrays_from 0 (take i xs) ++ array_for m x ∷ []) at
    ∙ sym (arrays_more 0 (take i xs) x)
    ∙ ap (arrays_from 0) (sym (take_next xs i x h (any_default xs i d x h)))

pub handed_more : (v n : ℕ) → handed_from v (n + 1) ≡ handed_from v n ++ Handed (v + 2 * n) (v + 2 * n + 1) ∷ []
handed_more v zero =
    let e : v ≡ v + 2 * 0 = omega arith in let e2 : suc v ≡ v + 2 * 0 + 1 = omega arith in
    ap (λ z. Handed z (suc v) ∷ []) e ∙ ap (λ z. Handed (v + 2 * 0) z ∷ []) e2
handed_more v (suc n) =
    let a : suc n + 1 ≡ suc (n + 1) = omega arith in
    let b : suc (suc v) + 2 * n ≡ v + 2 * suc n = omega arith in
    ap (handed_from v) a ∙ ap (λ z. Handed v (suc v) ∷ z) (handed_more (suc (suc v)) n) ∙ ap (λ m. Handed v (suc v) ∷ (handed_from (suc (suc v)) n ++ Handed m (m + 1) ∷ [])) b

-- the blocks of a body

ready_at_first : (n : ℕ) → Ready (beginning n)
ready_at_first n = record { is = refl }

limited_at_first : (n : ℕ) → Limited (beginning n)
limited_at_first n = record { opened = omega arith; blocks = λ m block e. by m block e }
  where
    by : (m : ℕ) (block : Block) → slice_get (beginning n).blocks m ≡ Some (Some block) → length block.ops ≤ 512
    by zero block e = absurd (none e)
      where
        none : Some None ≡ Some (Some block) → ⊥
        none e = cc
    by (suc m) block e = absurd (none e)
      where
        none : None ≡ Some (Some block) → ⊥
        none e = cc

abbrev ops_in : Option (Option Block) → List Op
ops_in None = []
ops_in (Some None) = []
ops_in (Some (Some b)) = b.ops

-- the blocks that were made stay short where the open one is closed
closed_short : (b : Builder) (exit : Exit) (n : ℕ) → Limited b → WereShort (closed b exit n).blocks
closed_short b exit n l = record { short = λ i block e. one i block e (eqb_tells i b.current) }
  where
    one : (i : ℕ) (block : Block) → slice_get (slice_set b.blocks b.current (Some (record { ops = b.ops; exit = exit }))) i ≡ Some (Some block) → ((nat_eq i b.current ≡ true) × (i ≡ b.current)) ⊎ ((nat_eq i b.current ≡ false) × (i ≡ b.current → ⊥)) → length block.ops ≤ 512
    one i block q (inl t) =
        let w = slice_get_within (slice_set b.blocks b.current (Some (record { ops = b.ops; exit = exit }))) i (Some block) q in
        let e = set_length b.blocks b.current (Some (record { ops = b.ops; exit = exit })) in
        let at = t.1 in
        let same_block : Some (Some (record { ops = b.ops; exit = exit })) ≡ Some (Some block) = sym (set_same b.blocks b.current (Some (record { ops = b.ops; exit = exit })) (omega arith)) ∙ ap (slice_get (slice_set b.blocks b.current (Some (record { ops = b.ops; exit = exit })))) (sym t.1) ∙ q in
        let is : b.ops ≡ block.ops = ap ops_in same_block in
        subst (λ z. length z ≤ 512) is l.opened
    one i block q (inr t) = l.blocks i block (sym (set_other b.blocks b.current i (Some (record { ops = b.ops; exit = exit })) t.1) ∙ q)

built_first : (words : Sees) (f : Function) (b1 : Builder) (t0 t1 : List (List ℕ)) → Makes words f.body None None (beginning (first_value f)) b1 t0 t1 → Built words f (closed b1 back_with_zero b1.current) t0 t1
built_first words f b1 t0 t1 m = record {
  texts = m.texts;
  short = closed_short b1 back_with_zero b1.current (m.grows.limited (limited_at_first (first_value f)));
  code = λ within B done all begins.
      let f1 = before_closed B b1 back_with_zero b1.current m.grows.ready done in
      let o1 = opens_closed B b1 back_with_zero (closed_stands B b1 back_with_zero b1.current m.grows.ready done) in
      let e = length_replicate (first_value f) General in
      let s = m.code (first_value f) within.1 (omega arith) B all (ends back_with_zero) begins f1 o1 in
      (s.start, s.opens.is, s.holds);
}

pub built_is : (words : Sees) (f : Function) (b0 b1 b2 : Builder) (t0 t1 : List (List ℕ)) → b0 ≡ beginning (first_value f) → (Ready b0 → Makes words f.body None None b0 b1 t0 t1) → b2 ≡ closed b1 back_with_zero b1.current → Built words f b2 t0 t1
built_is words f b0 b1 b2 t0 t1 e0 mk e2 =
    subst (λ z. Built words f z t0 t1) (sym e2) (built_first words f b1 t0 t1 (subst (λ z. Ready z → Makes words f.body None None z b1 t0 t1) e0 mk (ready_at_first (first_value f))))

-- the graph of a function

module _ (g : Graph) where
  abbrev trap_at : (b : ℕ) (k : Trap) → EndsBy g b k → TrapsAt g.blocks b k
  trap_at b k e = record { block = e.block; has = e.has; ends = e.ends }

  abbrev ends_by : (b : ℕ) (k : Trap) → TrapsAt g.blocks b k → EndsBy g b k
  ends_by b k t = record { block = t.block; has = t.has; ends = t.ends }

  pub shape_is : (p : Program) (f : Function) → g.parameters ≡ values_for 0 f.scalars f.takes → g.arrays ≡ arrays_from 0 (arrays_seen p f) → TrapsLast g.blocks → AreShort g.blocks → ShapeOf p f g
  shape_is p f ep ea t s = record {
    parameters = ap length ep ∙ count_values 0 f.scalars f.takes;
    arrays = ap (map (λ a. a.words)) ea ∙ seen_words p f;
    bases = ap (map has_base) ea ∙ seen_bases p f;
    trap_empty = λ b k e. t.empty b k (trap_at b k e);
    trap_alone = λ b c k e d. t.alone b c k (trap_at b k e) (trap_at c k d);
    traps_last = λ b c k e h w. let x = t.last b c k (trap_at b k e) h w in (x.0, ends_by c x.0 x.1);
    short = s.short;
  }

  pub lowered_is : (p : Program) (f : Function) (b : Builder) (before after : List (List ℕ)) → g.parameters ≡ values_for 0 f.scalars f.takes → g.arrays ≡ arrays_from 0 (arrays_seen p f) → Built (sees_of p f) f b before after → Finishes g.blocks b → FunctionWithin (sees_of p f) f → (all : List (List ℕ)) → Begins after all → Lowered p all f g
  lowered_is p f b before after ep ea x done within all begins =
      let c = x.code within g.blocks done all begins in
      record {
        parameters = ep;
        arrays = ea;
        enough = within.0;
        start = c.0;
        last = ends back_with_zero;
        out = ends back_with_zero;
        at_start = c.1;
        body = c.2;
        falls = same refl;
        out_falls = same refl;
      }

pub graphed_is : (p : Program) (f : Function) (words : Sees) (b : Builder) (g : Graph) (before after : List (List ℕ)) → words ≡ sees_of p f → g.parameters ≡ values_for 0 f.scalars f.takes → g.arrays ≡ arrays_from 0 (arrays_seen p f) → Built words f b before after → ((n : ℕ) (block : Block) → slice_get b.blocks n ≡ Some (Some block) → Stands g.blocks n block block.exit) → TrapsLast g.blocks → (WereShort b.blocks → AreShort g.blocks) → Graphed p f g before after
graphed_is p f words b g before after ew ep ea x stands traps short =
    let y = subst (λ z. Built z f b before after) ew x in
    record {
      texts = x.texts;
      shape = shape_is g p f ep ea traps (short x.short);
      lowered = lowered_is g p f b before after ep ea y (record { stands = stands });
    }

-- the graphs of functions

none_there : {A : Type 0} {x : A} → None ≡ Some x → ⊥
none_there e = cc

pub none_graphed : (p : Program) (ts : List (List ℕ)) → AllGraphed p [] [] ts ts
none_graphed p ts = record {
  texts = begins_self ts;
  count = refl;
  shapes = λ i f g e d. absurd (none_there e);
  lowered = λ i f g e d w all begins. absurd (none_there e);
}

-- what stands at a place in two lists of the same length that have one more item each
both_last : {A B : Type 0} (P : A → B → Type 0) (xs : List A) (ys : List B) (x : A) (y : B) → length ys ≡ length xs → ((i : ℕ) (a : A) (b : B) → slice_get xs i ≡ Some a → slice_get ys i ≡ Some b → P a b) → P x y → (i : ℕ) (a : A) (b : B) → slice_get (xs ++ x ∷ []) i ≡ Some a → slice_get (ys ++ y ∷ []) i ≡ Some b → P a b
both_last P xs ys x y len old new i a b ea eb = elim (cases_lt i (length xs)) [
  | inl h ↦ old i a b (sym (get_front xs (x ∷ []) i h) ∙ ea) (sym (get_front ys (y ∷ []) i (omega arith)) ∙ eb)
  | inr h ↦
      let w = slice_get_within (xs ++ x ∷ []) i a ea in
      let m = length_more xs x in
      let at : i ≡ length xs = omega arith in
      let at2 : i ≡ length ys = omega arith in
      let e1 : Some x ≡ Some a = sym (get_last xs x) ∙ ap (slice_get (xs ++ x ∷ [])) (sym at) ∙ ea in
      let e2 : Some y ≡ Some b = sym (get_last ys y) ∙ ap (slice_get (ys ++ y ∷ [])) (sym at2) ∙ eb in
      let k1 : x ≡ a = cc in
      let k2 : y ≡ b = cc in
      subst (λ z. P a z) k2 (subst (λ z. P z y) k1 new)
]

pub graphed_more : (p : Program) (fs : List Function) (gs : List Graph) (f : Function) (g : Graph) (t0 t1 t2 : List (List ℕ)) → AllGraphed p fs gs t0 t1 → Graphed p f g t1 t2 → AllGraphed p (fs ++ f ∷ []) (gs ++ g ∷ []) t0 t2
graphed_more p fs gs f g t0 t1 t2 x y = record {
  texts = begins_on t0 t1 t2 x.texts y.texts;
  count = let a = length_more gs g in let b = length_more fs f in let c = x.count in omega arith;
  shapes = both_last (ShapeOf p) fs gs f g x.count x.shapes y.shape;
  lowered = both_last (λ f g. FunctionWithin (sees_of p f) f → (all : List (List ℕ)) → Begins t2 all → Lowered p all f g) fs gs f g x.count
      (λ i f g e d w all begins. x.lowered i f g e d w all (begins_on t1 t2 all y.texts begins)) y.lowered;
}

pub graphed_step : (p : Program) {A : Type 0} (view : A → Function) (xs : List A) (i : ℕ) (x : A) (gs more : List Graph) (g : Graph) (t0 t1 t2 : List (List ℕ)) → i < length xs → x ≡ get_or xs i x → AllGraphed p (map view (take i xs)) gs t0 t1 → Graphed p (view x) g t1 t2 → more ≡ gs ++ g ∷ [] → AllGraphed p (map view (take (i + 1) xs)) more t0 t2
graphed_step p view xs i x gs more g t0 t1 t2 h ex all one em =
    subst (λ z. AllGraphed p (map view (take (i + 1) xs)) z t0 t2) (sym em)
    (subst (λ z. AllGraphed p z (gs ++ g ∷ []) t0 t2) (sym (ap (map view) (take_next xs i x h ex) ∙ map_push view (take i xs) x))
    (graphed_more p (map view (take i xs)) gs (view x) g t0 t1 t2 all one))

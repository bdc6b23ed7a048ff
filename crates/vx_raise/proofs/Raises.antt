-- One graph with an operation raised: its blocks leave alike from tied states. At the start of a block that lost the operation the
-- new state already holds what the old one computes there; at every other block the two agree on what is live.
use Rattle.std.proofs.Common.{◌≡◌, ◌⊎◌, inl, inr, ℕ, zero, suc, ◌+◌, ◌==◌, ◌&&◌, ◌||◌, Bool, true, false, cond, nat_lt, ℤ, List, [], ◌∷◌, ◌++◌, length, map, slice_get, Option, Some, None, refl, sym, ap, ◌∙◌, subst, eq-eqb, arith}
use Rattle.std.proofs.lemmas.Bool.{and_parts, false≢true, eqb-true, not-true}
use Rattle.std.specs.Option.{option_map}
use Rattle.std.specs.List.{list_all}
use Rattle.std.specs.Prelude.{not}
use Rattle.vx_base.proofs.ArithmeticLaws.{equal-true}
use Rattle.vx_base.specs.declared.arithmetic.Compare.{Compare}
use Rattle.vx_base.specs.declared.arithmetic.Compare.TheVariants.{Eq, Ne, Lt, Le, Gt, Ge, Ltu, Geu}
use Rattle.vx_base.specs.declared.arithmetic.Code.{Code}
use Rattle.vx_base.specs.declared.arithmetic.Code.TheVariants.{Add, Sub, And, Or, Xor, Shl, Shr, Shru, Sh2add, Max, Min, Mov, ToGeneral, ToBranch, Mpylu, Mpyhs, Div, Rem}
use Rattle.vx_flow.specs.declared.graph.Operand.{Operand}
use Rattle.vx_flow.specs.declared.graph.Operand.TheVariants.{Held, Number}
use Rattle.vx_flow.specs.declared.graph.Op.{Op}
use Rattle.vx_flow.specs.declared.graph.Op.TheVariants.{Compute, Select, Place, Load, Base, PlaceIn}
use Rattle.vx_flow.specs.declared.graph.Exit.{Exit}
use Rattle.vx_flow.specs.declared.graph.Exit.TheVariants.{Goto, Split, Call, Return, Ends}
use Rattle.vx_flow.specs.declared.graph.Block.{Block}
use Rattle.vx_flow.specs.declared.graph.Graph.{Graph}
use Rattle.vx_flow.specs.Effects.{Content, State, Setting, IsIn, held, with_value, effect, reads, writes, dismissed}
use Rattle.vx_flow.specs.Live.{IsLive, here, beyond, ReadsFirst}
use Rattle.vx_flow.specs.Meaning.{Hop, known, with_result, at_entry, leave, and_then, block_hop, hop_of}
use Rattle.vx_flow.specs.Sound.{targets_of, results_of_exit}
use Rattle.vx_flow.specs.Agree.{SameWorld, Agree}
use Rattle.vx_flow.proofs.EffectsAlike.{Refined, held_refined, known_refined, Done, effect_alike}
use Rattle.vx_flow.proofs.HopsAlike.{LiveBeyond, weaken}
use Rattle.vx_flow.proofs.SoundLists.{all_at}
use Rattle.vx_claims.specs.Facts.{same_compare, same_code, same_operand}
use Rattle.vx_raise.specs.Raising.{is_either, leads_to, behind_first, raised_block, raised_blocks, first_in, first_of, raised_by, raised, result_of, same_op, same_ops, are_one, lets_in, takes_in, may_raise, result_of_first, can_raise}
use Rattle.vx_raise.proofs.Written.{Wrote, wrote, dismissed_same, dismissed_reads, dismissed_writes}
use Rattle.vx_raise.proofs.FlowsTied.{holding, Ties, wrong, arrives, stopped, test_tied, calls_tied, leaves_tied, GraphTied}

-- ---- what the test says

compare_is : (c d : Compare) → same_compare c d ≡ true → c ≡ d
compare_is Eq Eq e = refl
compare_is Ne Ne e = refl
compare_is Lt Lt e = refl
compare_is Le Le e = refl
compare_is Gt Gt e = refl
compare_is Ge Ge e = refl
compare_is Ltu Ltu e = refl
compare_is Geu Geu e = refl
compare_is c d e = absurd (false≢true e)

code_is : (c d : Code) → same_code c d ≡ true → c ≡ d
code_is Add Add e = refl
code_is Sub Sub e = refl
code_is And And e = refl
code_is Or Or e = refl
code_is Xor Xor e = refl
code_is Shl Shl e = refl
code_is Shr Shr e = refl
code_is Shru Shru e = refl
code_is Sh2add Sh2add e = refl
code_is Max Max e = refl
code_is Min Min e = refl
code_is Mov Mov e = refl
code_is Mpylu Mpylu e = refl
code_is Mpyhs Mpyhs e = refl
code_is Div Div e = refl
code_is Rem Rem e = refl
code_is (ToGeneral c) (ToGeneral d) e = ap ToGeneral (compare_is c d e)
code_is (ToBranch c) (ToBranch d) e = ap ToBranch (compare_is c d e)
code_is c d e = absurd (false≢true e)

operand_is : (x y : Operand) → same_operand x y ≡ true → x ≡ y
operand_is (Held u) (Held v) e = ap Held (eqb-true u v e)
operand_is (Number m) (Number n) e = ap Number (equal-true m n e)
operand_is x y e = absurd (false≢true e)

pub op_is : (x y : Op) → same_op x y ≡ true → dismissed y ≡ dismissed x
op_is (Compute code v a c) (Compute code' v' a' c') e =
    let three = and_parts ((v == v') && same_code code code' && same_operand a a') (same_operand c c') e in
    let two = and_parts ((v == v') && same_code code code') (same_operand a a') three.0 in
    let one = and_parts (v == v') (same_code code code') two.0 in
    ap (λ z. Compute code' v' a' z) (sym (operand_is c c' three.1)) ∙ (ap (λ z. Compute code' v' z c) (sym (operand_is a a' two.1)) ∙ (ap (λ z. Compute z v' a c) (sym (code_is code code' one.1)) ∙ ap (λ z. Compute code z a c) (sym (eqb-true v v' one.0))))
op_is (Select v p a c) (Select v' p' a' c') e =
    let three = and_parts ((v == v') && (p == p') && same_operand a a') (same_operand c c') e in
    let two = and_parts ((v == v') && (p == p')) (same_operand a a') three.0 in
    let one = and_parts (v == v') (p == p') two.0 in
    ap (λ z. Select v' p' a' z) (sym (operand_is c c' three.1)) ∙ (ap (λ z. Select v' p' z c) (sym (operand_is a a' two.1)) ∙ (ap (λ z. Select v' z a c) (sym (eqb-true p p' one.1)) ∙ ap (λ z. Select z p a c) (sym (eqb-true v v' one.0))))
op_is (Place v a i) (Place v' a' i') e =
    let two = and_parts ((v == v') && (a == a')) (same_operand i i') e in
    let one = and_parts (v == v') (a == a') two.0 in
    ap (λ z. Place v' a' z) (sym (operand_is i i' two.1)) ∙ (ap (λ z. Place v' z i) (sym (eqb-true a a' one.1)) ∙ ap (λ z. Place z a i) (sym (eqb-true v v' one.0)))
op_is (Load v a p dismissible) (Load v' a' p' dismissible') e =
    let two = and_parts ((v == v') && (a == a')) (same_operand p p') e in
    let one = and_parts (v == v') (a == a') two.0 in
    ap (λ z. Load v' a' z true) (sym (operand_is p p' two.1)) ∙ (ap (λ z. Load v' z p true) (sym (eqb-true a a' one.1)) ∙ ap (λ z. Load z a p true) (sym (eqb-true v v' one.0)))
op_is (Base v a x) (Base v' a' x') e =
    let two = and_parts ((v == v') && (a == a')) (same_operand x x') e in
    let one = and_parts (v == v') (a == a') two.0 in
    ap (λ z. Base v' a' z) (sym (operand_is x x' two.1)) ∙ (ap (λ z. Base v' z x) (sym (eqb-true a a' one.1)) ∙ ap (λ z. Base z a x) (sym (eqb-true v v' one.0)))
op_is (PlaceIn v a u i) (PlaceIn v' a' u' i') e =
    let three = and_parts ((v == v') && (a == a') && (u == u')) (same_operand i i') e in
    let two = and_parts ((v == v') && (a == a')) (u == u') three.0 in
    let one = and_parts (v == v') (a == a') two.0 in
    ap (λ z. PlaceIn v' a' u' z) (sym (operand_is i i' three.1)) ∙
    (ap (λ z. PlaceIn v' a' z i) (sym (eqb-true u u' two.1)) ∙ (ap (λ z. PlaceIn v' z u i) (sym (eqb-true a a' one.1)) ∙ ap (λ z. PlaceIn z a u i) (sym (eqb-true v v' one.0))))
op_is x y e = absurd (false≢true e)

-- block c begins with the operation, dismissible or not
pub record Begins (moved : Op) (g : Graph) (c : ℕ) : Type 0 where
  pub block : Block
  pub has : slice_get g.blocks c ≡ Some block
  pub op : Op
  pub rest : List Op
  pub ops : block.ops ≡ op ∷ rest
  pub same : dismissed op ≡ moved

pub record Front (live : ℕ → ℕ → Bool) (g : Graph) (b c : ℕ) : Type 0 where
  pub op : Op
  pub value : ℕ
  pub entry : is_either b c 0 ≡ false
  pub first : first_of (slice_get g.blocks b) ≡ Some op
  pub result : result_of op ≡ Some value
  pub begins : (i : ℕ) → is_either b c i ≡ true → Begins (dismissed op) g i
  pub takes : list_all (takes_in live (is_either b c) value) g.blocks ≡ true
  pub is : raised g b c ≡ record g { blocks = raised_blocks (is_either b c) op 0 g.blocks }

begins_of : (g : Graph) (moved : Op) (i : ℕ) (o : Option Block) (x : Op) → slice_get g.blocks i ≡ o → first_of o ≡ Some x → dismissed x ≡ moved → Begins moved g i
begins_of g moved i None x e f d = absurd (cc)
begins_of g moved i (Some block) x e f d = by block.ops refl f
  where
    by : (ops : List Op) → block.ops ≡ ops → first_in ops ≡ Some x → Begins moved g i
    by [] q f = absurd (cc)
    by (y ∷ rest) q f = let same : y ≡ x = cc in record { block = block; has = e; op = y; rest = rest; ops = q; same = ap dismissed same ∙ d }

module _ (live : ℕ → ℕ → Bool) (g : Graph) (b c : ℕ) where
  one_begins : (op : Op) → first_of (slice_get g.blocks b) ≡ Some op → are_one b c (Some op) (first_of (slice_get g.blocks c)) ≡ true → Begins (dismissed op) g c
  one_begins op f h = by (b == c) refl h
    where
      other : (o : Option Op) → first_of (slice_get g.blocks c) ≡ o → same_ops (Some op) o ≡ true → Begins (dismissed op) g c
      other None e h = absurd (false≢true h)
      other (Some y) e h = begins_of g (dismissed op) c (slice_get g.blocks c) y refl e (op_is op y h)

      by : (q : Bool) → (b == c) ≡ q → (q || same_ops (Some op) (first_of (slice_get g.blocks c))) ≡ true → Begins (dismissed op) g c
      by true q h = subst (Begins (dismissed op) g) (eqb-true b c q) (begins_of g (dismissed op) b (slice_get g.blocks b) op refl f refl)
      by false q h = other (first_of (slice_get g.blocks c)) refl h

  all_begin : (op : Op) → first_of (slice_get g.blocks b) ≡ Some op → are_one b c (Some op) (first_of (slice_get g.blocks c)) ≡ true → (i : ℕ) → is_either b c i ≡ true → Begins (dismissed op) g i
  all_begin op f h i e = by (i == b) refl e
    where
      by : (q : Bool) → (i == b) ≡ q → (q || (i == c)) ≡ true → Begins (dismissed op) g i
      by true q e = subst (Begins (dismissed op) g) (sym (eqb-true i b q)) (begins_of g (dismissed op) b (slice_get g.blocks b) op refl f refl)
      by false q e = subst (Begins (dismissed op) g) (sym (eqb-true i c e)) (one_begins op f h)

  by_value : (op : Op) (o : Option ℕ) → is_either b c 0 ≡ false → first_of (slice_get g.blocks b) ≡ Some op → are_one b c (Some op) (first_of (slice_get g.blocks c)) ≡ true → result_of op ≡ o → may_raise live g (is_either b c) o ≡ true → Front live g b c
  by_value op None n f s r h = absurd (false≢true h)
  by_value op (Some v) n f s r h = record {
    op = op;
    value = v;
    entry = n;
    first = f;
    result = r;
    begins = all_begin op f s;
    takes = h;
    is = ap (raised_by g (is_either b c)) f;
  }

  by_first : (o : Option Op) → is_either b c 0 ≡ false → first_of (slice_get g.blocks b) ≡ o → are_one b c o (first_of (slice_get g.blocks c)) ≡ true → may_raise live g (is_either b c) (result_of_first o) ≡ true → Front live g b c
  by_first None n f s h = absurd (false≢true h)
  by_first (Some op) n f s h = by_value op (result_of op) n f s refl h

  pub front_of : can_raise live g b c ≡ true → Front live g b c
  front_of h =
      let both = and_parts (not (is_either b c 0) && are_one b c (first_of (slice_get g.blocks b)) (first_of (slice_get g.blocks c))) (may_raise live g (is_either b c) (result_of_first (first_of (slice_get g.blocks b)))) h in
      let one = and_parts (not (is_either b c 0)) (are_one b c (first_of (slice_get g.blocks b)) (first_of (slice_get g.blocks c))) both.0 in
      by_first (first_of (slice_get g.blocks b)) (not-true (is_either b c 0) one.0) refl one.1 both.1

-- ---- blocks of the new graph

pub block_at : (from : ℕ → Bool) (op : Op) (k : ℕ) (blocks : List Block) (i : ℕ) → slice_get (raised_blocks from op k blocks) i ≡ option_map (raised_block from op (k + i)) (slice_get blocks i)
block_at from op k [] i = refl
block_at from op k (block ∷ blocks) zero = let e : k ≡ k + 0 = omega arith in ap (λ j. Some (raised_block from op j block)) e
block_at from op k (block ∷ blocks) (suc i) = let e : suc k + i ≡ k + suc i = omega arith in block_at from op (suc k) blocks i ∙ ap (λ j. option_map (raised_block from op j) (slice_get blocks i)) e

pub block_here : (from : ℕ → Bool) (op : Op) (blocks : List Block) (i : ℕ) → slice_get (raised_blocks from op 0 blocks) i ≡ option_map (raised_block from op i) (slice_get blocks i)
block_here from op blocks i = let e : 0 + i ≡ i = omega arith in block_at from op 0 blocks i ∙ ap (λ j. option_map (raised_block from op j) (slice_get blocks i)) e

-- ---- ties

-- a value is live before these operations and the exit
abbrev pub LiveIn : Graph → List Op → Exit → ℕ → Type 0
LiveIn g ops exit v = ReadsFirst ops exit v ⊎ LiveBeyond g ops exit v

pub live_later : (g : Graph) (op : Op) (ops : List Op) (exit : Exit) (v : ℕ) → LiveIn g ops exit v → (IsIn v (writes op) → ⊥) → LiveIn g (op ∷ ops) exit v
live_later g op ops exit v (inl r) k = inl (inr (k, r))
live_later g op ops exit v (inr b) k = inr (record { unwritten = (k, b.unwritten); target = b.target; leads = b.leads; live = b.live })

pub live_at : (g : Graph) (b : ℕ) (block : Block) (v : ℕ) → slice_get g.blocks b ≡ Some block → LiveIn g block.ops block.exit v → IsLive g b v
live_at g b block v e (inl r) = here e r
live_at g b block v e (inr l) = beyond e l.unwritten l.leads l.live

some_is : (s t : State) → Option.Some s ≡ Some t → s ≡ t
some_is s t e = cc

pub some_block : (x y : Block) → Option.Some x ≡ Some y → x ≡ y
some_block x y e = cc

no_result : (f : ℕ) (arguments : List Operand) (result : Option ℕ) (next v : ℕ) → (result ≡ Some v → ⊥) → IsIn v (results_of_exit (Call f arguments result next)) → ⊥
no_result f arguments None next v k m = m
no_result f arguments (Some r) next v k (inl e) = k (ap Some (sym e))
no_result f arguments (Some r) next v k (inr z) = z

-- a value is live behind the first operation of block c
abbrev pub LiveBehind : Graph → ℕ → ℕ → Type 0
LiveBehind g c v = (block : Block) × (slice_get g.blocks c ≡ Some block) × LiveIn g (behind_first block.ops) block.exit v

module _ (moved : Op) (g : Graph) (c v : ℕ) (begins : Begins moved g c) where
  live_begins : LiveIn g (begins.op ∷ begins.rest) begins.block.exit v → IsLive g c v
  live_begins l = live_at g c begins.block v begins.has (subst (λ ops. LiveIn g ops begins.block.exit v) (sym begins.ops) l)

  -- what the operation reads is live where it stands
  pub reads_live : IsIn v (reads moved) → IsLive g c v
  reads_live m = live_begins (inl (inl (subst (IsIn v) (sym (ap reads begins.same) ∙ dismissed_reads begins.op) m)))

  -- and what is live behind it and not written by it
  pub behind_live : (IsIn v (writes moved) → ⊥) → LiveBehind g c v → IsLive g c v
  behind_live n l =
      let same : l.0 ≡ begins.block = some_block l.0 begins.block (sym l.1 ∙ begins.has) in
      let there : LiveIn g (behind_first begins.block.ops) begins.block.exit v = subst (λ (z : Block). LiveIn g (behind_first z.ops) z.exit v) same l.2 in
      let rest : LiveIn g begins.rest begins.block.exit v = subst (λ ops. LiveIn g (behind_first ops) begins.block.exit v) begins.ops there in
      live_begins (live_later g begins.op begins.rest begins.block.exit v rest (λ m. n (subst (IsIn v) (sym (dismissed_writes begins.op) ∙ ap writes begins.same) m)))

module _ (live : ℕ → ℕ → Bool) (g : Graph) (b b' : ℕ) (front : Front live g b b') where
  abbrev pub moved : Op
  moved = dismissed front.op

  abbrev pub from : ℕ → Bool
  from = is_either b b'

  -- the new state holds already what the operation computes in the old one
  abbrev pub Ahead : Setting → ℕ → State → State → Type 0
  Ahead setting c s t = (u : State) × (effect setting s moved s ≡ Some u) × Agree (LiveBehind g c) u t

  abbrev pub tie_at : Bool → Setting → ℕ → State → State → Type 0
  tie_at true setting c s t = Ahead setting c s t
  tie_at false setting c s t = Agree (IsLive g c) s t

  abbrev pub tie : Setting → ℕ → State → State → Type 0
  tie setting c s t = tie_at (from c) setting c s t

  -- ---- exits without the operation

  edge : (setting : Setting) (exit : Exit) (c : ℕ) (s t : State) → from c ≡ false → IsIn c (targets_of exit) → ((v : ℕ) → IsIn v (results_of_exit exit) → ⊥) → Agree (LiveIn g [] exit) s t → tie setting c s t
  edge setting exit c s t n m k a =
      let made : Agree (IsLive g c) s t = weaken (LiveIn g [] exit) (IsLive g c) s t a (λ v l. inr (record { unwritten = k v; target = c; leads = m; live = l })) in
      subst (λ q. tie_at q setting c s t) (sym n) made

  back : (setting : Setting) (f : ℕ) (arguments : List Operand) (result : Option ℕ) (c : ℕ) (s t : State) → from c ≡ false → Agree (LiveIn g [] (Call f arguments result c)) s t → (n : ℤ) (x y : State) → SameWorld x y →
      tie setting c (holding x (with_result s.values result n)) (holding y (with_result t.values result n))
  back setting f arguments result c s t e a n x y w =
      let made : Agree (IsLive g c) (holding x (with_result s.values result n)) (holding y (with_result t.values result n)) = record {
        world = record { arrays = w.arrays; input = w.input; out = w.out };
        values = λ v m l h. by result refl v m l h;
      } in
      subst (λ q. tie_at q setting c (holding x (with_result s.values result n)) (holding y (with_result t.values result n))) (sym e) made
    where
      known_before : (v : ℕ) (m : ℤ) → IsLive g c v → (result ≡ Some v → ⊥) → s.values v ≡ Some m → t.values v ≡ Some m
      known_before v m l k h = a.values v m (inr (record { unwritten = no_result f arguments result c v k; target = c; leads = inl refl; live = l })) h

      by_same : (r v : ℕ) (m : ℤ) → result ≡ Some r → IsLive g c v → (same : Bool) → (v == r) ≡ same → cond same (Some n) (s.values v) ≡ Some m → cond same (Some n) (t.values v) ≡ Some m
      by_same r v m e l true q h = h
      by_same r v m e l false q h = known_before v m l (λ p. let d : ◌≡◌ {A = Option ℕ} (Some r) (Some v) = sym e ∙ p in let i : v ≡ r = cc in false≢true (sym q ∙ eq-eqb v r i)) h

      by : (o : Option ℕ) → result ≡ o → (v : ℕ) (m : ℤ) → IsLive g c v → with_result s.values o n v ≡ Some m → with_result t.values o n v ≡ Some m
      by None e v m l h = known_before v m l (λ p. let d : ◌≡◌ {A = Option ℕ} None (Some v) = sym e ∙ p in absurd (cc)) h
      by (Some r) e v m l h = by_same r v m e l (v == r) refl h

  or_false : (x y : Bool) → (x || y) ≡ false → (x ≡ false) × (y ≡ false)
  or_false true y h = absurd (false≢true (sym h))
  or_false false y h = (refl, h)

  exit_tied : (setting : Setting) (i : ℕ) (exit : Exit) (s t : State) → leads_to from exit ≡ false → Agree (LiveIn g [] exit) s t → Ties tie setting (leave i exit s) (leave i exit t)
  exit_tied setting i (Goto c) s t n a = arrives a.world (edge setting (Goto c) c s t n (inl refl) (λ v m. m) a)
  exit_tied setting i (Split p c d) s t n a =
      let both = or_false (from c) (from d) n in
      test_tied tie setting i c d s t (s.values p) (t.values p) (λ m e. a.values p m (inl (inl refl)) e) a.world
      (edge setting (Split p c d) c s t both.0 (inl refl) (λ v m. m) a)
      (edge setting (Split p c d) d s t both.1 (inr (inl refl)) (λ v m. m) a)
  exit_tied setting i (Call f arguments result c) s t n a =
      calls_tied tie setting f i c result s t (known (map (held s) arguments)) (known (map (held t) arguments)) (known_refined s t arguments (λ v m k e. a.values v k (inl m) e))
      a.world (back setting f arguments result c s t n a)
  exit_tied setting i (Return x) s t n a = leaves_tied tie setting s t (held s x) (held t x) (held_refined s t x (λ v m k e. a.values v k (inl m) e)) a.world
  exit_tied setting i (Ends k) s t n a = stopped a.world

  -- ---- exits behind the operation

  ahead : (setting : Setting) (c : ℕ) (s t : State) (x y : Content) → from c ≡ true → ((v : ℕ) → IsLive g c v → Refined (s.values v) (t.values v)) → SameWorld s t →
      effect setting s moved s ≡ Some (with_value s front.value x) → effect setting t moved t ≡ Some (with_value t front.value y) → Ahead setting c s (with_value t front.value y)
  ahead setting c s t x y h k w e d =
      let lives : ℕ → Type 0 = LiveBehind g c in
      let u : State = with_value s front.value x in
      let done : Done lives u (effect setting t moved t) = effect_alike lives setting moved s t s t u w w
      (λ v m. k v (reads_live moved g c v (front.begins c h) m))
      (λ v l n. k v (behind_live moved g c v (front.begins c h) n l)) e in
      let same : done.state ≡ with_value t front.value y = some_is done.state (with_value t front.value y) (sym done.is ∙ d) in
      (u, e, subst (λ z. Agree lives u z) same done.agree)

  module _ (covers : (c v : ℕ) → IsLive g c v → live c v ≡ true) where
    aside : (c : ℕ) (s t : State) (y : Content) → live c front.value ≡ false → Agree (IsLive g c) s t → Agree (IsLive g c) s (with_value t front.value y)
    aside c s t y n a = record {
      world = record { arrays = a.world.arrays; input = a.world.input; out = a.world.out };
      values = λ v m l e. by v m l (v == front.value) refl (a.values v m l e);
    }
      where
        by : (v : ℕ) (m : ℤ) → IsLive g c v → (same : Bool) → (v == front.value) ≡ same → t.values v ≡ Some m → cond same y (t.values v) ≡ Some m
        by v m l true q e = absurd (false≢true (sym n ∙ sym (ap (live c) (eqb-true v front.value q)) ∙ covers c v l))
        by v m l false q e = e

    module _ (setting : Setting) (i : ℕ) (s t : State) (x y : Content) (e : effect setting s moved s ≡ Some (with_value s front.value x)) (d : effect setting t moved t ≡ Some (with_value t front.value y)) where
      abbrev t1 : State
      t1 = with_value t front.value y

      edge_behind : (exit : Exit) (c : ℕ) → (from c || not (live c front.value)) ≡ true → IsIn c (targets_of exit) → ((v : ℕ) → IsIn v (results_of_exit exit) → ⊥) → Agree (LiveIn g [] exit) s t → tie setting c s t1
      edge_behind exit c h m k a = by (from c) refl h
        where
          agree : (v : ℕ) (n : ℤ) → IsLive g c v → s.values v ≡ Some n → t.values v ≡ Some n
          agree v n l q = a.values v n (inr (record { unwritten = k v; target = c; leads = m; live = l })) q

          by : (q : Bool) → from c ≡ q → (q || not (live c front.value)) ≡ true → tie_at q setting c s t1
          by true q h = ahead setting c s t x y q (λ v l n z. agree v n l z) a.world e d
          by false q h = aside c s t y (not-true (live c front.value) h) (record { world = a.world; values = agree })

      world_behind : SameWorld s t → SameWorld s t1
      world_behind w = record { arrays = w.arrays; input = w.input; out = w.out }

      test_behind : (p : ℕ) → not (p == front.value) ≡ true → Refined (s.values p) (t.values p) → Refined (s.values p) (t1.values p)
      test_behind p n r = subst (λ q. Refined (s.values p) (cond q y (t.values p))) (sym (not-true (p == front.value) n)) r

      exit_behind : (exit : Exit) → leads_to from exit ≡ true → lets_in live from front.value exit ≡ true → Agree (LiveIn g [] exit) s t → Ties tie setting (leave i exit s) (leave i exit t1)
      exit_behind (Goto c) h k a = arrives (world_behind a.world) (edge_behind (Goto c) c (subst (λ q. (q || not (live c front.value)) ≡ true) (sym h) refl) (inl refl) (λ v m. m) a)
      exit_behind (Split p c d) h k a =
          let parts = and_parts (not (p == front.value) && (from c || not (live c front.value))) (from d || not (live d front.value)) k in
          let first = and_parts (not (p == front.value)) (from c || not (live c front.value)) parts.0 in
          test_tied tie setting i c d s t1 (s.values p) (t1.values p) (test_behind p first.0 (λ m z. a.values p m (inl (inl refl)) z)) (world_behind a.world)
          (edge_behind (Split p c d) c first.1 (inl refl) (λ v m. m) a)
          (edge_behind (Split p c d) d parts.1 (inr (inl refl)) (λ v m. m) a)
      exit_behind (Call f arguments result c) h k a = absurd (false≢true k)
      exit_behind (Return z) h k a = absurd (false≢true k)
      exit_behind (Ends z) h k a = absurd (false≢true k)

    abbrev pub extra : Exit → List Op
    extra exit = cond (leads_to from exit) (moved ∷ []) []

    end_tied : (setting : Setting) (i room : ℕ) (exit : Exit) (s t : State) → (not (leads_to from exit) || (lets_in live from front.value exit && nat_lt room 512)) ≡ true → Agree (LiveIn g [] exit) s t → Ties tie setting (leave i exit s) (block_hop setting i (extra exit) exit t)
    end_tied setting i room exit s t h a = by (leads_to from exit) refl h
      where
        by : (q : Bool) → leads_to from exit ≡ q → (not q || (lets_in live from front.value exit && nat_lt room 512)) ≡ true → Ties tie setting (leave i exit s) (block_hop setting i (cond q (moved ∷ []) []) exit t)
        by true q h =
            let x : Wrote front.value s (effect setting s moved s) = wrote setting front.op front.value s s front.result in
            let y : Wrote front.value t (effect setting t moved t) = wrote setting front.op front.value t t front.result in
            let lets = and_parts (lets_in live from front.value exit) (nat_lt room 512) h in
            subst (λ o. Ties tie setting (leave i exit s) (and_then o (leave i exit))) (sym y.is) (exit_behind setting i s t x.content y.content x.is y.is exit q lets.0 a)
        by false q h = exit_tied setting i exit s t q a

    -- ---- operations, and then the exit

    then_tied : (setting : Setting) (lives : ℕ → Type 0) (o o' : Option State) (f h : State → Hop) → ((s' : State) → o ≡ Some s' → Done lives s' o') → ((s' t' : State) → Agree lives s' t' → Ties tie setting (f s') (h t')) → Ties tie setting (and_then o f) (and_then o' h)
    then_tied setting lives None o' f h d k = wrong
    then_tied setting lives (Some s') o' f h d k = let done = d s' refl in subst (λ q. Ties tie setting (f s') (and_then q h)) (sym done.is) (k s' done.state done.agree)

    ops_tied : (setting : Setting) (i room : ℕ) (ops : List Op) (exit : Exit) → (not (leads_to from exit) || (lets_in live from front.value exit && nat_lt room 512)) ≡ true → (s t : State) → Agree (LiveIn g ops exit) s t →
        Ties tie setting (block_hop setting i ops exit s) (block_hop setting i (ops ++ extra exit) exit t)
    ops_tied setting i room [] exit h s t a = end_tied setting i room exit s t h a
    ops_tied setting i room (op ∷ ops) exit h s t a =
        then_tied setting (LiveIn g ops exit) (effect setting s op s) (effect setting t op t) (block_hop setting i ops exit) (block_hop setting i (ops ++ extra exit) exit)
        (λ s' e. effect_alike (LiveIn g ops exit) setting op s t s t s' a.world a.world (λ v m n f. a.values v n (inl (inl m)) f) (λ v l k n f. a.values v n (live_later g op ops exit v l k) f) e)
        (λ s' t' more. ops_tied setting i room ops exit h s' t' more)

    -- ---- blocks

    abbrev HopsTied : Setting → ℕ → State → State → List Op → Block → Type 0
    HopsTied setting i s t ops block = Ties tie setting (block_hop setting i block.ops block.exit s) (block_hop setting i (ops ++ extra block.exit) block.exit t)

    -- a block that lost the operation
    front_tied : (setting : Setting) (i : ℕ) (s t : State) (block : Block) → slice_get g.blocks i ≡ Some block → from i ≡ true → takes_in live from front.value block ≡ true → Ahead setting i s t → HopsTied setting i s t (behind_first block.ops) block
    front_tied setting i s t block has q h a = first (front.begins i q)
      where
        first : Begins moved g i → HopsTied setting i s t (behind_first block.ops) block
        first begins =
            let same : begins.block ≡ block = some_block begins.block block (sym begins.has ∙ has) in
            let ops : block.ops ≡ begins.op ∷ begins.rest = ap (λ (z : Block). z.ops) (sym same) ∙ begins.ops in
            subst (λ ops. Ties tie setting (block_hop setting i ops block.exit s) (block_hop setting i (behind_first ops ++ extra block.exit) block.exit t)) (sym ops) (by (effect setting s begins.op s) refl)
          where
            by : (o : Option State) → effect setting s begins.op s ≡ o → Ties tie setting (and_then o (block_hop setting i begins.rest block.exit)) (block_hop setting i (begins.rest ++ extra block.exit) block.exit t)
            by None e = wrong
            by (Some s1) e =
                let done : effect setting s moved s ≡ Some s1 = subst (λ z. effect setting s z s ≡ Some s1) begins.same (dismissed_same setting begins.op s s s1 e) in
                let same : a.0 ≡ s1 = some_is a.0 s1 (sym a.1 ∙ done) in
                let own : begins.block ≡ block = some_block begins.block block (sym begins.has ∙ has) in
                let rest : behind_first block.ops ≡ begins.rest = ap (λ (z : Block). behind_first z.ops) (sym own) ∙ ap behind_first begins.ops in
                let agree : Agree (LiveBehind g i) s1 t = subst (λ z. Agree (LiveBehind g i) z t) same a.2 in
                ops_tied setting i (length block.ops) begins.rest block.exit h s1 t
                (weaken (LiveBehind g i) (LiveIn g begins.rest block.exit) s1 t agree (λ v l. (block, has, subst (λ ops. LiveIn g ops block.exit v) (sym rest) l)))

    block_tied : (setting : Setting) (i : ℕ) (s t : State) (block : Block) → slice_get g.blocks i ≡ Some block → tie setting i s t → HopsTied setting i s t (cond (from i) (behind_first block.ops) block.ops) block
    block_tied setting i s t block e a = by (from i) refl a
      where
        takes : takes_in live from front.value block ≡ true
        takes = all_at (takes_in live from front.value) g.blocks i block front.takes e

        by : (q : Bool) → from i ≡ q → tie_at q setting i s t → HopsTied setting i s t (cond q (behind_first block.ops) block.ops) block
        by true q a = front_tied setting i s t block e q takes a
        by false q a = ops_tied setting i (length block.ops) block.ops block.exit takes s t (weaken (IsLive g i) (LiveIn g block.ops block.exit) s t a (λ v l. live_at g i block v e l))

    option_tied : (setting : Setting) (i : ℕ) (s t : State) (o : Option Block) → slice_get g.blocks i ≡ o → tie setting i s t → Ties tie setting (hop_of setting i o s) (hop_of setting i (option_map (raised_block from front.op i) o) t)
    option_tied setting i s t None e a = wrong
    option_tied setting i s t (Some block) e a = block_tied setting i s t block e a

    entry_tied : (setting : Setting) (x y : State) (values : ℕ → Content) → SameWorld x y → tie setting 0 (holding x values) (holding y values)
    entry_tied setting x y values w =
        let made : Agree (IsLive g 0) (holding x values) (holding y values) = record { world = record { arrays = w.arrays; input = w.input; out = w.out }; values = λ v n l e. e } in
        subst (λ q. tie_at q setting 0 (holding x values) (holding y values)) (sym front.entry) made

    pub graph_tied : (h : Graph) → h ≡ raised g b b' → GraphTied tie g h
    graph_tied h e =
        let q : h ≡ record g { blocks = raised_blocks from front.op 0 g.blocks } = e ∙ front.is in
        record {
          blocks = raised_blocks from front.op 0 g.blocks;
          is = q;
          entry = λ setting ns x y w. entry_tied setting x y (at_entry g.parameters ns) w;
          hops = λ setting i s t stand w a. subst (λ (o : Option Block). Ties tie setting (hop_of setting i (slice_get g.blocks i) s) (hop_of setting i o t)) (sym (ap (λ (k : Graph). slice_get k.blocks i) q ∙ block_here from front.op g.blocks i)) (option_tied setting i s t (slice_get g.blocks i) refl a);
        }

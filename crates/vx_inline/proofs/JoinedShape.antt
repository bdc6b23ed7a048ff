-- The blocks of the graph before there are blocks for edges, and its shape.
use Rattle.std.proofs.Common.{◌≡◌, ◌⊎◌, inl, inr, ℕ, ◌+◌, ◌<◌, ◌≤◌, Bool, true, false, cond, ◌==◌, List, [], ◌++◌, length, map, slice_get, Some, refl, sym, ap, ◌∙◌, subst, eq-eqb, eqb-true, lt-ltb, arith, append-nil}
use Rattle.std.proofs.lemmas.Bool.{false≢true}
use Rattle.std.proofs.lemmas.Option.{slice_get_within}
use Rattle.std.specs.List.{filter}
use Rattle.vx_base.specs.declared.outcome.Trap.{Trap}
use Rattle.vx_flow.specs.declared.graph.Bank.{Bank}
use Rattle.vx_flow.specs.declared.graph.Op.{Op}
use Rattle.vx_flow.specs.declared.graph.Exit.TheVariants.{Goto, Split, Ends}
use Rattle.vx_flow.specs.declared.graph.Block.{Block}
use Rattle.vx_flow.specs.declared.graph.Flow.{Flow}
use Rattle.vx_flow.specs.declared.graph.Edge.{Edge}
use Rattle.vx_flow.specs.Effects.{IsIn}
use Rattle.vx_flow.specs.Operands.{with_values}
use Rattle.vx_flow.specs.Sound.{SoundFlow, Sound, Leads, targets_of}
use Rattle.vx_flow.proofs.Members.{in_left, in_right}
use Rattle.vx_inline.specs.declared.site.Site.{Site}
use Rattle.vx_inline.specs.Inlined.{CallAt, IsPermitted, taken, is_plain, kind_place, plain_before, placed_as, moves_in, stayed, entering, copied, stayed_all, critical, behind, callers_plain, all_plain, all_kinds, caller_at, callee_at, joined, inlined_blocks}
use Rattle.vx_inline.specs.Joined.{Stays, Enters}
use Rattle.vx_inline.specs.Laws.{BeginsPlain}
use Rattle.vx_shape.specs.Shape.{Shaped}
use Rattle.vx_inline.proofs.Depth.{get_in}
use Rattle.vx_inline.proofs.Edges.{Rowed, get_either, get_map, get_filter, Ready, edges_shaped}
use Rattle.vx_inline.proofs.Numbering.{get_behind, there, before_all, trap_at}
use Rattle.vx_inline.proofs.Rests.{longer, all_before, stayed_from, placed_one, kinds_one, moved_ends, copied_ends, not_both_trap, moves_few, copied_short, MovedSplit, moved_split, copied_split, moved_target, copied_target}
use Rattle.vx_inline.proofs.Joining.{block_is, site_plain as the_site_plain, first_length as the_first_length, second_length as the_second_length, long as the_long, plain_place as the_plain_place, trap_place as the_trap_place, caller_place as the_caller_place, caller_low as the_caller_low, stays as the_stays, enters as the_enters, zero_place as the_zero_place}

module _ (flow : Flow) (site : Site) (c : CallAt flow site) (free : Bank → List ℕ) (permitted : IsPermitted flow site c free) (sound : SoundFlow flow) where
  abbrev A : List Block
  A = c.parts.caller.blocks

  abbrev B : List Block
  B = c.parts.callee.blocks

  abbrev nA : ℕ
  nA = callers_plain c.parts

  abbrev nB : ℕ
  nB = length (filter is_plain B)

  abbrev m : ℕ
  m = all_plain c.parts

  abbrev kinds : List Trap
  kinds = all_kinds c.parts

  abbrev at0 : ℕ → ℕ
  at0 = caller_at c.parts

  abbrev copy0 : ℕ → ℕ
  copy0 = callee_at c.parts

  abbrev to : ℕ → ℕ
  to = taken c.parts.callee free

  abbrev moves : List Op
  moves = moves_in to c.parts.callee.parameters c.parts.arguments

  abbrev enter : Block
  enter = entering to c.parts.callee.parameters c.parts.arguments (copy0 0) c.parts.block.ops

  abbrev copy_of : Block → Block
  copy_of block = copied copy0 to c.parts.result (at0 c.parts.next) block

  abbrev stayed_row : List Block
  stayed_row = stayed_all at0 enter site.block 0 A

  abbrev X : List Block
  X = filter is_plain stayed_row

  abbrev Y : List Block
  Y = filter is_plain (map copy_of B)

  abbrev Z : List Block
  Z = map trap_at kinds

  abbrev S : List Block
  S = joined c.parts site.block free

  abbrev es : List Edge
  es = critical S 0 S

  abbrev F : List Block
  F = inlined_blocks c.parts site.block free

  abbrev at : ℕ → ℕ
  at b = behind m (length es) (at0 b)

  abbrev copy : ℕ → ℕ
  copy b = behind m (length es) (copy0 b)

  site_plain : is_plain c.parts.block ≡ true
  site_plain = the_site_plain flow site c free permitted sound

  first_length : length X ≡ nA
  first_length = the_first_length flow site c free permitted sound

  second_length : length Y ≡ nB
  second_length = the_second_length flow site c free permitted sound

  long : m ≤ length S
  long = the_long flow site c free permitted sound

  plain_place : (first : ℕ) (blocks : List Block) (b : ℕ) (block : Block) → slice_get blocks b ≡ Some block → is_plain block ≡ true → placed_as first m kinds blocks b (slice_get blocks b) ≡ first + plain_before blocks b
  plain_place = the_plain_place flow site c free permitted sound

  trap_place : (first : ℕ) (blocks : List Block) (b : ℕ) (block : Block) → slice_get blocks b ≡ Some block → is_plain block ≡ false → placed_as first m kinds blocks b (slice_get blocks b) ≡ m + kind_place kinds block.exit
  trap_place = the_trap_place flow site c free permitted sound

  caller_place : (b : ℕ) (block : Block) → slice_get A b ≡ Some block → is_plain block ≡ true → at0 b ≡ plain_before A b
  caller_place = the_caller_place flow site c free permitted sound

  caller_low : (b : ℕ) (block : Block) → slice_get A b ≡ Some block → is_plain block ≡ true → at0 b < m
  caller_low = the_caller_low flow site c free permitted sound

  stays : (b : ℕ) (block : Block) → (b ≡ site.block → ⊥) → slice_get A b ≡ Some block → Stays F at block (at b)
  stays = the_stays flow site c free permitted sound

  enters : Enters F (c.parts.block.ops ++ moves) (copy 0) (at site.block)
  enters = the_enters flow site c free permitted sound

  -- ---- numbers that stay

  pub number_stays : (b : ℕ) (block : Block) → slice_get c.parts.caller.blocks b ≡ Some block → is_plain block ≡ true → ((j : ℕ) (x : Block) → j < b → slice_get c.parts.caller.blocks j ≡ Some x → is_plain x ≡ true) →
      (into : Block) × (more : List Op) × (slice_get (inlined_blocks c.parts site.block free) b ≡ Some into) × (into.ops ≡ block.ops ++ more)
  number_stays b block e p all = by (b == site.block) refl
    where
      same : at b ≡ b
      same =
          let q : at0 b ≡ b = caller_place b block e p ∙ all_before A b block e all in
          let l : at0 b < m = caller_low b block e p in
          ap (λ t. cond t (at0 b) (at0 b + length es)) (lt-ltb (at0 b) m l) ∙ q

      by : (t : Bool) → (b == site.block) ≡ t → (into : Block) × (more : List Op) × (slice_get F b ≡ Some into) × (into.ops ≡ block.ops ++ more)
      by true h =
          let q : b ≡ site.block = eqb-true b site.block h in
          let is : block ≡ c.parts.block = block_is block c.parts.block (sym e ∙ ap (slice_get A) q ∙ c.is_block) in
          (enters.into, moves, ap (slice_get F) (sym same ∙ ap at q) ∙ enters.is, enters.does ∙ ap (λ (x : Block). x.ops ++ moves) (sym is))
      by false h =
          let s : Stays F at block (at b) = stays b block (λ i. false≢true (sym h ∙ eq-eqb b site.block i)) e in
          (s.into, [], ap (slice_get F) (sym same) ∙ s.is, s.ops ∙ sym (append-nil block.ops))

  -- ---- the blocks before there are blocks for edges

  -- what one of them is, but for trap blocks
  pub data From (block : Block) : Type 0 where
    of_caller : (b : ℕ) (x : Block) → slice_get A b ≡ Some x → block ≡ stayed at0 x → From block
    of_call : block ≡ enter → From block
    of_callee : (b : ℕ) (x : Block) → slice_get B b ≡ Some x → block ≡ copy_of x → From block

  pub record FromPlain (block : Block) : Type 0 where
    pub from : From block
    pub plain : is_plain block ≡ true

  pub from_first : (i : ℕ) (block : Block) → slice_get X i ≡ Some block → FromPlain block
  from_first i block e = record { from = by (0 + f.0 == site.block) r.2; plain = f.2 }
    where
      f : (b : ℕ) × (slice_get stayed_row b ≡ Some block) × (is_plain block ≡ true)
      f = get_filter is_plain stayed_row i block e

      r : (x : Block) × (slice_get A f.0 ≡ Some x) × (block ≡ cond (0 + f.0 == site.block) enter (stayed at0 x))
      r = stayed_from at0 enter site.block 0 A f.0 block f.1

      by : (t : Bool) → block ≡ cond t enter (stayed at0 r.0) → From block
      by true q = of_call q
      by false q = of_caller f.0 r.0 r.1 q

  pub from_second : (i : ℕ) (block : Block) → slice_get Y i ≡ Some block → FromPlain block
  from_second i block e =
      let f = get_filter is_plain (map copy_of B) i block e in
      let r = get_map copy_of B f.0 block f.1 in
      record { from = of_callee f.0 r.0 r.1 (sym r.2); plain = f.2 }

  pub record FromTrap (x : ℕ) (block : Block) : Type 0 where
    pub j : ℕ
    pub kind : Trap
    pub place : x ≡ m + j
    pub has : slice_get kinds j ≡ Some kind
    pub is : block ≡ trap_at kind

  pub from_row : (x : ℕ) (block : Block) → slice_get S x ≡ Some block → FromPlain block ⊎ FromTrap x block
  from_row x block e = by (get_either X (Y ++ Z) x block e)
    where
      later : (k : ℕ) → x ≡ length X + k → ((k < length Y) × (slice_get Y k ≡ Some block)) ⊎ ((j : ℕ) × (k ≡ length Y + j) × (slice_get Z j ≡ Some block)) → FromPlain block ⊎ FromTrap x block
      later k q (inl r) = inl (from_second k block r.1)
      later k q (inr r) =
          let a : length X ≡ nA = first_length in
          let b : length Y ≡ nB = second_length in
          let d : k ≡ length Y + r.0 = r.1 in
          let w = get_map trap_at kinds r.0 block r.2 in
          inr (record { j = r.0; kind = w.0; place = omega (arith, q, a, b, d); has = w.1; is = sym w.2 })

      by : ((x < length X) × (slice_get X x ≡ Some block)) ⊎ ((k : ℕ) × (x ≡ length X + k) × (slice_get (Y ++ Z) k ≡ Some block)) → FromPlain block ⊎ FromTrap x block
      by (inl r) = inl (from_first x block r.1)
      by (inr r) = later r.0 r.1 (get_either Y Z r.0 block r.2)

  pub tail_kind : (i : ℕ) (block : Block) → slice_get S (m + i) ≡ Some block → (k : Trap) × (slice_get kinds i ≡ Some k) × (block ≡ trap_at k)
  tail_kind i block e =
      let a : length X ≡ nA = first_length in
      let b : length Y ≡ nB = second_length in
      let q : length X + (length Y + i) ≡ m + i = omega (arith, a, b) in
      let here : slice_get Z i ≡ Some block = sym (get_behind Y Z i) ∙ sym (get_behind X (Y ++ Z) (length Y + i)) ∙ ap (slice_get S) q ∙ e in
      let w = get_map trap_at kinds i block here in
      (w.0, w.1, sym w.2)

  pub caller_sound : Sound c.parts.caller
  caller_sound = sound.graphs c.parts.caller (get_in flow.functions site.function c.parts.caller c.is_caller)

  pub callee_sound : Sound c.parts.callee
  callee_sound = sound.graphs c.parts.callee (get_in flow.functions c.parts.called c.parts.callee c.is_callee)

  pub caller_target : (b d : ℕ) (x : Block) → slice_get A b ≡ Some x → IsIn d (targets_of x.exit) → (z : Block) × (slice_get A d ≡ Some z)
  caller_target b d x e k = there A d (caller_sound.targets x.exit d (record { block = x; has = get_in A b x e; ends = refl }) k)

  pub callee_target : (b d : ℕ) (x : Block) → slice_get B b ≡ Some x → IsIn d (targets_of x.exit) → (z : Block) × (slice_get B d ≡ Some z)
  callee_target b d x e k = there B d (callee_sound.targets x.exit d (record { block = x; has = get_in B b x e; ends = refl }) k)

  pub next_there : IsIn c.parts.next (targets_of c.parts.block.exit)
  next_there = subst (λ x. IsIn c.parts.next (targets_of x)) (sym c.ends) (inl refl)

  pub callee_first : (w : Block) × (slice_get B 0 ≡ Some w)
  callee_first = there B 0 (sound.blocks c.parts.callee (get_in flow.functions c.parts.called c.parts.callee c.is_callee))

  pub rowed : Rowed m S
  rowed = record { long = long; tail = λ i block e. (let r = tail_kind i block e in (r.0, r.2)) }

  module _ (begins : BeginsPlain flow site c) (sa : Shaped c.parts.caller) (sb : Shaped c.parts.callee) where
    zero_place : (block : Block) → slice_get A 0 ≡ Some block → at0 0 ≡ 0
    zero_place = the_zero_place flow site c free permitted sound begins

    caller_one : (b d : ℕ) (x z : Block) → slice_get A b ≡ Some x → slice_get A d ≡ Some z → at0 b ≡ at0 d → b ≡ d
    caller_one b d x z e f q =
        placed_one 0 m A B A b d x z (let l : 0 + length (filter is_plain A) ≤ m = omega arith in l) (λ w i. in_left w A B i) (λ i j k h g. sa.trap_alone i j k (record { block = h.block; has = h.has; ends = h.ends }) (record { block = g.block; has = g.has; ends = g.ends })) e f q

    callee_one : (b d : ℕ) (x z : Block) → slice_get B b ≡ Some x → slice_get B d ≡ Some z → copy0 b ≡ copy0 d → b ≡ d
    callee_one b d x z e f q =
        placed_one nA m A B B b d x z (let l : nA + length (filter is_plain B) ≤ m = omega arith in l) (λ w i. in_right w A B i) (λ i j k h g. sb.trap_alone i j k (record { block = h.block; has = h.has; ends = h.ends }) (record { block = g.block; has = g.has; ends = g.ends })) e f q

    nA_some : 0 < nA
    nA_some = let low : plain_before A site.block < nA = before_all A site.block c.parts.block c.is_block site_plain in omega (arith, low)

    -- no block of the callee stands at 0
    copy_some : (d : ℕ) (x : Block) → slice_get B d ≡ Some x → copy0 d ≡ 0 → ⊥
    copy_some d x e q = by (is_plain x) refl
      where
        by : (t : Bool) → is_plain x ≡ t → ⊥
        by true p = let r : copy0 d ≡ nA + plain_before B d = plain_place nA B d x e p in let s : 0 < nA = nA_some in omega (arith, q, r, s)
        by false p = let r : copy0 d ≡ m + kind_place kinds x.exit = trap_place nA B d x e p in let s : 0 < nA = nA_some in omega (arith, q, r, s)

    caller_zero : (b d : ℕ) (x : Block) → slice_get A b ≡ Some x → IsIn d (targets_of x.exit) → at0 d ≡ 0 → ⊥
    caller_zero b d x e k q =
        let z = caller_target b d x e k in
        let first : (w : Block) × (slice_get A 0 ≡ Some w) = there A 0 (let l : d < length A = slice_get_within A d z.0 z.1 in omega (arith, l)) in
        let same : d ≡ 0 = caller_one d 0 z.0 first.0 z.1 first.1 (q ∙ sym (zero_place first.0 first.1)) in
        sa.entry b (record { block = x; has = e; leads = subst (λ v. IsIn v (targets_of x.exit)) same k })

    no_plain : (x : ℕ) (block : Block) (k : Trap) → x < m → slice_get S x ≡ Some block → block.exit ≡ Ends k → ⊥
    no_plain x block k l e d = by (from_row x block e)
      where
        by_from : is_plain block ≡ true → From block → ⊥
        by_from p (of_caller b w h q) =
            let same : w.exit ≡ Ends k = moved_ends at0 w.exit k (ap (λ (z : Block). z.exit) (sym q) ∙ d) in
            let none : w.ops ≡ [] = sa.trap_empty b k (record { block = w; has = h; ends = same }) in
            not_both_trap block k p d (ap (λ (z : Block). z.ops) q ∙ none)
        by_from p (of_call q) = let r : Goto (copy0 0) ≡ Ends k = ap (λ (z : Block). z.exit) (sym q) ∙ d in cc
        by_from p (of_callee b w h q) =
            let r = copied_ends copy0 to c.parts.result (at0 c.parts.next) w k (ap (λ (z : Block). z.exit) (sym q) ∙ d) in
            let none : w.ops ≡ [] = sb.trap_empty b k (record { block = w; has = h; ends = r.0 }) in
            not_both_trap block k p d (ap (λ (z : Block). z.ops) q ∙ r.1 ∙ ap (map (with_values to)) none)

        by : FromPlain block ⊎ FromTrap x block → ⊥
        by (inl f) = by_from f.plain f.from
        by (inr t) = let q : x ≡ m + t.j = t.place in omega (arith, l, q)

    short_row : (x : ℕ) (block : Block) → slice_get S x ≡ Some block → length block.ops ≤ 512
    short_row x block e = by (from_row x block e)
      where
        by_from : From block → length block.ops ≤ 512
        by_from (of_caller b w h q) = subst (λ (z : Block). length z.ops ≤ 512) (sym q) (sa.short b w h)
        by_from (of_call q) =
            let a : length (c.parts.block.ops ++ moves) ≡ length c.parts.block.ops + length moves = longer c.parts.block.ops moves in
            let f : length moves ≤ length c.parts.arguments = moves_few to c.parts.callee.parameters c.parts.arguments in
            let s : length c.parts.block.ops + length c.parts.arguments ≤ 512 = permitted.caller_short in
            let l : length (c.parts.block.ops ++ moves) ≤ 512 = omega (arith, a, f, s) in
            subst (λ (z : Block). length z.ops ≤ 512) (sym q) l
        by_from (of_callee b w h q) = subst (λ (z : Block). length z.ops ≤ 512) (sym q) (copied_short copy0 to c.parts.result (at0 c.parts.next) w (sb.short b w h) (λ v r. permitted.callee_short b w v h r))

        by : FromPlain block ⊎ FromTrap x block → length block.ops ≤ 512
        by (inl f) = by_from f.from
        by (inr t) = let l : 0 ≤ 512 = omega arith in subst (λ (z : Block). length z.ops ≤ 512) (sym t.is) l

    apart_row : (x : ℕ) (block : Block) (p y z : ℕ) → slice_get S x ≡ Some block → block.exit ≡ Split p y z → y ≡ z → ⊥
    apart_row x block p y z e d same = by (from_row x block e)
      where
        by_from : From block → ⊥
        by_from (of_caller b w h q) =
            let s : MovedSplit at0 w.exit y z = moved_split at0 w.exit p y z (ap (λ (v : Block). v.exit) (sym q) ∙ d) in
            let t1 = caller_target b s.first w h (subst (λ v. IsIn s.first (targets_of v)) (sym s.is) (inl refl)) in
            let t2 = caller_target b s.second w h (subst (λ v. IsIn s.second (targets_of v)) (sym s.is) (inr (inl refl))) in
            sa.apart b w s.test s.first s.second h s.is (caller_one s.first s.second t1.0 t2.0 t1.1 t2.1 (s.at_first ∙ same ∙ sym s.at_second))
        by_from (of_call q) = let r : Goto (copy0 0) ≡ Split p y z = ap (λ (v : Block). v.exit) (sym q) ∙ d in cc
        by_from (of_callee b w h q) =
            let s : MovedSplit copy0 w.exit y z = copied_split copy0 to c.parts.result (at0 c.parts.next) w p y z (ap (λ (v : Block). v.exit) (sym q) ∙ d) in
            let t1 = callee_target b s.first w h (subst (λ v. IsIn s.first (targets_of v)) (sym s.is) (inl refl)) in
            let t2 = callee_target b s.second w h (subst (λ v. IsIn s.second (targets_of v)) (sym s.is) (inr (inl refl))) in
            sb.apart b w s.test s.first s.second h s.is (callee_one s.first s.second t1.0 t2.0 t1.1 t2.1 (s.at_first ∙ same ∙ sym s.at_second))

        by : FromPlain block ⊎ FromTrap x block → ⊥
        by (inl f) = by_from f.from
        by (inr t) = let r : Ends t.kind ≡ Split p y z = ap (λ (v : Block). v.exit) (sym t.is) ∙ d in cc

    entry_row : (x : ℕ) → Leads S x 0 → ⊥
    entry_row x k = by (from_row x k.block k.has)
      where
        by_from : From k.block → ⊥
        by_from (of_caller b w h q) =
            let t = moved_target at0 w.exit 0 (subst (λ (v : Block). IsIn 0 (targets_of v.exit)) q k.leads) in
            caller_zero b t.0 w h t.1 (sym t.2)
        by_from (of_call q) = elim (subst (λ (v : Block). IsIn 0 (targets_of v.exit)) q k.leads) [ inl e ↦ copy_some 0 callee_first.0 callee_first.1 (sym e) | inr z ↦ z ]
        by_from (of_callee b w h q) = by_target (copied_target copy0 to c.parts.result (at0 c.parts.next) w 0 (subst (λ (v : Block). IsIn 0 (targets_of v.exit)) q k.leads))
          where
            by_target : ((d : ℕ) × IsIn d (targets_of w.exit) × (0 ≡ copy0 d)) ⊎ (0 ≡ at0 c.parts.next) → ⊥
            by_target (inl t) = let z = callee_target b t.0 w h t.1 in copy_some t.0 z.0 z.1 (sym t.2)
            by_target (inr e) = caller_zero site.block c.parts.next c.parts.block c.is_block next_there (sym e)

        by : FromPlain k.block ⊎ FromTrap x k.block → ⊥
        by (inl f) = by_from f.from
        by (inr t) = let z : IsIn 0 (targets_of (Ends t.kind)) = subst (λ (v : Block). IsIn 0 (targets_of v.exit)) t.is k.leads in z

    alone_row : (i j : ℕ) (k : Trap) → slice_get S (m + i) ≡ Some (trap_at k) → slice_get S (m + j) ≡ Some (trap_at k) → i ≡ j
    alone_row i j k e d =
        let r = tail_kind i (trap_at k) e in
        let s = tail_kind j (trap_at k) d in
        let a : Ends k ≡ Ends r.0 = ap (λ (z : Block). z.exit) r.2 in
        let b : Ends k ≡ Ends s.0 = ap (λ (z : Block). z.exit) s.2 in
        let p : r.0 ≡ k = cc in
        let q : s.0 ≡ k = cc in
        kinds_one (A ++ B) i j k (r.1 ∙ ap Some p) (s.1 ∙ ap Some q)

    ready : Ready m S
    ready = record {
      some = (let l : 0 < nA = nA_some in omega (arith, l));
      plain = no_plain;
      alone = alone_row;
      short = short_row;
      apart = apart_row;
      entry = entry_row;
    }

    pub graph_shaped : Shaped (record c.parts.caller { blocks = inlined_blocks c.parts site.block free })
    graph_shaped = edges_shaped m S rowed ready c.parts.caller

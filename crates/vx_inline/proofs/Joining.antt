-- The flow with a permitted call inlined has the callee in place of the call.
use Rattle.std.proofs.Common.{◌≡◌, ℕ, ◌+◌, ◌<◌, ◌≤◌, Bool, true, false, cond, ◌==◌, nat_lt, ℤ, List, [], ◌++◌, length, map, slice_get, slice_set, Option, Some, None, refl, sym, ap, ◌∙◌, subst, eq-eqb, ltb-true, ltb-false, lt-ltb, arith, append-nil}
use Rattle.std.proofs.lemmas.Bool.{false≢true}
use Rattle.std.proofs.lemmas.Option.{slice_get_within, slice_get-map}
use Rattle.std.specs.List.{filter}
use Rattle.std.specs.Option.{option_map}
use Rattle.vx_base.specs.Outcome.{Same, NeverFails}
use Rattle.vx_base.specs.declared.outcome.Trap.{Trap}
use Rattle.vx_flow.specs.declared.graph.Bank.{Bank}
use Rattle.vx_flow.specs.declared.graph.Op.{Op}
use Rattle.vx_flow.specs.declared.graph.Exit.{Exit}
use Rattle.vx_flow.specs.declared.graph.Exit.TheVariants.{Goto, Split, Call, Return, Ends}
use Rattle.vx_flow.specs.declared.graph.Array.{Array}
use Rattle.vx_flow.specs.declared.graph.Block.{Block}
use Rattle.vx_flow.specs.declared.graph.Graph.{Graph}
use Rattle.vx_flow.specs.declared.graph.Flow.{Flow}
use Rattle.vx_flow.specs.declared.graph.Edge.{Edge}
use Rattle.vx_flow.specs.Effects.{IsIn}
use Rattle.vx_flow.specs.Meaning.{graph_run}
use Rattle.vx_flow.specs.Operands.{with_value_in, with_values}
use Rattle.vx_flow.specs.Sound.{HasExit, SoundFlow, Sound}
use Rattle.vx_flow.proofs.Members.{in_left, in_right}
use Rattle.vx_lower.proofs.Places.{set_same, set_other}
use Rattle.vx_inline.specs.declared.site.Site.{Site}
use Rattle.vx_inline.specs.Inlined.{CallAt, IsPermitted, taken, is_plain, kind_place, plain_before, placed_as, moved, moves_in, moves_out, stayed, entering, copied, copied_as, stayed_all, critical, behind, edge_block, relinked_exit, callers_plain, all_plain, all_kinds, caller_at, callee_at, joined, inlined_blocks, inlined}
use Rattle.vx_inline.specs.Joined.{Follows, Copies, Stays, Stands, Enters, Joins}
use Rattle.vx_inline.specs.Laws.{BeginsPlain, InlinedRuns}
use Rattle.vx_inline.proofs.Depth.{get_in}
use Rattle.vx_inline.proofs.Inlines.{joined_runs}
use Rattle.vx_inline.proofs.Renaming.{unequal}
use Rattle.vx_inline.proofs.Numbering.{get_front, get_behind, there, AsPlain, count_same, filter_at, before_all, trap_at, IsTrap, trap_of, kind_at, stayed_get, stayed_is_plain, stayed_plain, copied_is_plain, map_plain, comes, plain_edged, trap_edged}
use Rattle.vx_inline.proofs.Taking.{taken_one, is_free}
use Rattle.vx_inline.proofs.Rests.{longer}

pub block_is : (x y : Block) → Option.Some x ≡ Some y → x ≡ y
block_is x y e = cc

module _ (flow : Flow) (site : Site) (c : CallAt flow site) (free : Bank → List ℕ) (permitted : IsPermitted flow site c free) (sound : SoundFlow flow) where
  abbrev A : List Block
  A = c.parts.caller.blocks

  abbrev B : List Block
  B = c.parts.callee.blocks

  abbrev nA : ℕ
  nA = callers_plain c.parts

  abbrev nB : ℕ
  nB = length (filter is_plain B)

  abbrev m : ℕ
  m = all_plain c.parts

  abbrev kinds : List Trap
  kinds = all_kinds c.parts

  abbrev at0 : ℕ → ℕ
  at0 = caller_at c.parts

  abbrev copy0 : ℕ → ℕ
  copy0 = callee_at c.parts

  abbrev to : ℕ → ℕ
  to = taken c.parts.callee free

  abbrev moves : List Op
  moves = moves_in to c.parts.callee.parameters c.parts.arguments

  abbrev enter : Block
  enter = entering to c.parts.callee.parameters c.parts.arguments (copy0 0) c.parts.block.ops

  abbrev copy_of : Block → Block
  copy_of block = copied copy0 to c.parts.result (at0 c.parts.next) block

  abbrev stayed_row : List Block
  stayed_row = stayed_all at0 enter site.block 0 A

  abbrev X : List Block
  X = filter is_plain stayed_row

  abbrev Y : List Block
  Y = filter is_plain (map copy_of B)

  abbrev Z : List Block
  Z = map trap_at kinds

  abbrev S : List Block
  S = joined c.parts site.block free

  abbrev es : List Edge
  es = critical S 0 S

  abbrev F : List Block
  F = inlined_blocks c.parts site.block free

  abbrev at : ℕ → ℕ
  at b = behind m (length es) (at0 b)

  abbrev copy : ℕ → ℕ
  copy b = behind m (length es) (copy0 b)

  pub site_plain : is_plain c.parts.block ≡ true
  site_plain = ap (λ x. is_plain (record c.parts.block { exit = x })) c.ends

  stayed_as_plain : AsPlain A stayed_row
  stayed_as_plain = stayed_plain at0 enter site.block 0 A refl (λ b block e q.
      let n : b ≡ site.block = omega (arith, q) in
      let same : c.parts.block ≡ block = block_is c.parts.block block (sym c.is_block ∙ ap (slice_get A) (sym n) ∙ e) in
      subst (λ x. is_plain x ≡ true) same site_plain)

  copied_as_plain : AsPlain B (map copy_of B)
  copied_as_plain = map_plain copy_of B (copied_is_plain copy0 to c.parts.result (at0 c.parts.next))

  pub first_length : length X ≡ nA
  first_length = count_same A stayed_row stayed_as_plain

  pub second_length : length Y ≡ nB
  second_length = count_same B (map copy_of B) copied_as_plain

  pub long : m ≤ length S
  long =
      let a : length X ≡ nA = first_length in
      let b : length Y ≡ nB = second_length in
      let d : length S ≡ length X + length (Y ++ Z) = longer X (Y ++ Z) in
      let e : length (Y ++ Z) ≡ length Y + length Z = longer Y Z in
      omega (arith, a, b, d, e)

  in_first : (i : ℕ) (block : Block) → slice_get X i ≡ Some block → slice_get S i ≡ Some block
  in_first i block e = get_front X (Y ++ Z) i (slice_get_within X i block e) ∙ e

  in_second : (k : ℕ) (block : Block) → slice_get Y k ≡ Some block → slice_get S (nA + k) ≡ Some block
  in_second k block e =
      ap (λ n. slice_get S (n + k)) (sym first_length) ∙ get_behind X (Y ++ Z) k ∙ get_front Y Z k (slice_get_within Y k block e) ∙ e

  pub in_third : (k : ℕ) (block : Block) → slice_get Z k ≡ Some block → slice_get S (m + k) ≡ Some block
  in_third k block e =
      let a : length X ≡ nA = first_length in
      let b : length Y ≡ nB = second_length in
      let q : m + k ≡ length X + (length Y + k) = omega (arith, a, b) in
      ap (slice_get S) q ∙ get_behind X (Y ++ Z) (length Y + k) ∙ get_behind Y Z k ∙ e

  -- where blocks stand

  pub plain_place : (first : ℕ) (blocks : List Block) (b : ℕ) (block : Block) → slice_get blocks b ≡ Some block → is_plain block ≡ true → placed_as first m kinds blocks b (slice_get blocks b) ≡ first + plain_before blocks b
  plain_place first blocks b block e p = ap (placed_as first m kinds blocks b) e ∙ ap (λ t. cond t (first + plain_before blocks b) (m + kind_place kinds block.exit)) p

  pub trap_place : (first : ℕ) (blocks : List Block) (b : ℕ) (block : Block) → slice_get blocks b ≡ Some block → is_plain block ≡ false → placed_as first m kinds blocks b (slice_get blocks b) ≡ m + kind_place kinds block.exit
  trap_place first blocks b block e p = ap (placed_as first m kinds blocks b) e ∙ ap (λ t. cond t (first + plain_before blocks b) (m + kind_place kinds block.exit)) p

  pub caller_place : (b : ℕ) (block : Block) → slice_get A b ≡ Some block → is_plain block ≡ true → at0 b ≡ plain_before A b
  caller_place b block e p = let q : 0 + plain_before A b ≡ plain_before A b = omega arith in plain_place 0 A b block e p ∙ q

  pub caller_low : (b : ℕ) (block : Block) → slice_get A b ≡ Some block → is_plain block ≡ true → at0 b < m
  caller_low b block e p =
      let l : plain_before A b < nA = before_all A b block e p in
      let q : at0 b ≡ plain_before A b = caller_place b block e p in
      omega (arith, l, q)

  pub callee_low : (b : ℕ) (block : Block) → slice_get B b ≡ Some block → is_plain block ≡ true → copy0 b < m
  callee_low b block e p =
      let l : plain_before B b < nB = before_all B b block e p in
      let q : copy0 b ≡ nA + plain_before B b = plain_place nA B b block e p in
      omega (arith, l, q)

  -- the caller's block at a place of its own, as it is there before edges

  in_row : (b : ℕ) (block new : Block) → slice_get A b ≡ Some block → is_plain block ≡ true → slice_get stayed_row b ≡ Some new → is_plain new ≡ true → slice_get S (at0 b) ≡ Some new
  in_row b block new e p h k = ap (slice_get S) (caller_place b block e p) ∙ in_first (plain_before A b) new (filter_at A stayed_row b new stayed_as_plain h k)

  follows_moved : (x : ℕ) (exit : Exit) → Follows F at exit (relinked_exit m es x (moved at0 exit))
  follows_moved x (Goto d) = refl
  follows_moved x (Split p d f) = (edge_block x (at0 d) m es (behind m (length es) (at0 d)), edge_block x (at0 f) m es (behind m (length es) (at0 f)), comes m es S long x (at0 d), comes m es S long x (at0 f), refl)
  follows_moved x (Call f xs result d) = refl
  follows_moved x (Return v) = refl
  follows_moved x (Ends k) = refl

  trap_there : (place0 : ℕ → ℕ) (first : ℕ) (blocks : List Block) (b : ℕ) (block : Block) → placed_as first m kinds blocks b (slice_get blocks b) ≡ place0 b → IsIn block (A ++ B) → slice_get blocks b ≡ Some block → is_plain block ≡ false → (t : IsTrap block) →
      slice_get F (behind m (length es) (place0 b)) ≡ Some (trap_at t.kind)
  trap_there place0 first blocks b block q i e p t =
      let here : slice_get S (m + kind_place kinds block.exit) ≡ Some (trap_at t.kind) = in_third (kind_place kinds block.exit) (trap_at t.kind) (kind_at (A ++ B) block i t) in
      let n : place0 b ≡ m + kind_place kinds block.exit = sym q ∙ trap_place first blocks b block e p in
      ap (λ x. slice_get F (behind m (length es) x)) n ∙ trap_edged m es S long (kind_place kinds block.exit) (trap_at t.kind) here

  pub stays : (b : ℕ) (block : Block) → (b ≡ site.block → ⊥) → slice_get A b ≡ Some block → Stays F at block (at b)
  stays b block n e = by (is_plain block) refl
    where
      by : (t : Bool) → is_plain block ≡ t → Stays F at block (at b)
      by true p =
          let new : Block = stayed at0 block in
          let other : (0 + b == site.block) ≡ false = unequal (0 + b) site.block (λ (i : 0 + b ≡ site.block). n (omega (arith, i))) in
          let row : slice_get stayed_row b ≡ Some new = stayed_get at0 enter site.block 0 A b block e ∙ ap (λ t. Some (cond t enter new)) other in
          let here : slice_get S (at0 b) ≡ Some new = in_row b block new e p row (stayed_is_plain at0 block ∙ p) in
          record {
            into = record new { exit = relinked_exit m es (at0 b) new.exit };
            is = plain_edged m es S long (at0 b) new (caller_low b block e p) here;
            ops = refl;
            follows = follows_moved (at0 b) block.exit;
          }
      by false p =
          let t : IsTrap block = trap_of block p in
          record {
            into = trap_at t.kind;
            is = trap_there at0 0 A b block refl (in_left block A B (get_in A b block e)) e p t;
            ops = sym t.ops;
            follows = subst (λ x. Follows F at x (Ends t.kind)) (sym t.exit) refl;
          }

  pub enters : Enters F (c.parts.block.ops ++ moves) (copy 0) (at site.block)
  enters =
      let q : 0 + site.block ≡ site.block = omega arith in
      let row : slice_get stayed_row site.block ≡ Some enter = stayed_get at0 enter site.block 0 A site.block c.parts.block c.is_block ∙ ap (λ t. Some (cond t enter (stayed at0 c.parts.block))) (eq-eqb (0 + site.block) site.block q) in
      let here : slice_get S (at0 site.block) ≡ Some enter = in_row site.block c.parts.block enter c.is_block site_plain row refl in
      record {
        into = record enter { exit = Goto (copy 0) };
        is = plain_edged m es S long (at0 site.block) enter (caller_low site.block c.parts.block c.is_block site_plain) here;
        does = refl;
        leads = refl;
      }

  record Copied (ops : List Op) (exit : Exit) (x : ℕ) : Type 0 where
    more : List Op
    is : (copied_as copy0 to c.parts.result (at0 c.parts.next) ops exit).ops ≡ ops ++ more
    copies : Copies F copy to c.parts.result (at c.parts.next) exit more (relinked_exit m es x (copied_as copy0 to c.parts.result (at0 c.parts.next) ops exit).exit)

  copied_here : (ops : List Op) (exit : Exit) (x : ℕ) → HasExit c.parts.callee exit → Copied ops exit x
  copied_here ops (Goto d) x h = record { more = []; is = sym (append-nil ops); copies = (refl, refl) }
  copied_here ops (Split p d f) x h = record {
    more = [];
    is = sym (append-nil ops);
    copies = (edge_block x (copy0 d) m es (behind m (length es) (copy0 d)), edge_block x (copy0 f) m es (behind m (length es) (copy0 f)), refl, comes m es S long x (copy0 d), comes m es S long x (copy0 f), refl);
  }
  copied_here ops (Call f xs result d) x h = absurd (permitted.calls_none f d xs result h)
  copied_here ops (Return v) x h = record { more = moves_out c.parts.result (with_value_in to v); is = refl; copies = (refl, refl) }
  copied_here ops (Ends k) x h = record { more = []; is = sym (append-nil ops); copies = (refl, refl) }

  pub stands : (b : ℕ) (block : Block) → slice_get B b ≡ Some block → Stands F copy to c.parts.result (at c.parts.next) block (copy b)
  stands b block e = by (is_plain block) refl
    where
      by : (t : Bool) → is_plain block ≡ t → Stands F copy to c.parts.result (at c.parts.next) block (copy b)
      by true p =
          let new : Block = copy_of block in
          let row : slice_get (map copy_of B) b ≡ Some new = slice_get-map copy_of B b ∙ ap (option_map copy_of) e in
          let here : slice_get S (copy0 b) ≡ Some new =
          ap (slice_get S) (plain_place nA B b block e p) ∙ in_second (plain_before B b) new (filter_at B (map copy_of B) b new copied_as_plain row (copied_is_plain copy0 to c.parts.result (at0 c.parts.next) block ∙ p)) in
          let k : Copied (map (with_values to) block.ops) block.exit (copy0 b) = copied_here (map (with_values to) block.ops) block.exit (copy0 b) (record { block = block; has = get_in B b block e; ends = refl }) in
          record {
            into = record new { exit = relinked_exit m es (copy0 b) new.exit };
            is = plain_edged m es S long (copy0 b) new (callee_low b block e p) here;
            more = k.more;
            ops = k.is;
            copies = k.copies;
          }
      by false p =
          let t : IsTrap block = trap_of block p in
          record {
            into = trap_at t.kind;
            is = trap_there copy0 nA B b block refl (in_right block A B (get_in B b block e)) e p t;
            more = [];
            ops = ap (λ ops. map (with_values to) ops ++ []) (sym t.ops);
            copies = subst (λ x. Copies F copy to c.parts.result (at c.parts.next) x [] (Ends t.kind)) (sym t.exit) (refl, refl);
          }

  pub few_arrays : length c.parts.callee.arrays ≤ length flow.globals
  few_arrays = by (nat_lt (length flow.globals) (length c.parts.callee.arrays)) refl
    where
      by : (t : Bool) → nat_lt (length flow.globals) (length c.parts.callee.arrays) ≡ t → length c.parts.callee.arrays ≤ length flow.globals
      by true e =
          let i : ℕ = length flow.globals in
          let r : (x : Array) × (slice_get c.parts.callee.arrays i ≡ Some x) = there c.parts.callee.arrays i (ltb-true i (length c.parts.callee.arrays) e) in
          let own = sound.own c.parts.callee i r.0 (get_in flow.functions c.parts.called c.parts.callee c.is_callee) r.1 (omega arith) in
          absurd (false≢true (sym own ∙ permitted.globals_alone i r.0 r.1))
      by false e = ltb-false (length flow.globals) (length c.parts.callee.arrays) e

  module _ (begins : BeginsPlain flow site c) where
    pub zero_place : (block : Block) → slice_get A 0 ≡ Some block → at0 0 ≡ 0
    zero_place block e = plain_place 0 A 0 block e (begins block e)

    entry : at 0 ≡ 0
    entry =
        let low : plain_before A site.block < nA = before_all A site.block c.parts.block c.is_block site_plain in
        let some : 0 < m = omega (arith, low) in
        let zero_is : at0 0 ≡ 0 = by (slice_get A 0) refl in
        ap (behind m (length es)) zero_is ∙ ap (λ t. cond t 0 (0 + length es)) (lt-ltb 0 m some)
      where
        by : (o : Option Block) → slice_get A 0 ≡ o → at0 0 ≡ 0
        by None e = ap (placed_as 0 m kinds A 0) e
        by (Some block) e = zero_place block e

    abbrev graph : Graph
    graph = record c.parts.caller { blocks = F }

    abbrev graphs : List Graph
    graphs = slice_set flow.functions site.function graph

    joins : Joins flow site c graphs at copy to
    joins =
        let callee_sound : Sound c.parts.callee = sound.graphs c.parts.callee (get_in flow.functions c.parts.called c.parts.callee c.is_callee) in
        record {
          others = λ f n. set_other flow.functions site.function f graph n;
          graph = graph;
          is_graph = set_same flow.functions site.function graph (slice_get_within flow.functions site.function c.parts.caller c.is_caller);
          parameters = refl;
          arrays = refl;
          entry = entry;
          stays = stays;
          enters = enters;
          stands = stands;
          one = taken_one flow site c free permitted callee_sound;
          dead = λ v k l n. (is_free flow site c free permitted callee_sound v k).dead l;
          unread = λ v k l. (is_free flow site c free permitted callee_sound v k).argument l;
        }

    pub runs : length flow.functions ≤ 256 → (input : List ℤ) → NeverFails (graph_run flow input) → Same (graph_run flow input) (graph_run (inlined flow site c.parts free) input) × NeverFails (graph_run (inlined flow site c.parts free) input)
    runs few input safe =
        joined_runs flow site c graphs at copy to joins (record { alone = permitted.alone; apart = permitted.apart; own_none = few_arrays; few = few }) sound input safe

pub inlined_runs : InlinedRuns
inlined_runs flow site c free permitted sound begins few input safe = runs flow site c free permitted sound begins few input safe

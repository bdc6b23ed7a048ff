-- A flow with a call inlined has one call less.
use Rattle.std.proofs.Common.{◌≡◌, inl, inr, ℕ, zero, suc, ◌+◌, ◌<◌, Bool, true, false, cond, ◌==◌, ◌&&◌, not, List, [], ◌∷◌, ◌++◌, length, map, take, drop, slice_get, slice_set, Option, Some, refl, sym, ap, ◌∙◌, subst, eq-eqb, arith}
use Rattle.std.proofs.lemmas.Bool.{false≢true}
use Rattle.std.specs.List.{filter}
use Rattle.vx_base.specs.declared.outcome.Trap.{Trap}
use Rattle.vx_flow.specs.declared.graph.Bank.{Bank}
use Rattle.vx_flow.specs.declared.graph.Exit.{Exit}
use Rattle.vx_flow.specs.declared.graph.Exit.TheVariants.{Goto, Split, Call, Return, Ends}
use Rattle.vx_flow.specs.declared.graph.Block.{Block}
use Rattle.vx_flow.specs.declared.graph.Edge.{Edge}
use Rattle.vx_flow.specs.declared.graph.Graph.{Graph}
use Rattle.vx_flow.specs.declared.graph.Flow.{Flow}
use Rattle.vx_flow.specs.Effects.{IsIn}
use Rattle.vx_flow.specs.Operands.{with_values}
use Rattle.vx_shape.specs.ShapeTest.{is_none_left, is_trap}
use Rattle.vx_inline.specs.Counts.{is_call, calls_in, calls_of, OneCallLess}
use Rattle.vx_inline.specs.declared.site.Site.{Site}
use Rattle.vx_inline.specs.Inlined.{CallAt, IsPermitted, is_plain, moved, stayed, entering, copied, copied_as, stayed_all, taken, critical, behind, relinked_exit, relinked, with_edges, all_plain, all_kinds, caller_at, callee_at, joined, inlined_blocks, inlined}
use Rattle.vx_inline.proofs.Renaming.{unequal}
use Rattle.vx_inline.proofs.Numbering.{trap_at}

put : Bool → ℕ → ℕ
put true n = suc n
put false n = n

calls_put : (b : Block) (bs : List Block) → calls_in (b ∷ bs) ≡ put (is_call b.exit) (calls_in bs)
unfolding put
calls_put b bs = by (is_call b.exit)
  where
    by : (t : Bool) → length (cond t (b ∷ filter (λ block. is_call block.exit) bs) (filter (λ block. is_call block.exit) bs)) ≡ put t (calls_in bs)
    by true = refl
    by false = refl

calls_like : (x y : Block) (xs ys : List Block) → is_call y.exit ≡ is_call x.exit → calls_in ys ≡ calls_in xs → calls_in (y ∷ ys) ≡ calls_in (x ∷ xs)
calls_like x y xs ys e k = calls_put y ys ∙ ap (λ t. put t (calls_in ys)) e ∙ ap (put (is_call x.exit)) k ∙ sym (calls_put x xs)

calls_append : (xs ys : List Block) → calls_in (xs ++ ys) ≡ calls_in xs + calls_in ys
unfolding put
calls_append [] ys = let e : calls_in ys ≡ 0 + calls_in ys = omega arith in e
calls_append (x ∷ xs) ys = by (is_call x.exit) (calls_put x (xs ++ ys)) (calls_put x xs) (calls_append xs ys)
  where
    by : (t : Bool) → calls_in (x ∷ (xs ++ ys)) ≡ put t (calls_in (xs ++ ys)) → calls_in (x ∷ xs) ≡ put t (calls_in xs) → calls_in (xs ++ ys) ≡ calls_in xs + calls_in ys → calls_in (x ∷ (xs ++ ys)) ≡ calls_in (x ∷ xs) + calls_in ys
    by true a b c =
        let a1 : calls_in (x ∷ (xs ++ ys)) ≡ suc (calls_in (xs ++ ys)) = a in
        let b1 : calls_in (x ∷ xs) ≡ suc (calls_in xs) = b in
        omega (arith, a1, b1, c)
    by false a b c =
        let a1 : calls_in (x ∷ (xs ++ ys)) ≡ calls_in (xs ++ ys) = a in
        let b1 : calls_in (x ∷ xs) ≡ calls_in xs = b in
        omega (arith, a1, b1, c)

calls_none : (xs : List Block) → ((x : Block) → IsIn x xs → is_call x.exit ≡ false) → calls_in xs ≡ 0
unfolding put
calls_none [] k = refl
calls_none (x ∷ xs) k = calls_put x xs ∙ ap (λ t. put t (calls_in xs)) (k x (inl refl)) ∙ calls_none xs (λ y m. k y (inr m))

-- plain blocks have all the calls
call_is_plain : (b : Block) → is_call b.exit ≡ true → is_plain b ≡ true
call_is_plain b e = by b.exit e
  where
    by : (exit : Exit) → is_call exit ≡ true → not (is_trap exit && is_none_left b.ops) ≡ true
    by (Goto d) e = refl
    by (Split p d f) e = refl
    by (Call f xs r d) e = refl
    by (Return x) e = refl
    by (Ends k) e = absurd (false≢true e)

calls_filter : (xs : List Block) → calls_in (filter is_plain xs) ≡ calls_in xs
unfolding put
calls_filter [] = refl
calls_filter (x ∷ xs) = by (is_plain x) refl (calls_filter xs)
  where
    no_call : is_plain x ≡ false → (t : Bool) → is_call x.exit ≡ t → t ≡ false
    no_call e true h = absurd (false≢true (sym e ∙ call_is_plain x h))
    no_call e false h = refl

    by : (t : Bool) → is_plain x ≡ t → calls_in (filter is_plain xs) ≡ calls_in xs → calls_in (cond t (x ∷ filter is_plain xs) (filter is_plain xs)) ≡ calls_in (x ∷ xs)
    by true e k = calls_like x x xs (filter is_plain xs) refl k
    by false e k = k ∙ sym (calls_put x xs ∙ ap (λ t. put t (calls_in xs)) (no_call e (is_call x.exit) refl))

moved_calls : (at : ℕ → ℕ) (exit : Exit) → is_call (moved at exit) ≡ is_call exit
moved_calls at (Goto d) = refl
moved_calls at (Split p d f) = refl
moved_calls at (Call f xs r d) = refl
moved_calls at (Return x) = refl
moved_calls at (Ends k) = refl

pub linked_calls : (m : ℕ) (es : List Edge) (i : ℕ) (exit : Exit) → is_call (relinked_exit m es i exit) ≡ is_call exit
linked_calls m es i (Goto d) = refl
linked_calls m es i (Split p d f) = refl
linked_calls m es i (Call f xs r d) = refl
linked_calls m es i (Return x) = refl
linked_calls m es i (Ends k) = refl

calls_linked : (m : ℕ) (es : List Edge) (i : ℕ) (xs : List Block) → calls_in (relinked m es i xs) ≡ calls_in xs
calls_linked m es i [] = refl
calls_linked m es i (x ∷ xs) = calls_like x (record x { exit = relinked_exit m es i x.exit }) xs (relinked m es (suc i) xs) (linked_calls m es i x.exit) (calls_linked m es (suc i) xs)

-- behind the site all stay
calls_behind : (at : ℕ → ℕ) (new : Block) (site i : ℕ) (xs : List Block) → site < i → calls_in (stayed_all at new site i xs) ≡ calls_in xs
calls_behind at new site i [] l = refl
calls_behind at new site i (x ∷ xs) l =
    let q : (i == site) ≡ false = unequal i site (λ e. omega (arith, e, l)) in
    calls_like x (cond (i == site) new (stayed at x)) xs (stayed_all at new site (suc i) xs) (ap (λ t. is_call (cond t new (stayed at x)).exit) q ∙ moved_calls at x.exit) (calls_behind at new site (suc i) xs (omega (arith, l)))

calls_stayed : (at : ℕ → ℕ) (new : Block) (site i : ℕ) (xs : List Block) (b : ℕ) (x : Block) → slice_get xs b ≡ Some x → i + b ≡ site → is_call x.exit ≡ true → is_call new.exit ≡ false → calls_in (stayed_all at new site i xs) + 1 ≡ calls_in xs
unfolding put
calls_stayed at new site i [] b x e q h n = absurd (cc)
calls_stayed at new site i (y ∷ ys) zero x e q h n =
    let same : y ≡ x = cc in
    let here : i ≡ site = omega (arith, q) in
    let t : (i == site) ≡ true = eq-eqb i site here in
    let front : is_call (cond (i == site) new (stayed at y)).exit ≡ false = ap (λ k. is_call (cond k new (stayed at y)).exit) t ∙ n in
    let rest : calls_in (stayed_all at new site (suc i) ys) ≡ calls_in ys = calls_behind at new site (suc i) ys (omega (arith, here)) in
    let new_count : calls_in (stayed_all at new site i (y ∷ ys)) ≡ calls_in ys = calls_put (cond (i == site) new (stayed at y)) (stayed_all at new site (suc i) ys) ∙ ap (λ k. put k (calls_in (stayed_all at new site (suc i) ys))) front ∙ rest in
    let old_count : calls_in (y ∷ ys) ≡ suc (calls_in ys) = calls_put y ys ∙ ap (λ k. put k (calls_in ys)) (ap (λ (z : Block). is_call z.exit) same ∙ h) in
    omega (arith, new_count, old_count)
calls_stayed at new site i (y ∷ ys) (suc b) x e q h n =
    let low : (i == site) ≡ false = unequal i site (λ r. omega (arith, q, r)) in
    let same : is_call (cond (i == site) new (stayed at y)).exit ≡ is_call y.exit = ap (λ t. is_call (cond t new (stayed at y)).exit) low ∙ moved_calls at y.exit in
    let hyp : calls_in (stayed_all at new site (suc i) ys) + 1 ≡ calls_in ys = calls_stayed at new site (suc i) ys b x e (omega (arith, q)) h n in
    by (is_call y.exit) (calls_put (cond (i == site) new (stayed at y)) (stayed_all at new site (suc i) ys) ∙ ap (λ k. put k (calls_in (stayed_all at new site (suc i) ys))) same) (calls_put y ys) hyp
  where
    by : (t : Bool) → calls_in (stayed_all at new site i (y ∷ ys)) ≡ put t (calls_in (stayed_all at new site (suc i) ys)) → calls_in (y ∷ ys) ≡ put t (calls_in ys) → calls_in (stayed_all at new site (suc i) ys) + 1 ≡ calls_in ys →
        calls_in (stayed_all at new site i (y ∷ ys)) + 1 ≡ calls_in (y ∷ ys)
    by true a c k =
        let a1 : calls_in (stayed_all at new site i (y ∷ ys)) ≡ suc (calls_in (stayed_all at new site (suc i) ys)) = a in
        let c1 : calls_in (y ∷ ys) ≡ suc (calls_in ys) = c in
        omega (arith, a1, c1, k)
    by false a c k =
        let a1 : calls_in (stayed_all at new site i (y ∷ ys)) ≡ calls_in (stayed_all at new site (suc i) ys) = a in
        let c1 : calls_in (y ∷ ys) ≡ calls_in ys = c in
        omega (arith, a1, c1, k)

calls_cut : (m : ℕ) (xs : List Block) → calls_in (take m xs) + calls_in (drop m xs) ≡ calls_in xs
calls_cut m xs = sym (calls_append (take m xs) (drop m xs)) ∙ ap calls_in (cut m xs)
  where
    cut : (m : ℕ) (xs : List Block) → take m xs ++ drop m xs ≡ xs
    cut zero xs = refl
    cut (suc m) [] = refl
    cut (suc m) (x ∷ xs) = ap (λ zs. x ∷ zs) (cut m xs)

edges_call_none : (f : Edge → ℕ) (es : List Edge) → calls_in (map (λ e. record { ops = []; exit = Goto (f e) }) es) ≡ 0
unfolding put
edges_call_none f [] = refl
edges_call_none f (e ∷ es) = calls_put (record { ops = []; exit = Goto (f e) }) (map (λ e. record { ops = []; exit = Goto (f e) }) es) ∙ edges_call_none f es

traps_call_none : (ks : List Trap) → calls_in (map trap_at ks) ≡ 0
unfolding put
traps_call_none [] = refl
traps_call_none (k ∷ ks) = calls_put (trap_at k) (map trap_at ks) ∙ traps_call_none ks

calls_edges : (m : ℕ) (es : List Edge) (xs : List Block) → calls_in (with_edges m es xs) ≡ calls_in xs
calls_edges m es xs =
    let edge_part : List Block = map (λ (e : Edge). record { ops = []; exit = Goto (behind m (length es) e.to) }) es in
    let a : calls_in (with_edges m es xs) ≡ calls_in (relinked m es 0 (take m xs)) + calls_in (edge_part ++ drop m xs) = calls_append (relinked m es 0 (take m xs)) (edge_part ++ drop m xs) in
    let b : calls_in (edge_part ++ drop m xs) ≡ calls_in edge_part + calls_in (drop m xs) = calls_append edge_part (drop m xs) in
    let c : calls_in edge_part ≡ 0 = edges_call_none (λ (e : Edge). behind m (length es) e.to) es in
    let d : calls_in (relinked m es 0 (take m xs)) ≡ calls_in (take m xs) = calls_linked m es 0 (take m xs) in
    let e : calls_in (take m xs) + calls_in (drop m xs) ≡ calls_in xs = calls_cut m xs in
    omega (arith, a, b, c, d, e)

pub copied_calls : (copy to : ℕ → ℕ) (result : Option ℕ) (back : ℕ) (x : Block) → is_call x.exit ≡ false → is_call (copied copy to result back x).exit ≡ false
copied_calls copy to result back x e = by x.exit e
  where
    by : (exit : Exit) → is_call exit ≡ false → is_call (copied_as copy to result back (map (with_values to) x.ops) exit).exit ≡ false
    by (Goto d) e = refl
    by (Split p d f) e = refl
    by (Call f xs r d) e = absurd (false≢true (sym e))
    by (Return v) e = refl
    by (Ends k) e = refl

all_copied : (copy to : ℕ → ℕ) (result : Option ℕ) (back : ℕ) (xs : List Block) → ((x : Block) → IsIn x xs → is_call x.exit ≡ false) → calls_in (map (copied copy to result back) xs) ≡ 0
unfolding put
all_copied copy to result back [] k = refl
all_copied copy to result back (x ∷ xs) k =
    calls_put (copied copy to result back x) (map (copied copy to result back) xs) ∙ ap (λ t. put t (calls_in (map (copied copy to result back) xs))) (copied_calls copy to result back x (k x (inl refl))) ∙ all_copied copy to result back xs (λ y m. k y (inr m))

calls_set : (gs : List Graph) (f : ℕ) (g h : Graph) → slice_get gs f ≡ Some g → calls_in h.blocks + 1 ≡ calls_in g.blocks → calls_of (slice_set gs f h) + 1 ≡ calls_of gs
calls_set [] f g h e k = absurd (cc)
calls_set (x ∷ xs) zero g h e k =
    let q : x ≡ g = cc in
    let r : calls_in x.blocks ≡ calls_in g.blocks = ap (λ (y : Graph). calls_in y.blocks) q in
    omega (arith, k, r)
calls_set (x ∷ xs) (suc f) g h e k = let r : calls_of (slice_set xs f h) + 1 ≡ calls_of xs = calls_set xs f g h e k in omega (arith, r)

module _ (flow : Flow) (site : Site) (c : CallAt flow site) (free : Bank → List ℕ) (permitted : IsPermitted flow site c free) where
  pub callee_calls_none : (x : Block) → IsIn x c.parts.callee.blocks → is_call x.exit ≡ false
  callee_calls_none x m = by x.exit refl
    where
      by : (exit : Exit) → x.exit ≡ exit → is_call exit ≡ false
      by (Goto d) e = refl
      by (Split p d f) e = refl
      by (Call f xs r d) e = absurd (permitted.calls_none f d xs r (record { block = x; has = m; ends = sym e }))
      by (Return v) e = refl
      by (Ends k) e = refl

  pub blocks_less : calls_in (inlined_blocks c.parts site.block free) + 1 ≡ calls_in c.parts.caller.blocks
  blocks_less =
      let at : ℕ → ℕ = caller_at c.parts in
      let copy : ℕ → ℕ = callee_at c.parts in
      let to : ℕ → ℕ = taken c.parts.callee free in
      let enter : Block = entering to c.parts.callee.parameters c.parts.arguments (copy 0) c.parts.block.ops in
      let row : List Block = stayed_all at enter site.block 0 c.parts.caller.blocks in
      let copies : List Block = map (copied copy to c.parts.result (at c.parts.next)) c.parts.callee.blocks in
      let S : List Block = joined c.parts site.block free in
      let z : 0 + site.block ≡ site.block = omega arith in
      let first : calls_in row + 1 ≡ calls_in c.parts.caller.blocks = calls_stayed at enter site.block 0 c.parts.caller.blocks site.block c.parts.block c.is_block z (ap is_call c.ends) refl in
      let plain_row : calls_in (filter is_plain row) ≡ calls_in row = calls_filter row in
      let plain_copies : calls_in (filter is_plain copies) ≡ calls_in copies = calls_filter copies in
      let second : calls_in copies ≡ 0 = all_copied copy to c.parts.result (at c.parts.next) c.parts.callee.blocks callee_calls_none in
      let third : calls_in (map trap_at (all_kinds c.parts)) ≡ 0 = traps_call_none (all_kinds c.parts) in
      let a : calls_in S ≡ calls_in (filter is_plain row) + calls_in (filter is_plain copies ++ map trap_at (all_kinds c.parts)) = calls_append (filter is_plain row) (filter is_plain copies ++ map trap_at (all_kinds c.parts)) in
      let b : calls_in (filter is_plain copies ++ map trap_at (all_kinds c.parts)) ≡ calls_in (filter is_plain copies) + calls_in (map trap_at (all_kinds c.parts)) = calls_append (filter is_plain copies) (map trap_at (all_kinds c.parts)) in
      let d : calls_in (inlined_blocks c.parts site.block free) ≡ calls_in S = calls_edges (all_plain c.parts) (critical S 0 S) S in
      omega (arith, first, plain_row, plain_copies, second, third, a, b, d)

  pub flow_less : calls_of (inlined flow site c.parts free).functions + 1 ≡ calls_of flow.functions
  flow_less = calls_set flow.functions site.function c.parts.caller (record c.parts.caller { blocks = inlined_blocks c.parts site.block free }) c.is_caller blocks_less

pub one_call_less : OneCallLess
one_call_less flow after site i = subst (λ (f : Flow). calls_of f.functions + 1 ≡ calls_of flow.functions) (sym i.is) (flow_less flow site i.call i.free i.permitted)

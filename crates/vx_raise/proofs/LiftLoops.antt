-- Steps of what is made: lists by their index, and what stands from move to move.
use Rattle.std.proofs.Common.{◌≡◌, ◌↔◌, ℕ, zero, suc, ◌+◌, ◌<◌, ◌==◌, ◌&&◌, ◌||◌, Bool, true, false, cond, List, [], ◌∷◌, ◌++◌, length, take, get_or, Option, Some, refl, sym, ap, ◌∙◌, subst, arith}
use Rattle.std.proofs.lemmas.List.{take_more, length-take-le}
use lib.Dec.{eqb-zero-suc, eqb-suc-zero, eqb-suc-suc}
use Rattle.std.specs.List.{list_any}
use Rattle.std.specs.Prelude.{IfSome}
use Rattle.vx_flow.specs.declared.graph.Op.{Op}
use Rattle.vx_flow.specs.declared.graph.Block.{Block}
use Rattle.vx_flow.specs.declared.graph.Graph.{Graph}
use Rattle.vx_flow.specs.Live.{IsLive}
use Rattle.vx_flow.specs.Rows.{lives}
use Rattle.vx_raise.specs.declared.known.Noted.{Noted}
use Rattle.vx_raise.specs.declared.known.Known.{Known}
use Rattle.vx_raise.specs.Raising.{result_of_first}
use Rattle.vx_raise.specs.declared.known.Move.{Move}
use Rattle.vx_raise.specs.Lifting.{without, blocks_of, lifted_block, lifted_blocks, op_of, lifted, can_lift, live_behind, is_noted, known_at, noted_of, RaisesOne, Standing, StandsStill}
use Rattle.vx_raise.proofs.Moves.{plus}
use Rattle.vx_raise.proofs.Lifts.{Lifted, lift_of, lifts, steps_then}

-- ---- lists by their index

without_append : (k : ℕ) (xs : List Op) (x : Op) → without k (xs ++ x ∷ []) ≡ without k xs ++ cond (length xs == k) [] (x ∷ [])
without_append zero [] x = refl
without_append (suc k) [] x = ap (λ q. cond q [] (x ∷ [])) (sym (eqb-zero-suc k))
without_append zero (y ∷ xs) x = ap (λ q. xs ++ cond q [] (x ∷ [])) (sym (eqb-suc-zero (length xs)))
without_append (suc k) (y ∷ xs) x = ap (λ l. y ∷ l) (without_append k xs x) ∙ ap (λ q. y ∷ (without k xs ++ cond q [] (x ∷ []))) (sym (eqb-suc-suc (length xs) k))

pub without_more : (k : ℕ) (ops : List Op) (i : ℕ) (d : Op) → i < length ops → without k (take (i + 1) ops) ≡ without k (take i ops) ++ cond (i == k) [] (get_or ops i d ∷ [])
without_more k ops i d h =
    let count : length (take i ops) ≡ i = length-take-le i ops (omega arith) in
    ap (without k) (take_more ops i d h) ∙ (without_append k (take i ops) (get_or ops i d) ∙ ap (λ n. without k (take i ops) ++ cond (n == k) [] (get_or ops i d ∷ [])) count)

pub ops_pushed : (k : ℕ) (list new ops : List Op) (i : ℕ) (d : Op) → list ≡ without k (take i ops) → new ≡ list ++ cond (i == k) [] (get_or ops i d ∷ []) → i < length ops → new ≡ without k (take (i + 1) ops)
ops_pushed k list new ops i d e p h = p ∙ (ap (λ l. l ++ cond (i == k) [] (get_or ops i d ∷ [])) e ∙ sym (without_more k ops i d h))

pub blocks_more : (m : Move) (op : Op) (j : ℕ) (blocks : List Block) (i : ℕ) (x : Block) → i < length blocks → x ≡ get_or blocks i x → lifted_blocks m op j (take (suc i) blocks) ≡ lifted_blocks m op j (take i blocks) ++ lifted_block m op (j + i) x ∷ []
blocks_more m op j [] i x h e = absurd (omega arith)
blocks_more m op j (y ∷ ys) zero x h e = let z : j ≡ j + 0 = omega arith in ap (λ y. lifted_block m op j y ∷ []) (sym e) ∙ ap (λ n. lifted_block m op n x ∷ []) z
blocks_more m op j (y ∷ ys) (suc i) x h e =
    let z : suc j + i ≡ j + suc i = omega arith in
    ap (λ l. lifted_block m op j y ∷ l) (blocks_more m op (suc j) ys i x (omega arith) e ∙ ap (λ n. lifted_blocks m op (suc j) (take i ys) ++ lifted_block m op n x ∷ []) z)

-- ---- what stands from move to move

pub standing_first : (g : Graph) (rows : List (List ℕ)) → ((b v : ℕ) → (lives rows b v ≡ true) ↔ IsLive g b v) → Standing g rows [] g
standing_first g rows exact = record { moved = record { count = 0; steps = refl }; covers = λ c v l. (exact c v).1 l }

or_assoc : (a b c : Bool) → (a || (b || c)) ≡ ((a || b) || c)
or_assoc true b c = refl
or_assoc false b c = refl

any_append : {A : Type 0} (p : A → Bool) (xs ys : List A) → list_any p (xs ++ ys) ≡ (list_any p xs || list_any p ys)
any_append p [] ys = refl
any_append p (x ∷ xs) ys = ap (λ q. p x || q) (any_append p xs ys) ∙ or_assoc (p x) (list_any p xs) (list_any p ys)

or_turned : (p r q a l : Bool) → (((p || r) && q) || (a || l)) ≡ true → ((a || ((p && q) || ((r && q) || false))) || l) ≡ true
or_turned p r q true l h = refl
or_turned true true true false l h = refl
or_turned true false true false l h = refl
or_turned false true true false l h = refl
or_turned false false true false l h = h
or_turned true true false false l h = h
or_turned true false false false l h = h
or_turned false true false false l h = h
or_turned false false false false l h = h

known_more : (rows : List (List ℕ)) (noted : List Noted) (m : Move) (v c u : ℕ) → live_behind (known_at rows noted) (blocks_of m) (Some v) c u ≡ true → known_at rows (noted ++ noted_of m v) c u ≡ true
known_more rows noted m v c u h = ap (λ q. q || lives rows c u) (any_append (λ n. (c == n.block) && (u == n.value)) noted (noted_of m v)) ∙ or_turned (c == m.block) (c == m.other) (u == v) (is_noted noted c u) (lives rows c u) h

pub standing_next : (start : Graph) (rows : List (List ℕ)) (noted more : List Noted) (g h : Graph) (m : Move) (v : ℕ) → Standing start rows noted g → can_lift (known_at rows noted) g m ≡ true → result_of_first (op_of g m) ≡ Some v → h ≡ lifted g m →
    more ≡ noted ++ noted_of m v → Standing start rows more h
standing_next start rows noted more g h m v s can e q d =
    let live : ℕ → ℕ → Bool = known_at rows noted in
    let one : Lifted live g m = lifts live g m s.covers (lift_of live g m can) in
    let next : Graph = lifted g m in
    let made : Standing start rows (noted ++ noted_of m v) next = record {
      moved = record { count = plus s.moved.count one.moved.count; steps = steps_then s.moved.count one.moved.count start g next s.moved.steps one.moved.steps };
      covers = λ c u l. known_more rows noted m v c u (subst (λ o. live_behind live (blocks_of m) o c u ≡ true) e (one.covered c u l));
    } in
    subst (λ z. Standing start rows z h) (sym d) (subst (Standing start rows (noted ++ noted_of m v)) (sym q) made)

-- ---- a turn of the loop

pub some_holds : {A : Type 0} (P : A → Type 0) (o : Option A) (x : A) → o ≡ Some x → IfSome o P → P x
some_holds P o x e h = subst (λ q. IfSome q P) e h

pub turn_none : (start : Graph) (known next : Known) (g h : Graph) → next ≡ known → h ≡ g → Standing start known.live known.noted g → Standing start next.live next.noted h
turn_none start known next g h e q s = subst (λ (k : Known). Standing start k.live k.noted h) (sym e) (subst (Standing start known.live known.noted) (sym q) s)

pub turn_some : (start : Graph) (known next : Known) (noted : List Noted) (g h : Graph) (m : Move) (v : ℕ) (new : Graph) → RaisesOne known.live known.noted g m v new → noted ≡ known.noted ++ noted_of m v → next ≡ record { live = known.live; noted = noted } → h ≡ new →
    Standing start known.live known.noted g → Standing start next.live next.noted h
turn_some start known next noted g h m v new r d e q s =
    subst (λ (z : Known). Standing start z.live z.noted h) (sym e) (standing_next start known.live known.noted noted g h m v s r.can r.writes (q ∙ r.is) d)

-- ---- from one list of what is noted to the next

pub kept_itself : (known : Known) (g : Graph) → StandsStill known known g g
kept_itself known g start s = s

pub kept_then : (k l m : Known) (g h i : Graph) → StandsStill k l g h → StandsStill l m h i → StandsStill k m g i
kept_then k l m g h i a b start s = b start (a start s)

pub kept_none : (k known next : Known) (f g h : Graph) → next ≡ known → h ≡ g → StandsStill k known f g → StandsStill k next f h
kept_none k known next f g h e q a start s = turn_none start known next g h e q (a start s)

pub kept_some : (k known next : Known) (noted : List Noted) (f g h : Graph) (m : Move) (v : ℕ) (new : Graph) → RaisesOne known.live known.noted g m v new → noted ≡ known.noted ++ noted_of m v →
    next ≡ record { live = known.live; noted = noted } → h ≡ new → StandsStill k known f g → StandsStill k next f h
kept_some k known next noted f g h m v new r d e q a start s = turn_some start known next noted g h m v new r d e q (a start s)

pub kept_more : (k known next new : Known) (f g h made : Graph) → StandsStill k known f g → StandsStill known new g made → next ≡ new → h ≡ made → StandsStill k next f h
kept_more k known next new f g h made a b e q = subst (λ z. StandsStill k z f h) (sym e) (subst (λ z. StandsStill k new f z) (sym q) (kept_then k known new f g made a b))

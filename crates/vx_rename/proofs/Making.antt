-- Steps of the making of a graph under names.
use Rattle.std.proofs.Common.{◌≡◌, ◌<◌, ◌≤◌, ◌⊎◌, arith, eq-eqb, inl, inr, replicate, slice_set, ℕ, zero, suc, ◌==◌, Bool, true, false, cond, List, [], ◌∷◌, ◌++◌, ◌+◌, length, drop, take, length-take-le, get_or, count_by, slice_index_or, Option, Some, None, refl, sym, ap, ◌∙◌, subst, append_assoc, append-nil, map}
use Rattle.std.proofs.Math.Path.{fun_ext}
use Rattle.std.proofs.lemmas.Result.{IfOk-weaker}
use Rattle.std.specs.Prelude.{IfOk, IfSome, Result}
use Rattle.std.proofs.lemmas.Bool.{eqb-true}
use Rattle.std.proofs.lemmas.List.{drop_more, drop_all, get_or-set_same, get_or-set_other}
use Rattle.std.proofs.lemmas.List.Sums.{count_by-le-length}
use Rattle.std.specs.Prelude.{◌&&◌, not}
use Rattle.std.specs.List.{list_all, flat_map}
use Rattle.std.specs.Cmp.Derive.{both_true}
use Rattle.vx_flow.specs.declared.graph.Op.{Op}
use Rattle.vx_flow.specs.declared.graph.Exit.{Exit}
use Rattle.vx_flow.specs.declared.graph.Block.{Block}
use Rattle.vx_flow.specs.declared.graph.Graph.{Graph}
use Rattle.vx_flow.specs.declared.graph.Operand.{Operand}
use Rattle.vx_flow.specs.declared.operands.Reads.{Reads}
use Rattle.vx_flow.specs.Effects.{reads, value_in}
use Rattle.vx_flow.specs.Operands.{read_by, values_read, written_by}
use Rattle.vx_flow.specs.Live.{reads_of_exit}
use Rattle.vx_flow.specs.Sound.{targets_of}
use Rattle.vx_flow.proofs.OperandLaws.{reads_listed}
use Rattle.vx_rename.specs.declared.names.Name.{Name}
use Rattle.vx_rename.specs.declared.names.BlockNames.{BlockNames}
use Rattle.vx_rename.specs.declared.names.GraphNames.{GraphNames}
use Rattle.vx_rename.specs.Renaming.{Standing, nowhere, no_name, place, place_if, clear, put_if, forget, place_all, starting, renamed_op, source_of, is_there, result_of, renamed_one, renamed_exit, first_name, behind_op, behind, op_if, renamed_ops, ending, leaving, renamed_block, all_stand, op_stands, ops_stand, carries, exit_stands, renamed_blocks, blocks_stand, names_at, parameter_name, renamed_array, has_counts, entry_stands, GraphRenames}
use Rattle.vx_rename.specs.Making.{name_in, Numbered, AreNumbers, are_one, standing, OpMade, OpsMade, ExitLeads, ExitMade, BlockMade, BlocksMade}

-- ---- what is read

pub stand_both : (n : Standing) (xs ys : List ℕ) → all_stand n (xs ++ ys) ≡ (all_stand n xs && all_stand n ys)
stand_both n [] ys = refl
stand_both n (x ∷ xs) ys = by (n.stands x) (stand_both n xs ys)
  where
    by : (b : Bool) → all_stand n (xs ++ ys) ≡ (all_stand n xs && all_stand n ys) → (b && all_stand n (xs ++ ys)) ≡ ((b && all_stand n xs) && all_stand n ys)
    by true e = e
    by false e = refl

pub stand_by_op : (n : Standing) (op : Op) (r : Reads) (b : Bool) → r ≡ read_by op → b ≡ all_stand n (values_read r) → b ≡ all_stand n (reads op)
stand_by_op n op r b e h = h ∙ ap (all_stand n) (reads_listed op r e)

pub stand_all : (n : Standing) (xs : List Operand) → all_stand n (flat_map value_in xs) ≡ list_all (λ x. all_stand n (value_in x)) xs
stand_all n [] = refl
stand_all n (x ∷ xs) = stand_both n (value_in x) (flat_map value_in xs) ∙ ap (λ b. all_stand n (value_in x) && b) (stand_all n xs)

-- ---- the rows

row_put : (row : List ℕ) (i j x : ℕ) → i < length row → name_in (slice_set row i x) j ≡ cond (j == i) x (name_in row j)
row_put row i j x h = by (j == i) refl
  where
    by : (b : Bool) → (j == i) ≡ b → name_in (slice_set row i x) j ≡ cond b x (name_in row j)
    by true e = ap (name_in (slice_set row i x)) (eqb-true j i e) ∙ get_or-set_same row i x 0 h
    by false e = get_or-set_other row i j x 0 (λ q. let f : (j == i) ≡ true = eq-eqb j i q in absurd cc)

-- what is no greater than the last number is not the next one
is_older : (h last : ℕ) → h ≤ last → (h == last + 1) ≡ false
is_older h last k = by (h == last + 1) refl
  where
    by : (b : Bool) → (h == last + 1) ≡ b → b ≡ false
    by true e = let q : h ≡ last + 1 = eqb-true h (last + 1) e in absurd (omega (arith, k, q))
    by false e = refl

both_false : (a b : Bool) → b ≡ false → (a && b) ≡ false
both_false true b e = e
both_false false b e = refl

not_next : (h last : ℕ) → h ≤ last → are_one h (last + 1) ≡ false
not_next h last k = both_false (not (h == 0)) (h == last + 1) (is_older h last k)

not_none : (h : ℕ) → are_one h 0 ≡ false
not_none h = by (h == 0)
  where
    by : (b : Bool) → (not b && b) ≡ false
    by true = refl
    by false = refl

are_same : (g : ℕ) → (g == 0) ≡ false → are_one g g ≡ true
are_same g e = ap (λ b. not b && (g == g)) e ∙ eq-eqb g g refl

pub placed_by : (names had given : List ℕ) (last v w : ℕ) → v < length names → v < length had → (name_in given w == 0) ≡ false →
    standing (record { names = slice_set names v w; had = slice_set had v (name_in given w); given = given; last = last }) ≡ place (standing (record { names = names; had = had; given = given; last = last })) v w
placed_by names had given last v w h k e = λ i. record { name = fun_ext (λ u. row_put names v u w h) i; stands = fun_ext there i }
  where
    by : (u : ℕ) (b : Bool) → are_one (cond b (name_in given w) (name_in had u)) (name_in given (cond b w (name_in names u))) ≡ cond b true (are_one (name_in had u) (name_in given (name_in names u)))
    by u true = are_same (name_in given w) e
    by u false = refl

    there : (u : ℕ) → are_one (name_in (slice_set had v (name_in given w)) u) (name_in given (name_in (slice_set names v w) u)) ≡ cond (u == v) true (are_one (name_in had u) (name_in given (name_in names u)))
    there u =
        ap (λ x. are_one x (name_in given (name_in (slice_set names v w) u))) (row_put had v u (name_in given w) k)
        ∙ ap (λ x. are_one (cond (u == v) (name_in given w) (name_in had u)) (name_in given x)) (row_put names v u w h) ∙ by u (u == v)

is_some : (g : ℕ) → (g ≡ 0 → ⊥) → (g == 0) ≡ false
is_some g f = by (g == 0) refl
  where
    by : (b : Bool) → (g == 0) ≡ b → b ≡ false
    by true e = absurd (f (eqb-true g 0 e))
    by false e = refl

pub placed : (old : Numbered) (names had given row : List ℕ) (last v w number : ℕ) → record { names = names; had = had; given = given; last = last } ≡ old → v < length names → v < length had → number ≡ name_in row w → row ≡ given → (number ≡ 0 → ⊥) →
    standing (record { names = slice_set names v w; had = slice_set had v number; given = given; last = last }) ≡ place (standing old) v w
placed old names had given row last v w number view h k e r some =
    let is : number ≡ name_in given w = e ∙ ap (λ l. name_in l w) r in
    ap (λ g. standing (record { names = slice_set names v w; had = slice_set had v g; given = given; last = last })) is
    ∙ placed_by names had given last v w h k (is_some (name_in given w) (λ z. some (is ∙ z))) ∙ ap (λ r. place (standing r) v w) view

pub renewed_by : (names had given : List ℕ) (last w : ℕ) → AreNumbers had given last → w < length given →
    standing (record { names = names; had = had; given = slice_set given w (last + 1); last = last + 1 }) ≡ clear (standing (record { names = names; had = had; given = given; last = last })) w
renewed_by names had given last w a h = λ i. record { name = name_in names; stands = fun_ext there i }
  where
    by : (u : ℕ) (b : Bool) → are_one (name_in had u) (cond b (last + 1) (name_in given (name_in names u))) ≡ cond b false (are_one (name_in had u) (name_in given (name_in names u)))
    by u true = not_next (name_in had u) last (a.of_values u)
    by u false = refl

    there : (u : ℕ) → are_one (name_in had u) (name_in (slice_set given w (last + 1)) (name_in names u)) ≡ cond (name_in names u == w) false (are_one (name_in had u) (name_in given (name_in names u)))
    there u = ap (are_one (name_in had u)) (row_put given w (name_in names u) (last + 1) h) ∙ by u (name_in names u == w)

pub forgotten_by : (names had given : List ℕ) (last v : ℕ) → v < length had →
    standing (record { names = names; had = slice_set had v 0; given = given; last = last }) ≡ forget (standing (record { names = names; had = had; given = given; last = last })) v
forgotten_by names had given last v h = λ i. record { name = name_in names; stands = fun_ext there i }
  where
    by : (u : ℕ) (b : Bool) → are_one (cond b 0 (name_in had u)) (name_in given (name_in names u)) ≡ cond b false (are_one (name_in had u) (name_in given (name_in names u)))
    by u true = refl
    by u false = refl

    there : (u : ℕ) → are_one (name_in (slice_set had v 0) u) (name_in given (name_in names u)) ≡ cond (u == v) false (are_one (name_in had u) (name_in given (name_in names u)))
    there u = ap (λ x. are_one x (name_in given (name_in names u))) (row_put had v u 0 h) ∙ by u (u == v)

past_end : (row : List ℕ) (v : ℕ) → length row ≤ v → name_in row v ≡ 0
past_end [] v h = refl
past_end (x ∷ row) zero h = absurd (omega (arith, h))
past_end (x ∷ row) (suc v) h = past_end row v (omega (arith, h))

-- a value that has no place in the rows stands nowhere
pub nothing_forgotten : (names had given : List ℕ) (last v : ℕ) → length had ≤ v →
    standing (record { names = names; had = had; given = given; last = last }) ≡ forget (standing (record { names = names; had = had; given = given; last = last })) v
nothing_forgotten names had given last v h = λ i. record { name = name_in names; stands = fun_ext there i }
  where
    by : (u : ℕ) (b : Bool) → (u == v) ≡ b → are_one (name_in had u) (name_in given (name_in names u)) ≡ cond b false (are_one (name_in had u) (name_in given (name_in names u)))
    by u true e = ap (λ x. are_one x (name_in given (name_in names u))) (ap (name_in had) (eqb-true u v e) ∙ past_end had v h)
    by u false e = refl

    there : (u : ℕ) → are_one (name_in had u) (name_in given (name_in names u)) ≡ cond (u == v) false (are_one (name_in had u) (name_in given (name_in names u)))
    there u = by u (u == v) refl

repeated : (count x k : ℕ) → (name_in (replicate count x) k ≡ x) ⊎ (name_in (replicate count x) k ≡ 0)
repeated zero x k = inr refl
repeated (suc count) x zero = inl refl
repeated (suc count) x (suc k) = repeated count x k

pub cleared_by : (names had given : List ℕ) (last count : ℕ) → AreNumbers had given last →
    standing (record { names = names; had = had; given = replicate count (last + 1); last = last + 1 }) ≡ nowhere (name_in names)
cleared_by names had given last count a = λ i. record { name = name_in names; stands = fun_ext there i }
  where
    by : (u g : ℕ) → (g ≡ last + 1) ⊎ (g ≡ 0) → are_one (name_in had u) g ≡ false
    by u g (inl e) = ap (are_one (name_in had u)) e ∙ not_next (name_in had u) last (a.of_values u)
    by u g (inr e) = ap (are_one (name_in had u)) e ∙ not_none (name_in had u)

    there : (u : ℕ) → are_one (name_in had u) (name_in (replicate count (last + 1)) (name_in names u)) ≡ false
    there u = by u (name_in (replicate count (last + 1)) (name_in names u)) (repeated count (last + 1) (name_in names u))

-- ---- no number is greater than the last one

pub zeros : (count v : ℕ) → name_in (replicate count 0) v ≡ 0
zeros zero v = refl
zeros (suc count) zero = refl
zeros (suc count) (suc v) = zeros count v

no_greater : (row : List ℕ) (i x last : ℕ) → i < length row → x ≤ last → ((v : ℕ) → name_in row v ≤ last) → (v : ℕ) → name_in (slice_set row i x) v ≤ last
no_greater row i x last h k a v = subst (λ y. y ≤ last) (sym (row_put row i v x h)) (by (v == i))
  where
    by : (b : Bool) → cond b x (name_in row v) ≤ last
    by true = k
    by false = a v

pub numbers_first : (count : ℕ) → AreNumbers (replicate count 0) [] 0
numbers_first count = record {
  of_values = λ v. (let e : name_in (replicate count 0) v ≡ 0 = zeros count v in omega (arith, e));
  of_names = λ w. (let g : 0 ≤ 0 = omega arith in g);
}

pub numbers_placed : (had given : List ℕ) (last v w : ℕ) → v < length had → AreNumbers had given last → AreNumbers (slice_set had v (name_in given w)) given last
numbers_placed had given last v w h a = record { of_values = no_greater had v (name_in given w) last h (a.of_names w) a.of_values; of_names = a.of_names }

pub numbers_renewed : (had given : List ℕ) (last w : ℕ) → w < length given → AreNumbers had given last → AreNumbers had (slice_set given w (last + 1)) (last + 1)
numbers_renewed had given last w h a = record {
  of_values = λ v. (let k = a.of_values v in omega (arith, k));
  of_names = no_greater given w (last + 1) (last + 1) h (omega arith) (λ v. (let k = a.of_names v in omega (arith, k)));
}

pub numbers_forgotten : (had given : List ℕ) (last v : ℕ) → v < length had → AreNumbers had given last → AreNumbers (slice_set had v 0) given last
numbers_forgotten had given last v h a = record { of_values = no_greater had v 0 last h (omega arith) a.of_values; of_names = a.of_names }

pub numbers_cleared : (had given : List ℕ) (last count : ℕ) → AreNumbers had given last → AreNumbers had (replicate count (last + 1)) (last + 1)
numbers_cleared had given last count a = record {
  of_values = λ v. (let k = a.of_values v in omega (arith, k));
  of_names = λ w. by (name_in (replicate count (last + 1)) w) (repeated count (last + 1) w);
}
  where
    by : (g : ℕ) → (g ≡ last + 1) ⊎ (g ≡ 0) → g ≤ last + 1
    by g (inl e) = omega (arith, e)
    by g (inr e) = omega (arith, e)

-- ---- a move, and other operations

pub stays_by : (n after : Standing) (w : ℕ) (op : Op) → all_stand n (reads op) ≡ true → is_there n w (source_of op) ≡ true → after ≡ place_if n (written_by op) w → OpMade n (Some w) op None after
stays_by n after w op stand there e = record {
  stand = stand;
  is = sym (ap (λ b. cond b None (Some (renamed_op n.name w op))) there);
  later = e ∙ sym (ap (λ b. cond b (place_if n (written_by op) w) (put_if n (written_by op) w)) there);
}

pub named_by : (n after : Standing) (w : ℕ) (op made : Op) → all_stand n (reads op) ≡ true → is_there n w (source_of op) ≡ false → made ≡ renamed_op n.name w op → after ≡ put_if n (written_by op) w → OpMade n (Some w) op (Some made) after
named_by n after w op made stand apart m e = record {
  stand = stand;
  is = ap Option.Some m ∙ sym (ap (λ b. cond b None (Some (renamed_op n.name w op))) apart);
  later = e ∙ sym (ap (λ b. cond b (place_if n (written_by op) w) (put_if n (written_by op) w)) apart);
}

-- ---- one operation after the other

first_of : (ws : List (Option ℕ)) (i : ℕ) → first_name (drop i ws) ≡ slice_index_or ws i None
first_of [] zero = refl
first_of [] (suc i) = refl
first_of (w ∷ ws) zero = refl
first_of (w ∷ ws) (suc i) = first_of ws i

one_behind : (ws : List (Option ℕ)) (i : ℕ) → drop 1 (drop i ws) ≡ drop (suc i) ws
one_behind [] zero = refl
one_behind [] (suc i) = refl
one_behind (w ∷ ws) zero = refl
one_behind (w ∷ ws) (suc i) = one_behind ws i

one_on : (ws : List (Option ℕ)) (i : ℕ) → drop 1 (drop i ws) ≡ drop (i + 1) ws
one_on ws i = let e : suc i ≡ i + 1 = omega arith in one_behind ws i ∙ ap (λ k. drop k ws) e

-- what was made of some operations, with what is still to be made of the others
pub record Underway (first : Standing) (ws : List (Option ℕ)) (ops : List Op) (i : ℕ) (made : List Op) (now : Standing) : Type 0 where
  pub is : made ++ renamed_ops now (drop i ws) (drop i ops) ≡ renamed_ops first ws ops
  pub later : behind now (drop i ws) (drop i ops) ≡ behind first ws ops
  pub stand : ops_stand now (drop i ws) (drop i ops) ≡ ops_stand first ws ops

pub underway_first : (first : Standing) (ws : List (Option ℕ)) (ops : List Op) → Underway first ws ops 0 [] first
underway_first first ws ops = record { is = refl; later = refl; stand = refl }

pub underway_next : (first : Standing) (ws : List (Option ℕ)) (ops : List Op) (i : ℕ) (made new : List Op) (now after : Standing) (w : Option ℕ) (d : Op) (o : Option Op) → i < length ops → Underway first ws ops i made now →
    w ≡ slice_index_or ws i None → OpMade now w (get_or ops i d) o after → new ≡ made ++ op_if o → Underway first ws ops (i + 1) new after
underway_next first ws ops i made new now after w d o there u name m put =
    let this : Op = get_or ops i d in
    let rest : List Op = drop (i + 1) ops in
    let left : List (Option ℕ) = drop i ws in
    let split : drop i ops ≡ this ∷ rest = drop_more ops i d there in
    let q : first_name left ≡ w = first_of ws i ∙ sym name in
    let then_is : behind_op now (first_name left) this ≡ after = ap (λ z. behind_op now z this) q ∙ sym m.later in
    let names_on : drop 1 left ≡ drop (i + 1) ws = one_on ws i in
    let op_is : renamed_one now (first_name left) this ≡ o = ap (λ z. renamed_one now z this) q ∙ sym m.is in
    let passes : op_stands now (first_name left) this ≡ true = ap (λ z. op_stands now z this) q ∙ m.stand in
    let ops_on : renamed_ops now left (this ∷ rest) ≡ op_if o ++ renamed_ops after (drop (i + 1) ws) rest =
    ap (λ z. op_if z ++ renamed_ops (behind_op now (first_name left) this) (drop 1 left) rest) op_is ∙ ap (λ n. op_if o ++ renamed_ops n (drop 1 left) rest) then_is ∙ ap (λ l. op_if o ++ renamed_ops after l rest) names_on in
    record {
      is = ap (λ l. l ++ renamed_ops after (drop (i + 1) ws) rest) put ∙ append_assoc made (op_if o) (renamed_ops after (drop (i + 1) ws) rest) ∙ ap (λ l. made ++ l) (sym ops_on) ∙ ap (λ l. made ++ renamed_ops now left l) (sym split) ∙ u.is;
      later = ap (λ l. behind after l rest) (sym names_on) ∙ ap (λ n. behind n (drop 1 left) rest) (sym then_is) ∙ ap (λ l. behind now left l) (sym split) ∙ u.later;
      stand = ap (λ l. ops_stand after l rest) (sym names_on) ∙ ap (λ n. ops_stand n (drop 1 left) rest) (sym then_is) ∙ ap (λ b. b && ops_stand (behind_op now (first_name left) this) (drop 1 left) rest) (sym passes) ∙ ap (λ l. ops_stand now left l) (sym split) ∙ u.stand;
    }

pub underway_last : (first : Standing) (ws : List (Option ℕ)) (ops : List Op) (i : ℕ) (made : List Op) (now : Standing) → length ops ≤ i → Underway first ws ops i made now → OpsMade first ws ops made now
underway_last first ws ops i made now past u =
    let none : drop i ops ≡ [] = drop_all i ops past in
    record {
      stand = sym u.stand ∙ ap (λ l. ops_stand now (drop i ws) l) none;
      is = sym (append-nil made) ∙ ap (λ l. made ++ renamed_ops now (drop i ws) l) (sym none) ∙ u.is;
      later = ap (λ l. behind now (drop i ws) l) (sym none) ∙ u.later;
    }

-- ---- what stands at the start

pub place_next : (first : Standing) (start : List Name) (i : ℕ) (now after : Standing) (d : Name) → i < length start → place_all now (drop i start) ≡ place_all first start → after ≡ place now (get_or start i d).old (get_or start i d).new → place_all after (drop (i + 1) start) ≡ place_all first start
place_next first start i now after d there so put = ap (λ n. place_all n (drop (i + 1) start)) put ∙ ap (place_all now) (sym (drop_more start i d there)) ∙ so

pub place_last : (first : Standing) (start : List Name) (i : ℕ) (now : Standing) → length start ≤ i → place_all now (drop i start) ≡ place_all first start → now ≡ place_all first start
place_last first start i now past so = ap (place_all now) (sym (drop_all i start past)) ∙ so

-- ---- exits and blocks

pub exit_by : (at : ℕ → BlockNames) (before after : Standing) (w : ℕ) (exit : Exit) → all_stand before (reads_of_exit exit) ≡ true → after ≡ put_if before (result_of exit) w → list_all (λ c. carries after (at c).start) (targets_of exit) ≡ true → ExitLeads at before w exit after
exit_by at before after w exit reads put carry = record { stand = both_true reads (subst (λ n. list_all (λ c. carries n (at c).start) (targets_of exit) ≡ true) put carry); later = put }

pub block_by : (at : ℕ → BlockNames) (name : ℕ → ℕ) (names : BlockNames) (block made : Block) (first middle after : Standing) (ops : List Op) → first ≡ starting name names → OpsMade first names.written block.ops ops middle → ExitMade at middle names.result block.exit ops made after → BlockMade at name names block made after.name
block_by at name names block made first middle after ops from o e =
    let end : middle ≡ ending name names block = o.later ∙ ap (λ n. behind n names.written block.ops) from in
    let ops_is : ops ≡ renamed_ops (starting name names) names.written block.ops = o.is ∙ ap (λ n. renamed_ops n names.written block.ops) from in
    let exit_is : renamed_exit middle.name names.result block.exit ≡ renamed_exit (ending name names block).name names.result block.exit = ap (λ (n : Standing). renamed_exit n.name names.result block.exit) end in
    record {
      stand = both_true (subst (λ n. ops_stand n names.written block.ops ≡ true) from o.stand) (subst (λ n. exit_stands at n names.result block.exit ≡ true) end e.leads.stand);
      is = e.is ∙ (λ i. record { ops = ops_is i; exit = exit_is i });
      later = ap (λ (n : Standing). n.name) e.leads.later ∙ ap (λ n. (put_if n (result_of block.exit) names.result).name) end;
    }

some_weaker : {P Q : Block → Type 0} (o : Option Block) → ((x : Block) → P x → Q x) → IfSome o P → IfSome o Q
some_weaker None f h = h
some_weaker (Some x) f h = f x h

pub blocks_by : {E : Type 0} (r : Result (Option Block) E) (at : ℕ → BlockNames) (name : ℕ → ℕ) (names : BlockNames) (block : Block) (first middle after : Standing) (ops : List Op) → first ≡ starting name names → OpsMade first names.written block.ops ops middle →
    IfOk r (λ o. IfSome o (λ made. ExitMade at middle names.result block.exit ops made after)) → IfOk r (λ o. IfSome o (λ made. BlockMade at name names block made after.name))
blocks_by r at name names block first middle after ops from o h =
    IfOk-weaker r (λ o. IfSome o (λ made. ExitMade at middle names.result block.exit ops made after)) (λ o. IfSome o (λ made. BlockMade at name names block made after.name))
    (λ x k. some_weaker x (λ made e. block_by at name names block made first middle after ops from o e) k) h

-- ---- one block after the other

pub record BlocksUnderway (at : ℕ → BlockNames) (blocks : List Block) (i : ℕ) (made : List Block) (name : ℕ → ℕ) : Type 0 where
  pub is : made ++ renamed_blocks at name i (drop i blocks) ≡ renamed_blocks at no_name 0 blocks
  pub stand : blocks_stand at name i (drop i blocks) ≡ blocks_stand at no_name 0 blocks

pub blocks_first : (at : ℕ → BlockNames) (blocks : List Block) (row : List ℕ) → ((v : ℕ) → slice_index_or row v 0 ≡ 0) → BlocksUnderway at blocks 0 [] (name_in row)
blocks_first at blocks row zeros =
    let e : name_in row ≡ no_name = fun_ext zeros in
    record { is = ap (λ n. renamed_blocks at n 0 blocks) e; stand = ap (λ n. blocks_stand at n 0 blocks) e }

pub blocks_next : (at : ℕ → BlockNames) (blocks : List Block) (i : ℕ) (made new : List Block) (name after : ℕ → ℕ) (d block : Block) → i < length blocks → BlocksUnderway at blocks i made name → BlockMade at name (at i) (get_or blocks i d) block after → new ≡ made ++ block ∷ [] → BlocksUnderway at blocks (i + 1) new after
blocks_next at blocks i made new name after d block there u m put =
    let this : Block = get_or blocks i d in
    let rest : List Block = drop (i + 1) blocks in
    let split : drop i blocks ≡ this ∷ rest = drop_more blocks i d there in
    record {
      is =
          ap (λ l. l ++ renamed_blocks at after (i + 1) rest) put ∙ append_assoc made (block ∷ []) (renamed_blocks at after (i + 1) rest) ∙ ap (λ b. made ++ b ∷ renamed_blocks at after (i + 1) rest) m.is
          ∙ ap (λ n. made ++ renamed_block name (at i) this ∷ renamed_blocks at n (i + 1) rest) m.later ∙ ap (λ l. made ++ renamed_blocks at name i l) (sym split) ∙ u.is;
      stand = ap (λ n. blocks_stand at n (i + 1) rest) m.later ∙ ap (λ b. b && blocks_stand at (leaving name (at i) this) (i + 1) rest) (sym m.stand) ∙ ap (λ l. blocks_stand at name i l) (sym split) ∙ u.stand;
    }

pub blocks_last : (at : ℕ → BlockNames) (blocks : List Block) (i : ℕ) (made : List Block) (name : ℕ → ℕ) → length blocks ≤ i → BlocksUnderway at blocks i made name → BlocksMade at blocks made
blocks_last at blocks i made name past u =
    let none : drop i blocks ≡ [] = drop_all i blocks past in
    record {
      stand = sym u.stand ∙ ap (λ l. blocks_stand at name i l) none;
      is = sym (append-nil made) ∙ ap (λ l. made ++ renamed_blocks at name i l) (sym none) ∙ u.is;
    }

pub graph_by : (names : GraphNames) (g h : Graph) (blocks : List Block) → has_counts names g ≡ true → entry_stands names g ≡ true → BlocksMade (names_at names.blocks) g.blocks blocks →
    h ≡ record { blocks = blocks; banks = names.banks; parameters = names.parameters; arrays = map (renamed_array (parameter_name g.parameters names.parameters)) g.arrays } → GraphRenames g h
graph_by names g h blocks counts entry m e = record {
  names = names;
  tested = both_true counts (both_true entry m.stand);
  is = e ∙ ap (λ l. record { blocks = l; banks = names.banks; parameters = names.parameters; arrays = map (renamed_array (parameter_name g.parameters names.parameters)) g.arrays }) m.is;
}

-- ---- counts

pub count_within : {X : Type 0} (p : X → Bool) (xs : List X) (i n : ℕ) → i < length xs → n ≡ count_by p (take i xs) → n + 1 ≤ length xs
count_within p xs i n lt e =
    let below = count_by-le-length p (take i xs) in
    let short : length (take i xs) ≡ i = length-take-le i xs (omega arith) in
    omega arith

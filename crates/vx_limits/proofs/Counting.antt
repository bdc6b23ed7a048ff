-- Loops that count what the items of a list come to, and that look for the first one over a limit.
use Rattle.std.proofs.Common.{◌≡◌, ℕ, ◌+◌, ◌<◌, ◌≤◌, Bool, true, ◌&&◌, List, [], ◌∷◌, ◌++◌, length, drop, get_or, refl, ap, sym, ◌∙◌, Option, Some, None, arith}
use Rattle.std.proofs.lemmas.Bool.{and_from, lt-ltb}
use Rattle.std.proofs.lemmas.List.{at_drop_more}
use Rattle.std.proofs.Common.{ℤ, pos, negsuc, w32, FitsSigned, ◌^◌, Vec, Global}
use Rattle.vx_ast.specs.declared.tree.Expression.{Expression, Call}
use Rattle.vx_ast.specs.declared.tree.Argument.{Argument}
use Rattle.vx_ast.specs.declared.tree.Argument.TheVariants.{Number as ANumber, Array as AnArray}
use Rattle.vx_ast.specs.declared.tree.Statement.{Statement, Block}
use Rattle.vx_ast.specs.Tree.{Tree, One, Row, Code}
use Rattle.vx_ast.specs.View.{tree_of, argument_before, arguments_in, code_of, all_in}
use Rattle.vx_limits.specs.Words.{tree_words, argument_words, argument_nodes, code_words}
use Rattle.vx_limits.proofs.Caps.{capped_one}
use Rattle.vx_limits.proofs.Views.{call_view, block_view}
use Rattle.vx_ast.specs.Accepted.{Over, over, or_else, is_word, nodes_of, code_nodes}
use Rattle.vx_limits.specs.Capped.{capped, over_of}
use Rattle.vx_limits.proofs.Limited.{over_passes, over_stops, over_append}

-- what is left of a list at one of its items
drop_next : {A : Type 0} (xs : List A) (i : ℕ) (x : A) → i < length xs → x ≡ get_or xs i x → drop i xs ≡ x ∷ drop (i + 1) xs
drop_next xs i x h e = at_drop_more (λ z. z) xs i x h ∙ ap (λ z. z ∷ drop (i + 1) xs) (sym e)

-- a count so far, what is left to count, and that all counted numbers are of 32 bits if those that are left are
pub record Counted {A : Type 0} (N : List A → ℕ) (W : List A → Bool) (count : ℕ) (left all : List A) : Type 0 where
  pub nodes : capped (count + N left) ≡ capped (N all)
  pub words : W left ≡ true → W all ≡ true
  pub small : count ≤ 18446744073709551615

pub counted_begin : {A : Type 0} (N : List A → ℕ) (W : List A → Bool) (all : List A) → Counted N W 0 all all
counted_begin N W all = record { nodes = omega arith; words = λ h. h; small = omega arith }

more_counted : (count next x n rest whole : ℕ) → next ≡ capped (count + x) → x ≡ capped n → capped (count + (n + rest)) ≡ whole → capped (next + rest) ≡ whole
more_counted count next x n rest whole p q r = omega (arith, p, q, r)

pub counted_step : {A : Type 0} (N : List A → ℕ) (W : List A → Bool) (count next n nodes : ℕ) (w : Bool) (all : List A) (i : ℕ) (x : A) → Counted N W count (drop i all) all → i < length all → x ≡ get_or all i x
    → N (x ∷ drop (i + 1) all) ≡ nodes + N (drop (i + 1) all) → W (x ∷ drop (i + 1) all) ≡ (w && W (drop (i + 1) all)) → next ≡ capped (count + n) → n ≡ capped nodes → w ≡ true → Counted N W next (drop (i + 1) all) all
counted_step N W count next n nodes w all i x s h e ln lw p q t =
    let d = drop_next all i x h e in
    record {
      nodes = more_counted count next n nodes (N (drop (i + 1) all)) (capped (N all)) p q (ap (λ (k : ℕ). capped (count + k)) (sym ln) ∙ sym (ap (λ z. capped (count + N z)) d) ∙ s.nodes);
      words = λ r. s.words (ap W d ∙ lw ∙ and_from w (W (drop (i + 1) all)) t r);
      small = omega (arith, p);
    }

pub counted_end : {A : Type 0} (N : List A → ℕ) (W : List A → Bool) (count : ℕ) (left all : List A) → Counted N W count left all → left ≡ [] → N [] ≡ 0 → W [] ≡ true → (count ≡ capped (N all)) × (W all ≡ true)
counted_end N W count left all s e n w =
    let z = s.nodes in
    let k : N left ≡ 0 = ap N e ∙ n in
    let m = s.small in
    (omega (arith, z, k, m), s.words (ap W e ∙ w))

-- the first count over a limit

pub over_left : {A : Type 0} (G : List A → List ℕ) (k most g : ℕ) (all : List A) (i : ℕ) (x : A) (whole : Option Over) → over k most (G (drop i all)) ≡ whole → i < length all → x ≡ get_or all i x
    → G (x ∷ drop (i + 1) all) ≡ g ∷ G (drop (i + 1) all) → g ≤ most → over k most (G (drop (i + 1) all)) ≡ whole
over_left G k most g all i x whole s h e l p = sym (over_passes k most g (G (drop (i + 1) all)) p) ∙ ap (λ z. over k most z) (sym l) ∙ sym (ap (λ z. over k most (G z)) (drop_next all i x h e)) ∙ s

pub over_found : {A : Type 0} (G : List A → List ℕ) (k most g : ℕ) (all : List A) (i : ℕ) (x : A) (whole : Option Over) → over k most (G (drop i all)) ≡ whole → i < length all → x ≡ get_or all i x
    → G (x ∷ drop (i + 1) all) ≡ g ∷ G (drop (i + 1) all) → most < g → Some (over_of k g) ≡ whole
over_found G k most g all i x whole s h e l p = sym (over_stops k most g (G (drop (i + 1) all)) p) ∙ ap (λ z. over k most z) (sym l) ∙ sym (ap (λ z. over k most (G z)) (drop_next all i x h e)) ∙ s

-- the same where the count is known as another number
pub over_found_count : {A : Type 0} (G : List A → List ℕ) (k most count g : ℕ) (all : List A) (i : ℕ) (x : A) (whole : Option Over) → over k most (G (drop i all)) ≡ whole → i < length all → x ≡ get_or all i x
    → G (x ∷ drop (i + 1) all) ≡ g ∷ G (drop (i + 1) all) → most < count → count ≡ g → Some (over_of k count) ≡ whole
over_found_count G k most count g all i x whole s h e l p is = over_found G k most count all i x whole s h e (l ∙ ap (λ (n : ℕ). n ∷ G (drop (i + 1) all)) (sym is)) p

-- what holds of an item and of those behind it holds of all that are left
pub words_left : {A : Type 0} (W : List A → Bool) (w : Bool) (all : List A) (i : ℕ) (x : A) → i < length all → x ≡ get_or all i x → W (x ∷ drop (i + 1) all) ≡ (w && W (drop (i + 1) all)) → w ≡ true → W (drop (i + 1) all) ≡ true → W (drop i all) ≡ true
words_left W w all i x h e l t r = ap W (drop_next all i x h e) ∙ l ∙ and_from w (W (drop (i + 1) all)) t r

-- the same where an item has several counts
pub over_left_all : {A : Type 0} (G : List A → List ℕ) (k most : ℕ) (gs : List ℕ) (all : List A) (i : ℕ) (x : A) (whole : Option Over) → over k most (G (drop i all)) ≡ whole → i < length all → x ≡ get_or all i x
    → G (x ∷ drop (i + 1) all) ≡ gs ++ G (drop (i + 1) all) → None ≡ over k most gs → over k most (G (drop (i + 1) all)) ≡ whole
over_left_all G k most gs all i x whole s h e l p =
    ap (λ z. or_else z (over k most (G (drop (i + 1) all)))) p ∙ sym (over_append k most gs (G (drop (i + 1) all))) ∙ ap (λ z. over k most z) (sym l) ∙ sym (ap (λ z. over k most (G z)) (drop_next all i x h e)) ∙ s

pub over_found_all : {A : Type 0} (G : List A → List ℕ) (k most : ℕ) (gs : List ℕ) (o : Over) (all : List A) (i : ℕ) (x : A) (whole : Option Over) → over k most (G (drop i all)) ≡ whole → i < length all → x ≡ get_or all i x
    → G (x ∷ drop (i + 1) all) ≡ gs ++ G (drop (i + 1) all) → Some o ≡ over k most gs → Some o ≡ whole
over_found_all G k most gs o all i x whole s h e l p =
    ap (λ z. or_else z (over k most (G (drop (i + 1) all)))) p ∙ sym (over_append k most gs (G (drop (i + 1) all))) ∙ ap (λ z. over k most z) (sym l) ∙ sym (ap (λ z. over k most (G z)) (drop_next all i x h e)) ∙ s

-- numbers, calls and blocks

pub word_fits : (z : ℤ) → FitsSigned w32 z → is_word z ≡ true
word_fits (pos n) f = lt-ltb n (2 ^ 31) f.sfits
word_fits (negsuc n) f = lt-ltb n (2 ^ 31) f.sfits

pub argument_count : (x : Argument) (rest : Tree Row) → nodes_of (argument_before x rest) ≡ argument_nodes x + nodes_of rest
argument_count (ANumber e) rest = refl
argument_count (AnArray a) rest = refl

pub argument_word : (x : Argument) (rest : Tree Row) → tree_words (argument_before x rest) ≡ (argument_words x && tree_words rest)
argument_word (ANumber e) rest = refl
argument_word (AnArray a) rest = refl

pub call_count : (f : ℕ) (all : Vec Argument Global) (row : List Argument) (n out : ℕ) (e : Expression) → e ≡ Call f all → row ≡ all.items → n ≡ capped (nodes_of (arguments_in row)) → out ≡ capped (1 + n) → out ≡ capped (nodes_of (tree_of e))
call_count f all row n out e i r q o =
    o ∙ capped_one n (nodes_of (arguments_in row)) q ∙ ap (λ (z : List Argument). capped (1 + nodes_of (arguments_in z))) r ∙ ap (λ (t : Tree One). capped (nodes_of t)) (sym (ap tree_of i ∙ call_view f all))

pub call_words : (f : ℕ) (all : Vec Argument Global) (row : List Argument) (e : Expression) → e ≡ Call f all → row ≡ all.items → tree_words (arguments_in row) ≡ true → tree_words (tree_of e) ≡ true
call_words f all row e i r w = ap (λ (t : Tree One). tree_words t) (ap tree_of i ∙ call_view f all) ∙ sym (ap (λ (z : List Argument). tree_words (arguments_in z)) r) ∙ w

pub block_count : (all : Vec Statement Global) (row : List Statement) (n out : ℕ) (s : Statement) → s ≡ Block all → row ≡ all.items → n ≡ capped (code_nodes (all_in row)) → out ≡ capped (1 + n) → out ≡ capped (code_nodes (code_of s))
block_count all row n out s i r q o =
    o ∙ capped_one n (code_nodes (all_in row)) q ∙ ap (λ (z : List Statement). capped (1 + code_nodes (all_in z))) r ∙ ap (λ (t : Code). capped (code_nodes t)) (sym (ap code_of i ∙ block_view all))

pub block_words : (all : Vec Statement Global) (row : List Statement) (s : Statement) → s ≡ Block all → row ≡ all.items → code_words (all_in row) ≡ true → code_words (code_of s) ≡ true
block_words all row s i r w = ap (λ (t : Code). code_words t) (ap code_of i ∙ block_view all) ∙ sym (ap (λ (z : List Statement). code_words (all_in z)) r) ∙ w

-- Blocks, and which statement a token begins.
use Rattle.std.proofs.Common.{◌≡◌, ◌≤◌, ◌<◌, ◌+◌, ℕ, Bool, false, if◌then◌else◌, List, [], ◌∷◌, ◌++◌, length, drop, Some, None, refl, sym, ap, ◌∙◌, subst, arith}
use Rattle.vx_ast.specs.declared.syntax.Statement.{Statement}
use Rattle.vx_ast.specs.declared.token.Keyword.TheVariants as words
use Rattle.vx_ast.specs.declared.token.Mark.TheVariants as marks
use Rattle.vx_ast.specs.declared.token.TokenKind.{TokenKind}
use Rattle.vx_ast.specs.declared.token.TokenKind.TheVariants as kinds
use Rattle.vx_ast.specs.declared.token.Token.{Token}
use Rattle.vx_ast.specs.Tree.{One, Row}
use Rattle.vx_ast.specs.Syntax as syntax
use Rattle.vx_ast.specs.SyntaxView as view
use Rattle.vx_ast.specs.Phrases as phrases
use Rattle.vx_ast.specs.Phrases.{Phrase, ElsePart, MoreItems, Block, Items, Part, The, A, mark, word, Fits, parts_of, Derivation, Leaf, Node, NoMore, Then, Is, nothing, token, phrase, Stuck, unfit, behind, no_phrase, inside, after, Begins, reached, reached_behind, reached_inside, reached_after}
use Rattle.vx_ast.specs.Derivations.{items_of, if_of, code_of, block_of, body_of, statement_of, all_of, depth_behind, itself, are_begun}
use Rattle.vx_parse.specs.declared.stop.Stop.{Stop}
use Rattle.vx_parse.specs.declared.stop.Stop.TheVariants.{Unexpected}
use Rattle.vx_parse.specs.declared.simple.ItemsRead.{ItemsRead}
use Rattle.vx_parse.specs.declared.statement.BodyRead.{BodyRead}
use Rattle.vx_parse.specs.Reading.{next_kind, Passed, Misfit, Stops, IsPhrase, Continues}
use Rattle.vx_parse.specs.Statements.{MeansElse, MeansCode, MeansBlock, MeansAll, AreItems}
use Rattle.vx_parse.proofs.Tokens.{next_token}
use Rattle.vx_parse.proofs.Depths.{none_depth, then_depth, plain_depth}
use Rattle.vx_parse.proofs.Steps.{node, stuck_node, stops_node, Opens}
use Rattle.vx_parse.proofs.Expressions.{OfPhrase, of_phrase}
use Rattle.vx_parse.proofs.Parts.{Before, past_token, past_phrase, past_row, ends, quietly, openly}

-- else

else_parts : {k : TokenKind} → k ≡ kinds.Keyword words.Else → parts_of ElsePart k ≡ Some (word words.Else ∷ A phrases.Statement ∷ [])
unfolding parts_of
else_parts e = ap (parts_of ElsePart) e

no_else_parts : (k : TokenKind) → (k ≡ kinds.Keyword words.Else → ⊥) → parts_of ElsePart k ≡ Some []
unfolding parts_of
no_else_parts (kinds.Keyword words.Else) h = absurd (h refl)
no_else_parts k h = refl

pub else_before : (ts : List Token) (i k : ℕ) (c : Passed (word words.Else) ts i (i + 1)) → i < length ts → k ≤ 200 → next_kind (drop i ts) ≡ kinds.Keyword words.Else
    → Before (A ElsePart ∷ []) ts i k (λ d. Then (Node ElsePart (Then (Leaf c.token) d)) NoMore) (A phrases.Statement ∷ []) (i + 1) k
else_before ts i k c h l e = past_token (quietly ElsePart (word words.Else ∷ A phrases.Statement ∷ []) ts i k refl refl refl l h (else_parts e)) c

else_tree : (test : syntax.Phrase One) (chosen : syntax.Code) (t : Token) (x : Derivation One) → if_of test chosen (Node ElsePart (Then (Leaf t) (Then x NoMore))) ≡ syntax.IfElse test chosen (code_of x)
unfolding if_of
else_tree test chosen t x = refl

no_else_tree : (test : syntax.Phrase One) (chosen : syntax.Code) → if_of test chosen (Node ElsePart NoMore) ≡ syntax.If test chosen
unfolding if_of
no_else_tree test chosen = refl

pub else_is : (ts : List Token) (i k next : ℕ) (other : BodyRead) (c : Passed (word words.Else) ts i (i + 1)) → i < length ts → k ≤ 200 → next_kind (drop i ts) ≡ kinds.Keyword words.Else
    → IsPhrase phrases.Statement ts (i + 1) (i + 1 + 1) next k (MeansCode other.body.value) → IsPhrase ElsePart ts i i next k (MeansElse (Some other))
else_is ts i k next other c h l e a =
    let b = past_phrase (else_before ts i k c h l e) a.parted in
    record {
      derivation = Node ElsePart (Then (Leaf c.token) (Then a.derivation NoMore));
      parted = ends b;
      means = λ test chosen. else_tree test chosen c.token a.derivation ∙ ap (syntax.IfElse test chosen) a.means;
      further = b.further;
    }

pub no_else : (ts : List Token) (i k : ℕ) → i < length ts → k ≤ 200 → (next_kind (drop i ts) ≡ kinds.Keyword words.Else → ⊥) → IsPhrase ElsePart ts i i i k (MeansElse None)
no_else ts i k h l n =
    let b = quietly ElsePart [] ts i k refl refl refl l h (no_else_parts (next_kind (drop i ts)) n) in
    record { derivation = Node ElsePart NoMore; parted = ends b; means = λ test chosen. no_else_tree test chosen; further = b.further }

-- a block as a statement

block_parts : {k : TokenKind} → k ≡ kinds.Mark marks.OpenBrace → parts_of phrases.Statement k ≡ Some (A Block ∷ [])
unfolding parts_of
block_parts e = ap (parts_of phrases.Statement) e

none_begun : are_begun NoMore ≡ false
unfolding are_begun
none_begun = refl

itself_none : itself phrases.Statement NoMore ≡ 0
itself_none = ap (λ (b : Bool). if b then 1 else 0) none_begun

is_itself : {a b : List Token} {d : Derivation Row} → Is (A Block ∷ []) a d b → itself phrases.Statement d ≡ 0
is_itself (token f nothing) = absurd f
is_itself (phrase p inner k i nothing) = refl

stuck_itself : {a b : List Token} {d : Derivation Row} → Stuck (A Block ∷ []) a d b → itself phrases.Statement d ≡ 0
stuck_itself (unfit n u) = itself_none
stuck_itself (behind f s) = absurd f
stuck_itself (no_phrase p n) = itself_none
stuck_itself (inside p inner k s) = refl
stuck_itself (after p inner k i s) = refl

begins_itself : {a b : List Token} {d : Derivation Row} → Begins (A Block ∷ []) a d b → itself phrases.Statement d ≡ 0
begins_itself reached = itself_none
begins_itself (reached_behind f s) = absurd f
begins_itself (reached_inside p inner k s) = refl
begins_itself (reached_after p inner k i s) = refl

pub block_stops : (ts : List Token) (i k : ℕ) (s : Stop) → i < length ts → next_kind (drop i ts) ≡ kinds.Mark marks.OpenBrace → Stops (A Block ∷ []) (drop i ts) ts k 0 s → Stops (A phrases.Statement ∷ []) (drop i ts) ts k 0 s
block_stops ts i k s h e w =
    stops_node phrases.Statement (A Block ∷ []) ts i k 0 k 0 s h (block_parts e)
    (λ d rest o f. let a = plain_depth phrases.Statement refl 0 d in let b = stuck_itself o in omega arith)
    (λ d rest o f. let a = plain_depth phrases.Statement refl 0 d in let b = begins_itself o in omega arith) w

block_code : (x : Derivation One) → OfPhrase Block x → code_of (Node phrases.Statement (Then x NoMore)) ≡ syntax.Block (block_of x)
unfolding code_of statement_of block_of
block_code x s = let P : Derivation One → Type 0 = λ y. code_of (Node phrases.Statement (Then y NoMore)) ≡ syntax.Block (block_of y) in subst P (sym s.is) refl

pub block_is : (ts : List Token) (i k next : ℕ) (all : List Statement) (statement : Statement) → i < length ts → next_kind (drop i ts) ≡ kinds.Mark marks.OpenBrace → IsPhrase Block ts i (i + 1) next k (MeansBlock all)
    → view.code_of statement ≡ syntax.Block (view.all_in all) → IsPhrase phrases.Statement ts i (i + 1) next k (MeansCode statement)
block_is ts i k next all statement h e a f =
    let x = a.derivation in
    let d = plain_depth phrases.Statement refl 0 (Then x NoMore) in let c = is_itself a.parted.is in let g = a.parted.shallow in
    let d1 = then_depth 0 (Node phrases.Statement (Then x NoMore)) NoMore in let d2 = none_depth (depth_behind 0 (Node phrases.Statement (Then x NoMore))) in
    record {
      derivation = Node phrases.Statement (Then x NoMore);
      parted = record { is = node ts i h (block_parts e) a.parted.is; shallow = omega arith; further = a.parted.further; within = a.parted.within };
      means = block_code x (of_phrase a.parted.is) ∙ ap syntax.Block a.means ∙ sym f;
      further = a.further;
    }

-- a block

brace_parts : (k : TokenKind) → parts_of Block k ≡ Some (mark marks.OpenBrace ∷ A Items ∷ mark marks.CloseBrace ∷ [])
unfolding parts_of
brace_parts k = refl

block_none : itself Block NoMore ≡ 0
block_none = refl

pub block_misfit : (ts : List Token) (i k : ℕ) (s : Stop) → i < length ts → k ≤ 200 → Misfit (mark marks.OpenBrace) ts i s → Stops (A Block ∷ []) (drop i ts) ts k 0 s
block_misfit ts i k s h l m =
    let t = next_token ts i h in
    let same : next_kind (drop i ts) ≡ t.token.kind = ap next_kind t.is in
    let u : Stuck (mark marks.OpenBrace ∷ A Items ∷ mark marks.CloseBrace ∷ []) (t.token ∷ drop (i + 1) ts) NoMore (t.token ∷ drop (i + 1) ts) = unfit (λ p e. cc) (subst (λ z. Fits (mark marks.OpenBrace) z → ⊥) same m.unfit) in
    let v : Stuck (mark marks.OpenBrace ∷ A Items ∷ mark marks.CloseBrace ∷ []) (drop i ts) NoMore (drop i ts) = subst (λ z. Stuck (mark marks.OpenBrace ∷ A Items ∷ mark marks.CloseBrace ∷ []) z NoMore z) (sym t.is) u in
    let a = then_depth 0 (Node Block NoMore) NoMore in let b = none_depth (depth_behind 0 (Node Block NoMore)) in let c = plain_depth Block refl 0 NoMore in let d = none_depth 0 in
    let w : Stops (A Block ∷ []) (drop i ts) ts k 0 (Unexpected i) = (h, record { derivation = Then (Node Block NoMore) NoMore; stuck = stuck_node ts i h (brace_parts (next_kind (drop i ts))) v; shallow = omega arith }) in
    subst (λ z. Stops (A Block ∷ []) (drop i ts) ts k 0 z) (sym m.is) w

pub block_opens : (ts : List Token) (i j : ℕ) → i < length ts → Passed (mark marks.OpenBrace) ts i j → Opens Block (mark marks.OpenBrace) (A Items ∷ mark marks.CloseBrace ∷ []) ts i j 1
block_opens ts i j h c = record { passed = c; here = h; parts = brace_parts (next_kind (drop i ts)); counts = λ d. refl; plain = refl }

pub block_before : {ts : List Token} {i j : ℕ} (k : ℕ) (o : Opens Block (mark marks.OpenBrace) (A Items ∷ mark marks.CloseBrace ∷ []) ts i j 1) → k < 200
    → Before (A Block ∷ []) ts i k (λ d. Then (Node Block (Then (Leaf o.passed.token) d)) NoMore) (A Items ∷ mark marks.CloseBrace ∷ []) j (k + 1)
block_before k o l = openly k o refl (omega arith)

block_tree : (t u : Token) (x : Derivation One) → block_of (Node Block (Then (Leaf t) (Then x (Then (Leaf u) NoMore)))) ≡ all_of x
unfolding block_of body_of
block_tree t u x = refl

pub braces_are : (ts : List Token) (i j k m next : ℕ) (all : List Statement) (o : Opens Block (mark marks.OpenBrace) (A Items ∷ mark marks.CloseBrace ∷ []) ts i j 1) → k < 200 → IsPhrase Items ts j j m (k + 1) (MeansAll all)
    → Passed (mark marks.CloseBrace) ts m next → IsPhrase Block ts i (i + 1) next k (MeansBlock all)
braces_are ts i j k m next all o l a c =
    let b = past_token (past_phrase (block_before k o l) a.parted) c in
    let g = o.passed.further in let g1 = a.further in let g2 = c.further in
    record { derivation = Node Block (Then (Leaf o.passed.token) (Then a.derivation (Then (Leaf c.token) NoMore))); parted = ends b; means = block_tree o.passed.token c.token a.derivation ∙ a.means; further = omega arith }

-- declarations and statements

declaration_parts : {k : TokenKind} → k ≡ kinds.Keyword words.Int → parts_of Items k ≡ Some (word words.Int ∷ A phrases.Item ∷ A MoreItems ∷ mark marks.Semicolon ∷ A Items ∷ [])
unfolding parts_of
declaration_parts e = ap (parts_of Items) e

entry_parts : (k : TokenKind) → (k ≡ kinds.Mark marks.CloseBrace → ⊥) → (k ≡ kinds.Keyword words.Int → ⊥) → parts_of Items k ≡ Some (A phrases.Statement ∷ A Items ∷ [])
unfolding parts_of
entry_parts (kinds.Mark marks.CloseBrace) a b = absurd (a refl)
entry_parts (kinds.Keyword words.Int) a b = absurd (b refl)
entry_parts k a b = refl

no_entry_parts : {k : TokenKind} → k ≡ kinds.Mark marks.CloseBrace → parts_of Items k ≡ Some []
unfolding parts_of
no_entry_parts e = ap (parts_of Items) e

pub declaration_before : (ts : List Token) (i k : ℕ) (c : Passed (word words.Int) ts i (i + 1)) → i < length ts → k ≤ 200 → next_kind (drop i ts) ≡ kinds.Keyword words.Int
    → Before (A Items ∷ []) ts i k (λ d. Then (Node Items (Then (Leaf c.token) d)) NoMore) ((A phrases.Item ∷ A MoreItems ∷ []) ++ (mark marks.Semicolon ∷ A Items ∷ [])) (i + 1) k
declaration_before ts i k c h l e = past_token (quietly Items (word words.Int ∷ A phrases.Item ∷ A MoreItems ∷ mark marks.Semicolon ∷ A Items ∷ []) ts i k refl refl refl l h (declaration_parts e)) c

declaration_tree : (t m : Token) (x y z : Derivation One) → all_of (Node Items (Then (Leaf t) (Then x (Then y (Then (Leaf m) (Then z NoMore)))))) ≡ syntax.Seq (items_of x y) (all_of z)
unfolding all_of
declaration_tree t m x y z = refl

entry_tree : (x z : Derivation One) → all_of (Node Items (Then x (Then z NoMore))) ≡ syntax.Seq (code_of x) (all_of z)
unfolding all_of
entry_tree x z = refl

no_entry_tree : all_of (Node Items NoMore) ≡ syntax.Nothing
unfolding all_of
no_entry_tree = refl

two_codes : {a b x y : syntax.Code} → a ≡ b → x ≡ y → syntax.Seq a x ≡ syntax.Seq b y
two_codes p q = cc

pub declaration_is : (ts : List Token) (i k next : ℕ) (items : ItemsRead) (statement : Statement) (c : Passed (word words.Int) ts i (i + 1)) → i < length ts → k ≤ 200 → next_kind (drop i ts) ≡ kinds.Keyword words.Int
    → AreItems ts (i + 1) k items → Passed (mark marks.Semicolon) ts items.next next → view.code_of statement ≡ view.items_of items.items.items → Continues Items ts i k MeansAll next (statement ∷ [])
declaration_is ts i k next items statement c h l e a m f =
    let b = past_token (past_row (A phrases.Item ∷ A MoreItems ∷ []) (mark marks.Semicolon ∷ A Items ∷ []) refl (declaration_before ts i k c h l e) a.parted) m in
    let g = b.further in
    record {
      whole = λ end d more p n.
          let g1 = p.further in
          record {
            derivation = Node Items (Then (Leaf c.token) (Then a.first (Then a.more (Then (Leaf m.token) (Then d NoMore)))));
            parted = b.whole (Then d NoMore) end p;
            means = declaration_tree c.token m.token a.first a.more d ∙ two_codes (a.tree ∙ sym f) n;
            further = omega arith;
          };
      stops = b.stops;
      further = omega arith;
      within = b.within;
    }

pub entry_before : (ts : List Token) (i k : ℕ) → i < length ts → k ≤ 200 → (next_kind (drop i ts) ≡ kinds.Mark marks.CloseBrace → ⊥) → (next_kind (drop i ts) ≡ kinds.Keyword words.Int → ⊥)
    → Before (A Items ∷ []) ts i k (λ d. Then (Node Items d) NoMore) (A phrases.Statement ∷ A Items ∷ []) i k
entry_before ts i k h l m n = quietly Items (A phrases.Statement ∷ A Items ∷ []) ts i k refl refl refl l h (entry_parts (next_kind (drop i ts)) m n)

pub entry_is : (ts : List Token) (i k next : ℕ) (statement : Statement) → i < length ts → k ≤ 200 → (next_kind (drop i ts) ≡ kinds.Mark marks.CloseBrace → ⊥) → (next_kind (drop i ts) ≡ kinds.Keyword words.Int → ⊥)
    → IsPhrase phrases.Statement ts i (i + 1) next k (MeansCode statement) → Continues Items ts i k MeansAll next (statement ∷ [])
entry_is ts i k next statement h l m n a =
    let b = past_phrase (entry_before ts i k h l m n) a.parted in
    let g = b.further in
    record {
      whole = λ end d more p q.
          let g1 = p.further in
          record {
            derivation = Node Items (Then a.derivation (Then d NoMore));
            parted = b.whole (Then d NoMore) end p;
            means = entry_tree a.derivation d ∙ two_codes a.means q;
            further = omega arith;
          };
      stops = b.stops;
      further = omega arith;
      within = b.within;
    }

pub no_entries : (ts : List Token) (i k : ℕ) → i < length ts → k ≤ 200 → next_kind (drop i ts) ≡ kinds.Mark marks.CloseBrace → IsPhrase Items ts i i i k (MeansAll [])
no_entries ts i k h l e =
    let b = quietly Items [] ts i k refl refl refl l h (no_entry_parts e) in
    record { derivation = Node Items NoMore; parted = ends b; means = no_entry_tree; further = b.further }

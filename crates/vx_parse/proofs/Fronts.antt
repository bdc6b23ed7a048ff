-- Where a list of tokens leaves the grammar: up to there it goes on to a program, and with the next token it does not.
use Rattle.std.proofs.Common.{◌≡◌, Option, Some, None, List, [], ◌∷◌, ◌++◌, refl, sym, ap, ◌∙◌, subst, append_assoc, append-nil}
use Rattle.std.specs.Prelude.{IfSome}
use Rattle.vx_ast.specs.declared.token.TokenKind.{TokenKind}
use Rattle.vx_ast.specs.declared.token.TokenKind.TheVariants as kinds
use Rattle.vx_ast.specs.declared.token.Token.{Token}
use Rattle.vx_ast.specs.Tree.{Row}
use Rattle.vx_ast.specs.Phrases.{Phrase, Program, Part, The, AName, ANumber, AString, A, Fits, parts_of, Derivation, Leaf, Node, NoMore, Then, Is, nothing, token, phrase, Stuck, unfit, behind, no_phrase, inside, after, Unexpected}
use Rattle.vx_parse.proofs.Ways.{never, SameNext, chosen, two_fronts, same_next}
use Rattle.vx_parse.proofs.Fills.{Ok, Good, fill, fill_part, first_kind, fill_all, closed, a_token}

-- what is still to be read behind a front
pub record Left (parts : List Part) (front : List Token) : Type 0 where
  pub left : List Part
  pub good : (k : TokenKind) → Good parts k → Good left k
  pub resume : (other r : List Token) (e : Derivation Row) → Is left other e r → (f : Derivation Row) × Is parts (front ++ other) f r

-- the tokens of a phrase, which is there whatever comes behind the next token
pub record Front (parts : List Part) (ts : List Token) (d : Derivation Row) (rest : List Token) : Type 0 where
  pub front : List Token
  pub is : ts ≡ front ++ rest
  pub again : (other : List Token) → SameNext rest other → Is parts (front ++ other) d other
  pub more : Left parts front

-- the tokens up to where a list is stuck
record Halt (parts : List Part) (ts : List Token) (d : Derivation Row) (rest : List Token) : Type 0 where
  front : List Token
  is : ts ≡ front ++ rest
  again : (other : List Token) → SameNext rest other → Stuck parts (front ++ other) d other
  more : Left parts front

pub none_left : (parts : List Part) → Left parts []
none_left parts = record { left = parts; good = λ k g. g; resume = λ other r e i. (e, i) }

good_tail : (q : Part) (ps : List Part) (t k : TokenKind) → Fits q t → Good (q ∷ ps) k → Good ps k
good_tail (The m) ps t k f g = g
good_tail AName ps t k f g = g
good_tail ANumber ps t k f g = g
good_tail AString ps t k f g = g
good_tail (A p) ps t k f g = absurd f

same_first : (x y : List Token) (k : TokenKind) → first_kind x (first_kind y k) ≡ first_kind (x ++ y) k
same_first [] y k = refl
same_first (t ∷ ts) y k = refl

fill_append : (ps qs : List Part) → fill ps ++ fill qs ≡ fill (ps ++ qs)
fill_append [] qs = refl
fill_append (q ∷ ps) qs = append_assoc (fill_part q) (fill ps) (fill qs) ∙ ap (λ (l : List Token). fill_part q ++ l) (fill_append ps qs)

good_append : (ps qs : List Part) (k : TokenKind) → Good ps (first_kind (fill qs) k) → Good qs k → Good (ps ++ qs) k
good_append [] qs k a b = b
good_append (The m ∷ ps) qs k a b = good_append ps qs k a b
good_append (AName ∷ ps) qs k a b = good_append ps qs k a b
good_append (ANumber ∷ ps) qs k a b = good_append ps qs k a b
good_append (AString ∷ ps) qs k a b = good_append ps qs k a b
good_append (A p ∷ ps) qs k a b = (subst (Ok p) (same_first (fill ps) (fill qs) k ∙ ap (λ (l : List Token). first_kind l k) (fill_append ps qs)) a.0, good_append ps qs k a.1 b)

record Split (ps qs : List Part) (a c : List Token) : Type 0 where
  mid : List Token
  first : Derivation Row
  second : Derivation Row
  is_first : Is ps a first mid
  is_second : Is qs mid second c

split : (ps qs : List Part) {a c : List Token} {d : Derivation Row} → Is (ps ++ qs) a d c → Split ps qs a c
split [] qs {a} {d} i = record { mid = a; first = NoMore; second = d; is_first = nothing; is_second = i }
split (q ∷ ps) qs (token {t} f i) = let x = split ps qs i in record { mid = x.mid; first = Then (Leaf t) x.first; second = x.second; is_first = token f x.is_first; is_second = x.is_second }
split (q ∷ ps) qs (phrase p inner {d} k j i) = let x = split ps qs i in record { mid = x.mid; first = Then (Node p d) x.first; second = x.second; is_first = phrase p inner k j x.is_first; is_second = x.is_second }

pub token_left : {q : Part} {ps : List Part} {front : List Token} (t : Token) → Fits q t.kind → Left ps front → Left (q ∷ ps) (t ∷ front)
token_left {q} {ps} t f x = record {
  left = x.left;
  good = λ k g. x.good k (good_tail q ps t.kind k f g);
  resume = λ other r e i. let y = x.resume other r e i in (Then (Leaf t) y.0, token f y.1);
}

inner_good : (p : Phrase) (t : TokenKind) (inner : List Part) (k : TokenKind) → parts_of p t ≡ Some inner → Ok p k → Good inner k
inner_good p t inner k e o = subst (λ (z : Option (List Part)). IfSome z (λ ps. Good ps k)) e (closed p t k o)

-- in a phrase of which a front is read
inside_left : (p : Phrase) (inner parts : List Part) (t : Token) (front : List Token) → parts_of p t.kind ≡ Some inner → Left inner (t ∷ front) → Left (A p ∷ parts) (t ∷ front)
inside_left p inner parts t front e x = record {
  left = x.left ++ parts;
  good = λ k g. good_append x.left parts k (x.good (first_kind (fill parts) k) (inner_good p t.kind inner (first_kind (fill parts) k) e g.0)) g.1;
  resume = λ other r d i. let s = split x.left parts i in let y = x.resume other s.mid s.first s.is_first in (Then (Node p y.0) s.second, phrase p inner e y.1 s.is_second);
}

-- the same, or nothing of it
pub begun_left : (p : Phrase) (inner parts : List Part) (t : Token) (ts rest front : List Token) → parts_of p t.kind ≡ Some inner → t ∷ ts ≡ front ++ rest → Left inner front → Left (A p ∷ parts) front
begun_left p inner parts t ts rest [] e is x = none_left (A p ∷ parts)
begun_left p inner parts t ts rest (u ∷ us) e is x =
    let same : t ≡ u = cc in
    inside_left p inner parts u us (subst (λ (z : Token). parts_of p z.kind ≡ Some inner) same e) x

-- behind a phrase
pub after_left : (p : Phrase) (inner parts : List Part) (t : Token) (ts mid rest front : List Token) (d : Derivation Row) → parts_of p t.kind ≡ Some inner → (y : Front inner (t ∷ ts) d mid) → mid ≡ front ++ rest → Left parts front
    → Left (A p ∷ parts) (y.front ++ front)
after_left p inner parts t ts mid rest [] d e y m x = subst (λ l. Left (A p ∷ parts) l) (sym (append-nil y.front)) (begun_left p inner parts t ts mid y.front e y.is y.more)
after_left p inner parts t ts mid rest (u ∷ us) d e y m x = record {
  left = x.left;
  good = λ k g. x.good k g.1;
  resume = λ other r c i.
      let z = x.resume other r c i in
      let all : List Token = u ∷ (us ++ other) in
      let next : SameNext mid all = subst (λ l. SameNext l all) (sym m) refl in
      let whole : SameNext (t ∷ ts) (y.front ++ all) = subst (λ l. SameNext l (y.front ++ all)) (sym y.is) (same_next y.front mid all next) in
      (Then (Node p d) z.0, subst (λ l. Is (A p ∷ parts) l (Then (Node p d) z.0) r) (sym (append_assoc y.front (u ∷ us) other)) (chosen t ts e whole (y.again all next) z.1));
}

pub front_of : {parts : List Part} {ts rest : List Token} {d : Derivation Row} → Is parts ts d rest → Front parts ts d rest
front_of nothing = record { front = []; is = refl; again = λ other h. nothing; more = none_left [] }
front_of (token {t} f a) =
    let x = front_of a in record { front = t ∷ x.front; is = ap (λ l. t ∷ l) x.is; again = λ other h. token f (x.again other h); more = token_left t f x.more }
front_of {rest} (phrase p inner {parts} {t} {ts} {mid} {d} {e} k i a) =
    let y = front_of i in
    let x = front_of a in
    record {
      front = y.front ++ x.front;
      is = two_fronts rest y.front x.front y.is x.is;
      again = λ other h.
          let next : SameNext mid (x.front ++ other) = subst (λ l. SameNext l (x.front ++ other)) (sym x.is) (same_next x.front rest other h) in
          let whole : SameNext (t ∷ ts) (y.front ++ (x.front ++ other)) = subst (λ l. SameNext l (y.front ++ (x.front ++ other))) (sym y.is) (same_next y.front mid (x.front ++ other) next) in
          subst (λ l. Is (A p ∷ parts) l (Then (Node p d) e) other) (sym (append_assoc y.front x.front other)) (chosen t ts k whole (y.again (x.front ++ other) next) (x.again other h));
      more = after_left p inner parts t ts mid rest x.front d k y x.is x.more;
    }

unfit_again : (q : Part) (ps : List Part) (t : Token) (ts other : List Token) → ((p : Phrase) → q ≡ A p → ⊥) → (Fits q t.kind → ⊥) → SameNext (t ∷ ts) other → Stuck (q ∷ ps) other NoMore other
unfit_again q ps t ts [] n u h = absurd h
unfit_again q ps t ts (v ∷ vs) n u h = unfit n (subst (λ z. Fits q z → ⊥) h u)

none_again : (p : Phrase) (ps : List Part) (t : Token) (ts other : List Token) → parts_of p t.kind ≡ None → SameNext (t ∷ ts) other → Stuck (A p ∷ ps) other NoMore other
none_again p ps t ts [] n h = absurd h
none_again p ps t ts (v ∷ vs) n h = no_phrase p (subst (λ z. parts_of p z ≡ None) h n)

chosen_inside : {p : Phrase} {inner parts : List Part} (t : Token) (ts : List Token) {us rest : List Token} {d : Derivation Row} → parts_of p t.kind ≡ Some inner → SameNext (t ∷ ts) us → Stuck inner us d rest
    → Stuck (A p ∷ parts) us (Then (Node p d) NoMore) rest
chosen_inside t ts {us = []} k h s = absurd h
chosen_inside {p} {inner} t ts {us = u ∷ us} k h s = inside p inner (subst (λ z. parts_of p z ≡ Some inner) h k) s

chosen_after : {p : Phrase} {inner parts : List Part} (t : Token) (ts : List Token) {us mid rest : List Token} {d e : Derivation Row} → parts_of p t.kind ≡ Some inner → SameNext (t ∷ ts) us → Is inner us d mid → Stuck parts mid e rest
    → Stuck (A p ∷ parts) us (Then (Node p d) e) rest
chosen_after t ts {us = []} k h i s = absurd h
chosen_after {p} {inner} t ts {us = u ∷ us} k h i s = after p inner (subst (λ z. parts_of p z ≡ Some inner) h k) i s

halt_of : {parts : List Part} {ts rest : List Token} {d : Derivation Row} → Stuck parts ts d rest → Halt parts ts d rest
halt_of (unfit {part} {parts} {t} {ts} n u) = record { front = []; is = refl; again = λ other h. unfit_again part parts t ts other n u h; more = none_left (part ∷ parts) }
halt_of (behind {t} f s) =
    let x = halt_of s in record { front = t ∷ x.front; is = ap (λ l. t ∷ l) x.is; again = λ other h. behind f (x.again other h); more = token_left t f x.more }
halt_of (no_phrase p {parts} {t} {ts} n) = record { front = []; is = refl; again = λ other h. none_again p parts t ts other n h; more = none_left (A p ∷ parts) }
halt_of {rest} (inside p inner {parts} {t} {ts} {d} k s) =
    let x = halt_of s in
    record {
      front = x.front;
      is = x.is;
      again = λ other h.
          let whole : SameNext (t ∷ ts) (x.front ++ other) = subst (λ l. SameNext l (x.front ++ other)) (sym x.is) (same_next x.front rest other h) in
          chosen_inside t ts k whole (x.again other h);
      more = begun_left p inner parts t ts rest x.front k x.is x.more;
    }
halt_of {rest} (after p inner {parts} {t} {ts} {mid} {d} {e} k i s) =
    let y = front_of i in
    let x = halt_of s in
    record {
      front = y.front ++ x.front;
      is = two_fronts rest y.front x.front y.is x.is;
      again = λ other h.
          let next : SameNext mid (x.front ++ other) = subst (λ l. SameNext l (x.front ++ other)) (sym x.is) (same_next x.front rest other h) in
          let whole : SameNext (t ∷ ts) (y.front ++ (x.front ++ other)) = subst (λ l. SameNext l (y.front ++ (x.front ++ other))) (sym y.is) (same_next y.front mid (x.front ++ other) next) in
          subst (λ l. Stuck (A p ∷ parts) l (Then (Node p d) e) other) (sym (append_assoc y.front x.front other)) (chosen_after t ts k whole (y.again (x.front ++ other) next) (x.again other h));
      more = after_left p inner parts t ts mid rest x.front d k y x.is x.more;
    }

pub unexpected : (ts rest : List Token) (t : Token) (d : Derivation Row) → Stuck (A Program ∷ []) ts d (t ∷ rest) → (front : List Token) × (ts ≡ front ++ t ∷ rest) × Unexpected front t
unexpected ts rest t d s =
    let h = halt_of s in
    let end : Token = a_token kinds.End in
    let filled = fill_all h.more.left end [] (h.more.good kinds.End (refl, tt)) in
    let whole = h.more.resume (fill h.more.left ++ end ∷ []) (end ∷ []) filled.derivation filled.is in (
      h.front,
      h.is,
      record {
        before = (fill h.more.left ++ end ∷ [], record { derivation = whole.0; ended = end; last = refl; is = whole.1 });
        never = λ other p. never (h.again (t ∷ other) refl) p.is;
      },
    )

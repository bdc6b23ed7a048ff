-- Lists of tokens, and the token at a place.
use Rattle.std.proofs.Common.{◌≡◌, ◌<◌, ◌+◌, ◌≢◌, ℕ, ℤ, zero, suc, List, [], ◌∷◌, length, drop, get_or, refl, sym, ap, subst, ◌∙◌, arith, add-one, drop-cons, length-drop}
use Rattle.vx_ast.specs.declared.token.Keyword.{Keyword}
use Rattle.vx_ast.specs.declared.token.Mark.{Mark}
use Rattle.vx_ast.specs.declared.token.TokenKind.{TokenKind}
use Rattle.vx_ast.specs.declared.token.TokenKind.TheVariants as kinds
use Rattle.vx_ast.specs.declared.token.Token.{Token}
use Rattle.vx_ast.specs.declared.syntax.Place.{Place}
use Rattle.vx_ast.specs.declared.syntax.Name.{Name}
use Rattle.vx_ast.specs.Phrases.{Part, The, AName, ANumber, AString, Fits}
use Rattle.vx_ast.specs.Derivations.{place_of, name_of, bytes_of, number_of, words_of, size_of}
use Rattle.vx_parse.specs.declared.token.NameRead.{NameRead}
use Rattle.vx_parse.specs.declared.token.NumberRead.{NumberRead}
use Rattle.vx_parse.specs.declared.token.SizeRead.{SizeRead}
use Rattle.vx_parse.specs.declared.token.TextRead.{TextRead}
use Rattle.vx_ast.specs.declared.syntax.Size.{Size}
use Rattle.vx_parse.specs.Reading.{next_kind, next_place, Ended, Passed, PassedName, PassedNumber, PassedSize, PassedText}

pub record NextToken (ts : List Token) (i : ℕ) : Type 0 where
  pub token : Token
  pub is : drop i ts ≡ token ∷ drop (i + 1) ts

pub next_token : (ts : List Token) (i : ℕ) → i < length ts → NextToken ts i
next_token (u ∷ us) i h = record { token = get_or (u ∷ us) i u; is = rw add-one (drop-cons (u ∷ us) i u h) }
next_token [] i h = absurd (omega arith)

pub ended_drop : (i : ℕ) (ts : List Token) → i < length ts → Ended ts → Ended (drop i ts)
ended_drop zero ts h e = e
ended_drop (suc i) [] h e = e
ended_drop (suc i) (t ∷ []) h e = absurd (omega arith)
ended_drop (suc i) (t ∷ u ∷ us) h e = ended_drop i (u ∷ us) (omega arith) (e.1)

ended_more : (t : Token) (ts : List Token) → Ended (t ∷ ts) → t.kind ≢ kinds.End → 0 < length ts
ended_more t [] e n = absurd (n e)
ended_more t (u ∷ us) e n = omega arith

pub passes : {part : Part} (ts : List Token) (i : ℕ) (k : TokenKind) → Ended ts → i < length ts → next_kind (drop i ts) ≡ k → k ≢ kinds.End → Fits part k → Passed part ts i (i + 1)
passes {part} ts i k e h is n f =
    let t = next_token ts i h in
    let kind : t.token.kind ≡ k = sym (ap next_kind t.is) ∙ is in
    let more : 0 < length (drop (i + 1) ts) = ended_more t.token (drop (i + 1) ts) (subst Ended t.is (ended_drop i ts h e)) (λ q. n (sym kind ∙ q)) in
    record { token = t.token; is = t.is; fits = subst (Fits part) (sym kind) f; further = refl; within = omega (arith, length-drop (i + 1) ts) }

pub passes_mark : (ts : List Token) (i : ℕ) (m : Mark) → Ended ts → i < length ts → next_kind (drop i ts) ≡ kinds.Mark m → Passed (The (kinds.Mark m)) ts i (i + 1)
passes_mark ts i m e h is = passes ts i (kinds.Mark m) e h is (λ q. cc) refl

pub passes_word : (ts : List Token) (i : ℕ) (w : Keyword) → Ended ts → i < length ts → next_kind (drop i ts) ≡ kinds.Keyword w → Passed (The (kinds.Keyword w)) ts i (i + 1)
passes_word ts i w e h is = passes ts i (kinds.Keyword w) e h is (λ q. cc) refl

pub kind_is : (ts : List Token) (i : ℕ) (t : Token) → i < length ts → t ≡ get_or ts i t → t.kind ≡ next_kind (drop i ts)
kind_is ts i t h is = let e = drop-cons ts i t h in let f : next_kind (drop i ts) ≡ (get_or ts i t).kind = ap next_kind e in let g : t.kind ≡ (get_or ts i t).kind = ap (λ (u : Token). u.kind) is in g ∙ sym f

pub same_name : (x y : Name) → x.bytes ≡ y.bytes → x.place ≡ y.place → x ≡ y
same_name x y p q =
    let first : x ≡ record { bytes = y.bytes; place = x.place } = ap (λ (b : List ℕ). let n : Name = record { bytes = b; place = x.place } in n) p in
    let second : record { bytes = y.bytes; place = x.place } ≡ y = ap (λ (b : Place). let n : Name = record { bytes = y.bytes; place = b } in n) q in
    first ∙ second

pub reads_name : (ts : List Token) (i : ℕ) (bytes : List ℕ) (r : NameRead) → Ended ts → i < length ts → next_kind (drop i ts) ≡ kinds.Name bytes → r.name.bytes ≡ bytes
    → r.name.place ≡ next_place (drop i ts) → r.next ≡ i + 1 → PassedName ts i r
reads_name ts i bytes r e h is same place next =
    let p : Passed AName ts i (i + 1) = passes ts i (kinds.Name bytes) e h is (λ q. cc) (bytes, refl) in
    let q : Passed AName ts i r.next = subst (λ n. Passed AName ts i n) (sym next) p in
    let k : next_kind (drop i ts) ≡ q.token.kind = ap next_kind q.is in
    let l : next_place (drop i ts) ≡ place_of q.token = ap next_place q.is in
    let b : bytes_of q.token.kind ≡ bytes = ap bytes_of (sym k ∙ is) in
    record { passed = q; name = same_name r.name (name_of q.token) (same ∙ sym b) (place ∙ l) }

pub reads_number : (ts : List Token) (i : ℕ) (z : ℤ) (r : NumberRead) → Ended ts → i < length ts → next_kind (drop i ts) ≡ kinds.Number z → r.value ≡ z → r.next ≡ i + 1 → PassedNumber ts i r
reads_number ts i z r e h is same next =
    let p : Passed ANumber ts i (i + 1) = passes ts i (kinds.Number z) e h is (λ q. cc) (z, refl) in
    let q : Passed ANumber ts i r.next = subst (λ n. Passed ANumber ts i n) (sym next) p in
    let k : next_kind (drop i ts) ≡ q.token.kind = ap next_kind q.is in
    let b : number_of q.token.kind ≡ z = ap number_of (sym k ∙ is) in
    record { passed = q; value = same ∙ sym b }

pub same_size : (x y : Size) → x.words ≡ y.words → x.place ≡ y.place → x ≡ y
same_size x y p q =
    let first : x ≡ record { words = y.words; place = x.place } = ap (λ (b : ℕ). let n : Size = record { words = b; place = x.place } in n) p in
    let second : record { words = y.words; place = x.place } ≡ y = ap (λ (b : Place). let n : Size = record { words = y.words; place = b } in n) q in
    first ∙ second

pub reads_size : (ts : List Token) (i : ℕ) (number : NumberRead) (r : SizeRead) → PassedNumber ts i number → r.size.words ≡ words_of number.value → r.size.place ≡ next_place (drop i ts) → r.next ≡ number.next → PassedSize ts i r
reads_size ts i number r p words place next =
    let q : Passed ANumber ts i r.next = subst (λ n. Passed ANumber ts i n) (sym next) p.passed in
    let l : next_place (drop i ts) ≡ place_of q.token = ap next_place q.is in
    let k : next_kind (drop i ts) ≡ q.token.kind = ap next_kind q.is in
    let m : next_kind (drop i ts) ≡ p.passed.token.kind = ap next_kind p.passed.is in
    let n : number.value ≡ number_of q.token.kind = p.value ∙ ap number_of (sym m ∙ k) in
    record { passed = q; size = same_size r.size (size_of q.token) (words ∙ ap words_of n) (place ∙ l) }

pub reads_text : (ts : List Token) (i : ℕ) (bytes : List ℕ) (r : TextRead) → Ended ts → i < length ts → next_kind (drop i ts) ≡ kinds.Text bytes → r.bytes ≡ bytes → r.next ≡ i + 1 → PassedText ts i r
reads_text ts i bytes r e h is same next =
    let p : Passed AString ts i (i + 1) = passes ts i (kinds.Text bytes) e h is (λ q. cc) (bytes, refl) in
    let q : Passed AString ts i r.next = subst (λ n. Passed AString ts i n) (sym next) p in
    let k : next_kind (drop i ts) ≡ q.token.kind = ap next_kind q.is in
    let b : bytes_of q.token.kind ≡ bytes = ap bytes_of (sym k ∙ is) in
    record { passed = q; bytes = same ∙ sym b }

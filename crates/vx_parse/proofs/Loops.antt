-- Phrases that are rows, item by item.
use Rattle.std.proofs.Common.{◌≡◌, ◌<◌, ℕ, List, [], ◌∷◌, ◌++◌, length, sym, ap, ◌∙◌, subst, arith, append_assoc, append-nil}
use Rattle.vx_ast.specs.declared.token.Token.{Token}
use Rattle.vx_ast.specs.Tree.{One}
use Rattle.vx_ast.specs.Phrases.{Phrase, A, Derivation, NoMore, Then}
use Rattle.vx_parse.specs.Reading.{Parted, IsPhrase, Continues}

pub continues_here : {T : Type 0} (p : Phrase) (ts : List Token) (i k : ℕ) (Means : List T → Derivation One → Type 0) → i < length ts → Continues p ts i k Means i []
continues_here p ts i k Means h = record {
  whole = λ end d more a m. record { derivation = d; parted = a; means = m; further = a.further };
  stops = λ s w. w;
  further = omega arith;
  within = h;
}

-- with one more that is read
pub continues_more : {T : Type 0} {p : Phrase} {ts : List Token} {i k : ℕ} {Means : List T → Derivation One → Type 0} {j m : ℕ} {xs ys : List T} → Continues p ts i k Means j xs → Continues p ts j k Means m ys
    → Continues p ts i k Means m (xs ++ ys)
continues_more {p} {ts} {i} {k} {Means} {xs} {ys} a b =
    let f = a.further in let g = b.further in
    record {
      whole = λ end d more c n.
          let w = b.whole end d more c n in
          let v = a.whole end w.derivation (ys ++ more) w.parted w.means in
          record { derivation = v.derivation; parted = v.parted; means = subst (λ l. Means l v.derivation) (sym (append_assoc xs ys more)) v.means; further = v.further };
      stops = λ s w. a.stops s (b.stops s w);
      further = omega arith;
      within = b.within;
    }

pub continues_to : {T : Type 0} {p : Phrase} {ts : List Token} {i k : ℕ} {Means : List T → Derivation One → Type 0} {j m : ℕ} {xs : List T} → Continues p ts i k Means j xs → j ≡ m → Continues p ts i k Means m xs
continues_to {p} {ts} {i} {k} {Means} {xs} a e = subst (λ n. Continues p ts i k Means n xs) e a

-- and the end
pub continues_end : {T : Type 0} {p : Phrase} {ts : List Token} {i k : ℕ} {Means : List T → Derivation One → Type 0} {j m : ℕ} {xs : List T} → Continues p ts i k Means j xs → (d : Derivation One) → Parted (A p ∷ []) ts j m k (Then d NoMore) → Means [] d
    → IsPhrase p ts i i m k (Means xs)
continues_end {Means} {m} {xs} a d c n =
    let v = a.whole m d [] c n in
    record { derivation = v.derivation; parted = v.parted; means = subst (λ l. Means l v.derivation) (append-nil xs) v.means; further = v.further }

-- what a loop has gathered behind what was there before
pub record Gathers {T : Type 0} (p : Phrase) (tokens : List Token) (place depth : ℕ) (Means : List T → Derivation One → Type 0) (before : List T) (next : ℕ) (all : List T) : Type 0 where
  pub more : List T
  pub joined : all ≡ before ++ more
  pub continues : Continues p tokens place depth Means next more

pub gathers_none : {T : Type 0} (p : Phrase) (ts : List Token) (i k : ℕ) (Means : List T → Derivation One → Type 0) (before : List T) → i < length ts → Gathers p ts i k Means before i before
gathers_none p ts i k Means before h = record { more = []; joined = sym (append-nil before); continues = continues_here p ts i k Means h }

pub gathers_next : {T : Type 0} {p : Phrase} {ts : List Token} {i k : ℕ} {Means : List T → Derivation One → Type 0} {before : List T} {j m : ℕ} {all new : List T} (x : T) → Gathers p ts i k Means before j all → Continues p ts j k Means m (x ∷ [])
    → new ≡ all ++ (x ∷ []) → Gathers p ts i k Means before m new
gathers_next {before} x g c e =
    record { more = g.more ++ (x ∷ []); joined = e ∙ ap (λ l. l ++ (x ∷ [])) g.joined ∙ append_assoc before g.more (x ∷ []); continues = continues_more g.continues c }

pub gathers_rows : {T : Type 0} {p : Phrase} {ts : List Token} {i k : ℕ} {Means : List T → Derivation One → Type 0} {before : List T} {j m : ℕ} {all new ys : List T} → Gathers p ts i k Means before j all → Continues p ts j k Means m ys → new ≡ all ++ ys
    → Gathers p ts i k Means before m new
gathers_rows {before} {ys} g c e = record { more = g.more ++ ys; joined = e ∙ ap (λ l. l ++ ys) g.joined ∙ append_assoc before g.more ys; continues = continues_more g.continues c }

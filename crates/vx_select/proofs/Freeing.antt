-- Values that may be taken, and those that are chosen.
use Rattle.std.proofs.Common.{◌≡◌, ℕ, zero, suc, ◌<◌, ◌&&◌, ◌||◌, Bool, true, false, cond, List, [], ◌∷◌, length, refl, ap, ◌∙◌, arith}
use Rattle.std.specs.Prelude.{not}
use Rattle.std.specs.List.{filter, list_any}
use Rattle.std.proofs.lemmas.Bool.{false≢true}
use Rattle.vx_flow.specs.declared.graph.Bank.{Bank}
use Rattle.vx_flow.specs.declared.graph.Op.{Op}
use Rattle.vx_flow.specs.declared.graph.Graph.{Graph}
use Rattle.vx_flow.specs.Rows.{is_marked}
use Rattle.vx_flow.specs.Sound.{is_general}
use Rattle.vx_select.specs.declared.corners.Corners.{Corners}
use Rattle.vx_select.specs.Selected.{has, named, written, those_from, is_address, is_free}
use Rattle.vx_select.specs.Values.{names_it, are_writing, either_writing}
use Rattle.vx_select.specs.Known.{AreAddresses, ops_at, whole}
use Rattle.vx_select.proofs.Found.{naming_is, writing_is}

below : (banks : List Bank) (v : ℕ) → is_general banks v ≡ true → v < length banks
below [] v e = absurd (false≢true e)
below (x ∷ xs) zero e = omega arith
below (x ∷ xs) (suc v) e = let h = below xs v e in omega arith

-- the test goes by marks and by operations one after the other
module _ (live : ℕ → ℕ → Bool) (g : Graph) (c : Corners) (marks : List Bool) (v : ℕ) (addresses : AreAddresses g marks) where
  abbrev general : Bool
  general = is_general g.banks v

  abbrev lives_nowhere : Bool
  lives_nowhere = not (live c.yes v) && not (live c.no v) && not (live c.join v)

  abbrev unnamed : Bool
  unnamed = not (list_any (names_it v) (ops_at g c.yes)) && not (list_any (names_it v) (ops_at g c.no))

  turned : (m l x y z p q : Bool) → ((m && l) && (x && y && z && (p && q))) ≡ (m && x && y && z && p && q && l)
  turned false l x y z p q = refl
  turned true l false y z p q = and_none l
    where
      and_none : (l : Bool) → (l && false) ≡ false
      and_none true = refl
      and_none false = refl
  turned true l true false z p q = and_none l
    where
      and_none : (l : Bool) → (l && false) ≡ false
      and_none true = refl
      and_none false = refl
  turned true l true true false p q = and_none l
    where
      and_none : (l : Bool) → (l && false) ≡ false
      and_none true = refl
      and_none false = refl
  turned true l true true true false q = and_none l
    where
      and_none : (l : Bool) → (l && false) ≡ false
      and_none true = refl
      and_none false = refl
  turned true true true true true true q = by q
    where
      by : (q : Bool) → q ≡ (q && true)
      by true = refl
      by false = refl
  turned true false true true true true q = by q
    where
      by : (q : Bool) → false ≡ (q && false)
      by true = refl
      by false = refl

  pub free_by : (open_value unused : Bool) → open_value ≡ (general && not (is_marked marks v)) → unused ≡ (lives_nowhere && unnamed) → (open_value && unused) ≡ is_free live g (whole g c) v
  free_by o u e f =
      ap (λ b. b && u) e ∙ ap (λ b. (general && not (is_marked marks v)) && b) f
      ∙ turned general (not (is_marked marks v)) (not (live c.yes v)) (not (live c.no v)) (not (live c.join v)) (not (list_any (names_it v) (ops_at g c.yes))) (not (list_any (names_it v) (ops_at g c.no)))
      ∙ ap (λ b. general && not (live c.yes v) && not (live c.no v) && not (live c.join v) && not b && not (list_any (names_it v) (ops_at g c.no)) && not (is_marked marks v)) (naming_is (ops_at g c.yes) v)
      ∙ ap (λ b. general && not (live c.yes v) && not (live c.no v) && not (live c.join v) && not (has (named (ops_at g c.yes)) v) && not b && not (is_marked marks v)) (naming_is (ops_at g c.no) v)
      ∙ at general refl
    where
      at : (b : Bool) → is_general g.banks v ≡ b →
          (b && not (live c.yes v) && not (live c.no v) && not (live c.join v) && not (has (named (ops_at g c.yes)) v) && not (has (named (ops_at g c.no)) v) && not (is_marked marks v))
          ≡ (b && not (live c.yes v) && not (live c.no v) && not (live c.join v) && not (has (named (ops_at g c.yes)) v) && not (has (named (ops_at g c.no)) v) && not (is_address g v))
      at false e = refl
      at true e = ap (λ m. true && not (live c.yes v) && not (live c.no v) && not (live c.join v) && not (has (named (ops_at g c.yes)) v) && not (has (named (ops_at g c.no)) v) && not m) (addresses v (below g.banks v e))

-- ---- lists of those that pass

pub same_those : (p q : ℕ → Bool) → ((v : ℕ) → p v ≡ q v) → (k n : ℕ) → those_from p k n ≡ those_from q k n
same_those p q f k zero = refl
same_those p q f k (suc n) = ap (λ b. cond b (k ∷ those_from p (suc k) n) (those_from p (suc k) n)) (f k) ∙ ap (λ l. cond (q k) (k ∷ l) l) (same_those p q f (suc k) n)

pub filter_those : (p q : ℕ → Bool) (k n : ℕ) → filter q (those_from p k n) ≡ those_from (λ v. p v && q v) k n
filter_those p q k zero = refl
filter_those p q k (suc n) = by (p k) (filter_those p q (suc k) n)
  where
    at : (a : Bool) → filter q (those_from p (suc k) n) ≡ those_from (λ v. p v && q v) (suc k) n →
        cond a (k ∷ filter q (those_from p (suc k) n)) (filter q (those_from p (suc k) n)) ≡ cond a (k ∷ those_from (λ v. p v && q v) (suc k) n) (those_from (λ v. p v && q v) (suc k) n)
    at true r = ap (λ l. k ∷ l) r
    at false r = r

    by : (b : Bool) → filter q (those_from p (suc k) n) ≡ those_from (λ v. p v && q v) (suc k) n →
        filter q (cond b (k ∷ those_from p (suc k) n) (those_from p (suc k) n)) ≡ cond (b && q k) (k ∷ those_from (λ v. p v && q v) (suc k) n) (those_from (λ v. p v && q v) (suc k) n)
    by true r = at (q k) r
    by false r = r

or_false : (b : Bool) → (b || false) ≡ b
or_false true = refl
or_false false = refl

pub written_is : (ops : List Op) (count : ℕ) → those_from (either_writing ops []) 0 count ≡ those_from (has (written ops)) 0 count
written_is ops count = same_those (either_writing ops []) (has (written ops)) (λ v. or_false (are_writing ops v) ∙ writing_is ops v) 0 count

pub chosen_is : (live : ℕ → Bool) (left right : List Op) (count : ℕ) → filter live (those_from (either_writing left right) 0 count) ≡ those_from (λ v. (has (written left) v || has (written right) v) && live v) 0 count
chosen_is live left right count =
    filter_those (either_writing left right) live 0 count
    ∙ same_those (λ v. either_writing left right v && live v) (λ v. (has (written left) v || has (written right) v) && live v)
    (λ v. ap (λ b. (b || are_writing right v) && live v) (writing_is left v) ∙ ap (λ b. (has (written left) v || b) && live v) (writing_is right v)) 0 count

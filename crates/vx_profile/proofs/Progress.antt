-- How far a text of lines is read.
use Rattle.std.proofs.Common.{◌≡◌, ◌≢◌, ℕ, ◌+◌, ◌^◌, ◌<◌, ◌⊎◌, inl, inr, Bool, true, false, cond, ◌==◌, List, [], ◌∷◌, ◌++◌, length, Option, Some, None, Result, refl, sym, ap, subst, ◌∙◌, arith, append_assoc, append-nil, length-append}
use Rattle.std.specs.Prelude.{IfOk, IfErr}
use Rattle.std.specs.List.{AllByRecursion, flat_map}
use Rattle.std.proofs.lemmas.List.Concat.{flat_map-append}
use Rattle.std.proofs.lemmas.Bool.Decides.{nat_tests}
use Rattle.vx_flow.specs.Meaning.{Visit, AtBlock, AlongEdge}
use Rattle.vx_profile.specs.declared.counts.Counts.{Counts}
use Rattle.vx_profile.specs.declared.fault.ProfileFault.{ProfileFault}
use Rattle.vx_profile.specs.declared.fault.ProfileFault.TheVariants.{BadLine, CountTooLarge, NoMemory}
use Rattle.vx_profile.specs.Counts.{is_block, is_edge, CountsReplaced, CountsOf}
use Rattle.vx_profile.specs.Reading.{behind, row_at}
use Rattle.vx_profile.specs.Text.{header, Row, row_text, Fits, TooLarge, last_count, GivenBy, Spells, Begins, Reaches, FaultAt}
use Rattle.vx_profile.proofs.Numbers.{never, below_is, below_none_is}
use Rattle.vx_profile.proofs.Rows.{row_is, fits_again, large_again}

-- the rows so far, and their counts; line is the number of the line that rest begins with
pub record ReadSoFar (text rest : List ℕ) (line : ℕ) (counts : Counts) : Type 0 where
  rows : List Row
  fit : AllByRecursion Fits rows
  whole : text ≡ flat_map row_text rows ++ rest
  given : GivenBy counts rows
  number : line ≡ length rows + 2

pub nothing_so_far : (text : List ℕ) (counts : Counts) → CountsOf counts [] → ReadSoFar text text 2 counts
nothing_so_far text counts none = record {
  rows = [];
  fit = tt;
  whole = refl;
  given = record { blocks = none.blocks; edges = none.edges };
  number = refl;
}

all_and : (rows : List Row) (row : Row) → AllByRecursion Fits rows → Fits row → AllByRecursion Fits (rows ++ row ∷ [])
all_and [] row fit fits = (fits, tt)
all_and (r ∷ rows) row fit fits = (fit.0, all_and rows row fit.1 fits)

last_and : (test : Visit → Bool) (n : ℕ) (rows : List Row) (row : Row) → last_count test n (rows ++ row ∷ []) ≡ cond (test row.visit) row.count (last_count test n rows)
last_and test n [] row = refl
last_and test n (r ∷ rows) row = last_and test (cond (test r.visit) r.count n) rows row

given_and : (a b : Counts) (rows : List Row) (row : Row) → GivenBy a rows → CountsReplaced a b row.visit row.count → GivenBy b (rows ++ row ∷ [])
given_and a b rows row given new = record {
  blocks = λ f c. new.blocks f c ∙ ap (λ n. cond (is_block f c row.visit) row.count n) (given.blocks f c) ∙ sym (last_and (is_block f c) 0 rows row);
  edges = λ f c d. new.edges f c d ∙ ap (λ n. cond (is_edge f c d row.visit) row.count n) (given.edges f c d) ∙ sym (last_and (is_edge f c d) 0 rows row);
}

length_and : (rows : List Row) (row : Row) → length (rows ++ row ∷ []) ≡ length rows + 1
length_and [] row = refl
length_and (r ∷ rows) row = let h = length_and rows row in omega (arith, h)

some_text : (row : Row) → 0 < length (row_text row)
some_text row = by row.visit row.count
  where
    by : (v : Visit) (n : ℕ) → 0 < length (row_text (record { visit = v; count = n }))
    by (AtBlock f b) n = omega arith
    by (AlongEdge f b c) n = omega arith

shorter_by : (row : Row) (rest after : List ℕ) → rest ≡ row_text row ++ after → length after < length rest
shorter_by row rest after is =
    let some = some_text row in
    let whole : length rest ≡ length (row_text row) + length after = ap length is ∙ length-append (row_text row) after in
    omega (arith, some, whole)

-- one line more
pub record OneMore (text after : List ℕ) (line : ℕ) (counts : Counts) (rest : List ℕ) : Type 0 where
  pub so_far : ReadSoFar text after line counts
  pub shorter : length after < length rest

pub one_more : (text rest after : List ℕ) (line : ℕ) (a b : Counts) (v : Visit) (n : ℕ) → ReadSoFar text rest line a → row_at rest ≡ Some (v, Some n, after) → CountsReplaced a b v n
    → OneMore text after (line + 1) b rest
one_more text rest after line a b v n s e new =
    let r = row_is rest (v, Some n, after) e in
    let small = below_is (2 ^ 64) r.1 n r.2 in
    let row : Row = record { visit = v; count = n } in
    let is : rest ≡ row_text row ++ after = r.3 ∙ ap (λ k. row_text (record { visit = v; count = k }) ++ after) small.1 in
    let number = length_and s.rows row in
    record {
      so_far = record {
        rows = s.rows ++ row ∷ [];
        fit = all_and s.rows row s.fit (r.0, subst (λ k. k < 2 ^ 64) small.1 small.0);
        whole = s.whole ∙ ap (λ t. flat_map row_text s.rows ++ t) is ∙ sym (append_assoc (flat_map row_text s.rows) (row_text row) after)
            ∙ ap (λ t. (flat_map row_text s.rows ++ t) ++ after) (sym (append-nil (row_text row)))
            ∙ ap (λ t. t ++ after) (sym (flat_map-append row_text s.rows (row ∷ [])));
        given = given_and a b s.rows row s.given new;
        number = omega (arith, number, s.number);
      };
      shorter = shorter_by row rest after is;
    }

-- the end, and what is bad

pub spelled_at_end : (text rest : List ℕ) (line : ℕ) (counts : Counts) → ReadSoFar text rest line counts → rest ≡ [] → Spells (header ++ text) counts
spelled_at_end text rest line counts s end = record {
  rows = s.rows;
  fit = s.fit;
  text = ap (λ t. header ++ t) (s.whole ∙ ap (λ t. flat_map row_text s.rows ++ t) end ∙ append-nil (flat_map row_text s.rows));
  given = s.given;
}

reaches_here : (text rest : List ℕ) (line : ℕ) (counts : Counts) → ReadSoFar text rest line counts → rest ≢ [] → Reaches (header ++ text) line rest
reaches_here text rest line counts s some = record {
  before = s.rows;
  fit = s.fit;
  text = ap (λ t. header ++ t) s.whole;
  some = some;
  number = s.number;
}

no_row : (rest : List ℕ) → row_at rest ≡ None → (row : Row) → Fits row ⊎ TooLarge row → Begins (row_text row) rest → ⊥
no_row rest none row (inl fits) begins = never (row_at rest) (row.visit, Some row.count, begins.0) none (ap row_at begins.1 ∙ fits_again row begins.0 fits)
no_row rest none row (inr large) begins = never (row_at rest) (row.visit, None, begins.0) none (ap row_at begins.1 ∙ large_again row begins.0 large)

pub bad_row : (bytes rest : List ℕ) (line : ℕ) → Reaches bytes line rest → row_at rest ≡ None → FaultAt bytes (BadLine line)
bad_row bytes rest line reaches none = inr (rest, reaches, no_row rest none)

pub bad_here : (text rest : List ℕ) (line : ℕ) (counts : Counts) → ReadSoFar text rest line counts → rest ≢ [] → row_at rest ≡ None → FaultAt (header ++ text) (BadLine line)
bad_here text rest line counts s some none = bad_row (header ++ text) rest line (reaches_here text rest line counts s some) none

pub large_row : (bytes rest after : List ℕ) (line : ℕ) (v : Visit) → Reaches bytes line rest → row_at rest ≡ Some (v, None, after) → FaultAt bytes (CountTooLarge line)
large_row bytes rest after line v reaches e =
    let r = row_is rest (v, None, after) e in
    (rest, reaches, record { visit = v; count = r.1 }, (r.0, below_none_is (2 ^ 64) r.1 r.2), (after, r.3))

pub large_here : (text rest after : List ℕ) (line : ℕ) (counts : Counts) (v : Visit) → ReadSoFar text rest line counts → rest ≢ [] → row_at rest ≡ Some (v, None, after) → FaultAt (header ++ text) (CountTooLarge line)
large_here text rest after line counts v s some e = large_row (header ++ text) rest after line v (reaches_here text rest line counts s some) e

behind_header : (more : List ℕ) → behind header (header ++ more) ≡ Some more
unfolding behind
behind_header more = refl

pub bad_header : (bytes : List ℕ) → behind header bytes ≡ None → FaultAt bytes (BadLine 1)
bad_header bytes none = inl (refl, λ begins. never (behind header bytes) begins.0 none (ap (behind header) begins.1 ∙ behind_header begins.0))

-- what is left

pub some_left : (rest : List ℕ) (none : Bool) → none ≡ (length rest == 0) → none ≡ false → rest ≢ []
some_left [] none e is = λ _. absurd (let no : true ≡ false = sym e ∙ is in cc)
some_left (c ∷ cs) none e is = λ no. absurd cc

pub none_left : (rest : List ℕ) (none : Bool) → none ≡ (length rest == 0) → none ≡ true → rest ≡ []
none_left [] none e is = refl
none_left (c ∷ cs) none e is = absurd (let some : (length (c ∷ cs) == 0) ≡ true = sym e ∙ is in grind (arith, nat_tests))

pub with_count : (text after : List ℕ) (v : Visit) (n m : Option ℕ) → row_at text ≡ Some (v, n, after) → n ≡ m → row_at text ≡ Some (v, m, after)
with_count text after v n m e is = e ∙ ap (λ k. Some (v, k, after)) is

-- what is said of the text behind the first line

pub ok_at : (bytes rows : List ℕ) (r : Result Counts ProfileFault) → bytes ≡ header ++ rows → IfOk r (λ counts. Spells (header ++ rows) counts) → IfOk r (λ counts. Spells bytes counts)
ok_at bytes rows r e h = subst (λ b. IfOk r (λ counts. Spells b counts)) (sym e) h

pub err_at : (bytes rows : List ℕ) (r : Result Counts ProfileFault) → bytes ≡ header ++ rows → IfErr r (λ fault. fault ≢ NoMemory → FaultAt (header ++ rows) fault) → IfErr r (λ fault. fault ≢ NoMemory → FaultAt bytes fault)
err_at bytes rows r e h = subst (λ b. IfErr r (λ fault. fault ≢ NoMemory → FaultAt b fault)) (sym e) h

-- A text is read in one way: its counts, or its first bad line.
use Rattle.std.proofs.Common.{◌≡◌, ℕ, ◌+◌, ◌^◌, ◌⊎◌, inl, inr, List, [], ◌++◌, length, drop, Option, Some, None, refl, sym, ap, ◌∙◌, append-nil}
use Rattle.std.specs.List.{AllByRecursion, flat_map}
use Rattle.vx_flow.specs.Meaning.{Visit}
use Rattle.vx_profile.specs.declared.counts.Counts.{Counts}
use Rattle.vx_profile.specs.declared.fault.ProfileFault.TheVariants.{BadLine, CountTooLarge, NoMemory}
use Rattle.vx_profile.specs.Counts.{is_block, is_edge}
use Rattle.vx_profile.specs.Reading.{row_at}
use Rattle.vx_profile.specs.Text.{header, Row, row_text, Fits, TooLarge, last_count, Spells, Begins, Reaches, FaultAt, SpelledInOneWay, SpelledIsFaultless, OneFault}
use Rattle.vx_profile.proofs.Numbers.{never, below_is}
use Rattle.vx_profile.proofs.Rows.{row_is, large_again, Stops, stops_at_end, cut_once}

same_rest : (x y : List ℕ) → header ++ x ≡ header ++ y → x ≡ y
same_rest x y e = ap (drop 10) e

-- the rows of a text

same_rows : (bytes : List ℕ) (rows others : List Row) (x y : List ℕ) → AllByRecursion Fits rows → AllByRecursion Fits others → Stops x → Stops y
    → bytes ≡ header ++ (flat_map row_text rows ++ x) → bytes ≡ header ++ (flat_map row_text others ++ y) → (rows ≡ others) × (x ≡ y)
same_rows bytes rows others x y f g s t d e =
    cut_once rows others x y f g s t (same_rest (flat_map row_text rows ++ x) (flat_map row_text others ++ y) (sym d ∙ e))

whole : (bytes : List ℕ) (counts : Counts) (s : Spells bytes counts) → bytes ≡ header ++ (flat_map row_text s.rows ++ [])
whole bytes counts s = s.text ∙ ap (λ t. header ++ t) (sym (append-nil (flat_map row_text s.rows)))

pub spelled_once : SpelledInOneWay
spelled_once bytes a b s t =
    let rows = (same_rows bytes s.rows t.rows [] [] s.fit t.fit stops_at_end stops_at_end (whole bytes a s) (whole bytes b t)).0 in
    record {
      blocks = λ f c. s.given.blocks f c ∙ ap (last_count (is_block f c) 0) rows ∙ sym (t.given.blocks f c);
      edges = λ f c d. s.given.edges f c d ∙ ap (last_count (is_edge f c d) 0) rows ∙ sym (t.given.edges f c d);
    }

-- faults

abbrev NoneBegins : List ℕ → Type 0
NoneBegins rest = (row : Row) → Fits row ⊎ TooLarge row → Begins (row_text row) rest → ⊥

abbrev SomeBegins : List ℕ → Type 0
SomeBegins rest = (row : Row) × TooLarge row × Begins (row_text row) rest

bad_stops : (rest : List ℕ) → NoneBegins rest → Stops rest
bad_stops rest none = λ v n more e.
    let r = row_is rest (v, Some n, more) e in
    let small = below_is (2 ^ 64) r.1 n r.2 in
    none (record { visit = v; count = r.1 }) (inl (r.0, small.0)) (more, r.3)

abbrev count_of : Option (Visit × Option ℕ × List ℕ) → Option ℕ
count_of None = None
count_of (Some x) = x.1

large_stops : (rest : List ℕ) → SomeBegins rest → Stops rest
large_stops rest some = λ v n more e.
    let read : row_at rest ≡ Some (some.0.visit, None, some.2.0) = ap row_at some.2.1 ∙ large_again some.0 some.2.0 some.1 in
    never {X = ℕ} None n refl (ap count_of (sym read ∙ e))

same_place : (bytes : List ℕ) (m n : ℕ) (x y : List ℕ) → Reaches bytes m x → Reaches bytes n y → Stops x → Stops y → (m ≡ n) × (x ≡ y)
same_place bytes m n x y r q s t =
    let both = same_rows bytes r.before q.before x y r.fit q.fit s t r.text q.text in
    (r.number ∙ ap (λ rows. length rows + 2) both.0 ∙ sym q.number, both.1)

no_place : (bytes : List ℕ) (line : ℕ) (rest : List ℕ) → Reaches bytes line rest → (Begins header bytes → ⊥) → ⊥
no_place bytes line rest r apart = apart (flat_map row_text r.before ++ rest, r.text)

no_end : (bytes : List ℕ) (counts : Counts) (line : ℕ) (rest : List ℕ) → Spells bytes counts → Reaches bytes line rest → Stops rest → ⊥
no_end bytes counts line rest s r stops =
    r.some (sym (same_rows bytes s.rows r.before [] rest s.fit r.fit stops_at_end stops (whole bytes counts s) r.text).1)

pub spelled_without_fault : SpelledIsFaultless
spelled_without_fault bytes counts (BadLine line) s (inl f) = f.1 (flat_map row_text s.rows, s.text)
spelled_without_fault bytes counts (BadLine line) s (inr f) = no_end bytes counts line f.0 s f.1 (bad_stops f.0 f.2)
spelled_without_fault bytes counts (CountTooLarge line) s f = no_end bytes counts line f.0 s f.1 (large_stops f.0 (f.2, f.3, f.4))
spelled_without_fault bytes counts NoMemory s f = f

not_both : (rest other : List ℕ) → rest ≡ other → NoneBegins rest → SomeBegins other → ⊥
not_both rest other same none some = none some.0 (inr some.1) (some.2.0, same ∙ some.2.1)

bad_and_large : (bytes : List ℕ) (m n : ℕ) → FaultAt bytes (BadLine m) → FaultAt bytes (CountTooLarge n) → ⊥
bad_and_large bytes m n (inl f) g = no_place bytes n g.0 g.1 f.1
bad_and_large bytes m n (inr f) g =
    let some : SomeBegins g.0 = (g.2, g.3, g.4) in
    not_both f.0 g.0 (same_place bytes m n f.0 g.0 f.1 g.1 (bad_stops f.0 f.2) (large_stops g.0 some)).1 f.2 some

pub fault_once : OneFault
fault_once bytes (BadLine m) (BadLine n) (inl f) (inl g) = ap BadLine (f.0 ∙ sym g.0)
fault_once bytes (BadLine m) (BadLine n) (inl f) (inr g) = absurd (no_place bytes n g.0 g.1 f.1)
fault_once bytes (BadLine m) (BadLine n) (inr f) (inl g) = absurd (no_place bytes m f.0 f.1 g.1)
fault_once bytes (BadLine m) (BadLine n) (inr f) (inr g) = ap BadLine (same_place bytes m n f.0 g.0 f.1 g.1 (bad_stops f.0 f.2) (bad_stops g.0 g.2)).0
fault_once bytes (BadLine m) (CountTooLarge n) f g = absurd (bad_and_large bytes m n f g)
fault_once bytes (CountTooLarge m) (BadLine n) f g = absurd (bad_and_large bytes n m g f)
fault_once bytes (CountTooLarge m) (CountTooLarge n) f g =
    ap CountTooLarge (same_place bytes m n f.0 g.0 f.1 g.1 (large_stops f.0 (f.2, f.3, f.4)) (large_stops g.0 (g.2, g.3, g.4))).0
fault_once bytes NoMemory b f g = absurd f
fault_once bytes a NoMemory f g = absurd g

-- Marks cover what the facts of a list tell, and what is not marked need not be looked for.
use Rattle.std.proofs.Common.{◌≡◌, ◌⊎◌, inl, inr, ℕ, zero, suc, ◌%◌, Bool, true, false, ◌&&◌, ◌||◌, ◌==◌, List, [], ◌∷◌, None, take, slice_index_or, slice_set, refl, sym, ap, ◌∙◌, eqb-true, pos}
use Rattle.vx_base.specs.Arithmetic.{difference_of}
use Rattle.std.specs.List.{list_any}
use Rattle.std.proofs.lemmas.Bool.{false≢true}
use Rattle.vx_base.specs.declared.arithmetic.Code.{Code}
use Rattle.vx_base.specs.declared.arithmetic.Code.TheVariants.{Add, Sub, And, Or, Xor, Shl, Shr, Shru, Sh2add, Max, Min, Mov, ToGeneral, ToBranch, Mpylu, Mpyhs, Div, Rem}
use Rattle.vx_flow.specs.declared.graph.Operand.{Operand}
use Rattle.vx_flow.specs.declared.graph.Operand.TheVariants.{Held, Number, Stack}
use Rattle.vx_flow.specs.Sound.{is_value}
use Rattle.vx_claims.specs.declared.fact.Fact.{Fact}
use Rattle.vx_claims.specs.declared.fact.Fact.TheVariants.{Between, Congruent, Equals, Never}
use Rattle.vx_claims.specs.declared.residues.Residue.{Residue}
use Rattle.vx_claims.specs.Residues.{unknown}
use Rattle.vx_claims.specs.declared.intervals.Interval.{Interval}
use Rattle.vx_claims.specs.Facts.{full, range, residue, range_of, residue_of, residue_within, rounded, meet_if, finer_if, names, kept_if, without, same_code, same_operand, found, found_if}
use Rattle.vx_claims.specs.Sums.{sum_at, sum_if, first_sum, held_as_sum}
use Rattle.vx_claims.specs.Forming.{moves, newest, operand_if, source_of}
use Rattle.vx_claims.specs.Marking.{Covers, IsPart, IsUnlinked, IsUnread, Marked, all_marked, is_link, is_marked, link_marked, links, most_marks, name_marked, operand_marked, read_marked, reads, value_marked, value_marked_if}

-- ---- tests

either_holds : (s t : Bool) → (s || t) ≡ true → (s ≡ true) ⊎ (t ≡ true)
either_holds true t h = inl refl
either_holds false t h = inr h

second_holds : (s t : Bool) → t ≡ true → (s || t) ≡ true
second_holds true t h = refl
second_holds false t h = h

more_holds : (s t u : Bool) → (t ≡ true → u ≡ true) → (s || t) ≡ true → (s || u) ≡ true
more_holds true t u k h = refl
more_holds false t u k h = k h

pub first_fails : (s t : Bool) → (s || t) ≡ false → s ≡ false
first_fails true t h = h
first_fails false t h = refl

pub second_fails : (s t : Bool) → (s || t) ≡ false → t ≡ false
second_fails true t h = absurd (false≢true (sym h))
second_fails false t h = h

-- ---- tables

put_there : (ms : List Bool) (k : ℕ) → slice_index_or (slice_set ms k true) k true ≡ true
put_there [] k = refl
put_there (m ∷ ms) zero = refl
put_there (m ∷ ms) (suc k) = put_there ms k

put_kept : (ms : List Bool) (k j : ℕ) → slice_index_or ms j true ≡ true → slice_index_or (slice_set ms k true) j true ≡ true
put_kept [] k j h = refl
put_kept (m ∷ ms) zero zero h = refl
put_kept (m ∷ ms) zero (suc j) h = h
put_kept (m ∷ ms) (suc k) zero h = h
put_kept (m ∷ ms) (suc k) (suc j) h = put_kept ms k j h

value_keeps : (u : ℕ) (ms : List Bool) (v : ℕ) → is_marked ms v ≡ true → is_marked (value_marked u ms) v ≡ true
value_keeps u ms v h = put_kept ms (u % most_marks) (v % most_marks) h

value_marks : (u : ℕ) (ms : List Bool) (v : ℕ) → (u == v) ≡ true → is_marked (value_marked u ms) v ≡ true
value_marks u ms v e =
    let q : u ≡ v = eqb-true u v e in
    ap (λ (w : ℕ). is_marked (value_marked w ms) v) q ∙ put_there ms (v % most_marks)

operand_keeps : (x : Operand) (ms : List Bool) (v : ℕ) → is_marked ms v ≡ true → is_marked (operand_marked x ms) v ≡ true
operand_keeps (Held u) ms v h = value_keeps u ms v h
operand_keeps (Number n) ms v h = h
operand_keeps Stack ms v h = h

operand_marks : (x : Operand) (ms : List Bool) (v : ℕ) → is_value v x ≡ true → is_marked (operand_marked x ms) v ≡ true
operand_marks (Held u) ms v h = value_marks u ms v h
operand_marks (Number n) ms v h = absurd (false≢true h)
operand_marks Stack ms v h = absurd (false≢true h)

-- what marks a fact keeps the marks that there are, and marks each value of which the fact tells so
record Notes (tells : ℕ → Fact → Bool) (mark : Fact → List Bool → List Bool) : Type 0 where
  keeps : (f : Fact) (ms : List Bool) (v : ℕ) → is_marked ms v ≡ true → is_marked (mark f ms) v ≡ true
  notes : (f : Fact) (ms : List Bool) (v : ℕ) → tells v f ≡ true → is_marked (mark f ms) v ≡ true

read_keeps : (f : Fact) (ms : List Bool) (v : ℕ) → is_marked ms v ≡ true → is_marked (read_marked f ms) v ≡ true
read_keeps (Between u i) ms v h = h
read_keeps (Congruent u c) ms v h = h
read_keeps (Equals u code a b) ms v h = operand_keeps b (operand_marked a ms) v (operand_keeps a ms v h)
read_keeps Never ms v h = h

read_notes : (f : Fact) (ms : List Bool) (v : ℕ) → reads v f ≡ true → is_marked (read_marked f ms) v ≡ true
read_notes (Between u i) ms v h = absurd (false≢true h)
read_notes (Congruent u c) ms v h = absurd (false≢true h)
read_notes Never ms v h = absurd (false≢true h)
read_notes (Equals u code a b) ms v h = by (either_holds (is_value v a) (is_value v b) h)
  where
    by : (is_value v a ≡ true) ⊎ (is_value v b ≡ true) → is_marked (operand_marked b (operand_marked a ms)) v ≡ true
    by (inl e) = operand_keeps b (operand_marked a ms) v (operand_marks a ms v e)
    by (inr e) = operand_marks b (operand_marked a ms) v e

name_keeps : (f : Fact) (ms : List Bool) (v : ℕ) → is_marked ms v ≡ true → is_marked (name_marked f ms) v ≡ true
name_keeps (Between u i) ms v h = value_keeps u ms v h
name_keeps (Congruent u c) ms v h = value_keeps u ms v h
name_keeps (Equals u code a b) ms v h = read_keeps (Equals u code a b) (value_marked u ms) v (value_keeps u ms v h)
name_keeps Never ms v h = h

name_notes : (f : Fact) (ms : List Bool) (v : ℕ) → names v f ≡ true → is_marked (name_marked f ms) v ≡ true
name_notes (Between u i) ms v h = value_marks u ms v h
name_notes (Congruent u c) ms v h = value_marks u ms v h
name_notes Never ms v h = absurd (false≢true h)
name_notes (Equals u code a b) ms v h = by (either_holds (u == v) (is_value v a || is_value v b) h)
  where
    by : ((u == v) ≡ true) ⊎ ((is_value v a || is_value v b) ≡ true) → is_marked (name_marked (Equals u code a b) ms) v ≡ true
    by (inl e) = read_keeps (Equals u code a b) (value_marked u ms) v (value_marks u ms v e)
    by (inr e) = read_notes (Equals u code a b) (value_marked u ms) v e

link_keeps : (f : Fact) (ms : List Bool) (v : ℕ) → is_marked ms v ≡ true → is_marked (link_marked f ms) v ≡ true
link_keeps (Between u i) ms v h = value_keeps u ms v h
link_keeps (Congruent u c) ms v h = value_keeps u ms v h
link_keeps Never ms v h = h
link_keeps (Equals u code a b) ms v h = by (is_link code b)
  where
    by : (t : Bool) → is_marked (value_marked_if t u ms) v ≡ true
    by true = value_keeps u ms v h
    by false = h

link_notes : (f : Fact) (ms : List Bool) (v : ℕ) → links v f ≡ true → is_marked (link_marked f ms) v ≡ true
link_notes (Between u i) ms v h = value_marks u ms v h
link_notes (Congruent u c) ms v h = value_marks u ms v h
link_notes Never ms v h = absurd (false≢true h)
link_notes (Equals u code a b) ms v h = by (is_link code b) h
  where
    by : (t : Bool) → (t && (u == v)) ≡ true → is_marked (value_marked_if t u ms) v ≡ true
    by true e = value_marks u ms v e
    by false e = absurd (false≢true e)

of_names : Notes names name_marked
of_names = record { keeps = name_keeps; notes = name_notes }

of_reads : Notes reads read_marked
of_reads = record { keeps = read_keeps; notes = read_notes }

of_links : Notes links link_marked
of_links = record { keeps = link_keeps; notes = link_notes }

-- ---- a table without places

pub no_read_marked : (f : Fact) (ms : List Bool) → ms ≡ [] → ms ≡ read_marked f ms
no_read_marked f ms e = e ∙ by f ∙ ap (read_marked f) (sym e)
  where
    none : (x : Operand) → [] ≡ operand_marked x []
    none (Held u) = refl
    none (Number n) = refl
    none Stack = refl

    by : (g : Fact) → [] ≡ read_marked g []
    by (Between u i) = refl
    by (Congruent u c) = refl
    by Never = refl
    by (Equals u code a b) = none b ∙ ap (operand_marked b) (none a)

pub no_name_marked : (f : Fact) (ms : List Bool) → ms ≡ [] → ms ≡ name_marked f ms
no_name_marked f ms e = e ∙ by f ∙ ap (name_marked f) (sym e)
  where
    by : (g : Fact) → [] ≡ name_marked g []
    by (Between u i) = refl
    by (Congruent u c) = refl
    by Never = refl
    by (Equals u code a b) = no_read_marked (Equals u code a b) [] refl

pub no_link_marked : (f : Fact) (ms : List Bool) → ms ≡ [] → ms ≡ link_marked f ms
no_link_marked f ms e = e ∙ by f ∙ ap (link_marked f) (sym e)
  where
    if_link : (t : Bool) (u : ℕ) → [] ≡ value_marked_if t u []
    if_link true u = refl
    if_link false u = refl

    by : (g : Fact) → [] ≡ link_marked g []
    by (Between u i) = refl
    by (Congruent u c) = refl
    by Never = refl
    by (Equals u code a b) = if_link (is_link code b) u

-- ---- lists

one_more : (tells : ℕ → Fact → Bool) (mark : Fact → List Bool → List Bool) → Notes tells mark → (f : Fact) (fs : List Fact) (ms : List Bool) → Covers ms tells fs → Covers (mark f ms) tells (f ∷ fs)
one_more tells mark n f fs ms c v e = by (either_holds (tells v f) (list_any (tells v) fs) e)
  where
    by : (tells v f ≡ true) ⊎ (list_any (tells v) fs ≡ true) → is_marked (mark f ms) v ≡ true
    by (inl h) = n.notes f ms v h
    by (inr h) = n.keeps f ms v (c v h)

still_covers : (tells : ℕ → Fact → Bool) (mark : Fact → List Bool → List Bool) → Notes tells mark → (f : Fact) (fs : List Fact) (ms : List Bool) → Covers ms tells fs → Covers (mark f ms) tells fs
still_covers tells mark n f fs ms c v e = n.keeps f ms v (c v e)

all_keep : (tells : ℕ → Fact → Bool) (mark : Fact → List Bool → List Bool) → Notes tells mark → (fs : List Fact) (ms : List Bool) (v : ℕ) → is_marked ms v ≡ true → is_marked (all_marked mark fs ms) v ≡ true
all_keep tells mark n [] ms v h = h
all_keep tells mark n (f ∷ fs) ms v h = all_keep tells mark n fs (mark f ms) v (n.keeps f ms v h)

all_cover : (tells : ℕ → Fact → Bool) (mark : Fact → List Bool → List Bool) → Notes tells mark → (fs : List Fact) (ms : List Bool) → Covers (all_marked mark fs ms) tells fs
all_cover tells mark n [] ms v e = absurd (false≢true e)
all_cover tells mark n (f ∷ fs) ms v e = by (either_holds (tells v f) (list_any (tells v) fs) e) (all_cover tells mark n fs (mark f ms) v)
  where
    by : (tells v f ≡ true) ⊎ (list_any (tells v) fs ≡ true) → (list_any (tells v) fs ≡ true → is_marked (all_marked mark fs (mark f ms)) v ≡ true) → is_marked (all_marked mark fs (mark f ms)) v ≡ true
    by (inl h) k = all_keep tells mark n fs (mark f ms) v (n.notes f ms v h)
    by (inr h) k = k h

pub marked_anew : (fs gs : List Fact) (ns rs ls n r l : List Bool) → gs ≡ fs → ns ≡ all_marked name_marked fs n → rs ≡ all_marked read_marked fs r → ls ≡ all_marked link_marked fs l → Marked ns rs ls gs
marked_anew fs gs ns rs ls n r l g en er el = record {
  named = λ v e. ap (λ (m : List Bool). is_marked m v) en ∙ all_cover names name_marked of_names fs n v (ap (λ (h : List Fact). list_any (names v) h) (sym g) ∙ e);
  read = λ v e. ap (λ (m : List Bool). is_marked m v) er ∙ all_cover reads read_marked of_reads fs r v (ap (λ (h : List Fact). list_any (reads v) h) (sym g) ∙ e);
  linked = λ v e. ap (λ (m : List Bool). is_marked m v) el ∙ all_cover links link_marked of_links fs l v (ap (λ (h : List Fact). list_any (links v) h) (sym g) ∙ e);
}

pub marked_more : (f : Fact) (fs gs : List Fact) (ns rs ls n r l : List Bool) → Marked n r l fs → gs ≡ f ∷ fs → ns ≡ name_marked f n → rs ≡ read_marked f r → ls ≡ link_marked f l → Marked ns rs ls gs
marked_more f fs gs ns rs ls n r l m g en er el = record {
  named = λ v e. ap (λ (h : List Bool). is_marked h v) en ∙ one_more names name_marked of_names f fs n m.named v (ap (λ (h : List Fact). list_any (names v) h) (sym g) ∙ e);
  read = λ v e. ap (λ (h : List Bool). is_marked h v) er ∙ one_more reads read_marked of_reads f fs r m.read v (ap (λ (h : List Fact). list_any (reads v) h) (sym g) ∙ e);
  linked = λ v e. ap (λ (h : List Bool). is_marked h v) el ∙ one_more links link_marked of_links f fs l m.linked v (ap (λ (h : List Fact). list_any (links v) h) (sym g) ∙ e);
}

pub marked_still : (f : Fact) (fs gs : List Fact) (ns rs ls n r l : List Bool) → Marked n r l fs → gs ≡ fs → ns ≡ name_marked f n → rs ≡ read_marked f r → ls ≡ link_marked f l → Marked ns rs ls gs
marked_still f fs gs ns rs ls n r l m g en er el = record {
  named = λ v e. ap (λ (h : List Bool). is_marked h v) en ∙ still_covers names name_marked of_names f fs n m.named v (ap (λ (h : List Fact). list_any (names v) h) (sym g) ∙ e);
  read = λ v e. ap (λ (h : List Bool). is_marked h v) er ∙ still_covers reads read_marked of_reads f fs r m.read v (ap (λ (h : List Fact). list_any (reads v) h) (sym g) ∙ e);
  linked = λ v e. ap (λ (h : List Bool). is_marked h v) el ∙ still_covers links link_marked of_links f fs l m.linked v (ap (λ (h : List Fact). list_any (links v) h) (sym g) ∙ e);
}

pub part_marked : (fs gs : List Fact) (n r l : List Bool) → Marked n r l fs → IsPart gs fs → Marked n r l gs
part_marked fs gs n r l m p = record { named = λ v e. m.named v (p (names v) e); read = λ v e. m.read v (p (reads v) e); linked = λ v e. m.linked v (p (links v) e) }

-- ---- parts

pub same_part : (fs gs : List Fact) → gs ≡ fs → IsPart gs fs
same_part fs gs g p e = ap (λ (h : List Fact). list_any p h) (sym g) ∙ e

pub part_without : (v : ℕ) (fs : List Fact) → IsPart (without v fs) fs
part_without v [] p e = e
part_without v (f ∷ fs) p e = by (names v f) e (part_without v fs p)
  where
    by : (t : Bool) → list_any p (kept_if t f (without v fs)) ≡ true → (list_any p (without v fs) ≡ true → list_any p fs ≡ true) → (p f || list_any p fs) ≡ true
    by true h k = second_holds (p f) (list_any p fs) (k h)
    by false h k = more_holds (p f) (list_any p (without v fs)) (list_any p fs) k h

pub part_newest : (left : ℕ) (fs : List Fact) → IsPart (newest left fs) fs
part_newest left [] p e = e
part_newest left (Between v i ∷ fs) p e = more_holds (p (Between v i)) (list_any p (newest left fs)) (list_any p fs) (part_newest left fs p) e
part_newest left (Congruent v c ∷ fs) p e = more_holds (p (Congruent v c)) (list_any p (newest left fs)) (list_any p fs) (part_newest left fs p) e
part_newest left (Never ∷ fs) p e = more_holds (p Never) (list_any p (newest left fs)) (list_any p fs) (part_newest left fs p) e
part_newest zero (Equals v code a b ∷ fs) p e = second_holds (p (Equals v code a b)) (list_any p fs) (part_newest zero fs p e)
part_newest (suc left) (Equals v code a b ∷ fs) p e = more_holds (p (Equals v code a b)) (list_any p (newest left fs)) (list_any p fs) (part_newest left fs p) e

part_of_front : (n : ℕ) (fs : List Fact) → IsPart (take n fs) fs
part_of_front zero [] p e = e
part_of_front zero (f ∷ fs) p e = absurd (false≢true e)
part_of_front (suc n) [] p e = e
part_of_front (suc n) (f ∷ fs) p e = more_holds (p f) (list_any p (take n fs)) (list_any p fs) (part_of_front n fs p) e

pub part_taken : (fs gs : List Fact) (n : ℕ) → gs ≡ take n fs → IsPart gs fs
part_taken fs gs n g p e = part_of_front n fs p (ap (λ (h : List Fact). list_any p h) (sym g) ∙ e)

-- ---- what is not marked

pub not_told : (ms : List Bool) (tells : ℕ → Fact → Bool) (fs : List Fact) (v : ℕ) → Covers ms tells fs → is_marked ms v ≡ false → list_any (tells v) fs ≡ false
not_told ms tells fs v c h = by (list_any (tells v) fs) refl
  where
    by : (t : Bool) → list_any (tells v) fs ≡ t → t ≡ false
    by true e = absurd (false≢true (sym h ∙ c v e))
    by false e = refl

no_move : (v u : ℕ) (code : Code) (b : Operand) → (is_link code b && (u == v)) ≡ false → moves v u code ≡ false
no_move v u Mov b h = h
no_move v u Add b h = refl
no_move v u Sub b h = refl
no_move v u And b h = refl
no_move v u Or b h = refl
no_move v u Xor b h = refl
no_move v u Shl b h = refl
no_move v u Shr b h = refl
no_move v u Shru b h = refl
no_move v u Sh2add b h = refl
no_move v u Max b h = refl
no_move v u Min b h = refl
no_move v u (ToGeneral c) b h = refl
no_move v u (ToBranch c) b h = refl
no_move v u Mpylu b h = refl
no_move v u Mpyhs b h = refl
no_move v u Div b h = refl
no_move v u Rem b h = refl

pub unlinked_source : (fs : List Fact) (v : ℕ) → list_any (links v) fs ≡ false → source_of fs v ≡ Held v
unlinked_source [] v h = refl
unlinked_source (Between u i ∷ fs) v h = unlinked_source fs v (second_fails (u == v) (list_any (links v) fs) h)
unlinked_source (Congruent u c ∷ fs) v h = unlinked_source fs v (second_fails (u == v) (list_any (links v) fs) h)
unlinked_source (Never ∷ fs) v h = unlinked_source fs v h
unlinked_source (Equals u code a b ∷ fs) v h =
    let t : moves v u code ≡ false = no_move v u code b (first_fails (is_link code b && (u == v)) (list_any (links v) fs) h) in
    ap (λ (s : Bool). operand_if s a (source_of fs v)) t ∙ unlinked_source fs v (second_fails (is_link code b && (u == v)) (list_any (links v) fs) h)

no_sum : (v u : ℕ) (code : Code) (a b : Operand) → (is_link code b && (u == v)) ≡ false → sum_at v u code a b ≡ None
no_sum v u Add (Held w) (Number n) h = ap (λ (t : Bool). sum_if t w n) h
no_sum v u Add (Held w) (Held x) h = refl
no_sum v u Add (Held w) Stack h = refl
no_sum v u Add (Number m) b h = refl
no_sum v u Add Stack b h = refl
no_sum v u Sub (Held w) (Number n) h = ap (λ (t : Bool). sum_if t w (difference_of (pos 0) n)) h
no_sum v u Sub (Held w) (Held x) h = refl
no_sum v u Sub (Held w) Stack h = refl
no_sum v u Sub (Number m) b h = refl
no_sum v u Sub Stack b h = refl
no_sum v u And a b h = refl
no_sum v u Or a b h = refl
no_sum v u Xor a b h = refl
no_sum v u Shl a b h = refl
no_sum v u Shr a b h = refl
no_sum v u Shru a b h = refl
no_sum v u Sh2add a b h = refl
no_sum v u Max a b h = refl
no_sum v u Min a b h = refl
no_sum v u Mov a b h = refl
no_sum v u (ToGeneral c) a b h = refl
no_sum v u (ToBranch c) a b h = refl
no_sum v u Mpylu a b h = refl
no_sum v u Mpyhs a b h = refl
no_sum v u Div a b h = refl
no_sum v u Rem a b h = refl

pub unlinked_sum : (fs : List Fact) (v : ℕ) → list_any (links v) fs ≡ false → held_as_sum fs v ≡ None
unlinked_sum [] v h = refl
unlinked_sum (Between u i ∷ fs) v h = unlinked_sum fs v (second_fails (u == v) (list_any (links v) fs) h)
unlinked_sum (Congruent u c ∷ fs) v h = unlinked_sum fs v (second_fails (u == v) (list_any (links v) fs) h)
unlinked_sum (Never ∷ fs) v h = unlinked_sum fs v h
unlinked_sum (Equals u code a b ∷ fs) v h =
    let t : sum_at v u code a b ≡ None = no_sum v u code a b (first_fails (is_link code b && (u == v)) (list_any (links v) fs) h) in
    ap (λ o. first_sum o (held_as_sum fs v)) t ∙ unlinked_sum fs v (second_fails (is_link code b && (u == v)) (list_any (links v) fs) h)

unlinked_within : (fs : List Fact) (v : ℕ) → list_any (links v) fs ≡ false → range fs v ≡ full
unlinked_within [] v h = refl
unlinked_within (Between u i ∷ fs) v h = ap (λ (t : Bool). meet_if t i (range fs v)) (first_fails (u == v) (list_any (links v) fs) h) ∙ unlinked_within fs v (second_fails (u == v) (list_any (links v) fs) h)
unlinked_within (Congruent u c ∷ fs) v h = unlinked_within fs v (second_fails (u == v) (list_any (links v) fs) h)
unlinked_within (Never ∷ fs) v h = unlinked_within fs v h
unlinked_within (Equals u code a b ∷ fs) v h = unlinked_within fs v (second_fails (is_link code b && (u == v)) (list_any (links v) fs) h)

unlinked_bits : (fs : List Fact) (v : ℕ) → list_any (links v) fs ≡ false → residue fs v ≡ unknown
unlinked_bits [] v h = refl
unlinked_bits (Between u i ∷ fs) v h = unlinked_bits fs v (second_fails (u == v) (list_any (links v) fs) h)
unlinked_bits (Congruent u c ∷ fs) v h = ap (λ (t : Bool). finer_if t c (residue fs v)) (first_fails (u == v) (list_any (links v) fs) h) ∙ unlinked_bits fs v (second_fails (u == v) (list_any (links v) fs) h)
unlinked_bits (Never ∷ fs) v h = unlinked_bits fs v h
unlinked_bits (Equals u code a b ∷ fs) v h = unlinked_bits fs v (second_fails (is_link code b && (u == v)) (list_any (links v) fs) h)

pub unlinked_range : (fs : List Fact) (x : Operand) → IsUnlinked fs x → range_of fs x ≡ full
unlinked_range fs (Held v) h = ap (λ (c : Residue). rounded c (range fs v)) (unlinked_bits fs v h) ∙ unlinked_within fs v h
unlinked_range fs (Number n) h = absurd h
unlinked_range fs Stack h = absurd h

pub unlinked_residue : (fs : List Fact) (x : Operand) → IsUnlinked fs x → residue_of fs x ≡ unknown
unlinked_residue fs (Held v) h =
    ap (λ (i : Interval). residue_within i (residue fs v)) (unlinked_range fs (Held v) h) ∙ unlinked_bits fs v h
unlinked_residue fs (Number n) h = absurd h
unlinked_residue fs Stack h = absurd h

same_value : (v : ℕ) (x : Operand) → same_operand x (Held v) ≡ is_value v x
same_value v (Held u) = refl
same_value v (Number n) = refl
same_value v Stack = refl

not_first : (r s t : Bool) → s ≡ false → (r && (s && t)) ≡ false
not_first true s t h = ap (λ (x : Bool). x && t) h
not_first false s t h = refl

not_second : (r s t : Bool) → t ≡ false → (r && (s && t)) ≡ false
not_second true true t h = h
not_second true false t h = refl
not_second false s t h = refl

left_unread : (fs : List Fact) (code : Code) (v : ℕ) (y : Operand) → list_any (reads v) fs ≡ false → found fs code (Held v) y ≡ None
left_unread [] code v y h = refl
left_unread (Between u i ∷ fs) code v y h = left_unread fs code v y h
left_unread (Congruent u c ∷ fs) code v y h = left_unread fs code v y h
left_unread (Never ∷ fs) code v y h = left_unread fs code v y h
left_unread (Equals u other a b ∷ fs) code v y h =
    let none : is_value v a ≡ false = first_fails (is_value v a) (is_value v b) (first_fails (is_value v a || is_value v b) (list_any (reads v) fs) h) in
    ap (λ (t : Bool). found_if t u (found fs code (Held v) y)) (not_first (same_code other code) (same_operand a (Held v)) (same_operand b y) (same_value v a ∙ none))
    ∙ left_unread fs code v y (second_fails (is_value v a || is_value v b) (list_any (reads v) fs) h)

right_unread : (fs : List Fact) (code : Code) (x : Operand) (v : ℕ) → list_any (reads v) fs ≡ false → found fs code x (Held v) ≡ None
right_unread [] code x v h = refl
right_unread (Between u i ∷ fs) code x v h = right_unread fs code x v h
right_unread (Congruent u c ∷ fs) code x v h = right_unread fs code x v h
right_unread (Never ∷ fs) code x v h = right_unread fs code x v h
right_unread (Equals u other a b ∷ fs) code x v h =
    let none : is_value v b ≡ false = second_fails (is_value v a) (is_value v b) (first_fails (is_value v a || is_value v b) (list_any (reads v) fs) h) in
    ap (λ (t : Bool). found_if t u (found fs code x (Held v))) (not_second (same_code other code) (same_operand a x) (same_operand b (Held v)) (same_value v b ∙ none))
    ∙ right_unread fs code x v (second_fails (is_value v a || is_value v b) (list_any (reads v) fs) h)

pub not_found_left : (fs : List Fact) (code : Code) (x y : Operand) → IsUnread fs x → None ≡ found fs code x y
not_found_left fs code (Held v) y h = sym (left_unread fs code v y h)
not_found_left fs code (Number n) y h = absurd h
not_found_left fs code Stack y h = absurd h

pub not_found_right : (fs : List Fact) (code : Code) (x y : Operand) → IsUnread fs y → None ≡ found fs code x y
not_found_right fs code x (Held v) h = sym (right_unread fs code x v h)
not_found_right fs code x (Number n) h = absurd h
not_found_right fs code x Stack h = absurd h

-- Rows of parts, read one after another.
use Rattle.std.proofs.Common.{◌≡◌, ◌≤◌, ◌<◌, ◌+◌, ◌⊎◌, inl, inr, ℕ, max, true, List, [], ◌∷◌, ◌++◌, length, drop, Some, sym, ap, ◌∙◌, subst, arith}
use Rattle.vx_ast.specs.declared.token.TokenKind.{TokenKind}
use Rattle.vx_ast.specs.declared.token.Token.{Token}
use Rattle.vx_ast.specs.Tree.{One, Row}
use Rattle.vx_ast.specs.Phrases.{Phrase, Part, The, AName, ANumber, AString, A, Fits, parts_of, Derivation, Leaf, Node, NoMore, Then, Is, nothing, token, phrase, Stuck, unfit, behind, no_phrase, inside, after, Begins, reached, reached_behind, reached_inside, reached_after}
use Rattle.vx_ast.specs.Derivations.{depth_behind, row_depth}
use Rattle.vx_parse.specs.declared.stop.Stop.{Stop}
use Rattle.vx_parse.specs.declared.stop.Stop.TheVariants.{Unexpected, TooDeep, NoMemory}
use Rattle.vx_parse.specs.Reading.{next_kind, Passed, Misfit, Stops, Parted}
use Rattle.vx_parse.proofs.Depths.{is_plain, are_plain, is_quiet, leaf_depth, none_depth, then_depth, plain_depth, beside, stuck_plain, begins_plain, is_plain_row, quiet_depth, if_both}
use Rattle.vx_parse.proofs.Steps.{pass, and_then, node, stops_first, stops_after, stops_misfit, stops_quiet, Opens, stops_opened, opened}

-- a derivation of a row, and another behind it
abbrev pub joined_rows : Derivation Row → Derivation Row → Derivation Row
joined_rows NoMore e = e
joined_rows (Then x d) e = Then x (joined_rows d e)

pub is_joined : {ps qs : List Part} {a b c : List Token} {d e : Derivation Row} → Is ps a d b → Is qs b e c → Is (ps ++ qs) a (joined_rows d e) c
is_joined nothing i = i
is_joined (token f j) i = token f (is_joined j i)
is_joined (phrase p inner k j l) i = phrase p inner k j (is_joined l i)

pub joined_depth : (left : ℕ) (d e : Derivation Row) → row_depth left (joined_rows d e) ≡ row_depth (row_depth left d) e
joined_depth left NoMore e = ap (λ n. row_depth n e) (sym (none_depth left))
joined_depth left (Then x d) e = then_depth left x (joined_rows d e) ∙ joined_depth (depth_behind left x) d e ∙ ap (λ n. row_depth n e) (sym (then_depth left x d))

pub stuck_more : {ps : List Part} (qs : List Part) {a b : List Token} {d : Derivation Row} → Stuck ps a d b → Stuck (ps ++ qs) a d b
stuck_more qs (unfit n u) = unfit n u
stuck_more qs (behind f s) = behind f (stuck_more qs s)
stuck_more qs (no_phrase p n) = no_phrase p n
stuck_more qs (inside p inner k s) = inside p inner k s
stuck_more qs (after p inner k i s) = after p inner k i (stuck_more qs s)

pub begins_more : {ps : List Part} (qs : List Part) {a b : List Token} {d : Derivation Row} → Begins ps a d b → Begins (ps ++ qs) a d b
begins_more qs reached = reached
begins_more qs (reached_behind f s) = reached_behind f (begins_more qs s)
begins_more qs (reached_inside p inner k s) = reached_inside p inner k s
begins_more qs (reached_after p inner k i s) = reached_after p inner k i (begins_more qs s)

pub stops_more : (ps qs : List Part) (here ts : List Token) (k left : ℕ) (s : Stop) → Stops ps here ts k left s → Stops (ps ++ qs) here ts k left s
stops_more ps qs here ts k left (Unexpected i) w = (w.0, record { derivation = w.1.derivation; stuck = stuck_more qs w.1.stuck; shallow = w.1.shallow })
stops_more ps qs here ts k left TooDeep w = record { derivation = w.derivation; rest = w.rest; begins = begins_more qs w.begins; deep = w.deep }
stops_more ps qs here ts k left NoMemory w = tt

-- behind a row of parts
pub stuck_joined : {ps qs : List Part} {a b c : List Token} {d e : Derivation Row} → Is ps a d b → Stuck qs b e c → Stuck (ps ++ qs) a (joined_rows d e) c
stuck_joined nothing s = s
stuck_joined (token f j) s = behind f (stuck_joined j s)
stuck_joined (phrase p inner k j l) s = after p inner k j (stuck_joined l s)

pub begins_joined : {ps qs : List Part} {a b c : List Token} {d e : Derivation Row} → Is ps a d b → Begins qs b e c → Begins (ps ++ qs) a (joined_rows d e) c
begins_joined nothing s = s
begins_joined (token f j) s = reached_behind f (begins_joined j s)
begins_joined (phrase p inner k j l) s = reached_after p inner k j (begins_joined l s)

stuck_beside : {ps : List Part} {here rest : List Token} {d : Derivation Row} → are_plain ps ≡ true → Stuck ps here d rest → (left : ℕ) → row_depth left d ≡ max left (row_depth 0 d)
stuck_beside e s left = beside (stuck_plain e s) left

begins_beside : {ps : List Part} {here rest : List Token} {d : Derivation Row} → are_plain ps ≡ true → Begins ps here d rest → (left : ℕ) → row_depth left d ≡ max left (row_depth 0 d)
begins_beside e s left = beside (begins_plain e s) left

pub stops_joined : (ps qs : List Part) {here mid : List Token} (ts : List Token) (k : ℕ) (s : Stop) {d : Derivation Row} → Is ps here d mid → k + row_depth 0 d ≤ 200 → are_plain qs ≡ true → Stops qs mid ts k 0 s
    → Stops (ps ++ qs) here ts k 0 s
stops_joined ps qs ts k (Unexpected i) {d} a h e w =
    let f = joined_depth 0 d w.1.derivation in let g = stuck_beside e w.1.stuck (row_depth 0 d) in let l = w.1.shallow in
    (w.0, record { derivation = joined_rows d w.1.derivation; stuck = stuck_joined a w.1.stuck; shallow = omega arith })
stops_joined ps qs ts k TooDeep {d} a h e w =
    let f = joined_depth 0 d w.derivation in let g = begins_beside e w.begins (row_depth 0 d) in let l = w.deep in
    record { derivation = joined_rows d w.derivation; rest = w.rest; begins = begins_joined a w.begins; deep = omega arith }
stops_joined ps qs ts k NoMemory a h e w = tt

-- what is read of some parts: with the others the whole is read, and where the others stop, the whole stops
pub record Before (outer : List Part) (ts : List Token) (i k : ℕ) (front : Derivation Row → Derivation Row) (ps : List Part) (j l : ℕ) : Type 0 where
  pub stops : (s : Stop) → Stops ps (drop j ts) ts l 0 s → Stops outer (drop i ts) ts k 0 s
  pub whole : (d : Derivation Row) (m : ℕ) → Parted ps ts j m l d → Parted outer ts i m k (front d)
  pub plain : are_plain ps ≡ true
  pub fits : l ≤ 200
  pub further : i ≤ j
  pub within : j < length ts

pub begin : (ps : List Part) (ts : List Token) (i k : ℕ) → are_plain ps ≡ true → k ≤ 200 → i < length ts → Before ps ts i k (λ d. d) ps i k
begin ps ts i k e h l = record { stops = λ s w. w; whole = λ d m w. w; plain = e; fits = h; further = omega arith; within = l }

plain_tail : (q : Part) (ps : List Part) → are_plain (q ∷ ps) ≡ true → are_plain ps ≡ true
plain_tail (The k) ps e = e
plain_tail AName ps e = e
plain_tail ANumber ps e = e
plain_tail AString ps e = e
plain_tail (A p) ps e = (if_both (is_plain p) (are_plain ps) e).1

no_phrase_fits : (q : Part) (k : TokenKind) → Fits q k → (p : Phrase) → q ≡ A p → ⊥
no_phrase_fits (The z) k f p e = cc
no_phrase_fits AName k f p e = cc
no_phrase_fits ANumber k f p e = cc
no_phrase_fits AString k f p e = cc
no_phrase_fits (A r) k f p e = f

pub parted_none : (ts : List Token) (i k : ℕ) → k ≤ 200 → i < length ts → Parted [] ts i i k NoMore
parted_none ts i k h l = let e = none_depth 0 in record { is = nothing; shallow = omega arith; further = omega arith; within = l }

pub parted_token : {q : Part} {ps : List Part} {ts : List Token} {i j m k : ℕ} {d : Derivation Row} (c : Passed q ts i j) → Parted ps ts j m k d → Parted (q ∷ ps) ts i m k (Then (Leaf c.token) d)
parted_token {d} c a =
    let e = then_depth 0 (Leaf c.token) d in let f : row_depth (depth_behind 0 (Leaf c.token)) d ≡ row_depth 0 d = ap (λ n. row_depth n d) (leaf_depth 0 c.token) in
    let g = a.shallow in let h = a.further in let l = c.further in
    record { is = and_then (pass c) a.is; shallow = omega arith; further = omega arith; within = a.within }

pub parted_phrase : {p : Phrase} {ps : List Part} {ts : List Token} {i j m k : ℕ} {x : Derivation One} {d : Derivation Row} → Parted (A p ∷ []) ts i j k (Then x NoMore) → are_plain ps ≡ true → Parted ps ts j m k d
    → Parted (A p ∷ ps) ts i m k (Then x d)
parted_phrase {x} {d} b e a =
    let e1 = then_depth 0 x d in let e2 = beside (is_plain_row e a.is) (depth_behind 0 x) in let e3 = then_depth 0 x NoMore in let e4 = none_depth (depth_behind 0 x) in
    let g = a.shallow in let h = a.further in let g2 = b.shallow in let h2 = b.further in
    record { is = and_then b.is a.is; shallow = omega arith; further = omega arith; within = a.within }

pub parted_row : {ps qs : List Part} {ts : List Token} {i j m k : ℕ} {d e : Derivation Row} → Parted ps ts i j k d → are_plain qs ≡ true → Parted qs ts j m k e → Parted (ps ++ qs) ts i m k (joined_rows d e)
parted_row {d} {e} b p a =
    let e1 = joined_depth 0 d e in let e2 = beside (is_plain_row p a.is) (row_depth 0 d) in
    let g = a.shallow in let h = a.further in let g2 = b.shallow in let h2 = b.further in
    record { is = is_joined b.is a.is; shallow = omega arith; further = omega arith; within = a.within }

pub past_token : {outer : List Part} {ts : List Token} {i k : ℕ} {front : Derivation Row → Derivation Row} {q : Part} {ps : List Part} {j l m : ℕ} → Before outer ts i k front (q ∷ ps) j l → (c : Passed q ts j m)
    → Before outer ts i k (λ d. front (Then (Leaf c.token) d)) ps m l
past_token {ts} {q} {ps} {l} b c =
    let e = plain_tail q ps b.plain in
    let z = leaf_depth 0 c.token in let f = b.fits in let f1 = b.further in let f2 = c.further in
    let y : l + depth_behind 0 (Leaf c.token) ≤ 200 = omega arith in
    record {
      stops = λ s w. b.stops s (stops_after ps ts l s (pass c) y e w);
      whole = λ d n w. b.whole (Then (Leaf c.token) d) n (parted_token c w);
      plain = e;
      fits = b.fits;
      further = omega arith;
      within = c.within;
    }

alone_bound : {p : Phrase} {ts : List Token} {i j k : ℕ} {x : Derivation One} → Parted (A p ∷ []) ts i j k (Then x NoMore) → k + depth_behind 0 x ≤ 200
alone_bound {x} a = let e = then_depth 0 x NoMore in let f = none_depth (depth_behind 0 x) in let g = a.shallow in omega arith

pub past_phrase : {outer : List Part} {ts : List Token} {i k : ℕ} {front : Derivation Row → Derivation Row} {p : Phrase} {ps : List Part} {j l m : ℕ} {x : Derivation One} → Before outer ts i k front (A p ∷ ps) j l
    → Parted (A p ∷ []) ts j m l (Then x NoMore) → Before outer ts i k (λ d. front (Then x d)) ps m l
past_phrase {ts} {p} {ps} {l} {x} b a =
    let e = plain_tail (A p) ps b.plain in
    let f1 = b.further in let f2 = a.further in
    record {
      stops = λ s w. b.stops s (stops_after ps ts l s a.is (alone_bound a) e w);
      whole = λ d n w. b.whole (Then x d) n (parted_phrase a e w);
      plain = e;
      fits = b.fits;
      further = omega arith;
      within = a.within;
    }

pub past_row : {outer : List Part} {ts : List Token} {i k : ℕ} {front : Derivation Row → Derivation Row} (ps qs : List Part) {j l m : ℕ} {d : Derivation Row} → are_plain qs ≡ true → Before outer ts i k front (ps ++ qs) j l
    → Parted ps ts j m l d → Before outer ts i k (λ e. front (joined_rows d e)) qs m l
past_row {ts} ps qs {l} {d} e b a =
    let f1 = b.further in let f2 = a.further in
    record {
      stops = λ s w. b.stops s (stops_joined ps qs ts l s a.is a.shallow e w);
      whole = λ x n w. b.whole (joined_rows d x) n (parted_row a e w);
      plain = e;
      fits = b.fits;
      further = omega arith;
      within = a.within;
    }

-- where reading stops behind that

pub misfit : {outer : List Part} {ts : List Token} {i k : ℕ} {front : Derivation Row → Derivation Row} {z : TokenKind} {ps : List Part} {j l : ℕ} → Before outer ts i k front (The z ∷ ps) j l → (s : Stop) → Misfit (The z) ts j s
    → Stops outer (drop i ts) ts k 0 s
misfit {ts} {z} {ps} {j} {l} b s m = let f = b.fits in b.stops s (stops_misfit (The z) ps ts j l 0 s (λ p e. cc) b.within (omega arith) m)

pub misfit_number : {outer : List Part} {ts : List Token} {i k : ℕ} {front : Derivation Row → Derivation Row} {ps : List Part} {j l : ℕ} → Before outer ts i k front (ANumber ∷ ps) j l → (s : Stop) → Misfit ANumber ts j s
    → Stops outer (drop i ts) ts k 0 s
misfit_number {ts} {ps} {j} {l} b s m = let f = b.fits in b.stops s (stops_misfit ANumber ps ts j l 0 s (λ p e. cc) b.within (omega arith) m)

pub no_memory : (ps : List Part) (here ts : List Token) (k left : ℕ) (s : Stop) → s ≡ NoMemory → Stops ps here ts k left s
no_memory ps here ts k left s e = subst (λ z. Stops ps here ts k left z) (sym e) tt

-- what stands before a mark is not held in a box, or has no such mark behind it
pub misfit_held : {outer : List Part} {ts : List Token} {i k : ℕ} {front : Derivation Row → Derivation Row} {z : TokenKind} {ps : List Part} {j l : ℕ} → Before outer ts i k front (The z ∷ ps) j l → (s : Stop)
    → (s ≡ NoMemory) ⊎ Misfit (The z) ts j s → Stops outer (drop i ts) ts k 0 s
misfit_held {outer} {ts} {i} {k} b s (inl e) = no_memory outer (drop i ts) ts k 0 s e
misfit_held b s (inr m) = misfit b s m

pub misfit_name : {outer : List Part} {ts : List Token} {i k : ℕ} {front : Derivation Row → Derivation Row} {ps : List Part} {j l : ℕ} → Before outer ts i k front (AName ∷ ps) j l → (s : Stop) → (s ≡ NoMemory) ⊎ Misfit AName ts j s
    → Stops outer (drop i ts) ts k 0 s
misfit_name {outer} {ts} {i} {k} b s (inl e) = no_memory outer (drop i ts) ts k 0 s e
misfit_name {ts} {ps} {j} {l} b s (inr m) = let f = b.fits in b.stops s (stops_misfit AName ps ts j l 0 s (λ p e. cc) b.within (omega arith) m)

pub misfit_text : {outer : List Part} {ts : List Token} {i k : ℕ} {front : Derivation Row → Derivation Row} {ps : List Part} {j l : ℕ} → Before outer ts i k front (AString ∷ ps) j l → (s : Stop) → (s ≡ NoMemory) ⊎ Misfit AString ts j s
    → Stops outer (drop i ts) ts k 0 s
misfit_text {outer} {ts} {i} {k} b s (inl e) = no_memory outer (drop i ts) ts k 0 s e
misfit_text {ts} {ps} {j} {l} b s (inr m) = let f = b.fits in b.stops s (stops_misfit AString ps ts j l 0 s (λ p e. cc) b.within (omega arith) m)

pub within_phrase : {outer : List Part} {ts : List Token} {i k : ℕ} {front : Derivation Row → Derivation Row} {p : Phrase} {ps : List Part} {j l : ℕ} → Before outer ts i k front (A p ∷ ps) j l → (s : Stop)
    → Stops (A p ∷ []) (drop j ts) ts l 0 s → Stops outer (drop i ts) ts k 0 s
within_phrase {ts} {p} {ps} {j} {l} b s w = b.stops s (stops_first (A p) ps (drop j ts) ts l 0 s w)

pub ends : {outer : List Part} {ts : List Token} {i k : ℕ} {front : Derivation Row → Derivation Row} {j l : ℕ} → Before outer ts i k front [] j l → Parted outer ts i j k (front NoMore)
ends {ts} {j} {l} b = b.whole NoMore j (parted_none ts j l b.fits b.within)

-- phrases

pub quietly : (p : Phrase) (inner : List Part) (ts : List Token) (i k : ℕ) → is_plain p ≡ true → is_quiet p ≡ true → are_plain inner ≡ true → k ≤ 200 → i < length ts → parts_of p (next_kind (drop i ts)) ≡ Some inner
    → Before (A p ∷ []) ts i k (λ d. Then (Node p d) NoMore) inner i k
quietly p inner ts i k e q f h l n = record {
  stops = λ s w. stops_quiet p inner ts i k s e q l n w;
  whole = λ d m w.
      let a = then_depth 0 (Node p d) NoMore in let b = none_depth (depth_behind 0 (Node p d)) in let c = plain_depth p e 0 d in let g = quiet_depth p q d in let o = w.shallow in
      record { is = node ts i l n w.is; shallow = omega arith; further = w.further; within = w.within };
  plain = f;
  fits = h;
  further = omega arith;
  within = l;
}

pub openly : {p : Phrase} {q : Part} {ps : List Part} {ts : List Token} {i j n : ℕ} (k : ℕ) (o : Opens p q ps ts i j n) → are_plain ps ≡ true → k + n ≤ 200
    → Before (A p ∷ []) ts i k (λ d. Then (Node p (Then (Leaf o.passed.token) d)) NoMore) ps j (k + n)
openly {p} {ts} {i} {n} k o e h =
    let c = o.passed in let z = c.further in
    record {
      stops = λ s w. stops_opened k s o w;
      whole = λ d m w.
          let x : Derivation One = Node p (Then (Leaf c.token) d) in
          let y = opened o w.is in
          let a = then_depth 0 x NoMore in let b = none_depth (depth_behind 0 x) in let f = y.depth in let g = w.shallow in let l = w.further in
          record { is = y.is; shallow = omega arith; further = omega arith; within = w.within };
      plain = e;
      fits = h;
      further = omega arith;
      within = c.within;
    }

pub within_row : {outer : List Part} {ts : List Token} {i k : ℕ} {front : Derivation Row → Derivation Row} (ps qs : List Part) {j l : ℕ} → Before outer ts i k front (ps ++ qs) j l → (s : Stop)
    → Stops ps (drop j ts) ts l 0 s → Stops outer (drop i ts) ts k 0 s
within_row {ts} ps qs {j} {l} b s w = b.stops s (stops_more ps qs (drop j ts) ts l 0 s w)

pub phrase_ends : {p : Phrase} {ts : List Token} {i k : ℕ} {front : Derivation Row → Derivation One} {j l : ℕ} → Before (A p ∷ []) ts i k (λ d. Then (front d) NoMore) [] j l → Parted (A p ∷ []) ts i j k (Then (front NoMore) NoMore)
phrase_ends b = ends b

-- What has been read, and why reading stops, from part to part.
use Rattle.std.proofs.Common.{◌≡◌, ◌≤◌, ◌<◌, ◌+◌, ℕ, true, List, [], ◌∷◌, length, drop, Some, None, refl, sym, ap, subst, arith}
use Rattle.vx_ast.specs.declared.token.Token.{Token}
use Rattle.vx_ast.specs.Tree.{One, Row}
use Rattle.vx_ast.specs.Phrases.{Phrase, Part, A, Fits, parts_of, Derivation, Leaf, Node, NoMore, Then, Is, nothing, token, phrase, Stuck, unfit, behind, no_phrase, inside, after, Begins, reached, reached_behind, reached_inside, reached_after}
use Rattle.vx_ast.specs.Derivations.{depth_behind, row_depth, itself}
use Rattle.vx_parse.specs.declared.stop.Stop.{Stop}
use Rattle.vx_parse.specs.declared.stop.Stop.TheVariants.{Unexpected, TooDeep, NoMemory}
use Rattle.vx_parse.specs.Reading.{next_kind, Passed, Misfit, Deep, Stops}
use Rattle.vx_parse.proofs.Tokens.{next_token}
use Rattle.vx_parse.proofs.Depths.{is_plain, are_plain, is_quiet, leaf_depth, none_depth, then_depth, plain_depth, beside, stuck_plain, begins_plain, quiet_depth}

-- reading

pub pass : {q : Part} {ts : List Token} {i j : ℕ} (p : Passed q ts i j) → Is (q ∷ []) (drop i ts) (Then (Leaf p.token) NoMore) (drop j ts)
pass {q} {ts} {j} p = subst (λ l. Is (q ∷ []) l (Then (Leaf p.token) NoMore) (drop j ts)) (sym p.is) (token p.fits nothing)

pub and_then : {q : Part} {ps : List Part} {a b c : List Token} {x : Derivation One} {d : Derivation Row} → Is (q ∷ []) a (Then x NoMore) b → Is ps b d c → Is (q ∷ ps) a (Then x d) c
and_then (token f nothing) e = token f e
and_then (phrase p inner k i nothing) e = phrase p inner k i e

pub node : {p : Phrase} {inner : List Part} {rest : List Token} {d : Derivation Row} (ts : List Token) (i : ℕ) → i < length ts → parts_of p (next_kind (drop i ts)) ≡ Some inner
    → Is inner (drop i ts) d rest → Is (A p ∷ []) (drop i ts) (Then (Node p d) NoMore) rest
node {p} {inner} {rest} {d} ts i h k a =
    let t = next_token ts i h in
    let same : next_kind (drop i ts) ≡ t.token.kind = ap next_kind t.is in
    subst (λ l. Is (A p ∷ []) l (Then (Node p d) NoMore) rest) (sym t.is) (phrase p inner (subst (λ z. parts_of p z ≡ Some inner) same k) (subst (λ l. Is inner l d rest) t.is a) nothing)

-- stopping, step by step

pub no_parts : {ps : List Part} {a b : List Token} {d : Derivation Row} → ps ≡ [] → Stuck ps a d b → ⊥
no_parts e (unfit n u) = cc
no_parts e (behind f s) = cc
no_parts e (no_phrase p n) = cc
no_parts e (inside p inner k s) = cc
no_parts e (after p inner k i s) = cc

pub stuck_first : {q : Part} {ps : List Part} {a b : List Token} {d : Derivation Row} → Stuck (q ∷ []) a d b → Stuck (q ∷ ps) a d b
stuck_first (unfit n u) = unfit n u
stuck_first (behind f s) = absurd (no_parts refl s)
stuck_first (no_phrase p n) = no_phrase p n
stuck_first (inside p inner k s) = inside p inner k s
stuck_first (after p inner k i s) = absurd (no_parts refl s)

pub begins_first : {q : Part} {ps : List Part} {a b : List Token} {d : Derivation Row} → Begins (q ∷ []) a d b → Begins (q ∷ ps) a d b
begins_first reached = reached
begins_first (reached_behind f reached) = reached_behind f reached
begins_first (reached_inside p inner k s) = reached_inside p inner k s
begins_first (reached_after p inner k i reached) = reached_after p inner k i reached

pub stuck_after : {q : Part} {ps : List Part} {a b c : List Token} {x : Derivation One} {d : Derivation Row} → Is (q ∷ []) a (Then x NoMore) b → Stuck ps b d c → Stuck (q ∷ ps) a (Then x d) c
stuck_after (token f nothing) s = behind f s
stuck_after (phrase p inner k i nothing) s = after p inner k i s

pub begins_after : {q : Part} {ps : List Part} {a b c : List Token} {x : Derivation One} {d : Derivation Row} → Is (q ∷ []) a (Then x NoMore) b → Begins ps b d c → Begins (q ∷ ps) a (Then x d) c
begins_after (token f nothing) s = reached_behind f s
begins_after (phrase p inner k i nothing) s = reached_after p inner k i s

pub stops_first : (q : Part) (ps : List Part) (here ts : List Token) (k left : ℕ) (s : Stop) → Stops (q ∷ []) here ts k left s → Stops (q ∷ ps) here ts k left s
stops_first q ps here ts k left (Unexpected i) w = (w.0, record { derivation = w.1.derivation; stuck = stuck_first w.1.stuck; shallow = w.1.shallow })
stops_first q ps here ts k left TooDeep w = record { derivation = w.derivation; rest = w.rest; begins = begins_first w.begins; deep = w.deep }
stops_first q ps here ts k left NoMemory w = tt

pub stops_after : {q : Part} (ps : List Part) {here mid : List Token} (ts : List Token) (k : ℕ) (s : Stop) {x : Derivation One} → Is (q ∷ []) here (Then x NoMore) mid → k + depth_behind 0 x ≤ 200
    → are_plain ps ≡ true → Stops ps mid ts k 0 s → Stops (q ∷ ps) here ts k 0 s
stops_after ps ts k (Unexpected i) {x} a h e w =
    let d = then_depth 0 x w.1.derivation in let f = beside (stuck_plain e w.1.stuck) (depth_behind 0 x) in let g = w.1.shallow in
    (w.0, record { derivation = Then x w.1.derivation; stuck = stuck_after a w.1.stuck; shallow = omega arith })
stops_after ps ts k TooDeep {x} a h e w =
    let d = then_depth 0 x w.derivation in let f = beside (begins_plain e w.begins) (depth_behind 0 x) in let g = w.deep in
    record { derivation = Then x w.derivation; rest = w.rest; begins = begins_after a w.begins; deep = omega arith }
stops_after ps ts k NoMemory a h e w = tt

-- behind what is taken as a left operand
pub stops_then : {q : Part} (ps : List Part) {here mid : List Token} (ts : List Token) (k left h : ℕ) (s : Stop) {x : Derivation One} → Is (q ∷ []) here (Then x NoMore) mid → depth_behind left x ≡ h
    → Stops ps mid ts k h s → Stops (q ∷ ps) here ts k left s
stops_then ps ts k left h (Unexpected i) {x} a e w =
    let d = then_depth left x w.1.derivation in let f : row_depth (depth_behind left x) w.1.derivation ≡ row_depth h w.1.derivation = ap (λ n. row_depth n w.1.derivation) e in let g = w.1.shallow in
    (w.0, record { derivation = Then x w.1.derivation; stuck = stuck_after a w.1.stuck; shallow = omega arith })
stops_then ps ts k left h TooDeep {x} a e w =
    let d = then_depth left x w.derivation in let f : row_depth (depth_behind left x) w.derivation ≡ row_depth h w.derivation = ap (λ n. row_depth n w.derivation) e in let g = w.deep in
    record { derivation = Then x w.derivation; rest = w.rest; begins = begins_after a w.begins; deep = omega arith }
stops_then ps ts k left h NoMemory a e w = tt

-- the token is not this part
pub stops_misfit : (q : Part) (ps : List Part) (ts : List Token) (i k left : ℕ) (s : Stop) → ((p : Phrase) → q ≡ A p → ⊥) → i < length ts → k + left ≤ 200 → Misfit q ts i s
    → Stops (q ∷ ps) (drop i ts) ts k left s
stops_misfit q ps ts i k left s n h f m =
    let t = next_token ts i h in
    let same : next_kind (drop i ts) ≡ t.token.kind = ap next_kind t.is in
    let u : Stuck (q ∷ ps) (t.token ∷ drop (i + 1) ts) NoMore (t.token ∷ drop (i + 1) ts) = unfit n (subst (λ z. Fits q z → ⊥) same m.unfit) in
    let v : Stuck (q ∷ ps) (drop i ts) NoMore (drop i ts) = subst (λ l. Stuck (q ∷ ps) l NoMore l) (sym t.is) u in
    let e = none_depth left in
    let w : Stops (q ∷ ps) (drop i ts) ts k left (Unexpected i) = (h, record { derivation = NoMore; stuck = v; shallow = omega arith }) in
    subst (λ z. Stops (q ∷ ps) (drop i ts) ts k left z) (sym m.is) w

-- no phrase begins with the token
pub stops_no_phrase : (p : Phrase) (ts : List Token) (i k : ℕ) → i < length ts → k ≤ 200 → parts_of p (next_kind (drop i ts)) ≡ None → Stops (A p ∷ []) (drop i ts) ts k 0 (Unexpected i)
stops_no_phrase p ts i k h f n =
    let t = next_token ts i h in
    let same : next_kind (drop i ts) ≡ t.token.kind = ap next_kind t.is in
    let u : Stuck (A p ∷ []) (t.token ∷ drop (i + 1) ts) NoMore (t.token ∷ drop (i + 1) ts) = no_phrase p (subst (λ z. parts_of p z ≡ None) same n) in
    let v : Stuck (A p ∷ []) (drop i ts) NoMore (drop i ts) = subst (λ l. Stuck (A p ∷ []) l NoMore l) (sym t.is) u in
    let e = none_depth 0 in
    (h, record { derivation = NoMore; stuck = v; shallow = omega arith })

-- inside a phrase

pub stuck_node : {p : Phrase} {inner : List Part} {rest : List Token} {d : Derivation Row} (ts : List Token) (i : ℕ) → i < length ts → parts_of p (next_kind (drop i ts)) ≡ Some inner
    → Stuck inner (drop i ts) d rest → Stuck (A p ∷ []) (drop i ts) (Then (Node p d) NoMore) rest
stuck_node {p} {inner} {rest} {d} ts i h k a =
    let t = next_token ts i h in
    let same : next_kind (drop i ts) ≡ t.token.kind = ap next_kind t.is in
    subst (λ l. Stuck (A p ∷ []) l (Then (Node p d) NoMore) rest) (sym t.is) (inside p inner (subst (λ z. parts_of p z ≡ Some inner) same k) (subst (λ l. Stuck inner l d rest) t.is a))

pub begins_node : {p : Phrase} {inner : List Part} {rest : List Token} {d : Derivation Row} (ts : List Token) (i : ℕ) → i < length ts → parts_of p (next_kind (drop i ts)) ≡ Some inner
    → Begins inner (drop i ts) d rest → Begins (A p ∷ []) (drop i ts) (Then (Node p d) NoMore) rest
begins_node {p} {inner} {rest} {d} ts i h k a =
    let t = next_token ts i h in
    let same : next_kind (drop i ts) ≡ t.token.kind = ap next_kind t.is in
    subst (λ l. Begins (A p ∷ []) l (Then (Node p d) NoMore) rest) (sym t.is) (reached_inside p inner (subst (λ z. parts_of p z ≡ Some inner) same k) (subst (λ l. Begins inner l d rest) t.is a))

-- a phrase whose depth behind what stands before it is that of its parts in so many constructs less or more
pub stops_node : (p : Phrase) (inner : List Part) (ts : List Token) (i k left k' left' : ℕ) (s : Stop) → i < length ts → parts_of p (next_kind (drop i ts)) ≡ Some inner
    → ((d : Derivation Row) (rest : List Token) → Stuck inner (drop i ts) d rest → k' + row_depth left' d ≤ 200 → k + depth_behind left (Node p d) ≤ 200)
    → ((d : Derivation Row) (rest : List Token) → Begins inner (drop i ts) d rest → 200 < k' + row_depth left' d → 200 < k + depth_behind left (Node p d))
    → Stops inner (drop i ts) ts k' left' s → Stops (A p ∷ []) (drop i ts) ts k left s
stops_node p inner ts i k left k' left' (Unexpected j) h e low high w =
    let d = w.1.derivation in
    let a = then_depth left (Node p d) NoMore in let b = none_depth (depth_behind left (Node p d)) in let c = low d (drop j ts) w.1.stuck w.1.shallow in
    (w.0, record { derivation = Then (Node p d) NoMore; stuck = stuck_node ts i h e w.1.stuck; shallow = omega arith })
stops_node p inner ts i k left k' left' TooDeep h e low high w =
    let d = w.derivation in
    let a = then_depth left (Node p d) NoMore in let b = none_depth (depth_behind left (Node p d)) in let c = high d w.rest w.begins w.deep in
    record { derivation = Then (Node p d) NoMore; rest = w.rest; begins = begins_node ts i h e w.begins; deep = omega arith }
stops_node p inner ts i k left k' left' NoMemory h e low high w = tt

-- a phrase that is no construct
pub stops_quiet : (p : Phrase) (inner : List Part) (ts : List Token) (i k : ℕ) (s : Stop) → is_plain p ≡ true → is_quiet p ≡ true → i < length ts
    → parts_of p (next_kind (drop i ts)) ≡ Some inner → Stops inner (drop i ts) ts k 0 s → Stops (A p ∷ []) (drop i ts) ts k 0 s
stops_quiet p inner ts i k s a b h e w =
    stops_node p inner ts i k 0 k 0 s h e
    (λ d rest o f. let x = plain_depth p a 0 d in let y = quiet_depth p b d in omega arith)
    (λ d rest o f. let x = plain_depth p a 0 d in let y = quiet_depth p b d in omega arith) w

-- a phrase that begins with a token, with which it counts as so many constructs
pub record Opens (p : Phrase) (q : Part) (ps : List Part) (ts : List Token) (i j n : ℕ) : Type 0 where
  pub passed : Passed q ts i j
  pub here : i < length ts
  pub parts : parts_of p (next_kind (drop i ts)) ≡ Some (q ∷ ps)
  pub counts : (d : Derivation Row) → itself p (Then (Leaf passed.token) d) ≡ n
  pub plain : is_plain p ≡ true

opened_depth : {p : Phrase} {q : Part} {ps : List Part} {ts : List Token} {i j n : ℕ} (o : Opens p q ps ts i j n) (d : Derivation Row)
    → depth_behind 0 (Node p (Then (Leaf o.passed.token) d)) ≡ n + row_depth 0 d
opened_depth {p} o d =
    let t = o.passed.token in
    let a = plain_depth p o.plain 0 (Then (Leaf t) d) in let b = o.counts d in let c = then_depth 0 (Leaf t) d in
    let e : row_depth (depth_behind 0 (Leaf t)) d ≡ row_depth 0 d = ap (λ m. row_depth m d) (leaf_depth 0 t) in
    omega arith

pub stops_opened : {p : Phrase} {q : Part} {ps : List Part} {ts : List Token} {i j n : ℕ} (k : ℕ) (s : Stop) → Opens p q ps ts i j n → Stops ps (drop j ts) ts (k + n) 0 s
    → Stops (A p ∷ []) (drop i ts) ts k 0 s
stops_opened {p} {q} {ps} {ts} {i} {j} k (Unexpected m) o w =
    let d = w.1.derivation in let t = o.passed.token in let x : Derivation Row = Then (Leaf t) d in
    let a = then_depth 0 (Node p x) NoMore in let b = none_depth (depth_behind 0 (Node p x)) in let c = opened_depth o d in let e = w.1.shallow in
    (w.0, record { derivation = Then (Node p x) NoMore; stuck = stuck_node ts i o.here o.parts (stuck_after (pass o.passed) w.1.stuck); shallow = omega arith })
stops_opened {p} {q} {ps} {ts} {i} {j} k TooDeep o w =
    let d = w.derivation in let t = o.passed.token in let x : Derivation Row = Then (Leaf t) d in
    let a = then_depth 0 (Node p x) NoMore in let b = none_depth (depth_behind 0 (Node p x)) in let c = opened_depth o d in let e = w.deep in
    record { derivation = Then (Node p x) NoMore; rest = w.rest; begins = begins_node ts i o.here o.parts (begins_after (pass o.passed) w.begins); deep = omega arith }
stops_opened k NoMemory o w = tt

-- the construct itself is too deep
pub too_deep : {p : Phrase} {q : Part} {ps : List Part} {ts : List Token} {i j : ℕ} (k : ℕ) → Opens p q ps ts i j 1 → 200 ≤ k → Stops (A p ∷ []) (drop i ts) ts k 0 TooDeep
too_deep {ps} {ts} {j} k o h =
    let e = none_depth 0 in
    let w : Deep ps (drop j ts) (k + 1) 0 = record { derivation = NoMore; rest = drop j ts; begins = reached; deep = omega arith } in
    stops_opened k TooDeep o w

pub record Opened (p : Phrase) (ts rest : List Token) (i : ℕ) (x : Derivation One) (height : ℕ) : Type 0 where
  pub is : Is (A p ∷ []) (drop i ts) (Then x NoMore) rest
  pub depth : depth_behind 0 x ≡ height

pub opened : {p : Phrase} {q : Part} {ps : List Part} {ts rest : List Token} {i j n : ℕ} {d : Derivation Row} (o : Opens p q ps ts i j n) → Is ps (drop j ts) d rest
    → Opened p ts rest i (Node p (Then (Leaf o.passed.token) d)) (n + row_depth 0 d)
opened {ts} {i} {d} o a = record { is = node ts i o.here o.parts (and_then (pass o.passed) a); depth = opened_depth o d }

-- A program put together from pieces, each with what may be in flight at its start, has a certificate.
use Rattle.std.proofs.Common.{◌≡◌, ℕ, zero, suc, ◌+◌, ◌-◌, ◌≤◌, Bool, true, false, Option, Some, None, List, [], ◌∷◌, ◌++◌, length, length-append, append_assoc, cond, refl, sym, ap, ◌∙◌, subst, arith, ⊎_elim}
use Rattle.std.specs.Prelude.{◌⊎◌, slice_get, max}
use Rattle.vx_base.proofs.Settle.{Tells}
use Rattle.vx_base.proofs.Certificate.{IsCertificate}

-- words of type W over registers of type R: how many cycles a word takes, whether the next word may follow it, where else
-- it may lead, which registers it touches, which it writes with which latency, and what is in flight after it
pub record Kind (W R : Type 0) : Type 1 where
  pub cycles : W → ℕ
  pub falls : W → Bool
  pub Jumps : W → ℕ → Type 0
  pub Touched : W → R → Type 0
  pub Written : W → R → ℕ → Type 0
  pub cooled : W → (R → ℕ) → R → ℕ

pub record Cools {W R : Type 0} (kind : Kind W R) : Type 0 where
  pub more : (w : W) (g h : R → ℕ) → ((r : R) → g r ≤ h r) → (r : R) → kind.cooled w g r ≤ kind.cooled w h r
  pub kept : (w : W) (h : R → ℕ) (r : R) → h r ≤ kind.cooled w h r + kind.cycles w
  pub fresh : (w : W) (h : R → ℕ) (r : R) (l : ℕ) → kind.Written w r l → l ≤ kind.cooled w h r + kind.cycles w

pub record Piece (W R : Type 0) : Type 0 where
  pub start : R → ℕ
  pub words : List W

abbrev pub words_of : {W R : Type 0} → List (Piece W R) → List W
words_of [] = []
words_of (x ∷ ps) = x.words ++ words_of ps

abbrev pub cold : {R : Type 0} → R → ℕ
cold r = 0

abbrev pub look_up : {R : Type 0} → List (R → ℕ) → ℕ → R → ℕ
look_up [] p = cold
look_up (h ∷ hs) zero = h
look_up (h ∷ hs) (suc p) = look_up hs p

module _ {W R : Type 0} (kind : Kind W R) where
  abbrev pub next_heat : W → (R → ℕ) → R → ℕ
  next_heat w h = cond (kind.falls w) (kind.cooled w h) cold

  abbrev pub heats : (R → ℕ) → List W → List (R → ℕ)
  heats h [] = []
  heats h (w ∷ ws) = h ∷ heats (next_heat w h) ws

  abbrev pub heats_of : List (Piece W R) → List (R → ℕ)
  heats_of [] = []
  heats_of (x ∷ ps) = heats x.start x.words ++ heats_of ps

  abbrev pub Meets : (R → ℕ) → W → Type 0
  Meets h w = (r : R) → kind.Touched w r → h r ≡ 0

  -- the words meet nothing in flight, come to their jumps' targets cool enough, and end below e
  abbrev pub Fine : (ℕ → R → ℕ) → (R → ℕ) → List W → (R → ℕ) → Type 0
  Fine heat h [] e = (r : R) → h r ≤ e r
  Fine heat h (w ∷ ws) e = Meets h w × ((q : ℕ) (r : R) → kind.Jumps w q → kind.cooled w h r ≤ heat q r) × Fine heat (next_heat w h) ws e

  -- pieces that fit: each ends below the heat of the place behind it
  abbrev pub Joined : (ℕ → R → ℕ) → ℕ → List (Piece W R) → Type 0
  Joined heat p [] = Unit {0}
  Joined heat p (x ∷ ps) = Fine heat x.start x.words (heat (p + length x.words)) × Joined heat (p + length x.words) ps

  -- where a word may lead
  abbrev pub CanLead : W → ℕ → ℕ → Type 0
  CanLead w here q = ((q ≡ here + 1) × (kind.falls w ≡ true)) ⊎ kind.Jumps w q

  -- the program's paths
  abbrev pub Leads : List W → ℕ → ℕ → Type 0
  Leads words p q = (w : W) × (slice_get words p ≡ Some w) × CanLead w p q

  abbrev pub cycles_of : Option W → ℕ
  cycles_of None = 1
  cycles_of (Some w) = kind.cycles w

  abbrev pub cycles_at : List W → ℕ → ℕ
  cycles_at words p = cycles_of (slice_get words p)

  abbrev pub TouchesAt : List W → ℕ → R → Type 0
  TouchesAt words p r = (w : W) × (slice_get words p ≡ Some w) × kind.Touched w r

  abbrev pub WritesAt : List W → ℕ → R → ℕ → Type 0
  WritesAt words p r l = (w : W) × (slice_get words p ≡ Some w) × kind.Written w r l

  module _ (cools : Cools kind) where
    next_more : (w : W) (g h : R → ℕ) → ((r : R) → g r ≤ h r) → (r : R) → next_heat w g r ≤ next_heat w h r
    next_more w g h le r = by_test (kind.falls w)
      where
        by_test : (b : Bool) → cond b (kind.cooled w g) cold r ≤ cond b (kind.cooled w h) cold r
        by_test true = cools.more w g h le r
        by_test false = omega arith

    meets_less : (g h : R → ℕ) (w : W) → ((r : R) → g r ≤ h r) → Meets h w → Meets g w
    meets_less g h w le m r t = let a = le r in let z = m r t in omega arith

    -- words that are fine are so with less in flight, and one after the other
    pub fine_less : (heat : ℕ → R → ℕ) (g h e : R → ℕ) (ws : List W) → ((r : R) → g r ≤ h r) → Fine heat h ws e → Fine heat g ws e
    fine_less heat g h e [] le f = λ r. (let a = le r in let b = f r in omega arith)
    fine_less heat g h e (w ∷ ws) le f = (meets_less g h w le f.0, (λ q r j. (let a = cools.more w g h le r in let b = f.1 q r j in omega arith)), fine_less heat (next_heat w g) (next_heat w h) e ws (next_more w g h le) f.2)

    pub fine_append : (heat : ℕ → R → ℕ) (h m e : R → ℕ) (xs ys : List W) → Fine heat h xs m → Fine heat m ys e → Fine heat h (xs ++ ys) e
    fine_append heat h m e [] ys f g = fine_less heat h m e ys f g
    fine_append heat h m e (w ∷ xs) ys f g = (f.0, f.1, fine_append heat (next_heat w h) m e xs ys f.2 g)

    pub fine_end : (heat : ℕ → R → ℕ) (h e d : R → ℕ) (ws : List W) → ((r : R) → e r ≤ d r) → Fine heat h ws e → Fine heat h ws d
    fine_end heat h e d [] le f = λ r. (let a = le r in let b = f r in omega arith)
    fine_end heat h e d (w ∷ ws) le f = (f.0, f.1, fine_end heat (next_heat w h) e d ws le f.2)

    module _ (heat : ℕ → R → ℕ) where
      abbrev Local : ℕ → W → Type 0
      Local p w = Meets (heat p) w × ((q : ℕ) (r : R) → CanLead w p q → kind.cooled w (heat p) r ≤ heat q r)

      abbrev AllAt : ℕ → List W → Type 0
      AllAt p [] = Unit {0}
      AllAt p (w ∷ ws) = Local p w × AllAt (p + 1) ws

      abbrev Agree : ℕ → List (R → ℕ) → Type 0
      Agree p [] = Unit {0}
      Agree p (h ∷ hs) = (heat p ≡ h) × Agree (p + 1) hs

      agree_left : (p : ℕ) (xs ys : List (R → ℕ)) → Agree p (xs ++ ys) → Agree p xs
      agree_left p [] ys a = tt
      agree_left p (x ∷ xs) ys a = (a.0, agree_left (p + 1) xs ys a.1)

      agree_right : (p : ℕ) (xs ys : List (R → ℕ)) → Agree p (xs ++ ys) → Agree (p + length xs) ys
      agree_right p [] ys a = let e : p ≡ p + 0 = omega arith in subst (λ q. Agree q ys) e a
      agree_right p (x ∷ xs) ys a = let e : (p + 1) + length xs ≡ p + suc (length xs) = omega arith in subst (λ q. Agree q ys) e (agree_right (p + 1) xs ys a.1)

      all_append : (p : ℕ) (xs ys : List W) → AllAt p xs → AllAt (p + length xs) ys → AllAt p (xs ++ ys)
      all_append p [] ys a b = let e : p + 0 ≡ p = omega arith in subst (λ q. AllAt q ys) e b
      all_append p (x ∷ xs) ys a b = let e : p + suc (length xs) ≡ (p + 1) + length xs = omega arith in (a.0, all_append (p + 1) xs ys a.1 (subst (λ q. AllAt q ys) e b))

      -- what is in flight behind a word is below what stands at the next place
      next_below : (h e : R → ℕ) (p : ℕ) (ws : List W) → Fine heat h ws e → Agree p (heats h ws) → ((r : R) → e r ≤ heat (p + length ws) r) → (r : R) → h r ≤ heat p r
      next_below h e p [] f a le r = let k = f r in let l = le r in let q : p + 0 ≡ p = omega arith in let z = ap (λ x. heat x r) q in omega arith
      next_below h e p (w ∷ ws) f a le r = let z = ap (λ x. x r) a.0 in omega arith

      fine_local : (h e : R → ℕ) (p : ℕ) (ws : List W) → Fine heat h ws e → Agree p (heats h ws) → ((r : R) → e r ≤ heat (p + length ws) r) → AllAt p ws
      fine_local h e p [] f a le = tt
      fine_local h e p (w ∷ ws) f a le =
          let q : p + suc (length ws) ≡ (p + 1) + length ws = omega arith in
          let le1 : (r : R) → e r ≤ heat ((p + 1) + length ws) r = λ r. subst (λ x. e r ≤ heat x r) q (le r) in
          let below : (r : R) → heat p r ≤ h r = λ r. (let z = ap (λ x. x r) a.0 in omega arith) in (
            (
              meets_less (heat p) h w below f.0,
              λ t r c. ⊎_elim
                  (λ x. (let a1 = cools.more w (heat p) h below r in
                  let b : next_heat w h r ≡ kind.cooled w h r = ap (λ b. cond b (kind.cooled w h) cold r) x.1 in
                  let n = next_below (next_heat w h) e (p + 1) ws f.2 a.1 le1 r in
                  let y = ap (λ z. heat z r) x.0 in omega arith))
                  (λ j. (let a1 = cools.more w (heat p) h below r in let b = f.1 t r j in omega arith))
                  c,
            ),
            fine_local (next_heat w h) e (p + 1) ws f.2 a.1 le1,
          )

      heats_length : (h : R → ℕ) (ws : List W) → length (heats h ws) ≡ length ws
      heats_length h [] = refl
      heats_length h (w ∷ ws) = ap suc (heats_length (next_heat w h) ws)

      joined_local : (p : ℕ) (ps : List (Piece W R)) → Joined heat p ps → Agree p (heats_of ps) → AllAt p (words_of ps)
      joined_local p [] j a = tt
      joined_local p (x ∷ ps) j a =
          let a2 = agree_right p (heats x.start x.words) (heats_of ps) a in
          let e : p + length (heats x.start x.words) ≡ p + length x.words = ap (λ n. p + n) (heats_length x.start x.words) in
          all_append p x.words (words_of ps) (fine_local x.start (heat (p + length x.words)) p x.words j.0 (agree_left p (heats x.start x.words) (heats_of ps) a) (λ r. omega arith))
          (joined_local (p + length x.words) ps j.1 (subst (λ q. Agree q (heats_of ps)) e a2))

      local_at : (p i : ℕ) (ws : List W) (w : W) → AllAt p ws → slice_get ws i ≡ Some w → Local (p + i) w
      local_at p i [] w a e = absurd (cc)
      local_at p zero (x ∷ ws) w a e = let q : p ≡ p + 0 = omega arith in let s : x ≡ w = cc in subst (λ k. Local k w) q (subst (Local p) s a.0)
      local_at p (suc i) (x ∷ ws) w a e = let q : (p + 1) + i ≡ p + suc i = omega arith in subst (λ k. Local k w) q (local_at (p + 1) i ws w a.1 e)

      at_place : (words : List W) → AllAt 0 words → (p : ℕ) (w : W) → slice_get words p ≡ Some w → Local p w
      at_place words all p w e = let q : 0 + p ≡ p = omega arith in subst (λ k. Local k w) q (local_at 0 p words w all e)

      -- what holds at each place is a certificate
      local_certificate : (words : List W) → AllAt 0 words → IsCertificate (Leads words) (cycles_at words) (TouchesAt words) (WritesAt words) heat
      local_certificate words all = record {
        kept = λ p q r l. (let a = (at_place words all p l.0 l.1).1 q r l.2 in let b = cools.kept l.0 (heat p) r in let c : cycles_at words p ≡ kind.cycles l.0 = ap cycles_of l.1 in omega arith);
        fresh = λ p q r n l w. (let same : Some l.0 ≡ Some w.0 = sym l.1 ∙ w.1 in
            let is : w.0 ≡ l.0 = cc in
            let a = (at_place words all p l.0 l.1).1 q r l.2 in
            let b = cools.fresh l.0 (heat p) r n (subst (λ x. kind.Written x r n) is w.2) in
            let c : cycles_at words p ≡ kind.cycles l.0 = ap cycles_of l.1 in omega arith);
        cold = λ p r t. (at_place words all p t.0 t.1).0 r t.2;
      }

    pub look_at : (done rest : List (R → ℕ)) (h : R → ℕ) → look_up (done ++ h ∷ rest) (length done) ≡ h
    look_at [] rest h = refl
    look_at (d ∷ done) rest h = look_at done rest h

    looks : (done rest : List (R → ℕ)) → Agree (look_up (done ++ rest)) (length done) rest
    looks done [] = tt
    looks done (h ∷ rest) =
        let e : (done ++ (h ∷ [])) ++ rest ≡ done ++ h ∷ rest = append_assoc done (h ∷ []) rest in
        let l : length (done ++ (h ∷ [])) ≡ length done + 1 = length-append done (h ∷ []) in
        (look_at done rest h, subst (λ n. Agree (look_up (done ++ h ∷ rest)) n rest) l (subst (λ z. Agree (look_up z) (length (done ++ (h ∷ []))) rest) e (looks (done ++ (h ∷ [])) rest)))

    -- pieces that fit make a program with a certificate
    pub pieces_certificate : (ps : List (Piece W R)) → Joined (look_up (heats_of ps)) 0 ps → IsCertificate (Leads (words_of ps)) (cycles_at (words_of ps)) (TouchesAt (words_of ps)) (WritesAt (words_of ps)) (look_up (heats_of ps))
    pieces_certificate ps j = local_certificate (look_up (heats_of ps)) (words_of ps) (joined_local (look_up (heats_of ps)) 0 ps j (looks [] (heats_of ps)))

-- writes of words given by lists: what is in flight after a word

pub record Hit (R : Type 0) : Type 0 where
  pub to : R
  pub latency : ℕ

-- one of the hits is to r with latency l
abbrev pub HitsWith : {R : Type 0} → List (Hit R) → R → ℕ → Type 0
HitsWith [] r l = ⊥
HitsWith (x ∷ xs) r l = ((x.to ≡ r) × (x.latency ≡ l)) ⊎ HitsWith xs r l

abbrev pub raised : {R : Type 0} → (R → R → Bool) → List (Hit R) → (R → ℕ) → R → ℕ
raised same [] h = h
raised same (x ∷ xs) h = raised same xs (λ r. cond (same r x.to) (max (h r) x.latency) (h r))

abbrev pub cooled_by : {R : Type 0} → (R → R → Bool) → List (Hit R) → ℕ → (R → ℕ) → R → ℕ
cooled_by same xs cycles h r = raised same xs h r - cycles

module _ {R : Type 0} (same : R → R → Bool) (tells : Tells same) where
  raised_more : (xs : List (Hit R)) (g h : R → ℕ) → ((r : R) → g r ≤ h r) → (r : R) → raised same xs g r ≤ raised same xs h r
  raised_more [] g h le r = le r
  raised_more (x ∷ xs) g h le r = raised_more xs (λ s. cond (same s x.to) (max (g s) x.latency) (g s)) (λ s. cond (same s x.to) (max (h s) x.latency) (h s)) (λ s. by_test s (same s x.to)) r
    where
      by_test : (s : R) (b : Bool) → cond b (max (g s) x.latency) (g s) ≤ cond b (max (h s) x.latency) (h s)
      by_test s true = let k = le s in omega arith
      by_test s false = le s

  raised_le : (xs : List (Hit R)) (h : R → ℕ) (r : R) → h r ≤ raised same xs h r
  raised_le [] h r = omega arith
  raised_le (x ∷ xs) h r =
      let a = by_test (same r x.to) in
      let b = raised_le xs (λ s. cond (same s x.to) (max (h s) x.latency) (h s)) r in
      omega arith
    where
      by_test : (b : Bool) → h r ≤ cond b (max (h r) x.latency) (h r)
      by_test true = omega arith
      by_test false = omega arith

  raised_at : (xs : List (Hit R)) (h : R → ℕ) (r : R) (l : ℕ) → HitsWith xs r l → l ≤ raised same xs h r
  raised_at [] h r l i = absurd i
  raised_at (x ∷ xs) h r l i = ⊎_elim
      (λ e. (let a : cond (same r x.to) (max (h r) x.latency) (h r) ≡ max (h r) x.latency = ap (λ s. cond (same r s) (max (h r) x.latency) (h r)) e.0 ∙ ap (λ b. cond b (max (h r) x.latency) (h r)) (tells.itself r) in
      let b = raised_le xs (λ s. cond (same s x.to) (max (h s) x.latency) (h s)) r in
      let c = e.1 in
      omega arith))
      (raised_at xs (λ s. cond (same s x.to) (max (h s) x.latency) (h s)) r l)
      i

  pub hits_more : (xs : List (Hit R)) (n : ℕ) (g h : R → ℕ) → ((r : R) → g r ≤ h r) → (r : R) → cooled_by same xs n g r ≤ cooled_by same xs n h r
  hits_more xs n g h le r = let k = raised_more xs g h le r in omega arith

  pub hits_kept : (xs : List (Hit R)) (n : ℕ) (h : R → ℕ) (r : R) → h r ≤ cooled_by same xs n h r + n
  hits_kept xs n h r = let k = raised_le xs h r in omega arith

  pub hits_fresh : (xs : List (Hit R)) (n : ℕ) (h : R → ℕ) (r : R) (l : ℕ) → HitsWith xs r l → l ≤ cooled_by same xs n h r + n
  hits_fresh xs n h r l i = let k = raised_at xs h r l i in omega arith

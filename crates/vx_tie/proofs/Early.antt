-- A program of pieces, each with what may be in flight at its start, reads and writes no register early on any path.
use Rattle.std.proofs.Common.{◌≡◌, ◌⊎◌, inl, inr, ⊎_elim, ◌+◌, ℕ, Bool, true, false, cond, Option, Some, None, List, [], ◌∷◌, ◌++◌, refl, sym, subst, arith}
use Rattle.std.specs.Prelude.{slice_get}
use Rattle.vx_base.proofs.Pieces.{Kind, Cools, Piece, words_of, heats_of, look_up, Joined, Hit, HitsWith, cooled_by, hits_more, hits_kept, hits_fresh, pieces_certificate}
use Rattle.vx_base.proofs.Certificate.{IsCertificate, never_early, never_early_anywhere}
use Rattle.vx_isa.specs.declared.operation.Register.{Register}
use Rattle.vx_isa.specs.declared.operation.Operation.{Operation}
use Rattle.vx_isa.specs.declared.operation.Operation.TheVariants.{Compute, Move, Select, Load, Store, Input, More, OutText, OutDecimal, OutByte, Goto, BranchOn, Call, Return, FromLink, ToLink, EndByTrap, Halt}
use Rattle.vx_isa.specs.declared.program.Word.{Word}
use Rattle.vx_isa.specs.declared.program.WordProgram.{WordProgram}
use Rattle.vx_isa.specs.Numbers.{Numbers}
use Rattle.vx_isa.specs.Operations.{same, is_zero, destination_of, is_call, latency_of}
use Rattle.vx_isa.specs.Fits.{operands, destinations}
use Rattle.vx_isa.specs.Machine.{cycles_of}
use Rattle.vx_isa.specs.Paths.{LeadsTo, Leads, cycles_of_some, cycles_at, Among, ReadsAt, WritesAt, NamesAt, NeverReadsEarly, NeverWritesEarly}
use Rattle.vx_isa.proofs.AnyTiming.{tells}
use Rattle.vx_base.proofs.Pieces as pieces

-- whether the next word may follow, and where else a word may lead

abbrev pub falls : List Operation → Bool
falls [] = true
falls (Compute k code to a b ∷ ops) = falls ops
falls (Move k to a ∷ ops) = falls ops
falls (Select k to t a b ∷ ops) = falls ops
falls (Load k to o r d ∷ ops) = falls ops
falls (Store k o r a ∷ ops) = falls ops
falls (Input to ∷ ops) = falls ops
falls (More to ∷ ops) = falls ops
falls (OutText n ∷ ops) = falls ops
falls (OutDecimal a ∷ ops) = falls ops
falls (OutByte a ∷ ops) = falls ops
falls (Goto p ∷ ops) = false
falls (BranchOn t y p ∷ ops) = falls ops
falls (Call p ∷ ops) = false
falls (Return ∷ ops) = false
falls (FromLink to ∷ ops) = falls ops
falls (ToLink a ∷ ops) = falls ops
falls (EndByTrap k ∷ ops) = false
falls (Halt a ∷ ops) = false

abbrev pub Jumps : List Operation → ℕ → Type 0
Jumps [] q = ⊥
Jumps (Compute k code to a b ∷ ops) q = Jumps ops q
Jumps (Move k to a ∷ ops) q = Jumps ops q
Jumps (Select k to t a b ∷ ops) q = Jumps ops q
Jumps (Load k to o r d ∷ ops) q = Jumps ops q
Jumps (Store k o r a ∷ ops) q = Jumps ops q
Jumps (Input to ∷ ops) q = Jumps ops q
Jumps (More to ∷ ops) q = Jumps ops q
Jumps (OutText n ∷ ops) q = Jumps ops q
Jumps (OutDecimal a ∷ ops) q = Jumps ops q
Jumps (OutByte a ∷ ops) q = Jumps ops q
Jumps (Goto p ∷ ops) q = q ≡ p
Jumps (BranchOn t y p ∷ ops) q = (q ≡ p) ⊎ Jumps ops q
Jumps (Call p ∷ ops) q = q ≡ p
Jumps (Return ∷ ops) q = Unit {0}
Jumps (FromLink to ∷ ops) q = Jumps ops q
Jumps (ToLink a ∷ ops) q = Jumps ops q
Jumps (EndByTrap k ∷ ops) q = ⊥
Jumps (Halt a ∷ ops) q = ⊥

leads_or : (ops : List Operation) (p q : ℕ) → LeadsTo ops p q → ((q ≡ p + 1) × (falls ops ≡ true)) ⊎ Jumps ops q
leads_or [] at q e = inl (e, refl)
leads_or (Compute k code to a b ∷ ops) at q e = leads_or ops at q e
leads_or (Move k to a ∷ ops) at q e = leads_or ops at q e
leads_or (Select k to t a b ∷ ops) at q e = leads_or ops at q e
leads_or (Load k to o r d ∷ ops) at q e = leads_or ops at q e
leads_or (Store k o r a ∷ ops) at q e = leads_or ops at q e
leads_or (Input to ∷ ops) at q e = leads_or ops at q e
leads_or (More to ∷ ops) at q e = leads_or ops at q e
leads_or (OutText n ∷ ops) at q e = leads_or ops at q e
leads_or (OutDecimal a ∷ ops) at q e = leads_or ops at q e
leads_or (OutByte a ∷ ops) at q e = leads_or ops at q e
leads_or (Goto p ∷ ops) at q e = inr e
leads_or (BranchOn t y p ∷ ops) at q e = ⊎_elim (λ z. inr (inl z)) (λ z. ⊎_elim (λ x. inl x) (λ x. inr (inr x)) (leads_or ops at q z)) e
leads_or (Call p ∷ ops) at q e = inr e
leads_or (Return ∷ ops) at q e = inr e
leads_or (FromLink to ∷ ops) at q e = leads_or ops at q e
leads_or (ToLink a ∷ ops) at q e = leads_or ops at q e
leads_or (EndByTrap k ∷ ops) at q e = absurd e
leads_or (Halt a ∷ ops) at q e = absurd e

-- the writes of a word; the link of a call is there at the next word

abbrev pub hit_of : Numbers → Operation → Option Register → List (Hit Register)
hit_of m op None = []
hit_of m op (Some r) = cond (is_call op) [] (record { to = r; latency = latency_of m op } ∷ [])

abbrev pub hits : Numbers → List Operation → List (Hit Register)
hits m [] = []
hits m (op ∷ ops) = hit_of m op (destination_of op) ++ hits m ops

hits_left : (xs ys : List (Hit Register)) (r : Register) (l : ℕ) → HitsWith xs r l → HitsWith (xs ++ ys) r l
hits_left [] ys r l h = absurd h
hits_left (x ∷ xs) ys r l h = ⊎_elim (λ e. inl e) (λ k. inr (hits_left xs ys r l k)) h

hits_right : (xs ys : List (Hit Register)) (r : Register) (l : ℕ) → HitsWith ys r l → HitsWith (xs ++ ys) r l
hits_right [] ys r l h = h
hits_right (x ∷ xs) ys r l h = inr (hits_right xs ys r l h)

pub record Writes (m : Numbers) (ops : List Operation) (r : Register) (l : ℕ) : Type 0 where
  pub op : Operation
  pub among : Among op ops
  pub to_is : destination_of op ≡ Some r
  pub no_call : is_call op ≡ false
  pub latency : latency_of m op ≡ l

hit_here : (m : Numbers) (op : Operation) (r : Register) (l : ℕ) → destination_of op ≡ Some r → is_call op ≡ false → latency_of m op ≡ l → HitsWith (hit_of m op (destination_of op)) r l
hit_here m op r l to_is no_call e =
    subst (λ d. HitsWith (hit_of m op d) r l) (sym to_is)
    (subst (λ b. HitsWith (cond b [] (record { to = r; latency = latency_of m op } ∷ [])) r l) (sym no_call) (inl (refl, e)))

hits_among : (m : Numbers) (ops : List Operation) (op : Operation) (r : Register) (l : ℕ) → Among op ops → destination_of op ≡ Some r → is_call op ≡ false → latency_of m op ≡ l → HitsWith (hits m ops) r l
hits_among m [] op r l i to_is no_call e = absurd i
hits_among m (x ∷ ops) op r l i to_is no_call e = ⊎_elim
    (λ q. subst (λ o. HitsWith (hit_of m o (destination_of o) ++ hits m ops) r l) q (hits_left (hit_of m op (destination_of op)) (hits m ops) r l (hit_here m op r l to_is no_call e)))
    (λ k. hits_right (hit_of m x (destination_of x)) (hits m ops) r l (hits_among m ops op r l k to_is no_call e))
    i

-- words over registers

abbrev pub Touches : List Operation → Register → Type 0
Touches ops r = (Among r (operands ops) ⊎ Among r (destinations ops)) × (is_zero r ≡ false)

abbrev pub words_kind : Numbers → Kind Word Register
words_kind m = record {
  cycles = cycles_of;
  falls = λ w. falls w.ops;
  Jumps = λ w q. Jumps w.ops q;
  Touched = λ w r. Touches w.ops r;
  Written = λ w r l. Writes m w.ops r l;
  cooled = λ w h. cooled_by same (hits m w.ops) (cycles_of w) h;
}

pub words_cool : (m : Numbers) → Cools (words_kind m)
words_cool m = record {
  more = λ w g h le r. hits_more same tells (hits m w.ops) (cycles_of w) g h le r;
  kept = λ w h r. hits_kept same tells (hits m w.ops) (cycles_of w) h r;
  fresh = λ w h r l x. hits_fresh same tells (hits m w.ops) (cycles_of w) h r l (hits_among m w.ops x.op r l x.among x.to_is x.no_call x.latency);
}

module _ (m : Numbers) (w : WordProgram) (hot : ℕ → Register → ℕ) (cert : IsCertificate (pieces.Leads (words_kind m) w.words) (pieces.cycles_at (words_kind m) w.words) (pieces.TouchesAt (words_kind m) w.words) (pieces.WritesAt (words_kind m) w.words) hot) where
  cycles_same : (o : Option Word) → cycles_of_some o ≡ pieces.cycles_of (words_kind m) o
  cycles_same None = refl
  cycles_same (Some word) = refl

  leads_same : (p q : ℕ) → Leads w p q → pieces.Leads (words_kind m) w.words p q
  leads_same p q l = (l.0, l.2, leads_or l.0.ops p q l.4)

  cert_of : (Touched : ℕ → Register → Type 0) → ((p : ℕ) (r : Register) → Touched p r → pieces.TouchesAt (words_kind m) w.words p r) → IsCertificate (Leads w) (cycles_at w) Touched (WritesAt m w) hot
  cert_of Touched touch = record {
    kept = λ p q r l. (let a = cert.kept p q r (leads_same p q l) in let c = cycles_same (slice_get w.words p) in omega arith);
    fresh = λ p q r n l x. (
        let a = cert.fresh p q r n (leads_same p q l) (x.0, x.2, record { op = x.1; among = x.3; to_is = x.4; no_call = x.6; latency = x.7 }) in
        let c = cycles_same (slice_get w.words p) in omega arith);
    cold = λ p r t. cert.cold p r (touch p r t);
  }

  pub reads_late : NeverReadsEarly m w
  reads_late = never_early_anywhere 0 (Leads w) (cycles_at w) (ReadsAt w) (WritesAt m w)
      (never_early (Leads w) (cycles_at w) (ReadsAt w) (WritesAt m w) hot (cert_of (ReadsAt w) (λ p r t. (t.0, t.1, (inl t.2, t.3)))))

  pub writes_late : NeverWritesEarly m w
  writes_late = never_early_anywhere 0 (Leads w) (cycles_at w) (NamesAt w) (WritesAt m w)
      (never_early (Leads w) (cycles_at w) (NamesAt w) (WritesAt m w) hot (cert_of (NamesAt w) (λ p r t. (t.0, t.1, (inr t.2, t.3)))))

-- a program put together from pieces that fit
pub pieces_late : (m : Numbers) (w : WordProgram) (ps : List (Piece Word Register)) → w.words ≡ words_of ps → Joined (words_kind m) (look_up (heats_of (words_kind m) ps)) 0 ps → NeverReadsEarly m w × NeverWritesEarly m w
pieces_late m w ps e j =
    let hot : ℕ → Register → ℕ = look_up (heats_of (words_kind m) ps) in
    let cert = subst (λ ws. IsCertificate (pieces.Leads (words_kind m) ws) (pieces.cycles_at (words_kind m) ws) (pieces.TouchesAt (words_kind m) ws) (pieces.WritesAt (words_kind m) ws) hot) (sym e) (pieces_certificate (words_kind m) (words_cool m) ps j) in
    (reads_late m w hot cert, writes_late m w hot cert)

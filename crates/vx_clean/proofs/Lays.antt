-- Linked chains of blocks of a graph are that graph cleaned.
use Rattle.std.proofs.Common.{◌≡◌, ◌⊎◌, inl, inr, ℕ, zero, suc, ◌+◌, ◌<◌, ◌==◌, Bool, true, false, List, [], ◌∷◌, ◌++◌, length, drop, slice_get, Some, refl, sym, ap, ◌∙◌, subst, arith}
use Rattle.std.proofs.lemmas.Bool.{eqb-true, eq-eqb}
use Rattle.std.proofs.lemmas.Option.{slice_get-map}
use Rattle.std.specs.Option.{option_map}
use Rattle.vx_flow.specs.declared.graph.Op.{Op}
use Rattle.vx_flow.specs.declared.graph.Exit.{Exit}
use Rattle.vx_flow.specs.declared.graph.Exit.TheVariants.{Goto, Split, Call, Return, Ends}
use Rattle.vx_flow.specs.declared.graph.Block.{Block}
use Rattle.vx_flow.specs.declared.graph.Graph.{Graph}
use Rattle.vx_flow.specs.Effects.{IsIn}
use Rattle.vx_flow.specs.Sound.{targets_of}
use Rattle.vx_flow.proofs.Members.{in_left, in_right, in_either}
use Rattle.vx_clean.specs.Cleaning.{Place, Heads, ExitMeets, Comes, GoesOn, Stands}
use Rattle.vx_clean.specs.Laying.{ops_at, ops_of, one_way, moved, exit_at, last_exit, joined, laid, Near, Begun, ExitLinked, Linked, found_if, places_in, places_from, LaidCleaned}
use Rattle.vx_clean.proofs.Cleans.{more}

found_later : (v : Bool) (p q : Place) (ps : List Place) → IsIn q ps → IsIn q (found_if v p ps)
found_later true p q ps m = inr m
found_later false p q ps m = m

found_first : (v : Bool) (p : Place) (ps : List Place) → v ≡ true → IsIn p (found_if v p ps)
found_first true p ps e = inl refl
found_first false p ps e = let d : false ≡ true = e in absurd (cc)

module _ (blocks : List Block) where
  near_place : (c i k : ℕ) (bs : List ℕ) → Near blocks c bs → (left : ℕ) × (left < length bs) × IsIn (record { block = i; before = k; left = left }) (places_in blocks i k bs c)
  near_place c i k [] m = absurd m
  near_place c i k (b ∷ bs) (inl e) =
      let l : length bs < suc (length bs) = omega arith in
      (length bs, l, found_first (b == c) (record { block = i; before = k; left = length bs }) (places_in blocks i (k + length (ops_at (slice_get blocks b))) bs c) (eq-eqb b c e))
  near_place c i k (b ∷ bs) (inr m) =
      let x = near_place c i k bs m.1 in
      let h : x.0 < length bs = x.1 in
      let l : x.0 < suc (length bs) = omega arith in
      let q : Place = record { block = i; before = k; left = x.0 } in
      let z : k + 0 ≡ k = omega arith in
      let e : k + length (ops_at (slice_get blocks b)) ≡ k = ap (λ (ops : List Op). k + length ops) m.0 ∙ z in
      (x.0, l, found_later (b == c) (record { block = i; before = k; left = length bs }) q (places_in blocks i (k + length (ops_at (slice_get blocks b))) bs c) (subst (λ n. IsIn q (places_in blocks i n bs c)) (sym e) x.2))

  in_from : (i j : ℕ) (chains : List (List ℕ)) (chain : List ℕ) (c : ℕ) (q : Place) → slice_get chains j ≡ Some chain → IsIn q (places_in blocks (i + j) 0 chain c) → IsIn q (places_from blocks i chains c)
  in_from i j [] chain c q e m = absurd (cc)
  in_from i zero (x ∷ xs) chain c q e m =
      let d : chain ≡ x = cc in
      let z : i + 0 ≡ i = omega arith in
      in_left q (places_in blocks i 0 x c) (places_from blocks (suc i) xs c) (subst (λ l. IsIn q (places_in blocks i 0 l c)) d (subst (λ n. IsIn q (places_in blocks n 0 chain c)) z m))
  in_from i (suc j) (x ∷ xs) chain c q e m =
      let d : i + suc j ≡ suc i + j = omega arith in
      in_right q (places_in blocks i 0 x c) (places_from blocks (suc i) xs c) (in_from (suc i) j xs chain c q e (subst (λ n. IsIn q (places_in blocks n 0 chain c)) d m))

  record Found (i : ℕ) (chains : List (List ℕ)) (c : ℕ) (q : Place) : Type 0 where
    pub j : ℕ
    pub chain : List ℕ
    pub has : slice_get chains j ≡ Some chain
    pub is : IsIn q (places_in blocks (i + j) 0 chain c)

  from_in : (i : ℕ) (chains : List (List ℕ)) (c : ℕ) (q : Place) → IsIn q (places_from blocks i chains c) → Found i chains c q
  from_in i [] c q m = absurd m
  from_in i (x ∷ xs) c q m = by (in_either q (places_in blocks i 0 x c) (places_from blocks (suc i) xs c) m) (from_in (suc i) xs c q)
    where
      by : IsIn q (places_in blocks i 0 x c) ⊎ IsIn q (places_from blocks (suc i) xs c) → (IsIn q (places_from blocks (suc i) xs c) → Found (suc i) xs c q) → Found i (x ∷ xs) c q
      by (inl h) f = let z : i ≡ i + 0 = omega arith in record { j = 0; chain = x; has = refl; is = subst (λ n. IsIn q (places_in blocks n 0 x c)) z h }
      by (inr h) f =
          let y = f h in
          let d : suc i + y.j ≡ i + suc y.j = omega arith in
          record { j = suc y.j; chain = y.chain; has = y.has; is = subst (λ n. IsIn q (places_in blocks n 0 y.chain c)) d y.is }

module _ (to : ℕ → ℕ) (chains : List (List ℕ)) (g : Graph) where
  abbrev blocks : List Block
  blocks = g.blocks

  abbrev at : ℕ → List Place
  at = places_from blocks 0 chains

  record Stood (whole : List Op) (exit : Exit) (i : ℕ) (b : ℕ) (p : Place) : Type 0 where
    pub bs : List ℕ
    pub block : p.block ≡ i
    pub ops : drop p.before whole ≡ ops_at (slice_get blocks b) ++ ops_of blocks bs
    pub left : p.left ≡ length bs
    pub linked : Linked to blocks chains (b ∷ bs)
    pub last : last_exit to blocks (b ∷ bs) ≡ exit
    pub behind : (c : ℕ) (q : Place) → IsIn q (places_in blocks p.block (p.before + length (ops_at (slice_get blocks b))) bs c) → IsIn q (at c)

  tail_exit : (c : ℕ) (cs : List ℕ) → (cs ≡ [] → ⊥) → last_exit to blocks cs ≡ last_exit to blocks (c ∷ cs)
  tail_exit c [] n = absurd (n refl)
  tail_exit c (d ∷ ds) n = refl

  cons_not : (c : ℕ) (cs : List ℕ) → (c ∷ cs) ≡ [] → ⊥
  cons_not c cs e = cc

  in_chain : (whole : List Op) (exit : Exit) (i k : ℕ) (chain : List ℕ) (b : ℕ) (p : Place) → drop k whole ≡ ops_of blocks chain → Linked to blocks chains chain → ((chain ≡ [] → ⊥) → last_exit to blocks chain ≡ exit) →
      ((c : ℕ) (q : Place) → IsIn q (places_in blocks i k chain c) → IsIn q (at c)) → IsIn p (places_in blocks i k chain b) → Stood whole exit i b p
  in_chain whole exit i k [] b p d l x inside m = absurd m
  in_chain whole exit i k (c ∷ cs) b p d l x inside m = by (c == b) refl m
      (in_chain whole exit i (k + length (ops_at (slice_get blocks c))) cs b p (more k whole (ops_at (slice_get blocks c)) (ops_of blocks cs) d) l.1 (λ n. tail_exit c cs n ∙ x (cons_not c cs)) later)
    where
      later : (c' : ℕ) (q : Place) → IsIn q (places_in blocks i (k + length (ops_at (slice_get blocks c))) cs c') → IsIn q (at c')
      later c' q h = inside c' q (found_later (c == c') (record { block = i; before = k; left = length cs }) q (places_in blocks i (k + length (ops_at (slice_get blocks c))) cs c') h)

      first : Stood whole exit i c (record { block = i; before = k; left = length cs })
      first = record { bs = cs; block = refl; ops = d; left = refl; linked = l; last = x (cons_not c cs); behind = later }

      by : (v : Bool) → (c == b) ≡ v → IsIn p (found_if v (record { block = i; before = k; left = length cs }) (places_in blocks i (k + length (ops_at (slice_get blocks c))) cs b)) →
          (IsIn p (places_in blocks i (k + length (ops_at (slice_get blocks c))) cs b) → Stood whole exit i b p) → Stood whole exit i b p
      by true e (inl h) rec = subst (λ z. Stood whole exit i z p) (eqb-true c b e) (subst (Stood whole exit i c) (sym h) first)
      by true e (inr h) rec = rec h
      by false e h rec = rec h

  heads_of : (c : ℕ) → Begun to blocks chains c → Heads at c (to c)
  heads_of c b =
      let x = near_place blocks c (to c) 0 b.0 b.2 in
      let e : to c ≡ 0 + to c = omega arith in
      let q : Place = record { block = to c; before = 0; left = x.0 } in
      (x.0, in_from blocks 0 (to c) chains b.0 c q b.1 (subst (λ n. IsIn q (places_in blocks n 0 b.0 c)) e x.2))

  exit_moved : (exit : Exit) → ((c : ℕ) → IsIn c (targets_of exit) → Begun to blocks chains c) → ExitMeets at exit (moved to exit)
  exit_moved (Goto c) h = (to c, heads_of c (h c (inl refl)), refl)
  exit_moved (Split p c d) h = by (to c == to d) refl
    where
      by : (v : Bool) → (to c == to d) ≡ v → ExitMeets at (Split p c d) (one_way v p (to c) (to d))
      by true e = inr (to c, heads_of c (h c (inl refl)), subst (Heads at d) (sym (eqb-true (to c) (to d) e)) (heads_of d (h d (inr (inl refl)))), refl)
      by false e = inl (to c, to d, heads_of c (h c (inl refl)), heads_of d (h d (inr (inl refl))), refl)
  exit_moved (Call f arguments result c) h = (to c, heads_of c (h c (inl refl)), refl)
  exit_moved (Return x) h = refl
  exit_moved (Ends k) h = refl

  module _ (b : ℕ) (block : Block) (has : slice_get blocks b ≡ Some block) (p : Place) where
    comes : (bs : List ℕ) → p.left ≡ length bs → ((c : ℕ) (q : Place) → IsIn q (places_in blocks p.block (p.before + length (ops_at (slice_get blocks b))) bs c) → IsIn q (at c)) → (c : ℕ) → Near blocks c bs → Comes at p (length block.ops) c
    comes bs l behind c near =
        let x = near_place blocks c p.block (p.before + length block.ops) bs near in
        let q : Place = record { block = p.block; before = p.before + length block.ops; left = x.0 } in
        let e : p.before + length (ops_at (slice_get blocks b)) ≡ p.before + length block.ops = ap (λ o. p.before + length (ops_at o)) has in
        (x.0, subst (λ n. x.0 < n) (sym l) x.1, behind c q (subst (λ n. IsIn q (places_in blocks p.block n bs c)) (sym e) x.2))

    goes_on : (bs : List ℕ) (exit : Exit) → ((c : ℕ) → Near blocks c bs → Comes at p (length block.ops) c) → (bs ≡ [] → ⊥) → ExitLinked to blocks chains exit bs → GoesOn at p (length block.ops) exit
    goes_on [] exit h n l = absurd (n refl)
    goes_on (d ∷ ds) (Goto c) h n l = h c l
    goes_on (d ∷ ds) (Split t c e) h n l = (h c l.0, h e l.1)
    goes_on (d ∷ ds) (Call f arguments result c) h n l = absurd l
    goes_on (d ∷ ds) (Return x) h n l = absurd l
    goes_on (d ∷ ds) (Ends k) h n l = absurd l

    on_by : (exit : Exit) (bs : List ℕ) → ((c : ℕ) → Near blocks c bs → Comes at p (length block.ops) c) → ExitLinked to blocks chains block.exit bs → last_exit to blocks (b ∷ bs) ≡ exit →
        GoesOn at p (length block.ops) block.exit ⊎ ((ops_of blocks bs ≡ []) × ExitMeets at block.exit exit)
    on_by exit [] h l e = inr (refl, subst (ExitMeets at block.exit) (sym (ap (exit_at to) has) ∙ e) (exit_moved block.exit l))
    on_by exit (d ∷ ds) h l e = inl (goes_on (d ∷ ds) block.exit h (cons_not d ds) l)

  module _ (linked : (i : ℕ) (chain : List ℕ) → slice_get chains i ≡ Some chain → Linked to blocks chains chain) where
    stands : (b : ℕ) (block : Block) (p : Place) → IsIn p (at b) → slice_get blocks b ≡ Some block → Stands at (laid to chains g) block p
    stands b block p m has =
        let f : Found blocks 0 chains b p = from_in blocks 0 chains b p m in
        let s : Stood (ops_of blocks f.chain) (last_exit to blocks f.chain) (0 + f.j) b p =
        in_chain (ops_of blocks f.chain) (last_exit to blocks f.chain) (0 + f.j) 0 f.chain b p refl (linked f.j f.chain f.has) (λ n. refl) (λ c q h. in_from blocks 0 f.j chains f.chain c q f.has h) f.is in
        let e : 0 + f.j ≡ f.j = omega arith in
        record {
          into = joined to blocks f.chain;
          has = slice_get-map (joined to blocks) chains p.block ∙ ap (λ n. option_map (joined to blocks) (slice_get chains n)) (s.block ∙ e) ∙ ap (option_map (joined to blocks)) f.has;
          rest = ops_of blocks s.bs;
          ops = s.ops ∙ ap (λ o. ops_at o ++ ops_of blocks s.bs) has;
          on = on_by b block has p (last_exit to blocks f.chain) s.bs (comes b block has p s.bs s.left s.behind) (s.linked.0 block has) s.last;
        }

pub laid_cleaned : LaidCleaned
laid_cleaned to chains g first begun linked = record {
  parameters = refl;
  arrays = refl;
  entry = subst (Heads (places_from g.blocks 0 chains) 0) first (heads_of to chains g 0 begun);
  blocks = λ b block p m has. stands to chains g linked b block p m has;
}

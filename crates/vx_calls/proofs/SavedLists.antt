-- The lists of what is saved and brought have the values that they should, each once.
use Rattle.std.proofs.Common.{◌≡◌, ℕ, ◌<◌, drop, get_or, length, zero, suc, ◌+◌, Bool, true, false, ◌&&◌, Option, Some, None, List, [], ◌∷◌, ◌++◌, slice_get, slice_index_or, refl, sym, ap, ◌∙◌, subst, inl, inr, arith}
use Rattle.std.specs.Prelude.{◌==◌, not, if◌then◌else◌}
use Rattle.std.specs.List.{flat_map, list_any}
use Rattle.std.proofs.lemmas.Bool.{eq-eqb, eqb-true}
use Rattle.vx_flow.specs.declared.graph.Operand.{Operand}
use Rattle.vx_flow.specs.Effects.{IsIn}
use Rattle.vx_flow.proofs.SoundLists.{any_in, any_of}
use Rattle.vx_mixed.specs.declared.layout.VirtualWord.{VirtualWord}
use Rattle.vx_mixed.specs.declared.layout.VirtualWord.TheVariants.{Planned, Drain, Transfer, Choice, Call, Return, Ends}
use Rattle.vx_mixed.specs.declared.layout.VWords.{VWords}
use Rattle.vx_mixed.specs.Settled.{NoTwice}
use Rattle.vx_regs.specs.declared.liveness.Living.{Living}
use Rattle.vx_regs.specs.declared.map.Kept.{Kept}
use Rattle.vx_regs.specs.declared.map.Kept.TheVariants.{InRegister, InSlot, Nowhere}
use Rattle.vx_regs.specs.declared.map.RegMap.{RegMap}
use Rattle.vx_regs.specs.Intervals.{IsLive}
use Rattle.vx_regs.specs.Ways.{lives_there, LivesAt}
use Rattle.vx_calls.specs.Framing.{SurvivesIn, ArrivesIn, SavesIn}
use Rattle.vx_target.specs.Tied.{IsResult}
use Rattle.vx_calls.proofs.Pieces.{placed_more}
use Rattle.vx_calls.specs.Saves.{in_register, in_registers, is_result, survives, saved_round, saved_from, arrives, arrival}

-- tests

both : (a b : Bool) → (a && b) ≡ true → (a ≡ true) × (b ≡ true)
both true b h = (refl, h)
both false b h = absurd (cc)

joined : (a b : Bool) → a ≡ true → b ≡ true → (a && b) ≡ true
joined true b h k = k
joined false b h k = absurd (cc)

not_so : (a : Bool) → not a ≡ true → a ≡ false
not_so true h = absurd (cc)
not_so false h = refl

so_not : (a : Bool) → (a ≡ true → ⊥) → not a ≡ true
so_not true h = absurd (h refl)
so_not false h = refl

-- those of some values that pass a test

abbrev one_if : (ℕ → Bool) → ℕ → List ℕ
one_if p v = if p v then v ∷ [] else []

picked_in : (p : ℕ → Bool) (vs : List ℕ) (v : ℕ) → IsIn v (flat_map (one_if p) vs) → IsIn v vs × (p v ≡ true)
picked_in p [] v h = absurd h
picked_in p (u ∷ vs) v h = by (p u) refl h (picked_in p vs v)
  where
    by : (b : Bool) → p u ≡ b → IsIn v ((if b then u ∷ [] else []) ++ flat_map (one_if p) vs) → (IsIn v (flat_map (one_if p) vs) → IsIn v vs × (p v ≡ true)) → IsIn v (u ∷ vs) × (p v ≡ true)
    by true e (inl q) go = (inl q, ap p q ∙ e)
    by true e (inr m) go = let r = go m in (inr r.0, r.1)
    by false e m go = let r = go m in (inr r.0, r.1)

picked_there : (p : ℕ → Bool) (vs : List ℕ) (v : ℕ) → IsIn v vs → p v ≡ true → IsIn v (flat_map (one_if p) vs)
picked_there p [] v m h = absurd m
picked_there p (u ∷ vs) v m h = by (p u) refl m (λ k. picked_there p vs v k h)
  where
    by : (b : Bool) → p u ≡ b → IsIn v (u ∷ vs) → (IsIn v vs → IsIn v (flat_map (one_if p) vs)) → IsIn v ((if b then u ∷ [] else []) ++ flat_map (one_if p) vs)
    by true e (inl q) go = inl q
    by true e (inr k) go = inr (go k)
    by false e (inl q) go = let c : true ≡ false = sym h ∙ ap p q ∙ e in absurd (cc)
    by false e (inr k) go = go k

picked_once : (p : ℕ → Bool) (vs : List ℕ) → NoTwice vs → NoTwice (flat_map (one_if p) vs)
picked_once p [] h = tt
picked_once p (u ∷ vs) h = by (p u) (picked_once p vs h.1)
  where
    by : (b : Bool) → NoTwice (flat_map (one_if p) vs) → NoTwice ((if b then u ∷ [] else []) ++ flat_map (one_if p) vs)
    by true k = (λ m. h.0 (picked_in p vs u m).0, k)
    by false k = k

-- the values in registers

abbrev kept_at : List Kept → ℕ → Kept
kept_at ks i = slice_index_or ks i Nowhere

record Registered (n : ℕ) (ks : List Kept) (v : ℕ) : Type 0 where
  i : ℕ
  number : ℕ
  is : v ≡ n + i
  kept : kept_at ks i ≡ InRegister number

later : (n : ℕ) (k : Kept) (ks : List Kept) (v : ℕ) → Registered (n + 1) ks v → Registered n (k ∷ ks) v
later n k ks v r = let e = r.is in let j = r.i in let z : v ≡ n + suc j = omega arith in record { i = suc j; number = r.number; is = z; kept = r.kept }

registered : (n : ℕ) (ks : List Kept) (v : ℕ) → IsIn v (in_registers n ks) → Registered n ks v
registered n [] v h = absurd h
registered n (InRegister number ∷ ks) v (inl e) = let z : v ≡ n + 0 = omega arith in record { i = 0; number = number; is = z; kept = refl }
registered n (InRegister number ∷ ks) v (inr m) = later n (InRegister number) ks v (registered (n + 1) ks v m)
registered n (InSlot word ∷ ks) v m = later n (InSlot word) ks v (registered (n + 1) ks v m)
registered n (Nowhere ∷ ks) v m = later n Nowhere ks v (registered (n + 1) ks v m)

in_register_there : (n : ℕ) (ks : List Kept) (i number : ℕ) → kept_at ks i ≡ InRegister number → IsIn (n + i) (in_registers n ks)
in_register_there n [] i number h = absurd (cc)
in_register_there n (InRegister k ∷ ks) zero number h = let z : n + 0 ≡ n = omega arith in inl z
in_register_there n (InSlot k ∷ ks) zero number h = absurd (cc)
in_register_there n (Nowhere ∷ ks) zero number h = absurd (cc)
in_register_there n (InRegister k ∷ ks) (suc i) number h = let z : n + 1 + i ≡ n + suc i = omega arith in inr (subst (λ v. IsIn v (in_registers (n + 1) ks)) z (in_register_there (n + 1) ks i number h))
in_register_there n (InSlot k ∷ ks) (suc i) number h = let z : n + 1 + i ≡ n + suc i = omega arith in subst (λ v. IsIn v (in_registers (n + 1) ks)) z (in_register_there (n + 1) ks i number h)
in_register_there n (Nowhere ∷ ks) (suc i) number h = let z : n + 1 + i ≡ n + suc i = omega arith in subst (λ v. IsIn v (in_registers (n + 1) ks)) z (in_register_there (n + 1) ks i number h)

registers_once : (n : ℕ) (ks : List Kept) → NoTwice (in_registers n ks)
registers_once n [] = tt
registers_once n (InRegister number ∷ ks) = (λ m. let r = registered (n + 1) ks n m in let e = r.is in let j = r.i in absurd (omega arith), registers_once (n + 1) ks)
registers_once n (InSlot word ∷ ks) = registers_once (n + 1) ks
registers_once n (Nowhere ∷ ks) = registers_once (n + 1) ks

-- the rows of what is saved

saved_row : (living : Living) (values : List ℕ) (p : ℕ) (words : List VirtualWord) (i : ℕ) (word : VirtualWord) → slice_get words i ≡ Some word → slice_index_or (saved_from living values p words) i [] ≡ saved_round living values (p + i + 1) word
saved_row living values p [] i word h = absurd (cc)
saved_row living values p (w ∷ words) zero word h =
    let q : w ≡ word = cc in
    let z : p + 1 ≡ p + 0 + 1 = omega arith in
    ap (saved_round living values (p + 1)) q ∙ ap (λ n. saved_round living values n word) z
saved_row living values p (w ∷ words) (suc i) word h =
    let z : p + 1 + i + 1 ≡ p + suc i + 1 = omega arith in
    saved_row living values (p + 1) words i word h ∙ ap (λ n. saved_round living values n word) z

row_there : (living : Living) (values : List ℕ) (p : ℕ) (words : List VirtualWord) (i v : ℕ) → IsIn v (slice_index_or (saved_from living values p words) i []) → (word : VirtualWord) × (slice_get words i ≡ Some word)
row_there living values p [] i v h = absurd h
row_there living values p (w ∷ words) zero v h = (w, refl)
row_there living values p (w ∷ words) (suc i) v h = row_there living values (p + 1) words i v h

round_once : (living : Living) (values : List ℕ) (next : ℕ) (word : VirtualWord) → NoTwice values → NoTwice (saved_round living values next word)
round_once living values next (Planned r w items) h = tt
round_once living values next (Drain n) h = tt
round_once living values next (Transfer to) h = tt
round_once living values next (Choice test to) h = tt
round_once living values next (Call g arguments result) h = picked_once (survives living next result) values h
round_once living values next (Return x) h = tt
round_once living values next (Ends k) h = tt

rows_once : (living : Living) (values : List ℕ) (p : ℕ) (words : List VirtualWord) → NoTwice values → (i : ℕ) → NoTwice (slice_index_or (saved_from living values p words) i [])
rows_once living values p [] h i = tt
rows_once living values p (w ∷ words) h zero = round_once living values (p + 1) w h
rows_once living values p (w ∷ words) h (suc i) = rows_once living values (p + 1) words h i

-- the result of a call

result_is : (result : Option ℕ) (v : ℕ) → is_result result v ≡ false → IsResult result v → ⊥
result_is None v h e = e
result_is (Some r) v h e = let c : true ≡ false = sym (eq-eqb r v (sym e)) ∙ h in absurd (cc)

is_not_result : (result : Option ℕ) (v : ℕ) → (IsResult result v → ⊥) → is_result result v ≡ true → ⊥
is_not_result None v h e = absurd (cc)
is_not_result (Some r) v h e = h (sym (eqb-true r v e))

-- all of it

module _ (parameters : List ℕ) (l : VWords) (map : RegMap) (living : Living) (lives : LivesAt l living) where
  abbrev V : List ℕ
  V = in_registers 0 map.values

  row_is : (p g : ℕ) (arguments : List Operand) (result : Option ℕ) → slice_get l.words p ≡ Some (Call g arguments result) → slice_index_or (saved_from living V 0 l.words) p [] ≡ flat_map (one_if (survives living (suc p) result)) V
  row_is p g arguments result at =
      let z : 0 + p + 1 ≡ suc p = omega arith in
      saved_row living V 0 l.words p (Call g arguments result) at ∙ ap (λ n. flat_map (one_if (survives living n result)) V) z

  is_register : (v : ℕ) → IsIn v V → (number : ℕ) × (kept_at map.values v ≡ InRegister number)
  is_register v m =
      let r = registered 0 map.values v m in
      let e = r.is in
      let j = r.i in
      let z : v ≡ j = omega arith in
      (r.number, ap (kept_at map.values) z ∙ r.kept)

  there : (v number : ℕ) → kept_at map.values v ≡ InRegister number → IsIn v V
  there v number h = let z : 0 + v ≡ v = omega arith in subst (λ u. IsIn u V) z (in_register_there 0 map.values v number h)

  survives_in : (p g v : ℕ) (arguments : List Operand) (result : Option ℕ) → slice_get l.words p ≡ Some (Call g arguments result) → IsIn v (slice_index_or (saved_from living V 0 l.words) p []) → SurvivesIn l map p result v
  survives_in p g v arguments result at m =
      let k = picked_in (survives living (suc p) result) V v (subst (IsIn v) (row_is p g arguments result at) m) in
      let b = both (not (is_result result v)) (lives_there living (suc p) v) k.1 in
      let n = is_register v k.0 in
      record { live = (lives.behind p g v arguments result at).0 b.1; other = result_is result v (not_so (is_result result v) b.0); number = n.0; register = n.1 }

  -- what is saved at all is live behind
  live_behind : (p v : ℕ) → IsIn v (slice_index_or (saved_from living V 0 l.words) p []) → IsLive l (suc p) v
  live_behind p v h = let r = row_there living V 0 l.words p v h in by r.0 r.1 (subst (IsIn v) (saved_row living V 0 l.words p r.0 r.1) h)
    where
      by : (word : VirtualWord) → slice_get l.words p ≡ Some word → IsIn v (saved_round living V (0 + p + 1) word) → IsLive l (suc p) v
      by (Planned r w items) at k = absurd k
      by (Drain n) at k = absurd k
      by (Transfer to) at k = absurd k
      by (Choice test to) at k = absurd k
      by (Call g arguments result) at k = (survives_in p g v arguments result at h).live
      by (Return x) at k = absurd k
      by (Ends n) at k = absurd k

  in_saved : (p g v : ℕ) (arguments : List Operand) (result : Option ℕ) → slice_get l.words p ≡ Some (Call g arguments result) → SurvivesIn l map p result v → IsIn v (slice_index_or (saved_from living V 0 l.words) p [])
  in_saved p g v arguments result at s =
      subst (IsIn v) (sym (row_is p g arguments result at))
      (picked_there (survives living (suc p) result) V v (there v s.number s.register)
      (joined (not (is_result result v)) (lives_there living (suc p) v) (so_not (is_result result v) (is_not_result result v s.other)) ((lives.behind p g v arguments result at).1 s.live)))

  arrives_in : (v : ℕ) → IsIn v (flat_map (one_if (arrives living l.entry parameters)) V) → ArrivesIn parameters l map v
  arrives_in v m =
      let k = picked_in (arrives living l.entry parameters) V v m in
      let b = both (lives_there living l.entry v) (list_any (λ u. u == v) parameters) k.1 in
      let n = is_register v k.0 in
      let f = any_in (λ u. u == v) parameters b.1 in
      record { passed = subst (λ u. IsIn u parameters) (eqb-true f.item v f.holds) f.has; live = (lives.entry v).0 b.0; number = n.0; register = n.1 }

  in_brought : (v : ℕ) → ArrivesIn parameters l map v → IsIn v (flat_map (one_if (arrives living l.entry parameters)) V)
  in_brought v s =
      picked_there (arrives living l.entry parameters) V v (there v s.number s.register)
      (joined (lives_there living l.entry v) (list_any (λ u. u == v) parameters) ((lives.entry v).1 s.live) (any_of (λ u. u == v) parameters v s.passed (eq-eqb v v refl)))

  lists_are : SavesIn parameters l map (saved_from living V 0 l.words) (flat_map (one_if (arrives living l.entry parameters)) V)
  lists_are = record {
    saved = survives_in;
    saves = in_saved;
    live = live_behind;
    brought = arrives_in;
    brings = in_brought;
    saved_once = rows_once living V 0 l.words (registers_once 0 map.values);
    brought_once = picked_once (arrives living l.entry parameters) V (registers_once 0 map.values);
  }

pub saves_in : (passed : List ℕ) (l : VWords) (map : RegMap) (living : Living) (values : List ℕ) (kept : List Kept) (words : List VirtualWord) (parameters : List ℕ) (saved : List (List ℕ)) (brought : List ℕ) → LivesAt l living → kept ≡ map.values → words ≡ l.words → parameters ≡ passed → values ≡ in_registers 0 kept → saved ≡ saved_from living values 0 words → brought ≡ flat_map (arrival living l.entry parameters) values → SavesIn passed l map saved brought
saves_in passed l map living values kept words parameters saved brought lives ks ws ps vs s b =
    let v : values ≡ in_registers 0 map.values = vs ∙ ap (in_registers 0) ks in
    let s1 : saved ≡ saved_from living (in_registers 0 map.values) 0 l.words = s ∙ ap (λ x. saved_from living x 0 words) v ∙ ap (saved_from living (in_registers 0 map.values) 0) ws in
    let b1 : brought ≡ flat_map (arrival living l.entry passed) (in_registers 0 map.values) = b ∙ ap (flat_map (arrival living l.entry parameters)) v ∙ ap (λ x. flat_map (arrival living l.entry x) (in_registers 0 map.values)) ps in
    subst (λ x. SavesIn passed l map x brought) (sym s1) (subst (SavesIn passed l map (saved_from living (in_registers 0 map.values) 0 l.words)) (sym b1) (lists_are passed l map living lives))

-- one value more that may be in a register
pub register_more : (ks : List Kept) (i : ℕ) (k : Kept) (out now whole : List ℕ) → out ++ in_registers i (drop i ks) ≡ whole → i < length ks → now ≡ out ++ in_register i (get_or ks i k) → now ++ in_registers (i + 1) (drop (i + 1) ks) ≡ whole
register_more ks i k out now whole so_far lt put = placed_more in_registers out whole i ks i so_far now (in_register i (get_or ks i k)) (i + 1) k lt refl put

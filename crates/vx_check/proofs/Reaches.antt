-- Marks of the places that are reached, as they come.
use Rattle.std.proofs.Common.{◌≡◌, ℕ, zero, suc, ◌+◌, ◌<◌, Bool, true, false, List, [], ◌∷◌, ◌++◌, length, length-append, slice_get, slice_set, Some, refl, sym, subst, ◌∙◌, arith, inl, inr, ⊎_elim}
use Rattle.std.specs.Prelude.{◌⊎◌}
use Rattle.vx_base.specs.Paths.{Reached, here, beyond}
use Rattle.vx_tables.specs.Rows.{IsIn, is_marked}
use Rattle.vx_tables.proofs.Members.{in_left, in_front_or_last, in_last}
use Rattle.vx_tables.proofs.Marks.{length_set, set_keeps, set_less, set_only, set_self}
use Rattle.vx_isa.specs.declared.program.Word.{Word}
use Rattle.vx_isa.specs.declared.program.WordProgram.{WordProgram}
use Rattle.vx_isa.specs.Paths.{Leads, LeadsTo, WordAt}
use Rattle.vx_check.specs.InFlight.{IsFilled, Marked, Reaching, ReachedMarks, leads_anywhere, places_of}
use Rattle.vx_check.proofs.Leading.{leads_by, leads_everywhere, leads_to}

-- rows

pub mark_within : (row : List Bool) (q : ℕ) → is_marked row q ≡ true → q < length row
mark_within [] q h = absurd (cc)
mark_within (x ∷ row) zero h = omega arith
mark_within (x ∷ row) (suc q) h = let k = mark_within row q h in omega arith

pub word_there : {A : Type 0} (xs : List A) (p : ℕ) → p < length xs → (x : A) × (slice_get xs p ≡ Some x)
word_there [] p h = absurd (omega arith)
word_there (x ∷ xs) zero h = (x, refl)
word_there (x ∷ xs) (suc p) h = word_there xs p (omega arith)

pub there_word : {A : Type 0} (xs : List A) (p : ℕ) (x : A) → slice_get xs p ≡ Some x → p < length xs
there_word [] p x h = absurd (cc)
there_word (y ∷ xs) zero x h = omega arith
there_word (y ∷ xs) (suc p) x h = let k = there_word xs p x h in omega arith

some_is : {A : Type 0} {x y : A} → Some x ≡ Some y → x ≡ y
some_is {A} {x} {y} e = cc

-- one word stands at a place
pub same_word : (w : WordProgram) (p : ℕ) (word other : Word) → WordAt w p word → WordAt w p other → word ≡ other
same_word w p word other a b = some_is (sym a ∙ b)

-- marking

last_is : (p q : ℕ) (waiting : List ℕ) → IsIn q (waiting ++ p ∷ []) → IsIn q waiting ⊎ (q ≡ p)
last_is p q waiting h = in_front_or_last q p waiting h

pub marks_new : (p : ℕ) (marks : List Bool) (waiting : List ℕ) → p < length marks → is_marked marks p ≡ false → Marked (p ∷ []) marks (slice_set marks p true) waiting (waiting ++ p ∷ [])
marks_new p marks waiting lt unset = record {
  len = length_set marks p;
  keeps = set_keeps marks p;
  waits = λ q h. in_left q waiting (p ∷ []) h;
  anew = λ q h. ⊎_elim (λ a. inl a) (λ e. inr (subst (λ z. IsIn z (waiting ++ p ∷ [])) (sym e) (in_last p waiting), inl e)) (set_only marks p q h);
  came = λ q h. ⊎_elim (λ a. inl a) (λ e. inr (subst (λ z. is_marked (slice_set marks p true) z ≡ true) (sym e) (set_self marks p lt))) (last_is p q waiting h);
  all = λ q h k. ⊎_elim (λ e. subst (λ z. is_marked (slice_set marks p true) z ≡ true) (sym e) (set_self marks p lt)) (λ z. absurd z) h;
  less = let a = set_less marks p lt unset in let b : length (waiting ++ p ∷ []) ≡ length waiting + 1 = simp length-append (omega arith) in omega arith;
}

pub marks_old : (p : ℕ) (marks : List Bool) (waiting : List ℕ) → (p < length marks → is_marked marks p ≡ true) → Marked (p ∷ []) marks marks waiting waiting
marks_old p marks waiting marked = record {
  len = refl;
  keeps = λ q h. h;
  waits = λ q h. h;
  anew = λ q h. inl h;
  came = λ q h. inl h;
  all = λ q h k. ⊎_elim (λ e. subst (λ z. is_marked marks z ≡ true) (sym e) (marked (subst (λ z. z < length marks) e k))) (λ z. absurd z) h;
  less = omega arith;
}

pub marks_none : (marks : List Bool) (waiting : List ℕ) → Marked [] marks marks waiting waiting
marks_none marks waiting = record { len = refl; keeps = λ q h. h; waits = λ q h. h; anew = λ q h. inl h; came = λ q h. inl h; all = λ q h k. absurd h; less = omega arith }

pub marks_then : (p : ℕ) (ps : List ℕ) (a b c : List Bool) (u v w : List ℕ) → Marked (p ∷ []) a b u v → Marked ps b c v w → Marked (p ∷ ps) a c u w
marks_then p ps a b c u v w x y = record {
  len = y.len ∙ x.len;
  keeps = λ q h. y.keeps q (x.keeps q h);
  waits = λ q h. y.waits q (x.waits q h);
  anew = λ q h. ⊎_elim (λ k. ⊎_elim (λ m. inl m) (λ m. inr (y.waits q m.0, one q m.1)) (x.anew q k)) (λ k. inr (k.0, inr k.1)) (y.anew q h);
  came = λ q h. ⊎_elim (λ k. ⊎_elim (λ m. inl m) (λ m. inr (y.keeps q m)) (x.came q k)) (λ k. inr k) (y.came q h);
  all = all;
  less = let h = x.less in let k = y.less in omega arith;
}
  where
    one : (q : ℕ) → IsIn q (p ∷ []) → IsIn q (p ∷ ps)
    one q (inl e) = inl e
    one q (inr z) = absurd z

    all : (q : ℕ) → IsIn q (p ∷ ps) → q < length a → is_marked c q ≡ true
    all q (inl e) k = y.keeps q (x.all q (inl e) k)
    all q (inr h) k = y.all q h (subst (λ n. q < n) (sym x.len) k)

-- following

module _ (w : WordProgram) where
  -- nothing is marked but the start
  pub begins : (none marks : List Bool) (waiting : List ℕ) → IsFilled (length w.words) false none → Marked (0 ∷ []) none marks [] waiting → Reaching w marks waiting
  begins none marks waiting filled k = record {
    len = k.len ∙ filled.len;
    sound = λ q h. ⊎_elim (λ a. absurd (filled.unset refl q a)) (λ a. zero_is q a.1) (k.anew q h);
    waits = λ q h. ⊎_elim (λ a. absurd a) (λ a. a) (k.came q h);
    closed = λ p q h l. ⊎_elim (λ a. absurd (filled.unset refl p a)) (λ a. inl a.0) (k.anew p h);
    begun = λ h. k.all 0 (inl refl) (subst (λ n. 0 < n) k.len h);
  }
    where
      zero_is : (q : ℕ) → IsIn q (0 ∷ []) → Reached (Leads w) 0 q
      zero_is q (inl e) = subst (Reached (Leads w) 0) (sym e) here
      zero_is q (inr z) = absurd z

  -- where the word at a place leads, by its operations
  pub leads_listed : (p q : ℕ) (word : Word) → WordAt w p word → Leads w p q → (leads_anywhere word.ops ≡ true) ⊎ IsIn q (places_of word.ops (p + 1))
  leads_listed p q word at l = leads_by word.ops p q (subst (λ (z : Word). LeadsTo z.ops p q) (same_word w p l.0 word l.2 at) l.4)

  pub listed_leads : (p q : ℕ) (word next : Word) → WordAt w p word → WordAt w q next → IsIn q (places_of word.ops (p + 1)) → Leads w p q
  listed_leads p q word next at there i = (word, next, at, there, leads_to word.ops p q i)

  pub return_leads : (p q : ℕ) (word next : Word) → WordAt w p word → WordAt w q next → leads_anywhere word.ops ≡ true → Leads w p q
  return_leads p q word next at there i = (word, next, at, there, leads_everywhere word.ops p q i)

  -- the place that waited is followed
  pub followed : (p : ℕ) (word : Word) (marks after : List Bool) (waiting later : List ℕ) → WordAt w p word → leads_anywhere word.ops ≡ false → Reaching w marks (waiting ++ p ∷ []) →
      Marked (places_of word.ops (p + 1)) marks after waiting later → Reaching w after later
  followed p word marks after waiting later at few r k = record {
    len = k.len ∙ r.len;
    sound = λ q h. ⊎_elim (λ a. r.sound q a) (λ a. new q a.1 (mark_within after q h)) (k.anew q h);
    waits = λ q h. ⊎_elim (λ a. k.keeps q (r.waits q (in_left q waiting (p ∷ []) a))) (λ a. a) (k.came q h);
    closed = λ a q h l. ⊎_elim (λ old. by a q old l) (λ new. inl new.0) (k.anew a h);
    begun = λ h. k.keeps 0 (r.begun (subst (λ n. 0 < n) k.len h));
  }
    where
      marked : is_marked marks p ≡ true
      marked = r.waits p (in_last p waiting)

      new : (q : ℕ) → IsIn q (places_of word.ops (p + 1)) → q < length after → Reached (Leads w) 0 q
      new q i lt =
          let there = word_there w.words q (subst (λ n. q < n) (k.len ∙ r.len) lt) in
          beyond (r.sound p marked) (listed_leads p q word there.0 at there.1 i)

      of_place : (q : ℕ) → Leads w p q → is_marked after q ≡ true
      of_place q l = ⊎_elim (λ a. absurd (cc)) (λ b. k.all q b (subst (λ n. q < n) (sym r.len) (there_word w.words q l.1 l.3))) (leads_listed p q word at l)

      by : (a q : ℕ) → is_marked marks a ≡ true → Leads w a q → IsIn a later ⊎ (is_marked after q ≡ true)
      by a q old l =
          ⊎_elim (λ i. ⊎_elim (λ j. inl (k.waits a j)) (λ e. inr (of_place q (subst (λ z. Leads w z q) e l))) (in_front_or_last a p waiting i)) (λ j. inr (k.keeps q j)) (r.closed a q old l)

  -- nothing waits: the marks are whole
  pub all_followed : (marks : List Bool) → Reaching w marks [] → ReachedMarks w marks
  all_followed marks r = record { len = r.len; sound = r.sound; whole = λ q h lt. whole q h lt }
    where
      step : (p q : ℕ) → Leads w p q → (p < length marks → is_marked marks p ≡ true) → is_marked marks q ≡ true
      step p q l h = ⊎_elim (λ z. absurd z) (λ k. k) (r.closed p q (h (subst (λ n. p < n) (sym r.len) (there_word w.words p l.0 l.2))) l)

      whole : (q : ℕ) → Reached (Leads w) 0 q → q < length marks → is_marked marks q ≡ true
      whole q here lt = r.begun lt
      whole q (beyond {p} a l) lt = step p q l (λ k. whole p a k)

  -- a return is reached: so is every place
  pub all_reached : (p : ℕ) (word : Word) (marks all : List Bool) (waiting : List ℕ) → WordAt w p word → leads_anywhere word.ops ≡ true → Reaching w marks waiting → IsIn p waiting →
      IsFilled (length w.words) true all → ReachedMarks w all
  all_reached p word marks all waiting at returns r i filled = record {
    len = filled.len;
    sound = λ q h. let there = word_there w.words q (subst (λ n. q < n) filled.len (mark_within all q h)) in beyond (r.sound p (r.waits p i)) (return_leads p q word there.0 at there.1 returns);
    whole = λ q h lt. filled.set refl q (subst (λ n. q < n) filled.len lt);
  }

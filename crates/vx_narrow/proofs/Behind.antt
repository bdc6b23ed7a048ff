-- An operation in its form inside of a block: it does the same where it has a meaning, and what is known behind it holds.
use Rattle.std.proofs.Common.{◌≡◌, ◌⊎◌, inl, inr, ℕ, zero, suc, ◌==◌, Bool, true, false, ◌||◌, pos, List, [], ◌∷◌, ◌++◌, slice_index_or, Option, Some, None, refl, sym, ap, ◌∙◌, subst}
use Rattle.vx_base.specs.declared.arithmetic.Code.TheVariants.{Mov}
use Rattle.vx_flow.specs.declared.graph.Operand.{Operand}
use Rattle.vx_flow.specs.declared.graph.Operand.TheVariants.{Number}
use Rattle.vx_flow.specs.declared.graph.Array.{Array}
use Rattle.vx_flow.specs.declared.graph.Op.{Op}
use Rattle.vx_flow.specs.declared.graph.Op.TheVariants.{Compute, Place, Load}
use Rattle.vx_flow.specs.Apart.{StandApart}
use Rattle.vx_flow.specs.Effects.{Content, State, Setting, held, row_of, cell_of, loaded, with_value, effect}
use Rattle.vx_flow.specs.Sound.{is_value}
use Rattle.vx_claims.specs.declared.intervals.Interval.{Interval}
use Rattle.vx_claims.specs.declared.residues.Residue.{Residue}
use Rattle.vx_claims.specs.declared.access.Access.{Access}
use Rattle.vx_claims.specs.declared.claim.Claim.{Claim}
use Rattle.vx_claims.specs.declared.fact.Fact.{Fact}
use Rattle.vx_claims.specs.declared.fact.Fact.TheVariants.{Between, Congruent, Equals, Never}
use Rattle.vx_claims.specs.Facts.{full, Within, AllHold, range_of, times_if, computed_within, computed_residue, without, equals_if, is_full, is_single, between_unless, congruent_unless, agrees_in, after}
use Rattle.vx_narrow.specs.Checking.{has_numbers}
use Rattle.vx_claims.specs.Accesses.{HoldsWord, AllTell, accessed, word_in, moved_or, with_words, place_known}
use Rattle.vx_claims.specs.Forming.{formed, form, same_form, is_test, facts_if, said_unless, most_equals, newest, after_known}
use Rattle.vx_narrow.proofs.Tests.{append_holds}
use Rattle.vx_narrow.proofs.Operations.{Good, Keeps, SpotsFit, OpFits, StateFit, numbers_fit, number_fits, op_good, held_is}
use Rattle.vx_narrow.proofs.Forms.{formed_same, formed_fits}
use Rattle.vx_narrow.proofs.Accesses.{word_holds, accessed_tell, place_known_holds}

-- it has no meaning, or the other one does the same and reads numbers of 32 bits
abbrev pub Follows : Setting → State → Op → Op → Type 0
Follows setting s op op' = (effect setting s op s ≡ None) ⊎ ((effect setting s op' s ≡ effect setting s op s) × OpFits setting s.values op')

words_follow : (setting : Setting) (s : State) (xs : List Access) (op : Op) → StateFit s → OpFits setting s.values op → AllTell setting s xs → Follows setting s op (with_words xs op)
words_follow setting s xs (Load v a p true) fit f h = inr (refl, tt)
words_follow setting s xs (Load v a p false) fit f h = by (word_in xs a p) refl
  where
    at : (x : Operand) (o : Option ℕ) → HoldsWord setting s a p x → cell_of setting s a p ≡ o →
        (loaded s v (row_of s (setting.spot a)) o false ≡ None) ⊎ ((Option.Some (with_value s v (held s x)) ≡ loaded s v (row_of s (setting.spot a)) o false) × OpFits setting s.values (Compute Mov v x (Number (pos 0))))
    at x None k q = inl refl
    at x (Some i) k q =
        let is : slice_index_or (row_of s (setting.spot a)) i None ≡ held s x = k i q in
        inr (ap (λ c. Some (with_value s v c)) (sym is), (subst (Within full) (is ∙ held_is s x) (fit.rows (setting.spot a) i), number_fits (pos 0) refl))

    by : (o : Option Operand) → word_in xs a p ≡ o → Follows setting s (Load v a p false) (moved_or o v (Load v a p false))
    by None e = inr (refl, tt)
    by (Some x) e = at x (cell_of setting s a p) (word_holds setting s xs a p x h e) refl
words_follow setting s xs op fit f h = inr (refl, f)

pub form_follows : (setting : Setting) (s : State) (fs : List Fact) (xs : List Access) (op : Op) → SpotsFit setting → has_numbers op ≡ true → Good fs s → AllTell setting s xs → Follows setting s op (form fs xs op)
form_follows setting s fs xs op spots n g h =
    by (words_follow setting s xs (formed fs op) g.fits (formed_fits s.values setting fs op g.fits.values g.facts (numbers_fit setting s.values op spots g.fits.values n)) h)
  where
    same : effect setting s (formed fs op) s ≡ effect setting s op s
    same = formed_same setting s fs op g.facts

    by : Follows setting s (formed fs op) (form fs xs op) → Follows setting s op (form fs xs op)
    by (inl e) = inl (sym same ∙ e)
    by (inr e) = inr (e.0 ∙ same, e.1)

-- ---- what the operation as it was says

first_hold : (values : ℕ → Content) (fs gs : List Fact) → AllHold values (fs ++ gs) → AllHold values fs
first_hold values [] gs h = tt
first_hold values (f ∷ fs) gs h = (h.0, first_hold values fs gs h.1)

facts_hold_if : (values : ℕ → Content) (t : Bool) (fs : List Fact) → AllHold values fs → AllHold values (facts_if t fs)
facts_hold_if values true fs h = h
facts_hold_if values false fs h = tt

lie_rest : (values : ℕ → Content) (t : Bool) (v : ℕ) (i : Interval) (fs : List Fact) → AllHold values (between_unless t v i fs) → AllHold values fs
lie_rest values true v i fs h = h
lie_rest values false v i fs h = h.1

lie_other : (values : ℕ → Content) (t : Bool) (v : ℕ) (i : Interval) (fs gs : List Fact) → AllHold values (between_unless t v i fs) → AllHold values gs → AllHold values (between_unless t v i gs)
lie_other values true v i fs gs h k = k
lie_other values false v i fs gs h k = (h.0, k)

agree_rest : (values : ℕ → Content) (t : Bool) (v : ℕ) (c : Residue) (fs : List Fact) → AllHold values (congruent_unless t v c fs) → AllHold values fs
agree_rest values true v c fs h = h
agree_rest values false v c fs h = h.1

agree_other : (values : ℕ → Content) (t : Bool) (v : ℕ) (c : Residue) (fs gs : List Fact) → AllHold values (congruent_unless t v c fs) → AllHold values gs → AllHold values (congruent_unless t v c gs)
agree_other values true v c fs gs h k = k
agree_other values false v c fs gs h k = (h.0, k)

said_holds : (values : ℕ → Content) (t : Bool) (fs : List Fact) (op : Op) → AllHold values (after fs op) → AllHold values (said_unless t fs op)
said_holds values true fs op h = tt
said_holds values false fs (Compute code v a b) h =
    let i : Interval = computed_within fs code a b in
    let c : Residue = computed_residue fs code a b in
    let plain : Bool = (c.places == 0) || is_single i in
    let equals = equals_if (is_value v a || is_value v b) v code a b in
    let all : List Fact = equals ++ without v fs in
    let low : AllHold values (agrees_in v i c all) = lie_rest values (is_full i) v i (agrees_in v i c all) h in
    let rest : AllHold values all = agree_rest values plain v c all low in
    lie_other values (is_full i) v i (agrees_in v i c all) (agrees_in v i c (facts_if (is_test code) equals)) h
    (agree_other values plain v c all (facts_if (is_test code) equals) low (facts_hold_if values (is_test code) equals (first_hold values equals (without v fs) rest)))
said_holds values false fs (Place v a i) h = let j = times_if true (range_of fs i) (pos 4) in lie_other values (is_full j) v j (without v fs) [] h tt
said_holds values false fs op h = tt

-- those that are kept hold
newest_hold : (values : ℕ → Content) (left : ℕ) (fs : List Fact) → AllHold values fs → AllHold values (newest left fs)
newest_hold values left [] h = tt
newest_hold values left (Between v i ∷ fs) h = (h.0, newest_hold values left fs h.1)
newest_hold values left (Congruent v c ∷ fs) h = (h.0, newest_hold values left fs h.1)
newest_hold values left (Never ∷ fs) h = absurd h.0
newest_hold values zero (Equals v code a b ∷ fs) h = newest_hold values zero fs h.1
newest_hold values (suc left) (Equals v code a b ∷ fs) h = (h.0, newest_hold values left fs h.1)

-- what is known in a state, and of a step where it has a meaning

pub record Known (setting : Setting) (fs : List Fact) (xs : List Access) (s : State) : Type 0 where
  pub good : Good fs s
  pub tell : AllTell setting s xs

abbrev pub KeepsKnown : Setting → List Fact → List Access → Option State → Type 0
KeepsKnown setting fs xs None = Unit {0}
KeepsKnown setting fs xs (Some t) = Known setting fs xs t

pub form_known : (arrays : List Array) (setting : Setting) → StandApart arrays setting.spot → SpotsFit setting → (s : State) (fs : List Fact) (xs : List Access) (op : Op) → has_numbers op ≡ true → Known setting fs xs s →
    KeepsKnown setting (after_known fs xs op (form fs xs op)) (accessed arrays xs (form fs xs op)) (effect setting s op s)
form_known arrays setting apart spots s fs xs op n k = by (form_follows setting s fs xs op spots n k.good k.tell)
  where
    op' : Op
    op' = form fs xs op

    step : (o : Option State) → effect setting s op' s ≡ o → Keeps (after fs op') o → Keeps (after fs op) o → KeepsKnown setting (after_known fs xs op op') (accessed arrays xs op') o
    step None e q r = tt
    step (Some t) e q r = record {
      good = record {
        facts = newest_hold t.values most_equals (place_known xs op' ++ (said_unless (same_form op op') fs op ++ after fs op'))
            (append_holds t.values (place_known xs op') (said_unless (same_form op op') fs op ++ after fs op') (place_known_holds setting s t xs op' k.tell e)
            (append_holds t.values (said_unless (same_form op op') fs op) (after fs op') (said_holds t.values (same_form op op') fs op r.facts) q.facts));
        fits = q.fits;
      };
      tell = accessed_tell arrays setting apart s t op' xs k.tell e;
    }

    by : Follows setting s op op' → KeepsKnown setting (after_known fs xs op op') (accessed arrays xs op') (effect setting s op s)
    by (inl e) = subst (KeepsKnown setting (after_known fs xs op op') (accessed arrays xs op')) (sym e) tt
    by (inr e) =
        let old : Keeps (after fs op) (effect setting s op s) = op_good setting s fs op (numbers_fit setting s.values op spots k.good.fits.values n) k.good in
        subst (KeepsKnown setting (after_known fs xs op op') (accessed arrays xs op')) e.0
        (step (effect setting s op' s) refl (op_good setting s fs op' e.1 k.good) (subst (Keeps (after fs op)) (sym e.0) old))

-- what a claim says
abbrev pub Claimed : Setting → Claim → State → Type 0
Claimed setting claim s = Known setting claim.facts claim.accesses s

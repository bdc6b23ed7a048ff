-- An operation in its other form does the same.
use Rattle.std.proofs.Common.{◌≡◌, ℕ, Bool, true, false, pos, List, [], ◌∷◌, length, Option, Some, None, refl, sym, ap, ◌∙◌, subst}
use Rattle.std.proofs.lemmas.Bool.{eqb-true, false≢true}
use Rattle.vx_base.specs.declared.arithmetic.Code.{Code}
use Rattle.vx_base.specs.declared.arithmetic.Code.TheVariants.{Mov}
use Rattle.vx_flow.specs.declared.graph.Operand.{Operand}
use Rattle.vx_flow.specs.declared.graph.Operand.TheVariants.{Held, Number, Stack}
use Rattle.vx_flow.specs.declared.graph.Op.{Op}
use Rattle.vx_flow.specs.declared.graph.Op.TheVariants.{Compute, Select, Place, Load, Store, More, Input, Text, Decimal, Across, Base, PlaceIn}
use Rattle.vx_flow.specs.Effects.{Content, State, Setting, held, computed, chosen, place_of, place_by, row_of, cell_in, loaded, stored, printed, with_value, effect}
use Rattle.vx_claims.specs.declared.fact.Fact.{Fact}
use Rattle.vx_claims.specs.declared.fact.Fact.TheVariants.{Between, Congruent, Equals, Never}
use Rattle.vx_claims.specs.Facts.{full, Within, content, Holds, AllHold, found}
use Rattle.vx_claims.specs.Forming.{moves, operand_if, source_of, read, is_readable, read_if, computed_as, formed}
use Rattle.vx_claims.specs.declared.sums.Computation.{Computation}
use Rattle.vx_claims.specs.Sums.{based}
use Rattle.vx_narrow.proofs.SumForms.{BothFit, based_fits, based_gives}
use Rattle.vx_narrow.proofs.Ranges.{Fit}
use Rattle.vx_narrow.proofs.Equal.{found_holds}
use Rattle.vx_narrow.proofs.Operations.{OpFits, number_fits, held_is}

module _ (values : ℕ → Content) where
  moved_holds : (v u : ℕ) (code : Code) (a b : Operand) → moves v u code ≡ true → Holds values (Equals u code a b) → content values a ≡ values v
  moved_holds v u Mov a b e h = sym h ∙ ap values (eqb-true u v e)
  moved_holds v u code a b e h = absurd (false≢true e)

  operand_holds : (t : Bool) (a x : Operand) (c : Content) → (t ≡ true → content values a ≡ c) → content values x ≡ c → content values (operand_if t a x) ≡ c
  operand_holds true a x c h k = h refl
  operand_holds false a x c h k = k

  source_holds : (fs : List Fact) (v : ℕ) → AllHold values fs → content values (source_of fs v) ≡ values v
  source_holds [] v h = refl
  source_holds (Between u i ∷ fs) v h = source_holds fs v h.1
  source_holds (Congruent u c ∷ fs) v h = source_holds fs v h.1
  source_holds (Never ∷ fs) v h = absurd h.0
  source_holds (Equals u code a b ∷ fs) v h = operand_holds (moves v u code) a (source_of fs v) (values v) (λ e. moved_holds v u code a b e h.0) (source_holds fs v h.1)

  pub read_holds : (fs : List Fact) (x : Operand) → AllHold values fs → content values (read fs x) ≡ content values x
  read_holds fs (Held v) h = source_holds fs v h
  read_holds fs (Number n) h = refl
  read_holds fs Stack h = refl

  read_fits : (fs : List Fact) (x : Operand) → AllHold values fs → Within full (content values x) → Within full (content values (read fs x))
  read_fits fs x h w = subst (Within full) (sym (read_holds fs x h)) w

  computed_fit : (setting : Setting) (t : Bool) (code : Code) (v : ℕ) (a b : Operand) (o : Option ℕ) → Fit values → Within full (content values a) → Within full (content values b) → OpFits setting values (read_if t code v a b o)
  computed_fit setting true code v a b (Some w) fit p q = (fit w, number_fits (pos 0) refl)
  computed_fit setting true code v a b None fit p q = (p, q)
  computed_fit setting false code v a b o fit p q = (p, q)

  pub formed_fits : (setting : Setting) (fs : List Fact) (op : Op) → Fit values → AllHold values fs → OpFits setting values op → OpFits setting values (formed fs op)
  formed_fits setting fs (Compute code v a b) fit h f =
      let c : Computation = based fs code (read fs a) (read fs b) in
      let fits : BothFit values c = based_fits values fit fs code (read fs a) (read fs b) (read_fits fs a h f.0, read_fits fs b h f.1) in
      computed_fit setting (is_readable c.code) c.code v c.left c.right (found fs c.code c.left c.right) fit fits.0 fits.1
  formed_fits setting fs (Select v p a b) fit h f = (read_fits fs a h f.0, read_fits fs b h f.1)
  formed_fits setting fs (Place v a i) fit h f = tt
  formed_fits setting fs (Load v a p d) fit h f = tt
  formed_fits setting fs (Store a p x) fit h f = read_fits fs x h f
  formed_fits setting fs (More v) fit h f = tt
  formed_fits setting fs (Input v) fit h f = tt
  formed_fits setting fs (Text n) fit h f = tt
  formed_fits setting fs (Decimal x) fit h f = tt
  formed_fits setting fs (Across v u) fit h f = tt
  formed_fits setting fs (Base v a x) fit h f = f
  formed_fits setting fs (PlaceIn v a u i) fit h f = tt

held_read : (s : State) (fs : List Fact) (x : Operand) → AllHold s.values fs → held s (read fs x) ≡ held s x
held_read s fs x h = held_is s (read fs x) ∙ read_holds s.values fs x h ∙ sym (held_is s x)

read_same : (setting : Setting) (s : State) (t : Bool) (code : Code) (v : ℕ) (a b : Operand) (o : Option ℕ) → ((w : ℕ) → o ≡ Some w → s.values w ≡ computed code (held s a) (held s b)) →
    effect setting s (read_if t code v a b o) s ≡ effect setting s (Compute code v a b) s
read_same setting s true code v a b (Some w) h = ap (λ x. Some (with_value s v x)) (h w refl)
read_same setting s true code v a b None h = refl
read_same setting s false code v a b o h = refl

computed_same : (setting : Setting) (s : State) (fs : List Fact) (code : Code) (v : ℕ) (a b : Operand) → AllHold s.values fs → effect setting s (computed_as fs code v a b) s ≡ effect setting s (Compute code v a b) s
computed_same setting s fs code v a b h =
    let is : computed code (held s a) (held s b) ≡ computed code (content s.values a) (content s.values b) = ap (λ c. computed code c (held s b)) (held_is s a) ∙ ap (λ c. computed code (content s.values a) c) (held_is s b) in
    read_same setting s (is_readable code) code v a b (found fs code a b) (λ w e. found_holds s.values fs code a b w h e ∙ sym is)

both_held : (s : State) (code : Code) (a b : Operand) → computed code (held s a) (held s b) ≡ computed code (content s.values a) (content s.values b)
both_held s code a b = ap (λ c. computed code c (held s b)) (held_is s a) ∙ ap (λ c. computed code (content s.values a) c) (held_is s b)

based_held : (s : State) (fs : List Fact) (code : Code) (a b : Operand) → AllHold s.values fs → computed (based fs code a b).code (held s (based fs code a b).left) (held s (based fs code a b).right) ≡ computed code (held s a) (held s b)
based_held s fs code a b h =
    let c : Computation = based fs code a b in
    both_held s c.code c.left c.right ∙ based_gives s.values fs h code a b ∙ sym (both_held s code a b)

pub formed_same : (setting : Setting) (s : State) (fs : List Fact) (op : Op) → AllHold s.values fs → effect setting s (formed fs op) s ≡ effect setting s op s
formed_same setting s fs (Compute code v a b) h =
    let c : Computation = based fs code (read fs a) (read fs b) in
    computed_same setting s fs c.code v c.left c.right h ∙ ap (λ x. Some (with_value s v x)) (based_held s fs code (read fs a) (read fs b) h) ∙ ap (λ x. Some (with_value s v (computed code x (held s (read fs b))))) (held_read s fs a h)
    ∙ ap (λ x. Some (with_value s v (computed code (held s a) x))) (held_read s fs b h)
formed_same setting s fs (Select v p a b) h =
    ap (λ c. Some (with_value s v (chosen (s.values p) c (held s (read fs b))))) (held_read s fs a h) ∙ ap (λ c. Some (with_value s v (chosen (s.values p) (held s a) c))) (held_read s fs b h)
formed_same setting s fs (Place v a i) h = ap (λ c. Some (with_value s v (place_of c))) (held_read s fs i h)
formed_same setting s fs (Load v a p d) h = let row : List Content = row_of s (setting.spot a) in ap (λ c. loaded s v row (cell_in (length row) c) d) (held_read s fs p h)
formed_same setting s fs (Store a p x) h =
    let row : List Content = row_of s (setting.spot a) in
    ap (λ c. stored s (setting.spot a) (cell_in (length row) c) (held s (read fs x))) (held_read s fs p h) ∙ ap (λ c. stored s (setting.spot a) (cell_in (length row) (held s p)) c) (held_read s fs x h)
formed_same setting s fs (More v) h = refl
formed_same setting s fs (Input v) h = refl
formed_same setting s fs (Text n) h = refl
formed_same setting s fs (Decimal x) h = ap (λ c. printed s s.out c) (held_read s fs x h)
formed_same setting s fs (Across v u) h = refl
formed_same setting s fs (Base v a x) h = refl
formed_same setting s fs (PlaceIn v a u i) h = ap (λ c. Some (with_value s v (place_by (s.values u) c))) (held_read s fs i h)

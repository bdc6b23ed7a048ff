-- Values that words name, or that are live, have a bank.
use Rattle.std.proofs.Common.{◌≡◌, inl, inr, ⊎_elim, ℕ, Option, Some, None, List, [], ◌∷◌, length, refl, sym, ap, ◌∙◌, subst}
use Rattle.std.specs.Prelude.{slice_get}
use Rattle.std.specs.List.{flat_map}
use Rattle.vx_flow.specs.declared.graph.Bank.{Bank}
use Rattle.vx_flow.specs.declared.graph.Bank.TheVariants.{General, Branch}
use Rattle.vx_flow.specs.declared.graph.Operand.{Operand}
use Rattle.vx_flow.specs.declared.graph.Operand.TheVariants.{Held, Number, Stack}
use Rattle.vx_flow.specs.declared.graph.Op.{Op}
use Rattle.vx_flow.specs.declared.graph.Op.TheVariants.{More, Input, Text, Across, Base}
use Rattle.vx_flow.specs.declared.graph.Exit.{Exit}
use Rattle.vx_flow.specs.declared.graph.Exit.TheVariants.{Split as Branches, Call as Calling, Return as Returning}
use Rattle.vx_flow.specs.Effects.{IsIn, dismissed, value_in, reads}
use Rattle.vx_flow.specs.Sound.{Has, HasOperation, HasExit, IsOperandOf, operands_of_exit, Sound}
use Rattle.vx_flow.proofs.Members.{in_either}
use Rattle.vx_mixed.specs.declared.layout.Laid.{Laid}
use Rattle.vx_mixed.specs.declared.layout.Laid.TheVariants.{Plain, Split}
use Rattle.vx_mixed.specs.declared.layout.VirtualWord.{VirtualWord}
use Rattle.vx_mixed.specs.declared.layout.VirtualWord.TheVariants.{Planned, Drain, Transfer, Choice, Call, Return, Ends}
use Rattle.vx_mixed.specs.Settled.{stands_for}
use Rattle.vx_mixed.specs.LaidSettled.{bank_in, home_in, item_reads, item_writes, laid_reads, laid_writes, Plans}
use Rattle.vx_layout.specs.Origins.{whole, whole_op, ComesFrom, graph_op, copy}
use Rattle.vx_regs.specs.Intervals.{IsLive, here, beyond, word_reads}
use Rattle.vx_target.specs.Target.{Target}
use Rattle.vx_target.specs.Carried.{IsMapped}
use Rattle.vx_target.proofs.FromGraph.{undismissed, whole_bank, has_whole}

pub record FromItem {A : Type 0} (f : A → List ℕ) (v : ℕ) (xs : List A) : Type 0 where
  pub item : A
  pub has : IsIn item xs
  pub names : IsIn v (f item)

pub in_flat : {A : Type 0} (f : A → List ℕ) (v : ℕ) (xs : List A) → IsIn v (flat_map f xs) → FromItem f v xs
in_flat f v [] i = absurd i
in_flat f v (x ∷ xs) i = ⊎_elim
    (λ j. record { item = x; has = inl refl; names = j })
    (λ j. let r = in_flat f v xs j in record { item = r.item; has = inr r.has; names = r.names })
    (in_either v (f x) (flat_map f xs) i)

held_is : (v : ℕ) (x : Operand) → IsIn v (value_in x) → x ≡ Held v
held_is v (Held u) i = ⊎_elim (λ e. ap Held (sym e)) (λ j. absurd j) i
held_is v (Number n) i = absurd i
held_is v Stack i = absurd i

abbrev Any : ℕ → Type 0
Any a = Unit {0}

module _ (T : Target) (f : ℕ) (mapped : IsMapped T f) (sound : Sound (T.graph f)) where
  abbrev pub Banked : ℕ → Type 0
  Banked v = (b : Bank) × (bank_in (T.layout f) v ≡ Some b)

  abbrev Count : ℕ
  Count = length (T.graph f).banks

  stands_bank : (v c : ℕ) → stands_for (bank_in (T.layout f) v) (Some (home_in (T.layout f) v)) c → Banked v
  stands_bank v c h = by (bank_in (T.layout f) v) refl h
    where
      by : (x : Option Bank) → bank_in (T.layout f) v ≡ x → stands_for x (Some (home_in (T.layout f) v)) c → (b : Bank) × (bank_in (T.layout f) v ≡ Some b)
      by None e k = absurd k
      by (Some b) e k = (b, e)

  has_bank : (v : ℕ) (b : Bank) → Has (T.graph f) v b → Banked v
  has_bank v b h = (b, whole_bank T f Any sound mapped.code v b (has_whole T f Any sound mapped.code (λ a lt. tt) v b h))

  pub across_of : (op : Op) → ComesFrom (T.graph f) op → (v u : ℕ) → op ≡ Across v u → Has (T.graph f) u General
  across_of op (graph_op origin has same w b) v u e =
      let s : dismissed (whole_op Count (Across v u)) ≡ dismissed origin = subst (λ o. dismissed (whole_op Count o) ≡ dismissed origin) e same in
      absurd (sound.no_across (whole Count v) (whole Count u) (subst (HasOperation (T.graph f)) (undismissed (Across (whole Count v) (whole Count u)) origin refl s) has))
  across_of op (copy {u = x} {k = j} h less) v u e = let q : x ≡ u = cc in subst (λ z. Has (T.graph f) z General) q h

  -- what an operation reads and writes

  module _ (p : ℕ) (items : List Laid) (plans : Plans (T.layout f) p items) where
    read_bank : (op : Op) (k v : ℕ) → IsIn (Plain op k) items → IsIn v (reads op) → Banked v
    read_bank (Across x y) k v i r =
        let h = across_of (Across x y) (mapped.code.ops p k (Across x y) items plans i) x y refl in
        ⊎_elim (λ e. has_bank v General (subst (λ z. Has (T.graph f) z General) (sym e) h)) (λ j. absurd j) r
    read_bank (Base x a y) k v i r = absurd r
    read_bank (More x) k v i r = absurd r
    read_bank (Input x) k v i r = absurd r
    read_bank (Text n) k v i r = absurd r
    read_bank op k v i r = stands_bank v k (mapped.settled.reads_home p v k op items plans i r)

    item_read : (x : Laid) (v : ℕ) → IsIn x items → IsIn v (item_reads x) → Banked v
    item_read (Plain op k) v i r = read_bank op k v i r
    item_read (Split test y q) v i r = (Branch, ap (bank_in (T.layout f)) (⊎_elim (λ e. e) (λ j. absurd j) r) ∙ mapped.settled.tests p test q y items plans i)

    item_write : (x : Laid) (v : ℕ) → IsIn x items → IsIn v (item_writes x) → Banked v
    item_write (Plain op k) v i r = stands_bank v k (mapped.settled.writes_home p v k op items plans i r)
    item_write (Split test y q) v i r = absurd r

    pub reads_bank : (v : ℕ) → IsIn v (laid_reads items) → Banked v
    reads_bank v i = let r = in_flat item_reads v items i in item_read r.item v r.has r.names

    pub writes_bank : (v : ℕ) → IsIn v (laid_writes items) → Banked v
    writes_bank v i = let r = in_flat item_writes v items i in item_write r.item v r.has r.names

  exit_bank : (exit : Exit) (x : Operand) (v : ℕ) → HasExit (T.graph f) exit → IsIn x (operands_of_exit exit) → IsIn v (value_in x) → Banked v
  exit_bank exit x v has o i = has_bank v General (subst (IsOperandOf (T.graph f)) (held_is v x i) (sound.exit_operands exit x has o))

  word_bank : (p v : ℕ) (word : VirtualWord) → slice_get (T.layout f).words p ≡ Some word → IsIn v (word_reads word) → Banked v
  word_bank p v (Planned r w items) e i = reads_bank p items (r, w, e) v i
  word_bank p v (Drain n) e i = absurd i
  word_bank p v (Transfer q) e i = absurd i
  word_bank p v (Choice test q) e i =
      let parts = mapped.code.choices p test q e in
      ⊎_elim (λ s. has_bank v Branch (subst (λ z. Has (T.graph f) z Branch) (sym s) (sound.exit_tests (Branches test parts.yes parts.no) test parts.has (inl refl)))) (λ j. absurd j) i
  word_bank p v (Call g arguments result) e i =
      let c = mapped.code.calls p g arguments result e in
      let r = in_flat value_in v arguments i in
      exit_bank (Calling g arguments result c.next) r.item v c.has r.has r.names
  word_bank p v (Return x) e i = exit_bank (Returning x) x v (mapped.code.returns p x e) (inl refl) i
  word_bank p v (Ends k) e i = absurd i

  pub live_bank : (p v : ℕ) → IsLive (T.layout f) p v → Banked v
  live_bank p v (here {word = word} e i) = word_bank p v word e i
  live_bank p v (beyond {q = q} e no_ leads live) = live_bank q v live

-- Operations of their form, with registers that the machine has and targets and texts that are there, are sound.
use Rattle.std.proofs.Common.{◌≡◌, ◌<◌, ℕ, Bool, true, false, nat_le, nat_lt, List, [], ◌∷◌, ◌++◌, refl, sym, ◌∙◌, arith}
use Rattle.std.specs.List.{list_all}
use Rattle.std.specs.Cmp.Derive.{both_true}
use Rattle.std.proofs.lemmas.Bool.{and_parts, le-leb, lt-ltb, ltb-true}
use Rattle.std.proofs.lemmas.List.Folds.{list_all-append}
use Rattle.vx_base.specs.declared.arithmetic.Code.{Code}
use Rattle.vx_base.specs.declared.arithmetic.Code.TheVariants.{Mov, ToBranch}
use Rattle.vx_flow.specs.Effects.{is_unary}
use Rattle.vx_isa.specs.declared.operation.BranchRegister.{BranchRegister}
use Rattle.vx_isa.specs.declared.operation.GeneralRegister.{GeneralRegister}
use Rattle.vx_isa.specs.declared.operation.Register.{Register}
use Rattle.vx_isa.specs.declared.operation.Register.TheVariants.{General, Branch, Link}
use Rattle.vx_isa.specs.declared.operation.Source.{Source}
use Rattle.vx_isa.specs.declared.operation.Source.TheVariants.{Held, Number}
use Rattle.vx_isa.specs.declared.operation.Operation.{Operation}
use Rattle.vx_isa.specs.declared.operation.Operation.TheVariants.{Compute, Move, Select, Load, Store, Input, More, OutText, OutDecimal, OutByte, Goto, BranchOn, Call, Return, FromLink, ToLink, EndByTrap, Halt}
use Rattle.vx_isa.specs.Fits.{is_in_file, fits, operands, destinations}
use Rattle.vx_isa.specs.Numbers.{Numbers}
use Rattle.vx_isa.specs.Operations.{cluster_of, read_of, reads_of, list_of, destination_of}
use Rattle.vx_isa.specs.Sound.{can_name_cluster, can_name, can_name_branch, can_spell, is_destination, is_sound_operation}
use Rattle.vx_isa.proofs.FitsLaw.{six_parts, registers_pass}
use Rattle.vx_target.specs.Target.{computes}
use Rattle.vx_target.proofs.Forms.{to_branch}
use Rattle.vx_target.proofs.Limits.{Limits}

-- a compare to a branch register writes one, every other code but a move a general register
abbrev pub HasForm : Code → Register → Type 0
HasForm code (General r) = (to_branch code ≡ false) × (is_unary code ≡ false)
HasForm code (Branch r) = to_branch code ≡ true
HasForm code Link = ⊥

-- the operation is of its form, and what it names by number is there
abbrev pub Formed : (words texts : ℕ) → Operation → Type 0
Formed words texts (Compute k code to a b) = HasForm code to
Formed words texts (Move k to a) = Unit {0}
Formed words texts (Select k to t a b) = Unit {0}
Formed words texts (Load k to o r d) = Unit {0}
Formed words texts (Store k o r a) = Unit {0}
Formed words texts (Input to) = Unit {0}
Formed words texts (More to) = Unit {0}
Formed words texts (OutText n) = n < texts
Formed words texts (OutDecimal a) = Unit {0}
Formed words texts (OutByte a) = Unit {0}
Formed words texts (Goto p) = p < words
Formed words texts (BranchOn t y p) = p < words
Formed words texts (Call p) = p < words
Formed words texts Return = Unit {0}
Formed words texts (FromLink to) = Unit {0}
Formed words texts (ToLink a) = Unit {0}
Formed words texts (EndByTrap k) = Unit {0}
Formed words texts (Halt a) = Unit {0}

abbrev pub AllFormed : (words texts : ℕ) → List Operation → Type 0
AllFormed words texts [] = Unit {0}
AllFormed words texts (op ∷ ops) = Formed words texts op × AllFormed words texts ops

not_so : false ≡ true → ⊥
not_so e = cc

yes_no : true ≡ false → ⊥
yes_no e = cc

-- a code that moves is carried by a move
pub computes_formed : (words texts k : ℕ) (code : Code) (to : Register) (g : GeneralRegister) (a b : Source) → (is_unary code ≡ false → HasForm code to) → Formed words texts (computes k code to g a b)
computes_formed words texts k Mov to g a b h = tt
computes_formed words texts k code to g a b h = h refl

branch_destination : (code : Code) (r : BranchRegister) → to_branch code ≡ true → is_destination code (Branch r) ≡ can_name_branch r
branch_destination (ToBranch c) r e = refl
branch_destination code r e = absurd (not_so e)

general_destination : (code : Code) (r : GeneralRegister) → to_branch code ≡ false → is_unary code ≡ false → is_destination code (General r) ≡ can_name r
general_destination Mov r e m = absurd (yes_no m)
general_destination (ToBranch c) r e m = absurd (yes_no e)
general_destination code r e m = refl

module _ (m : Numbers) (l : Limits m) (words texts : ℕ) where
  abbrev InFile : Register → Bool
  InFile r = is_in_file m r

  abbrev Filed : List Register → Type 0
  Filed rs = list_all InFile rs ≡ true

  cluster_named : (k : ℕ) → k < m.clusters → can_name_cluster k ≡ true
  cluster_named k lt = le-leb k 3 (let a = l.most_clusters in omega arith)

  general_named : (r : GeneralRegister) → InFile (General r) ≡ true → can_name r ≡ true
  general_named r h =
      let p = and_parts (nat_lt r.cluster m.clusters) (nat_lt r.number m.registers) h in
      both_true (cluster_named r.cluster (ltb-true r.cluster m.clusters p.0)) (le-leb r.number 63 (let a = ltb-true r.number m.registers p.1 in let b = l.most_registers in omega arith))

  branch_named : (r : BranchRegister) → InFile (Branch r) ≡ true → can_name_branch r ≡ true
  branch_named r h =
      let p = and_parts (nat_lt r.cluster m.clusters) (nat_lt r.number m.branch_registers) h in
      both_true (cluster_named r.cluster (ltb-true r.cluster m.clusters p.0)) (le-leb r.number 7 (let a = ltb-true r.number m.branch_registers p.1 in let b = l.most_branches in omega arith))

  only : (r : Register) (rs : List Register) → Filed (r ∷ rs) → InFile r ≡ true
  only r rs h = (and_parts (InFile r) (list_all InFile rs) h).0

  others : (r : Register) (rs : List Register) → Filed (r ∷ rs) → Filed rs
  others r rs h = (and_parts (InFile r) (list_all InFile rs) h).1

  spelled : (a : Source) → Filed (read_of a) → can_spell a ≡ true
  spelled (Held r) h = general_named r (only (General r) [] h)
  spelled (Number z) h = refl

  two_spelled : (a b : Source) → Filed (read_of a ++ read_of b) → (can_spell a ≡ true) × (can_spell b ≡ true)
  two_spelled a b h =
      let p = and_parts (list_all InFile (read_of a)) (list_all InFile (read_of b)) (sym (list_all-append InFile (read_of a) (read_of b)) ∙ h) in
      (spelled a p.0, spelled b p.1)

  destination : (code : Code) (to : Register) → HasForm code to → InFile to ≡ true → is_destination code to ≡ true
  destination code (General r) f h = general_destination code r f.0 f.1 ∙ general_named r h
  destination code (Branch r) f h = branch_destination code r f ∙ branch_named r h
  destination code Link f h = absurd f

  -- one that stands on a cluster of the machine, and whose registers it has
  operation_sound : (op : Operation) → cluster_of op < m.clusters → Filed (reads_of op) → Filed (list_of (destination_of op)) → Formed words texts op → is_sound_operation words texts op ≡ true
  operation_sound (Compute k code to a b) lt rs ws f = let s = two_spelled a b rs in both_true (both_true (both_true (cluster_named k lt) (destination code to f (only to [] ws))) s.0) s.1
  operation_sound (Move k to a) lt rs ws f = both_true (both_true (cluster_named k lt) (general_named to (only (General to) [] ws))) (spelled a rs)
  operation_sound (Select k to t a b) lt rs ws f =
      let s = two_spelled a b (others (Branch t) (read_of a ++ read_of b) rs) in
      both_true (both_true (both_true (both_true (cluster_named k lt) (general_named to (only (General to) [] ws))) (branch_named t (only (Branch t) (read_of a ++ read_of b) rs))) s.0) s.1
  operation_sound (Load k to o r d) lt rs ws f = both_true (both_true (cluster_named k lt) (general_named to (only (General to) [] ws))) (general_named r (only (General r) [] rs))
  operation_sound (Store k o r a) lt rs ws f = both_true (both_true (cluster_named k lt) (general_named r (only (General r) (read_of a) rs))) (spelled a (others (General r) (read_of a) rs))
  operation_sound (Input to) lt rs ws f = general_named to (only (General to) [] ws)
  operation_sound (More to) lt rs ws f = general_named to (only (General to) [] ws)
  operation_sound (OutText n) lt rs ws f = lt-ltb n texts f
  operation_sound (OutDecimal a) lt rs ws f = spelled a rs
  operation_sound (OutByte a) lt rs ws f = spelled a rs
  operation_sound (Goto p) lt rs ws f = lt-ltb p words f
  operation_sound (BranchOn t y p) lt rs ws f = both_true (and_parts (can_name_cluster 0) (nat_le t 7) (branch_named (record { cluster = 0; number = t }) (only (Branch (record { cluster = 0; number = t })) [] rs))).1 (lt-ltb p words f)
  operation_sound (Call p) lt rs ws f = lt-ltb p words f
  operation_sound Return lt rs ws f = refl
  operation_sound (FromLink to) lt rs ws f = general_named to (only (General to) [] ws)
  operation_sound (ToLink a) lt rs ws f = spelled a rs
  operation_sound (EndByTrap k) lt rs ws f = refl
  operation_sound (Halt a) lt rs ws f = spelled a rs

  each_sound : (ops : List Operation) → list_all (λ op. nat_lt (cluster_of op) m.clusters) ops ≡ true → list_all (λ op. list_all InFile (reads_of op)) ops ≡ true → list_all (λ op. list_all InFile (list_of (destination_of op))) ops ≡ true → AllFormed words texts ops → list_all (is_sound_operation words texts) ops ≡ true
  each_sound [] c r w f = refl
  each_sound (op ∷ ops) c r w f =
      let a = and_parts (nat_lt (cluster_of op) m.clusters) (list_all (λ x. nat_lt (cluster_of x) m.clusters) ops) c in
      let b = and_parts (list_all InFile (reads_of op)) (list_all (λ x. list_all InFile (reads_of x)) ops) r in
      let d = and_parts (list_all InFile (list_of (destination_of op))) (list_all (λ x. list_all InFile (list_of (destination_of x))) ops) w in
      both_true (operation_sound op (ltb-true (cluster_of op) m.clusters a.0) b.0 d.0 f.0) (each_sound ops a.1 b.1 d.1 f.1)

  -- so are those of a word that fits
  pub all_sound : (ops : List Operation) → fits m ops ≡ true → AllFormed words texts ops → list_all (is_sound_operation words texts) ops ≡ true
  all_sound ops fit f =
      let six = six_parts _ _ _ _ _ _ fit in
      let on = and_parts (list_all (λ op. nat_lt (cluster_of op) m.clusters) ops) (list_all InFile (operands ops ++ destinations ops)) six.two in
      let filed = and_parts (list_all (λ op. list_all InFile (reads_of op)) ops) (list_all (λ op. list_all InFile (list_of (destination_of op))) ops) (sym (registers_pass InFile ops) ∙ on.1) in
      each_sound ops on.0 filed.0 filed.1 f

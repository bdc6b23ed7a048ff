-- What is known in a generated function, and code that leads from one such environment to another.
use Rattle.std.proofs.Common.{◌≡◌, ℕ, zero, suc, ◌+◌, ◌≤◌, Bool, true, false, cond, List, [], ◌∷◌, ◌++◌, replicate, slice_index_or, codes, Option, Some, None, refl, sym, ap, subst, ◌∙◌, arith}
use Rattle.vx_ast.specs.declared.tree.Gives.TheVariants.{Int as GivesInt}
use Rattle.vx_ast.specs.declared.tree.Takes.{Takes}
use Rattle.vx_ast.specs.declared.tree.Takes.TheVariants.{Number as TakesNumber, Array as TakesArray}
use Rattle.vx_ast.specs.declared.syntax.Place.{Place}
use Rattle.vx_ast.specs.declared.syntax.Name.{Name}
use Rattle.vx_ast.specs.declared.names.Named.{Named}
use Rattle.vx_ast.specs.declared.names.Named.TheVariants.{Scalar as AScalar, Global as AGlobal, Array as AnArray, Function as AFunctionNamed, ReadInt as Reads, MoreInput as AsksMore, Print as Prints}
use Rattle.vx_ast.specs.declared.names.Meant.{Meant}
use Rattle.vx_ast.specs.declared.names.FileName.{FileName}
use Rattle.vx_ast.specs.Tree.{One, Row}
use Rattle.vx_ast.specs.Tree as tree
use Rattle.vx_ast.specs.Syntax as syntax
use Rattle.vx_ast.specs.Scopes.{Known, Environment, find, same_name, predeclared, is_predeclared, in_file, known_of, look, wanted_by, is_at, declared, with_scalar, behind}
use Rattle.vx_ast.specs.Faults.{fault_if, phrase_faults, row_faults, declares, code_faults}
use Rattle.vx_ast.specs.Resolved.{tree_in, row_in, code_in}
use Rattle.vx_ast.specs.Accepted.{nodes_of, code_nodes, formats_of}
use Rattle.vx_generated.proofs.Forms.{Variable, InA, InB, InC, InD, byte_of}
use Rattle.vx_generated.proofs.Fine.{IsScalar, Knows, Fine, both_none}

-- what the functions of a file take, each parameter of which is a number
abbrev pub takes_before : Named → List (List Takes) → List (List Takes)
takes_before (AFunctionNamed f gives count) rest = replicate count TakesNumber ∷ rest
takes_before n rest = rest

abbrev pub takes_numbers : List FileName → List (List Takes)
takes_numbers [] = []
takes_numbers (n ∷ ns) = takes_before n.named (takes_numbers ns)

-- in a function of the file with these names
abbrev pub in_function : (above : ℕ) (names : List FileName) (locals : List Known) (scalars : ℕ) → Environment
in_function above names locals scalars = record { depth = 1; locals = locals; names = names; above = above; takes = takes_numbers names; scalars = scalars; arrays = 1; sizes = [] }

abbrev pub local : List ℕ → ℕ → Known
local x n = record { name = x; meant = record { depth = 1; named = AScalar n } }

at_front : (k : Known) (x : List ℕ) (ks : List Known) → k.meant.depth ≡ 0 → is_at 1 (find x ks) ≡ false → is_at 1 (find x (k ∷ ks)) ≡ false
at_front k x ks h r = by (same_name x k.name) where
  by : (b : Bool) → is_at 1 (cond b (Some k.meant) (find x ks)) ≡ false
  by true = rw h refl
  by false = r

known_shallow : (above : ℕ) (ns : List FileName) (x : List ℕ) → is_at 1 (find x (known_of above ns)) ≡ false
known_shallow zero [] x = refl
known_shallow (suc above) [] x = refl
known_shallow zero (n ∷ ns) x = by n.everywhere (known_shallow zero ns x) where
  by : (b : Bool) → is_at 1 (find x (known_of zero ns)) ≡ false → is_at 1 (find x (cond b (in_file n.name n.named ∷ known_of zero ns) (known_of zero ns))) ≡ false
  by true r = at_front (in_file n.name n.named) x (known_of zero ns) refl r
  by false r = r
known_shallow (suc above) (n ∷ ns) x = at_front (in_file n.name n.named) x (known_of above ns) refl (known_shallow above ns x)

file_shallow : (above : ℕ) (ns : List FileName) (x : List ℕ) → is_at 1 (find x (predeclared ++ known_of above ns)) ≡ false
unfolding predeclared
file_shallow above ns x =
    at_front (in_file (codes "read_int") Reads) x (in_file (codes "more_input") AsksMore ∷ in_file (codes "printf") Prints ∷ known_of above ns) refl
    (at_front (in_file (codes "more_input") AsksMore) x (in_file (codes "printf") Prints ∷ known_of above ns) refl
    (at_front (in_file (codes "printf") Prints) x (known_of above ns) refl (known_shallow above ns x)))

-- the name is none of the function's own so far
abbrev pub IsNew : List ℕ → List Known → Type 0
IsNew x locals = (file : List Known) → find x (locals ++ file) ≡ find x file

pub fresh : (above : ℕ) (names : List FileName) (locals : List Known) (n : ℕ) (x : List ℕ) → IsNew x locals → is_at 1 (look x (in_function above names locals n)) ≡ false
unfolding look
fresh above names locals n x h = ap (λ (o : Option Meant). is_at 1 o) (h (predeclared ++ known_of above names)) ∙ file_shallow above names x

pub adds : (above : ℕ) (names : List FileName) (locals : List Known) (n : ℕ) (x : Name) → IsNew x.bytes locals → with_scalar x (in_function above names locals n) ≡ in_function above names (local x.bytes n ∷ locals) (n + 1)
unfolding declared
adds above names locals n x h =
    ap (λ (b : Bool). record (cond b (in_function above names locals n) (in_function above names (local x.bytes n ∷ locals) n)) { scalars = n + 1 }) (fresh above names locals n x.bytes h)

untaken : (a b : Bool) (place : Place) → a ≡ false → b ≡ false → fault_if (cond a true b) 6 place ≡ []
untaken a b place h k = rw h (rw k refl)

pub declares_none : (above : ℕ) (names : List FileName) (locals : List Known) (n : ℕ) (x : Name) → is_predeclared x.bytes ≡ false → IsNew x.bytes locals → declares (in_function above names locals n) x ≡ []
declares_none above names locals n x p h = untaken (is_predeclared x.bytes) (is_at 1 (look x.bytes (in_function above names locals n))) x.place p (fresh above names locals n x.bytes h)

-- code

pub record Leads (n : ℕ) (c : syntax.Code) (e f : Environment) : Type 0 where
  pub faults : code_faults GivesInt false e c ≡ []
  pub leads : behind c e ≡ f
  pub nodes : code_nodes (code_in e c) ≤ n
  pub formats : formats_of (code_in e c) ≡ []

pub of_fine : {n : ℕ} {c : syntax.Code} (e : Environment) → Knows e → Fine n c → Leads n c e e
of_fine e k s = record { faults = s.faults GivesInt false e k; leads = s.keeps e; nodes = s.nodes e; formats = s.formats e }

pub of_nothing : (e : Environment) → Leads 0 syntax.Nothing e e
of_nothing e = record { faults = refl; leads = refl; nodes = omega arith; formats = refl }

pub of_seq : {n m : ℕ} {c d : syntax.Code} {e f g : Environment} → Leads n c e f → Leads m d f g → Leads (n + m) (syntax.Seq c d) e g
of_seq {n = n} {m = m} {c = c} {d = d} {e = e} {f = f} {g = g} s t = record {
  faults = both_none (code_faults GivesInt false e c) (code_faults GivesInt false (behind c e) d) s.faults (subst (λ (x : Environment). code_faults GivesInt false x d ≡ []) (sym s.leads) t.faults);
  leads = ap (λ (x : Environment). behind d x) s.leads ∙ t.leads;
  nodes =
      let x : code_nodes (code_in e c) ≤ n = s.nodes in
      let y : code_nodes (code_in (behind c e) d) ≤ m = subst (λ (x : Environment). code_nodes (code_in x d) ≤ m) (sym s.leads) t.nodes in
      omega (arith, x, y);
  formats = both_none (formats_of (code_in e c)) (formats_of (code_in (behind c e) d)) s.formats (subst (λ (x : Environment). formats_of (code_in x d) ≡ []) (sym s.leads) t.formats);
}

pub leads_more : {n : ℕ} (m : ℕ) {c : syntax.Code} {e f : Environment} → n ≤ m → Leads n c e f → Leads m c e f
leads_more {n = n} m {c = c} {e = e} h s = record { faults = s.faults; leads = s.leads; nodes = let x : code_nodes (code_in e c) ≤ n = s.nodes in omega (arith, h, x); formats = s.formats }

pub of_scalar : (above : ℕ) (names : List FileName) (locals : List Known) (n : ℕ) (x : Name) → is_predeclared x.bytes ≡ false → IsNew x.bytes locals
    → Leads 1 (syntax.Seq (syntax.Scalar x) syntax.Nothing) (in_function above names locals n) (in_function above names (local x.bytes n ∷ locals) (n + 1))
of_scalar above names locals n x p h = of_seq {n = 1} {m = 0} {c = syntax.Scalar x} {d = syntax.Nothing} (record { faults = declares_none above names locals n x p h; leads = adds above names locals n x h; nodes = omega arith; formats = refl }) (of_nothing _)

pub of_value : (above : ℕ) (names : List FileName) (locals : List Known) (n : ℕ) (x : Name) (e : syntax.Phrase One) → is_predeclared x.bytes ≡ false → IsNew x.bytes locals
    → phrase_faults (in_function above names locals n) e ≡ [] → nodes_of (tree_in (in_function above names locals n) e) ≤ 1
    → Leads 2 (syntax.Seq (syntax.ScalarWith x e) syntax.Nothing) (in_function above names locals n) (in_function above names (local x.bytes n ∷ locals) (n + 1))
of_value above names locals n x e p h f k =
    of_seq {n = 2} {m = 0} {c = syntax.ScalarWith x e} {d = syntax.Nothing} (record {
      faults = both_none (phrase_faults (in_function above names locals n) e) (declares (in_function above names locals n) x) f (declares_none above names locals n x p h);
      leads = adds above names locals n x h;
      nodes = omega (arith, k);
      formats = refl;
    }) (of_nothing _)

-- the locals of a generated function: its parameters, and all

abbrev pub parameters : List Known
parameters = local (codes "q") 1 ∷ local (codes "p") 0 ∷ []

abbrev pub with_i : List Known
with_i = local (codes "i") 2 ∷ parameters

abbrev pub with_a : List Known
with_a = local (codes "a") 3 ∷ with_i

abbrev pub with_b : List Known
with_b = local (codes "b") 4 ∷ with_a

abbrev pub with_c : List Known
with_c = local (codes "c") 5 ∷ with_b

abbrev pub all_locals : List Known
all_locals = local (codes "d") 6 ∷ with_c

-- the array of the file
abbrev pub array_name : FileName
array_name = record { name = codes "m"; everywhere = false; named = AnArray 0 }

pub knows_all : (above : ℕ) (others : List FileName) → Knows (in_function (suc above) (array_name ∷ others) all_locals 7)
unfolding look predeclared
knows_all above others = record {
  variables = λ v. of_variable v;
  counter = record { number = 2; is = refl };
  array = refl;
} where
  of_variable : (v : Variable) → IsScalar (in_function (suc above) (array_name ∷ others) all_locals 7) (byte_of v ∷ [])
  of_variable InA = record { number = 3; is = refl }
  of_variable InB = record { number = 4; is = refl }
  of_variable InC = record { number = 5; is = refl }
  of_variable InD = record { number = 6; is = refl }

-- a call in it hands over numbers

abbrev pub OnlyNumbers : List Takes → Type 0
OnlyNumbers [] = Unit {0}
OnlyNumbers (TakesNumber ∷ ks) = OnlyNumbers ks
OnlyNumbers (TakesArray ∷ ks) = ⊥

so_many_numbers : (n : ℕ) → OnlyNumbers (replicate n TakesNumber)
so_many_numbers zero = tt
so_many_numbers (suc n) = so_many_numbers n

data AllNumbers : List (List Takes) → Type 0 where
  none : AllNumbers []
  one : {ks : List Takes} {kss : List (List Takes)} → OnlyNumbers ks → AllNumbers kss → AllNumbers (ks ∷ kss)

before_numbers : (n : Named) (kss : List (List Takes)) → AllNumbers kss → AllNumbers (takes_before n kss)
before_numbers (AScalar x) kss h = h
before_numbers (AGlobal a) kss h = h
before_numbers (AnArray a) kss h = h
before_numbers (AFunctionNamed f gives count) kss h = AllNumbers.one (so_many_numbers count) h
before_numbers Reads kss h = h
before_numbers AsksMore kss h = h
before_numbers Prints kss h = h

all_numbers : (ns : List FileName) → AllNumbers (takes_numbers ns)
all_numbers [] = AllNumbers.none
all_numbers (n ∷ ns) = before_numbers n.named (takes_numbers ns) (all_numbers ns)

numbers_at : (kss : List (List Takes)) (f : ℕ) → AllNumbers kss → OnlyNumbers (slice_index_or kss f [])
numbers_at [] f AllNumbers.none = tt
numbers_at (ks ∷ kss) zero (AllNumbers.one h more) = h
numbers_at (ks ∷ kss) (suc f) (AllNumbers.one h more) = numbers_at kss f more

pub wants_numbers : (above : ℕ) (names : List FileName) (locals : List Known) (n : ℕ) (o : Option Named) → OnlyNumbers (wanted_by (in_function above names locals n) o)
wants_numbers above names locals n None = tt
wants_numbers above names locals n (Some (AScalar x)) = tt
wants_numbers above names locals n (Some (AGlobal a)) = tt
wants_numbers above names locals n (Some (AnArray a)) = tt
wants_numbers above names locals n (Some (AFunctionNamed f gives count)) = numbers_at (takes_numbers names) f (all_numbers names)
wants_numbers above names locals n (Some Reads) = tt
wants_numbers above names locals n (Some AsksMore) = tt
wants_numbers above names locals n (Some Prints) = tt

-- such arguments are as those of a print
pub numbers_fine : (e : Environment) (ks : List Takes) (row : syntax.Phrase Row) → OnlyNumbers ks → row_faults e ks row ≡ row_faults e [] row
numbers_fine e ks syntax.NoMore h = refl
numbers_fine e [] (syntax.Then place a rest) h = refl
numbers_fine e (TakesNumber ∷ ks) (syntax.Then place a rest) h = ap (λ fs. phrase_faults e a ++ fs) (numbers_fine e ks rest h)
numbers_fine e (TakesArray ∷ ks) (syntax.Then place a rest) h = absurd h

pub numbers_handed : (e : Environment) (ks : List Takes) (row : syntax.Phrase Row) → OnlyNumbers ks → row_in e ks row ≡ row_in e [] row
numbers_handed e ks syntax.NoMore h = refl
numbers_handed e [] (syntax.Then place a rest) h = refl
numbers_handed e (TakesNumber ∷ ks) (syntax.Then place a rest) h = ap (λ r. tree.Then (tree_in e a) r) (numbers_handed e ks rest h)
numbers_handed e (TakesArray ∷ ks) (syntax.Then place a rest) h = absurd h

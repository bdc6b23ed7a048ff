-- Parts of a tree that have no fault where the names of a generated function are known, and how many nodes they have.
use Rattle.std.proofs.Common.{◌≡◌, ℕ, ℤ, ◌+◌, ◌≤◌, Bool, true, List, [], ◌∷◌, ◌++◌, codes, Option, Some, None, refl, sym, ap, subst, ◌∙◌, arith}
use Rattle.vx_ast.specs.declared.tree.Gives.{Gives}
use Rattle.vx_ast.specs.declared.tree.BinaryOperator.{BinaryOperator}
use Rattle.vx_ast.specs.declared.syntax.Place.{Place}
use Rattle.vx_ast.specs.declared.syntax.Name.{Name}
use Rattle.vx_ast.specs.declared.names.Named.{Named}
use Rattle.vx_ast.specs.declared.names.Named.TheVariants.{Scalar as AScalar, Global as AGlobal, Array as AnArray, Function as AFunctionNamed, ReadInt as Reads, MoreInput as AsksMore, Print as Prints}
use Rattle.vx_ast.specs.Tree.{One}
use Rattle.vx_ast.specs.Syntax as syntax
use Rattle.vx_ast.specs.Scopes.{Environment, named, look, inside, outside, behind}
use Rattle.vx_ast.specs.Faults.{used, indexed, changed, phrase_faults, target_faults, action_faults, code_faults}
use Rattle.vx_ast.specs.Resolved.{number_named, place_named, tree_in, target_in, action_in, code_in}
use Rattle.vx_ast.specs.Accepted.{nodes_of, target_nodes, action_nodes, code_nodes, formats_of}
use Rattle.vx_generated.proofs.Forms.{Variable, byte_of}

pub record IsScalar (env : Environment) (x : List ℕ) : Type 0 where
  pub number : ℕ
  pub is : named x env ≡ Some (AScalar number)

-- the names of a generated function
pub record Knows (env : Environment) : Type 0 where
  pub variables : (v : Variable) → IsScalar env (byte_of v ∷ [])
  pub counter : IsScalar env (codes "i")
  pub array : named (codes "m") env ≡ Some (AnArray 0)

pub knows_inside : (env : Environment) → Knows env → Knows (inside env)
unfolding look
knows_inside env k = record {
  variables = λ v. record { number = (k.variables v).number; is = (k.variables v).is };
  counter = record { number = k.counter.number; is = k.counter.is };
  array = k.array;
}

pub both_none : {X : Type 0} (a b : List X) → a ≡ [] → b ≡ [] → a ++ b ≡ []
both_none a b h k = rw h k

-- expressions

pub record Suits (n : ℕ) (e : syntax.Phrase One) : Type 0 where
  pub faults : (env : Environment) → Knows env → phrase_faults env e ≡ []
  pub nodes : (env : Environment) → nodes_of (tree_in env e) ≤ n

used_none : (x : Name) (o : Option Named) (n : ℕ) → o ≡ Some (AScalar n) → used x o ≡ []
used_none x o n h = rw h refl

one_node : (o : Option Named) → nodes_of (number_named o) ≤ 1
one_node None = omega arith
one_node (Some (AScalar n)) = omega arith
one_node (Some (AGlobal a)) = omega arith
one_node (Some (AnArray a)) = omega arith
one_node (Some (AFunctionNamed f gives count)) = omega arith
one_node (Some Reads) = omega arith
one_node (Some AsksMore) = omega arith
one_node (Some Prints) = omega arith

pub suits_scalar : (x : Name) → ((env : Environment) → Knows env → IsScalar env x.bytes) → Suits 1 (syntax.Use x)
suits_scalar x h = record { faults = λ env k. used_none x (named x.bytes env) (h env k).number (h env k).is; nodes = λ env. one_node (named x.bytes env) }

pub suits_variable : (v : Variable) (place : Place) → Suits 1 (syntax.Use (record { bytes = byte_of v ∷ []; place = place }))
suits_variable v place = suits_scalar (record { bytes = byte_of v ∷ []; place = place }) (λ env k. k.variables v)

pub suits_counter : (place : Place) → Suits 1 (syntax.Use (record { bytes = codes "i"; place = place }))
suits_counter place = suits_scalar (record { bytes = codes "i"; place = place }) (λ env k. k.counter)

pub suits_number : (z : ℤ) → Suits 1 (syntax.Number z)
suits_number z = record { faults = λ env k. refl; nodes = λ env. omega arith }

pub suits_binary : {n m : ℕ} {a b : syntax.Phrase One} (operator : BinaryOperator) → Suits n a → Suits m b → Suits (1 + n + m) (syntax.Binary operator a b)
suits_binary {n = n} {m = m} {a = a} {b = b} operator s t = record {
  faults = λ env k. both_none (phrase_faults env a) (phrase_faults env b) (s.faults env k) (t.faults env k);
  nodes = λ env. sum env;
} where
  sum : (env : Environment) → 1 + nodes_of (tree_in env a) + nodes_of (tree_in env b) ≤ 1 + n + m
  sum env = let x = s.nodes env in let y = t.nodes env in omega (arith, x, y)

indexed_none : (x : Name) (o : Option Named) (n : ℕ) → o ≡ Some (AnArray n) → indexed x o ≡ []
indexed_none x o n h = rw h refl

pub suits_element : {n : ℕ} {i : syntax.Phrase One} (place : Place) → Suits n i → Suits (1 + n) (syntax.Element (record { bytes = codes "m"; place = place }) i)
suits_element {n = n} {i = i} place s = record {
  faults = λ env k. both_none (indexed (record { bytes = codes "m"; place = place }) (named (codes "m") env)) (phrase_faults env i) (indexed_none (record { bytes = codes "m"; place = place }) (named (codes "m") env) 0 k.array) (s.faults env k);
  nodes = λ env. sum env;
} where
  sum : (env : Environment) → 1 + nodes_of (tree_in env i) ≤ 1 + n
  sum env = let x = s.nodes env in omega (arith, x)

pub suits_more : {n : ℕ} (m : ℕ) {e : syntax.Phrase One} → n ≤ m → Suits n e → Suits m e
suits_more {n = n} m {e = e} h s = record { faults = s.faults; nodes = λ env. more env } where
  more : (env : Environment) → nodes_of (tree_in env e) ≤ m
  more env = let x = s.nodes env in omega (arith, h, x)

-- targets

pub record SuitsTarget (n : ℕ) (t : syntax.Target) : Type 0 where
  pub faults : (env : Environment) → Knows env → target_faults env t.place t.phrase ≡ []
  pub nodes : (env : Environment) → target_nodes (target_in env t.phrase) ≤ n

changed_none : (place : Place) (x : Name) (o : Option Named) (n : ℕ) → o ≡ Some (AScalar n) → changed place x o ≡ []
changed_none place x o n h = rw h refl

one_target : (o : Option Named) → target_nodes (place_named o) ≤ 1
one_target None = omega arith
one_target (Some (AScalar n)) = omega arith
one_target (Some (AGlobal a)) = omega arith
one_target (Some (AnArray a)) = omega arith
one_target (Some (AFunctionNamed f gives count)) = omega arith
one_target (Some Reads) = omega arith
one_target (Some AsksMore) = omega arith
one_target (Some Prints) = omega arith

pub target_scalar : (place : Place) (x : Name) → ((env : Environment) → Knows env → IsScalar env x.bytes) → SuitsTarget 1 (record { place = place; phrase = syntax.Use x })
target_scalar place x h = record { faults = λ env k. changed_none place x (named x.bytes env) (h env k).number (h env k).is; nodes = λ env. one_target (named x.bytes env) }

pub target_variable : (at : Place) (v : Variable) (place : Place) → SuitsTarget 1 (record { place = at; phrase = syntax.Use (record { bytes = byte_of v ∷ []; place = place }) })
target_variable at v place = target_scalar at (record { bytes = byte_of v ∷ []; place = place }) (λ env k. k.variables v)

pub target_counter : (at place : Place) → SuitsTarget 1 (record { place = at; phrase = syntax.Use (record { bytes = codes "i"; place = place }) })
target_counter at place = target_scalar at (record { bytes = codes "i"; place = place }) (λ env k. k.counter)

pub target_element : {n : ℕ} {i : syntax.Phrase One} (at place : Place) → Suits n i → SuitsTarget (1 + n) (record { place = at; phrase = syntax.Element (record { bytes = codes "m"; place = place }) i })
target_element at place s = record { faults = (suits_element place s).faults; nodes = (suits_element place s).nodes }

-- actions

pub record SuitsAction (n : ℕ) (a : syntax.Action) : Type 0 where
  pub faults : (env : Environment) → Knows env → action_faults env a ≡ []
  pub nodes : (env : Environment) → action_nodes (action_in env a) ≤ n

pub suits_assign : {n m : ℕ} {t : syntax.Target} {e : syntax.Phrase One} → SuitsTarget n t → Suits m e → SuitsAction (n + m) (syntax.Assign t e)
suits_assign {n = n} {m = m} {t = t} {e = e} s u = record {
  faults = λ env k. both_none (target_faults env t.place t.phrase) (phrase_faults env e) (s.faults env k) (u.faults env k);
  nodes = λ env. sum env;
} where
  sum : (env : Environment) → target_nodes (target_in env t.phrase) + nodes_of (tree_in env e) ≤ n + m
  sum env = let x = s.nodes env in let y = u.nodes env in omega (arith, x, y)

pub suits_increase : {n : ℕ} {t : syntax.Target} → SuitsTarget n t → SuitsAction n (syntax.Increase t)
suits_increase s = record { faults = s.faults; nodes = s.nodes }

-- statements that leave the names as they are and print nothing

pub record Fine (n : ℕ) (c : syntax.Code) : Type 0 where
  pub faults : (gives : Gives) (loops : Bool) (env : Environment) → Knows env → code_faults gives loops env c ≡ []
  pub keeps : (env : Environment) → behind c env ≡ env
  pub nodes : (env : Environment) → code_nodes (code_in env c) ≤ n
  pub formats : (env : Environment) → formats_of (code_in env c) ≡ []

pub fine_simply : {n : ℕ} {a : syntax.Action} → SuitsAction n a → Fine (1 + n) (syntax.Simply a)
fine_simply {n = n} {a = a} s = record {
  faults = λ gives loops env k. s.faults env k;
  keeps = λ env. refl;
  nodes = λ env. more env;
  formats = λ env. refl;
} where
  more : (env : Environment) → 1 + action_nodes (action_in env a) ≤ 1 + n
  more env = let x = s.nodes env in omega (arith, x)

out_again : (env : Environment) → outside env (inside env) ≡ env
out_again env = refl

pub fine_block : {n : ℕ} {c : syntax.Code} → Fine n c → Fine (1 + n) (syntax.Block (syntax.Seq c syntax.Nothing))
fine_block {n = n} {c = c} s = record {
  faults = λ gives loops env k. both_none (code_faults gives loops (inside env) c) [] (s.faults gives loops (inside env) (knows_inside env k)) refl;
  keeps = λ env. ap (λ (e : Environment). outside env e) (s.keeps (inside env)) ∙ out_again env;
  nodes = λ env. more env;
  formats = λ env. both_none (formats_of (code_in (inside env) c)) [] (s.formats (inside env)) refl;
} where
  more : (env : Environment) → 1 + (code_nodes (code_in (inside env) c) + 0) ≤ 1 + n
  more env = let x = s.nodes (inside env) in omega (arith, x)

pub fine_if : {n m : ℕ} {e : syntax.Phrase One} {c : syntax.Code} → Suits n e → Fine m c → Fine (1 + n + m) (syntax.If e c)
fine_if {n = n} {m = m} {e = e} {c = c} t s = record {
  faults = λ gives loops env k. both_none (phrase_faults env e) (code_faults gives loops (inside env) c) (t.faults env k) (s.faults gives loops (inside env) (knows_inside env k));
  keeps = λ env. ap (λ (e : Environment). outside env e) (s.keeps (inside env)) ∙ out_again env;
  nodes = λ env. more env;
  formats = λ env. s.formats (inside env);
} where
  more : (env : Environment) → 1 + nodes_of (tree_in env e) + code_nodes (code_in (inside env) c) ≤ 1 + n + m
  more env = let x = t.nodes env in let y = s.nodes (inside env) in omega (arith, x, y)

pub fine_if_else : {n m k : ℕ} {e : syntax.Phrase One} {c d : syntax.Code} → Suits n e → Fine m c → Fine k d → Fine (1 + n + m + k) (syntax.IfElse e c d)
fine_if_else {n = n} {m = m} {k = o} {e = e} {c = c} {d = d} t s u = record {
  faults = λ gives loops env k. both_none (phrase_faults env e) (code_faults gives loops (inside env) c ++ code_faults gives loops (inside (outside env (behind c (inside env)))) d) (t.faults env k)
      (both_none (code_faults gives loops (inside env) c) (code_faults gives loops (inside (outside env (behind c (inside env)))) d) (s.faults gives loops (inside env) (knows_inside env k))
      (subst (λ (x : Environment). code_faults gives loops (inside (outside env x)) d ≡ []) (sym (s.keeps (inside env))) (u.faults gives loops (inside env) (knows_inside env k))));
  keeps = λ env. keep env;
  nodes = λ env. more env;
  formats = λ env. both_none (formats_of (code_in (inside env) c)) (formats_of (code_in (inside (outside env (behind c (inside env)))) d)) (s.formats (inside env)) (u.formats (inside (outside env (behind c (inside env)))));
} where
  keep : (env : Environment) → outside env (behind d (inside (outside env (behind c (inside env))))) ≡ env
  keep env = ap (λ (x : Environment). outside env (behind d (inside (outside env x)))) (s.keeps (inside env)) ∙ ap (λ (e : Environment). outside env e) (u.keeps (inside env)) ∙ out_again env

  more : (env : Environment) → 1 + nodes_of (tree_in env e) + code_nodes (code_in (inside env) c) + code_nodes (code_in (inside (outside env (behind c (inside env)))) d) ≤ 1 + n + m + o
  more env = let x = t.nodes env in let y = s.nodes (inside env) in let z = u.nodes (inside (outside env (behind c (inside env)))) in omega (arith, x, y, z)

pub fine_for : {n m k l : ℕ} {a b : syntax.Action} {e : syntax.Phrase One} {c : syntax.Code} → SuitsAction n a → Suits m e → SuitsAction k b → Fine l c → Fine (1 + n + m + k + l) (syntax.For (syntax.Head a) (Some e) (syntax.Head b) c)
fine_for {n = n} {m = m} {k = o} {l = l} {a = a} {b = b} {e = e} {c = c} f t g s = record {
  faults = λ gives loops env k.
      both_none (action_faults (inside env) a) _ (f.faults (inside env) (knows_inside env k))
      (both_none (phrase_faults (inside env) e) _ (t.faults (inside env) (knows_inside env k))
      (both_none (action_faults (inside env) b) _ (g.faults (inside env) (knows_inside env k)) (s.faults gives true (inside (inside env)) (knows_inside (inside env) (knows_inside env k)))));
  keeps = λ env. ap (λ (e : Environment). outside env e) (s.keeps (inside (inside env)));
  nodes = λ env. more env;
  formats = λ env. s.formats (inside (inside env));
} where
  more : (env : Environment) → 1 + action_nodes (action_in (inside env) a) + nodes_of (tree_in (inside env) e) + action_nodes (action_in (inside env) b) + code_nodes (code_in (inside (inside env)) c) ≤ 1 + n + m + o + l
  more env = let x = f.nodes (inside env) in let y = t.nodes (inside env) in let z = g.nodes (inside env) in let w = s.nodes (inside (inside env)) in omega (arith, x, y, z, w)

pub fine_more : {n : ℕ} (m : ℕ) {c : syntax.Code} → n ≤ m → Fine n c → Fine m c
fine_more {n = n} m {c = c} h s = record { faults = s.faults; keeps = s.keeps; nodes = λ env. more env; formats = s.formats } where
  more : (env : Environment) → code_nodes (code_in env c) ≤ m
  more env = let x = s.nodes env in omega (arith, h, x)

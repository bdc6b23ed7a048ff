-- A statement by its code: what is made of it, what is known behind it, and its faults.
use Rattle.std.proofs.Common.{◌≡◌, Bool, false, true, List, ◌++◌, ap, sym, ◌∙◌, Option, Result, Ok, Err, IfOk, OnOk, Box, Global}
use Rattle.vx_ast.specs.declared.tree.Gives.{Gives}
use Rattle.vx_ast.specs.declared.tree.Gives.TheVariants.{Int}
use Rattle.vx_ast.specs.declared.tree.Statement.{Statement as Made}
use Rattle.vx_ast.specs.declared.syntax.Statement.{Statement as Written}
use Rattle.vx_ast.specs.declared.names.Fault.{Fault}
use Rattle.vx_ast.specs.Syntax as syntax
use Rattle.vx_ast.specs.Syntax.{Phrase, Code}
use Rattle.vx_ast.specs.Tree as tree
use Rattle.vx_ast.specs.Tree.{Tree, One}
use Rattle.vx_ast.specs.Faults.{code_faults, least, phrase_faults, test_faults}
use Rattle.vx_ast.specs.Resolved.{code_in, tree_in}
use Rattle.vx_ast.specs.Scopes.{Environment, inside, outside, behind}
use Rattle.vx_ast.specs.SyntaxView.{code_of}
use Rattle.vx_ast.specs.View as view
use Rattle.vx_types.proofs.Leasts.{least_append}

-- what holds anyway holds where there is a value
pub holds_on : {T E : Type 0} {P : Type 0} (r : Result T E) → P → OnOk r P
holds_on (Ok x) p = p
holds_on (Err e) p = tt

-- what is known of a value is known of what is there
pub known_on : {T E : Type 0} {P Q : T → Type 0} (r : Result T E) → ((x : T) → P x → Q x) → IfOk r P → IfOk r Q
known_on (Ok x) f p = f x p
known_on (Err e) f p = tt

-- what a call made of a statement with this code
pub made_by : {E : Type 0} (r : Result Made E) (env : Environment) (s : Written) (k : Code) → code_of s ≡ k → IfOk r (λ m. view.code_of m ≡ code_in env k) → IfOk r (λ m. view.code_of m ≡ code_in env (code_of s))
made_by (Ok x) env s k e h = h ∙ ap (λ (z : Code). code_in env z) (sym e)
made_by (Err x) env s k e h = tt

-- what is known behind it
pub known_by : {T E : Type 0} (r : Result T E) (env new : Environment) (s : Written) (k : Code) → code_of s ≡ k → OnOk r (new ≡ behind k env) → OnOk r (new ≡ behind (code_of s) env)
known_by (Ok x) env new s k e h = h ∙ ap (λ (z : Code). behind z env) (sym e)
known_by (Err x) env new s k e h = tt

-- its faults
pub faults_by : {T E : Type 0} (r : Result T E) (gives : Gives) (loops : Bool) (env : Environment) (first after : Option Fault) (s : Written) (k : Code) → code_of s ≡ k
    → OnOk r (after ≡ least first (code_faults gives loops env k)) → OnOk r (after ≡ least first (code_faults gives loops env (code_of s)))
faults_by (Ok x) gives loops env first after s k e h = h ∙ ap (λ (z : Code). least first (code_faults gives loops env z)) (sym e)
faults_by (Err x) gives loops env first after s k e h = tt

-- a test and a body, whatever is made of the two
pub tested_made : (f : Tree One → tree.Code → tree.Code) (env : Environment) (s : Written) (k : Code) (test more : Tree One) (body rest : tree.Code) → code_of s ≡ k → test ≡ more → body ≡ rest → f more rest ≡ code_in env k → f test body ≡ code_in env (code_of s)
tested_made f env s k test more body rest e t b h = ap (λ (z : Tree One). f z body) t ∙ ap (λ (z : tree.Code). f more z) b ∙ h ∙ ap (λ (z : Code). code_in env z) (sym e)

-- the faults of a test and of a body behind it
pub tested_faults : (gives : Gives) (loops : Bool) (env : Environment) (first after : Option Fault) (s : Written) (k : Code) (test body : List Fault) → code_of s ≡ k → after ≡ least (least first test) body → code_faults gives loops env k ≡ test ++ body
    → after ≡ least first (code_faults gives loops env (code_of s))
tested_faults gives loops env first after s k test body e a h =
    a ∙ sym (least_append first test body) ∙ ap (λ (z : List Fault). least first z) (sym h) ∙ ap (λ (z : Code). least first (code_faults gives loops env z)) (sym e)

-- with what stands behind `else`

pub else_made : {E : Type 0} (r : Result Made E) (env middle : Environment) (s : Written) (e : Phrase One) (a b : Code) (test : Tree One) (left : tree.Code) → code_of s ≡ syntax.IfElse e a b → test ≡ tree_in env e → left ≡ code_in (inside env) a
    → middle ≡ outside env (behind a (inside env)) → IfOk r (λ m. view.code_of m ≡ tree.IfElse test left (code_in (inside middle) b)) → IfOk r (λ m. view.code_of m ≡ code_in env (code_of s))
else_made (Err x) env middle s e a b test left is t l n h = tt
else_made (Ok x) env middle s e a b test left is t l n h =
    h ∙ ap (λ (z : Tree One). tree.IfElse z left (code_in (inside middle) b)) t ∙ ap (λ (z : tree.Code). tree.IfElse (tree_in env e) z (code_in (inside middle) b)) l
    ∙ ap (λ (z : Environment). tree.IfElse (tree_in env e) (code_in (inside env) a) (code_in (inside z) b)) n ∙ ap (λ (z : Code). code_in env z) (sym is)

pub else_known : {T E : Type 0} (r : Result T E) (env middle new : Environment) (s : Written) (e : Phrase One) (a b : Code) → code_of s ≡ syntax.IfElse e a b → middle ≡ outside env (behind a (inside env))
    → OnOk r (new ≡ outside middle (behind b (inside middle))) → OnOk r (new ≡ behind (code_of s) env)
else_known (Err x) env middle new s e a b is n h = tt
else_known (Ok x) env middle new s e a b is n h = h ∙ ap (λ (z : Environment). outside z (behind b (inside z))) n ∙ ap (λ (z : Code). behind z env) (sym is)

pub else_faults : {T E : Type 0} (r : Result T E) (gives : Gives) (loops : Bool) (env middle : Environment) (first before after : Option Fault) (s : Written) (e : Phrase One) (a b : Code) → code_of s ≡ syntax.IfElse e a b
    → middle ≡ outside env (behind a (inside env)) → before ≡ least (least first (phrase_faults env e)) (code_faults gives loops (inside env) a)
    → OnOk r (after ≡ least before (code_faults gives loops (inside middle) b)) → OnOk r (after ≡ least first (code_faults gives loops env (code_of s)))
else_faults (Err x) gives loops env middle first before after s e a b is n f h = tt
else_faults (Ok x) gives loops env middle first before after s e a b is n f h =
    let xs = phrase_faults env e in
    let ys = code_faults gives loops (inside env) a in
    let zs = code_faults gives loops (inside (outside env (behind a (inside env)))) b in
    h ∙ ap (λ (z : Environment). least before (code_faults gives loops (inside z) b)) n ∙ ap (λ (z : Option Fault). least z zs) f
    ∙ sym (least_append (least first xs) ys zs) ∙ sym (least_append first xs (ys ++ zs)) ∙ ap (λ (z : Code). least first (code_faults gives loops env z)) (sym is)

-- a statement in a box
pub boxed_made : {E : Type 0} (r : Result (Box Made Global) E) (m : Made) (k : tree.Code) → view.code_of m ≡ k → IfOk r (λ h. h.value ≡ m) → IfOk r (λ h. view.code_of h.value ≡ k)
boxed_made (Ok x) m k e h = ap (λ (z : Made). view.code_of z) h ∙ e
boxed_made (Err x) m k e h = tt

-- the four parts of a `for`
pub for_made : (first before : tree.Code) (test asked : Option (Tree One)) (step next : tree.Code) (body rest : tree.Code) → first ≡ before → test ≡ asked → step ≡ next → body ≡ rest → tree.For first test step body ≡ tree.For before asked next rest
for_made first before test asked step next body rest f t s b =
    ap (λ (z : tree.Code). tree.For z test step body) f ∙ ap (λ (z : Option (Tree One)). tree.For before z step body) t
    ∙ ap (λ (z : tree.Code). tree.For before asked z body) s ∙ ap (λ (z : tree.Code). tree.For before asked next z) b

-- faults that are those of every function
pub faults_alike : {T E : Type 0} (r : Result T E) (first after : Option Fault) (xs ys : List Fault) → xs ≡ ys → OnOk r (after ≡ least first ys) → OnOk r (after ≡ least first xs)
faults_alike (Ok x) first after xs ys e h = h ∙ ap (λ (z : List Fault). least first z) (sym e)
faults_alike (Err x) first after xs ys e h = tt

-- the faults of the head of a `for` and of its body behind it
pub for_faults : (gives : Gives) (start step body : Code) (test : Option (Phrase One)) (env entered middle : Environment) (first after last : Option Fault) → entered ≡ inside env → middle ≡ behind start entered
    → after ≡ least (least (least first (code_faults Int false entered start)) (test_faults (behind start entered) test)) (code_faults Int false (behind start entered) step)
    → last ≡ least after (code_faults gives true (inside middle) body)
    → last ≡ least first (code_faults Int false (inside env) start ++ (test_faults (behind start (inside env)) test ++ (code_faults Int false (behind start (inside env)) step ++ code_faults gives true (inside (behind start (inside env))) body)))
for_faults gives start step body test env entered middle first after last e m a l =
    let known = behind start (inside env) in
    let xs : List Fault = code_faults Int false (inside env) start in
    let ys : List Fault = test_faults known test in
    let zs : List Fault = code_faults Int false known step in
    let ws : List Fault = code_faults gives true (inside known) body in
    l ∙ ap (λ (z : Environment). least after (code_faults gives true (inside z) body)) (m ∙ ap (λ (z : Environment). behind start z) e) ∙ ap (λ (z : Option Fault). least z ws) a
    ∙ ap (λ (z : Environment). least (least (least (least first (code_faults Int false z start)) (test_faults (behind start z) test)) (code_faults Int false (behind start z) step)) ws) e
    ∙ sym (least_append (least (least first xs) ys) zs ws) ∙ sym (least_append (least first xs) ys (zs ++ ws)) ∙ sym (least_append first xs (ys ++ (zs ++ ws)))

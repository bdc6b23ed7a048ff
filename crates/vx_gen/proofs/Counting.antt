-- What the parts from one number on give: the part of this number, and then those from the next one on.
use Rattle.std.proofs.Common.{◌≡◌, ℕ, suc, ◌+◌, ◌-◌, ◌*◌, ◌<◌, List, ◌++◌, min, ap, sym, ◌∙◌, arith, append_assoc}
use Rattle.vx_gen.specs.Program.{Made, Puts, and_then, statement, statements, function, functions, call_line, call_lines}

one_less : (j k : ℕ) → j < k → k - j ≡ suc (k - (j + 1))
one_less j k h = omega arith

statements_left : (j k x : ℕ) → j < k → statements (k - j) x ≡ and_then (statement x) (statements (k - (j + 1)))
statements_left j k x h = ap (λ n. statements n x) (one_less j k h)

functions_left : (size j k x : ℕ) → j < k → functions size j (k - j) x ≡ and_then (function j (min 100 (size - 100 * j)) x) (functions size (j + 1) (k - (j + 1)))
functions_left size j k x h = ap (λ n. functions size j n x) (one_less j k h)

calls_left : (j k : ℕ) → j < k → call_lines j (k - j) ≡ call_line j ++ call_lines (j + 1) (k - (j + 1))
calls_left j k h = ap (λ n. call_lines j n) (one_less j k h)

-- one more part, in a loop whose invariant is that what is written and what is left make the whole

pub statement_text :
    (j k x next : ℕ) (out after whole : List ℕ) → j < k → Puts (statement x) out after next
    → out ++ (statements (k - j) x).text ≡ whole → after ++ (statements (k - (j + 1)) next).text ≡ whole
statement_text j k x next out after whole h p e =
    let left : (statements (k - j) x).text ≡ (statement x).text ++ (statements (k - (j + 1)) (statement x).state).text = ap (λ (m : Made). m.text) (statements_left j k x h) in
    let put : after ≡ out ++ (statement x).text = p.text in
    let reached : next ≡ (statement x).state = p.state in
    let joined = append_assoc out (statement x).text (statements (k - (j + 1)) (statement x).state).text in
    cc

pub statement_state :
    (j k x next : ℕ) (out after : List ℕ) (end : ℕ) → j < k → Puts (statement x) out after next
    → (statements (k - j) x).state ≡ end → (statements (k - (j + 1)) next).state ≡ end
statement_state j k x next out after end h p e =
    let left : (statements (k - j) x).state ≡ (statements (k - (j + 1)) (statement x).state).state = ap (λ (m : Made). m.state) (statements_left j k x h) in
    let reached : next ≡ (statement x).state = p.state in
    cc

pub function_text :
    (size j k n x next : ℕ) (out after whole : List ℕ) → j < k → n ≡ min 100 (size - 100 * j) → Puts (function j n x) out after next
    → out ++ (functions size j (k - j) x).text ≡ whole → after ++ (functions size (j + 1) (k - (j + 1)) next).text ≡ whole
function_text size j k n x next out after whole h count p e =
    let left : (functions size j (k - j) x).text ≡ (function j n x).text ++ (functions size (j + 1) (k - (j + 1)) (function j n x).state).text =
    ap (λ (m : Made). m.text) (functions_left size j k x h)
    ∙ ap (λ c. (and_then (function j c x) (functions size (j + 1) (k - (j + 1)))).text) (sym count) in
    let put : after ≡ out ++ (function j n x).text = p.text in
    let reached : next ≡ (function j n x).state = p.state in
    let joined = append_assoc out (function j n x).text (functions size (j + 1) (k - (j + 1)) (function j n x).state).text in
    cc

pub function_state :
    (size j k n x next : ℕ) (out after : List ℕ) (end : ℕ) → j < k → n ≡ min 100 (size - 100 * j) → Puts (function j n x) out after next
    → (functions size j (k - j) x).state ≡ end → (functions size (j + 1) (k - (j + 1)) next).state ≡ end
function_state size j k n x next out after end h count p e =
    let left : (functions size j (k - j) x).state ≡ (functions size (j + 1) (k - (j + 1)) (function j n x).state).state =
    ap (λ (m : Made). m.state) (functions_left size j k x h)
    ∙ ap (λ c. (and_then (function j c x) (functions size (j + 1) (k - (j + 1)))).state) (sym count) in
    let reached : next ≡ (function j n x).state = p.state in
    cc

pub call_text : (j k : ℕ) (out after whole : List ℕ) → j < k → after ≡ out ++ call_line j → out ++ call_lines j (k - j) ≡ whole → after ++ call_lines (j + 1) (k - (j + 1)) ≡ whole
call_text j k out after whole h put e =
    let left : call_lines j (k - j) ≡ call_line j ++ call_lines (j + 1) (k - (j + 1)) = calls_left j k h in
    let joined = append_assoc out (call_line j) (call_lines (j + 1) (k - (j + 1))) in
    cc

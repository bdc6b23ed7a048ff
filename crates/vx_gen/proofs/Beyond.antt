-- Numbers beyond the last form.
use Rattle.std.proofs.Common.{◌≡◌, ℕ, zero, suc, ◌≤◌, [], refl, arith}
use Rattle.vx_gen.specs.Program.{form_at, expression_forms, statement_forms}

pub no_expression : (k : ℕ) → 5 ≤ k → form_at expression_forms k ≡ []
unfolding expression_forms
no_expression (suc (suc (suc (suc (suc k))))) h = refl
no_expression zero h = absurd (omega arith)
no_expression (suc zero) h = absurd (omega arith)
no_expression (suc (suc zero)) h = absurd (omega arith)
no_expression (suc (suc (suc zero))) h = absurd (omega arith)
no_expression (suc (suc (suc (suc zero)))) h = absurd (omega arith)

pub no_statement : (k : ℕ) → 6 ≤ k → form_at statement_forms k ≡ []
unfolding statement_forms
no_statement (suc (suc (suc (suc (suc (suc k)))))) h = refl
no_statement zero h = absurd (omega arith)
no_statement (suc zero) h = absurd (omega arith)
no_statement (suc (suc zero)) h = absurd (omega arith)
no_statement (suc (suc (suc zero))) h = absurd (omega arith)
no_statement (suc (suc (suc (suc zero)))) h = absurd (omega arith)
no_statement (suc (suc (suc (suc (suc zero))))) h = absurd (omega arith)

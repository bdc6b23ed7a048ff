-- What a scan from a place on says, by the byte at the place and the scan behind it.
use Rattle.std.proofs.Common.{◌≡◌, ℕ, ◌+◌, ◌<◌, ◌≤◌, Bool, true, false, cond, ◌&&◌, nat_eq, List, [], ◌∷◌, drop, length, None, Some, get_or, refl, add-one, drop-cons, is_none, unwrap_or, codes}
use Rattle.std.specs.List.{starts_with}
use Rattle.std.proofs.lemmas.List.{drop_all}
use Rattle.vx_ast.specs.Tokens.{before_quote, before_bad_escape, escapes_read, before_close, escape_of, is_free}
use Rattle.vx_lex.proofs.Counted.{behind, here_or_behind, none_or_behind}

cut : (text : List ℕ) (k : ℕ) → k < length text → drop k text ≡ get_or text k 0 ∷ drop (k + 1) text
cut text k h = rw (add-one, drop-cons text k 0) refl

pub quote_step : (e : Bool) (text : List ℕ) (k : ℕ) → k < length text → behind k (before_quote e (drop k text))
    ≡ cond (nat_eq (get_or text k 0) 10) None (cond (is_free 34 e (get_or text k 0)) (Some k) (behind (k + 1) (before_quote (is_free 92 e (get_or text k 0)) (drop (k + 1) text))))
unfolding before_quote
quote_step e text k h = rw (cut text k h) (none_or_behind _ _ k _)

pub quote_end : (e : Bool) (text : List ℕ) (k : ℕ) → length text ≤ k → behind k (before_quote e (drop k text)) ≡ None
unfolding before_quote
quote_end e text k h = rw (drop_all k text h) refl

pub escape_step : (e : Bool) (text : List ℕ) (k : ℕ) → k < length text → behind k (before_bad_escape e (drop k text))
    ≡ cond (e && is_none (escape_of (get_or text k 0))) (Some k) (behind (k + 1) (before_bad_escape (is_free 92 e (get_or text k 0)) (drop (k + 1) text)))
unfolding before_bad_escape
escape_step e text k h = rw (cut text k h) (here_or_behind _ k _)

pub escape_end : (e : Bool) (text : List ℕ) (k : ℕ) → length text ≤ k → behind k (before_bad_escape e (drop k text)) ≡ None
unfolding before_bad_escape
escape_end e text k h = rw (drop_all k text h) refl

pub read_step : (e : Bool) (text : List ℕ) (k : ℕ) → k < length text → escapes_read e (drop k text)
    ≡ cond (is_free 92 e (get_or text k 0)) (escapes_read true (drop (k + 1) text)) (cond e (unwrap_or (escape_of (get_or text k 0)) (get_or text k 0)) (get_or text k 0) ∷ escapes_read false (drop (k + 1) text))
unfolding escapes_read
read_step e text k h = rw (cut text k h) refl

pub read_end : (e : Bool) (text : List ℕ) (k : ℕ) → length text ≤ k → escapes_read e (drop k text) ≡ []
unfolding escapes_read
read_end e text k h = rw (drop_all k text h) refl

pub close_step : (text : List ℕ) (k : ℕ) → k < length text → behind k (before_close (drop k text))
    ≡ cond (starts_with nat_eq (drop k text) (codes "*/")) (Some k) (behind (k + 1) (before_close (drop (k + 1) text)))
unfolding before_close
close_step text k h = rw (cut text k h) (here_or_behind _ k _)

pub close_end : (text : List ℕ) (k : ℕ) → length text ≤ k → behind k (before_close (drop k text)) ≡ None
unfolding before_close
close_end text k h = rw (drop_all k text h) refl

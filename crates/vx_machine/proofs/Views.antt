-- The table that was read, beside the members that definitions speak of.
use Rattle.std.proofs.Common.{◌≡◌, ℕ, ◌+◌, ◌<◌, ◌≤◌, not, List, [], ◌∷◌, length, Bool, true, false, if◌then◌else◌, Some, None, ◌∙◌, ◌||◌, refl, ap, string_bytes, drop, add-one, arith}
use Rattle.std.specs.List.{list_any}
use Rattle.std.specs.Str.{bytes_eq, IsUtf8, is_utf8}
use Rattle.std.specs.Map.{keys_of}
use Rattle.std.proofs.lemmas.List.{drop_more, drop_all}
use Rattle.std.proofs.lemmas.Str.{IsUtf8-from_is_utf8, is_utf8-from_IsUtf8}
use Rattle.toml.specs.Data.{Members}
use Rattle.toml.specs.Parse.{parse_document}
use Rattle.toml.proofs.Views.{Entry}
use Rattle.toml.specs.View.{members_view}
use Rattle.vx_machine.specs.Descriptions.{names, name_of, has_unknown, table_of}

pub has_unknown_view : (es : List Entry) → has_unknown (members_view es) ≡ list_any (λ key. not (list_any (bytes_eq (string_bytes key)) names)) (keys_of es)
has_unknown_view [] = refl
has_unknown_view (e ∷ es) = ap (λ b. not (list_any (bytes_eq (string_bytes e.0)) names) || b) (has_unknown_view es)

names-length : length names ≡ 17
unfolding names
names-length = refl

pub is_name_more : (key : List ℕ) (i : ℕ) → i < 17 → list_any (bytes_eq key) (drop i names) ≡ (bytes_eq key (name_of (i + 1)) || list_any (bytes_eq key) (drop (i + 1) names))
is_name_more key i h =
    let within : i < length names = omega (arith, names-length) in
    ap (list_any (bytes_eq key)) (drop_more names i [] within) ∙ rw add-one

pub is_name_end : (key : List ℕ) (i : ℕ) → 17 ≤ i → list_any (bytes_eq key) (drop i names) ≡ false
is_name_end key i h = ap (list_any (bytes_eq key)) (drop_all i names (omega (arith, names-length)))

-- the table of a description

pub table_read : (bytes : List ℕ) (t : Members) → IsUtf8 bytes × (parse_document bytes ≡ Some t) → table_of bytes ≡ Some t
table_read bytes t h = rw (is_utf8-from_IsUtf8 bytes h.0) h.1

refused_at : (bytes : List ℕ) (b : Bool) → is_utf8 bytes ≡ b → (IsUtf8 bytes → parse_document bytes ≡ None) → (if not b then None else parse_document bytes) ≡ None
refused_at bytes true e h = h (IsUtf8-from_is_utf8 bytes e)
refused_at bytes false e h = refl

pub table_refused : (bytes : List ℕ) → (IsUtf8 bytes → parse_document bytes ≡ None) → table_of bytes ≡ None
table_refused bytes h = refused_at bytes (is_utf8 bytes) refl h

-- Rows of tables, as graphs use them.
pub use Rattle.vx_tables.specs.Rows.{row_at, is_marked, unmarked, work, RowsKept, Added, lives, Rising}

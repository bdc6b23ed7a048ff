-- What is in a list, and in the rows of a table.
pub use Rattle.vx_tables.proofs.Members.{in_left, in_right, in_either, in_last, in_front_or_last, set_there, kept, row_is, added_keeps, added_has, set_elsewhere, added_exact}

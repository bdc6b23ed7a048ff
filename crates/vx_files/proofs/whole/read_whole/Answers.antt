-- A file that was read whole, one that is too long, and one that is not there.
use Rattle.std.proofs.Common.{◌∙◌, Err, inl, inr, refl, ap}
use Rattle.vx_files.proofs.whole.read_whole.Goals as goal

pub returns-in-Ok-Whole-clause-same_files : goal.returns-in-Ok-Whole-clause-same_files
returns-in-Ok-Whole-clause-same_files g c = c.read_file.ensures.same_files

pub returns-in-Ok-Whole-clause-reads_never_fall : goal.returns-in-Ok-Whole-clause-reads_never_fall
returns-in-Ok-Whole-clause-reads_never_fall g c = c.read_file.ensures.reads_never_fall

pub returns-in-Ok-Whole-clause-replaces_never_fall : goal.returns-in-Ok-Whole-clause-replaces_never_fall
returns-in-Ok-Whole-clause-replaces_never_fall g c = c.read_file.ensures.replaces_never_fall

pub returns-in-Ok-Whole-clause-refused : goal.returns-in-Ok-Whole-clause-refused
returns-in-Ok-Whole-clause-refused g c = tt

pub returns-in-Ok-TooLong : goal.returns-in-Ok-TooLong
returns-in-Ok-TooLong g c = record {
  same_files = c.read_file.ensures.same_files;
  content = tt;
  short = tt;
  refused = inr (inr (inr (refl, rw c.in-Ok-TooLong.field-0-is at c.in-Ok-TooLong.ensures.content)));
  reads_never_fall = c.read_file.ensures.reads_never_fall;
  replaces_never_fall = c.read_file.ensures.replaces_never_fall;
}

pub returns-in-Err-Failed : goal.returns-in-Err-Failed
returns-in-Err-Failed g c = record {
  same_files = c.read_file.ensures.same_files;
  content = tt;
  short = tt;
  refused = inr (inl (refl, c.read_file.ensures.failed (c.in-Err-Failed.is ∙ ap Err c.in-Err-Failed.field-0-is)));
  reads_never_fall = c.read_file.ensures.reads_never_fall;
  replaces_never_fall = c.read_file.ensures.replaces_never_fall;
}

pub returns-in-Err-NoFile : goal.returns-in-Err-NoFile
returns-in-Err-NoFile g c = record {
  same_files = c.read_file.ensures.same_files;
  content = tt;
  short = tt;
  refused = inr (inr (inl (refl, c.read_file.ensures.no_file (c.in-Err-NoFile.is ∙ ap Err c.in-Err-NoFile.field-0-is))));
  reads_never_fall = c.read_file.ensures.reads_never_fall;
  replaces_never_fall = c.read_file.ensures.replaces_never_fall;
}

pub returns-in-Err-NoMemory : goal.returns-in-Err-NoMemory
returns-in-Err-NoMemory g c = record {
  same_files = c.read_file.ensures.same_files;
  content = tt;
  short = tt;
  refused = inl refl;
  reads_never_fall = c.read_file.ensures.reads_never_fall;
  replaces_never_fall = c.read_file.ensures.replaces_never_fall;
}

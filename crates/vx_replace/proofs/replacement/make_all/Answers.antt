use Rattle.vx_replace.proofs.replacement.make_all.Goals as goal

pub make_parts-requires-clause-valid : goal.make_parts-requires-clause-valid
make_parts-requires-clause-valid c = c.requires.valid

pub put_regions-requires-clause-lists : goal.put_regions-requires-clause-lists
put_regions-requires-clause-lists c = c.requires.can.lists

pub put_regions-requires-clause-words : goal.put_regions-requires-clause-words
put_regions-requires-clause-words c = c.requires.can.words

-- What other crates use of flat states: words of fields, what writes make of them, what makes a layout flat, and lists of layouts.
-- the words that a function gives to rows
pub use Rattle.sg_flat.proofs.FieldWords.{word_at-words_of, word_at-past, words_of-agree, are_words_of}
-- a field after no writes, after one list of writes and then another, and after one write
pub use Rattle.sg_flat.proofs.Landings.{field_after-nil, field_after-append, field_after-one, field_after-are_words}
-- a layout after a run is flat; a row with a word other than 0 is that of an active coordinate
pub use Rattle.sg_flat.proofs.FlatLayouts.{RunLaws, layout_after_is, layout_after_is_flat, word_is_active, coords_inside}
-- writes of which none is outside stay inside each layout
pub use Rattle.sg_flat.proofs.Insides.{is_inside_its, inside_from_none, all_inside, stay_inside_each}
-- that a coordinate is active, as a test and as a fact
pub use Rattle.sg_flat.proofs.Asked.{same_is, same_itself, active_is, active_not}

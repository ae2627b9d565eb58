-- In mode lower a run writes nothing before the text of access code, except for a last line.
use Rattle.std.proofs.Common.{◌≡◌, ◌≢◌, ◌⊎◌, inl, inr, ℕ, Bool, true, false, List, [], Option, Some, None, Result, Ok, Err, refl, arith}
use Rattle.std.specs.Prelude.{if◌then◌else◌}
use Rattle.sg_ast.specs.declared.program.Item.{Item}
use Rattle.sg_outside.specs.Files.{Reading, Bytes, TooMany, Missing}
use Rattle.sg_lexer.specs.Limits.{most_file_bytes}
use Rattle.sg_session.specs.declared.refusal.Refusal.{Refusal}
use Rattle.sg_session.specs.Bindings.{Binding}
use Rattle.sg_session.specs.Compiled.{CheckedProgram}
use Rattle.sg_session.specs.Compiling.{spelled_program, compiled_program}
use Rattle.sparsegrid.specs.Words.{Asked, Doing, performs, generates, looks, writes_code, audits, doing, good_words, is_gen}
use Rattle.sparsegrid.specs.Moves.{pieces_in, text_in}
use Rattle.sparsegrid.specs.Generated.{generated_text}
use Rattle.sparsegrid.specs.Lines.{refusal_last}
use Rattle.sparsegrid.specs.Meaning.{Meaning, Readings, is_code, asks_code, meaning_in, items_or_none, meaning_of_compiled, meaning_of_source, meaning_of_file, meaning_of_generated, meaning_of_asked, meaning_of_words, meaning_by}
use Rattle.sparsegrid.proofs.Sources.{file_statuses}

-- a meaning without any text
pub record WritesNothing (m : Meaning) : Type 0 where
  pub no_pieces : pieces_in m.moves ≡ []
  pub no_text : text_in m.moves ≡ []
  pub no_line : m.line ≡ []

-- if all is done, there is no text
abbrev IsSilent : Meaning → Type 0
IsSilent m = m.status ≡ 0 → WritesNothing m

in_silent : (what : Doing) (program : CheckedProgram) (from : Option (List ℕ)) (bindings : List Binding) (readings : Readings) → is_code what ≡ true → IsSilent (meaning_in what program from bindings readings)
in_silent (performs shown) program from bindings readings lower = absurd (cc)
in_silent generates program from bindings readings lower = absurd (cc)
in_silent looks program from bindings readings lower = absurd (cc)
in_silent writes_code program from bindings readings lower = λ zero. record { no_pieces = refl; no_text = refl; no_line = refl }
in_silent audits program from bindings readings lower = absurd (cc)

refused_file : (items : List Item) (why : Refusal) → (refusal_last items why).status ≢ 0
refused_file items why = by_status (file_statuses items why) where
  by_status : ((refusal_last items why).status ≡ 4) ⊎ (((refusal_last items why).status ≡ 5) ⊎ ((refusal_last items why).status ≡ 8)) → (refusal_last items why).status ≢ 0
  by_status (inl four) = λ zero. absurd (omega (arith, four, zero))
  by_status (inr (inl five)) = λ zero. absurd (omega (arith, five, zero))
  by_status (inr (inr eight)) = λ zero. absurd (omega (arith, eight, zero))

compiled_silent : (asked : Asked) (readings : Readings) (bytes : List ℕ) (answer : Result CheckedProgram Refusal) → is_code (doing asked.mode) ≡ true → IsSilent (meaning_of_compiled asked readings bytes answer)
compiled_silent asked readings bytes (Err why) lower = λ zero. absurd (refused_file (items_or_none (spelled_program bytes)) why zero)
compiled_silent asked readings bytes (Ok program) lower = in_silent (doing asked.mode) program asked.from asked.bindings readings lower

source_silent : (asked : Asked) (readings : Readings) (given : Reading) → is_code (doing asked.mode) ≡ true → IsSilent (meaning_of_source asked readings given)
source_silent asked readings Missing lower = λ zero. absurd (omega (arith, zero))
source_silent asked readings TooMany lower = λ zero. absurd (omega (arith, zero))
source_silent asked readings (Bytes bytes) lower = compiled_silent asked readings bytes (compiled_program bytes) lower

asked_silent : (asked : Asked) (readings : Readings) → is_code (doing asked.mode) ≡ true → IsSilent (meaning_of_asked asked readings)
asked_silent asked readings lower = by_mode (is_gen asked.mode) where
  by_mode : (b : Bool) → IsSilent (if b then meaning_of_generated asked readings else meaning_of_file asked readings)
  by_mode true = compiled_silent asked readings (generated_text asked.number) (compiled_program (generated_text asked.number)) lower
  by_mode false = λ zero. let silent = source_silent asked readings (readings 1 asked.file most_file_bytes) lower zero in
      record { no_pieces = silent.no_pieces; no_text = silent.no_text; no_line = silent.no_line }

pub words_silent : (words : List (List ℕ)) (readings : Readings) → asks_code (good_words words) ≡ true → IsSilent (meaning_by words readings)
words_silent words readings = by_words (good_words words) where
  by_words : (o : Option Asked) → asks_code o ≡ true → IsSilent (meaning_of_words o readings)
  by_words None lower = absurd (cc)
  by_words (Some asked) lower = asked_silent asked readings lower

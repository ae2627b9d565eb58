-- Layouts don't matter to the sessions that two calls leave.
use Rattle.std.proofs.Common.{◌≡◌, ℕ, Bool, true, false, List, [], ◌∷◌, ◌++◌, length, Option, Some, None, Result, Ok, refl, sym, ap, ◌∙◌, subst}
use Rattle.std.specs.Prelude.{if◌then◌else◌, nat_le, ◌&&◌, ◌==◌}
use Rattle.std.specs.Option.{IsSomeAnd}
use Rattle.std.specs.Result.{IsOkAnd}
use Rattle.std.specs.List.{flat_map}
use Rattle.std.specs.FinMap.{get}
use Rattle.std.proofs.lemmas.List.{append-nil}
use Rattle.sg_lexer.specs.Limits.{most_file_bytes}
use Rattle.sg_outside.specs.Files.{Held, Reading, Bytes, TooMany, reading, reading_at}
use Rattle.sg_outside.specs.Sink.{followed_by}
use Rattle.sg_layout.specs.declared.shape.Shape.{Shape}
use Rattle.sg_flat.specs.declared.state.FlatState.{FlatState}
use Rattle.sg_session.specs.declared.refusal.Refusal.{Refusal}
use Rattle.sg_session.specs.Performed.{SessionParts}
use Rattle.sg_session.specs.Compiled.{CheckedProgram, Compiles, unfolded_tasks}
use Rattle.sg_session.specs.Compiling.{compiled_program}
use Rattle.sg_session.specs.Commands.{Left}
use Rattle.sg_session.specs.Independence.{HaveSameValues, AllLeaveSame, last_state}
use Rattle.sparsegrid.specs.declared.words.Mode.{Mode}
use Rattle.sparsegrid.specs.declared.words.Mode.TheVariants as mode
use Rattle.sparsegrid.specs.Words.{Asked, doing, is_gen, good_words}
use Rattle.sparsegrid.specs.Generated.{generated_text}
use Rattle.sparsegrid.specs.Moves.{Move, text_in}
use Rattle.sparsegrid.specs.Meaning.{Meaning, moves_of, text_meant, is_code, asks_code, saying, with_open, readings_in, meaning}
use Rattle.sparsegrid.specs.Outcome.{Outside, open_text, source_of, IsOfAsked, IsOfFile, StandsForLast}
use Rattle.sparsegrid.specs.Independence.{IsWhatIsLeft, LayoutsDontMatterToRuns, LayoutsDontMatterToCalls, LeftSession, IsAfter}
use Rattle.sparsegrid.proofs.Writing.{text_whole}
use Rattle.sparsegrid.proofs.Open.{status_is}

module _ (words : List (List ℕ)) (held : Held) (asked : Asked) (file : List ℕ) (program : CheckedProgram)
    (words_are : good_words words ≡ Some asked) (runs : asked.mode ≡ mode.Run) (has : get held asked.file ≡ Some file) (checked : compiled_program file ≡ Ok program) where
  -- a session that is of the named file is compiled from its program
  compiles : (session : SessionParts) → IsOfFile words held session → Compiles program session.compiled
  compiles session of = by_parts (subst (λ (o : Option Asked). IsSomeAnd o (λ a. IsOfAsked a held session)) words_are of) where
    source : source_of asked held ≡ (if nat_le (length file) most_file_bytes then Bytes file else TooMany)
    source = ap (λ (m : Mode). if is_gen m then Bytes (generated_text asked.number) else reading held asked.file most_file_bytes) runs
        ∙ ap (λ (given : Option (List ℕ)). reading_at given most_file_bytes) has

    by_size : (fits : Bool) (bytes : List ℕ) → (if fits then Bytes file else TooMany) ≡ Bytes bytes → bytes ≡ file
    by_size true bytes same = cc
    by_size false bytes same = absurd (cc)

    by_parts : IsOfAsked asked held session → Compiles program session.compiled
    by_parts found =
        subst (λ (answer : Result CheckedProgram Refusal). IsOkAnd answer (λ p. Compiles p session.compiled)) checked
        (subst (λ (bytes : List ℕ). IsOkAnd (compiled_program bytes) (λ p. Compiles p session.compiled)) (by_size (nat_le (length file) most_file_bytes) found.0 (sym source ∙ found.1)) found.2)

  -- in mode run nothing is left open
  not_open : (opened : List ℕ) (m : Meaning) → with_open words opened m ≡ m
  not_open opened m =
      ap (λ (o : Option Asked). if asks_code o && (m.status == 0) then saying opened m else m) words_are
      ∙ ap (λ (md : Mode). if is_code (doing md) && (m.status == 0) then saying opened m else m) runs

  ended : (before after : Outside) (session : SessionParts) → LeftSession words held before after session → (meaning words held None).status ≡ 0
  ended before after session left = sym ((left.wrote held left.told).status ∙ status_is words (open_text words (Some session)) (meaning words held None))

  is_after : (lefts : List Left) (before after : Outside) (session : SessionParts) → LeftSession words held before after session
      → IsWhatIsLeft program asked.bindings (readings_in held None) (meaning words held None) lefts → IsAfter program lefts before after session
  is_after lefts before after session left is =
      record {
        stand = subst (λ (last : Option FlatState). StandsForLast last session) is.last left.last;
        written = (left.wrote held left.told).made.output.written
            ∙ ap (followed_by before.output.written) (append-nil _ ∙ ap (λ (m : Meaning). text_in (moves_of m)) (not_open (open_text words (Some session)) (meaning words held None))
            ∙ text_whole (meaning words held None) ∙ is.text);
      }

pub layouts_dont_matter_to_calls : LayoutsDontMatterToRuns → LayoutsDontMatterToCalls
layouts_dont_matter_to_calls law words held held' asked first second before after before' after' session session' differ one other =
    let left = compiles words held asked differ.file first differ.words_are differ.runs differ.file_is differ.alike.first_is session one.program in
    let right = compiles words held' asked differ.file' second differ.words_are differ.runs differ.file_is' differ.alike.second_is session' other.program in
    let same = law words held held' asked first second differ
    (ended words held asked differ.file first differ.words_are differ.runs differ.file_is differ.alike.first_is before after session one)
    (ended words held' asked differ.file' second differ.words_are differ.runs differ.file_is' differ.alike.second_is before' after' session' other) in
    record {
      lefts = same.lefts;
      rights = same.rights;
      one = is_after words held asked differ.file first differ.words_are differ.runs differ.file_is differ.alike.first_is same.lefts before after session one same.one_is;
      other = is_after words held' asked differ.file' second differ.words_are differ.runs differ.file_is' differ.alike.second_is same.rights before' after' session' other same.other_is;
      values = subst (λ (shapes : List Shape). HaveSameValues shapes session'.compiled.layouts (last_state first same.lefts) (last_state second same.rights)) (sym left.layouts)
          (subst (λ (shapes : List Shape). HaveSameValues first.layouts shapes (last_state first same.lefts) (last_state second same.rights)) (sym right.layouts) same.same.last);
      each = subst (λ (shapes : List Shape). AllLeaveSame shapes session'.compiled.layouts (unfolded_tasks first.commands) same.lefts same.rights) (sym left.layouts)
          (subst (λ (shapes : List Shape). AllLeaveSame first.layouts shapes (unfolded_tasks first.commands) same.lefts same.rights) (sym right.layouts) same.same.each);
    }

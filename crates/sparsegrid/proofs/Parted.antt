-- Moves with the parts of a journal.
use Rattle.std.proofs.Common.{◌≡◌, ℕ, List, [], ◌∷◌, ◌++◌, length, refl, sym, ap, ◌∙◌, append_assoc}
use Rattle.std.specs.Prelude.{take}
use Rattle.sg_journal.specs.declared.lines.Link.{Link}
use Rattle.sg_journal.specs.declared.lines.Line.{Line}
use Rattle.std.proofs.lemmas.List.Concat.{flat_map-append}
use Rattle.sg_journal.specs.Lines.{line_text, lines_text}
use Rattle.sparsegrid.specs.Moves.{Move, ReadsFile, WritesText, Reaches, Reached, writing, names_in, text_in, reached_in}
use Rattle.sparsegrid.specs.Parts.{Parts, lines_in, with_parts, AreSoundParts}
use Rattle.sparsegrid.proofs.Writing.{unread, none_reached, names_append, text_append, text_written, reached_append}

-- ---- what isn't seen of them

pub names_with : (parts : Parts) (moves : List Move) → names_in (with_parts parts moves) ≡ names_in moves
names_with parts [] = refl
names_with parts (ReadsFile name ∷ moves) = ap (λ (names : List (List ℕ)). name ∷ names) (names_with parts moves)
names_with parts (WritesText text ∷ moves) = names_with parts moves
names_with [] (Reaches at ∷ moves) = names_with [] moves
names_with (part ∷ parts) (Reaches at ∷ moves) =
    names_append (writing (lines_text part)) (Reaches at ∷ with_parts parts moves) ∙ ap (λ (names : List (List ℕ)). names ++ names_in (with_parts parts moves)) (unread (lines_text part))
    ∙ names_with parts moves

pub reached_with : (parts : Parts) (moves : List Move) → reached_in (with_parts parts moves) ≡ reached_in moves
reached_with parts [] = refl
reached_with parts (ReadsFile name ∷ moves) = reached_with parts moves
reached_with parts (WritesText text ∷ moves) = reached_with parts moves
reached_with [] (Reaches at ∷ moves) = ap (λ (more : List Reached). at ∷ more) (reached_with [] moves)
reached_with (part ∷ parts) (Reaches at ∷ moves) =
    reached_append (writing (lines_text part)) (Reaches at ∷ with_parts parts moves) ∙ ap (λ (more : List Reached). more ++ at ∷ reached_in (with_parts parts moves)) (none_reached (lines_text part))
    ∙ ap (λ (more : List Reached). at ∷ more) (reached_with parts moves)

-- ---- the text that is written

-- moves that write no text
abbrev pub AreQuiet : List Move → Type 0
AreQuiet [] = Unit {0}
AreQuiet (ReadsFile name ∷ moves) = AreQuiet moves
AreQuiet (WritesText text ∷ moves) = ⊥
AreQuiet (Reaches at ∷ moves) = AreQuiet moves

-- with parts they write those of the states that are reached
pub record WriteLines (parts : Parts) (moves : List Move) : Type 0 where
  pub lines : List Line
  pub later : List Line
  pub whole : lines_in parts ≡ lines ++ later
  pub is : text_in (with_parts parts moves) ≡ lines_text lines

pub lines_written : (parts : Parts) (moves : List Move) → AreQuiet moves → WriteLines parts moves
lines_written parts [] quiet = record { lines = []; later = lines_in parts; whole = refl; is = refl }
lines_written parts (ReadsFile name ∷ moves) quiet =
    let rest = lines_written parts moves quiet in
    record { lines = rest.lines; later = rest.later; whole = rest.whole; is = rest.is }
lines_written parts (WritesText text ∷ moves) quiet = absurd quiet
lines_written [] (Reaches at ∷ moves) quiet =
    let rest = lines_written [] moves quiet in
    record { lines = rest.lines; later = rest.later; whole = rest.whole; is = rest.is }
lines_written (part ∷ parts) (Reaches at ∷ moves) quiet =
    let rest = lines_written parts moves quiet in
    record {
      lines = part ++ rest.lines;
      later = rest.later;
      whole = ap (λ (lines : List Line). part ++ lines) rest.whole ∙ sym (append_assoc part rest.lines rest.later);
      is = text_append (writing (lines_text part)) (Reaches at ∷ with_parts parts moves)
          ∙ ap (λ (text : List ℕ). text ++ text_in (with_parts parts moves)) (text_written (lines_text part))
          ∙ ap (λ (text : List ℕ). lines_text part ++ text) rest.is ∙ sym (flat_map-append line_text part rest.lines);
    }

-- and where there is one for each of these states, of all
pub all_written : (held : List Link) (parts : Parts) (moves : List Move) → AreQuiet moves → AreSoundParts held parts (reached_in moves) → text_in (with_parts parts moves) ≡ lines_text (lines_in parts)
all_written held [] [] quiet sound = refl
all_written held (part ∷ parts) [] quiet sound = absurd sound
all_written held parts (ReadsFile name ∷ moves) quiet sound = all_written held parts moves quiet sound
all_written held parts (WritesText text ∷ moves) quiet sound = absurd quiet
all_written held [] (Reaches at ∷ moves) quiet sound = absurd sound
all_written held (part ∷ parts) (Reaches at ∷ moves) quiet sound =
    text_append (writing (lines_text part)) (Reaches at ∷ with_parts parts moves)
    ∙ ap (λ (text : List ℕ). text ++ text_in (with_parts parts moves)) (text_written (lines_text part))
    ∙ ap (λ (text : List ℕ). lines_text part ++ text) (all_written sound.0 parts moves quiet sound.4) ∙ sym (flat_map-append line_text part (lines_in parts))

-- ---- a front of a text that ends in a last line

-- what there is of the first of two texts in a front of both
pub record FrontOf (said written : List ℕ) : Type 0 where
  pub back : List ℕ
  pub whole : said ≡ take (length said) written ++ back

pub front_of : (said line written more : List ℕ) → said ++ line ≡ written ++ more → FrontOf said written
front_of [] line written more is = record { back = []; whole = refl }
front_of (byte ∷ said) line [] more is = record { back = byte ∷ said; whole = refl }
front_of (byte ∷ said) line (other ∷ written) more is =
    let first : byte ≡ other = cc in
    let later : said ++ line ≡ written ++ more = cc in
    let rest = front_of said line written more later in
    record { back = rest.back; whole = ap (λ (b : ℕ). b ∷ said) first ∙ ap (λ (bytes : List ℕ). other ∷ bytes) rest.whole }

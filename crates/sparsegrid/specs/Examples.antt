-- Worked examples of what words and files mean.
use Rattle.std.specs.Prelude.{◌≡◌, refl, ℕ, [], ◌∷◌, take, Option, Some, None, Ok, codes}
use Rattle.std.specs.Fmt.{digits}
use Rattle.sg_outside.specs.Files.{Held, Reading, Bytes, TooMany, Missing}
use Rattle.sg_flat.specs.State.{opening}
use Rattle.sg_snapshot.specs.Examples.{blocks_of, one_block, one_block_bytes}
use Rattle.sg_session.specs.Compiled.{CheckedProgram}
use Rattle.sparsegrid.specs.Lines.{words_last}
use Rattle.sg_flat.specs.declared.state.FlatState.{FlatState}
use Rattle.sparsegrid.specs.Moves.{ReadsFile, WritesText, Reaches}
use Rattle.sg_session.specs.declared.tasks.Task.TheVariants.{Stats}
use Rattle.sparsegrid.specs.declared.showing.Showing.{Showing}
use Rattle.sparsegrid.specs.declared.showing.Showing.TheVariants.{Texts, Image, Changes}
use Rattle.sparsegrid.specs.Telling.{telling_of}
use Rattle.sparsegrid.specs.Meaning.{Meaning, refused_before_tasks, all_done, before, asking_for, moves_of, text_meant, with_open, meaning, meaning_by, begun, done_with, at_state, after_task}

-- without words nothing is read
no_words : (held : Held) (stop : Option ℕ) → meaning [] held stop ≡ refused_before_tasks words_last
no_words held stop = refl

-- if the first read fails, the run ends with it
a_failed_read : meaning_by (codes "p.sg" ∷ []) (λ number name limit. Missing)
    ≡ record { moves = ReadsFile (codes "p.sg") ∷ []; line = codes "refused: read p.sg\n"; status = 2; last = None }
a_failed_read = refl

a_long_file : meaning_by (codes "p.sg" ∷ []) (λ number name limit. TooMany)
    ≡ record { moves = ReadsFile (codes "p.sg") ∷ []; line = codes "refused: limit: file bytes\n"; status = 8; last = None }
a_long_file = refl

-- what a run says, a last line after it, and all moves
abbrev a_refused_run : Meaning
a_refused_run = asking_for (codes "p.sg") (before (codes "grid 1 0\n") (before [] (refused_before_tasks words_last)))

the_moves : moves_of a_refused_run ≡ ReadsFile (codes "p.sg") ∷ WritesText (codes "grid 1 0\n") ∷ WritesText (codes "refused: words\n") ∷ []
the_moves = refl

the_text : text_meant a_refused_run ≡ codes "grid 1 0\nrefused: words\n"
the_text = refl

-- what a mode leaves open is written where all is done
open_if_done : (state : FlatState) → moves_of (with_open (codes "--mode=lower" ∷ codes "p.sg" ∷ []) (codes "code") (all_done [] state)) ≡ WritesText (codes "code") ∷ []
open_if_done state = refl

not_open : (state : FlatState) → moves_of (with_open (codes "p.sg" ∷ []) (codes "code") (all_done [] state)) ≡ []
not_open state = refl

-- ---- snapshots

-- a program without commands: a line of four blocks of four, with room for so many of them
abbrev a_line : ℕ → CheckedProgram
a_line cap = record {
  names = record { constants = []; layouts = record { name = record { text = codes "A" }; axes = 1 } ∷ []; fields = []; kernels = [] };
  layouts = blocks_of cap ∷ [];
  kernels = [];
  neutral = [];
  commands = [];
}

-- its run from the snapshot `s`, of which the read gives this
abbrev begun_by : ℕ → Reading → Meaning
begun_by cap given = begun (a_line cap) (Some (codes "s")) (λ number name limit. given) (λ reads state. all_done [] state)

-- a run goes on from the state whose image was read
begun_with_a_block : begun_by 2 (Bytes one_block_bytes) ≡ record { moves = ReadsFile (codes "s") ∷ []; line = []; status = 0; last = Some one_block }
begun_with_a_block = refl

begun_with_none : begun_by 2 Missing ≡ record { moves = ReadsFile (codes "s") ∷ []; line = codes "refused: read s\n"; status = 2; last = None }
begun_with_none = refl

begun_with_too_many : begun_by 2 TooMany ≡ record { moves = ReadsFile (codes "s") ∷ []; line = codes "refused: limit: snapshot bytes\n"; status = 8; last = None }
begun_with_too_many = refl

-- one byte less
begun_with_less : begun_by 2 (Bytes (take 43 one_block_bytes)) ≡ record { moves = ReadsFile (codes "s") ∷ []; line = codes "refused: snapshot\n"; status = 6; last = None }
begun_with_less = refl

-- without room for any block the opening state is left
begun_without_room : begun_by 0 (Bytes one_block_bytes)
    ≡ record { moves = ReadsFile (codes "s") ∷ []; line = codes "refused: pool full: A node 1 cap 0\n"; status = 7; last = Some (opening (blocks_of 0 ∷ [])) }
unfolding digits
begun_without_room = refl

-- by what is shown a command's text is written, or the image of the last state, or the end of a journal
abbrev one_dump : Showing → Meaning
one_dump what = after_task (a_line 2) (telling_of (a_line 2).names (blocks_of 2 ∷ []) what) 0 one_block None (Stats 0) (λ state. done_with (telling_of (a_line 2).names (blocks_of 2 ∷ []) what) state) (Ok (record { state = one_block; text = codes "grid" }))

texts_shown : moves_of (one_dump Texts) ≡ WritesText (codes "grid") ∷ Reaches (at_state (a_line 2) one_block) ∷ []
texts_shown = refl

image_shown : moves_of (one_dump Image) ≡ Reaches (at_state (a_line 2) one_block) ∷ WritesText one_block_bytes ∷ []
image_shown = refl

end_shown : moves_of (one_dump Changes) ≡ Reaches (at_state (a_line 2) one_block) ∷ WritesText (codes "end\n") ∷ []
end_shown = refl

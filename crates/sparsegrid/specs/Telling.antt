-- What a run that performs commands writes of them.
use Rattle.std.specs.Prelude.{ℕ, Bool, true, false, List, []}
use Rattle.sg_layout.specs.declared.shape.Shape.{Shape}
use Rattle.sg_flat.specs.declared.state.FlatState.{FlatState}
use Rattle.sg_names.specs.Tables.{Tables}
use Rattle.sg_snapshot.specs.Image.{image_of}
use Rattle.sparsegrid.specs.declared.showing.Showing.{Showing}
use Rattle.sparsegrid.specs.declared.showing.Showing.TheVariants.{Texts, Image, Advice, Changes}
use Rattle.sparsegrid.specs.Advice.{advice_text}
use Rattle.sg_journal.specs.Lines.{end_line}

-- whether a journal is shown
abbrev pub shows_journal : Showing → Bool
shows_journal Texts = false
shows_journal Image = false
shows_journal Advice = false
shows_journal Changes = true

-- what is written of the command of a number, which are counted from 0 with each `times` unfolded, where its own text is this; what is written
-- at the last state, where all are done; and the last line then
pub record Telling : Type 0 where
  pub each : ℕ → List ℕ → List ℕ
  pub ending : FlatState → List ℕ
  pub closing : List ℕ

-- what is written by what is shown, in a program with these names and layouts: the text of each command; or that of none, and the image of the last
-- state, or the advice on it; or the end of a journal, whose other lines are left open, since they say which numbers were drawn
abbrev pub telling_of : Tables → List Shape → Showing → Telling
telling_of names shapes Texts = record { each = λ number text. text; ending = λ state. []; closing = [] }
telling_of names shapes Image = record { each = λ number text. []; ending = λ state. image_of shapes state; closing = [] }
telling_of names shapes Advice = record { each = λ number text. []; ending = λ state. advice_text names shapes state; closing = [] }
telling_of names shapes Changes = record { each = λ number text. []; ending = λ state. []; closing = end_line }

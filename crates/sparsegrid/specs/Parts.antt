-- The journal that a run writes, in parts, and what it must be.
use Rattle.std.specs.Prelude.{◌≡◌, ℕ, List, [], ◌∷◌, ◌++◌, Some, refl, codes}
use Rattle.std.specs.List.{flat_map, AllByRecursion}
use Rattle.std.specs.Fmt.{digits}
use Rattle.sg_layout.specs.declared.shape.Shape.{Shape}
use Rattle.sg_store.specs.StoreWords.{StoreWords}
use Rattle.sg_journal.specs.declared.lines.Link.{Link}
use Rattle.sg_journal.specs.declared.lines.Line.{Line}
use Rattle.sg_journal.specs.declared.lines.Line.TheVariants.{Take, Free}
use Rattle.sg_journal.specs.Lines.{lines_text, journal_text, link}
use Rattle.sg_journal.specs.Journal.{held_after}
use Rattle.sg_journal.specs.Rooms.{rooms_of}
use Rattle.sg_journal.specs.Placing.{Placing, links_at, ArePlaced, AreRising}
use Rattle.sg_journal.specs.PlacingLaws.{HoldsPlaced}
use Rattle.sg_journal.specs.Changes.{changes}
use Rattle.sg_journal.specs.Needs.{HoldsNeed}
use Rattle.sg_audit.specs.declared.verdict.Verdict.TheVariants.{Yes}
use Rattle.sg_audit.specs.Auditing.{audited}
use Rattle.sparsegrid.specs.Moves.{Move, ReadsFile, WritesText, Reaches, Reached, writing, no_state}

-- The parts of a journal, one for each state that commands come to: the changes from where no number stands to where numbers stand when they begin,
-- and then those of each command that is done.
abbrev pub Parts : Type 0
Parts = List (List Line)

-- all lines
abbrev pub lines_in : Parts → List Line
lines_in parts = flat_map (λ part. part) parts

-- the next part is written before a state that is reached, if there is one, and then what follows takes the others
abbrev pub before_reached : Parts → Reached → (Parts → List Move) → List Move
before_reached [] at more = Reaches at ∷ more []
before_reached (part ∷ parts) at more = writing (lines_text part) ++ Reaches at ∷ more parts

-- moves with the parts of a journal, each by one put, before the states that are reached
abbrev pub with_parts : Parts → List Move → List Move
with_parts parts [] = []
with_parts parts (ReadsFile name ∷ moves) = ReadsFile name ∷ with_parts parts moves
with_parts parts (WritesText text ∷ moves) = WritesText text ∷ with_parts parts moves
with_parts parts (Reaches at ∷ moves) = before_reached parts at (λ left. with_parts left moves)

-- a placing is where the held numbers stand: those of each node by rising number
pub record IsWhereHeld (held : List Link) (placing : Placing) : Type 0 where
  pub holds : HoldsPlaced held placing
  pub rising : (layout node : ℕ) → AreRising (links_at placing layout node)

-- A part is the changes from what is held before it to what is held after it: what stands no more is freed, then what has come to stand is taken,
-- and a number that stays where it is has no line.
pub record AreChanges (held next : List Link) (part : List Line) : Type 0 where
  pub from : Placing
  pub to : Placing
  pub from_is : IsWhereHeld held from
  pub to_is : IsWhereHeld next to
  pub lines : part ≡ changes from to

-- From what is held on, each part is sound lines, after which at each node with a cap as many numbers are held as the state needs that is reached
-- with it, and which say what has changed and no more; there is one for each state.
abbrev pub AreSoundParts : List Link → Parts → List Reached → Type 0
AreSoundParts held [] [] = Unit {0}
AreSoundParts held [] (at ∷ more) = ⊥
AreSoundParts held (part ∷ parts) [] = ⊥
AreSoundParts held (part ∷ parts) (at ∷ more) =
    (next : List Link) × (held_after (rooms_of at.shapes) held part ≡ Some next) × HoldsNeed at.shapes at.state next × AreChanges held next part
    × AreSoundParts next parts more

-- states are reached over layouts of these shapes
abbrev pub AreOver : List Shape → List Reached → Type 0
AreOver shapes reached = AllByRecursion (λ at. at.shapes ≡ shapes) reached

-- the audit of a journal with these parts is Yes, over the layouts of the states that are reached; of no part it is Yes over all layouts
abbrev pub IsAudited : Parts → List Reached → Type 0
IsAudited parts reached = (shapes : List Shape) → AreOver shapes reached → audited shapes (journal_text (lines_in parts)) ≡ Yes

-- what is held after all lines is what stands in stores of these layouts
pub record HoldsStores (shapes : List Shape) (parts : Parts) (stores : List StoreWords) : Type 0 where
  pub held : List Link
  pub after : held_after (rooms_of shapes) [] (lines_in parts) ≡ Some held
  pub placing : Placing
  pub placed : ArePlaced stores placing
  pub members : HoldsPlaced held placing

-- ---- examples: a container is taken by the first command, and freed by the second

abbrev some_parts : Parts
some_parts = [] ∷ (Take (link 0 1 3 0 0) ∷ []) ∷ (Free 0 1 3 ∷ []) ∷ []

the_lines : lines_in some_parts ≡ Take (link 0 1 3 0 0) ∷ Free 0 1 3 ∷ []
the_lines = refl

-- a file is read, and the commands begin; a load reads its file; two more are done, and the end is written
abbrev some_moves : List Move
some_moves = ReadsFile (codes "p.sg") ∷ Reaches no_state ∷ ReadsFile (codes "g") ∷ Reaches no_state ∷ Reaches no_state ∷ Reaches no_state ∷ writing (codes "end")

journaled : with_parts some_parts some_moves ≡ ReadsFile (codes "p.sg") ∷ Reaches no_state ∷ ReadsFile (codes "g") ∷ WritesText (codes "take 0 1 3 0 0\n") ∷ Reaches no_state
    ∷ WritesText (codes "free 0 1 3\n") ∷ Reaches no_state ∷ Reaches no_state ∷ WritesText (codes "end") ∷ []
unfolding digits
journaled = refl

-- What a run does to the outside, move by move.
use Rattle.std.specs.Prelude.{◌≡◌, refl, ℕ, List, [], ◌∷◌, ◌++◌, codes}
use Rattle.sg_layout.specs.declared.shape.Shape.{Shape}
use Rattle.sg_flat.specs.declared.state.FlatState.{FlatState}

-- a state that the commands of a program have come to: they begin with it, or one of them is done and leaves it
pub record Reached : Type 0 where
  -- the layouts of the program
  pub shapes : List Shape
  pub state : FlatState

-- a move: the file of a name is read; or a text, which isn't empty, is written by one put; or commands come to a state, of which nothing is seen
pub data Move : Type 0 where
  ReadsFile : List ℕ → Move
  WritesText : List ℕ → Move
  Reaches : Reached → Move

-- the pieces that a text is written by: itself, or none if it is empty
abbrev pub pieces_of : List ℕ → List (List ℕ)
pieces_of [] = []
pieces_of (byte ∷ bytes) = (byte ∷ bytes) ∷ []

-- a text is written
abbrev pub writing : List ℕ → List Move
writing [] = []
writing (byte ∷ bytes) = WritesText (byte ∷ bytes) ∷ []

-- the names of the files that are read, in order
abbrev pub names_in : List Move → List (List ℕ)
names_in [] = []
names_in (ReadsFile name ∷ moves) = name ∷ names_in moves
names_in (WritesText text ∷ moves) = names_in moves
names_in (Reaches at ∷ moves) = names_in moves

-- the texts that are written, in order, each by one put
abbrev pub pieces_in : List Move → List (List ℕ)
pieces_in [] = []
pieces_in (ReadsFile name ∷ moves) = pieces_in moves
pieces_in (WritesText text ∷ moves) = text ∷ pieces_in moves
pieces_in (Reaches at ∷ moves) = pieces_in moves

-- all that is written
abbrev pub text_in : List Move → List ℕ
text_in [] = []
text_in (ReadsFile name ∷ moves) = text_in moves
text_in (WritesText text ∷ moves) = text ++ text_in moves
text_in (Reaches at ∷ moves) = text_in moves

-- the states that commands come to, in order
abbrev pub reached_in : List Move → List Reached
reached_in [] = []
reached_in (ReadsFile name ∷ moves) = reached_in moves
reached_in (WritesText text ∷ moves) = reached_in moves
reached_in (Reaches at ∷ moves) = at ∷ reached_in moves

-- a text is written, and then a state is reached
abbrev pub reaching : List ℕ → Reached → List Move
reaching text at = writing text ++ Reaches at ∷ []

-- ---- examples

-- the state of a program without layouts
abbrev pub no_state : Reached
no_state = record { shapes = []; state = record { layouts = [] } }

-- two files are read, with a text, an empty one, and another text after them
abbrev some_moves : List Move
some_moves = ReadsFile (codes "p.sg") ∷ reaching (codes "ab") no_state ++ ReadsFile (codes "f") ∷ reaching [] no_state ++ writing (codes "c")

the_moves : some_moves ≡ ReadsFile (codes "p.sg") ∷ WritesText (codes "ab") ∷ Reaches no_state ∷ ReadsFile (codes "f") ∷ Reaches no_state ∷ WritesText (codes "c") ∷ []
the_moves = refl

the_names : names_in some_moves ≡ codes "p.sg" ∷ codes "f" ∷ []
the_names = refl

the_pieces : pieces_in some_moves ≡ codes "ab" ∷ codes "c" ∷ []
the_pieces = refl

the_text : text_in some_moves ≡ codes "abc"
the_text = refl

the_states : reached_in some_moves ≡ no_state ∷ no_state ∷ []
the_states = refl

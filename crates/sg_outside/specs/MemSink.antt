use Rattle.std.specs.Prelude.{◌≡◌, ℕ, true, false, Bool, List, [], ◌∷◌, ◌++◌, take, refl}
use Rattle.sg_outside.specs.declared.sink.Put.{Put}
use Rattle.sg_outside.specs.declared.sink.Put.TheVariants as put
use Rattle.sg_outside.specs.Counts.{one_more}
use Rattle.sg_outside.specs.Sink.{faults_after}

-- what a `MemSink` is: its bytes, the pieces that were put whole, the numbers of the puts that fail, the most that such a put takes, and its
-- counts
pub record SinkInMemory : Type 0 where
  pub bytes : List ℕ
  pub pieces : List (List ℕ)
  pub failing : List ℕ
  pub most : ℕ
  pub puts : ℕ
  pub faults : ℕ

-- a put fails exactly when it is listed, and has then taken this much; either kind may want memory
abbrev pub PutsExactly : Put → Bool → ℕ → Type 0
PutsExactly put.All listed part = listed ≡ false
PutsExactly (put.Failed taken) listed part = (listed ≡ true) × (taken ≡ part)
PutsExactly put.Memory listed part = Unit {0}

-- how much of a piece an answer tells as taken
abbrev pub bytes_taken : Put → List ℕ → List ℕ
bytes_taken put.All piece = piece
bytes_taken (put.Failed taken) piece = take taken piece
bytes_taken put.Memory piece = []

-- the piece, where all of it was put
abbrev pub whole_piece : Put → List ℕ → List (List ℕ)
whole_piece put.All piece = piece ∷ []
whole_piece (put.Failed taken) piece = []
whole_piece put.Memory piece = []

-- after a put: what it took of the piece, one more put, one more fault where it failed, and all else as before
abbrev pub after_put : Put → List ℕ → SinkInMemory → SinkInMemory
after_put answer piece sink = record sink {
  bytes = sink.bytes ++ bytes_taken answer piece;
  pieces = sink.pieces ++ whole_piece answer piece;
  puts = one_more sink.puts;
  faults = faults_after answer sink.faults;
}

after_put_failed : after_put (put.Failed 1) (8 ∷ 9 ∷ []) (record { bytes = 7 ∷ []; pieces = (7 ∷ []) ∷ []; failing = 2 ∷ []; most = 1; puts = 1; faults = 0 })
    ≡ record { bytes = 7 ∷ 8 ∷ []; pieces = (7 ∷ []) ∷ []; failing = 2 ∷ []; most = 1; puts = 2; faults = 1 }
after_put_failed = refl

after_put_whole : after_put put.All (8 ∷ 9 ∷ []) (record { bytes = 7 ∷ []; pieces = (7 ∷ []) ∷ []; failing = []; most = 1; puts = 1; faults = 0 })
    ≡ record { bytes = 7 ∷ 8 ∷ 9 ∷ []; pieces = (7 ∷ []) ∷ (8 ∷ 9 ∷ []) ∷ []; failing = []; most = 1; puts = 2; faults = 0 }
after_put_whole = refl

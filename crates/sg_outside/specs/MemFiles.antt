use Rattle.std.specs.Prelude.{◌≡◌, ℕ, ◌<◌, List, [], ◌∷◌, length, Option, Some, None, if◌then◌else◌, bytes_eq, string_bytes, refl}
use Rattle.std.specs.FinMap.{from_entries}
use Rattle.sg_outside.specs.declared.files.Got.{Got}
use Rattle.sg_outside.specs.declared.files.Got.TheVariants as got
use Rattle.sg_outside.specs.declared.mem_files.NamedBytes.{NamedBytes}
use Rattle.sg_outside.specs.Counts.{one_more, is_listed}
use Rattle.sg_outside.specs.Files.{Held, Reading, Bytes, TooMany, Missing, reading, reading_at, faults_after}

-- what a `MemFiles` is: names with bytes, the numbers of the reads that fail, and its counts
pub record FilesInMemory : Type 0 where
  pub files : List (List ℕ × List ℕ)
  pub failing : List ℕ
  pub faults : ℕ
  pub reads : ℕ

-- a file's name and bytes
abbrev pub entry_of : NamedBytes → List ℕ × List ℕ
entry_of file = (string_bytes file.name, file.bytes.items)

-- the bytes of the first file of this name
abbrev pub bytes_named : List (List ℕ × List ℕ) → List ℕ → Option (List ℕ)
bytes_named [] name = None
bytes_named (file ∷ files) name = if bytes_eq name file.0 then Some file.1 else bytes_named files name

bytes_named_first : bytes_named ((1 ∷ [], 5 ∷ []) ∷ (1 ∷ [], 6 ∷ []) ∷ []) (1 ∷ []) ≡ Some (5 ∷ [])
bytes_named_first = refl

bytes_named_absent : bytes_named ((1 ∷ [], 5 ∷ []) ∷ []) (1 ∷ 1 ∷ []) ≡ None
bytes_named_absent = refl

-- the files that it has
abbrev pub held_of : FilesInMemory → Held
held_of files = from_entries files.files

-- what its next read means: no file where the read's number, counted from 1, is listed
abbrev pub next_reading : FilesInMemory → List ℕ → ℕ → Reading
next_reading files name limit =
    if is_listed (one_more files.reads) files.failing then Missing else reading (held_of files) name limit

-- the bytes are more than a buffer has room for
abbrev pub HasNoRoom : ℕ → Reading → Type 0
HasNoRoom room (Bytes bytes) = room < length bytes
HasNoRoom room TooMany = ⊥
HasNoRoom room Missing = ⊥

-- an answer is exactly what the read means, or tells that the buffer has no room for the bytes
abbrev pub ReadsExactly : Got → List ℕ → ℕ → Reading → Type 0
ReadsExactly got.All bytes room meaning = meaning ≡ Bytes bytes
ReadsExactly got.TooLong bytes room meaning = meaning ≡ TooMany
ReadsExactly got.Failed bytes room meaning = meaning ≡ Missing
ReadsExactly got.Memory bytes room meaning = HasNoRoom room meaning

reads_exactly_absent : ReadsExactly got.Failed [] 9 (reading_at None 9)
reads_exactly_absent = refl

-- after a read: one more read, one more fault where it failed, and all else as before
abbrev pub after_read : Got → FilesInMemory → FilesInMemory
after_read answer files =
    record files { faults = faults_after answer files.faults; reads = one_more files.reads }

after_read_failed : after_read got.Failed (record { files = []; failing = 3 ∷ []; faults = 0; reads = 2 })
    ≡ record { files = []; failing = 3 ∷ []; faults = 1; reads = 3 }
after_read_failed = refl

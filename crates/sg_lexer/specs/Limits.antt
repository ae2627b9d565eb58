-- The limit of a file, said here alone.
use Rattle.std.specs.Prelude.{ℕ}

-- the bytes of a file
abbrev pub most_file_bytes : ℕ
most_file_bytes = 65536

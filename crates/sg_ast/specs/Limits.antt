-- The limits of the grammar, each said here alone. Code has them as constants of its own, so that a change of one of the two is refused.
use Rattle.std.specs.Prelude.{ℕ, Bool, if◌then◌else◌}

-- the bytes of a name
abbrev pub most_name_bytes : ℕ
most_name_bytes = 32

-- the tokens of a file
abbrev pub most_tokens : ℕ
most_tokens = 16384

-- the greatest number, by whether a `u` stands after it
abbrev pub max_number : Bool → ℕ
max_number unsigned = if unsigned then 4294967295 else 2147483648

-- how deep an expression may be
abbrev pub max_depth : ℕ
max_depth = 64

-- how deep the blocks of a kernel may nest, the one of its loop counted
abbrev pub max_nesting : ℕ
max_nesting = 16

-- the axes of a layout and of a node, the variables of a kernel, and the ranges of its box
abbrev pub most_listed_axes : ℕ
most_listed_axes = 3

-- the nodes of a layout
abbrev pub most_listed_nodes : ℕ
most_listed_nodes = 6

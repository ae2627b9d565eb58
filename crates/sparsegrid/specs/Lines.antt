-- The last lines of refused runs, each with its status and without its newline.
use Rattle.std.specs.Prelude.{◌≡◌, refl, ℕ, pos, List, [], ◌∷◌, ◌++◌, Option, Some, None, option_and_then, slice_get, codes}
use Rattle.std.specs.Fmt.{decimal, digits}
use Rattle.sg_ast.specs.declared.token.Name.{Name}
use Rattle.sg_ast.specs.declared.program.Item.{Item}
use Rattle.sg_ast.specs.declared.program.Item.TheVariants as item
use Rattle.sg_lexer.specs.declared.fault.LexFault.{LexFault}
use Rattle.sg_lexer.specs.declared.fault.LexFault.TheVariants.{BadByte, BadNumber, LongName, TooManyTokens}
use Rattle.sg_parser.specs.declared.program.ParseFault.{ParseFault}
use Rattle.sg_parser.specs.declared.program.ParseFault.TheVariants.{Syntax}
use Rattle.sg_names.specs.declared.fault.NameFault.{NameFault}
use Rattle.sg_names.specs.declared.fault.NameFault.TheVariants.{Unknown, Twice, TooMany}
use Rattle.sg_names.specs.declared.fault.Which.{Which}
use Rattle.sg_names.specs.declared.fault.Which.TheVariants as which
use Rattle.sg_names.specs.Tables.{Tables, layout_name_of, field_name_of, kernel_name_of}
use Rattle.sg_layout.specs.declared.layout.LayoutFault.{LayoutFault}
use Rattle.sg_layout.specs.declared.layout.LayoutFault.TheVariants as layout
use Rattle.sg_types.specs.declared.fault.TypeFault.{TypeFault}
use Rattle.sg_admit.specs.declared.admitted.AdmitFault.{AdmitFault}
use Rattle.sg_admit.specs.declared.admitted.AdmitFault.TheVariants as admit
use Rattle.sg_flat.specs.declared.effects.RunFault.{RunFault}
use Rattle.sg_flat.specs.declared.effects.RunFault.TheVariants.{WriteOutside, PoolFull}
use Rattle.sg_grid.specs.GridText.{coordinate_text}
use Rattle.sg_session.specs.declared.refusal.Refusal.{Refusal}
use Rattle.sg_session.specs.declared.refusal.Refusal.TheVariants as refusal
use Rattle.sg_session.specs.declared.refusal.RunRefusal.{RunRefusal}
use Rattle.sg_session.specs.declared.refusal.RunRefusal.TheVariants as run
use Rattle.sg_session.specs.declared.tasks.Task.{Task}
use Rattle.sg_session.specs.declared.tasks.Task.TheVariants.{Load, Run, Dump, Image, Stats, Prune, Clear}
use Rattle.sg_snapshot.specs.declared.fault.SnapFault.{SnapFault}
use Rattle.sg_snapshot.specs.declared.fault.SnapFault.TheVariants.{NotSnapshot, NotClosed, Full}
use Rattle.sparsegrid.specs.declared.last_line.LastLine.{LastLine}

-- the last line with this status and this reason
abbrev pub refused_as : ℕ → List ℕ → LastLine
refused_as status reason = record { status = status; line = codes "refused: " ++ reason }

-- the same, where a name stands in the reason between a cause and a place
abbrev pub named_as : ℕ → List ℕ → List ℕ → List ℕ → LastLine
named_as status cause name place = refused_as status (cause ++ (name ++ place))

-- a counted quantity passed its number
abbrev pub limit_last : List ℕ → LastLine
limit_last what = refused_as 8 (codes "limit: " ++ what)

-- the words aren't good
abbrev pub words_last : LastLine
words_last = refused_as 1 (codes "words")

-- a load has no binding for the field of this name
abbrev pub no_file_last : List ℕ → LastLine
no_file_last field = refused_as 1 (codes "no file for " ++ field)

-- the file of this name could not be read
abbrev pub read_last : List ℕ → LastLine
read_last name = refused_as 2 (codes "read " ++ name)

-- the file has too many bytes
abbrev pub file_bytes_last : LastLine
file_bytes_last = limit_last (codes "file bytes")

-- the journal has too many bytes
abbrev pub journal_bytes_last : LastLine
journal_bytes_last = limit_last (codes "journal bytes")

-- ---- refusals of a file

-- the bytes are no tokens
abbrev pub lex_last : LexFault → LastLine
lex_last (BadByte line) = refused_as 4 (codes "bad byte: line " ++ decimal line)
lex_last (BadNumber line) = refused_as 4 (codes "bad number: line " ++ decimal line)
lex_last (LongName line) = limit_last (codes "name bytes")
lex_last TooManyTokens = limit_last (codes "tokens")

-- the tokens are no program
abbrev pub parse_last : ParseFault → LastLine
parse_last (Syntax item line) = refused_as 4 (codes "syntax: item " ++ (decimal item ++ (codes " line " ++ decimal line)))

-- what there are too many of
abbrev pub which_text : Which → List ℕ
which_text which.Layouts = codes "layouts"
which_text which.Fields = codes "fields"
which_text which.Kernels = codes "kernels"
which_text which.Commands = codes "commands"

-- an item breaks a rule on names
abbrev pub name_last : NameFault → LastLine
name_last (Unknown item) = refused_as 5 (codes "unknown name: item " ++ decimal item)
name_last (Twice item) = refused_as 5 (codes "name twice: item " ++ decimal item)
name_last (TooMany which) = limit_last (which_text which)

-- the bytes of a name, if there is one
abbrev pub name_text : Option Name → List ℕ
name_text None = []
name_text (Some name) = name.text

-- the names of the kernels that items declare, in order
abbrev pub kernel_names : List Item → List Name
kernel_names [] = []
kernel_names (item.Kernel kernel ∷ items) = kernel.name ∷ kernel_names items
kernel_names (item.Const decl ∷ items) = kernel_names items
kernel_names (item.Layout layout ∷ items) = kernel_names items
kernel_names (item.Command command ∷ items) = kernel_names items

-- the names of the layouts that items declare, in order
abbrev pub layout_names : List Item → List Name
layout_names [] = []
layout_names (item.Layout layout ∷ items) = layout.name ∷ layout_names items
layout_names (item.Const decl ∷ items) = layout_names items
layout_names (item.Kernel kernel ∷ items) = layout_names items
layout_names (item.Command command ∷ items) = layout_names items

-- a node of the layout of this name breaks the rule of this number
abbrev pub rule_last : List ℕ → ℕ → ℕ → LastLine
rule_last name node rule = named_as 5 (codes "layout: ") name (codes " node " ++ (decimal node ++ (codes " rule " ++ decimal rule)))

-- the layout of this name breaks a rule, or is too large
abbrev pub layout_last : List ℕ → LayoutFault → LastLine
layout_last name (layout.BadExtent node) = rule_last name node 1
layout_last name (layout.BadOrder node) = rule_last name node 2
layout_last name (layout.BadAxis node) = rule_last name node 3
layout_last name layout.TooLarge = limit_last (codes "layout " ++ name)
layout_last name (layout.BadCap node) = rule_last name node 5

-- the kernel of this name breaks a rule on types
abbrev pub type_last : List ℕ → TypeFault → LastLine
type_last name fault = named_as 5 (codes "type: kernel ") name (codes " statement " ++ (decimal fault.stmt ++ (codes " code " ++ decimal fault.code)))

-- the kernel of this name isn't admitted
abbrev pub admit_last : List ℕ → AdmitFault → LastLine
admit_last name (admit.Rule stmt rule) = named_as 5 (codes "admission: kernel ") name (codes " statement " ++ (decimal stmt ++ (codes " rule " ++ decimal rule)))
admit_last name admit.BoxTooLarge = limit_last (codes "box " ++ name)

-- an item is a command that breaks a rule
abbrev pub command_last : ℕ → LastLine
command_last item = refused_as 5 (codes "command: item " ++ decimal item)

-- why a program of these items is refused before any of its commands runs
abbrev pub refusal_last : List Item → Refusal → LastLine
refusal_last items (refusal.Lex fault) = lex_last fault
refusal_last items (refusal.Parse fault) = parse_last fault
refusal_last items (refusal.Name fault) = name_last fault
refusal_last items (refusal.Layout number fault) = layout_last (name_text (slice_get (layout_names items) number)) fault
refusal_last items refusal.Words = limit_last (codes "words")
refusal_last items (refusal.Types fault) = type_last (name_text (slice_get (kernel_names items) fault.kernel)) fault
refusal_last items (refusal.Admit kernel fault) = admit_last (name_text (slice_get (kernel_names items) kernel)) fault
refusal_last items (refusal.Command item) = command_last item
refusal_last items refusal.Times = limit_last (codes "times")
refusal_last items refusal.Image = limit_last (codes "image")

-- ---- refusals of a command

-- the name of a task's field
abbrev pub field_text : Tables → Task → List ℕ
field_text names (Load at) = name_text (field_name_of names at.number)
field_text names (Run kernel) = []
field_text names (Dump at) = name_text (field_name_of names at.number)
field_text names (Image at lo hi) = name_text (field_name_of names at.number)
field_text names (Stats layout) = []
field_text names (Prune layout) = []
field_text names (Clear layout) = []

-- the name of a kernel that is run
abbrev pub kernel_text : Tables → Option ℕ → List ℕ
kernel_text names kernel = name_text (option_and_then (kernel_name_of names) kernel)

-- the name of the layout of a number
abbrev pub layout_text : Tables → ℕ → List ℕ
layout_text names number = name_text (layout_name_of names number)

-- the bytes of a file's name, if there is one
abbrev pub file_text : Option (List ℕ) → List ℕ
file_text None = []
file_text (Some name) = name

-- the run of a kernel is refused, or of a load if there is none
abbrev pub fault_last : Tables → Option ℕ → RunFault → LastLine
fault_last names kernel (WriteOutside stmt at) =
    named_as 7 (codes "write outside: kernel ") (kernel_text names kernel) (codes " statement " ++ (decimal stmt ++ (codes " at " ++ coordinate_text at)))
fault_last names kernel (PoolFull layout node cap) =
    named_as 7 (codes "pool full: ") (name_text (layout_name_of names layout)) (codes " node " ++ (decimal node ++ (codes " cap " ++ decimal cap)))

-- why a task is refused, in a program with these names; the file that the task reads is given
abbrev pub run_last : Tables → Option (List ℕ) → Task → RunRefusal → LastLine
run_last names file task (run.Read field) = read_last (file_text file)
run_last names file task (run.GridBytes field) = limit_last (codes "grid bytes " ++ field_text names task)
run_last names file task (run.GridRows field) = limit_last (codes "grid rows " ++ field_text names task)
run_last names file task (run.Grid field line) = named_as 6 (codes "grid: ") (field_text names task) (codes " line " ++ decimal line)
run_last names file task (run.Run kernel fault) = fault_last names kernel fault

-- ---- refusals of a snapshot

-- a snapshot has too many bytes
abbrev pub snapshot_bytes_last : LastLine
snapshot_bytes_last = limit_last (codes "snapshot bytes")

-- why bytes are no snapshot, in a program with these names: they are that of no state of its layouts, or a node has no room for it
abbrev pub snapshot_last : Tables → SnapFault → LastLine
snapshot_last names NotSnapshot = refused_as 6 (codes "snapshot")
snapshot_last names (NotClosed layout) = refused_as 6 (codes "snapshot")
snapshot_last names (Full layout node cap) = fault_last names None (PoolFull layout node cap)

-- ---- examples

abbrev one_of_each : Tables
one_of_each = record {
  constants = [];
  layouts = record { name = record { text = codes "A" }; axes = 2 } ∷ [];
  fields = [];
  kernels = record { text = codes "k" } ∷ record { text = codes "m" } ∷ [];
}

a_bad_byte : (lex_last (BadByte 2)).line ≡ codes "refused: bad byte: line 2"
unfolding digits
a_bad_byte = refl

too_many_fields : name_last (TooMany which.Fields) ≡ record { status = 8; line = codes "refused: limit: fields" }
too_many_fields = refl

a_bad_cap : layout_last (codes "A") (layout.BadCap 2) ≡ record { status = 5; line = codes "refused: layout: A node 2 rule 5" }
unfolding digits
a_bad_cap = refl

a_large_box : admit_last (codes "k") admit.BoxTooLarge ≡ record { status = 8; line = codes "refused: limit: box k" }
a_large_box = refl

a_write_outside : run_last one_of_each None (Run 1) (run.Run (Some 1) (WriteOutside 2 (record { n = 2; a = pos 3; b = pos 4; c = pos 0 })))
    ≡ record { status = 7; line = codes "refused: write outside: kernel m statement 2 at 3 4" }
unfolding digits
a_write_outside = refl

a_full_pool : run_last one_of_each None (Run 0) (run.Run (Some 0) (PoolFull 0 1 3)) ≡ record { status = 7; line = codes "refused: pool full: A node 1 cap 3" }
unfolding digits
a_full_pool = refl

a_full_snapshot : snapshot_last one_of_each (Full 0 1 3) ≡ record { status = 7; line = codes "refused: pool full: A node 1 cap 3" }
unfolding digits
a_full_snapshot = refl

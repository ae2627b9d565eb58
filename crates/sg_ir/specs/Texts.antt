-- The text of code: a line for each instruction, indented by two spaces more inside `if` and `for`.
use Rattle.std.specs.Prelude.{ℕ, ℤ, List, [], ◌∷◌, ◌++◌, map, codes}
use Rattle.std.specs.List.{flat_map}
use Rattle.std.specs.Fmt.{decimal, signed_decimal}
use Rattle.sg_words.specs.declared.operators.Ty.{Ty}
use Rattle.sg_words.specs.declared.operators.Ty.TheVariants as ty
use Rattle.sg_words.specs.declared.operators.BinOp.{BinOp}
use Rattle.sg_words.specs.declared.operators.BinOp.TheVariants as bin
use Rattle.sg_words.specs.declared.operators.UnOp.{UnOp}
use Rattle.sg_words.specs.declared.operators.UnOp.TheVariants as un
use Rattle.sg_words.specs.declared.operators.AccOp.{AccOp}
use Rattle.sg_words.specs.declared.operators.AccOp.TheVariants as acc
use Rattle.sg_ir.specs.declared.code.Code.{Code}
use Rattle.sg_ir.specs.declared.code.Inst.{Inst, fold-Inst}
use Rattle.sg_ir.specs.declared.code.Inst.TheOpen as i
use Rattle.sg_ir.specs.declared.code.Inst.TheOpen.{Inst-F}

-- the names of types and operators
abbrev pub ty_text : Ty → List ℕ
ty_text ty.I32 = codes "i32"
ty_text ty.U32 = codes "u32"
ty_text ty.Bool = codes "bool"

-- the name of an operator on two registers
abbrev pub bin_text : BinOp → List ℕ
bin_text bin.Add = codes "add"
bin_text bin.Sub = codes "sub"
bin_text bin.Mul = codes "mul"
bin_text bin.Div = codes "div"
bin_text bin.Rem = codes "rem"
bin_text bin.And = codes "and"
bin_text bin.Or = codes "or"
bin_text bin.Xor = codes "xor"
bin_text bin.LAnd = codes "land"
bin_text bin.LOr = codes "lor"
bin_text bin.Shl = codes "shl"
bin_text bin.Shr = codes "shr"
bin_text bin.Min = codes "min"
bin_text bin.Max = codes "max"
bin_text bin.Eq = codes "eq"
bin_text bin.Ne = codes "ne"
bin_text bin.Lt = codes "lt"
bin_text bin.Le = codes "le"
bin_text bin.Gt = codes "gt"
bin_text bin.Ge = codes "ge"

-- the name of an operator on one register
abbrev pub un_text : UnOp → List ℕ
un_text un.Neg = codes "neg"
un_text un.Not = codes "not"
un_text un.LNot = codes "lnot"

-- the name of an operator that contributions accumulate by
abbrev pub acc_text : AccOp → List ℕ
acc_text acc.Add = codes "add"
acc_text acc.Min = codes "min"
acc_text acc.Max = codes "max"
acc_text acc.Or = codes "or"
acc_text acc.And = codes "and"
acc_text acc.Xor = codes "xor"

-- a register and a place, and a number after a space
abbrev pub reg : ℕ → List ℕ
reg r = 114 ∷ decimal r

-- a place: `p` and its number in decimal
abbrev pub place_text : ℕ → List ℕ
place_text p = 112 ∷ decimal p

-- a number in decimal after a space
abbrev pub then_number : ℕ → List ℕ
then_number n = 32 ∷ decimal n

-- a register after a space
abbrev pub then_reg : ℕ → List ℕ
then_reg r = 32 ∷ reg r

-- index registers, each after a space
abbrev pub index_text : List ℕ → List ℕ
index_text index = flat_map then_reg index

-- the lines of an instruction, given the spaces that stand before each
abbrev pub Lines : Type 0
Lines = List ℕ → List ℕ

-- one line: its indent, its text and the line feed that ends it
abbrev pub line : List ℕ → List ℕ → List ℕ
line indent text = indent ++ text ++ 10 ∷ []

-- the indent of what stands inside an `if` or a `for`: two spaces more
abbrev pub deeper : List ℕ → List ℕ
deeper indent = indent ++ codes "  "

-- the lines of several instructions, one after the other, at the same indent
abbrev pub all_lines : List Lines → Lines
all_lines lines indent = flat_map (λ (one : Lines). one indent) lines

-- a step down a node
abbrev pub step_line : List ℕ → ℕ → ℕ → ℕ → ℕ → List ℕ
step_line name to from node offset = place_text to ++ codes " = " ++ name ++ 32 ∷ place_text from ++ then_number node ++ then_reg offset

-- the lines of instructions with an operator or index registers
abbrev pub bin_line : ℕ → BinOp → Ty → ℕ → ℕ → List ℕ
bin_line to op given a b = reg to ++ codes " = " ++ bin_text op ++ 32 ∷ ty_text given ++ then_reg a ++ then_reg b

-- an `extract` without indent: the register that is set, what is divided by, the size, and the register that it's taken from
abbrev pub extract_line : List ℕ → ℕ → ℕ → ℕ → ℕ → List ℕ
extract_line name to div size from = reg to ++ codes " = " ++ name ++ then_number div ++ then_number size ++ then_reg from

-- an `offset` without indent: the register that is set, the high part's register, the size, and the low part's register
abbrev pub offset_line : List ℕ → ℕ → ℕ → ℕ → ℕ → List ℕ
offset_line name to high size low = reg to ++ codes " = " ++ name ++ then_reg high ++ then_number size ++ then_reg low

-- an own read without indent: the register that is set, the layout and the field
abbrev pub own_read_line : List ℕ → ℕ → ℕ → ℕ → List ℕ
own_read_line name to layout field = reg to ++ codes " = " ++ name ++ then_number layout ++ then_number field

-- an own write without indent: the layout, the field and the value's register; the number of its statement isn't in the text
abbrev pub own_write_line : ℕ → ℕ → ℕ → List ℕ
own_write_line layout field from = codes "ownwrite" ++ then_number layout ++ then_number field ++ then_reg from

-- an operator on one register without indent: the register that is set, the operator, its type and that one
abbrev pub un_line : ℕ → UnOp → Ty → ℕ → List ℕ
un_line to op given a = reg to ++ codes " = " ++ un_text op ++ 32 ∷ ty_text given ++ then_reg a

-- a read of a cell without indent: the register that is set, the place, the layout, the field and the index registers
abbrev pub read_line : ℕ → ℕ → ℕ → ℕ → List ℕ → List ℕ
read_line to from layout field index = reg to ++ codes " = read " ++ place_text from ++ then_number layout ++ then_number field ++ index_text index

-- a question whether a place is active, without indent: the register that is set, the place and the index registers
abbrev pub active_line : ℕ → ℕ → List ℕ → List ℕ
active_line to from index = reg to ++ codes " = active " ++ place_text from ++ index_text index

-- a contribution without indent: operator, layout, field, place, value's register, index registers; its statement isn't in the text
abbrev pub acc_line : AccOp → ℕ → ℕ → ℕ → ℕ → List ℕ → List ℕ
acc_line op layout field from value index = codes "acc " ++ acc_text op ++ then_number layout ++ then_number field ++ 32 ∷ place_text from ++ then_reg value ++ index_text index

-- a want without indent: the layout and the index registers; the number of its statement isn't in the text
abbrev pub want_line : ℕ → List ℕ → List ℕ
want_line layout index = codes "want" ++ then_number layout ++ index_text index

-- the lines of an `if` and of a `for` round the lines in them
abbrev pub else_lines : List ℕ → Lines
else_lines lines indent = line indent (codes "else") ++ lines ++ line indent (codes "end")

-- the lines of an `if`: its condition's register, the block, `else` (also if nothing follows it), the other block, and `end`
abbrev pub if_lines : ℕ → Lines → Lines → Lines
if_lines cond block otherwise indent = line indent (codes "if" ++ then_reg cond) ++ block (deeper indent) ++ else_lines (otherwise (deeper indent)) indent

-- the lines of a `for`: its variable, the number that it starts at, the one that it stops below, the body, and `end`
abbrev pub for_lines : ℕ → ℤ → ℤ → Lines → Lines
for_lines var lo hi body indent =
    line indent (codes "for" ++ then_number var ++ 32 ∷ signed_decimal lo ++ 32 ∷ signed_decimal hi) ++ body (deeper indent) ++ line indent (codes "end")

-- One layer of an instruction, where the lines of those in it are given.
abbrev pub text_step : Inst-F Lines → Lines
text_step (i.Const to word) indent = line indent (reg to ++ codes " = const" ++ then_number word)
text_step (i.Var to var) indent = line indent (reg to ++ codes " = var" ++ then_number var)
text_step (i.Set var from) indent = line indent (codes "set" ++ then_number var ++ then_reg from)
text_step (i.Bin to op given a b) indent = line indent (bin_line to op given a b)
text_step (i.Un to op given a) indent = line indent (un_line to op given a)
text_step (i.Mulq to a b s) indent = line indent (reg to ++ codes " = mulq" ++ then_reg a ++ then_reg b ++ then_reg s)
text_step (i.Root to layout) indent = line indent (place_text to ++ codes " = root" ++ then_number layout)
text_step (i.Check to from axis extent index) indent = line indent (place_text to ++ codes " = check " ++ place_text from ++ then_number axis ++ then_number extent ++ then_reg index)
text_step (i.Extract to div size from) indent = line indent (extract_line (codes "extract") to div size from)
text_step (i.Offset to high size low) indent = line indent (offset_line (codes "offset") to high size low)
text_step (i.Child to from node offset) indent = line indent (step_line (codes "child") to from node offset)
text_step (i.HashChild to from node offset) indent = line indent (step_line (codes "hashchild") to from node offset)
text_step (i.MaskBit to from node offset) indent = line indent (step_line (codes "maskbit") to from node offset)
text_step (i.DynCell to from node offset) indent = line indent (step_line (codes "dyncell") to from node offset)
text_step (i.ReadCell to from layout field index) indent = line indent (read_line to from layout field index)
text_step (i.IsActive to from index) indent = line indent (active_line to from index)
text_step (i.OwnRead to layout field) indent = line indent (own_read_line (codes "ownread") to layout field)
text_step (i.OwnWrite layout field from stmt) indent = line indent (own_write_line layout field from)
text_step (i.Acc op layout field from value index stmt) indent = line indent (acc_line op layout field from value index)
text_step (i.Want layout index stmt) indent = line indent (want_line layout index)
text_step (i.If cond block otherwise) indent = if_lines cond (all_lines block) (all_lines otherwise) indent
text_step (i.For var lo hi body) indent = for_lines var lo hi (all_lines body) indent

-- the lines of an instruction and of a block
abbrev pub inst_text : Inst → Lines
inst_text = fold-Inst Lines text_step

-- the lines of a block, an instruction after the other
abbrev pub block_text : List Inst → Lines
block_text block = all_lines (map inst_text block)

-- the lines of a `for` of a block
abbrev pub for_text : ℕ → ℤ → ℤ → List Inst → Lines
for_text var lo hi body = for_lines var lo hi (block_text body)

-- the text of code
abbrev pub code_text : Code → List ℕ
code_text code = block_text code.body []

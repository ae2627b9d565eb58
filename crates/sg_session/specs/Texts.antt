-- The texts of mode check and of mode lower.
use Rattle.std.specs.Prelude.{◌≡◌, refl, ℕ, Bool, true, false, List, [], ◌∷◌, ◌++◌, codes}
use Rattle.sg_ast.specs.declared.token.Name.{Name}
use Rattle.sg_names.specs.Tables.{Tables}
use Rattle.sg_ir.specs.declared.code.KernelCode.{KernelCode}
use Rattle.sg_ir.specs.Texts.{code_text}

-- the word for a neutral kernel, and for every other
abbrev pub neutral_word : Bool → List ℕ
neutral_word true = codes "neutral"
neutral_word false = codes "layout-bound"

-- the line of a kernel
abbrev pub check_line : Name → Bool → List ℕ
check_line name neutral = codes "kernel " ++ (name.text ++ (32 ∷ (neutral_word neutral ++ 10 ∷ [])))

-- the lines of kernels, in order
abbrev pub check_lines : List Name → List Bool → List ℕ
check_lines (name ∷ names) (neutral ∷ more) = check_line name neutral ++ check_lines names more
check_lines _ _ = []

-- the text of a program with these names, by whether each kernel is neutral
abbrev pub check_text : Tables → List Bool → List ℕ
check_text names neutral = check_lines names.kernels neutral

-- the lines of a kernel's code: of its slice, and of the code
abbrev pub lines_of_kernel : Name → KernelCode → List ℕ
lines_of_kernel name kernel = codes "kernel " ++ (name.text ++ (codes "\nslice\n" ++ (code_text kernel.slice ++ (codes "code\n" ++ code_text kernel.code))))

-- the lines of kernels with these names, in order
abbrev pub lines_of_kernels : List Name → List KernelCode → List ℕ
lines_of_kernels (name ∷ names) (kernel ∷ more) = lines_of_kernel name kernel ++ lines_of_kernels names more
lines_of_kernels _ _ = []

-- the text of the access code of a program with these names
abbrev pub lower_text : Tables → List KernelCode → List ℕ
lower_text names kernels = lines_of_kernels names.kernels kernels

-- ---- examples
two_kernels : check_lines (record { text = codes "k" } ∷ record { text = codes "m" } ∷ []) (true ∷ false ∷ [])
    ≡ codes "kernel k neutral\nkernel m layout-bound\n"
two_kernels = refl

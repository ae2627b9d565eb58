-- The lines of kernels, one after the other.
use Rattle.std.proofs.Common.{◌≡◌, ℕ, suc, ◌+◌, ◌<◌, Bool, List, ◌∷◌, ◌++◌, drop, drop-cons, length, get_or, Some, sym, ap, ◌∙◌, add-one, append_assoc}
use Rattle.std.specs.Prelude.{slice_get}
use Rattle.std.proofs.lemmas.Option.{slice_get_within, get_or_from_slice_get}
use Rattle.sg_ast.specs.declared.token.Name.{Name}
use Rattle.sg_ir.specs.declared.code.KernelCode.{KernelCode}
use Rattle.sg_session.specs.Texts.{check_line, check_lines, lines_of_kernel, lines_of_kernels}

pub lines_next : (names : List Name) (flags : List Bool) (n : ℕ) (name : Name) (d : Bool) (old more whole : List ℕ) → slice_get names n ≡ Some name → n < length flags
    → more ≡ old ++ check_line name (get_or flags n d) → old ++ check_lines (drop n names) (drop n flags) ≡ whole
    → more ++ check_lines (drop (n + 1) names) (drop (n + 1) flags) ≡ whole
lines_next names flags n name d old more whole there below pushed e =
    let named : drop n names ≡ name ∷ drop (n + 1) names =
    rw add-one (drop-cons names n name (slice_get_within names n name there) ∙ ap (λ (x : Name). x ∷ drop (suc n) names) (get_or_from_slice_get names n name name there)) in
    let flagged : drop n flags ≡ get_or flags n d ∷ drop (n + 1) flags = rw add-one (drop-cons flags n d below) in
    let rest = check_lines (drop (n + 1) names) (drop (n + 1) flags) in
    let lines : check_lines (drop n names) (drop n flags) ≡ check_line name (get_or flags n d) ++ rest =
    ap (λ (ns : List Name). check_lines ns (drop n flags)) named ∙ ap (λ (fs : List Bool). check_lines (name ∷ drop (n + 1) names) fs) flagged in
    ap (λ (bs : List ℕ). bs ++ rest) pushed ∙ append_assoc old (check_line name (get_or flags n d)) rest ∙ ap (λ (bs : List ℕ). old ++ bs) (sym lines) ∙ e

-- the same of the lines of their code
pub codes_next : (names : List Name) (kernels : List KernelCode) (n : ℕ) (name : Name) (kernel : KernelCode) (old more whole : List ℕ) → slice_get names n ≡ Some name → n < length kernels → kernel ≡ get_or kernels n kernel
    → more ≡ old ++ lines_of_kernel name kernel → old ++ lines_of_kernels (drop n names) (drop n kernels) ≡ whole
    → more ++ lines_of_kernels (drop (n + 1) names) (drop (n + 1) kernels) ≡ whole
codes_next names kernels n name kernel old more whole there below is pushed e =
    let named : drop n names ≡ name ∷ drop (n + 1) names =
    rw add-one (drop-cons names n name (slice_get_within names n name there) ∙ ap (λ (x : Name). x ∷ drop (suc n) names) (get_or_from_slice_get names n name name there)) in
    let coded : drop n kernels ≡ kernel ∷ drop (n + 1) kernels = rw add-one (drop-cons kernels n kernel below ∙ ap (λ (x : KernelCode). x ∷ drop (suc n) kernels) (sym is)) in
    let rest = lines_of_kernels (drop (n + 1) names) (drop (n + 1) kernels) in
    let lines : lines_of_kernels (drop n names) (drop n kernels) ≡ lines_of_kernel name kernel ++ rest =
    ap (λ (ns : List Name). lines_of_kernels ns (drop n kernels)) named ∙ ap (λ (ks : List KernelCode). lines_of_kernels (name ∷ drop (n + 1) names) ks) coded in
    ap (λ (bs : List ℕ). bs ++ rest) pushed ∙ append_assoc old (lines_of_kernel name kernel) rest ∙ ap (λ (bs : List ℕ). old ++ bs) (sym lines) ∙ e

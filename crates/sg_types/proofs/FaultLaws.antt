-- The first fault of lines, and what is said of it.
use Rattle.std.proofs.Common.{◌≡◌, ℕ, ◌+◌, suc, List, [], ◌∷◌, ◌++◌, length, Option, Some, None, Result, Ok, Err, refl, sym, ap, subst, ◌∙◌, arith}
use Rattle.std.specs.List.{AllByRecursion}
use Rattle.sg_ast.specs.declared.program.Program.{Program}
use Rattle.sg_names.specs.Tables.{Tables}
use Rattle.sg_types.specs.declared.fault.TypeFault.{TypeFault}
use Rattle.sg_types.specs.declared.typed.Typed.{Typed}
use Rattle.sg_types.specs.Programs.{typed_program}
use Rattle.sg_types.specs.TypingLines.{Line, program_lines, code_of}
use Rattle.sg_types.specs.TypingLaws.{HasNoCode, IsFirstCode, IsFirstTypeFault, RefusedIsFirst}
use Rattle.sg_types.proofs.Tellings.{fault_at, first_fault, Clean, fault_after}
use Rattle.sg_types.proofs.Deciding.{or_after, first_of, TellsItems, skip_clean, program_tells}

pub some_fault : (a b : TypeFault) → Some a ≡ Some b → a ≡ b
some_fault a b e = cc

-- ---- lines

record FoundLine (kernel number : ℕ) (lines : List Line) (fault : TypeFault) : Type 0 where
  front : List Line
  line : Line
  back : List Line
  split : lines ≡ front ++ line ∷ back
  good : Clean front
  kernel_is : fault.kernel ≡ kernel
  number_is : fault.stmt ≡ number + length front
  applies : code_of line ≡ Some fault.code

first_here : (kernel number code : ℕ) (line : Line) (more : List Line) → code_of line ≡ Some code → FoundLine kernel number (line ∷ more) (record { kernel = kernel; stmt = number; code = code })
first_here kernel number code line more is =
    record { front = []; line = line; back = more; split = refl; good = tt; kernel_is = refl; number_is = omega arith; applies = is }

first_later : (kernel number : ℕ) (line : Line) (more : List Line) (fault : TypeFault) → HasNoCode line → FoundLine kernel (suc number) more fault → FoundLine kernel number (line ∷ more) fault
first_later kernel number line more fault none f = record {
  front = line ∷ f.front;
  line = f.line;
  back = f.back;
  split = ap (λ (rest : List Line). line ∷ rest) f.split;
  good = (none, f.good);
  kernel_is = f.kernel_is;
  number_is = omega (arith, f.number_is);
  applies = f.applies;
}

find_line : (kernel number : ℕ) (lines : List Line) (fault : TypeFault) → first_fault kernel number lines ≡ Some fault → FoundLine kernel number lines fault
find_line kernel number [] fault h = absurd (cc)
find_line kernel number (line ∷ more) fault h = by_code (find_line kernel (suc number) more fault) (code_of line) refl h
  where
    by_code : (first_fault kernel (suc number) more ≡ Some fault → FoundLine kernel (suc number) more fault)
        → (o : Option ℕ) → code_of line ≡ o → fault_at kernel number o (first_fault kernel (suc number) more) ≡ Some fault → FoundLine kernel number (line ∷ more) fault
    by_code later (Some code) is e =
        subst (FoundLine kernel number (line ∷ more)) (some_fault (record { kernel = kernel; stmt = number; code = code }) fault e) (first_here kernel number code line more is)
    by_code later None is e = first_later kernel number line more fault is (later e)

none_clean : (kernel number : ℕ) (lines : List Line) → first_fault kernel number lines ≡ None → Clean lines
none_clean kernel number [] h = tt
none_clean kernel number (line ∷ more) h = by_code (none_clean kernel (suc number) more) (code_of line) refl h
  where
    by_code : (first_fault kernel (suc number) more ≡ None → Clean more)
        → (o : Option ℕ) → code_of line ≡ o → fault_at kernel number o (first_fault kernel (suc number) more) ≡ None → Clean (line ∷ more)
    by_code later (Some code) is e = absurd (cc)
    by_code later None is e = (is, later e)

made : ℕ → ℕ → ℕ → TypeFault
made kernel stmt code = record { kernel = kernel; stmt = stmt; code = code }

line_found : (kernel : ℕ) (lines : List Line) (fault : TypeFault) → fault.kernel ≡ kernel → IsFirstCode lines fault.stmt fault.code → first_fault kernel 0 lines ≡ Some fault
unfolding made
line_found kernel lines fault k f =
    let start : 0 + length f.front ≡ fault.stmt = omega (arith, f.number) in
    ap (first_fault kernel 0) f.split
    ∙ (fault_after kernel 0 f.front (f.line ∷ f.back) f.good
    ∙ (ap (λ o. fault_at kernel (0 + length f.front) o (first_fault kernel (suc (0 + length f.front)) f.back)) f.applies
    ∙ ap Some (ap (λ n. made kernel n fault.code) start ∙ ap (λ n. made n fault.stmt fault.code) (sym k))))

first_code : (kernel : ℕ) (lines : List Line) (fault : TypeFault) → FoundLine kernel 0 lines fault → IsFirstCode lines fault.stmt fault.code
first_code kernel lines fault f = record { front = f.front; line = f.line; back = f.back; split = f.split; good = f.good; number = omega (arith, f.number_is); applies = f.applies }

-- ---- kernels

record FoundKernel (kernel : ℕ) (kernels : List (List Line)) (fault : TypeFault) : Type 0 where
  before : List (List Line)
  lines : List Line
  after : List (List Line)
  split : kernels ≡ before ++ lines ∷ after
  good : AllByRecursion Clean before
  kernel_is : fault.kernel ≡ kernel + length before
  first : IsFirstCode lines fault.stmt fault.code

find_kernel : (kernel : ℕ) (kernels : List (List Line)) (fault : TypeFault) → first_of kernel kernels ≡ Some fault → FoundKernel kernel kernels fault
find_kernel kernel [] fault h = absurd (cc)
find_kernel kernel (lines ∷ more) fault h = by_fault (find_kernel (suc kernel) more fault) (first_fault kernel 0 lines) refl h
  where
    by_fault : (first_of (suc kernel) more ≡ Some fault → FoundKernel (suc kernel) more fault)
        → (o : Option TypeFault) → first_fault kernel 0 lines ≡ o → or_after o (first_of (suc kernel) more) ≡ Some fault → FoundKernel kernel (lines ∷ more) fault
    by_fault later (Some given) is e =
        let f = find_line kernel 0 lines fault (is ∙ e) in
        record { before = []; lines = lines; after = more; split = refl; good = tt; kernel_is = omega (arith, f.kernel_is); first = first_code kernel lines fault f }
    by_fault later None is e =
        let f = later e in
        record {
          before = lines ∷ f.before;
          lines = f.lines;
          after = f.after;
          split = ap (λ (rest : List (List Line)). lines ∷ rest) f.split;
          good = (none_clean kernel 0 lines is, f.good);
          kernel_is = omega (arith, f.kernel_is);
          first = f.first;
        }

skip_all : (kernel : ℕ) (before rest : List (List Line)) → AllByRecursion Clean before → first_of kernel (before ++ rest) ≡ first_of (kernel + length before) rest
skip_all kernel [] rest h = let same : kernel ≡ kernel + 0 = omega arith in ap (λ n. first_of n rest) same
skip_all kernel (lines ∷ before) rest h =
    let same : suc kernel + length before ≡ kernel + suc (length before) = omega arith in
    skip_clean kernel lines (before ++ rest) h.0 ∙ (skip_all (suc kernel) before rest h.1 ∙ ap (λ n. first_of n rest) same)

kernel_found : (kernels : List (List Line)) (fault : TypeFault) → IsFirstTypeFault kernels fault → first_of 0 kernels ≡ Some fault
kernel_found kernels fault f =
    let at : fault.kernel ≡ 0 + length f.before = omega (arith, f.kernel) in
    ap (first_of 0) f.split
    ∙ (skip_all 0 f.before (f.lines ∷ f.after) f.good
    ∙ ap (λ o. or_after o (first_of (suc (0 + length f.before)) f.after)) (line_found (0 + length f.before) f.lines fault at f.first))

pub all_clean : (kernel : ℕ) (kernels : List (List Line)) → AllByRecursion Clean kernels → first_of kernel kernels ≡ None
all_clean kernel [] h = refl
all_clean kernel (lines ∷ more) h = skip_clean kernel lines more h.0 ∙ all_clean (suc kernel) more h.1

refused_with : (kernels : List (List Line)) (fault : TypeFault) (r : Result Typed TypeFault) → TellsItems 0 r kernels → first_of 0 kernels ≡ Some fault → r ≡ Err fault
refused_with kernels fault (Ok done) h is = let no : None ≡ Some fault = sym (all_clean 0 kernels h) ∙ is in absurd (cc)
refused_with kernels fault (Err other) h is = ap Err (some_fault other fault (sym h ∙ is))

pub refused_is_first : (tables : Tables) (program : Program) → RefusedIsFirst tables program
refused_is_first tables program fault = (
  (λ is.
      let f = find_kernel 0 (program_lines tables program) fault
      (subst (λ (r : Result Typed TypeFault). TellsItems 0 r (program_lines tables program)) is (program_tells tables program)) in
      record { before = f.before; lines = f.lines; after = f.after; split = f.split; good = f.good; kernel = omega (arith, f.kernel_is); first = f.first }),
  (λ f. refused_with (program_lines tables program) fault (typed_program tables program) (program_tells tables program) (kernel_found (program_lines tables program) fault f)),
)

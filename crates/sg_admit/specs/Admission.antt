-- Which kernels are admitted, and what is known of them.
use Rattle.std.specs.Prelude.{ℕ, suc, Bool, false, not, ◌||◌, ◌==◌, if◌then◌else◌, nat_lt, List, [], ◌∷◌, map, length, Option, Some, None, Result, Ok, Err}
use Rattle.std.specs.Option.{option_or}
use Rattle.std.specs.List.{list_any, range_with_len}
use Rattle.sg_words.specs.Results.{fault_or}
use Rattle.sg_types.specs.declared.typed.TypedKernel.{TypedKernel}
use Rattle.sg_admit.specs.declared.admitted.Admitted.{Admitted}
use Rattle.sg_admit.specs.declared.admitted.AdmitFault.{AdmitFault}
use Rattle.sg_admit.specs.declared.admitted.AdmitFault.TheVariants.{Rule, BoxTooLarge}
use Rattle.sg_admit.specs.Limits.{most_box_points}
use Rattle.sg_admit.specs.Lines.{Deed, Sets, Writes, Tests, Turns, Opens, Line, kernel_lines}
use Rattle.sg_admit.specs.Clean.{unclean_in}
use Rattle.sg_admit.specs.Slices.{slice_of}
use Rattle.sg_admit.specs.Bounds.{constant_domain, box_size}
use Rattle.sg_admit.specs.Rules.{Facts, facts_of, kept_by}

-- the first rule that isn't kept, where the rules are numbered from the given one
abbrev pub first_broken : ℕ → ℕ → List Bool → Option AdmitFault
first_broken stmt rule [] = None
first_broken stmt rule (kept ∷ more) = if kept then first_broken stmt (suc rule) more else Some (Rule stmt rule)

-- the fault of a line: the smallest rule that it breaks
abbrev pub line_fault : Facts → Line → Option AdmitFault
line_fault facts line = first_broken line.number 1 (kept_by facts line)

-- the fault of the first line that has one
abbrev pub first_fault : Facts → List Line → Option AdmitFault
first_fault facts [] = None
first_fault facts (line ∷ lines) = option_or (line_fault facts line) (first_fault facts lines)

-- a statement is the inner loop of this variable; the kernel's own loop is never one
abbrev pub turns_var : ℕ → Deed → Bool
turns_var var (Sets other value) = false
turns_var var (Writes layout place index way value) = false
turns_var var (Tests condition) = false
turns_var var (Turns other range) = other == var
turns_var var (Opens ranges) = false

-- for each variable whether it is a loop's or a clean local
abbrev pub clean_vars : TypedKernel → List Bool
clean_vars kernel =
    map (λ var. not ((unclean_in (kernel_lines kernel)).vars var) || list_any (λ line. turns_var var line.deed) (kernel_lines kernel)) (range_with_len 0 (length kernel.types))

-- a kernel with what is known of it
abbrev pub kept_of : TypedKernel → Admitted
kept_of kernel = record { kernel = kernel; clean = clean_vars kernel; slice = slice_of kernel; domain = constant_domain kernel }

-- the answer if no rule is broken: the kernel, or that its box is too large
abbrev pub box_answer : TypedKernel → Result Admitted AdmitFault
box_answer kernel = if nat_lt most_box_points (box_size (constant_domain kernel)) then Err BoxTooLarge else Ok (kept_of kernel)

-- a kernel of which each line keeps the rules and whose box isn't too large; else the first fault
abbrev pub admission : TypedKernel → Result Admitted AdmitFault
admission kernel = fault_or (first_fault (facts_of kernel) (kernel_lines kernel)) (box_answer kernel)

-- What the step over one item makes of the kernels so far.
use Rattle.std.specs.Prelude.{◌≡◌, ℕ, List, ◌∷◌, ◌++◌, length, Result, Ok, Err}
use Rattle.sg_words.specs.declared.memory.Stop.{Stop}
use Rattle.sg_words.specs.declared.memory.Stop.TheVariants as stop
use Rattle.sg_ast.specs.declared.program.Item.{Item}
use Rattle.sg_names.specs.Tables.{Tables}
use Rattle.sg_types.specs.declared.fault.TypeFault.{TypeFault}
use Rattle.sg_types.specs.declared.typed.TypedKernel.{TypedKernel}
use Rattle.sg_words.specs.Results.{◌>>=◌}
use Rattle.sg_types.specs.Programs.{typed_items}

-- kernels that are typed already, before others
abbrev pub behind_typed : List TypedKernel → Result (List TypedKernel) TypeFault → Result (List TypedKernel) TypeFault
behind_typed done rest = rest >>= (λ more. Ok (done ++ more))

-- all kernels, where some are typed, and items are left after a number of constants
abbrev pub typed_after : Tables → List TypedKernel → ℕ → List Item → Result (List TypedKernel) TypeFault
typed_after tables done constants items = behind_typed done (typed_items tables (length done) constants items)

-- whatever follows the item, its kernel is typed after it, or its fault is that of all
abbrev pub Takes : {A : Type 0} → Tables → Item → List TypedKernel → ℕ → List TypedKernel → ℕ → Result A (Stop TypeFault) → Type 0
Takes tables item done constants done' constants' (Ok x) =
    (rest : List Item) → typed_after tables done constants (item ∷ rest) ≡ typed_after tables done' constants' rest
Takes tables item done constants done' constants' (Err stop.Memory) = Unit {0}
Takes tables item done constants done' constants' (Err (stop.Refused fault)) =
    (rest : List Item) → typed_after tables done constants (item ∷ rest) ≡ Err fault

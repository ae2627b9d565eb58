-- One item after the other.
use Rattle.std.proofs.Common.{◌≡◌, ℕ, suc, ◌+◌, ◌≤◌, ◌<◌, ◌++◌, drop, get_or, List, [], ◌∷◌, length, Result, Ok, Err, refl, sym, ap, subst, ◌∙◌, append_assoc, append-nil, length-append, arith}
use Rattle.std.specs.Result.{IsErrAnd}
use Rattle.std.proofs.lemmas.List.{at_drop_more, at_drop_all}
use Rattle.sg_words.specs.declared.memory.Stop.{Stop}
use Rattle.sg_words.specs.declared.memory.Stop.TheVariants as stop
use Rattle.sg_words.specs.Answers.{AnswersAs}
use Rattle.sg_ast.specs.declared.kernel.KernelDecl.{KernelDecl}
use Rattle.sg_ast.specs.declared.program.Item.{Item}
use Rattle.sg_ast.specs.declared.program.Item.TheVariants as item
use Rattle.sg_ast.specs.declared.program.Program.{Program}
use Rattle.sg_names.specs.Tables.{Tables}
use Rattle.sg_types.specs.declared.fault.TypeFault.{TypeFault}
use Rattle.sg_types.specs.declared.typed.TypedKernel.{TypedKernel}
use Rattle.sg_types.specs.Scopes.{Known}
use Rattle.sg_words.specs.Results.{◌>>=◌}
use Rattle.sg_types.specs.Programs.{typed_items, typed_kernel, typed_program}
use Rattle.sg_types.specs.steps.Taking.{behind_typed, typed_after, Takes}

-- an error that is passed on answers as it did
pub error_goes_on : {A B C D : Type 0} (r : Result A (Stop TypeFault)) (e : Stop TypeFault) (shown : C → D) (view : A → B) (meaning : Result D TypeFault) (whole : Result B TypeFault)
    → IsErrAnd r (λ x. x ≡ e) → AnswersAs {A = C} {B = D} shown (Err e) meaning → ((fault : TypeFault) → meaning ≡ Err fault → whole ≡ Err fault) → AnswersAs view r whole
error_goes_on (Ok x) e shown view meaning whole is h on = absurd is
error_goes_on (Err stop.Memory) e shown view meaning whole is h on = tt
error_goes_on {C = C} {D = D} (Err (stop.Refused fault)) e shown view meaning whole is h on =
    on fault (subst (λ (x : Stop TypeFault). AnswersAs {A = C} {B = D} shown (Err x) meaning) (sym is) h)

after-fault : (done : List TypedKernel) (r : Result (List TypedKernel) TypeFault) (fault : TypeFault) → r ≡ Err fault → behind_typed done r ≡ Err fault
after-fault done r fault e = ap (behind_typed done) e

module _ (tables : Tables) (done : List TypedKernel) (constants : ℕ) where
  abbrev pub known_at : Known
  known_at = record { kernel = length done; tables = tables; constants = constants }

  -- a kernel is typed
  kernel_next : (kernel : TypedKernel) (rest : Result (List TypedKernel) TypeFault) → behind_typed done (rest >>= (λ more. Ok (kernel ∷ more))) ≡ behind_typed (done ++ kernel ∷ []) rest
  kernel_next kernel (Ok more) = ap Ok (sym (append_assoc done (kernel ∷ []) more))
  kernel_next kernel (Err fault) = refl

  pub kernel_taken : (decl : KernelDecl) (kernel : TypedKernel) → typed_kernel known_at decl ≡ Ok kernel → (rest : List Item)
      → typed_after tables done constants (item.Kernel decl ∷ rest) ≡ typed_after tables (done ++ kernel ∷ []) constants rest
  kernel_taken decl kernel e rest =
      ap (λ (r : Result TypedKernel TypeFault). behind_typed done (r >>= (λ kernel. typed_items tables (suc (length done)) constants rest >>= (λ more. Ok (kernel ∷ more))))) e
      ∙ (kernel_next kernel (typed_items tables (suc (length done)) constants rest)
      ∙ ap (λ (n : ℕ). behind_typed (done ++ kernel ∷ []) (typed_items tables n constants rest)) (omega (arith, length-append done (kernel ∷ []))))

  -- a kernel has a fault
  pub kernel_fault : (decl : KernelDecl) (fault : TypeFault) → typed_kernel known_at decl ≡ Err fault → (rest : List Item)
      → typed_after tables done constants (item.Kernel decl ∷ rest) ≡ Err fault
  kernel_fault decl fault e rest =
      ap (λ (r : Result TypedKernel TypeFault). behind_typed done (r >>= (λ kernel. typed_items tables (suc (length done)) constants rest >>= (λ more. Ok (kernel ∷ more))))) e

  pub constant_taken : (given : Item) (n : ℕ) → n ≡ constants + 1 → (is : (rest : List Item) → typed_items tables (length done) constants (given ∷ rest) ≡ typed_items tables (length done) (suc constants) rest) → (rest : List Item)
      → typed_after tables done constants (given ∷ rest) ≡ typed_after tables done n rest
  constant_taken given n e is rest =
      ap (behind_typed done) (is rest) ∙ ap (λ (k : ℕ). behind_typed done (typed_items tables (length done) k rest)) (omega arith)

-- one item is taken: what is left of the items, from what is typed
pub item_taken : (tables : Tables) (items : List Item) (i : ℕ) (given : Item) (done done' : List TypedKernel) (constants constants' : ℕ) → i < length items → given ≡ get_or items i given
    → ((rest : List Item) → typed_after tables done constants (given ∷ rest) ≡ typed_after tables done' constants' rest)
    → typed_after tables done' constants' (drop (i + 1) items) ≡ typed_after tables done constants (drop i items)
item_taken tables items i given done done' constants constants' within is takes =
    sym (at_drop_more (typed_after tables done constants) items i given within
    ∙ (ap (λ (first : Item). typed_after tables done constants (first ∷ drop (i + 1) items)) (sym is) ∙ takes (drop (i + 1) items)))

pub item_fault : (tables : Tables) (items : List Item) (i : ℕ) (given : Item) (done : List TypedKernel) (constants : ℕ) (fault : TypeFault) → i < length items → given ≡ get_or items i given
    → ((rest : List Item) → typed_after tables done constants (given ∷ rest) ≡ Err fault) → typed_after tables done constants (drop i items) ≡ Err fault
item_fault tables items i given done constants fault within is takes =
    at_drop_more (typed_after tables done constants) items i given within
    ∙ (ap (λ (first : Item). typed_after tables done constants (first ∷ drop (i + 1) items)) (sym is) ∙ takes (drop (i + 1) items))

pub items_done : (tables : Tables) (items : List Item) (i : ℕ) (done : List TypedKernel) (constants : ℕ) → length items ≤ i → typed_after tables done constants (drop i items) ≡ Ok done
items_done tables items i done constants h = at_drop_all (typed_after tables done constants) items i h ∙ ap Ok (append-nil done)

after-none : (r : Result (List TypedKernel) TypeFault) → behind_typed [] r ≡ r
after-none (Ok kernels) = refl
after-none (Err fault) = refl

-- the answer, from what all items give
pub program_ok : (tables : Tables) (program : Program) (items : List Item) (kernels : List TypedKernel) → items ≡ program.items → typed_after tables [] 0 items ≡ Ok kernels
    → typed_program tables program ≡ Ok (record { kernels = kernels })
program_ok tables program items kernels is h =
    let g = sym (after-none (typed_items tables 0 0 items)) ∙ h in
    ap (λ (r : Result (List TypedKernel) TypeFault). (r >>= (λ kernels. Ok (record { kernels = kernels }))))
    (ap (typed_items tables 0 0) (sym is) ∙ g)

pub program_fault : (tables : Tables) (program : Program) (items : List Item) (fault : TypeFault) → items ≡ program.items → typed_after tables [] 0 items ≡ Err fault
    → typed_program tables program ≡ Err fault
program_fault tables program items fault is h =
    let g = sym (after-none (typed_items tables 0 0 items)) ∙ h in
    ap (λ (r : Result (List TypedKernel) TypeFault). (r >>= (λ kernels. Ok (record { kernels = kernels }))))
    (ap (typed_items tables 0 0) (sym is) ∙ g)

-- an error of an item is the program's
pub takes_error : {A B : Type 0} (tables : Tables) (program : Program) (given : Item) (done : List TypedKernel) (constants : ℕ) (done' : List TypedKernel) (constants' : ℕ) (r : Result A (Stop TypeFault)) (e : Stop TypeFault) (view : A → B) (whole : Result B TypeFault)
    → IsErrAnd r (λ x. x ≡ e) → Takes {A = Unit {0}} tables given done constants done' constants' (Err e)
    → ((fault : TypeFault) → ((rest : List Item) → typed_after tables done constants (given ∷ rest) ≡ Err fault) → whole ≡ Err fault) → AnswersAs view r whole
takes_error tables program given done constants done' constants' (Ok x) e view whole is h on = absurd is
takes_error tables program given done constants done' constants' (Err stop.Memory) e view whole is h on = tt
takes_error tables program given done constants done' constants' (Err (stop.Refused fault)) e view whole is h on =
    on fault (subst (λ (x : Stop TypeFault). Takes {A = Unit {0}} tables given done constants done' constants' (Err x)) (sym is) h)

-- A task of a compiled program means what it means in each program that is compiled to it.
use Rattle.std.proofs.Common.{◌≡◌, ℕ, zero, suc, List, [], ◌∷◌, map, Result, refl, ap, ◌∙◌, subst}
use Rattle.std.specs.Prelude.{slice_get}
use Rattle.std.specs.List.{AllZip}
use Rattle.sg_layout.specs.declared.shape.Shape.{Shape}
use Rattle.sg_flat.specs.declared.effects.RunFault.{RunFault}
use Rattle.sg_flat.specs.declared.state.FlatLayout.{FlatLayout}
use Rattle.sg_flat.specs.declared.state.FlatState.{FlatState}
use Rattle.sg_flat.specs.Kernel.{kernel_meaning}
use Rattle.sg_flat.specs.State.{AreFlatLayouts, IsFlat}
use Rattle.sg_store.specs.StoreWords.{StoreWords}
use Rattle.sg_store.specs.StandsFor.{StandsFor}
use Rattle.sg_names.specs.Tables.{Tables}
use Rattle.sg_admit.specs.declared.admitted.Admitted.{Admitted}
use Rattle.sg_ir.specs.declared.code.KernelCode.{KernelCode}
use Rattle.sg_exec.specs.Standing.{StandForState}
use Rattle.sg_outside.specs.Files.{Reading}
use Rattle.sg_session.specs.declared.tasks.Task.{Task}
use Rattle.sg_session.specs.declared.tasks.Task.TheVariants.{Load, Run, Dump, Image, Stats, Prune, Clear}
use Rattle.sg_session.specs.Compiled.{CheckedProgram, CompiledProgram, Compiles, IsCodeOf}
use Rattle.sg_session.specs.Commands.{after_kernel, after_code, run_made, made_of, compiled_meaning, task_meaning}
use Rattle.sg_session.specs.Laws.{CompilingKeepsTasks}

-- each kernel's code leaves what the kernel leaves
codes_leave : (layouts : List Shape) (state : FlatState) → IsFlat layouts state → (kernels : List Admitted) (codes : List KernelCode) → AllZip (IsCodeOf layouts) kernels codes
    → (k : ℕ) → after_code layouts state (slice_get codes k) ≡ after_kernel layouts state (slice_get kernels k)
codes_leave layouts state fine [] [] all k = refl
codes_leave layouts state fine [] (code ∷ codes) all k = absurd all
codes_leave layouts state fine (kernel ∷ kernels) [] all k = absurd all
codes_leave layouts state fine (kernel ∷ kernels) (code ∷ codes) all zero = ap (kernel_meaning layouts state) (all.0.effects state fine)
codes_leave layouts state fine (kernel ∷ kernels) (code ∷ codes) all (suc k) = codes_leave layouts state fine kernels codes all.1 k

-- only a run asks what a run leaves
same_runs : (names : Tables) (layouts : List Shape) (one other : ℕ → Result FlatState RunFault) → ((k : ℕ) → one k ≡ other k) → (state : FlatState) (task : Task) (reading : Reading)
    → made_of names layouts one state task reading ≡ made_of names layouts other state task reading
same_runs names layouts one other same state (Load field) reading = refl
same_runs names layouts one other same state (Run kernel) reading = ap (run_made kernel) (same kernel)
same_runs names layouts one other same state (Dump field) reading = refl
same_runs names layouts one other same state (Image field lo hi) reading = refl
same_runs names layouts one other same state (Stats layout) reading = refl
same_runs names layouts one other same state (Prune layout) reading = refl
same_runs names layouts one other same state (Clear layout) reading = refl

pub compiling_keeps_tasks : CompilingKeepsTasks
compiling_keeps_tasks program compiled compiles state fine task reading =
    ap (λ (names : Tables). made_of names compiled.layouts (λ kernel. after_code compiled.layouts state (slice_get compiled.kernels kernel)) state task reading) compiles.names
    ∙ ap (λ (layouts : List Shape). made_of program.names layouts (λ kernel. after_code layouts state (slice_get compiled.kernels kernel)) state task reading) compiles.layouts
    ∙ same_runs program.names program.layouts (λ kernel. after_code program.layouts state (slice_get compiled.kernels kernel)) (λ kernel. after_kernel program.layouts state (slice_get program.kernels kernel))
    (codes_leave program.layouts state (subst (λ (ls : List Shape). IsFlat ls state) compiles.layouts fine) program.kernels compiled.kernels compiles.kernels) state task reading

-- ---- of the state that stores stand for

stands_flat : (stores : List StoreWords) (flats : List FlatLayout) → AllZip StandsFor stores flats → AreFlatLayouts (map (λ (s : StoreWords). s.shape) stores) flats
stands_flat [] [] all = tt
stands_flat [] (flat ∷ flats) all = absurd all
stands_flat (store ∷ stores) [] all = absurd all
stands_flat (store ∷ stores) (flat ∷ flats) all = (all.0.is_flat, stands_flat stores flats all.1)

state_flat : (layouts : List Shape) (stores : List StoreWords) (state : FlatState) → StandForState layouts stores state → IsFlat layouts state
state_flat layouts stores state stand = subst (λ (ls : List Shape). IsFlat ls state) stand.shapes_are (stands_flat stores state.layouts stand.stand)

-- a task over stores of a compiled program means what it means in a program that is compiled to it
pub task_kept : (program : CheckedProgram) (compiled : CompiledProgram) → Compiles program compiled → (stores : List StoreWords) (state : FlatState) → StandForState compiled.layouts stores state
    → (task : Task) (reading : Reading) → compiled_meaning compiled state task reading ≡ task_meaning program state task reading
task_kept program compiled compiles stores state stand task reading =
    compiling_keeps_tasks program compiled compiles state (state_flat compiled.layouts stores state stand) task reading

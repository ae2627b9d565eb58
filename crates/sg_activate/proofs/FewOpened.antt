-- A store that one worker opened for what was found is open for what is wanted.
use Rattle.std.proofs.Common.{◌≡◌, List, ◌++◌, ap, ◌∙◌, subst}
use Rattle.std.specs.Prelude.{◌↔◌, Option, Result, Err}
use Rattle.std.specs.List.{Contains}
use Rattle.sg_words.specs.declared.memory.Stop.{Stop}
use Rattle.sg_words.specs.declared.memory.Stop.TheVariants as stop
use Rattle.sg_words.specs.Answers.{AnswersAs}
use Rattle.sg_coord.specs.declared.coord.Coord.{Coord}
use Rattle.sg_layout.specs.Closure.{closure}
use Rattle.sg_layout.specs.ClosureLaws.{ClosureIsOfMembers}
use Rattle.sg_layout.specs.Need.{first_full}
use Rattle.sg_layout.specs.NeedLaws.{FullIsOfMembers}
use Rattle.sg_flat.specs.declared.state.FlatLayout.{FlatLayout}
use Rattle.sg_store.specs.StoreWords.{StoreWords}
use Rattle.sg_store.specs.StandsFor.{StandsFor}
use Rattle.sg_activate.specs.Activating.{unless_full}
use Rattle.sg_activate.specs.declared.fault.ActFault.{ActFault}

-- what was answered of the copy and what was found is the answer of the store and what is wanted
pub few_answer : (r now : Result StoreWords (Stop ActFault)) → r ≡ now → (store copy : StoreWords) → copy ≡ store → (active found wanted : List Coord) → FullIsOfMembers store.shape
    → ((at : Coord) → Contains (active ++ found) at ↔ Contains (active ++ wanted) at) → AnswersAs (λ next. tt) r (unless_full (first_full copy.shape (active ++ found)))
    → AnswersAs (λ next. tt) now (unless_full (first_full store.shape (active ++ wanted)))
few_answer r now is store copy same active found wanted law members answer =
    subst (λ (x : Result StoreWords (Stop ActFault)). AnswersAs (λ next. tt) x (unless_full (first_full store.shape (active ++ wanted)))) is
    (subst (λ (m : Result Unit ActFault). AnswersAs (λ next. tt) r m)
    (ap (λ (s : StoreWords). unless_full (first_full s.shape (active ++ found))) same ∙ ap unless_full (law (active ++ found) (active ++ wanted) members)) answer)

-- and so it stands
pub few_stands : (store copy next : StoreWords) → copy ≡ store → (flat : FlatLayout) (found wanted : List Coord) → ClosureIsOfMembers store.shape
    → ((at : Coord) → Contains (flat.active ++ found) at ↔ Contains (flat.active ++ wanted) at) → StandsFor next (record flat { active = closure copy.shape (flat.active ++ found) })
    → StandsFor next (record flat { active = closure store.shape (flat.active ++ wanted) })
few_stands store copy next same flat found wanted law members stands =
    subst (λ (coords : List Coord). StandsFor next (record flat { active = coords }))
    (ap (λ (s : StoreWords). closure s.shape (flat.active ++ found)) same ∙ law (flat.active ++ found) (flat.active ++ wanted) members) stands

-- a refusal, whatever would have been answered else
pub as_err : (e : Stop ActFault) (meaning : Result Unit ActFault) → AnswersAs {A = StoreWords} (λ next. tt) (Err e) meaning → AnswersAs {A = Option StoreWords} (λ next. tt) (Err e) meaning
as_err stop.Memory meaning h = tt
as_err (stop.Refused fault) meaning h = h

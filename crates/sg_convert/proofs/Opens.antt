-- A new store that is opened for parts of a list, in order, is opened for the list.
use Rattle.std.proofs.Common.{◌≡◌, List, [], ◌++◌, Result, Err, sym, ap, ◌∙◌, subst}
use Rattle.sg_words.specs.declared.memory.Stop.{Stop}
use Rattle.sg_words.specs.declared.memory.Stop.TheVariants as stop
use Rattle.sg_words.specs.Answers.{Answers, AnswersAs}
use Rattle.sg_coord.specs.declared.coord.Coord.{Coord}
use Rattle.sg_layout.specs.declared.shape.Shape.{Shape}
use Rattle.sg_layout.specs.Closure.{closure}
use Rattle.sg_layout.specs.ClosureLaws.{ClosureAbsorbs}
use Rattle.sg_layout.specs.Need.{first_full}
use Rattle.sg_layout.specs.NeedLaws.{FullAbsorbs}
use Rattle.sg_flat.specs.State.{opening_layout}
use Rattle.sg_store.specs.StoreWords.{StoreWords}
use Rattle.sg_store.specs.StandsFor.{StandsFor}
use Rattle.sg_store.proofs.Uses.{opening_closes, opening_fills}
use Rattle.sg_activate.specs.declared.fault.ActFault.{ActFault}
use Rattle.sg_convert.specs.steps.Moving.{opened_layout}

pub opened_stands : (to shape : Shape) → ClosureAbsorbs to → shape ≡ to → (coords wanted : List Coord) → wanted ≡ coords → (now : StoreWords)
    → StandsFor now (record (opening_layout to) { active = closure shape ((opening_layout to).active ++ wanted) }) → StandsFor now (opened_layout to coords)
opened_stands to shape absorbs is coords wanted same now stands =
    subst (λ (active : List Coord). StandsFor now (record (opening_layout to) { active = active }))
    (ap (λ (s : Shape). closure s (closure to [] ++ wanted)) is ∙ ap (λ (list : List Coord). closure to (closure to [] ++ list)) same ∙ opening_closes to absorbs coords) stands

pub opened_full : (to shape : Shape) → FullAbsorbs to → shape ≡ to → (coords wanted : List Coord) → wanted ≡ coords → first_full shape ((opening_layout to).active ++ wanted) ≡ first_full to coords
opened_full to shape absorbs is coords wanted same =
    ap (λ (s : Shape). first_full s (closure to [] ++ wanted)) is ∙ ap (λ (list : List Coord). first_full to (closure to [] ++ list)) same ∙ opening_fills to absorbs coords

-- a call that stopped stopped so for whoever passes it on
pub refusal_is : (A : Type 0) (why : Stop ActFault) (one other : Result Unit ActFault) → one ≡ other → Answers (Err why) one → AnswersAs (λ (store : A). tt) (Err why) other
refusal_is A stop.Memory one other same answered = tt
refusal_is A (stop.Refused fault) one other same answered = sym same ∙ answered

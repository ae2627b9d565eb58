use Rattle.std.proofs.Common.{◌≡◌, sym, ap, ◌∙◌}
use Rattle.sg_layout.specs.declared.shape.Kind.TheVariants.{Dense, Bitmasked, Pointer, Hash, Dynamic}
use Rattle.sg_activate.specs.declared.descent.level.Level.{Level}
use Rattle.sg_activate.specs.steps.DescentWalk.{level_at}
use Rattle.sg_activate.proofs.DescentTaken.{none_taken}
use Rattle.sg_activate.proofs.descent.ended.Ended.taken_at.Goals as goal

pub numbers_at-requires-clause-pointer : goal.numbers_at-requires-clause-pointer
numbers_at-requires-clause-pointer c = sym (ap (λ (l : Level). l.kind) c.level-level.ensures) ∙ c.in-Pointer.is

pub returns-in-Dense-clause-taken : goal.returns-in-Dense-clause-taken
returns-in-Dense-clause-taken c =
    let e = c.args.self.now in
    let kind : (level_at e.levels c.args.index).kind ≡ Dense = sym (ap (λ (l : Level). l.kind) c.level-level.ensures) ∙ c.in-Dense.is in
    none_taken e.start e.base e.levels e.levels_are e.links c.args.index c.requires.there _ (λ pointer. let no : Dense ≡ Pointer = sym kind ∙ pointer in cc)

pub returns-in-Bitmasked-clause-taken : goal.returns-in-Bitmasked-clause-taken
returns-in-Bitmasked-clause-taken c =
    let e = c.args.self.now in
    let kind : (level_at e.levels c.args.index).kind ≡ Bitmasked = sym (ap (λ (l : Level). l.kind) c.level-level.ensures) ∙ c.in-Bitmasked.is in
    none_taken e.start e.base e.levels e.levels_are e.links c.args.index c.requires.there _ (λ pointer. let no : Bitmasked ≡ Pointer = sym kind ∙ pointer in cc)

pub returns-in-Hash-clause-taken : goal.returns-in-Hash-clause-taken
returns-in-Hash-clause-taken c =
    let e = c.args.self.now in
    let kind : (level_at e.levels c.args.index).kind ≡ Hash = sym (ap (λ (l : Level). l.kind) c.level-level.ensures) ∙ c.in-Hash.is in
    none_taken e.start e.base e.levels e.levels_are e.links c.args.index c.requires.there _ (λ pointer. let no : Hash ≡ Pointer = sym kind ∙ pointer in cc)

pub returns-in-Dynamic-clause-taken : goal.returns-in-Dynamic-clause-taken
returns-in-Dynamic-clause-taken c =
    let e = c.args.self.now in
    let kind : (level_at e.levels c.args.index).kind ≡ Dynamic = sym (ap (λ (l : Level). l.kind) c.level-level.ensures) ∙ c.in-Dynamic.is in
    none_taken e.start e.base e.levels e.levels_are e.links c.args.index c.requires.there _ (λ pointer. let no : Dynamic ≡ Pointer = sym kind ∙ pointer in cc)

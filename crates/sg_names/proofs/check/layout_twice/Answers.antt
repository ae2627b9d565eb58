use Rattle.std.proofs.Common.{◌∙◌, sym, ap, map, refl}
use Rattle.sg_names.specs.Names.{has_repeat}
use Rattle.sg_names.proofs.Lists.{or_first, or_second}
use Rattle.sg_names.proofs.Declaring.{declares_twice-Layout, same_names}
use Rattle.sg_names.proofs.check.layout_twice.Goals as goal

pub returns-then-names_twice : goal.returns-then-names_twice
returns-then-names_twice c =
    sym c.if-names_twice.true ∙ or_first _ _ _ _ (declares_twice-Layout c.args.names.now c.args.decl.now) c.names_twice.ensures c.if-names_twice.true

pub returns-then-branch : goal.returns-then-branch
returns-then-branch c =
    or_second _ _ _ _ _ (declares_twice-Layout c.args.names.now c.args.decl.now) c.names_twice.ensures c.if-names_twice.false
    (or_first _ _ _ _ refl (c.in_ok-has_repeat.ensures ∙ ap (λ decls. has_repeat (map (λ field. field.name) decls)) c.as_slice.ensures) c.if-branch.true)

pub returns-in_ok-has_repeat-2 : goal.returns-in_ok-has_repeat-2
returns-in_ok-has_repeat-2 c =
    or_second _ _ _ _ _ (declares_twice-Layout c.args.names.now c.args.decl.now) c.names_twice.ensures c.if-names_twice.false
    (or_second _ _ _ _ _ refl (c.in_ok-has_repeat.ensures ∙ ap (λ decls. has_repeat (map (λ field. field.name) decls)) c.as_slice.ensures) c.if-branch.false
    (c.in_ok-has_repeat-2.ensures ∙ (ap has_repeat (same_names c.as_slice-else-branch.result.now) ∙ ap has_repeat c.as_slice-else-branch.ensures)))

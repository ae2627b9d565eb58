use Rattle.std.proofs.Common.{◌∙◌, sym, ap, ◌+◌, length}
use Rattle.sg_ast.specs.declared.program.Item.TheVariants as item
use Rattle.sg_names.specs.Declares.{declare}
use Rattle.sg_names.specs.Names.{first_past, too_many}
use Rattle.sg_names.proofs.Declaring.{too_many-Layout}
use Rattle.sg_names.proofs.names.Names.too_many.Goals as goal

pub returns-in-Layout : goal.returns-in-Layout
returns-in-Layout c =
    c.first_past.ensures
    ∙ (ap (λ decls. first_past (c.len-layouts.result + 1) (c.len-fields.result + length decls) c.len-kernels.result c.args.commands) c.as_slice-more.ensures
    ∙ (too_many-Layout (record { constants = c.self.inside.constants; layouts = c.self.inside.layouts; fields = c.self.inside.fields; kernels = c.self.inside.kernels }) c.in-Layout.decl c.len-layouts.result c.len-fields.result c.len-kernels.result c.args.commands c.len-layouts.ensures.value c.len-fields.ensures.value c.len-kernels.ensures.value
    ∙ (ap (λ tables. too_many (declare tables (item.Layout c.in-Layout.decl)) c.args.commands) c.self.view_is
    ∙ ap (λ given. too_many (declare c.args.self.now given) c.args.commands) (sym c.in-Layout.is))))

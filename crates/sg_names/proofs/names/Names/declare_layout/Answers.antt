use Rattle.std.proofs.Common.{◌∙◌, sym, ap, subst, arith, find, map, length}
use Rattle.sg_ast.specs.Token.{same_name}
use Rattle.sg_names.specs.Tables.{Tables}
use Rattle.sg_names.specs.Names.{has_repeat}
use Rattle.sg_names.proofs.Declaring.{new_layout, AreNew, fields-Layout}
use Rattle.sg_names.proofs.names.Names.declare_layout.Goals as goal

pub push-requires-clause-new : goal.push-requires-clause-new
push-requires-clause-new c =
    ap (λ name. find (λ named. same_name name named.name) c.self.inside.layouts) c.in_ok-name.ensures
    ∙ (ap (λ (tables : Tables). find (λ named. same_name c.args.decl.now.name named.name) tables.layouts) c.self.view_is
    ∙ (new_layout c.args.self.now c.args.decl.now c.requires.once).name.layouts)

pub push_fields-requires-clause-new : goal.push_fields-requires-clause-new
push_fields-requires-clause-new c =
    subst (AreNew c.self.inside.fields) (sym c.as_slice.ensures)
    (subst (λ (tables : Tables). AreNew tables.fields c.args.decl.now.fields) (sym c.self.view_is) (new_layout c.args.self.now c.args.decl.now c.requires.once).fields)

pub push_fields-requires-clause-distinct : goal.push_fields-requires-clause-distinct
push_fields-requires-clause-distinct c =
    ap (λ decls. has_repeat (map (λ decl. decl.name) decls)) c.as_slice.ensures ∙ (new_layout c.args.self.now c.args.decl.now c.requires.once).distinct

pub push_fields-requires-clause-room : goal.push_fields-requires-clause-room
push_fields-requires-clause-room c =
    let fields = ap (λ (tables : Tables). length tables.fields) c.self.view_is in
    let decls = ap length c.as_slice.ensures in
    omega (arith, fields, decls, fields-Layout c.args.self.now c.args.decl.now, c.requires.few.fields)

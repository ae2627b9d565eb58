use Rattle.std.proofs.Common.{◌∙◌, sym, ap, find}
use Rattle.sg_ast.specs.Token.{same_name}
use Rattle.sg_names.specs.Tables.{Tables}
use Rattle.sg_names.specs.Names.{declares_twice}
use Rattle.sg_names.proofs.Declaring.{new_kernel}
use Rattle.sg_names.proofs.names.Names.declare.Goals as goal

pub push-requires-clause-new : goal.push-requires-clause-new
push-requires-clause-new c =
    ap (λ name. find (same_name name) c.self.inside.kernels) c.in_ok-copy-in-Kernel.ensures
    ∙ (ap (λ (tables : Tables). find (same_name c.in-Kernel.decl.name) tables.kernels) c.self.view_is
    ∙ (new_kernel c.args.self.now c.in-Kernel.decl (ap (declares_twice c.args.self.now) (sym c.in-Kernel.is) ∙ c.requires.once)).kernels)

-- What the words on commands are at each variant, and cases over the variants.
use Rattle.std.specs.Prelude.{◌≡◌, ℕ, ℤ, false, ◌&&◌, List, [], ◌∷◌, ◌++◌, map}
use Rattle.std.proofs.Common.{ap}
use Rattle.sg_ast.specs.declared.token.Name.{Name}
use Rattle.sg_ast.specs.declared.token.Word.TheVariants as w
use Rattle.sg_ast.specs.declared.token.Sign.TheVariants as s
use Rattle.sg_ast.specs.declared.token.Token.TheVariants as t
use Rattle.sg_ast.specs.declared.command.Command.{Command, out-Command, roll-Command, roll-out-Command}
use Rattle.sg_ast.specs.declared.command.Command.TheVariants as command
use Rattle.sg_ast.specs.declared.command.Command.TheVariants.{rolls-Load, rolls-Run, rolls-Times, rolls-Dump, rolls-Image, rolls-Stats, rolls-Prune, rolls-Clear, outs-Load, outs-Run, outs-Times, outs-Dump, outs-Image, outs-Stats, outs-Prune, outs-Clear}
use Rattle.sg_ast.specs.declared.command.Command.TheOpen as f
use Rattle.sg_ast.specs.declared.command.Command.TheOpen.{Command-F}
use Rattle.sg_ast.specs.Token.{is_name, is_number}
use Rattle.sg_ast.specs.Stmt.{in_braces}
use Rattle.sg_ast.specs.Command.{command_tokens, command_step, named_tokens, bound_tokens}
use Rattle.sg_ast.specs.Grammar.{one_or_more, is_bound, is_simple, is_simple_layer, is_command, is_command_layer}
use Rattle.sg_ast.proofs.Uses.Folds.{fold-Load_command, fold-Run_command, fold-Times_command, fold-Dump_command, fold-Image_command, fold-Stats_command, fold-Prune_command, fold-Clear_command}

-- the tokens
pub command_tokens-Load : (field : Name) → command_tokens (command.Load field) ≡ named_tokens w.Load field
command_tokens-Load field = fold-Load_command command_step field

pub command_tokens-Run : (kernel : Name) → command_tokens (command.Run kernel) ≡ named_tokens w.Run kernel
command_tokens-Run kernel = fold-Run_command command_step kernel

pub command_tokens-Times : (number : ℕ) (body : List Command) → command_tokens (command.Times number body) ≡ t.Word w.Times ∷ t.Number number false ∷ in_braces (map command_tokens body)
command_tokens-Times number body = fold-Times_command command_step number body

pub command_tokens-Dump : (field : Name) → command_tokens (command.Dump field) ≡ named_tokens w.Dump field
command_tokens-Dump field = fold-Dump_command command_step field

pub command_tokens-Image : (field : Name) (lo hi : ℤ) → command_tokens (command.Image field lo hi) ≡ t.Word w.Image ∷ t.Name field ∷ (bound_tokens lo ++ (bound_tokens hi ++ t.Sign s.Semicolon ∷ []))
command_tokens-Image field lo hi = fold-Image_command command_step field lo hi

pub command_tokens-Stats : (layout : Name) → command_tokens (command.Stats layout) ≡ named_tokens w.Stats layout
command_tokens-Stats layout = fold-Stats_command command_step layout

pub command_tokens-Prune : (layout : Name) → command_tokens (command.Prune layout) ≡ named_tokens w.Prune layout
command_tokens-Prune layout = fold-Prune_command command_step layout

pub command_tokens-Clear : (layout : Name) → command_tokens (command.Clear layout) ≡ named_tokens w.Clear layout
command_tokens-Clear layout = fold-Clear_command command_step layout

-- whether it is a simple one of the grammar's
pub is_simple-Load : (field : Name) → is_simple (command.Load field) ≡ is_name field
is_simple-Load field = ap is_simple_layer (outs-Load field)

pub is_simple-Run : (kernel : Name) → is_simple (command.Run kernel) ≡ is_name kernel
is_simple-Run kernel = ap is_simple_layer (outs-Run kernel)

pub is_simple-Times : (number : ℕ) (body : List Command) → is_simple (command.Times number body) ≡ false
is_simple-Times number body = ap is_simple_layer (outs-Times number body)

pub is_simple-Dump : (field : Name) → is_simple (command.Dump field) ≡ is_name field
is_simple-Dump field = ap is_simple_layer (outs-Dump field)

pub is_simple-Image : (field : Name) (lo hi : ℤ) → is_simple (command.Image field lo hi) ≡ (is_name field && (is_bound lo && is_bound hi))
is_simple-Image field lo hi = ap is_simple_layer (outs-Image field lo hi)

pub is_simple-Stats : (layout : Name) → is_simple (command.Stats layout) ≡ is_name layout
is_simple-Stats layout = ap is_simple_layer (outs-Stats layout)

pub is_simple-Prune : (layout : Name) → is_simple (command.Prune layout) ≡ is_name layout
is_simple-Prune layout = ap is_simple_layer (outs-Prune layout)

pub is_simple-Clear : (layout : Name) → is_simple (command.Clear layout) ≡ is_name layout
is_simple-Clear layout = ap is_simple_layer (outs-Clear layout)

-- whether it is one of the grammar's
pub is_command-Load : (field : Name) → is_command (command.Load field) ≡ is_name field
is_command-Load field = ap is_command_layer (outs-Load field)

pub is_command-Run : (kernel : Name) → is_command (command.Run kernel) ≡ is_name kernel
is_command-Run kernel = ap is_command_layer (outs-Run kernel)

pub is_command-Times : (number : ℕ) (body : List Command) → is_command (command.Times number body) ≡ (is_number number false && one_or_more is_simple body)
is_command-Times number body = ap is_command_layer (outs-Times number body)

pub is_command-Dump : (field : Name) → is_command (command.Dump field) ≡ is_name field
is_command-Dump field = ap is_command_layer (outs-Dump field)

pub is_command-Image : (field : Name) (lo hi : ℤ) → is_command (command.Image field lo hi) ≡ (is_name field && (is_bound lo && is_bound hi))
is_command-Image field lo hi = ap is_command_layer (outs-Image field lo hi)

pub is_command-Stats : (layout : Name) → is_command (command.Stats layout) ≡ is_name layout
is_command-Stats layout = ap is_command_layer (outs-Stats layout)

pub is_command-Prune : (layout : Name) → is_command (command.Prune layout) ≡ is_name layout
is_command-Prune layout = ap is_command_layer (outs-Prune layout)

pub is_command-Clear : (layout : Name) → is_command (command.Clear layout) ≡ is_name layout
is_command-Clear layout = ap is_command_layer (outs-Clear layout)

-- all of them, to compute with
pub ruleset command_equations = (
  command_tokens-Load,
  command_tokens-Run,
  command_tokens-Times,
  command_tokens-Dump,
  command_tokens-Image,
  command_tokens-Stats,
  command_tokens-Prune,
  command_tokens-Clear,
  is_simple-Load,
  is_simple-Run,
  is_simple-Times,
  is_simple-Dump,
  is_simple-Image,
  is_simple-Stats,
  is_simple-Prune,
  is_simple-Clear,
  is_command-Load,
  is_command-Run,
  is_command-Times,
  is_command-Dump,
  is_command-Image,
  is_command-Stats,
  is_command-Prune,
  is_command-Clear,
)

-- a claim on every command, from the claim on each variant
module _ (P : Command → Type 0)
    (on_load : (field : Name) → P (command.Load field))
    (on_run : (kernel : Name) → P (command.Run kernel))
    (on_times : (number : ℕ) (body : List Command) → P (command.Times number body))
    (on_dump : (field : Name) → P (command.Dump field))
    (on_image : (field : Name) (lo hi : ℤ) → P (command.Image field lo hi))
    (on_stats : (layout : Name) → P (command.Stats layout))
    (on_prune : (layout : Name) → P (command.Prune layout))
    (on_clear : (layout : Name) → P (command.Clear layout)) where
  by_layer : (layer : Command-F Command) → P (roll-Command layer)
  by_layer (f.Load field) = rw (rolls-Load field) (on_load field)
  by_layer (f.Run kernel) = rw (rolls-Run kernel) (on_run kernel)
  by_layer (f.Times number body) = rw (rolls-Times number body) (on_times number body)
  by_layer (f.Dump field) = rw (rolls-Dump field) (on_dump field)
  by_layer (f.Image field lo hi) = rw (rolls-Image field lo hi) (on_image field lo hi)
  by_layer (f.Stats layout) = rw (rolls-Stats layout) (on_stats layout)
  by_layer (f.Prune layout) = rw (rolls-Prune layout) (on_prune layout)
  by_layer (f.Clear layout) = rw (rolls-Clear layout) (on_clear layout)

  pub by_command_variant : (given : Command) → P given
  by_command_variant given = rw (← roll-out-Command given) (by_layer (out-Command given))

-- Two files that differ in the nodes of their layouts alone, and two that don't.
use Rattle.std.proofs.Common.{◌≡◌, ℕ, List, [], ◌∷◌, map, Result, Ok, refl, sym, ap, ◌∙◌, arith}
use Rattle.std.specs.Prelude.{pos, codes}
use Rattle.sg_words.specs.declared.operators.Ty.TheVariants as ty
use Rattle.sg_coord.specs.Bounds.{Bounds}
use Rattle.sg_ast.specs.Token.{is_name, is_reserved}
use Rattle.sg_lexer.specs.Alphabet.{reserved_word, sign_at}
use Rattle.sg_lexer.specs.Lexing.{token_list, piece, run_token, name_token, number_token, number_as}
use Rattle.sg_parser.specs.Front.{comma_list_from, list_to_end_from}
use Rattle.sg_parser.specs.Parsed.{program_from}
use Rattle.sg_parser.specs.ReadItem.{read_item, read_layout, layout_head, layout_body, read_node, node_head, read_axis, read_field, next_whole, read_bounds}
use Rattle.sg_layout.specs.declared.shape.Kind.TheVariants.{Dense, Pointer}
use Rattle.sg_layout.specs.declared.shape.NodeShape.{NodeShape}
use Rattle.sg_layout.specs.declared.shape.Shape.{Shape}
use Rattle.sg_layout.specs.Axes.{bounds_of_shape}
use Rattle.sg_names.specs.Tables.{Tables}
use Rattle.sg_session.specs.declared.refusal.Refusal.{Refusal}
use Rattle.sg_session.specs.Compiled.{CheckedProgram}
use Rattle.sg_session.specs.Compiling.{spelled_program, compiled_program, compiled_tree, compiled_with, layouts_of, kernels_of}
use Rattle.sg_session.specs.Independence.{AreSameUpToNodes}

-- a layout `A` over a line, with a field `x`
abbrev names : Tables
names = record {
  constants = [];
  layouts = record { name = record { text = codes "A" }; axes = 1 } ∷ [];
  fields = record { name = record { text = codes "x" }; at = record { number = 0; layout = 0; place = 0; ty = ty.I32 } } ∷ [];
  kernels = [];
}

abbrev of_nodes : List NodeShape → CheckedProgram
of_nodes nodes = record { names = names; layouts = record { axes = 1; nodes = nodes; fields = ty.I32 ∷ [] } ∷ []; kernels = []; neutral = []; commands = [] }

abbrev dense : ℕ → NodeShape
dense extent = record { kind = Dense; sizes = record { axis = 1; extent = pos extent } ∷ []; cap = pos 0; chunk = pos 0 }

-- 4 points as a whole, the same in blocks of 2, and 8 points
abbrev whole : List ℕ
whole = codes "layout A(i) { dense(i: 4); field x: i32; }"

abbrev blocks : List ℕ
blocks = codes "layout A(i) { pointer(i: 2) cap 2; dense(i: 2); field x: i32; }"

abbrev longer : List ℕ
longer = codes "layout A(i) { dense(i: 8); field x: i32; }"

abbrev in_blocks : List NodeShape
in_blocks = record { kind = Pointer; sizes = record { axis = 1; extent = pos 2 } ∷ []; cap = pos 2; chunk = pos 0 } ∷ dense 2 ∷ []

whole_is : compiled_program whole ≡ Ok (of_nodes (dense 4 ∷ []))
unfolding compiled_program spelled_program compiled_tree compiled_with layouts_of kernels_of token_list piece run_token name_token number_token number_as reserved_word sign_at is_name is_reserved program_from read_item read_layout layout_head layout_body read_node node_head read_axis read_field read_bounds next_whole comma_list_from list_to_end_from
whole_is = refl

longer_is : compiled_program longer ≡ Ok (of_nodes (dense 8 ∷ []))
unfolding compiled_program spelled_program compiled_tree compiled_with layouts_of kernels_of token_list piece run_token name_token number_token number_as reserved_word sign_at is_name is_reserved program_from read_item read_layout layout_head layout_body read_node node_head read_axis read_field read_bounds next_whole comma_list_from list_to_end_from
longer_is = refl

-- the whole line and the one in blocks are alike
pub alike : AreSameUpToNodes whole blocks (of_nodes (dense 4 ∷ [])) (of_nodes in_blocks)
unfolding compiled_program spelled_program compiled_tree compiled_with layouts_of kernels_of token_list piece run_token name_token number_token number_as reserved_word sign_at is_name is_reserved program_from read_item read_layout layout_head layout_body read_node node_head read_axis read_field read_bounds next_whole comma_list_from list_to_end_from
alike = record {
  one = _;
  other = _;
  one_is = refl;
  other_is = refl;
  items = ((refl, refl, refl), tt);
  first_is = refl;
  second_is = refl;
  extents = refl;
}

-- the whole line and the longer one aren't
abbrev first_extent : List Bounds → ℕ
first_extent [] = 0
first_extent (bounds ∷ more) = bounds.a

pub not_alike : (first second : CheckedProgram) → AreSameUpToNodes whole longer first second → ⊥
not_alike first second same =
    let one : of_nodes (dense 4 ∷ []) ≡ first = ok_same (of_nodes (dense 4 ∷ [])) first (sym whole_is ∙ same.first_is) in
    let other : of_nodes (dense 8 ∷ []) ≡ second = ok_same (of_nodes (dense 8 ∷ [])) second (sym longer_is ∙ same.second_is) in
    let extents : 4 ≡ 8 = ap (λ (p : CheckedProgram). first_extent (map bounds_of_shape p.layouts)) one ∙ ap first_extent same.extents
    ∙ sym (ap (λ (p : CheckedProgram). first_extent (map bounds_of_shape p.layouts)) other) in
    absurd (omega (arith, extents))
  where
    ok_same : (a b : CheckedProgram) → ◌≡◌ {A = Result CheckedProgram Refusal} (Ok a) (Ok b) → a ≡ b
    ok_same a b e = cc

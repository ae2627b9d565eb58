-- What the code knows of a kernel before it tests the rules, as the facts that the rules look at.
use Rattle.std.specs.Prelude.{ℕ, false, if◌then◌else◌, List, [], ◌∷◌, get_or, Option, Some, None}
use Rattle.std.specs.List.{list_any}
use Rattle.sg_types.specs.declared.typed.TypedExpr.{TypedExpr}
use Rattle.sg_types.specs.declared.typed.TypedStmt.{TypedStmt}
use Rattle.sg_admit.specs.declared.marks.Marks.{Marks}
use Rattle.sg_admit.specs.Clean.{Unclean}
use Rattle.sg_admit.specs.Bounds.{is_constant, constant_word}
use Rattle.sg_admit.specs.Rules.{Facts, is_of_field, first_way, has_own, has_acc, writes_layout}

-- what isn't clean by the marks: the fields that are written, and the variables marked dirty
abbrev pub unclean_of : Marks → Unclean
unclean_of marks = record {
  fields = λ layout place. list_any (is_of_field layout place) marks.ways;
  vars = λ var. get_or marks.dirty var false;
}

-- what the rules look at, as the marks tell it
abbrev pub marked_facts : Marks → Facts
marked_facts marks = record {
  first = first_way marks.ways;
  own = has_own marks.ways;
  acc = has_acc marks.ways;
  written = writes_layout marks.ways;
  vars = marks.vars;
  walked = marks.walked;
  unclean = unclean_of marks;
}

-- a word for a constant expression alone
abbrev pub word_if_constant : TypedExpr → Option ℕ
word_if_constant expr = if is_constant expr then Some (constant_word expr) else None

-- what is kept of a statement, as a list
abbrev pub kept_list : Option TypedStmt → List TypedStmt
kept_list None = []
kept_list (Some stmt) = stmt ∷ []

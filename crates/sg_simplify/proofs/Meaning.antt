-- What the pass puts out writes and wants what the given code does, in every iteration, and names its accesses.
use Rattle.std.specs.Prelude.{◌≡◌, ℕ, List, Contains}
use Rattle.std.proofs.Common.{sym, ap, subst, ◌∙◌}
use Rattle.sg_words.specs.declared.operators.Ty.{Ty}
use Rattle.sg_words.specs.declared.operators.BinOp.{BinOp}
use Rattle.sg_words.specs.declared.operators.UnOp.{UnOp}
use Rattle.sg_words.specs.WordLaws.{WordHasNumber, NumberHasWord, SumIsModular, DifferenceIsModular, ProductIsModular, AppliedIsWord, AppliedUnIsWord, MulqIsWord}
use Rattle.sg_coord.specs.declared.coord.Coord.{Coord}
use Rattle.sg_layout.specs.declared.shape.Shape.{Shape}
use Rattle.sg_layout.specs.ClosureLaws.{ClosureIsInside}
use Rattle.sg_flat.specs.declared.effects.Domain.{Domain}
use Rattle.sg_flat.specs.declared.state.FlatState.{FlatState}
use Rattle.sg_flat.specs.Domain.{domain_points}
use Rattle.sg_flat.specs.Laws.{BoxIsRanges}
use Rattle.sg_flat.specs.State.{IsFlat}
use Rattle.sg_ir.specs.declared.code.Inst.{Inst}
use Rattle.sg_ir.specs.Runs.{Seen, iteration_start, iteration}
use Rattle.sg_ir.specs.Named.{IsNamed, AreNamed}
use Rattle.sg_ir.specs.Blocks.{Block, block_of}
use Rattle.sg_ir.specs.SpanLaws.{StateIsWords}
use Rattle.sg_ir.specs.Scoped.{RunMoment, first_room, run}
use Rattle.sg_ir.specs.Flat.{moment_of}
use Rattle.sg_ir.specs.InScope.{nothing, IsScoped}
use Rattle.sg_ir.proofs.Uses.{op_exact, step_exact}
use Rattle.sg_ir.proofs.Uses.{lies_whole, bin_lies, range_lies, op_lies}
use Rattle.sg_ir.proofs.Uses.{sound}
use Rattle.sg_ir.proofs.Uses.{values_low, first_fits}
use Rattle.sg_ir.proofs.Uses.{forms_alike}
use Rattle.sg_simplify.specs.steps.Pass.{given_of, first_pass, vars_of, simple}
use Rattle.sg_simplify.specs.steps.Serves.{Laws, NamesAll}
use Rattle.sg_simplify.specs.steps.Ruled.{IsRuled}
use Rattle.sg_simplify.proofs.Whole.{simple_keeps, simple_scoped}
use Rattle.sg_simplify.proofs.Naming.{told_named, named_told}

module _
    (number_law : (t : Ty) (w : ℕ) → WordHasNumber t w)
    (word_law : (t : Ty) (z : _) → NumberHasWord t z)
    (sum_law : (t : Ty) (a b : ℕ) → SumIsModular t a b)
    (difference_law : (t : Ty) (a b : ℕ) → DifferenceIsModular t a b)
    (product_law : (t : Ty) (a b : ℕ) → ProductIsModular t a b)
    (applied_law : (how : BinOp) (t : Ty) (a b : ℕ) → AppliedIsWord how t a b)
    (un_law : (how : UnOp) (a : ℕ) → AppliedUnIsWord how a)
    (mulq_law : (a b s : ℕ) → MulqIsWord a b s)
    (inside_law : (shape : Shape) → ClosureIsInside shape)
    (box_law : (lo hi : Coord) → BoxIsRanges lo hi) where
  laws_of : (seen : Seen) → StateIsWords seen → Laws seen
  laws_of seen words = record {
    same_ops = op_exact;
    same_steps = step_exact;
    all_words = lies_whole number_law word_law sum_law difference_law product_law applied_law un_law mulq_law;
    ranges = range_lies number_law word_law sum_law difference_law product_law applied_law un_law mulq_law;
    runs_fit = λ block spans room now good regs fits. (sound number_law word_law sum_law difference_law product_law applied_law un_law mulq_law seen words block spans room now good regs fits).fits;
    wide = λ span word lies. lies_whole number_law word_law sum_law difference_law product_law applied_law un_law mulq_law word lies.is_word;
    bins = bin_lies number_law word_law sum_law difference_law product_law applied_law un_law mulq_law;
    words = op_lies number_law word_law sum_law difference_law product_law applied_law un_law mulq_law seen words;
  }

  -- the same told, and accesses named
  pub record Tells (seen : Seen) (given made : List Inst) : Type 0 where
    pub writes : (iteration seen made).writes ≡ (iteration seen given).writes
    pub wants : (iteration seen made).wants ≡ (iteration seen given).wants
    pub named : AreNamed seen.shapes (iteration seen made).accesses

  pub simple_tells : (shapes : List Shape) (domain : Domain) (types made_types : List Ty) (given made : List Inst)
      → block_of made_types made ≡ simple shapes domain types (block_of types given)
      → IsRuled shapes (given_of shapes domain types (block_of types given)).roots (given_of shapes domain types (block_of types given)).single (vars_of (given_of shapes domain types (block_of types given)) first_pass) nothing (block_of types given)
      → IsNamed shapes domain given
      → (state : FlatState) → IsFlat shapes state → (at : Coord) → Contains (domain_points state domain) at
      → Tells (record { shapes = shapes; state = state; at = at }) given made
  simple_tells shapes domain types made_types given made is ruled named state flat at has =
      let seen : Seen = record { shapes = shapes; state = state; at = at } in
      let block = block_of types given in
      let start = moment_of (iteration_start seen) in
      let laws = laws_of seen (values_low shapes state.layouts flat) in
      let fits = first_fits number_law word_law sum_law difference_law product_law applied_law un_law mulq_law inside_law box_law shapes domain block state flat at has in
      let good = simple_keeps seen laws domain types block start ruled fits (told_named seen types given ruled.scoped (named state flat at has)) in
      let made_scoped : IsScoped nothing (block_of made_types made) = subst (λ (b : Block). IsScoped nothing b) (sym is) (simple_scoped shapes domain types block ruled) in
      let made_names : NamesAll seen (block_of made_types made) first_room start = subst (λ (b : Block). NamesAll seen b first_room start) (sym is) good.names in
      let first = forms_alike seen types given ruled.scoped in
      let second = forms_alike seen made_types made made_scoped in
      let runs : run seen (block_of made_types made) first_room start ≡ run seen block first_room start = ap (λ (b : Block). run seen b first_room start) is ∙ good.runs in
      record {
        writes = second.writes ∙ (ap (λ (m : RunMoment). m.writes) runs ∙ sym first.writes);
        wants = second.wants ∙ (ap (λ (m : RunMoment). m.wants) runs ∙ sym first.wants);
        named = named_told seen made_types made made_scoped made_names;
      }

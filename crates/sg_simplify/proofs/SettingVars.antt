-- What the pass puts out sets each variable as often as the given code, so that the same operations are pure, and it is shared.
use Rattle.std.specs.Prelude.{◌≡◌, refl, ℕ, suc, ◌+◌, ◌==◌, nat_le, Bool, true, false, not, ◌&&◌, if◌then◌else◌, List, [], ◌∷◌, length, map, slice_get, Option, Some, None}
use Rattle.std.specs.List.{list_any}
use Rattle.std.specs.Map.{lookup}
use Rattle.std.proofs.Common.{ap, ◌∙◌}
use Rattle.sg_words.specs.declared.operators.Ty.{Ty}
use Rattle.sg_words.specs.declared.operators.Ty.TheVariants as ty
use Rattle.sg_layout.specs.declared.shape.NodeShape.{NodeShape}
use Rattle.sg_layout.specs.declared.shape.Shape.{Shape}
use Rattle.sg_layout.specs.Axes.{bounds_of_shape, extent_in, extent_over}
use Rattle.sg_flat.specs.declared.effects.Domain.{Domain}
use Rattle.sg_ir.specs.declared.op.Op.{Op}
use Rattle.sg_ir.specs.declared.op.Op.TheVariants as op
use Rattle.sg_ir.specs.declared.op.Step.{Step}
use Rattle.sg_ir.specs.declared.op.Step.TheVariants as step
use Rattle.sg_ir.specs.Blocks.{sight_op, Block, End, Word, Spot, Cell, Do, Branch, Loop, SetVar, WriteOwn, Contribute, Wish}
use Rattle.sg_ir.specs.Span.{sets}
use Rattle.sg_ir.specs.Shared.{same_op, same_step, is_pure, is_single, shares, is_shared}
use Rattle.sg_ir.specs.Trimmed.{is_within}
use Rattle.sg_ir.specs.Places.{extents_in}
use Rattle.sg_ir.proofs.Uses.{op_exact}
use Rattle.sg_simplify.specs.steps.Pass.{Given, Pass, Next, Making, made_name, with_name, next_with_reg, next_with_place, given_type, span_in, span_of, renamed, and_op, and_step, put_in_front, set_word, fresh, taken_at, looked_up, operand_again, plainest, taken_or, taken, numbered, stepped_at, stepped, check_at, checks_made, offset_made, offset, descent_of, descended, placed_in, place_made, looped, simplified, given_of, first_pass, first_next, simple, layout_seen}
use Rattle.sg_simplify.proofs.Sharing.{simplified_shares}

word_sets : (var n : ℕ) (how : Op) (index : List ℕ) (rest : Block) → sets var (set_word n how index rest) ≡ sets var rest
word_sets var n (op.Const word truth) index rest = refl
word_sets var n (op.Var x) index rest = refl
word_sets var n (op.Bin how kind a b) index rest = refl
word_sets var n (op.Un how kind a) index rest = refl
word_sets var n (op.Mulq a b s) index rest = refl
word_sets var n (op.Extract div size from) index rest = refl
word_sets var n (op.Offset high size low) index rest = refl
word_sets var n (op.Read place layout field) index rest = refl
word_sets var n (op.Active place) index rest = refl
word_sets var n (op.OwnRead layout field) index rest = refl

module _ (given : Given) (var : ℕ) where
  -- what follows sets the variable so often
  abbrev GoesSetting : ℕ → (ℕ → Making) → Type 0
  GoesSetting count go = (t : ℕ) (known : Pass) (next : Next) → sets var (go t known next).0 ≡ count

  fresh_count : (count : ℕ) (type : Ty) (how : Op) (index : List ℕ) (go : ℕ → Making) → GoesSetting count go → (known : Pass) (next : Next) → sets var (fresh given type how index go known next).0 ≡ count
  fresh_count count type how index go goes known next = word_sets var (length next.spans) how index _ ∙ goes (length next.spans) known (next_with_reg type (span_of given known next how) next)

  looked_up_count : (count : ℕ) (type : Ty) (how : Op) (index : List ℕ) (go : ℕ → Making) → GoesSetting count go → (known : Pass) (next : Next) → sets var (looked_up given type how index go known next).0 ≡ count
  looked_up_count count type how index go goes known next = by_found (lookup (same_op how) known.ops)
    where
      by_found : (o : Option ℕ) → sets var (taken_at given type how index go o known next).0 ≡ count
      by_found (Some t) = goes t known next
      by_found None = word_sets var (length next.spans) how index _ ∙ goes (length next.spans) (and_op how (length next.spans) known) (next_with_reg type (span_of given known next how) next)

  taken_count : (count : ℕ) (type : Ty) (how : Op) (index : List ℕ) (go : ℕ → Making) → GoesSetting count go → (known : Pass) (next : Next) → sets var (taken given type how index go known next).0 ≡ count
  taken_count count type how index go goes known next = by_operand (operand_again next how)
    where
      by_operand : (o : Option ℕ) → sets var (taken_or given type how index go o known next).0 ≡ count
      by_operand (Some t) = goes t known next
      by_operand None = looked_up_count count type (plainest type how) index go goes known next

  numbered_count : (count : ℕ) (pure : Bool) (type : Ty) (how : Op) (go : ℕ → Making) → GoesSetting count go → (known : Pass) (next : Next) → sets var (numbered pure given type how go known next).0 ≡ count
  numbered_count count true type how go goes known next = taken_count count type how [] go goes known next
  numbered_count count false type how go goes known next = fresh_count count type how [] go goes known next

  stepped_count : (count : ℕ) (how : Step) (go : ℕ → Making) → GoesSetting count go → (known : Pass) (next : Next) → sets var (stepped how go known next).0 ≡ count
  stepped_count count how go goes known next = by_found (lookup (same_step how) known.steps)
    where
      by_found : (o : Option ℕ) → sets var (stepped_at how go o known next).0 ≡ count
      by_found (Some t) = goes t known next
      by_found None = goes next.places (and_step how next.places known) (next_with_place next)

  checked_count : (count : ℕ) (extents : List ℕ) (axis : ℕ) (index : List ℕ) (place : ℕ) (go : ℕ → Making) → GoesSetting count go → (known : Pass) (next : Next) → sets var (checks_made axis extents index place go known next).0 ≡ count
  checked_count count [] axis index place go goes known next = goes place known next
  checked_count count (extent ∷ extents) axis [] place go goes known next = goes place known next
  checked_count count (extent ∷ extents) axis (r ∷ index) place go goes known next = by_test (is_within extent (span_in next r)) (λ p. checked_count count extents (suc axis) index p go goes)
    where
      by_test : (test : Bool) → GoesSetting count (λ p. checks_made (suc axis) extents index p go) → sets var (check_at test (step.Check place axis extent r) place (λ p. checks_made (suc axis) extents index p go) known next).0 ≡ count
      by_test true more = more place known next
      by_test false more = stepped_count count (step.Check place axis extent r) (λ p. checks_made (suc axis) extents index p go) more known next

  joined_count : (count : ℕ) (node : NodeShape) (later : List NodeShape) (index : List ℕ) (axis high : ℕ) (go : ℕ → Making) → GoesSetting count go → (known : Pass) (next : Next) → sets var (offset_made given node later axis index high go known next).0 ≡ count
  joined_count count node later [] axis high go goes known next = goes high known next
  joined_count count node later (r ∷ index) axis high go goes known next =
      taken_count count ty.U32 (op.Extract (extent_over later axis) (extent_in node.sizes axis) r) [] (λ low. taken given ty.U32 (op.Offset high (extent_in node.sizes axis) low) [] (λ o. offset_made given node later (suc axis) index o go))
      (λ low. taken_count count ty.U32 (op.Offset high (extent_in node.sizes axis) low) [] (λ o. offset_made given node later (suc axis) index o go) (λ o. joined_count count node later index (suc axis) o go goes)) known next

  offset_count : (count : ℕ) (node : NodeShape) (later : List NodeShape) (index : List ℕ) (go : ℕ → Making) → GoesSetting count go → (known : Pass) (next : Next) → sets var (offset given node later index go known next).0 ≡ count
  offset_count count node later [] go goes known next = goes 0 known next
  offset_count count node later (r ∷ index) go goes known next =
      taken_count count ty.U32 (op.Extract (extent_over later 1) (extent_in node.sizes 1) r) [] (λ high. offset_made given node later 2 index high go) (λ high. joined_count count node later index 2 high go goes) known next

  descended_count : (count : ℕ) (nodes : List NodeShape) (number : ℕ) (index : List ℕ) (place : ℕ) (go : ℕ → Making) → GoesSetting count go → (known : Pass) (next : Next) → sets var (descended given nodes number index place go known next).0 ≡ count
  descended_count count [] number index place go goes known next = goes place known next
  descended_count count (node ∷ later) number index place go goes known next =
      offset_count count node later index (λ o. stepped (step.Down (descent_of node.kind) place number o) (λ p. descended given later (suc number) index p go))
      (λ o. stepped_count count (step.Down (descent_of node.kind) place number o) (λ p. descended given later (suc number) index p go) (λ p. descended_count count later (suc number) index p go goes)) known next

  placed_count : (count layout : ℕ) (index : List ℕ) (go : ℕ → Making) → GoesSetting count go → (known : Pass) (next : Next) → sets var (place_made given layout index go known next).0 ≡ count
  placed_count count layout index go goes known next = by_found (slice_get given.shapes layout)
    where
      by_found : (found : Option Shape) → sets var (placed_in given found layout index go known next).0 ≡ count
      by_found None = goes 0 known next
      by_found (Some shape) =
          stepped_count count (step.Root layout) (λ r. checks_made 0 (extents_in (bounds_of_shape shape)) index r (λ p. descended given shape.nodes 1 index p go))
          (λ r. checked_count count (extents_in (bounds_of_shape shape)) 0 index r (λ p. descended given shape.nodes 1 index p go) (λ p. descended_count count shape.nodes 1 index p go goes)) known next

  pub simplified_count : (block : Block) (known : Pass) (next : Next) → sets var (simplified given block known next).0 ≡ sets var block
  simplified_count End known next = refl
  simplified_count (Word to how rest) known next =
      numbered_count (sets var rest) (is_pure given.single how) (given_type given to) (renamed next how) (λ t now later. simplified given rest now (with_name to t later)) (λ t now later. simplified_count rest now (with_name to t later)) known next
  simplified_count (Spot to how rest) known next = simplified_count rest known next
  simplified_count (Cell to place sight index rest) known next =
      placed_count (sets var rest) (layout_seen given place sight) (map (made_name next) index) (λ p. taken given (given_type given to) (sight_op p sight) (map (made_name next) index) (λ t now later. simplified given rest now (with_name to t later)))
      (λ p. taken_count (sets var rest) (given_type given to) (sight_op p sight) (map (made_name next) index) (λ t now later. simplified given rest now (with_name to t later)) (λ t now later. simplified_count rest now (with_name to t later))) known next
  simplified_count (Do (SetVar set from) rest) known next = ap (λ n. (if set == var then 1 else 0) + n) (simplified_count rest known next)
  simplified_count (Do (WriteOwn layout field from stmt) rest) known next = ap (λ n. 0 + n) (simplified_count rest known next)
  simplified_count (Do (Contribute how layout field place from index stmt) rest) known next =
      placed_count (0 + sets var rest) layout (map (made_name next) index) (λ p now later. put_in_front (Do (Contribute how layout field p (made_name next from) (map (made_name next) index) stmt)) (simplified given rest now later))
      (λ p now later. ap (λ n. 0 + n) (simplified_count rest now later)) known next
  simplified_count (Do (Wish layout index stmt) rest) known next = ap (λ n. 0 + n) (simplified_count rest known next)
  simplified_count (Branch cond block otherwise rest) known next =
      let first = simplified given block known next in
      let second = simplified given otherwise known first.1 in
      ap (λ n. n + (sets var second.0 + sets var (simplified given rest known second.1).0)) (simplified_count block known next)
      ∙ (ap (λ n. sets var block + (n + sets var (simplified given rest known second.1).0)) (simplified_count otherwise known first.1)
      ∙ ap (λ n. sets var block + (sets var otherwise + n)) (simplified_count rest known second.1))
  simplified_count (Loop set lo hi body rest) known next =
      let turn = simplified given body (looped set lo hi known) next in
      ap (λ n. (if set == var then 1 else 0) + (n + sets var (simplified given rest known turn.1).0)) (simplified_count body (looped set lo hi known) next)
      ∙ ap (λ n. (if set == var then 1 else 0) + (sets var body + n)) (simplified_count rest known turn.1)

-- what is shared stays so where the same variables are set as often
pure_same : (f g : ℕ → Bool) → ((v : ℕ) → f v ≡ g v) → (how : Op) → is_pure f how ≡ is_pure g how
pure_same f g same (op.Const word truth) = refl
pure_same f g same (op.Var x) = same x
pure_same f g same (op.Bin how kind a b) = refl
pure_same f g same (op.Un how kind a) = refl
pure_same f g same (op.Mulq a b s) = refl
pure_same f g same (op.Extract div size from) = refl
pure_same f g same (op.Offset high size low) = refl
pure_same f g same (op.Read place layout field) = refl
pure_same f g same (op.Active place) = refl
pure_same f g same (op.OwnRead layout field) = refl

shares_same : (f g : ℕ → Bool) → ((v : ℕ) → f v ≡ g v) → (block : Block) (ops : List Op) (steps : List Step) → shares f ops steps block ≡ shares g ops steps block
shares_same f g same End ops steps = refl
shares_same f g same (Word to how rest) ops steps =
    ap (λ (b : Bool). not (b && list_any (same_op how) ops) && shares f (how ∷ ops) steps rest) (pure_same f g same how)
    ∙ ap (λ (b : Bool). not (is_pure g how && list_any (same_op how) ops) && b) (shares_same f g same rest (how ∷ ops) steps)
shares_same f g same (Spot to how rest) ops steps = ap (λ (b : Bool). not (list_any (same_step how) steps) && b) (shares_same f g same rest ops (how ∷ steps))
shares_same f g same (Cell to place sight index rest) ops steps =
    ap (λ (b : Bool). not (list_any (same_op (sight_op place sight)) ops) && b) (shares_same f g same rest (sight_op place sight ∷ ops) steps)
shares_same f g same (Do what rest) ops steps = shares_same f g same rest ops steps
shares_same f g same (Branch cond block otherwise rest) ops steps =
    ap (λ (b : Bool). b && (shares f ops steps otherwise && shares f ops steps rest)) (shares_same f g same block ops steps)
    ∙ (ap (λ (b : Bool). shares g ops steps block && (b && shares f ops steps rest)) (shares_same f g same otherwise ops steps)
    ∙ ap (λ (b : Bool). shares g ops steps block && (shares g ops steps otherwise && b)) (shares_same f g same rest ops steps))
shares_same f g same (Loop var lo hi body rest) ops steps =
    ap (λ (b : Bool). b && shares f ops steps rest) (shares_same f g same body ops steps) ∙ ap (λ (b : Bool). shares g ops steps body && b) (shares_same f g same rest ops steps)

-- whatever is given, what the pass puts out is shared
pub simple_is_shared : (shapes : List Shape) (domain : Domain) (types : List Ty) (block : Block) → is_shared (simple shapes domain types block) ≡ true
simple_is_shared shapes domain types block =
    let given = given_of shapes domain types block in
    shares_same (is_single (simple shapes domain types block)) (is_single block) (λ v. ap (λ n. nat_le n 1) (simplified_count given v block first_pass first_next)) (simple shapes domain types block) [] []
    ∙ simplified_shares op_exact given block first_pass first_next [] [] (record { ops = λ how pure seen. absurd (cc); steps = λ how seen. absurd (cc) })

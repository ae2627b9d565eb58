-- What the pass puts out reads what is in scope, and sets new numbers.
use Rattle.std.specs.Prelude.{◌≡◌, refl, ℕ, suc, ◌≤◌, ◌==◌, Bool, true, false, if◌then◌else◌, List, [], ◌∷◌, ◌++◌, length, map, nat_eq, unwrap_or, slice_get, Option, Some, None}
use Rattle.std.specs.Map.{lookup}
use Rattle.std.proofs.Common.{arith, sym, ap, subst, ◌∙◌}
use Rattle.std.proofs.lemmas.Bool.{eqb-true}
use Rattle.sg_words.specs.declared.operators.Ty.{Ty}
use Rattle.sg_words.specs.declared.operators.Ty.TheVariants as ty
use Rattle.sg_layout.specs.declared.shape.NodeShape.{NodeShape}
use Rattle.sg_layout.specs.declared.shape.Shape.{Shape}
use Rattle.sg_layout.specs.Axes.{bounds_of_shape, extent_in, extent_over}
use Rattle.sg_ir.specs.declared.op.Op.{Op}
use Rattle.sg_ir.specs.declared.op.Op.TheVariants as op
use Rattle.sg_ir.specs.declared.op.Step.{Step}
use Rattle.sg_ir.specs.declared.op.Step.TheVariants as step
use Rattle.sg_ir.specs.Runs.{put}
use Rattle.sg_ir.specs.Blocks.{sight_op, Block, End, Word, Spot, Cell, Do, Branch, Loop, SetVar, WriteOwn, Contribute, Wish}
use Rattle.sg_ir.specs.declared.span.Span.{Span}
use Rattle.sg_ir.specs.Shared.{same_op, same_step, is_pure}
use Rattle.sg_ir.specs.Trimmed.{is_within}
use Rattle.sg_ir.specs.InScope.{InScope, and_reg, and_place, op_regs, op_places, step_regs, step_places, AreSet, IsScoped}
use Rattle.sg_ir.specs.Places.{extents_in}
use Rattle.sg_simplify.specs.steps.Pass.{Given, Pass, Next, Making, made_name, with_name, next_with_reg, next_with_place, given_type, span_in, span_of, renamed, and_op, and_step, put_in_front, set_word, fresh, taken_at, looked_up, operand_again, plainest, taken_or, taken, numbered, stepped_at, stepped, check_at, checks_made, offset_made, offset, descent_of, descended, placed_in, place_made, looped, simplified, layout_seen}
use Rattle.sg_simplify.specs.steps.Ruled.{IsNotRead, HasAccessLayouts, HasLayout, Grown}
use Rattle.sg_simplify.specs.steps.Sets.{Wider, Sets, GoesOnIn, GoesOnAt, IndexIsSet, AllNamed}
use Rattle.sg_simplify.proofs.Sights.{sight_regs, sight_places, sight_index}
use Rattle.sg_simplify.proofs.Tables.{each_push, each_map, IsFound, each_found, length_push}
use Rattle.sg_simplify.proofs.Growing.{name_here, name_other, grown_on, simplified_grows}
use Rattle.sg_simplify.proofs.Plainest.{operand_is_set, plainest_regs, plainest_places, plainest_index}

-- ---- wider scopes
pub wider_same : (scope : InScope) → Wider scope scope
wider_same scope = record { regs = λ r is. is; places = λ p is. is }

pub wider_on : (a b c : InScope) → Wider a b → Wider b c → Wider a c
wider_on a b c first second = record { regs = λ r is. second.regs r (first.regs r is); places = λ p is. second.places p (first.places p is) }

pub put_still : (to : ℕ) (set : ℕ → Bool) (r : ℕ) → set r ≡ true → put to true set r ≡ true
put_still to set r is = by_test (r == to)
  where
    by_test : (test : Bool) → (if test then true else set r) ≡ true
    by_test true = refl
    by_test false = is

pub put_now : (to : ℕ) (set : ℕ → Bool) → put to true set to ≡ true
put_now to set = by_test (to == to) (grind arith)
  where
    by_test : (test : Bool) → test ≡ true → (if test then true else set to) ≡ true
    by_test true e = refl
    by_test false e = absurd (cc)

put_free : (n : ℕ) (set : ℕ → Bool) → ((r : ℕ) → n ≤ r → set r ≡ false) → (r : ℕ) → suc n ≤ r → put n true set r ≡ false
put_free n set free r above = by_test (r == n) refl
  where
    by_test : (test : Bool) → (r == n) ≡ test → (if test then true else set r) ≡ false
    by_test true e = let is : r ≡ n = eqb-true r n e in absurd (omega (arith, above))
    by_test false e = free r (omega (arith, above))

pub and_reg_wider : (to : ℕ) (scope : InScope) → Wider scope (and_reg to scope)
and_reg_wider to scope = record { regs = λ r is. put_still to scope.regs r is; places = λ p is. is }

pub and_place_wider : (to : ℕ) (scope : InScope) → Wider scope (and_place to scope)
and_place_wider to scope = record { regs = λ r is. is; places = λ p is. put_still to scope.places p is }

pub set_wider : (scope wide : InScope) → Wider scope wide → (rs : List ℕ) → AreSet scope.regs rs → AreSet wide.regs rs
set_wider scope wide h [] all = tt
set_wider scope wide h (r ∷ rs) all = (h.regs r all.0, set_wider scope wide h rs all.1)

-- ---- after what is put out
pub sets_reg : (scope : InScope) (known : Pass) (next : Next) (type : Ty) (span : Span) → Sets scope known next → Sets (and_reg (length next.spans) scope) known (next_with_reg type span next)
sets_reg scope known next type span h = let n = length next.spans in let more : length (next.spans ++ span ∷ []) ≡ suc n = length_push next.spans span in record {
  ops = each_map (λ entry. scope.regs entry.1 ≡ true) (λ entry. put n true scope.regs entry.1 ≡ true) (λ entry is. put_still n scope.regs entry.1 is) known.ops h.ops;
  steps = h.steps;
  free_regs = λ r above. put_free n scope.regs h.free_regs r (omega (arith, above, more));
  free_places = h.free_places;
}

pub sets_place : (scope : InScope) (known : Pass) (next : Next) → Sets scope known next → Sets (and_place next.places scope) known (next_with_place next)
sets_place scope known next h = let n = next.places in record {
  ops = h.ops;
  steps = each_map (λ entry. scope.places entry.1 ≡ true) (λ entry. put n true scope.places entry.1 ≡ true) (λ entry is. put_still n scope.places entry.1 is) known.steps h.steps;
  free_regs = h.free_regs;
  free_places = λ p above. put_free n scope.places h.free_places p above;
}

-- the instruction that sets a register
set_scoped : (scope : InScope) (n : ℕ) (how : Op) (index : List ℕ) (rest : Block) → AreSet scope.regs (op_regs how) → AreSet scope.places (op_places how) → IndexIsSet scope how index → scope.regs n ≡ false
    → IsScoped (and_reg n scope) rest → IsScoped scope (set_word n how index rest)
set_scoped scope n (op.Const word truth) index rest regs places set free more = (regs, places, free, more)
set_scoped scope n (op.Var var) index rest regs places set free more = (regs, places, free, more)
set_scoped scope n (op.Bin how kind a b) index rest regs places set free more = (regs, places, free, more)
set_scoped scope n (op.Un how kind a) index rest regs places set free more = (regs, places, free, more)
set_scoped scope n (op.Mulq a b s) index rest regs places set free more = (regs, places, free, more)
set_scoped scope n (op.Extract div size from) index rest regs places set free more = (regs, places, free, more)
set_scoped scope n (op.Offset high size low) index rest regs places set free more = (regs, places, free, more)
set_scoped scope n (op.Read place layout field) index rest regs places set free more = (places, free, more, set)
set_scoped scope n (op.Active place) index rest regs places set free more = (places, free, more, set)
set_scoped scope n (op.OwnRead layout field) index rest regs places set free more = (regs, places, free, more)

module _ (given : Given) where
  fresh_sets : (type : Ty) (how : Op) (index : List ℕ) (go : ℕ → Making) (scope : InScope) (known : Pass) (next : Next) → Sets scope known next → AreSet scope.regs (op_regs how) → AreSet scope.places (op_places how) → IndexIsSet scope how index
      → GoesOnIn scope next go → IsScoped scope (fresh given type how index go known next).0
  fresh_sets type how index go scope known next h regs places set goes =
      let n = length next.spans in
      set_scoped scope n how index _ regs places set (h.free_regs n (omega arith))
      (goes n known (next_with_reg type (span_of given known next how) next) (and_reg n scope) (and_reg_wider n scope) refl (sets_reg scope known next type (span_of given known next how) h) (put_now n scope.regs))

  looked_up_sets : (type : Ty) (how : Op) (index : List ℕ) (go : ℕ → Making) (scope : InScope) (known : Pass) (next : Next) → Sets scope known next → AreSet scope.regs (op_regs how) → AreSet scope.places (op_places how) → IndexIsSet scope how index
      → GoesOnIn scope next go → IsScoped scope (looked_up given type how index go known next).0
  looked_up_sets type how index go scope known next h regs places set goes = by_found (lookup (same_op how) known.ops) refl
    where
      by_found : (o : Option ℕ) → lookup (same_op how) known.ops ≡ o → IsScoped scope (taken_at given type how index go o known next).0
      by_found (Some t) e = let found : IsFound same_op how (λ entry. scope.regs entry.1 ≡ true) t = each_found same_op how (λ entry. scope.regs entry.1 ≡ true) known.ops t h.ops e in
          goes t known next scope (wider_same scope) refl h found.holds
      by_found None e =
          let n = length next.spans in
          let mid = sets_reg scope known next type (span_of given known next how) h in
          set_scoped scope n how index _ regs places set (h.free_regs n (omega arith))
          (goes n (and_op how n known) (next_with_reg type (span_of given known next how) next) (and_reg n scope) (and_reg_wider n scope) refl
          (record { ops = each_push (λ entry. put n true scope.regs entry.1 ≡ true) known.ops (how, n) mid.ops (put_now n scope.regs); steps = mid.steps; free_regs = mid.free_regs; free_places = mid.free_places })
          (put_now n scope.regs))

  taken_sets : (type : Ty) (how : Op) (index : List ℕ) (go : ℕ → Making) (scope : InScope) (known : Pass) (next : Next) → Sets scope known next → AreSet scope.regs (op_regs how) → AreSet scope.places (op_places how) → IndexIsSet scope how index
      → GoesOnIn scope next go → IsScoped scope (taken given type how index go known next).0
  taken_sets type how index go scope known next h regs places set goes = by_operand (operand_again next how) refl
    where
      by_operand : (o : Option ℕ) → operand_again next how ≡ o → IsScoped scope (taken_or given type how index go o known next).0
      by_operand (Some t) e = goes t known next scope (wider_same scope) refl h (operand_is_set scope.regs next how t regs e)
      by_operand None e =
          looked_up_sets type (plainest type how) index go scope known next h (plainest_regs scope.regs type how regs) (subst (λ (ps : List ℕ). AreSet scope.places ps) (sym (plainest_places type how)) places) (plainest_index scope type how index set) goes

  numbered_sets : (pure : Bool) (type : Ty) (how : Op) (go : ℕ → Making) (scope : InScope) (known : Pass) (next : Next) → Sets scope known next → AreSet scope.regs (op_regs how) → AreSet scope.places (op_places how) → IndexIsSet scope how []
      → GoesOnIn scope next go → IsScoped scope (numbered pure given type how go known next).0
  numbered_sets true type how go scope known next h regs places set goes = taken_sets type how [] go scope known next h regs places set goes
  numbered_sets false type how go scope known next h regs places set goes = fresh_sets type how [] go scope known next h regs places set goes

  stepped_sets : (how : Step) (go : ℕ → Making) (scope : InScope) (known : Pass) (next : Next) → Sets scope known next → AreSet scope.regs (step_regs how) → AreSet scope.places (step_places how)
      → GoesOnAt scope next go → IsScoped scope (stepped how go known next).0
  stepped_sets how go scope known next h regs places goes = by_found (lookup (same_step how) known.steps) refl
    where
      by_found : (o : Option ℕ) → lookup (same_step how) known.steps ≡ o → IsScoped scope (stepped_at how go o known next).0
      by_found (Some t) e = let found : IsFound same_step how (λ entry. scope.places entry.1 ≡ true) t = each_found same_step how (λ entry. scope.places entry.1 ≡ true) known.steps t h.steps e in
          goes t known next scope (wider_same scope) refl h found.holds
      by_found None e =
          let n = next.places in
          let mid = sets_place scope known next h in (
            regs,
            places,
            h.free_places n (omega arith),
            goes n (and_step how n known) (next_with_place next) (and_place n scope) (and_place_wider n scope) refl
                (record { ops = mid.ops; steps = each_push (λ entry. put n true scope.places entry.1 ≡ true) known.steps (how, n) mid.steps (put_now n scope.places); free_regs = mid.free_regs; free_places = mid.free_places })
                (put_now n scope.places),
          )

  joined_sets : (node : NodeShape) (later : List NodeShape) (index : List ℕ) (axis high : ℕ) (go : ℕ → Making) (scope : InScope) (known : Pass) (next : Next) → Sets scope known next → scope.regs high ≡ true → AreSet scope.regs index
      → GoesOnIn scope next go → IsScoped scope (offset_made given node later axis index high go known next).0
  joined_sets node later [] axis high go scope known next h is set goes = goes high known next scope (wider_same scope) refl h is
  joined_sets node later (r ∷ index) axis high go scope known next h is set goes =
      taken_sets ty.U32 (op.Extract (extent_over later axis) (extent_in node.sizes axis) r) [] (λ low. taken given ty.U32 (op.Offset high (extent_in node.sizes axis) low) [] (λ o. offset_made given node later (suc axis) index o go))
      scope known next h (set.0, tt) tt tt
      (λ low known' further wide wider names holds low_is. taken_sets ty.U32 (op.Offset high (extent_in node.sizes axis) low) [] (λ o. offset_made given node later (suc axis) index o go) wide known' further holds
      (wider.regs high is, (low_is, tt)) tt tt
      (λ o known'' further' wide' wider' names' holds' o_is. joined_sets node later index (suc axis) o go wide' known'' further' holds' o_is (set_wider scope wide' (wider_on scope wide wide' wider wider') index set.1)
      (λ t known''' further'' wide'' wider'' names'' holds'' t_is. goes t known''' further'' wide'' (wider_on scope wide' wide'' (wider_on scope wide wide' wider wider') wider'') (names'' ∙ (names' ∙ names)) holds'' t_is)))

  offset_sets : (node : NodeShape) (later : List NodeShape) (r : ℕ) (index : List ℕ) (go : ℕ → Making) (scope : InScope) (known : Pass) (next : Next) → Sets scope known next → AreSet scope.regs (r ∷ index)
      → GoesOnIn scope next go → IsScoped scope (offset given node later (r ∷ index) go known next).0
  offset_sets node later r index go scope known next h set goes =
      taken_sets ty.U32 (op.Extract (extent_over later 1) (extent_in node.sizes 1) r) [] (λ high. offset_made given node later 2 index high go) scope known next h (set.0, tt) tt tt
      (λ high known' further wide wider names holds high_is. joined_sets node later index 2 high go wide known' further holds high_is (set_wider scope wide wider index set.1)
      (λ t known'' further' wide' wider' names' holds' t_is. goes t known'' further' wide' (wider_on scope wide wide' wider wider') (names' ∙ names) holds' t_is))

  descended_sets : (nodes : List NodeShape) (number r : ℕ) (index : List ℕ) (place : ℕ) (go : ℕ → Making) (scope : InScope) (known : Pass) (next : Next) → Sets scope known next → scope.places place ≡ true → AreSet scope.regs (r ∷ index)
      → GoesOnAt scope next go → IsScoped scope (descended given nodes number (r ∷ index) place go known next).0
  descended_sets [] number r index place go scope known next h is set goes = goes place known next scope (wider_same scope) refl h is
  descended_sets (node ∷ later) number r index place go scope known next h is set goes =
      offset_sets node later r index (λ o. stepped (step.Down (descent_of node.kind) place number o) (λ p. descended given later (suc number) (r ∷ index) p go)) scope known next h set
      (λ o known' further wide wider names holds o_is. stepped_sets (step.Down (descent_of node.kind) place number o) (λ p. descended given later (suc number) (r ∷ index) p go) wide known' further holds
      (o_is, tt) (wider.places place is, tt)
      (λ p known'' further' wide' wider' names' holds' p_is. descended_sets later (suc number) r index p go wide' known'' further' holds' p_is (set_wider scope wide' (wider_on scope wide wide' wider wider') (r ∷ index) set)
      (λ t known''' further'' wide'' wider'' names'' holds'' t_is. goes t known''' further'' wide'' (wider_on scope wide' wide'' (wider_on scope wide wide' wider wider') wider'') (names'' ∙ (names' ∙ names)) holds'' t_is)))

  checked_sets : (extents : List ℕ) (axis : ℕ) (index : List ℕ) (place : ℕ) (go : ℕ → Making) (scope : InScope) (known : Pass) (next : Next) → Sets scope known next → scope.places place ≡ true → AreSet scope.regs index
      → GoesOnAt scope next go → IsScoped scope (checks_made axis extents index place go known next).0
  checked_sets [] axis index place go scope known next h is set goes = goes place known next scope (wider_same scope) refl h is
  checked_sets (extent ∷ extents) axis [] place go scope known next h is set goes = goes place known next scope (wider_same scope) refl h is
  checked_sets (extent ∷ extents) axis (r ∷ index) place go scope known next h is set goes = by_test (is_within extent (span_in next r))
      (checked_sets extents (suc axis) index place go scope known next h is set.1 goes)
      (λ p known' further wide wider names holds p_is. checked_sets extents (suc axis) index p go wide known' further holds p_is (set_wider scope wide wider index set.1)
      (λ t known'' further' wide' wider' names' holds' t_is. goes t known'' further' wide' (wider_on scope wide wide' wider wider') (names' ∙ names) holds' t_is))
    where
      by_test : (test : Bool) → IsScoped scope (checks_made (suc axis) extents index place go known next).0 → GoesOnAt scope next (λ p. checks_made (suc axis) extents index p go)
          → IsScoped scope (check_at test (step.Check place axis extent r) place (λ p. checks_made (suc axis) extents index p go) known next).0
      by_test true same more = same
      by_test false same more = stepped_sets (step.Check place axis extent r) (λ p. checks_made (suc axis) extents index p go) scope known next h (set.0, tt) (is, tt) more

  placed_sets : (shape : Shape) (layout r : ℕ) (index : List ℕ) (go : ℕ → Making) (scope : InScope) (known : Pass) (next : Next) → slice_get given.shapes layout ≡ Some shape → Sets scope known next → AreSet scope.regs (r ∷ index)
      → GoesOnAt scope next go → IsScoped scope (place_made given layout (r ∷ index) go known next).0
  placed_sets shape layout r index go scope known next there h set goes =
      subst (λ (found : Option Shape). IsScoped scope (placed_in given found layout (r ∷ index) go known next).0) (sym there)
      (stepped_sets (step.Root layout) (λ k. checks_made 0 (extents_in (bounds_of_shape shape)) (r ∷ index) k (λ p. descended given shape.nodes 1 (r ∷ index) p go)) scope known next h tt tt
      (λ k known' further wide wider names holds k_is.
      checked_sets (extents_in (bounds_of_shape shape)) 0 (r ∷ index) k (λ p. descended given shape.nodes 1 (r ∷ index) p go) wide known' further holds k_is (set_wider scope wide wider (r ∷ index) set)
      (λ p known'' further' wide' wider' names' holds' p_is.
      descended_sets shape.nodes 1 r index p go wide' known'' further' holds' p_is (set_wider scope wide' (wider_on scope wide wide' wider wider') (r ∷ index) set)
      (λ t known''' further'' wide'' wider'' names'' holds'' t_is. goes t known''' further'' wide'' (wider_on scope wide' wide'' (wider_on scope wide wide' wider wider') wider'') (names'' ∙ (names' ∙ names)) holds'' t_is))))

  -- ---- over blocks
  named_on : (inner scope wide : InScope) (next further : Next) → ((r : ℕ) → inner.regs r ≡ true → made_name further r ≡ made_name next r) → Wider scope wide → AllNamed inner scope next → AllNamed inner wide further
  named_on inner scope wide next further same wider all r is = wider.regs (made_name further r) (ap scope.regs (same r is) ∙ all r is)

  pub named_put : (inner scope : InScope) (next : Next) (to t : ℕ) → scope.regs t ≡ true → AllNamed inner scope next → AllNamed (and_reg to inner) scope (with_name to t next)
  named_put inner scope next to t is all r set = by_test (r == to) refl set
    where
      by_test : (test : Bool) → (r == to) ≡ test → (if test then true else inner.regs r) ≡ true → scope.regs (made_name (with_name to t next) r) ≡ true
      by_test true e h = ap scope.regs (ap (made_name (with_name to t next)) (eqb-true r to e) ∙ name_here next to t) ∙ is
      by_test false e h = ap scope.regs (name_other next to t r e) ∙ all r h

  pub index_named : (inner scope : InScope) (next : Next) → AllNamed inner scope next → (rs : List ℕ) → AreSet inner.regs rs → AreSet scope.regs (map (made_name next) rs)
  index_named inner scope next all [] set = tt
  index_named inner scope next all (r ∷ rs) set = (all r set.0, index_named inner scope next all rs set.1)

  pub op_named : (inner scope : InScope) (next : Next) → AllNamed inner scope next → (how : Op) → IsNotRead how → AreSet inner.regs (op_regs how) → AreSet scope.regs (op_regs (renamed next how))
  op_named inner scope next all (op.Const word truth) plain set = tt
  op_named inner scope next all (op.Var var) plain set = tt
  op_named inner scope next all (op.Bin how kind a b) plain set = (all a set.0, (all b set.1.0, tt))
  op_named inner scope next all (op.Un how kind a) plain set = (all a set.0, tt)
  op_named inner scope next all (op.Mulq a b s) plain set = (all a set.0, (all b set.1.0, (all s set.1.1.0, tt)))
  op_named inner scope next all (op.Extract div size r) plain set = (all r set.0, tt)
  op_named inner scope next all (op.Offset high size low) plain set = (all high set.0, (all low set.1.0, tt))
  op_named inner scope next all (op.Read place layout field) plain set = absurd plain
  op_named inner scope next all (op.Active place) plain set = absurd plain
  op_named inner scope next all (op.OwnRead layout field) plain set = tt

  no_places : (scope : InScope) (next : Next) (how : Op) → IsNotRead how → AreSet scope.places (op_places (renamed next how))
  no_places scope next (op.Const word truth) plain = tt
  no_places scope next (op.Var var) plain = tt
  no_places scope next (op.Bin how kind a b) plain = tt
  no_places scope next (op.Un how kind a) plain = tt
  no_places scope next (op.Mulq a b s) plain = tt
  no_places scope next (op.Extract div size r) plain = tt
  no_places scope next (op.Offset high size low) plain = tt
  no_places scope next (op.Read place layout field) plain = absurd plain
  no_places scope next (op.Active place) plain = absurd plain
  no_places scope next (op.OwnRead layout field) plain = tt

  no_index : (scope : InScope) (next : Next) (how : Op) → IsNotRead how → IndexIsSet scope (renamed next how) []
  no_index scope next (op.Const word truth) plain = tt
  no_index scope next (op.Var var) plain = tt
  no_index scope next (op.Bin how kind a b) plain = tt
  no_index scope next (op.Un how kind a) plain = tt
  no_index scope next (op.Mulq a b s) plain = tt
  no_index scope next (op.Extract div size r) plain = tt
  no_index scope next (op.Offset high size low) plain = tt
  no_index scope next (op.Read place layout field) plain = absurd plain
  no_index scope next (op.Active place) plain = absurd plain
  no_index scope next (op.OwnRead layout field) plain = tt

  pub sets_grown : (inner scope : InScope) (known : Pass) (next further : Next) → Grown inner next further → Sets scope known next → Sets scope known further
  sets_grown inner scope known next further grown h = let more = grown.regs in let places = grown.places in record {
    ops = h.ops;
    steps = h.steps;
    free_regs = λ r above. h.free_regs r (omega (arith, above));
    free_places = λ p above. h.free_places p (omega (arith, above));
  }

  pub sets_named : (scope : InScope) (known : Pass) (next : Next) (to t : ℕ) → Sets scope known next → Sets scope known (with_name to t next)
  sets_named scope known next to t h = record { ops = h.ops; steps = h.steps; free_regs = h.free_regs; free_places = h.free_places }

  pub named_grown : (inner scope : InScope) (next further : Next) → Grown inner next further → AllNamed inner scope next → AllNamed inner scope further
  named_grown inner scope next further grown all r is = ap scope.regs (grown.names r is) ∙ all r is

  pub named_by : (inner scope wide : InScope) (next further : Next) → further.names ≡ next.names → Wider scope wide → AllNamed inner scope next → AllNamed inner wide further
  named_by inner scope wide next further names = named_on inner scope wide next further (λ r is. ap (λ (table : List (ℕ × ℕ)). unwrap_or (lookup (nat_eq r) table) r) names)

module _ (given : Given) where
  pub simplified_sets : (block : Block) (inner scope : InScope) (known : Pass) (next : Next) → IsScoped inner block → HasAccessLayouts given.shapes given.roots block → Sets scope known next → AllNamed inner scope next
      → IsScoped scope (simplified given block known next).0
  simplified_sets End inner scope known next scoped fitted h all = tt
  simplified_sets (Word to how rest) inner scope known next scoped fitted h all =
      numbered_sets given (is_pure given.single how) (given_type given to) (renamed next how) (λ t now later. simplified given rest now (with_name to t later)) scope known next h
      (op_named given inner scope next all how fitted.0 scoped.0) (no_places given scope next how fitted.0) (no_index given scope next how fitted.0)
      (λ t known' further wide wider names holds t_is. simplified_sets rest (and_reg to inner) wide known' (with_name to t further) scoped.3 fitted.1 (sets_named given wide known' further to t holds)
      (named_put given inner wide further to t t_is (named_by given inner scope wide next further names wider all)))
  simplified_sets (Spot to how rest) inner scope known next scoped fitted h all = simplified_sets rest (and_place to inner) scope known next scoped.3 fitted h all
  simplified_sets (Cell to place sight [] rest) inner scope known next scoped fitted h all = absurd fitted.0
  simplified_sets (Cell to place sight (r ∷ index) rest) inner scope known next scoped fitted h all =
      let fresh_index = map (made_name next) (r ∷ index) in
      let layout = layout_seen given place sight in
      let has : HasLayout given.shapes layout (length (r ∷ index)) = fitted.0 in
      let set = index_named given inner scope next all (r ∷ index) scoped.3 in
      placed_sets given has.shape layout (made_name next r) (map (made_name next) index)
      (λ p. taken given (given_type given to) (sight_op p sight) fresh_index (λ t now later. simplified given rest now (with_name to t later))) scope known next has.there h set
      (λ p known' further wide wider names holds p_is. taken_sets given (given_type given to) (sight_op p sight) fresh_index (λ t now later. simplified given rest now (with_name to t later)) wide known' further holds
      (sight_regs wide.regs p sight) (sight_places wide.places p sight p_is) (sight_index wide p sight fresh_index (set_wider scope wide wider fresh_index set))
      (λ t known'' further' wide' wider' names' holds' t_is. simplified_sets rest (and_reg to inner) wide' known'' (with_name to t further') scoped.2 fitted.1 (sets_named given wide' known'' further' to t holds')
      (named_put given inner wide' further' to t t_is (named_by given inner scope wide' next further' (names' ∙ names) (wider_on scope wide wide' wider wider') all))))
  simplified_sets (Do (SetVar var reg) rest) inner scope known next scoped fitted h all = ((all reg scoped.0.0, tt), tt, simplified_sets rest inner scope known next scoped.2 fitted.1 h all)
  simplified_sets (Do (WriteOwn layout field reg stmt) rest) inner scope known next scoped fitted h all = ((all reg scoped.0.0, tt), tt, simplified_sets rest inner scope known next scoped.2 fitted.1 h all)
  simplified_sets (Do (Contribute how layout field place reg [] stmt) rest) inner scope known next scoped fitted h all = absurd fitted.0
  simplified_sets (Do (Contribute how layout field place reg (r ∷ index) stmt) rest) inner scope known next scoped fitted h all =
      let fresh_index = map (made_name next) (r ∷ index) in
      let has : HasLayout given.shapes layout (length (r ∷ index)) = fitted.0 in
      let set = index_named given inner scope next all (r ∷ index) scoped.0.1 in
      placed_sets given has.shape layout (made_name next r) (map (made_name next) index)
      (λ p now later. put_in_front (Do (Contribute how layout field p (made_name next reg) fresh_index stmt)) (simplified given rest now later)) scope known next has.there h set
      (λ p known' further wide wider names holds p_is. (
        (wider.regs (made_name next reg) (all reg scoped.0.0), set_wider scope wide wider fresh_index set),
        (p_is, tt),
        simplified_sets rest inner wide known' further scoped.2 fitted.1 holds (named_by given inner scope wide next further names wider all),
      ))
  simplified_sets (Do (Wish layout index stmt) rest) inner scope known next scoped fitted h all = (index_named given inner scope next all index scoped.0, tt, simplified_sets rest inner scope known next scoped.2 fitted.1 h all)
  simplified_sets (Branch cond block otherwise rest) inner scope known next scoped fitted h all =
      let first = simplified given block known next in
      let second = simplified given otherwise known first.1 in
      let grown = simplified_grows given block inner scoped.1 known next in
      let grown' = grown_on inner next first.1 second.1 grown (simplified_grows given otherwise inner scoped.2 known first.1) in (
        all cond scoped.0,
        simplified_sets block inner scope known next scoped.1 fitted.0 h all,
        simplified_sets otherwise inner scope known first.1 scoped.2 fitted.1 (sets_grown given inner scope known next first.1 grown h) (named_grown given inner scope next first.1 grown all),
        simplified_sets rest inner scope known second.1 scoped.3 fitted.2 (sets_grown given inner scope known next second.1 grown' h) (named_grown given inner scope next second.1 grown' all),
      )
  simplified_sets (Loop var lo hi body rest) inner scope known next scoped fitted h all =
      let turn = simplified given body (looped var lo hi known) next in
      let grown = simplified_grows given body inner scoped.0 (looped var lo hi known) next in (
        simplified_sets body inner scope (looped var lo hi known) next scoped.0 fitted.0 (record { ops = h.ops; steps = h.steps; free_regs = h.free_regs; free_places = h.free_places }) all,
        simplified_sets rest inner scope known turn.1 scoped.1 fitted.1 (sets_grown given inner scope known next turn.1 grown h) (named_grown given inner scope next turn.1 grown all),
      )

-- What the pass puts out grows: numbers that were given stay, and so do the names of what is in scope.
use Rattle.std.specs.Prelude.{◌≡◌, refl, ℕ, suc, ◌==◌, Bool, true, false, if◌then◌else◌, List, [], ◌∷◌, ◌++◌, length, map, nat_eq, unwrap_or, slice_get, Option, Some, None}
use Rattle.std.specs.Map.{lookup}
use Rattle.std.proofs.Common.{arith, sym, ap, ◌∙◌}
use Rattle.std.proofs.lemmas.Bool.{eqb-true}
use Rattle.sg_words.specs.declared.operators.Ty.{Ty}
use Rattle.sg_words.specs.declared.operators.Ty.TheVariants as ty
use Rattle.sg_layout.specs.declared.shape.NodeShape.{NodeShape}
use Rattle.sg_layout.specs.declared.shape.Shape.{Shape}
use Rattle.sg_layout.specs.Axes.{bounds_of_shape, extent_in, extent_over}
use Rattle.sg_ir.specs.declared.op.Op.{Op}
use Rattle.sg_ir.specs.declared.op.Op.TheVariants as op
use Rattle.sg_ir.specs.declared.op.Step.{Step}
use Rattle.sg_ir.specs.declared.op.Step.TheVariants as step
use Rattle.sg_ir.specs.Blocks.{sight_op, Block, End, Word, Spot, Cell, Do, Branch, Loop, SetVar, WriteOwn, Contribute, Wish}
use Rattle.sg_ir.specs.declared.span.Span.{Span}
use Rattle.sg_ir.specs.Span.{whole_i32}
use Rattle.sg_ir.specs.Shared.{same_op, same_step, is_pure}
use Rattle.sg_ir.specs.Trimmed.{is_within}
use Rattle.sg_ir.specs.InScope.{InScope, and_reg, and_place, IsScoped}
use Rattle.sg_ir.specs.Places.{extents_in}
use Rattle.sg_simplify.specs.steps.Pass.{Given, Pass, Next, Making, made_name, with_name, next_with_reg, next_with_place, given_type, span_in, span_of, renamed, and_op, and_step, fresh, taken_at, looked_up, operand_again, plainest, taken_or, taken, numbered, stepped_at, stepped, check_at, checks_made, offset_made, offset, descent_of, descended, placed_in, place_made, looped, simplified, layout_seen}
use Rattle.sg_simplify.specs.steps.Ruled.{Grown}
use Rattle.sg_simplify.proofs.Tables.{length_push, get_kept, names_put}

pub grown_same : (scope : InScope) (next : Next) → Grown scope next next
grown_same scope next = record { regs = omega arith; places = omega arith; spans = λ r below. refl; names = λ r is. refl }

pub grown_on : (scope : InScope) (a b c : Next) → Grown scope a b → Grown scope b c → Grown scope a c
grown_on scope a b c first second = let m = first.regs in let p = first.places in let m' = second.regs in let p' = second.places in record {
  regs = omega arith;
  places = omega arith;
  spans = λ r below. second.spans r (omega (arith, below)) ∙ first.spans r below;
  names = λ r is. second.names r is ∙ first.names r is;
}

grown_reg : (scope : InScope) (start next : Next) (type : Ty) (span : Span) → Grown scope start next → Grown scope start (next_with_reg type span next)
grown_reg scope start next type span h = let m = h.regs in let p = h.places in let more : length (next.spans ++ span ∷ []) ≡ suc (length next.spans) = length_push next.spans span in record {
  regs = omega arith;
  places = omega arith;
  spans = λ r below. get_kept next.spans span whole_i32 r (omega (arith, below)) ∙ h.spans r below;
  names = h.names;
}

grown_place : (scope : InScope) (start next : Next) → Grown scope start next → Grown scope start (next_with_place next)
grown_place scope start next h = let p = h.places in record { regs = h.regs; places = omega arith; spans = h.spans; names = h.names }

-- the name of a register, and of the others, after one that is given
pub name_here : (next : Next) (to t : ℕ) → made_name (with_name to t next) to ≡ t
name_here next to t = ap (λ o. unwrap_or o to) (names_put next.names to t to) ∙ by_test (to == to) (grind arith)
  where
    by_test : (test : Bool) → test ≡ true → unwrap_or (if test then Some t else lookup (nat_eq to) next.names) to ≡ t
    by_test true e = refl
    by_test false e = absurd (cc)

pub name_other : (next : Next) (to t r : ℕ) → (r == to) ≡ false → made_name (with_name to t next) r ≡ made_name next r
name_other next to t r e = ap (λ o. unwrap_or o r) (names_put next.names to t r ∙ ap (λ (test : Bool). if test then Some t else lookup (nat_eq r) next.names) e)

grown_name : (scope : InScope) (start next : Next) (to t : ℕ) → scope.regs to ≡ false → Grown scope start next → Grown scope start (with_name to t next)
grown_name scope start next to t free h = record {
  regs = h.regs;
  places = h.places;
  spans = h.spans;
  names = λ r is. name_other next to t r (by_test r is (r == to) refl) ∙ h.names r is;
}
  where
    differ : true ≡ false → ⊥
    differ e = absurd (cc)

    by_test : (r : ℕ) → scope.regs r ≡ true → (test : Bool) → (r == to) ≡ test → (r == to) ≡ false
    by_test r is true e = absurd (differ (sym is ∙ (ap scope.regs (eqb-true r to e) ∙ free)))
    by_test r is false e = e

-- one register more in scope
grown_fewer : (scope : InScope) (to : ℕ) (a b : Next) → Grown (and_reg to scope) a b → Grown scope a b
grown_fewer scope to a b h = record { regs = h.regs; places = h.places; spans = h.spans; names = λ r is. h.names r (by_test r is (r == to)) }
  where
    by_test : (r : ℕ) → scope.regs r ≡ true → (test : Bool) → (if test then true else scope.regs r) ≡ true
    by_test r is true = refl
    by_test r is false = is

module _ (given : Given) (scope : InScope) (start : Next) where
  -- what follows grows
  abbrev Grows : (ℕ → Making) → Type 0
  Grows go = (t : ℕ) (pass : Pass) (next : Next) → Grown scope start next → Grown scope start (go t pass next).1

  fresh_grows : (type : Ty) (how : Op) (index : List ℕ) (go : ℕ → Making) → Grows go → (pass : Pass) (next : Next) → Grown scope start next → Grown scope start (fresh given type how index go pass next).1
  fresh_grows type how index go grows pass next h = grows (length next.spans) pass (next_with_reg type (span_of given pass next how) next) (grown_reg scope start next type (span_of given pass next how) h)

  looked_up_grows : (type : Ty) (how : Op) (index : List ℕ) (go : ℕ → Making) → Grows go → (pass : Pass) (next : Next) → Grown scope start next → Grown scope start (looked_up given type how index go pass next).1
  looked_up_grows type how index go grows pass next h = by_found (lookup (same_op how) pass.ops)
    where
      by_found : (o : Option ℕ) → Grown scope start (taken_at given type how index go o pass next).1
      by_found (Some t) = grows t pass next h
      by_found None = grows (length next.spans) (and_op how (length next.spans) pass) (next_with_reg type (span_of given pass next how) next) (grown_reg scope start next type (span_of given pass next how) h)

  taken_grows : (type : Ty) (how : Op) (index : List ℕ) (go : ℕ → Making) → Grows go → (pass : Pass) (next : Next) → Grown scope start next → Grown scope start (taken given type how index go pass next).1
  taken_grows type how index go grows pass next h = by_operand (operand_again next how)
    where
      by_operand : (o : Option ℕ) → Grown scope start (taken_or given type how index go o pass next).1
      by_operand (Some t) = grows t pass next h
      by_operand None = looked_up_grows type (plainest type how) index go grows pass next h

  numbered_grows : (pure : Bool) (type : Ty) (how : Op) (go : ℕ → Making) → Grows go → (pass : Pass) (next : Next) → Grown scope start next → Grown scope start (numbered pure given type how go pass next).1
  numbered_grows true type how go grows pass next h = taken_grows type how [] go grows pass next h
  numbered_grows false type how go grows pass next h = fresh_grows type how [] go grows pass next h

  stepped_grows : (how : Step) (go : ℕ → Making) → Grows go → (pass : Pass) (next : Next) → Grown scope start next → Grown scope start (stepped how go pass next).1
  stepped_grows how go grows pass next h = by_found (lookup (same_step how) pass.steps)
    where
      by_found : (o : Option ℕ) → Grown scope start (stepped_at how go o pass next).1
      by_found (Some t) = grows t pass next h
      by_found None = grows next.places (and_step how next.places pass) (next_with_place next) (grown_place scope start next h)

  checked_grows : (extents : List ℕ) (axis : ℕ) (index : List ℕ) (place : ℕ) (go : ℕ → Making) → Grows go → (pass : Pass) (next : Next) → Grown scope start next → Grown scope start (checks_made axis extents index place go pass next).1
  checked_grows [] axis index place go grows pass next h = grows place pass next h
  checked_grows (extent ∷ extents) axis [] place go grows pass next h = grows place pass next h
  checked_grows (extent ∷ extents) axis (r ∷ index) place go grows pass next h = by_test (is_within extent (span_in next r)) (λ p now later k. checked_grows extents (suc axis) index p go grows now later k)
    where
      by_test : (test : Bool) → Grows (λ p. checks_made (suc axis) extents index p go)
          → Grown scope start (check_at test (step.Check place axis extent r) place (λ p. checks_made (suc axis) extents index p go) pass next).1
      by_test true more = more place pass next h
      by_test false more = stepped_grows (step.Check place axis extent r) (λ p. checks_made (suc axis) extents index p go) more pass next h

  joined_grows : (node : NodeShape) (later : List NodeShape) (index : List ℕ) (axis high : ℕ) (go : ℕ → Making) → Grows go → (pass : Pass) (next : Next) → Grown scope start next → Grown scope start (offset_made given node later axis index high go pass next).1
  joined_grows node later [] axis high go grows pass next h = grows high pass next h
  joined_grows node later (r ∷ index) axis high go grows pass next h =
      taken_grows ty.U32 (op.Extract (extent_over later axis) (extent_in node.sizes axis) r) [] (λ low. taken given ty.U32 (op.Offset high (extent_in node.sizes axis) low) [] (λ o. offset_made given node later (suc axis) index o go))
      (λ low now further k. taken_grows ty.U32 (op.Offset high (extent_in node.sizes axis) low) [] (λ o. offset_made given node later (suc axis) index o go)
      (λ o now' further' k'. joined_grows node later index (suc axis) o go grows now' further' k') now further k) pass next h

  offset_grows : (node : NodeShape) (later : List NodeShape) (index : List ℕ) (go : ℕ → Making) → Grows go → (pass : Pass) (next : Next) → Grown scope start next → Grown scope start (offset given node later index go pass next).1
  offset_grows node later [] go grows pass next h = grows 0 pass next h
  offset_grows node later (r ∷ index) go grows pass next h =
      taken_grows ty.U32 (op.Extract (extent_over later 1) (extent_in node.sizes 1) r) [] (λ high. offset_made given node later 2 index high go) (λ high now further k. joined_grows node later index 2 high go grows now further k) pass next h

  descended_grows : (nodes : List NodeShape) (number : ℕ) (index : List ℕ) (place : ℕ) (go : ℕ → Making) → Grows go → (pass : Pass) (next : Next) → Grown scope start next → Grown scope start (descended given nodes number index place go pass next).1
  descended_grows [] number index place go grows pass next h = grows place pass next h
  descended_grows (node ∷ later) number index place go grows pass next h =
      offset_grows node later index (λ o. stepped (step.Down (descent_of node.kind) place number o) (λ p. descended given later (suc number) index p go))
      (λ o now further k. stepped_grows (step.Down (descent_of node.kind) place number o) (λ p. descended given later (suc number) index p go)
      (λ p now' further' k'. descended_grows later (suc number) index p go grows now' further' k') now further k) pass next h

  placed_grows : (layout : ℕ) (index : List ℕ) (go : ℕ → Making) → Grows go → (pass : Pass) (next : Next) → Grown scope start next → Grown scope start (place_made given layout index go pass next).1
  placed_grows layout index go grows pass next h = by_found (slice_get given.shapes layout)
    where
      by_found : (found : Option Shape) → Grown scope start (placed_in given found layout index go pass next).1
      by_found None = grows 0 pass next h
      by_found (Some shape) =
          stepped_grows (step.Root layout) (λ r. checks_made 0 (extents_in (bounds_of_shape shape)) index r (λ p. descended given shape.nodes 1 index p go))
          (λ r now further k. checked_grows (extents_in (bounds_of_shape shape)) 0 index r (λ p. descended given shape.nodes 1 index p go)
          (λ p now' further' k'. descended_grows shape.nodes 1 index p go grows now' further' k') now further k) pass next h

module _ (given : Given) where
  pub simplified_grows : (block : Block) (scope : InScope) → IsScoped scope block → (pass : Pass) (next : Next) → Grown scope next (simplified given block pass next).1
  simplified_grows End scope scoped pass next = grown_same scope next
  simplified_grows (Word to how rest) scope scoped pass next =
      numbered_grows given scope next (is_pure given.single how) (given_type given to) (renamed next how) (λ t now later. simplified given rest now (with_name to t later))
      (λ t now later h. grown_on scope next (with_name to t later) (simplified given rest now (with_name to t later)).1 (grown_name scope next later to t scoped.2 h)
      (grown_fewer scope to (with_name to t later) (simplified given rest now (with_name to t later)).1 (simplified_grows rest (and_reg to scope) scoped.3 now (with_name to t later)))) pass next (grown_same scope next)
  simplified_grows (Spot to how rest) scope scoped pass next =
      let h = simplified_grows rest (and_place to scope) scoped.3 pass next in record { regs = h.regs; places = h.places; spans = h.spans; names = h.names }
  simplified_grows (Cell to place sight index rest) scope scoped pass next =
      placed_grows given scope next (layout_seen given place sight) (map (made_name next) index)
      (λ p. taken given (given_type given to) (sight_op p sight) (map (made_name next) index) (λ t now later. simplified given rest now (with_name to t later)))
      (λ p now further k. taken_grows given scope next (given_type given to) (sight_op p sight) (map (made_name next) index) (λ t now later. simplified given rest now (with_name to t later))
      (λ t now' later h. grown_on scope next (with_name to t later) (simplified given rest now' (with_name to t later)).1 (grown_name scope next later to t scoped.1 h)
      (grown_fewer scope to (with_name to t later) (simplified given rest now' (with_name to t later)).1 (simplified_grows rest (and_reg to scope) scoped.2 now' (with_name to t later)))) now further k) pass next (grown_same scope next)
  simplified_grows (Do (SetVar var from) rest) scope scoped pass next = simplified_grows rest scope scoped.2 pass next
  simplified_grows (Do (WriteOwn layout field from stmt) rest) scope scoped pass next = simplified_grows rest scope scoped.2 pass next
  simplified_grows (Do (Contribute how layout field place from index stmt) rest) scope scoped pass next =
      placed_grows given scope next layout (map (made_name next) index) _
      (λ p now later h. grown_on scope next later (simplified given rest now later).1 h (simplified_grows rest scope scoped.2 now later)) pass next (grown_same scope next)
  simplified_grows (Do (Wish layout index stmt) rest) scope scoped pass next = simplified_grows rest scope scoped.2 pass next
  simplified_grows (Branch cond block otherwise rest) scope scoped pass next =
      let first = simplified given block pass next in
      let second = simplified given otherwise pass first.1 in
      let more = simplified given rest pass second.1 in
      grown_on scope next second.1 more.1
      (grown_on scope next first.1 second.1 (simplified_grows block scope scoped.1 pass next) (simplified_grows otherwise scope scoped.2 pass first.1))
      (simplified_grows rest scope scoped.3 pass second.1)
  simplified_grows (Loop var lo hi body rest) scope scoped pass next =
      let turn = simplified given body (looped var lo hi pass) next in
      let more = simplified given rest pass turn.1 in
      grown_on scope next turn.1 more.1 (simplified_grows body scope scoped.0 (looped var lo hi pass) next) (simplified_grows rest scope scoped.1 pass turn.1)

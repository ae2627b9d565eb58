-- The place of an access, step by step.
use Rattle.std.proofs.Common.{◌≡◌, ℕ, zero, suc, ◌+◌, ◌*◌, ◌^◌, ◌<◌, ◌≤◌, true, eqb, ltb, leb, not, ◌&&◌, List, [], ◌∷◌, length, Some, None, refl, sym, ap, ◌∙◌, subst, arith}
use Rattle.std.specs.Prelude.{slice_get}
use Rattle.std.specs.List.{list_all, list_any}
use Rattle.std.proofs.lemmas.Bool.{and_parts, leb-true, ne_eqb, cond-false}
use Rattle.std.proofs.lemmas.Nat.{mul-le}
use Rattle.sg_coord.specs.Bounds.{IsBounds}
use Rattle.sg_words.specs.declared.operators.Ty.TheVariants as ty
use Rattle.sg_layout.specs.declared.shape.Size.{Size}
use Rattle.sg_layout.specs.declared.shape.NodeShape.{NodeShape}
use Rattle.sg_layout.specs.declared.shape.Shape.{Shape}
use Rattle.sg_layout.specs.Axes.{count_of, bounds_of_shape, extent_in, extent_over}
use Rattle.sg_layout.specs.Accepted.{IsAccepted}
use Rattle.sg_layout.specs.Rules.{has_good_extents, names_axes_once, has_few_axes, first_node_fault}
use Rattle.sg_layout.proofs.Uses.{faultless_head, faultless_tail, in_some, axes_declared, no_fault, all_good}
use Rattle.sg_ir.specs.Places.{extents_in}
use Rattle.sg_ir.specs.declared.code.Inst.{Inst}
use Rattle.sg_ir.specs.declared.op.Op.TheVariants as op
use Rattle.sg_ir.specs.declared.op.Step.TheVariants as step
use Rattle.sg_ir.specs.declared.op.Descent.{Descent}
use Rattle.sg_simplify.specs.declared.made.Made.{Made}
use Rattle.sg_simplify.specs.steps.Pass.{Given, Making, taken, stepped, checks_made, part, offset_made, offset, descent_of, descended, placed_in, place_made}
use Rattle.sg_simplify.specs.steps.Made.{pass_of, next_of, Goes, AreWide, check_in}
use Rattle.sg_simplify.proofs.Making.{longer-none, goes-here, goes-on, goes-from}

-- extents of nodes that are no larger than those of the layout
over_parts : (m n : ℕ) → 1 ≤ m → m * n ≤ 2 ^ 15 → n ≤ 2 ^ 15
over_parts m n some whole = let h : 1 * n ≤ m * n = mul-le 1 n m n some (omega arith) in omega arith

pub wide-later : (node : NodeShape) (later : List NodeShape) → AreWide (node ∷ later) → AreWide later
wide-later node later wide =
    let good = and_parts (has_good_extents node) (list_all has_good_extents later) wide.good in
    record { good = good.1; small = λ axis first. over_parts (extent_in node.sizes axis) (extent_over later axis) (in_some node.sizes axis good.0) (wide.small axis first) }

unnamed-in : (axes axis : ℕ) (sizes : List Size) → axes < axis → names_axes_once axes sizes ≡ true → extent_in sizes axis ≡ 1
unnamed-in axes axis [] past good = refl
unnamed-in axes axis (size ∷ sizes) past good =
    let parts = and_parts (ltb 0 size.axis && leb size.axis axes) (not (list_any (λ other. eqb other.axis size.axis) sizes) && names_axes_once axes sizes) good in
    let known = leb-true size.axis axes (and_parts (ltb 0 size.axis) (leb size.axis axes) parts.0).1 in
    let rest = and_parts (not (list_any (λ other. eqb other.axis size.axis) sizes)) (names_axes_once axes sizes) parts.1 in
    cond-false (eqb size.axis axis) (count_of size.extent) (extent_in sizes axis) (ne_eqb size.axis axis (λ same. omega arith))
    ∙ unnamed-in axes axis sizes past rest.1

unnamed-over : (axes axis number : ℕ) (nodes : List NodeShape) → axes < axis → first_node_fault axes number nodes ≡ None → extent_over nodes axis ≡ 1
unnamed-over axes axis number [] past none = refl
unnamed-over axes axis number (node ∷ later) past none =
    let keep = faultless_head axes number node later none in
    let once = (and_parts (names_axes_once axes node.sizes) (has_few_axes node.kind node.sizes) keep.names).0 in
    let here : extent_in node.sizes axis ≡ 1 = unnamed-in axes axis node.sizes past once in
    let rest : extent_over later axis ≡ 1 = unnamed-over axes axis (suc number) later past (faultless_tail axes number node later none) in
    ap (λ n. n * extent_over later axis) here ∙ ap (λ n. 1 * n) rest

pub wide-shape : (shape : Shape) → IsAccepted shape → IsBounds (bounds_of_shape shape) → AreWide shape.nodes
wide-shape shape accepted good = record { good = all_good shape accepted; small = λ axis first. small axis first }
  where
    small : (axis : ℕ) → 1 ≤ axis → extent_over shape.nodes axis ≤ 2 ^ 15
    small zero first = absurd (omega arith)
    small (suc zero) first = good.a_most
    small (suc (suc zero)) first = good.b_most
    small (suc (suc (suc zero))) first = good.c_most
    small (suc (suc (suc (suc k)))) first =
        let few = axes_declared shape accepted.declared in
        let one : extent_over shape.nodes (suc (suc (suc (suc k)))) ≡ 1 = unnamed-over shape.axes (suc (suc (suc (suc k)))) 1 shape.nodes (omega arith) (no_fault shape accepted) in
        omega arith

-- checks
pub checked-none : (axis : ℕ) (extents index : List ℕ) (place : ℕ) (made : Made) (x : List Inst) → length extents < 1 → (go : ℕ → Making) → Goes made made x x (checks_made axis extents index place go) (go place)
checked-none axis [] index place made x none go = goes-here made made x (checks_made axis [] index place go) (go place) (longer-none made) refl
checked-none axis (extent ∷ extents) index place made x none go = absurd (omega arith)

pub checked-no-index : (axis : ℕ) (extents index : List ℕ) (place : ℕ) (made : Made) (x : List Inst) → length index < 1 → (go : ℕ → Making) → Goes made made x x (checks_made axis extents index place go) (go place)
checked-no-index axis [] index place made x none go = goes-here made made x (checks_made axis [] index place go) (go place) (longer-none made) refl
checked-no-index axis (extent ∷ extents) [] place made x none go = goes-here made made x (checks_made axis (extent ∷ extents) [] place go) (go place) (longer-none made) refl
checked-no-index axis (extent ∷ extents) (r ∷ index) place made x none go = absurd (omega arith)

pub checked-next : (axis extent first place next to : ℕ) (extents more index rest : List ℕ) (old mid new : Made) (x y z : List Inst) → extents ≡ extent ∷ more → index ≡ first ∷ rest →
    ((go : ℕ → Making) → Goes old mid x y (check_in axis extent first place go) (go next)) → ((go : ℕ → Making) → Goes mid new y z (checks_made (axis + 1) more rest next go) (go to)) →
    (go : ℕ → Making) → Goes old new x z (checks_made axis extents index place go) (go to)
checked-next axis extent first place next to extents more index rest old mid new x y z is are one others go =
    let further : ℕ → Making = λ p. checks_made (suc axis) more rest p go in
    let last : Goes mid new y z (further next) (go to) = subst (λ n. Goes mid new y z (checks_made n more rest next go) (go to)) (omega arith) (others go) in
    let whole : Goes old new x z (checks_made axis (extent ∷ more) (first ∷ rest) place go) (go to) = goes-on old mid new x y z (checks_made axis (extent ∷ more) (first ∷ rest) place go) (further next) (go to) (one further) last in
    subst (λ (it : List ℕ). Goes old new x z (checks_made axis it index place go) (go to)) (sym is) (subst (λ (it : List ℕ). Goes old new x z (checks_made axis (extent ∷ more) it place go) (go to)) (sym are) whole)

-- the part of an index
pub part-goes : (given : Given) (node : NodeShape) (later : List NodeShape) (axis from div size to : ℕ) (index : List ℕ) (old new : Made) (x y : List Inst) → div ≡ extent_over later axis → size ≡ extent_in node.sizes axis → index ≡ [] →
    ((go : ℕ → Making) → Goes old new x y (taken given ty.U32 (op.Extract div size from) index go) (go to)) → (go : ℕ → Making) → Goes old new x y (part given node later axis from go) (go to)
part-goes given node later axis from div size to index old new x y over within none goes go =
    goes-from old new x y (part given node later axis from go) (taken given ty.U32 (op.Extract div size from) index go) (go to)
    (ap (λ d. taken given ty.U32 (op.Extract d (extent_in node.sizes axis) from) [] go (pass_of old) (next_of old)) (sym over)
    ∙ ap (λ s. taken given ty.U32 (op.Extract div s from) [] go (pass_of old) (next_of old)) (sym within)
    ∙ ap (λ regs. taken given ty.U32 (op.Extract div size from) regs go (pass_of old) (next_of old)) (sym none))
    (goes go)

-- offsets
pub joined-none : (given : Given) (node : NodeShape) (later : List NodeShape) (axis : ℕ) (index : List ℕ) (high : ℕ) (made : Made) (x : List Inst) → length index < 1 → (go : ℕ → Making) →
    Goes made made x x (offset_made given node later axis index high go) (go high)
joined-none given node later axis [] high made x none go = goes-here made made x (offset_made given node later axis [] high go) (go high) (longer-none made) refl
joined-none given node later axis (r ∷ index) high made x none go = absurd (omega arith)

pub joined-next : (given : Given) (node : NodeShape) (later : List NodeShape) (axis first high low size next following to : ℕ) (index rest none : List ℕ) (old mid last new : Made) (w x y z : List Inst) → index ≡ first ∷ rest →
    size ≡ extent_in node.sizes axis → none ≡ [] → following ≡ axis + 1 →
    ((go : ℕ → Making) → Goes old mid w x (part given node later axis first go) (go low)) →
    ((go : ℕ → Making) → Goes mid last x y (taken given ty.U32 (op.Offset high size low) none go) (go next)) →
    ((go : ℕ → Making) → Goes last new y z (offset_made given node later following rest next go) (go to)) →
    (go : ℕ → Making) → Goes old new w z (offset_made given node later axis index high go) (go to)
joined-next given node later axis first high low size next following to index rest none old mid last new w x y z are within empty follows one two others go =
    subst (λ (it : List ℕ). Goes old new w z (offset_made given node later axis it high go) (go to)) (sym are)
    (goes-on old mid new w x z (offset_made given node later axis (first ∷ rest) high go) (offsets low) (go to) (one offsets)
    (goes-on mid last new x y z (offsets low) (further next) (go to)
    (goes-from mid last x y (offsets low) (taken given ty.U32 (op.Offset high size low) none further) (further next)
    (ap (λ s. taken given ty.U32 (op.Offset high s low) [] further (pass_of mid) (next_of mid)) (sym within)
    ∙ ap (λ regs. taken given ty.U32 (op.Offset high size low) regs further (pass_of mid) (next_of mid)) (sym empty))
    (two further))
    (subst (λ n. Goes last new y z (offset_made given node later n rest next go) (go to)) (omega arith) (others go))))
  where
    further : ℕ → Making
    further o = offset_made given node later (suc axis) rest o go

    offsets : ℕ → Making
    offsets l = taken given ty.U32 (op.Offset high (extent_in node.sizes axis) l) [] further

pub offset-none : (given : Given) (node : NodeShape) (later : List NodeShape) (index : List ℕ) (made : Made) (x : List Inst) → length index < 1 → (go : ℕ → Making) → Goes made made x x (offset given node later index go) (go 0)
offset-none given node later [] made x none go = goes-here made made x (offset given node later [] go) (go 0) (longer-none made) refl
offset-none given node later (r ∷ index) made x none go = absurd (omega arith)

pub offset-goes : (given : Given) (node : NodeShape) (later : List NodeShape) (first high to : ℕ) (index rest : List ℕ) (old mid new : Made) (x y z : List Inst) → index ≡ first ∷ rest →
    ((go : ℕ → Making) → Goes old mid x y (part given node later 1 first go) (go high)) → ((go : ℕ → Making) → Goes mid new y z (offset_made given node later 2 rest high go) (go to)) →
    (go : ℕ → Making) → Goes old new x z (offset given node later index go) (go to)
offset-goes given node later first high to index rest old mid new x y z are one others go =
    let further : ℕ → Making = λ h. offset_made given node later 2 rest h go in
    subst (λ (it : List ℕ). Goes old new x z (offset given node later it go) (go to)) (sym are)
    (goes-on old mid new x y z (offset given node later (first ∷ rest) go) (further high) (go to) (one further) (others go))

-- down the nodes
pub descended-none : (given : Given) (nodes : List NodeShape) (number : ℕ) (index : List ℕ) (place : ℕ) (made : Made) (x : List Inst) → length nodes < 1 → (go : ℕ → Making) →
    Goes made made x x (descended given nodes number index place go) (go place)
descended-none given [] number index place made x none go = goes-here made made x (descended given [] number index place go) (go place) (longer-none made) refl
descended-none given (node ∷ nodes) number index place made x none go = absurd (omega arith)

pub descended-next : (given : Given) (nodes later : List NodeShape) (node : NodeShape) (number place o next to : ℕ) (index : List ℕ) (descent : Descent) (old mid last new : Made) (w x y z : List Inst) → nodes ≡ node ∷ later →
    descent ≡ descent_of node.kind → ((go : ℕ → Making) → Goes old mid w x (offset given node later index go) (go o)) →
    ((go : ℕ → Making) → Goes mid last x y (stepped (step.Down descent place number o) go) (go next)) →
    ((go : ℕ → Making) → Goes last new y z (descended given later (number + 1) index next go) (go to)) →
    (go : ℕ → Making) → Goes old new w z (descended given nodes number index place go) (go to)
descended-next given nodes later node number place o next to index descent old mid last new w x y z are is one two others go =
    subst (λ (it : List NodeShape). Goes old new w z (descended given it number index place go) (go to)) (sym are)
    (goes-on old mid new w x z (descended given (node ∷ later) number index place go) (steps o) (go to) (one steps)
    (goes-on mid last new x y z (steps o) (further next) (go to)
    (goes-from mid last x y (steps o) (stepped (step.Down descent place number o) further) (further next)
    (ap (λ d. stepped (step.Down d place number o) further (pass_of mid) (next_of mid)) (sym is)) (two further))
    (subst (λ n. Goes last new y z (descended given later n index next go) (go to)) (omega arith) (others go))))
  where
    further : ℕ → Making
    further p = descended given later (suc number) index p go

    steps : ℕ → Making
    steps k = stepped (step.Down (descent_of node.kind) place number k) further

-- the whole
pub placed-none : (given : Given) (layout : ℕ) (index : List ℕ) (made : Made) (x : List Inst) → slice_get given.shapes layout ≡ None → (go : ℕ → Making) → Goes made made x x (place_made given layout index go) (go 0)
placed-none given layout index made x none go =
    goes-here made made x (place_made given layout index go) (go 0) (longer-none made) (ap (λ there. placed_in given there layout index go (pass_of made) (next_of made)) none)

pub placed-goes : (given : Given) (shape : Shape) (layout root inside to : ℕ) (index extents : List ℕ) (nodes : List NodeShape) (old mid last new : Made) (w x y z : List Inst) → slice_get given.shapes layout ≡ Some shape →
    extents ≡ extents_in (bounds_of_shape shape) → nodes ≡ shape.nodes → ((go : ℕ → Making) → Goes old mid w x (stepped (step.Root layout) go) (go root)) →
    ((go : ℕ → Making) → Goes mid last x y (checks_made 0 extents index root go) (go inside)) →
    ((go : ℕ → Making) → Goes last new y z (descended given nodes 1 index inside go) (go to)) →
    (go : ℕ → Making) → Goes old new w z (place_made given layout index go) (go to)
placed-goes given shape layout root inside to index extents nodes old mid last new w x y z there are same one two three go =
    goes-from old new w z (place_made given layout index go) (stepped (step.Root layout) checks) (go to) (ap (λ it. placed_in given it layout index go (pass_of old) (next_of old)) there)
    (goes-on old mid new w x z (stepped (step.Root layout) checks) (checks root) (go to) (one checks)
    (goes-on mid last new x y z (checks root) (further inside) (go to)
    (goes-from mid last x y (checks root) (checks_made 0 extents index root further) (further inside) (ap (λ it. checks_made 0 it index root further (pass_of mid) (next_of mid)) (sym are)) (two further))
    (subst (λ (it : List NodeShape). Goes last new y z (descended given it 1 index inside go) (go to)) same (three go))))
  where
    further : ℕ → Making
    further p = descended given shape.nodes 1 index p go

    checks : ℕ → Making
    checks k = checks_made 0 (extents_in (bounds_of_shape shape)) index k further

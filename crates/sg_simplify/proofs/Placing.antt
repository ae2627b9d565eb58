-- The place of an access, built anew, is that of the coordinate that its index registers name.
use Rattle.std.specs.Prelude.{◌≡◌, refl, ℕ, suc, ◌<◌, Bool, true, false, ◌&&◌, if◌then◌else◌, List, [], ◌∷◌, length, map, slice_get, Option, Some, None, ℤ, pos, ◌≤ℤ◌, int_le, int_lt}
use Rattle.std.proofs.Common.{arith, sym, ap, subst, ◌∙◌}
use Rattle.std.proofs.lemmas.Int.{ints}
use Rattle.sg_words.specs.declared.operators.Ty.TheVariants as ty
use Rattle.sg_words.specs.Words.{number}
use Rattle.sg_coord.specs.Coord.{is_on_axis}
use Rattle.sg_layout.specs.declared.shape.NodeShape.{NodeShape}
use Rattle.sg_layout.specs.declared.shape.Shape.{Shape}
use Rattle.sg_layout.specs.Axes.{bounds_of_shape, extent_in, extent_over}
use Rattle.sg_ir.specs.declared.op.Op.TheVariants as op
use Rattle.sg_ir.specs.declared.op.Step.TheVariants as step
use Rattle.sg_ir.specs.Runs.{Seen, Place, coord_of, check}
use Rattle.sg_ir.specs.Places.{place_at}
use Rattle.sg_ir.specs.Blocks.{Block}
use Rattle.sg_ir.specs.declared.span.Span.{Span}
use Rattle.sg_ir.specs.Trimmed.{is_within}
use Rattle.sg_ir.specs.SpanLaws.{Lies}
use Rattle.sg_ir.specs.Scoped.{RunMoment, Room}
use Rattle.sg_ir.specs.Places.{extents_in}
use Rattle.sg_ir.specs.steps.Walks.{checks, digit, offset_from, node_offset, led}
use Rattle.sg_simplify.specs.steps.Pass.{Given, Pass, Next, Making, span_in, taken, stepped, check_at, checks_made, part, offset_made, offset, descent_of, descended, placed_in, place_made}
use Rattle.sg_simplify.specs.steps.Serves.{EachByRecursion, Laws, HoldsInRoom, Later, Good, Serves, ServesPlace, IsIndex, Leads}
use Rattle.sg_simplify.proofs.Serving.{later_same, later_on, alike_same, alike_on, serves_later, serves_place_later, taken_law, stepped_law}

-- an index that is within needs no check
within_axis : (extent : ℕ) (lo hi z : ℤ) → (int_le (pos 0) lo && int_lt hi (pos extent)) ≡ true → lo ≤ℤ z → z ≤ℤ hi → is_on_axis extent z ≡ true
within_axis extent lo hi z e low high = grind (arith, ints)

needs_none : (extent word : ℕ) (span : Span) (place : Option Place) → is_within extent span ≡ true → Lies span word → check extent word place ≡ place
needs_none extent word span place e lies = by_test (is_on_axis extent (number ty.I32 word)) (within_axis extent span.lo span.hi (number ty.I32 word) e lies.low lies.high)
  where
    by_test : (test : Bool) → test ≡ true → (if test then place else None) ≡ place
    by_test true e = refl
    by_test false e = absurd (cc)

-- index registers later
pub words_kept : (next : Next) (room : Room) (further : Next) (beyond : Room) → Later next room further beyond → (index : List ℕ) → EachByRecursion (λ r. r < length next.spans) index → map beyond.regs index ≡ map room.regs index
words_kept next room further beyond later [] all = refl
words_kept next room further beyond later (r ∷ index) all = rw (later.kept r all.0, words_kept next room further beyond later index all.1) refl

index_later : (next : Next) (room : Room) (further : Next) (beyond : Room) → Later next room further beyond → (index : List ℕ) → EachByRecursion (IsIndex next room) index → EachByRecursion (IsIndex further beyond) index
index_later next room further beyond later [] all = tt
index_later next room further beyond later (r ∷ index) all = let h = all.0.0 in let more = later.regs in
    ((omega arith, rw (later.spans r all.0.0, later.kept r all.0.0) all.0.1), index_later next room further beyond later index all.1)

pub index_below : (next : Next) (room : Room) (index : List ℕ) → EachByRecursion (IsIndex next room) index → EachByRecursion (λ r. r < length next.spans) index
index_below next room [] all = tt
index_below next room (r ∷ index) all = (all.0.0, index_below next room index all.1)

module _ (seen : Seen) (laws : Laws seen) (given : Given) (rest : Block) (now result : RunMoment) where
  serves_is : (pass : Pass) (next : Next) (room : Room) (v w : ℕ) (go : ℕ → Making) → v ≡ w → Serves seen given rest pass next room now result w go → Serves seen given rest pass next room now result v go
  serves_is pass next room v w go e serves = subst (λ word. Serves seen given rest pass next room now result word go) (sym e) serves

  place_is : (pass : Pass) (next : Next) (room : Room) (m n : ℕ) (v w : Option Place) (go : ℕ → Making) → m ≡ n → v ≡ w
      → ServesPlace seen given rest pass next room now result n w go → ServesPlace seen given rest pass next room now result m v go
  place_is pass next room m n v w go d e serves =
      subst (λ root. ServesPlace seen given rest pass next room now result root v go) (sym d) (subst (λ place. ServesPlace seen given rest pass next room now result n place go) (sym e) serves)

  part_law : (node : NodeShape) (later : List NodeShape) (axis r : ℕ) (go : ℕ → Making) (pass : Pass) (next : Next) (room : Room) → HoldsInRoom seen given rest pass next room now → IsIndex next room r
      → Serves seen given rest pass next room now result (digit node later axis (room.regs r)) go → Good seen (part given node later axis r go pass next) room now result
  part_law node later axis r go pass next room holds is serves =
      taken_law seen laws given rest ty.U32 (op.Extract (extent_over later axis) (extent_in node.sizes axis) r) [] go pass next room now result holds tt is.0 tt is.1 tt serves

  joined_law : (node : NodeShape) (later : List NodeShape) (index : List ℕ) (axis high : ℕ) (go : ℕ → Making) (pass : Pass) (next : Next) (room : Room) → HoldsInRoom seen given rest pass next room now
      → high < length next.spans → Lies (span_in next high) (room.regs high) → EachByRecursion (IsIndex next room) index
      → Serves seen given rest pass next room now result (offset_from node later axis (map room.regs index) (room.regs high)) go → Good seen (offset_made given node later axis index high go pass next) room now result
  joined_law node later [] axis high go pass next room holds below lies all serves = serves high pass next room (later_same next room) (alike_same pass next) holds below refl lies
  joined_law node later (r ∷ index) axis high go pass next room holds below lies all serves =
      part_law node later axis r (λ low. taken given ty.U32 (op.Offset high (extent_in node.sizes axis) low) [] (λ o. offset_made given node later (suc axis) index o go)) pass next room holds all.0
      (λ low known further beyond behind loops holding low_below low_is low_lies.
      let more = behind.regs in
      taken_law seen laws given rest ty.U32 (op.Offset high (extent_in node.sizes axis) low) [] (λ o. offset_made given node later (suc axis) index o go) known further beyond now result holding tt (omega arith, low_below) tt (rw (behind.spans high below, behind.kept high below) lies, rw low_is low_lies) tt
      (λ o known' further' beyond' behind' loops' holding' o_below o_is o_lies.
      let whole_way = later_on next room further beyond further' beyond' behind behind' in
      joined_law node later index (suc axis) o go known' further' beyond' holding' o_below (rw o_is o_lies) (index_later next room further' beyond' whole_way index all.1)
      (serves_is known' further' beyond' _ (offset_from node later axis (map room.regs (r ∷ index)) (room.regs high)) go
      (rw (words_kept next room further' beyond' whole_way index (index_below next room index all.1), o_is, behind.kept high below, low_is) refl)
      (serves_later seen given rest pass next room known' further' beyond' now result _ go whole_way (alike_on pass next known further known' further' loops loops') serves))))

  offset_law : (node : NodeShape) (later : List NodeShape) (r : ℕ) (index : List ℕ) (go : ℕ → Making) (pass : Pass) (next : Next) (room : Room) → HoldsInRoom seen given rest pass next room now
      → EachByRecursion (IsIndex next room) (r ∷ index)
      → Serves seen given rest pass next room now result (node_offset node later (map room.regs (r ∷ index))) go → Good seen (offset given node later (r ∷ index) go pass next) room now result
  offset_law node later r index go pass next room holds all serves =
      part_law node later 1 r (λ high. offset_made given node later 2 index high go) pass next room holds all.0
      (λ high known further beyond behind loops holding high_below high_is high_lies.
      joined_law node later index 2 high go known further beyond holding high_below (rw high_is high_lies) (index_later next room further beyond behind index all.1)
      (serves_is known further beyond _ (node_offset node later (map room.regs (r ∷ index))) go (rw (words_kept next room further beyond behind index (index_below next room index all.1), high_is) refl)
      (serves_later seen given rest pass next room known further beyond now result _ go behind loops serves)))

  descended_law : (nodes : List NodeShape) (number : ℕ) (r : ℕ) (index : List ℕ) (place : ℕ) (go : ℕ → Making) (pass : Pass) (next : Next) (room : Room) → HoldsInRoom seen given rest pass next room now
      → place < next.places → EachByRecursion (IsIndex next room) (r ∷ index)
      → ServesPlace seen given rest pass next room now result (room.roots place) (led seen.shapes number nodes (map room.regs (r ∷ index)) (room.places place)) go → Good seen (descended given nodes number (r ∷ index) place go pass next) room now result
  descended_law [] number r index place go pass next room holds below all serves = serves place pass next room (later_same next room) (alike_same pass next) holds below refl refl
  descended_law (node ∷ later) number r index place go pass next room holds below all serves =
      offset_law node later r index (λ o. stepped (step.Down (descent_of node.kind) place number o) (λ p. descended given later (suc number) (r ∷ index) p go)) pass next room holds all
      (λ o known further beyond behind loops holding o_below o_is o_lies.
      let more = behind.places in
      stepped_law seen laws given rest (step.Down (descent_of node.kind) place number o) (λ p. descended given later (suc number) (r ∷ index) p go) known further beyond now result holding (omega arith, o_below)
      (λ p known' further' beyond' behind' loops' holding' p_below p_is p_root.
      let whole_way = later_on next room further beyond further' beyond' behind behind' in
      descended_law later (suc number) r index p go known' further' beyond' holding' p_below (index_later next room further' beyond' whole_way (r ∷ index) all)
      (place_is known' further' beyond' (beyond'.roots p) (room.roots place) _ (led seen.shapes number (node ∷ later) (map room.regs (r ∷ index)) (room.places place)) go (p_root ∙ behind.kept_roots place below)
      (rw (words_kept next room further' beyond' whole_way (r ∷ index) (index_below next room (r ∷ index) all), p_is, behind.kept_places place below, o_is) refl)
      (serves_place_later seen given rest pass next room known' further' beyond' now result _ _ go whole_way (alike_on pass next known further known' further' loops loops') serves))))

  checked_law : (extents : List ℕ) (axis : ℕ) (index : List ℕ) (place : ℕ) (go : ℕ → Making) (pass : Pass) (next : Next) (room : Room) → HoldsInRoom seen given rest pass next room now
      → place < next.places → EachByRecursion (IsIndex next room) index
      → ServesPlace seen given rest pass next room now result (room.roots place) (checks extents (map room.regs index) (room.places place)) go → Good seen (checks_made axis extents index place go pass next) room now result
  checked_law [] axis index place go pass next room holds below all serves = serves place pass next room (later_same next room) (alike_same pass next) holds below refl refl
  checked_law (extent ∷ extents) axis [] place go pass next room holds below all serves = serves place pass next room (later_same next room) (alike_same pass next) holds below refl refl
  checked_law (extent ∷ extents) axis (r ∷ index) place go pass next room holds below all serves = by_test (is_within extent (span_in next r)) refl
      (checked_law extents (suc axis) index place go pass next room holds below all.1)
      (λ p known further beyond behind holding p_below. checked_law extents (suc axis) index p go known further beyond holding p_below (index_later next room further beyond behind index all.1))
    where
      by_test : (test : Bool) → is_within extent (span_in next r) ≡ test
          → (ServesPlace seen given rest pass next room now result (room.roots place) (checks extents (map room.regs index) (room.places place)) go → Good seen (checks_made (suc axis) extents index place go pass next) room now result)
          → ((p : ℕ) (known : Pass) (further : Next) (beyond : Room) → Later next room further beyond → HoldsInRoom seen given rest known further beyond now → p < further.places
          → ServesPlace seen given rest known further beyond now result (beyond.roots p) (checks extents (map beyond.regs index) (beyond.places p)) go → Good seen (checks_made (suc axis) extents index p go known further) beyond now result)
          → Good seen (check_at test (step.Check place axis extent r) place (λ p. checks_made (suc axis) extents index p go) pass next) room now result
      by_test true e same more = same
          (place_is pass next room (room.roots place) (room.roots place) _ (checks (extent ∷ extents) (map room.regs (r ∷ index)) (room.places place)) go refl
          (ap (checks extents (map room.regs index)) (sym (needs_none extent (room.regs r) (span_in next r) (room.places place) e all.0.1))) serves)
      by_test false e same more =
          stepped_law seen laws given rest (step.Check place axis extent r) (λ p. checks_made (suc axis) extents index p go) pass next room now result holds (below, all.0.0)
          (λ p known further beyond behind loops holding p_below p_is p_root. more p known further beyond behind holding p_below
          (place_is known further beyond (beyond.roots p) (room.roots place) _ (checks (extent ∷ extents) (map room.regs (r ∷ index)) (room.places place)) go p_root
          (rw (words_kept next room further beyond behind index (index_below next room index all.1), p_is) refl)
          (serves_place_later seen given rest pass next room known further beyond now result _ _ go behind loops serves)))

  -- the place of an access
  pub placed_law : (shape : Shape) (layout r : ℕ) (index : List ℕ) (go : ℕ → Making) (pass : Pass) (next : Next) (room : Room) → given.shapes ≡ seen.shapes → slice_get seen.shapes layout ≡ Some shape
      → Leads seen.shapes layout shape (map room.regs (r ∷ index)) → HoldsInRoom seen given rest pass next room now → EachByRecursion (IsIndex next room) (r ∷ index)
      → ServesPlace seen given rest pass next room now result layout (place_at seen.shapes layout (coord_of (map room.regs (r ∷ index)))) go → Good seen (place_made given layout (r ∷ index) go pass next) room now result
  placed_law shape layout r index go pass next room same there leads holds all serves =
      subst (λ (found : Option Shape). Good seen (placed_in given found layout (r ∷ index) go pass next) room now result) (sym (ap (λ (shapes : List Shape). slice_get shapes layout) same ∙ there))
      (stepped_law seen laws given rest (step.Root layout) (λ k. checks_made 0 (extents_in (bounds_of_shape shape)) (r ∷ index) k (λ p. descended given shape.nodes 1 (r ∷ index) p go)) pass next room now result holds tt
      (λ k known further beyond behind loops holding k_below k_is k_root.
      checked_law (extents_in (bounds_of_shape shape)) 0 (r ∷ index) k (λ p. descended given shape.nodes 1 (r ∷ index) p go) known further beyond holding k_below (index_later next room further beyond behind (r ∷ index) all)
      (λ p known' further' beyond' behind' loops' holding' p_below p_is p_root.
      let whole_way = later_on next room further beyond further' beyond' behind behind' in
      let below = index_below next room (r ∷ index) all in
      descended_law shape.nodes 1 r index p go known' further' beyond' holding' p_below (index_later next room further' beyond' whole_way (r ∷ index) all)
      (place_is known' further' beyond' (beyond'.roots p) layout _ (place_at seen.shapes layout (coord_of (map room.regs (r ∷ index)))) go (p_root ∙ k_root)
      (ap (λ words. led seen.shapes 1 shape.nodes words (beyond'.places p)) (words_kept next room further' beyond' whole_way (r ∷ index) below)
      ∙ ap (led seen.shapes 1 shape.nodes (map room.regs (r ∷ index)))
      (p_is ∙ ap (λ words. checks (extents_in (bounds_of_shape shape)) words (beyond.places k)) (words_kept next room further beyond behind (r ∷ index) below)
      ∙ ap (checks (extents_in (bounds_of_shape shape)) (map room.regs (r ∷ index))) k_is)
      ∙ leads)
      (serves_place_later seen given rest pass next room known' further' beyond' now result _ _ go whole_way (alike_on pass next known further known' further' loops loops') serves)))))

-- The steps of the walk that emits a place: checks, offsets, nodes.
use Rattle.std.proofs.Common.{◌≡◌, ℕ, zero, suc, ◌+◌, ◌-◌, ◌*◌, ◌/◌, ◌%◌, ◌^◌, ◌<◌, ◌≤◌, List, [], ◌∷◌, length, map, take, drop, get_or, All, refl, sym, ap, ◌∙◌, arith, Option, Some}
use Rattle.std.specs.Prelude.{slice_get}
use Rattle.sg_layout.specs.declared.shape.NodeShape.{NodeShape}
use Rattle.sg_layout.specs.declared.shape.Shape.{Shape}
use Rattle.sg_layout.specs.Axes.{extent_in, extent_over}
use Rattle.sg_ir.specs.declared.code.Inst.{Inst}
use Rattle.sg_ir.specs.declared.names.Names.{Names}
use Rattle.sg_ir.specs.Runs.{Place, Moved, check, down, runs}
use Rattle.sg_ir.specs.Trimmed.{Way}
use Rattle.sg_ir.specs.Emits.{AtPlace, Keeps, Extends, Computes, Reaches}
use Rattle.sg_ir.specs.steps.Walks.{checks, digit, offset_from, node_offset, led}
use Rattle.sg_ir.proofs.Extending.{extends-same, extends-trans, quiet-trans, reaches-then, computes-then, words-kept, first_rest, rest-whole, all_rest, empty_from}

drop_at : (xs : List ℕ) (i x : ℕ) → Some x ≡ slice_get xs i → drop i xs ≡ x ∷ drop (i + 1) xs
drop_at [] i x there = absurd (cc)
drop_at (y ∷ xs) zero x there = let same : y ≡ x = cc in ap (λ z. z ∷ xs) same
drop_at (y ∷ xs) (suc i) x there =
    let further : suc (i + 1) ≡ suc i + 1 = omega arith in
    drop_at xs i x there ∙ ap (λ k. x ∷ drop k (y ∷ xs)) further

checks-none : (extents : List ℕ) (place : Option Place) → checks extents [] place ≡ place
checks-none [] place = refl
checks-none (extent ∷ extents) place = refl

checks-more : (extents : List ℕ) (axis extent word : ℕ) (words : List ℕ) (place : Option Place) → Some extent ≡ slice_get extents axis →
    checks (drop axis extents) (word ∷ words) place ≡ checks (drop (axis + 1) extents) words (check extent word place)
checks-more extents axis extent word words place there = ap (λ es. checks es (word ∷ words) place) (drop_at extents axis extent there)

-- no axis is left
pub checks-done : (shapes : List Shape) (extents index : List ℕ) (place : ℕ) (names : Names) (block : List Inst) → length index < 1 → place < names.places →
    Reaches shapes (λ seen now. checks extents (map now.regs index) (now.places place)) (AtPlace place) place names names block block
checks-done shapes extents index place names block none named = record {
  extends = extends-same shapes names block;
  quiet = λ seen same start. refl;
  named = named;
  value = λ seen same start.
      sym (ap (λ xs. checks extents (map (runs seen block start).regs xs) ((runs seen block start).places place)) (empty_from index none) ∙ checks-none extents ((runs seen block start).places place));
  rooted = λ seen same start. refl;
  comes = λ ways. refl;
}

-- one axis is checked, and then those that are left
pub checks-next : (shapes : List Shape) (extents : List ℕ) (axis extent : ℕ) (index : List ℕ) (place next to : ℕ) (old mid new : Names) (a b c : List Inst) →
    Some extent ≡ slice_get extents axis → 1 ≤ length index → All (λ r. r < length old.regs) index →
    Reaches shapes (λ seen now. check extent (now.regs (get_or index 0 0)) (now.places place)) (AtPlace place) next old mid a b →
    Reaches shapes (λ seen now. checks (drop (axis + 1) extents) (map now.regs (take (length index - 1) (drop 1 index))) (now.places next)) (AtPlace next) to mid new b c →
    Reaches shapes (λ seen now. checks (drop axis extents) (map now.regs index) (now.places place)) (AtPlace place) to old new a c
checks-next shapes extents axis extent index place next to old mid new a b c there some named first second =
    reaches-then shapes _ _ _ _ to old mid new a b c first.extends first.quiet second (λ seen same start.
    let before : Moved = runs seen a start in
    let after : Moved = runs seen b start in
    let keeps : Keeps (length old.regs) old.places before after = first.extends.keeps seen same start in
    let words : map after.regs (take (length index - 1) (drop 1 index)) ≡ map before.regs (drop 1 index) =
    ap (map after.regs) (rest-whole index) ∙ words-kept (length old.regs) old.places before after (drop 1 index) (all_rest (λ r. r < length old.regs) index named) keeps in
    ap (λ ws. checks (drop (axis + 1) extents) ws (after.places next)) words
    ∙ ap (λ p. checks (drop (axis + 1) extents) (map before.regs (drop 1 index)) p) (first.value seen same start)
    ∙ sym (checks-more extents axis extent (before.regs (get_or index 0 0)) (map before.regs (drop 1 index)) (before.places place) there)
    ∙ ap (λ xs. checks (drop axis extents) (map before.regs xs) (before.places place)) (sym (first_rest index 0 some)))
    first.rooted first.comes

-- no axis is left of an offset
pub offset-done : (shapes : List Shape) (node : NodeShape) (later : List NodeShape) (axis : ℕ) (index : List ℕ) (high : ℕ) (names : Names) (block : List Inst) → length index < 1 → high < length names.regs →
    Computes shapes (λ seen now. offset_from node later axis (map now.regs index) (now.regs high)) high names names block block
offset-done shapes node later axis index high names block none named = record {
  extends = extends-same shapes names block;
  quiet = λ seen same start. refl;
  named = named;
  value = λ seen same start.
      sym (ap (λ xs. offset_from node later axis (map (runs seen block start).regs xs) ((runs seen block start).regs high)) (empty_from index none));
}

-- an offset goes on by one axis, and then by those that are left
pub offset-next : (shapes : List Shape) (node : NodeShape) (later : List NodeShape) (axis size : ℕ) (index : List ℕ) (high low next to : ℕ) (old mid1 mid2 new : Names) (a b c d : List Inst) →
    size ≡ extent_in node.sizes axis → 1 ≤ length index → high < length old.regs → All (λ r. r < length old.regs) index →
    Computes shapes (λ seen now. digit node later axis (now.regs (get_or index 0 0))) low old mid1 a b →
    Computes shapes (λ seen now. (now.regs high * size + now.regs low) % 2 ^ 32) next mid1 mid2 b c →
    Computes shapes (λ seen now. offset_from node later (axis + 1) (map now.regs (take (length index - 1) (drop 1 index))) (now.regs next)) to mid2 new c d →
    Computes shapes (λ seen now. offset_from node later axis (map now.regs index) (now.regs high)) to old new a d
offset-next shapes node later axis size index high low next to old mid1 mid2 new a b c d sized some high_named named first second third =
    let both : Extends shapes old mid2 a c = extends-trans shapes old mid1 mid2 a b c first.extends second.extends in
    computes-then shapes _ _ to old mid2 new a c d both (quiet-trans shapes a b c first.quiet second.quiet) third (λ seen same start.
    let before : Moved = runs seen a start in
    let mid : Moved = runs seen b start in
    let after : Moved = runs seen c start in
    let keeps : Keeps (length old.regs) old.places before after = both.keeps seen same start in
    let kept : Keeps (length old.regs) old.places before mid = first.extends.keeps seen same start in
    let rest : List ℕ = drop 1 index in
    let words : map after.regs (take (length index - 1) rest) ≡ map before.regs rest =
    ap (map after.regs) (rest-whole index) ∙ words-kept (length old.regs) old.places before after rest (all_rest (λ r. r < length old.regs) index named) keeps in
    let value : after.regs next ≡ (before.regs high * extent_in node.sizes axis + digit node later axis (before.regs (get_or index 0 0))) % 2 ^ 32 =
    second.value seen same start
    ∙ ap (λ h. (h * size + mid.regs low) % 2 ^ 32) (kept.regs high high_named)
    ∙ ap (λ l. (before.regs high * size + l) % 2 ^ 32) (first.value seen same start)
    ∙ ap (λ s. (before.regs high * s + digit node later axis (before.regs (get_or index 0 0))) % 2 ^ 32) sized in
    let further : axis + 1 ≡ suc axis = omega arith in
    ap (λ ws. offset_from node later (axis + 1) ws (after.regs next)) words
    ∙ ap (λ h. offset_from node later (axis + 1) (map before.regs rest) h) value
    ∙ ap (λ k. offset_from node later k (map before.regs rest) ((before.regs high * extent_in node.sizes axis + digit node later axis (before.regs (get_or index 0 0))) % 2 ^ 32)) further
    ∙ ap (λ xs. offset_from node later axis (map before.regs xs) (before.regs high)) (sym (first_rest index 0 some)))

-- the first axis of an offset, and then those that are left
pub offset-first : (shapes : List Shape) (node : NodeShape) (later : List NodeShape) (index : List ℕ) (high to : ℕ) (old mid new : Names) (a b c : List Inst) →
    1 ≤ length index → All (λ r. r < length old.regs) index →
    Computes shapes (λ seen now. digit node later 1 (now.regs (get_or index 0 0))) high old mid a b →
    Computes shapes (λ seen now. offset_from node later 2 (map now.regs (take (length index - 1) (drop 1 index))) (now.regs high)) to mid new b c →
    Computes shapes (λ seen now. node_offset node later (map now.regs index)) to old new a c
offset-first shapes node later index high to old mid new a b c some named first second =
    computes-then shapes _ _ to old mid new a b c first.extends first.quiet second (λ seen same start.
    let before : Moved = runs seen a start in
    let after : Moved = runs seen b start in
    let keeps : Keeps (length old.regs) old.places before after = first.extends.keeps seen same start in
    let rest : List ℕ = drop 1 index in
    let words : map after.regs (take (length index - 1) rest) ≡ map before.regs rest =
    ap (map after.regs) (rest-whole index) ∙ words-kept (length old.regs) old.places before after rest (all_rest (λ r. r < length old.regs) index named) keeps in
    ap (λ ws. offset_from node later 2 ws (after.regs high)) words
    ∙ ap (λ h. offset_from node later 2 (map before.regs rest) h) (first.value seen same start)
    ∙ ap (λ xs. node_offset node later (map before.regs xs)) (sym (first_rest index 0 some)))

-- no node is left
pub led-done : (shapes : List Shape) (number : ℕ) (nodes : List NodeShape) (index : List ℕ) (place : ℕ) (names : Names) (block : List Inst) → length nodes < 1 → place < names.places →
    Reaches shapes (λ seen now. led shapes number nodes (map now.regs index) (now.places place)) (AtPlace place) place names names block block
led-done shapes number nodes index place names block none named = record {
  extends = extends-same shapes names block;
  quiet = λ seen same start. refl;
  named = named;
  value = λ seen same start.
      sym (ap (λ ns. led shapes number ns (map (runs seen block start).regs index) ((runs seen block start).places place)) (empty_from nodes none));
  rooted = λ seen same start. refl;
  comes = λ ways. refl;
}

-- one node, and then those that are left
pub led-next : (shapes : List Shape) (number : ℕ) (nodes : List NodeShape) (node : NodeShape) (index : List ℕ) (place offset next to : ℕ) (old mid1 mid2 new : Names) (a b c d : List Inst) →
    nodes ≡ node ∷ drop 1 nodes → place < old.places → All (λ r. r < length old.regs) index →
    Computes shapes (λ seen now. node_offset node (take (length nodes - 1) (drop 1 nodes)) (map now.regs index)) offset old mid1 a b →
    Reaches shapes (λ seen now. down seen.shapes number (now.regs offset) (now.places place)) (AtPlace place) next mid1 mid2 b c →
    Reaches shapes (λ seen now. led shapes (number + 1) (take (length nodes - 1) (drop 1 nodes)) (map now.regs index) (now.places next)) (AtPlace next) to mid2 new c d →
    Reaches shapes (λ seen now. led shapes number nodes (map now.regs index) (now.places place)) (AtPlace place) to old new a d
led-next shapes number nodes node index place offset next to old mid1 mid2 new a b c d split place_named named first second third =
    let both : Extends shapes old mid2 a c = extends-trans shapes old mid1 mid2 a b c first.extends second.extends in
    reaches-then shapes _ _ _ _ to old mid2 new a c d both (quiet-trans shapes a b c first.quiet second.quiet) third (λ seen same start.
    let before : Moved = runs seen a start in
    let mid : Moved = runs seen b start in
    let after : Moved = runs seen c start in
    let keeps : Keeps (length old.regs) old.places before after = both.keeps seen same start in
    let kept : Keeps (length old.regs) old.places before mid = first.extends.keeps seen same start in
    let later : List NodeShape = drop 1 nodes in
    let words : map after.regs index ≡ map before.regs index = words-kept (length old.regs) old.places before after index named keeps in
    let offset_is : mid.regs offset ≡ node_offset node later (map before.regs index) =
    first.value seen same start ∙ ap (λ ns. node_offset node ns (map before.regs index)) (rest-whole nodes) in
    let reached : after.places next ≡ down shapes number (node_offset node later (map before.regs index)) (before.places place) =
    second.value seen same start
    ∙ ap (λ ss. down ss number (mid.regs offset) (mid.places place)) same
    ∙ ap (λ o. down shapes number o (mid.places place)) offset_is
    ∙ ap (λ p. down shapes number (node_offset node later (map before.regs index)) p) (kept.places place place_named) in
    let further : number + 1 ≡ suc number = omega arith in
    ap (λ ns. led shapes (number + 1) ns (map after.regs index) (after.places next)) (rest-whole nodes)
    ∙ ap (λ ws. led shapes (number + 1) later ws (after.places next)) words
    ∙ ap (λ p. led shapes (number + 1) later (map before.regs index) p) reached
    ∙ ap (λ k. led shapes k later (map before.regs index) (down shapes number (node_offset node later (map before.regs index)) (before.places place))) further
    ∙ ap (λ ns. led shapes number ns (map before.regs index) (before.places place)) (sym split))
    (λ seen same start. second.rooted seen same start ∙ (first.extends.keeps seen same start).roots place place_named)
    (λ ways. second.comes ways ∙ ap (λ (it : Way). it.root) (first.extends.ways ways place place_named))

-- a part of a word, where divisor and size are those of the node
pub digit-from : (shapes : List Shape) (node : NodeShape) (later : List NodeShape) (axis div size from to : ℕ) (old new : Names) (a b : List Inst) →
    div ≡ extent_over later axis → size ≡ extent_in node.sizes axis → Computes shapes (λ seen now. now.regs from / div % size) to old new a b → Computes shapes (λ seen now. digit node later axis (now.regs from)) to old new a b
digit-from shapes node later axis div size from to old new a b div_is size_is computes = record {
  extends = computes.extends;
  quiet = computes.quiet;
  named = computes.named;
  value = λ seen same start.
      computes.value seen same start
      ∙ ap (λ d. (runs seen a start).regs from / d % size) div_is
      ∙ ap (λ s. (runs seen a start).regs from / extent_over later axis % s) size_is;
}

-- The widths that a frame counts, node by node.
use Rattle.std.proofs.Common.{◌≡◌, ℕ, zero, suc, ◌+◌, ◌*◌, ◌<◌, ◌≤◌, List, [], ◌∷◌, ◌++◌, length, drop, refl, sym, ap, ◌∙◌, subst, arith, inl, inr, length-append}
use Rattle.std.specs.Prelude.{Some, slice_get}
use Rattle.std.proofs.lemmas.Bool.{cases_eq}
use Rattle.std.proofs.lemmas.Option.{none-some, same_Some, slice_get_within}
use Rattle.sg_layout.specs.declared.shape.Kind.{Kind}
use Rattle.sg_layout.specs.declared.shape.NodeShape.{NodeShape}
use Rattle.sg_store.specs.declared.frame.NodeWidths.{NodeWidths}
use Rattle.sg_store.specs.Spots.{width_past, width_from}
use Rattle.sg_store.specs.steps.Widths.{IsWidths, AreWidths}
use Rattle.sg_store.proofs.SpotPlaces.{IsNarrow, IsWidth, width_fits, width_on}

-- the widths of the first nodes, and what is carried on to the next one
pub record AreFirst (nodes : List NodeShape) (through before : ℕ) (widths : List NodeWidths) : Type 0 where
  pub many : length widths ≡ through
  pub each : (index : ℕ) (own : NodeWidths) → slice_get widths index ≡ Some own → IsWidths nodes index own
  pub is : before ≡ width_from 1 nodes through
  pub narrow : IsNarrow (drop through nodes) before

pub first_none : (nodes : List NodeShape) (widths : List NodeWidths) → widths ≡ [] → IsNarrow nodes 1 → AreFirst nodes 0 1 widths
first_none nodes widths none narrow = record {
  many = ap length none;
  each = λ index own at. absurd (none-some own (sym (ap (λ l. slice_get l index) none) ∙ at));
  is = refl;
  narrow = narrow;
}

before_push : (xs : List NodeWidths) (x : NodeWidths) (i : ℕ) → i < length xs → slice_get (xs ++ x ∷ []) i ≡ slice_get xs i
before_push [] x i below = absurd (omega (arith, below))
before_push (y ∷ xs) x zero below = refl
before_push (y ∷ xs) x (suc i) below = before_push xs x i (omega (arith, below))

at_push : (xs : List NodeWidths) (x : NodeWidths) → slice_get (xs ++ x ∷ []) (length xs) ≡ Some x
at_push [] x = refl
at_push (y ∷ xs) x = at_push xs x

pub first_more : (nodes : List NodeShape) (i before size after : ℕ) (kind : Kind) (widths more : List NodeWidths) (own : NodeWidths) → AreFirst nodes i before widths → IsWidth nodes i before size kind → 1 ≤ size → after ≡ width_past kind (before * size) → own ≡ record { kind = kind; size = size; before = before; after = after } → more ≡ widths ++ own ∷ [] → AreFirst nodes (i + 1) after more
first_more nodes i before size after kind widths more own first step some is own_is more_is =
    let next = width_on nodes i before size kind after step is in
    let one : suc i ≡ i + 1 = omega arith in
    let mine : IsWidths nodes i (record { kind = kind; size = size; before = before; after = after }) = record {
      kind_is = step.kinded;
      size_is = step.sized;
      before_is = step.is;
      after_is = next.0 ∙ ap (width_from 1 nodes) (sym one);
      past_is = is;
      some_size = some;
      some_before = step.narrow.some_width;
      some_after = next.1.some_width;
      room = width_fits nodes i before size kind step;
    } in
    record {
      many = ap length more_is ∙ length-append widths (own ∷ []) ∙ ap (λ n. n + 1) first.many;
      each = λ index other at.
          let at_more : slice_get (widths ++ own ∷ []) index ≡ Some other = ap (λ l. slice_get l index) (sym more_is) ∙ at in
          elim (cases_eq index (length widths)) [
            | inl last ↦
                let same : own ≡ other = same_Some own other (sym (at_push widths own) ∙ ap (slice_get (widths ++ own ∷ [])) (sym last) ∙ at_more) in
                subst (λ w. IsWidths nodes index w) (sym own_is ∙ same) (subst (λ n. IsWidths nodes n (record { kind = kind; size = size; before = before; after = after })) (sym (last ∙ first.many)) mine)
            | inr earlier ↦
                let within : index < length (widths ++ own ∷ []) = slice_get_within (widths ++ own ∷ []) index other at_more in
                let long : length (widths ++ own ∷ []) ≡ length widths + 1 = length-append widths (own ∷ []) in
                first.each index other (sym (before_push widths own index (omega (arith, within, long, earlier))) ∙ at_more)
          ];
      is = next.0;
      narrow = next.1;
    }

pub first_all : (nodes : List NodeShape) (i before : ℕ) (widths : List NodeWidths) → AreFirst nodes i before widths → i ≡ length nodes → AreWidths nodes widths
first_all nodes i before widths first all = record { many = first.many ∙ all; each = first.each }

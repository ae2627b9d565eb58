-- Which layouts are asked, and which are written into.
use Rattle.std.proofs.Common.{◌≡◌, ℕ, Bool, true, false, ◌&&◌, ◌||◌, ◌==◌, List, [], ◌∷◌, refl, sym, ap, subst, ◌∙◌}
use Rattle.std.specs.List.{list_all, list_any, flat_map, AllByRecursion}
use Rattle.std.proofs.lemmas.Bool.{and_parts, and_from, or_left, or_right, eqb-true, eq-eqb}
use Rattle.std.proofs.lemmas.List.Folds.{list_all-append, list_all-map}
use Rattle.sg_types.specs.declared.typed.TypedExpr.{TypedExpr}
use Rattle.sg_types.specs.declared.typed.TypedRange.{TypedRange}
use Rattle.sg_types.specs.declared.typed.Form.{Form}
use Rattle.sg_types.specs.declared.typed.Form.TheVariants as form
use Rattle.sg_types.specs.declared.typed.Form.TheOpen.{TypedExpr-F}
use Rattle.sg_admit.specs.declared.ways.FieldWay.{FieldWay}
use Rattle.sg_admit.specs.Rules.{is_of_field, writes_layout, asks_step, has_good_asks, range_exprs}
use Rattle.sg_admit.specs.steps.Reading.{is_askable_range}
use Rattle.sg_types.proofs.Uses as folds

-- ---- layouts that are written into

all_mapped : {X : Type 0} (P Q : X → Type 0) → ((x : X) → P x → Q x) → (xs : List X) → AllByRecursion P xs → AllByRecursion Q xs
all_mapped P Q h [] all = tt
all_mapped P Q h (x ∷ xs) all = (h x all.0, all_mapped P Q h xs all.1)

-- a write is one of its own field
of_itself : (it : FieldWay) → is_of_field it.layout it.place it ≡ true
of_itself it = and_from (it.layout == it.layout) (it.place == it.place) (eq-eqb it.layout it.layout refl) (eq-eqb it.place it.place refl)

abbrev IsNotedIn : List FieldWay → FieldWay → Type 0
IsNotedIn ways it = list_any (is_of_field it.layout it.place) ways ≡ true

all_noted : (ways : List FieldWay) → AllByRecursion (IsNotedIn ways) ways
all_noted [] = tt
all_noted (it ∷ ways) = (
  or_left (is_of_field it.layout it.place it) (list_any (is_of_field it.layout it.place) ways) (of_itself it),
  all_mapped (IsNotedIn ways) (IsNotedIn (it ∷ ways)) (λ other h. or_right (is_of_field other.layout other.place it) (list_any (is_of_field other.layout other.place) ways) h) ways (all_noted ways),
)

has_layout : (ways : List FieldWay) (layout place : ℕ) → list_any (is_of_field layout place) ways ≡ true → writes_layout ways layout ≡ true
has_layout [] layout place h = absurd (cc)
has_layout (it ∷ ways) layout place h = by_test (is_of_field layout place it) refl h (has_layout ways layout place)
  where
    by_test : (here : Bool) → is_of_field layout place it ≡ here → (here || list_any (is_of_field layout place) ways) ≡ true
        → (list_any (is_of_field layout place) ways ≡ true → writes_layout ways layout ≡ true) → writes_layout (it ∷ ways) layout ≡ true
    by_test true is h rest = or_left (it.layout == layout) (writes_layout ways layout) (and_parts (it.layout == layout) (it.place == place) is).0
    by_test false is h rest = or_right (it.layout == layout) (writes_layout ways layout) (rest h)

carried : (xs ys ways : List FieldWay) → AllByRecursion (IsNotedIn xs) ways → ((layout place : ℕ) → list_any (is_of_field layout place) xs ≡ list_any (is_of_field layout place) ys)
    → (layout : ℕ) → writes_layout ways layout ≡ true → writes_layout ys layout ≡ true
carried xs ys [] all same layout h = absurd (cc)
carried xs ys (it ∷ ways) all same layout h = by_test (it.layout == layout) refl h (carried xs ys ways all.1 same layout)
  where
    by_test : (here : Bool) → (it.layout == layout) ≡ here → (here || writes_layout ways layout) ≡ true → (writes_layout ways layout ≡ true → writes_layout ys layout ≡ true) → writes_layout ys layout ≡ true
    by_test true is h rest = subst (λ (n : ℕ). writes_layout ys n ≡ true) (eqb-true it.layout layout is) (has_layout ys it.layout it.place (sym (same it.layout it.place) ∙ all.0))
    by_test false is h rest = rest h

same_bool : (a b : Bool) → (a ≡ true → b ≡ true) → (b ≡ true → a ≡ true) → a ≡ b
same_bool true b h k = sym (h refl)
same_bool false true h k = k refl
same_bool false false h k = refl

-- lists that tell of the same fields tell of the same layouts
pub layouts_alike : (xs ys : List FieldWay) → ((layout place : ℕ) → list_any (is_of_field layout place) xs ≡ list_any (is_of_field layout place) ys)
    → (layout : ℕ) → writes_layout xs layout ≡ writes_layout ys layout
layouts_alike xs ys same layout = same_bool (writes_layout xs layout) (writes_layout ys layout)
    (carried xs ys xs (all_noted xs) same layout) (carried ys xs ys (all_noted ys) (λ l p. sym (same l p)) layout)

-- ---- what expressions ask

abbrev its_asks : TypedExpr-F Bool Bool → Bool
its_asks expr = expr.form

and_true : (a : Bool) → (a && true) ≡ a
and_true true = refl
and_true false = refl

module _ (good : ℕ → Bool) where
  asked_at : (expr : TypedExpr) (it : Form) → expr.form ≡ it → has_good_asks good expr ≡ has_good_asks good (record { ty = expr.ty; form = it })
  asked_at expr it is = ap (λ (x : Form). has_good_asks good (record { ty = expr.ty; form = x })) is

  -- a read is good by its indices
  pub read_asks : (expr : TypedExpr) (layout place : ℕ) (index : List TypedExpr) → expr.form ≡ form.Read layout place index
      → has_good_asks good expr ≡ list_all (has_good_asks good) index
  read_asks expr layout place index is =
      asked_at expr (form.Read layout place index) is
      ∙ (folds.fold-Read (asks_step good) its_asks expr.ty layout place index
      ∙ list_all-map (λ (part : Bool). part) (has_good_asks good) index)

  -- a question is good by its layout and its indices
  pub asked_good : (expr : TypedExpr) (layout : ℕ) (index : List TypedExpr) → expr.form ≡ form.Active layout index
      → has_good_asks good expr ≡ (good layout && list_all (has_good_asks good) index)
  asked_good expr layout index is =
      asked_at expr (form.Active layout index) is
      ∙ (folds.fold-Active (asks_step good) its_asks expr.ty layout index
      ∙ ap (λ (b : Bool). good layout && b) (list_all-map (λ (part : Bool). part) (has_good_asks good) index))

  pub ranges_ask : (ranges : List TypedRange) → list_all (has_good_asks good) (flat_map range_exprs ranges) ≡ list_all (is_askable_range good) ranges
  ranges_ask [] = refl
  ranges_ask (range ∷ ranges) =
      list_all-append (has_good_asks good) (range_exprs range) (flat_map range_exprs ranges)
      ∙ (ap (λ (b : Bool). (has_good_asks good range.lo && b) && list_all (has_good_asks good) (flat_map range_exprs ranges)) (and_true (has_good_asks good range.hi))
      ∙ ap (λ (b : Bool). is_askable_range good range && b) (ranges_ask ranges))

-- the same, as the code meets it
pub asked_good_is : (good : ℕ → Bool) (expr : TypedExpr) (layout : ℕ) (index given : List TypedExpr) → expr.form ≡ form.Active layout index → given ≡ index
    → (hit rest : Bool) → hit ≡ good layout → rest ≡ list_all (has_good_asks good) given → has_good_asks good expr ≡ (hit && rest)
asked_good_is good expr layout index given is e hit rest h r =
    asked_good good expr layout index is
    ∙ (ap (λ (b : Bool). b && list_all (has_good_asks good) index) (sym h)
    ∙ ap (λ (b : Bool). hit && b) (sym (r ∙ ap (list_all (has_good_asks good)) e)))

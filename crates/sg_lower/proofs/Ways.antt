-- Lowered code keeps to the ways in which the kernel writes its fields.
use Rattle.std.proofs.Common.{◌≡◌, ℕ, ◌+◌, Bool, true, false, ◌||◌, if◌then◌else◌, inl, inr, List, [], ◌∷◌, ◌++◌, map, length, Option, Some, None, refl, sym, ap, subst, ◌∙◌, arith}
use Rattle.std.specs.Prelude.{find, option_map, Contains}
use Rattle.std.specs.List.{list_all, list_any, AllByRecursion}
use Rattle.std.proofs.lemmas.Bool.{and_parts, and_from, both_ways, eqb-true}
use Rattle.std.proofs.lemmas.Option.{same_Some}
use Rattle.sg_words.proofs.Uses.{contains_none, contains_cases}
use Rattle.sg_layout.specs.declared.shape.Shape.{Shape}
use Rattle.sg_flat.specs.declared.effects.Way.{Way}
use Rattle.sg_flat.specs.declared.effects.Way.TheVariants.{Own, Acc}
use Rattle.sg_flat.specs.declared.effects.Domain.{Domain}
use Rattle.sg_types.specs.declared.typed.TypedExpr.{TypedExpr}
use Rattle.sg_types.specs.Expressions.{equals_some}
use Rattle.sg_types.specs.WellTyped.{axes_in}
use Rattle.sg_types.specs.Values.{is_own}
use Rattle.sg_types.proofs.Uses.{same_way_is}
use Rattle.sg_admit.specs.declared.ways.FieldWay.{FieldWay}
use Rattle.sg_admit.specs.Lines as lines
use Rattle.sg_admit.specs.Lines.{Deed, Line}
use Rattle.sg_admit.specs.Rules.{Facts, is_of_field, first_way, name_of, is_name_of, are_names, has_good_reads, is_first, is_unaccumulated, are_good_reads}
use Rattle.sg_ir.specs.Apt.{Use, Writes, Reads, ReadsOwn, loop_vars, KeepsItsWays}
use Rattle.sg_lower.specs.declared.lowering.Field.{Field}
use Rattle.sg_lower.specs.steps.Basis.{Basis, is_owned}
use Rattle.sg_lower.specs.steps.Using.{expr_uses, all_uses, way_uses, deed_uses, line_uses}
use Rattle.sg_lower.proofs.UsedReads.{all_append, GoodRead, reads_well, all_read_well}
use Rattle.sg_lower.proofs.LineWords.{all_mapped}

-- the first way of a field that is written, where a way keeps to it
pub first_is : (ways : List FieldWay) (layout place : ℕ) (way : Way) → list_any (is_of_field layout place) ways ≡ true → is_first (first_way ways layout place) way ≡ true → first_way ways layout place ≡ Some way
first_is [] layout place way there h = absurd (both_ways false refl there)
first_is (it ∷ ways) layout place way there h = by_test (is_of_field layout place it) there h (first_is ways layout place way)
  where
    of_test : Bool → Option Way
    of_test b = option_map (λ (w : FieldWay). w.way) (if b then Some it else find (is_of_field layout place) ways)

    by_test : (b : Bool) → (b || list_any (is_of_field layout place) ways) ≡ true → is_first (of_test b) way ≡ true
        → (list_any (is_of_field layout place) ways ≡ true → is_first (first_way ways layout place) way ≡ true → first_way ways layout place ≡ Some way) → of_test b ≡ Some way
    by_test true there h rest = ap Some (same_way_is it.way way h)
    by_test false there h rest = rest there h

-- names from one on up to below another are as many
names_count : (vars var : ℕ) (index : List TypedExpr) → are_names vars var (map name_of index) ≡ true → var + length index ≡ vars
names_count vars var [] h = let e = eqb-true var vars h in omega (arith, e)
names_count vars var (expr ∷ index) h =
    let p = and_parts (is_name_of var (name_of expr)) (are_names vars (var + 1) (map name_of index)) h in
    let e = names_count vars (var + 1) index p.1 in
    omega (arith, e)

module _ (shapes : List Shape) (facts : Facts) where
  -- what a line keeps to, as one of the kernel's
  abbrev pub IsWritten : Deed → Type 0
  IsWritten (lines.Writes layout place index way value) =
      (facts.first layout place ≡ Some way) × (equals_some (axes_in shapes layout) (length index) ≡ true)
      × (is_own way ≡ true → (facts.own layout place ≡ true) × (are_names facts.vars 0 (map name_of index) ≡ true)) × (is_own way ≡ false → facts.acc layout place ≡ true)
  IsWritten (lines.Sets var value) = Unit {0}
  IsWritten (lines.Tests condition) = Unit {0}
  IsWritten (lines.Turns var range) = Unit {0}
  IsWritten (lines.Opens ranges) = Unit {0}

  abbrev Side : ℕ → ℕ → Way → Type 0
  Side layout field Own = (facts.own layout field ≡ true) × (equals_some (axes_in shapes layout) facts.vars ≡ true)
  Side layout field (Acc op) = facts.acc layout field ≡ true

  -- what a use keeps to
  abbrev pub GoodUse : Use → Type 0
  GoodUse (Writes layout field way) = (facts.first layout field ≡ Some way) × Side layout field way
  GoodUse (Reads layout field) = (facts.own layout field ≡ false) × (facts.acc layout field ≡ false)
  GoodUse (ReadsOwn layout field) = facts.acc layout field ≡ false

module _ (shapes : List Shape) (facts : Facts) (owned : List Field) (owned_is : (layout place : ℕ) → is_owned owned layout place ≡ facts.own layout place) where
  abbrev basis : Basis
  basis = record { shapes = shapes; owned = owned; vars = facts.vars; slicing = false }

  read_good : (it : Use) → GoodRead owned facts.acc facts.vars it → GoodUse shapes facts it
  read_good (Writes layout field way) h = absurd h
  read_good (Reads layout field) h = (sym (owned_is layout field) ∙ h.0, h.1)
  read_good (ReadsOwn layout field) h = h

  reads_good : (uses : List Use) → AllByRecursion (GoodRead owned facts.acc facts.vars) uses → AllByRecursion (GoodUse shapes facts) uses
  reads_good uses = all_mapped (GoodRead owned facts.acc facts.vars) (GoodUse shapes facts) read_good uses

  split_reads : (index : List TypedExpr) (value : TypedExpr) → list_all (has_good_reads facts.vars (is_unaccumulated facts)) (index ++ value ∷ []) ≡ true
      → (list_all (has_good_reads facts.vars (is_unaccumulated facts)) index ≡ true) × (has_good_reads facts.vars (is_unaccumulated facts) value ≡ true)
  split_reads [] value h = (refl, (and_parts (has_good_reads facts.vars (is_unaccumulated facts) value) true h).0)
  split_reads (expr ∷ index) value h =
      let p = and_parts (has_good_reads facts.vars (is_unaccumulated facts) expr) (list_all (has_good_reads facts.vars (is_unaccumulated facts)) (index ++ value ∷ [])) h in
      let q = split_reads index value p.1 in
      (and_from (has_good_reads facts.vars (is_unaccumulated facts) expr) (list_all (has_good_reads facts.vars (is_unaccumulated facts)) index) p.0 q.0, q.1)

  pub deed_good : (deed : Deed) → are_good_reads facts (is_unaccumulated facts) deed ≡ true → IsWritten shapes facts deed → AllByRecursion (GoodUse shapes facts) (deed_uses basis deed)
  deed_good (lines.Sets var value) reads is = reads_good (expr_uses owned value) (reads_well owned facts.acc facts.vars value (and_parts (has_good_reads facts.vars (is_unaccumulated facts) value) true reads).0)
  deed_good (lines.Writes layout place index way value) reads is =
      let both = split_reads index value reads in
      by_way way is (reads_good (all_uses owned index) (all_read_well owned facts.acc facts.vars index both.0)) (reads_good (expr_uses owned value) (reads_well owned facts.acc facts.vars value both.1))
    where
      by_way : (it : Way) → IsWritten shapes facts (lines.Writes layout place index it value) → AllByRecursion (GoodUse shapes facts) (all_uses owned index) → AllByRecursion (GoodUse shapes facts) (expr_uses owned value)
          → AllByRecursion (GoodUse shapes facts) (way_uses it layout place (expr_uses owned value) (all_uses owned index))
      by_way Own is on_index on_value =
          let own = is.2 refl in
          let named = names_count facts.vars 0 index own.1 in
          let count : length index ≡ facts.vars = omega (arith, named) in
          all_append (GoodUse shapes facts) (expr_uses owned value) (Writes layout place Own ∷ []) on_value ((is.0, (own.0, ap (equals_some (axes_in shapes layout)) (sym count) ∙ is.1)), tt)
      by_way (Acc op) is on_index on_value =
          all_append (GoodUse shapes facts) (expr_uses owned value) (all_uses owned index ++ Writes layout place (Acc op) ∷ []) on_value
          (all_append (GoodUse shapes facts) (all_uses owned index) (Writes layout place (Acc op) ∷ []) on_index ((is.0, is.3 refl), tt))
  deed_good (lines.Tests condition) reads is = reads_good (expr_uses owned condition) (reads_well owned facts.acc facts.vars condition (and_parts (has_good_reads facts.vars (is_unaccumulated facts) condition) true reads).0)
  deed_good (lines.Turns var range) reads is = tt
  deed_good (lines.Opens ranges) reads is = tt

  pub lines_good : (some : List Line) → AllByRecursion (λ line. are_good_reads facts (is_unaccumulated facts) line.deed ≡ true) some → AllByRecursion (λ line. IsWritten shapes facts line.deed) some → AllByRecursion (GoodUse shapes facts) (line_uses basis some)
  lines_good [] reads is = tt
  lines_good (line ∷ some) reads is = all_append (GoodUse shapes facts) (deed_uses basis line.deed) (line_uses basis some) (deed_good line.deed reads.0 is.0) (lines_good some reads.1 is.1)

  pub use_of : (uses : List Use) → AllByRecursion (GoodUse shapes facts) uses → (it : Use) → Contains uses it → GoodUse shapes facts it
  use_of [] all it has = absurd (contains_none it has)
  use_of (first ∷ uses) all it has = elim (contains_cases it first uses has) [
    | inl same ↦ subst (GoodUse shapes facts) same all.0
    | inr later ↦ use_of uses all.1 it later
  ]

  axes_same : (found : Option ℕ) (vars : ℕ) → equals_some found vars ≡ true → found ≡ Some vars
  axes_same None vars h = absurd (both_ways false refl h)
  axes_same (Some n) vars h = ap Some (eqb-true n vars h)

  pub keeps_ways : (domain : Domain) (uses : List Use) → loop_vars shapes domain ≡ Some facts.vars → AllByRecursion (GoodUse shapes facts) uses → KeepsItsWays shapes domain uses
  keeps_ways domain uses vars all = record {
    one_way = λ layout field way other has also. same_Some way other (sym (use_of uses all (Writes layout field way) has).0 ∙ (use_of uses all (Writes layout field other) also).0);
    unread = λ layout field way has reads. not_both layout field way (use_of uses all (Writes layout field way) has).1 (use_of uses all (Reads layout field) reads);
    no_own_read = λ layout field op has reads. both_ways (facts.acc layout field) (use_of uses all (ReadsOwn layout field) reads) (use_of uses all (Writes layout field (Acc op)) has).1;
    own_axes = λ layout field has. axes_same (axes_in shapes layout) facts.vars (use_of uses all (Writes layout field Own) has).1.1 ∙ sym vars;
  }
    where
      not_both : (layout field : ℕ) (way : Way) → Side shapes facts layout field way → (facts.own layout field ≡ false) × (facts.acc layout field ≡ false) → ⊥
      not_both layout field Own side none = both_ways (facts.own layout field) none.0 side.0
      not_both layout field (Acc op) side none = both_ways (facts.acc layout field) none.1 side

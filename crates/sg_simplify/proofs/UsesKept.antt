-- Each use of a field that is put out is one of the given code.
use Rattle.std.specs.Prelude.{◌≡◌, refl, ◌==◌, Bool, true, false, ◌&&◌, ◌||◌, List, [], ◌∷◌, Contains}
use Rattle.std.specs.List.{list_any}
use Rattle.std.proofs.Common.{sym, ap, subst, ◌∙◌, ◌⊎◌, inl, inr}
use Rattle.std.proofs.lemmas.Bool.{eqb-true, and_parts}
use Rattle.sg_words.specs.declared.operators.AccOp.{AccOp}
use Rattle.sg_words.specs.declared.operators.AccOp.TheVariants as acc
use Rattle.sg_words.proofs.Uses.{contains_none, contains_head, contains_rest, contains_cases}
use Rattle.sg_flat.specs.declared.effects.Way.{Way}
use Rattle.sg_flat.specs.declared.effects.Way.TheVariants.{Own, Acc}
use Rattle.sg_ir.specs.Apt.{Use, Writes, Reads, ReadsOwn}
use Rattle.sg_simplify.proofs.TypingSteps.{both, eq_same}

-- ---- whether two uses are the same
abbrev same_acc : AccOp → AccOp → Bool
same_acc acc.Add acc.Add = true
same_acc acc.Min acc.Min = true
same_acc acc.Max acc.Max = true
same_acc acc.Or acc.Or = true
same_acc acc.And acc.And = true
same_acc acc.Xor acc.Xor = true
same_acc _ _ = false

abbrev same_way : Way → Way → Bool
same_way Own Own = true
same_way Own (Acc op) = false
same_way (Acc op) Own = false
same_way (Acc op) (Acc other) = same_acc op other

abbrev same_use : Use → Use → Bool
same_use (Writes layout field way) (Writes l f w) = (layout == l) && ((field == f) && same_way way w)
same_use (Reads layout field) (Reads l f) = (layout == l) && (field == f)
same_use (ReadsOwn layout field) (ReadsOwn l f) = (layout == l) && (field == f)
same_use _ _ = false

acc_reflexive : (op : AccOp) → same_acc op op ≡ true
acc_reflexive acc.Add = refl
acc_reflexive acc.Min = refl
acc_reflexive acc.Max = refl
acc_reflexive acc.Or = refl
acc_reflexive acc.And = refl
acc_reflexive acc.Xor = refl

way_reflexive : (way : Way) → same_way way way ≡ true
way_reflexive Own = refl
way_reflexive (Acc op) = acc_reflexive op

use_reflexive : (it : Use) → same_use it it ≡ true
use_reflexive (Writes layout field way) = both _ _ (eq_same layout) (both _ _ (eq_same field) (way_reflexive way))
use_reflexive (Reads layout field) = both _ _ (eq_same layout) (eq_same field)
use_reflexive (ReadsOwn layout field) = both _ _ (eq_same layout) (eq_same field)

acc_exact : (op other : AccOp) → same_acc op other ≡ true → op ≡ other
acc_exact acc.Add acc.Add e = refl
acc_exact acc.Min acc.Min e = refl
acc_exact acc.Max acc.Max e = refl
acc_exact acc.Or acc.Or e = refl
acc_exact acc.And acc.And e = refl
acc_exact acc.Xor acc.Xor e = refl
acc_exact _ _ e = absurd (cc)

way_exact : (way other : Way) → same_way way other ≡ true → way ≡ other
way_exact Own Own e = refl
way_exact Own (Acc op) e = absurd (cc)
way_exact (Acc op) Own e = absurd (cc)
way_exact (Acc op) (Acc other) e = ap (λ (o : AccOp). Acc o) (acc_exact op other e)

use_exact : (it other : Use) → same_use it other ≡ true → it ≡ other
use_exact (Writes layout field way) (Writes l f w) e =
    let parts = and_parts (layout == l) ((field == f) && same_way way w) e in
    let more = and_parts (field == f) (same_way way w) parts.1 in
    ap (λ n. Writes n field way) (eqb-true layout l parts.0) ∙ (ap (λ n. Writes l n way) (eqb-true field f more.0) ∙ ap (λ (x : Way). Writes l f x) (way_exact way w more.1))
use_exact (Writes layout field way) (Reads l f) e = absurd (cc)
use_exact (Writes layout field way) (ReadsOwn l f) e = absurd (cc)
use_exact (Reads layout field) (Writes l f w) e = absurd (cc)
use_exact (Reads layout field) (Reads l f) e =
    let parts = and_parts (layout == l) (field == f) e in
    ap (λ n. Reads n field) (eqb-true layout l parts.0) ∙ ap (λ n. Reads l n) (eqb-true field f parts.1)
use_exact (Reads layout field) (ReadsOwn l f) e = absurd (cc)
use_exact (ReadsOwn layout field) (Writes l f w) e = absurd (cc)
use_exact (ReadsOwn layout field) (Reads l f) e = absurd (cc)
use_exact (ReadsOwn layout field) (ReadsOwn l f) e =
    let parts = and_parts (layout == l) (field == f) e in
    ap (λ n. ReadsOwn n field) (eqb-true layout l parts.0) ∙ ap (λ n. ReadsOwn l n) (eqb-true field f parts.1)

-- ---- members by a test
has_any : (it : Use) (uses : List Use) → list_any (same_use it) uses ≡ true → Contains uses it
has_any it [] e = absurd (cc)
has_any it (first ∷ uses) e = by_test (same_use it first) refl e (has_any it uses)
  where
    by_test : (test : Bool) → same_use it first ≡ test → (test || list_any (same_use it) uses) ≡ true → (list_any (same_use it) uses ≡ true → Contains uses it) → Contains (first ∷ uses) it
    by_test true is e more = contains_head it first uses (sym (use_exact it first is))
    by_test false is e more = contains_rest it first uses (more e)

any_of : (it : Use) (uses : List Use) → Contains uses it → list_any (same_use it) uses ≡ true
any_of it [] has = absurd (contains_none it has)
any_of it (first ∷ uses) has = by_case (contains_cases it first uses has) (any_of it uses)
  where
    or_right : (a b : Bool) → b ≡ true → (a || b) ≡ true
    or_right true b e = refl
    or_right false b e = e

    by_case : (first ≡ it) ⊎ Contains uses it → (Contains uses it → list_any (same_use it) uses ≡ true) → (same_use it first || list_any (same_use it) uses) ≡ true
    by_case (inl is) more = ap (λ (b : Bool). b || list_any (same_use it) uses) (subst (λ (u : Use). same_use it u ≡ true) (sym is) (use_reflexive it))
    by_case (inr there) more = or_right (same_use it first) (list_any (same_use it) uses) (more there)

-- if no test of uses passes more often, each use is one of the given ones
pub only_given : (given made : List Use) → ((test : Use → Bool) → list_any test given ≡ false → list_any test made ≡ false) → (it : Use) → Contains made it → Contains given it
only_given given made fewer it has = by_test (list_any (same_use it) given) refl
  where
    clash : true ≡ false → ⊥
    clash e = absurd (cc)

    by_test : (test : Bool) → list_any (same_use it) given ≡ test → Contains given it
    by_test true e = has_any it given e
    by_test false e = absurd (clash (sym (any_of it made has) ∙ fewer (same_use it) e))
